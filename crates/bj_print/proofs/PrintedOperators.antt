-- Which terminals printed operators, literals and types are: those that they were read from.
use Rattle.std.proofs.Common.{◌≡◌, ℕ, zero, suc, Bool, true, false, refl, ap, ◌∙◌, List, [], ◌∷◌}
use Rattle.std.specs.Prelude.{◌||◌, codes, not}
use Rattle.std.specs.Str.{bytes_eq}
use Rattle.std.proofs.lemmas.Bool.{both_ways}
use Rattle.bj_token.specs.declared.token.TokenKind.{TokenKind}
use Rattle.bj_token.specs.declared.token.TokenKind.TheVariants as kinds
use Rattle.bj_token.specs.declared.token.Token.{Token}
use Rattle.bj_lex.specs.Grammar.{Spelled}
use Rattle.bj_expr_tree.specs.declared.types.TypeName.{TypeName}
use Rattle.bj_expr_tree.specs.declared.types.TypeName.TheVariants as names
use Rattle.bj_grammar.specs.declared.terminal.Terminal.{Terminal}
use Rattle.bj_grammar.specs.declared.terminal.Terminal.TheVariants as t
use Rattle.bj_grammar.specs.Terminal.{terminal, terminal_by, same_terminal, among, keywords, signs, digits}
use Rattle.bj_expr.specs.Grammar as g
use Rattle.bj_expr.specs.Grammar.{ops, binary_op, assigns, assign_op, negations, negation_op, step_ops, step_op, literal_words, leasts, literal_kind, type_words}
use Rattle.bj_writer.specs.Pieces.{Piece, tokens_of}
use Rattle.bj_layout.specs.Exprs as p
use Rattle.bj_layout.specs.Exprs.{literal_token, unary_sign, step_sign, binary_sign, assign_sign}
use Rattle.bj_print.proofs.Holds.{spelling_of, terminal_is, text_is}
use Rattle.bj_print.proofs.ExprTokens.{worded, keyed}
use Rattle.bj_expr.proofs.Facts.{each, or_left, or_right}
use Rattle.bj_print.proofs.Terminals.{either, passes_spelled}

-- ---- operators

-- what an operator is printed as is the operator
abbrev IsPrinted : (Terminal → List ℕ) → Terminal → Type 0
IsPrinted sign v = terminal_by kinds.Sign (sign v) ≡ v

abbrev pub binary_text : Terminal → List ℕ
binary_text v = binary_sign (binary_op v)

abbrev pub assign_text : Terminal → List ℕ
assign_text v = assign_sign (assign_op v)

abbrev pub step_text : Terminal → List ℕ
step_text v = step_sign (step_op v)

abbrev pub negation_text : Terminal → List ℕ
negation_text v = unary_sign (negation_op v)

pub binary_printed : (h : ℕ) (v : Terminal) → among (ops h) v ≡ true → terminal_by kinds.Sign (binary_text v) ≡ v
binary_printed zero = each (IsPrinted binary_text) (ops 0) (refl, (refl, (refl, tt)))
binary_printed (suc zero) = each (IsPrinted binary_text) (ops 1) (refl, (refl, tt))
binary_printed (suc (suc zero)) = each (IsPrinted binary_text) (ops 2) (refl, (refl, (refl, tt)))
binary_printed (suc (suc (suc zero))) = each (IsPrinted binary_text) (ops 3) (refl, (refl, (refl, (refl, tt))))
binary_printed (suc (suc (suc (suc zero)))) = each (IsPrinted binary_text) (ops 4) (refl, (refl, tt))
binary_printed (suc (suc (suc (suc (suc zero))))) = each (IsPrinted binary_text) (ops 5) (refl, tt)
binary_printed (suc (suc (suc (suc (suc (suc zero)))))) = each (IsPrinted binary_text) (ops 6) (refl, tt)
binary_printed (suc (suc (suc (suc (suc (suc (suc zero))))))) = each (IsPrinted binary_text) (ops 7) (refl, tt)
binary_printed (suc (suc (suc (suc (suc (suc (suc (suc zero)))))))) = each (IsPrinted binary_text) (ops 8) (refl, tt)
binary_printed (suc (suc (suc (suc (suc (suc (suc (suc (suc zero))))))))) = each (IsPrinted binary_text) (ops 9) (refl, tt)
binary_printed (suc (suc (suc (suc (suc (suc (suc (suc (suc (suc h)))))))))) = each (IsPrinted binary_text) [] tt

pub assign_printed : (v : Terminal) → among assigns v ≡ true → terminal_by kinds.Sign (assign_text v) ≡ v
assign_printed = each (IsPrinted assign_text) assigns (refl, (refl, (refl, (refl, (refl, (refl, (refl, (refl, (refl, (refl, (refl, (refl, tt))))))))))))

pub step_printed : (v : Terminal) → among step_ops v ≡ true → terminal_by kinds.Sign (step_text v) ≡ v
step_printed = each (IsPrinted step_text) step_ops (refl, (refl, tt))

pub negation_printed : (v : Terminal) → among negations v ≡ true → terminal_by kinds.Sign (negation_text v) ≡ v
negation_printed = each (IsPrinted negation_text) negations (refl, (refl, tt))

pub among_again : (ks : List Terminal) (v w : Terminal) → w ≡ v → among ks v ≡ true → among ks w ≡ true
among_again ks v w same e = ap (among ks) same ∙ e

-- ---- types

abbrev pub type_mark : TypeName → Spelled
type_mark names.Int = keyed (codes "int")
type_mark names.Long = keyed (codes "long")
type_mark names.Boolean = keyed (codes "boolean")
type_mark names.Char = keyed (codes "char")
type_mark (names.Named text) = worded text

pub type_mark_first : (n : TypeName) (rest : List Piece) → tokens_of (p.type_name n ∷ rest) ≡ type_mark n ∷ tokens_of rest
type_mark_first names.Int rest = refl
type_mark_first names.Long rest = refl
type_mark_first names.Boolean rest = refl
type_mark_first names.Char rest = refl
type_mark_first (names.Named text) rest = refl

-- a token that is spelled as a type's name is it
abbrev IsTypeWord : Terminal → Type 0
IsTypeWord v = (text : List ℕ) (x : Token) → spelling_of x ≡ type_mark (g.type_name v text) → (terminal x ≡ v) × (g.type_name v x.text ≡ g.type_name v text)

pub type_printed : (v : Terminal) → among type_words v ≡ true → IsTypeWord v
type_printed = each IsTypeWord type_words (
  λ text x e. (terminal_is x kinds.Word text e, ap names.Named (text_is x kinds.Word text e)),
  (
    λ text x e. (terminal_is x kinds.Keyword (codes "int") e, refl),
    (
      λ text x e. (terminal_is x kinds.Keyword (codes "long") e, refl),
      (
        λ text x e. (terminal_is x kinds.Keyword (codes "boolean") e, refl),
        (λ text x e. (terminal_is x kinds.Keyword (codes "char") e, refl), tt),
      ),
    ),
  ),
)

-- ---- literals

abbrev pub is_literal : Terminal → Bool
is_literal v = among literal_words v || among leasts v

abbrev is_keyword : TokenKind → Bool
is_keyword kinds.Keyword = true
is_keyword _ = false

keyword_is : (k : TokenKind) → is_keyword k ≡ true → k ≡ kinds.Keyword
keyword_is kinds.Keyword e = refl
keyword_is k e = absurd (cc)

keyword_literal : (text : List ℕ) → literal_token (literal_kind (terminal_by kinds.Keyword text)) ≡ kinds.Keyword
keyword_literal text = keyword_is _ (passes_spelled (λ v. is_keyword (literal_token (literal_kind v))) false keywords text refl refl)

no_sign_literal : (text : List ℕ) → not (is_literal (terminal_by kinds.Sign text)) ≡ true
unfolding same_terminal
no_sign_literal text = passes_spelled (λ v. not (is_literal v)) true signs text refl refl

not_true : (b : Bool) → not b ≡ true → b ≡ true → ⊥
not_true true e f = absurd (cc)
not_true false e f = absurd (cc)

no_word_literal : is_literal t.Word ≡ false
unfolding same_terminal
no_word_literal = refl

-- a literal is printed as a token of its kind
pub literal_token_kind : (kind : TokenKind) (text : List ℕ) → is_literal (terminal_by kind text) ≡ true → literal_token (literal_kind (terminal_by kind text)) ≡ kind
literal_token_kind kinds.Word text e = absurd (both_ways (is_literal t.Word) no_word_literal e)
literal_token_kind kinds.Keyword text e = keyword_literal text
literal_token_kind kinds.Number text e = either (λ v. literal_token (literal_kind v) ≡ kinds.Number) (bytes_eq (digits text) (codes "2147483648")) t.LeastNumber t.Number refl refl
literal_token_kind kinds.LongNumber text e = either (λ v. literal_token (literal_kind v) ≡ kinds.LongNumber)
    (bytes_eq (digits text) (codes "9223372036854775808L") || bytes_eq (digits text) (codes "9223372036854775808l")) t.LeastLong t.LongNumber refl refl
literal_token_kind kinds.CharText text e = refl
literal_token_kind kinds.StringText text e = refl
literal_token_kind kinds.Sign text e = absurd (not_true _ (no_sign_literal text) e)

pub literal_again : (x y : Token) → is_literal (terminal x) ≡ true → spelling_of y ≡ (literal_token (literal_kind (terminal x)), x.text) → terminal y ≡ terminal x
unfolding terminal
literal_again x y is e = terminal_is y (literal_token (literal_kind (terminal x))) x.text e ∙ ap (λ (kind : TokenKind). terminal_by kind x.text) (literal_token_kind x.kind x.text is)

pub word_is_literal : (v : Terminal) → among literal_words v ≡ true → is_literal v ≡ true
word_is_literal v e = or_left (among literal_words v) (among leasts v) e

pub least_is_literal : (v : Terminal) → among leasts v ≡ true → is_literal v ≡ true
least_is_literal v e = or_right (among literal_words v) (among leasts v) e
