-- Printed tokens are those of the text that the tree was read from.
use Rattle.std.proofs.Common.{◌≡◌, ◌≢◌, ℕ, zero, suc, true, List, [], ◌∷◌, refl, sym, ◌∙◌, subst, ◌≤◌, le_refl, arith}
use Rattle.bj_base.specs.declared.span.Span.{Span}
use Rattle.bj_token.specs.declared.token.TokenKind.TheVariants as kinds
use Rattle.bj_lex.specs.Grammar.{Spelled}
use Rattle.bj_expr_tree.specs.declared.types.TypeName.{TypeName}
use Rattle.bj_grammar.specs.declared.terminal.Terminal.{Terminal}
use Rattle.bj_grammar.specs.declared.terminal.Terminal.TheVariants as t
use Rattle.bj_grammar.specs.Terminal.{terminal, among, keyword_spelling, sign_spelling}
use Rattle.bj_grammar.proofs.Terminals.{kind_for}
use Rattle.bj_grammar.specs.Reader.{Text}
use Rattle.bj_expr.specs.Grammar.{ops, binary_op, assigns, assign_op, step_ops, step_op, negations, negation_op, literal_words, leasts, literal_kind, type_words, type_name, Dims, no_pair, pair, TypeAt, named, one_more}
use Rattle.bj_expr.proofs.Facts.{Each, each}
use Rattle.bj_layout.specs.Exprs.{unary_sign, step_sign, binary_sign, assign_sign, literal_token}
use Rattle.bj_print.proofs.Holds.{spelling_of}
use Rattle.bj_print.proofs.Spellings.{sign_has, keyword_has, other_has}
use Rattle.bj_layout.specs.Exprs as print
use Rattle.bj_print.proofs.Drawn.{Drawn, both}
use Rattle.bj_writer.specs.Pieces.{Piece, Mark}
use Rattle.bj_expr_tree.specs.declared.types.TypeName.TheVariants as names
use Rattle.bj_expr_tree.specs.declared.types.TypeTree.{TypeTree}

one_more_is : (b : ℕ) → one_more b ≤ suc b
one_more_is b = omega arith

module _ (P : Spelled → Type 0) (s : Text) (given : (x : ℕ) → terminal (s x) ≢ t.Other → P (spelling_of (s x))) where
  pub sign_drawn : (x : ℕ) (k : Terminal) → terminal (s x) ≡ k → kind_for k ≡ kinds.Sign → k ≢ t.Other → P (kinds.Sign, sign_spelling k)
  sign_drawn x k is kind some = subst P (sign_has (s x) k is kind some) (given x (λ e. some (sym is ∙ e)))

  pub keyword_drawn : (x : ℕ) (k : Terminal) → terminal (s x) ≡ k → kind_for k ≡ kinds.Keyword → k ≢ t.Other → P (kinds.Keyword, keyword_spelling k)
  keyword_drawn x k is kind some = subst P (keyword_has (s x) k is kind some) (given x (λ e. some (sym is ∙ e)))

  pub word_drawn : (x : ℕ) → terminal (s x) ≡ t.Word → P (kinds.Word, (s x).text)
  word_drawn x is = subst P (other_has (s x) t.Word kinds.Word is refl (λ e. cc)) (given x (λ e. cc))

  pub comma_drawn : (x : ℕ) → terminal (s x) ≡ t.Comma → Drawn P print.comma
  comma_drawn x is = (sign_drawn x t.Comma is refl (λ e. cc), tt)

  -- ---- operators

  -- a terminal that is printed as the sign
  abbrev IsSign : (Terminal → List ℕ) → Terminal → Type 0
  IsSign printed k = (kind_for k ≡ kinds.Sign) × (k ≢ t.Other) × (printed k ≡ sign_spelling k)

  drawn_of : (printed : Terminal → List ℕ) (x : ℕ) → IsSign printed (terminal (s x)) → P (kinds.Sign, printed (terminal (s x)))
  drawn_of printed x is = subst (λ (w : List ℕ). P (kinds.Sign, w)) (sym is.2) (sign_drawn x (terminal (s x)) refl is.0 is.1)

  abbrev binary_printed : Terminal → List ℕ
  binary_printed k = binary_sign (binary_op k)

  rank_signs : (h : ℕ) → Each (IsSign binary_printed) (ops h)
  rank_signs zero = ((refl, λ e. cc, refl), ((refl, λ e. cc, refl), ((refl, λ e. cc, refl), tt)))
  rank_signs (suc zero) = ((refl, λ e. cc, refl), ((refl, λ e. cc, refl), tt))
  rank_signs (suc (suc zero)) = ((refl, λ e. cc, refl), ((refl, λ e. cc, refl), ((refl, λ e. cc, refl), tt)))
  rank_signs (suc (suc (suc zero))) = ((refl, λ e. cc, refl), ((refl, λ e. cc, refl), ((refl, λ e. cc, refl), ((refl, λ e. cc, refl), tt))))
  rank_signs (suc (suc (suc (suc zero)))) = ((refl, λ e. cc, refl), ((refl, λ e. cc, refl), tt))
  rank_signs (suc (suc (suc (suc (suc zero))))) = ((refl, λ e. cc, refl), tt)
  rank_signs (suc (suc (suc (suc (suc (suc zero)))))) = ((refl, λ e. cc, refl), tt)
  rank_signs (suc (suc (suc (suc (suc (suc (suc zero))))))) = ((refl, λ e. cc, refl), tt)
  rank_signs (suc (suc (suc (suc (suc (suc (suc (suc zero)))))))) = ((refl, λ e. cc, refl), tt)
  rank_signs (suc (suc (suc (suc (suc (suc (suc (suc (suc zero))))))))) = ((refl, λ e. cc, refl), tt)
  rank_signs (suc (suc (suc (suc (suc (suc (suc (suc (suc (suc h)))))))))) = tt

  pub binary_drawn : (h : ℕ) (x : ℕ) → among (ops h) (terminal (s x)) ≡ true → P (kinds.Sign, binary_sign (binary_op (terminal (s x))))
  binary_drawn h x is = drawn_of binary_printed x (each (IsSign binary_printed) (ops h) (rank_signs h) (terminal (s x)) is)

  abbrev assign_printed : Terminal → List ℕ
  assign_printed k = assign_sign (assign_op k)

  pub assign_drawn : (x : ℕ) → among assigns (terminal (s x)) ≡ true → P (kinds.Sign, assign_sign (assign_op (terminal (s x))))
  assign_drawn x is = drawn_of assign_printed x (each (IsSign assign_printed) assigns ((refl, λ e. cc, refl), ((refl, λ e. cc, refl), ((refl, λ e. cc, refl), ((refl, λ e. cc, refl), ((refl, λ e. cc, refl), ((refl, λ e. cc, refl), ((refl, λ e. cc, refl), ((refl, λ e. cc, refl), ((refl, λ e. cc, refl), ((refl, λ e. cc, refl), ((refl, λ e. cc, refl), ((refl, λ e. cc, refl), tt)))))))))))) (terminal (s x)) is)

  abbrev step_printed : Terminal → List ℕ
  step_printed k = step_sign (step_op k)

  pub step_drawn : (x : ℕ) → among step_ops (terminal (s x)) ≡ true → P (kinds.Sign, step_sign (step_op (terminal (s x))))
  step_drawn x is = drawn_of step_printed x (each (IsSign step_printed) step_ops ((refl, λ e. cc, refl), ((refl, λ e. cc, refl), tt)) (terminal (s x)) is)

  abbrev negation_printed : Terminal → List ℕ
  negation_printed k = unary_sign (negation_op k)

  pub negation_drawn : (x : ℕ) → among negations (terminal (s x)) ≡ true → P (kinds.Sign, unary_sign (negation_op (terminal (s x))))
  negation_drawn x is = drawn_of negation_printed x (each (IsSign negation_printed) negations ((refl, λ e. cc, refl), ((refl, λ e. cc, refl), tt)) (terminal (s x)) is)

  -- ---- literals

  -- a terminal whose tokens are printed as the kind that they have
  abbrev IsLiteral : Terminal → Type 0
  IsLiteral k = (kind_for k ≡ literal_token (literal_kind k)) × (k ≢ t.Other)

  literal_of : (x : ℕ) → IsLiteral (terminal (s x)) → P (literal_token (literal_kind (terminal (s x))), (s x).text)
  literal_of x is = subst P (other_has (s x) (terminal (s x)) (literal_token (literal_kind (terminal (s x)))) refl is.0 is.1) (given x is.1)

  pub literal_drawn : (x : ℕ) → among literal_words (terminal (s x)) ≡ true → P (literal_token (literal_kind (terminal (s x))), (s x).text)
  literal_drawn x is = literal_of x (each IsLiteral literal_words ((refl, λ e. cc), ((refl, λ e. cc), ((refl, λ e. cc), ((refl, λ e. cc), ((refl, λ e. cc), ((refl, λ e. cc), ((refl, λ e. cc), tt))))))) (terminal (s x)) is)

  pub least_drawn : (x : ℕ) → among leasts (terminal (s x)) ≡ true → P (literal_token (literal_kind (terminal (s x))), (s x).text)
  least_drawn x is = literal_of x (each IsLiteral leasts ((refl, λ e. cc), ((refl, λ e. cc), tt)) (terminal (s x)) is)

  -- ---- types

  -- a terminal whose tokens are printed as they are, where they name types
  abbrev Names : Terminal → Type 0
  Names k = (x : ℕ) → terminal (s x) ≡ k → Drawn P (print.type_name (type_name k (s x).text) ∷ [])

  primitive_names : (k : Terminal) (name : TypeName) → ((text : List ℕ) → type_name k text ≡ name) → kind_for k ≡ kinds.Keyword → k ≢ t.Other
      → print.type_name name ≡ Mark kinds.Keyword (keyword_spelling k) → Names k
  primitive_names k name is kind some printed x at =
      subst (λ (n : TypeName). Drawn P (print.type_name n ∷ [])) (sym (is (s x).text))
      (subst (λ (q : Piece). Drawn P (q ∷ [])) (sym printed) (keyword_drawn x k at kind some, tt))

  type_word_names : Each Names type_words
  type_word_names = (
    λ x at. (word_drawn x at, tt),
    (
      primitive_names t.Int names.Int (λ text. refl) refl (λ e. cc) refl,
      (
        primitive_names t.Long names.Long (λ text. refl) refl (λ e. cc) refl,
        (primitive_names t.Boolean names.Boolean (λ text. refl) refl (λ e. cc) refl, (primitive_names t.Char names.Char (λ text. refl) refl (λ e. cc) refl, tt)),
      ),
    ),
  )

  pub type_word_drawn : (x : ℕ) → among type_words (terminal (s x)) ≡ true → Drawn P (print.type_name (type_name (terminal (s x)) (s x).text) ∷ [])
  type_word_drawn x is = each Names type_words type_word_names (terminal (s x)) is x refl

  pub pairs_drawn : (n i j : ℕ) → Dims s n i j → (m : ℕ) → m ≤ n → Drawn P (print.pairs m)
  pairs_drawn n i j d zero le = tt
  pairs_drawn n i j (no_pair e f) (suc m) le = absurd (omega (arith, e))
  pairs_drawn n i j (pair {b = b} {m = m2} before left right is end) (suc m) le =
      (sign_drawn m2 t.LeftBracket left refl (λ e. cc), (sign_drawn (suc m2) t.RightBracket right refl (λ e. cc), pairs_drawn b _ _ before m (omega (arith, is, one_more_is b))))

  pub type_drawn : (place : ℕ → Span) (a : TypeTree) (i j : ℕ) → TypeAt place s a i j → Drawn P (print.type_pieces a)
  type_drawn place a i j (named {n = n} {i = i2} {j = j2} word dims is) =
      subst (λ (w : TypeTree). Drawn P (print.type_pieces w)) (sym is) (both P (print.type_name (type_name (terminal (s i2)) (s i2).text) ∷ []) (print.pairs n) (type_word_drawn i2 word) (pairs_drawn n _ _ dims n (le_refl n)))
