-- The tokens of each form of expression.
use Rattle.std.proofs.Common.{◌≡◌, ℕ, List, [], ◌∷◌, ◌++◌, map, append_assoc, ap, ◌∙◌}
use Rattle.std.specs.Prelude.{codes}
use Rattle.bj_token.specs.declared.token.TokenKind.TheVariants as kinds
use Rattle.bj_lex.specs.Grammar.{Spelled}
use Rattle.bj_base.specs.declared.span.Span.{Span}
use Rattle.bj_expr_tree.specs.declared.types.TypeTree.{TypeTree}
use Rattle.bj_expr_tree.specs.declared.expr.ExprTree.{ExprTree}
use Rattle.bj_expr_tree.specs.declared.expr.ExprTree.TheVariants as e
use Rattle.bj_writer.specs.Pieces.{Piece, Space, tokens_of}
use Rattle.bj_layout.specs.Exprs.{keyword, each_behind, in_brackets, in_braces, pairs, type_pieces, expr_pieces}
use Rattle.bj_print.proofs.ExprLaws.{list_pieces}
use Rattle.bj_print.proofs.Holds.{tokens_append}
use Rattle.bj_layout.proofs.ExprPieces as forms
use Rattle.bj_layout.proofs.Writing.{map_both}

abbrev pub worded : List ℕ → Spelled
worded units = (kinds.Word, units)

abbrev pub keyed : List ℕ → Spelled
keyed units = (kinds.Keyword, units)

abbrev pub signed : List ℕ → Spelled
signed units = (kinds.Sign, units)

abbrev pub tokens : ExprTree → List Spelled
tokens a = tokens_of (expr_pieces a)

-- with commas between them
abbrev pub list_tokens : List ExprTree → List Spelled
list_tokens xs = tokens_of (list_pieces xs)

abbrev pub brace_tokens : List ExprTree → List Spelled
brace_tokens xs = tokens_of (in_braces (list_pieces xs))

-- in brackets
abbrev pub size_pieces : ExprTree → List Piece
size_pieces x = in_brackets (expr_pieces x)

abbrev pub size_tokens : List ExprTree → List Spelled
size_tokens xs = tokens_of (each_behind [] (map size_pieces xs))

abbrev pub pair_tokens : ℕ → List Spelled
pair_tokens n = tokens_of (pairs n)

abbrev pub type_tokens : TypeTree → List Spelled
type_tokens ty = tokens_of (type_pieces ty)

-- ---- forms with types in them

pub new_array_tokens : (at : Span) (holds : TypeTree) (sizes : List ExprTree) (dims : ℕ) → tokens (e.NewArray at holds sizes dims) ≡ keyed (codes "new") ∷ (type_tokens holds ++ (size_tokens sizes ++ pair_tokens dims))
new_array_tokens at holds sizes dims = ap tokens_of (forms.new_array_pieces at holds sizes dims
    ∙ ap (λ (ps : List (List Piece)). keyword (codes "new") ∷ Space ∷ (type_pieces holds ++ (each_behind [] ps ++ pairs dims))) (map_both in_brackets expr_pieces sizes)) ∙ simp tokens_append

pub new_values_tokens : (at : Span) (holds : TypeTree) (values : List ExprTree) → tokens (e.NewValues at holds values) ≡ keyed (codes "new") ∷ (type_tokens holds ++ brace_tokens values)
new_values_tokens at holds values = ap tokens_of (forms.new_values_pieces at holds values) ∙ simp tokens_append

pub cast_tokens : (at : Span) (to : TypeTree) (operand : ExprTree) → tokens (e.Cast at to operand) ≡ signed (codes "(") ∷ (type_tokens to ++ (signed (codes ")") ∷ tokens operand))
cast_tokens at to operand = ap tokens_of (forms.cast_pieces at to operand) ∙ simp (tokens_append, append_assoc)
