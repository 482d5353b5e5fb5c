-- Trees of expressions and types that are found again where their printed tokens stand.
use Rattle.std.proofs.Common.{◌≡◌, ℕ, List, sym, subst}
use Rattle.bj_base.specs.declared.span.Span.{Span}
use Rattle.bj_expr_tree.specs.declared.types.TypeTree.{TypeTree}
use Rattle.bj_expr_tree.specs.declared.expr.ExprTree.{ExprTree}
use Rattle.bj_grammar.specs.Reader.{Text}
use Rattle.bj_expr.specs.Grammar.{TypeAt}
use Rattle.bj_print.specs.Same.{SameExpr}
use Rattle.bj_print.proofs.Holds.{Back}
use Rattle.bj_print.proofs.ExprLaws.{SameExprs, SameType}
use Rattle.bj_print.proofs.ExprTokens.{tokens, list_tokens, type_tokens}
use Rattle.bj_print.proofs.Again.{Reads}

abbrev pub Found : Text → (ExprTree → ℕ → ℕ → Type 0) → ExprTree → Type 0
Found t D a = Reads t (tokens a) (Back D SameExpr a)

-- with commas between them
abbrev pub FoundAll : Text → (List ExprTree → ℕ → ℕ → Type 0) → List ExprTree → Type 0
FoundAll t L a = Reads t (list_tokens a) (Back L SameExprs a)

abbrev pub FoundType : (ℕ → Span) → Text → TypeTree → Type 0
FoundType other t a = Reads t (type_tokens a) (Back (TypeAt other t) SameType a)

pub of_tree : {t : Text} {D : ExprTree → ℕ → ℕ → Type 0} {a b : ExprTree} → a ≡ b → Found t D b → Found t D a
of_tree {t} {D} is f = subst (λ (x : ExprTree). Found t D x) (sym is) f

pub of_list : {t : Text} {L : List ExprTree → ℕ → ℕ → Type 0} {a b : List ExprTree} → a ≡ b → FoundAll t L b → FoundAll t L a
of_list {t} {L} is f = subst (λ (x : List ExprTree). FoundAll t L x) (sym is) f
