-- What the text of a sum is, and what its tree is made of.
use Rattle.std.specs.Prelude.{◌≡◌, ℕ, ◌≤◌, ◌⊎◌, ℤ, List}
use Rattle.bj_core.specs.declared.tree.Expr.{Expr}
use Rattle.bj_core.specs.declared.tree.Expr.TheVariants as e
use Rattle.bj_base.specs.declared.op.Op.{Op}
use Rattle.bj_base.specs.declared.op.Op.TheVariants as op
use Rattle.bj_core.specs.declared.types.Const.TheVariants as const
use Rattle.bj_base.specs.declared.span.Span.{Span}
use Rattle.bj_sum.specs.declared.token.Sort.TheVariants as sort
use Rattle.bj_sum.specs.declared.token.Token.{Token}
use Rattle.bj_sum.specs.Lexical.{Tokens}
use Rattle.bj_sum.specs.Grammar.{Additive}
use Rattle.bj_sum.specs.Reading.{text_of}

-- The whole text is the expression, with at most 200 nodes above a node.
pub record ReadsAs (text : List ℕ) (tree : Expr) : Type 0 where
  pub tokens : List Token
  pub lexed : Tokens 1 text tokens
  pub height : ℕ
  pub after : ℕ
  pub derived : Additive (text_of tokens) tree height 0 after
  pub ended : (text_of tokens after).sort ≡ sort.End
  pub low : height ≤ 200

-- An expression of `int` constants, negations, and sums, differences and products of two.
pub data IsSum : Expr → Type 0 where
  constant : {a : Expr} {at : Span} {v : ℤ} → a ≡ e.Const at (const.Int v) → IsSum a
  negation : {a x : Expr} {at : Span} → IsSum x → a ≡ e.IntNegate at x → IsSum a
  operation : {a l r : Expr} {at : Span} {o : Op} → IsSum l → IsSum r → (o ≡ op.Add) ⊎ ((o ≡ op.Sub) ⊎ (o ≡ op.Mul)) → a ≡ e.IntBinary at o l r → IsSum a
