-- The grammar of sums over tokens: which tree stands from one place of the tokens up to another. Each constructor is a production.
-- The height of a tree is the greatest number of nodes above a node of it, where a parenthesized expression counts as a node.
use Rattle.std.specs.Prelude.{◌≡◌, ℕ, suc, max, ℤ}
use Rattle.bj_core.specs.declared.tree.Expr.{Expr}
use Rattle.bj_core.specs.declared.tree.Expr.TheVariants as e
use Rattle.bj_base.specs.declared.op.Op.{Op}
use Rattle.bj_base.specs.declared.op.Op.TheVariants as op
use Rattle.bj_core.specs.declared.types.Const.TheVariants as const
use Rattle.bj_base.specs.declared.span.Span.{Span}
use Rattle.bj_sum.specs.declared.token.Sort.TheVariants as sort
use Rattle.bj_sum.specs.declared.token.Token.{Token}

-- the token at each place, with End at each place past the last
abbrev pub Text : Type 0
Text = ℕ → Token

-- a column of the one line
abbrev pub place : ℕ → Span
place c = record { line = 1; column = c }

abbrev pub constant : ℕ → ℤ → Expr
constant c v = e.Const (place c) (const.Int v)

abbrev pub negation : ℕ → Expr → Expr
negation c x = e.IntNegate (place c) x

abbrev pub operation : ℕ → Op → Expr → Expr → Expr
operation c o l r = e.IntBinary (place c) o l r

mutual
  -- AdditiveExpression [JLS 15.18.2]
  pub data Additive (s : Text) : Expr → ℕ → ℕ → ℕ → Type 0 where
    multiplicative : {a : Expr} {h i j : ℕ} → Multiplicative s a h i j → Additive s a h i j
    plus : {a l r : Expr} {h m n i k j : ℕ} → Additive s l m i k → (s k).sort ≡ sort.Plus → Multiplicative s r n (suc k) j
        → a ≡ operation (s i).column op.Add l r → h ≡ suc (max m n) → Additive s a h i j
    minus : {a l r : Expr} {h m n i k j : ℕ} → Additive s l m i k → (s k).sort ≡ sort.Minus → Multiplicative s r n (suc k) j
        → a ≡ operation (s i).column op.Sub l r → h ≡ suc (max m n) → Additive s a h i j

  -- MultiplicativeExpression [JLS 15.17]
  pub data Multiplicative (s : Text) : Expr → ℕ → ℕ → ℕ → Type 0 where
    unary : {a : Expr} {h i j : ℕ} → Unary s a h i j → Multiplicative s a h i j
    times : {a l r : Expr} {h m n i k j : ℕ} → Multiplicative s l m i k → (s k).sort ≡ sort.Times → Unary s r n (suc k) j
        → a ≡ operation (s i).column op.Mul l r → h ≡ suc (max m n) → Multiplicative s a h i j

  -- UnaryExpression [JLS 15.15, 15.15.4]
  pub data Unary (s : Text) : Expr → ℕ → ℕ → ℕ → Type 0 where
    primary : {a : Expr} {h i j : ℕ} → Primary s a h i j → Unary s a h i j
    negative : {a x : Expr} {h m i j : ℕ} → (s i).sort ≡ sort.Minus → Unary s x m (suc i) j → a ≡ negation (s i).column x → h ≡ suc m → Unary s a h i j

  -- Primary [JLS 15.8.1, 15.8.5]: parentheses leave no node of their own in the tree
  pub data Primary (s : Text) : Expr → ℕ → ℕ → ℕ → Type 0 where
    literal : {a : Expr} {v : ℤ} {h i j : ℕ} → (s i).sort ≡ sort.Literal v → a ≡ constant (s i).column v → h ≡ 0 → j ≡ suc i → Primary s a h i j
    parenthesized : {a : Expr} {h m i k j : ℕ} → (s i).sort ≡ sort.Open → Additive s a m (suc i) k → (s k).sort ≡ sort.Close → h ≡ suc m → j ≡ suc k
        → Primary s a h i j
