-- What the reader finds on tokens is what the grammar derives.
use Rattle.std.proofs.Common.{◌≡◌, ℕ, zero, suc, ◌<◌, ◌≤◌, max, nat_lt, ◌⊎◌, inl, inr, Bool, true, false, cond, Option, Some, None, refl, sym, ap, ◌∙◌, subst, arith}
use Rattle.std.proofs.lemmas.Bool.{ltb-true}
use Rattle.bj_core.specs.declared.tree.Expr.{Expr}
use Rattle.bj_base.specs.declared.op.Op.{Op}
use Rattle.bj_base.specs.declared.op.Op.TheVariants as op
use Rattle.bj_sum.specs.declared.sum.Found.{Found}
use Rattle.bj_sum.specs.declared.token.Sort.{Sort}
use Rattle.bj_sum.specs.declared.token.Sort.TheVariants as sort
use Rattle.bj_sum.specs.Grammar.{Text, negation, operation, Additive, Multiplicative, Unary, multiplicative, plus, minus, unary, times, primary, negative, literal, parenthesized}
use Rattle.bj_sum.specs.Reading.{and_then, raised, operator, with_operator, operations, level_over, closed, constant_found, unary_by, unary_of, level_of, nothing, Parser}
use Rattle.bj_sum.proofs.Turns.{unary_is}

-- a tree stands from a place on, no higher than the limit
pub record Stands (D : Expr → ℕ → ℕ → ℕ → Type 0) (limit i : ℕ) (f : Found) : Type 0 where
  pub derived : D f.tree f.height i f.after
  pub low : f.height ≤ limit

-- what a reader may find
abbrev pub IsSound : (D : Expr → ℕ → ℕ → ℕ → Type 0) → ℕ → Parser → Type 0
IsSound D limit p = (i : ℕ) (f : Found) → p i ≡ Some f → Stands D limit i f

bound : (r : Option Found) (go : Found → Option Found) (f : Found) → and_then r go ≡ Some f → (x : Found) × (r ≡ Some x) × (go x ≡ Some f)
bound None go f e = absurd (cc)
bound (Some x) go f e = (x, refl, e)

-- what a node above parts is
record Raised (limit : ℕ) (tree : Expr) (below after : ℕ) (f : Found) : Type 0 where
  pub found : f ≡ record { tree = tree; height = suc below; after = after }
  pub low : suc below ≤ limit

raised_is : (limit : ℕ) (tree : Expr) (below after : ℕ) (f : Found) → raised limit tree below after ≡ Some f → Raised limit tree below after f
raised_is limit tree below after f e = of (nat_lt below limit) refl e
  where
    of : (b : Bool) → nat_lt below limit ≡ b → ◌≡◌ {A = Option Found} (cond b (Some (record { tree = tree; height = suc below; after = after })) None) (Some f)
        → Raised limit tree below after f
    of true is e = record { found = cc; low = ltb-true below limit is }
    of false is e = absurd (cc)

-- ---- operators

pub times_is : (x : Sort) (o : Op) → operator zero x ≡ Some o → (x ≡ sort.Times) × (o ≡ op.Mul)
times_is sort.End o e = absurd (cc)
times_is (sort.Literal v) o e = absurd (cc)
times_is sort.Open o e = absurd (cc)
times_is sort.Close o e = absurd (cc)
times_is sort.Plus o e = absurd (cc)
times_is sort.Minus o e = absurd (cc)
times_is sort.Times o e = (refl, cc)

pub sign_is : (n : ℕ) (x : Sort) (o : Op) → operator (suc n) x ≡ Some o → ((x ≡ sort.Plus) × (o ≡ op.Add)) ⊎ ((x ≡ sort.Minus) × (o ≡ op.Sub))
sign_is n sort.End o e = absurd (cc)
sign_is n (sort.Literal v) o e = absurd (cc)
sign_is n sort.Open o e = absurd (cc)
sign_is n sort.Close o e = absurd (cc)
sign_is n sort.Times o e = absurd (cc)
sign_is n sort.Plus o e = inl (refl, cc)
sign_is n sort.Minus o e = inr (refl, cc)

-- ---- a level over operands that are sound

-- the expressions of each rank
abbrev pub Level : Text → ℕ → Expr → ℕ → ℕ → ℕ → Type 0
Level s zero = Unary s
Level s (suc zero) = Multiplicative s
Level s (suc (suc n)) = Additive s

module _ (s : Text) (limit : ℕ) where
  -- an operator between two parts makes an expression of the rank above
  grown : (rank : ℕ) (i : ℕ) (o : Op) (l r f : Found) → rank < 2 → operator rank (s l.after).sort ≡ Some o → Stands (Level s (suc rank)) limit i l
      → Stands (Level s rank) limit (suc l.after) r → Raised limit (operation (s i).column o l.tree r.tree) (max l.height r.height) r.after f
      → Stands (Level s (suc rank)) limit i f
  grown zero i o l r f low e left right up =
      let t = times_is (s l.after).sort o e in
      subst (λ (x : Found). Stands (Multiplicative s) limit i x) (sym up.found)
      (record { derived = times left.derived t.0 right.derived (ap (λ (o : Op). operation (s i).column o l.tree r.tree) t.1) refl; low = up.low })
  grown (suc zero) i o l r f low e left right up = of (sign_is zero (s l.after).sort o e)
    where
      of : (((s l.after).sort ≡ sort.Plus) × (o ≡ op.Add)) ⊎ (((s l.after).sort ≡ sort.Minus) × (o ≡ op.Sub)) → Stands (Additive s) limit i f
      of (inl t) = subst (λ (x : Found). Stands (Additive s) limit i x) (sym up.found)
          (record { derived = plus left.derived t.0 right.derived (ap (λ (o : Op). operation (s i).column o l.tree r.tree) t.1) refl; low = up.low })
      of (inr t) = subst (λ (x : Found). Stands (Additive s) limit i x) (sym up.found)
          (record { derived = minus left.derived t.0 right.derived (ap (λ (o : Op). operation (s i).column o l.tree r.tree) t.1) refl; low = up.low })
  grown (suc (suc n)) i o l r f low e left right up = absurd (omega arith)

  -- a higher rank has the expressions of the lower
  lifted : (rank : ℕ) (i : ℕ) (f : Found) → rank < 2 → Stands (Level s rank) limit i f → Stands (Level s (suc rank)) limit i f
  lifted zero i f low h = record { derived = unary h.derived; low = h.low }
  lifted (suc zero) i f low h = record { derived = multiplicative h.derived; low = h.low }
  lifted (suc (suc n)) i f low h = absurd (omega arith)

  module _ (rank : ℕ) (low : rank < 2) (operand : Parser) (sound : IsSound (Level s rank) limit operand) (i : ℕ) where
    goes_on : ℕ → Found → Op → Option Found
    goes_on n left o = and_then (operand (suc left.after)) (λ right.
        and_then (raised limit (operation (s i).column o left.tree right.tree) (max left.height right.height) right.after)
        (operations s limit rank operand (s i).column n))

    operations_sound : (n : ℕ) (left f : Found) → Stands (Level s (suc rank)) limit i left → operations s limit rank operand (s i).column n left ≡ Some f
        → Stands (Level s (suc rank)) limit i f
    unfolding operations goes_on
    operations_sound zero left f h e = of (operator rank (s left.after).sort) e
      where
        of : (r : Option Op) → with_operator r (Some left) (λ o. None) ≡ Some f → Stands (Level s (suc rank)) limit i f
        of None e = let same : left ≡ f = cc in subst (λ (x : Found). Stands (Level s (suc rank)) limit i x) same h
        of (Some o) e = absurd (cc)
    operations_sound (suc n) left f h e = of (λ b g d. operations_sound n b f g d) (operator rank (s left.after).sort) refl e
      where
        of : ((b : Found) → Stands (Level s (suc rank)) limit i b → operations s limit rank operand (s i).column n b ≡ Some f → Stands (Level s (suc rank)) limit i f)
            → (r : Option Op) → operator rank (s left.after).sort ≡ r → with_operator r (Some left) (goes_on n left) ≡ Some f → Stands (Level s (suc rank)) limit i f
        of again None is e = let same : left ≡ f = cc in subst (λ (x : Found). Stands (Level s (suc rank)) limit i x) same h
        of again (Some o) is e =
            let right = bound (operand (suc left.after)) (λ right.
            and_then (raised limit (operation (s i).column o left.tree right.tree) (max left.height right.height) right.after)
            (operations s limit rank operand (s i).column n)) f e in
            let both = bound (raised limit (operation (s i).column o left.tree right.0.tree) (max left.height right.0.height) right.0.after)
            (operations s limit rank operand (s i).column n) f right.2 in
            again both.0
            (grown rank i o left right.0 both.0 low is h (sound (suc left.after) right.0 right.1) (raised_is limit _ _ _ both.0 both.1)) both.2

  pub level_sound : (rank : ℕ) → rank ≤ 2 → (p : Parser) → IsSound (Unary s) limit p → IsSound (Level s rank) limit (level_over s limit p rank)
  unfolding level_over
  level_sound zero le p u i f e = u i f e
  level_sound (suc rank) le p u i f e =
      let b = bound (level_over s limit p rank i) (operations s limit rank (level_over s limit p rank) (s i).column limit) f e in
      let low : rank < 2 = omega arith in
      operations_sound rank low (level_over s limit p rank) (λ j g h. level_sound rank (omega arith) p u j g h) i limit b.0 f
      (lifted rank i b.0 low (level_sound rank (omega arith) p u i b.0 b.1)) b.2

-- ---- a unary expression

module _ (s : Text) where
  nothing_sound : (D : Expr → ℕ → ℕ → ℕ → Type 0) (limit : ℕ) → IsSound D limit nothing
  nothing_sound D limit i f e = absurd (cc)

  closed_is : (limit : ℕ) (x f : Found) (k : Sort) → closed limit x k ≡ Some f → (k ≡ sort.Close) × Raised limit x.tree x.height (suc x.after) f
  closed_is limit x f sort.End e = absurd (cc)
  closed_is limit x f (sort.Literal v) e = absurd (cc)
  closed_is limit x f sort.Open e = absurd (cc)
  closed_is limit x f sort.Close e = (refl, raised_is limit x.tree x.height (suc x.after) f e)
  closed_is limit x f sort.Plus e = absurd (cc)
  closed_is limit x f sort.Minus e = absurd (cc)
  closed_is limit x f sort.Times e = absurd (cc)

  module _ (limit below : ℕ) (nested whole : Parser) (u : IsSound (Unary s) below nested) (w : IsSound (Additive s) below whole) (i : ℕ) (f : Found) where
    by_sort : (x : Sort) → (s i).sort ≡ x → unary_by s limit x nested whole i ≡ Some f → Stands (Unary s) limit i f
    by_sort sort.End is e = absurd (cc)
    by_sort (sort.Literal v) is e =
        let same : constant_found (s i).column v (suc i) ≡ f = cc in
        subst (λ (x : Found). Stands (Unary s) limit i x) same (record { derived = primary (literal is refl refl refl); low = omega arith })
    by_sort sort.Open is e =
        let b = bound (whole (suc i)) (λ x. closed limit x (s x.after).sort) f e in
        let c = closed_is limit b.0 f (s b.0.after).sort b.2 in
        let h = w (suc i) b.0 b.1 in
        subst (λ (x : Found). Stands (Unary s) limit i x) (sym c.1.found)
        (record { derived = primary (parenthesized is h.derived c.0 refl refl); low = c.1.low })
    by_sort sort.Close is e = absurd (cc)
    by_sort sort.Plus is e = absurd (cc)
    by_sort sort.Minus is e =
        let b = bound (nested (suc i)) (λ x. raised limit (negation (s i).column x.tree) x.height x.after) f e in
        let c = raised_is limit _ _ _ f b.2 in
        let h = u (suc i) b.0 b.1 in
        subst (λ (x : Found). Stands (Unary s) limit i x) (sym c.found)
        (record { derived = negative is h.derived refl refl; low = c.low })
    by_sort sort.Times is e = absurd (cc)

  pub unary_sound : (limit : ℕ) → IsSound (Unary s) limit (unary_of s limit)
  unary_sound zero i f e = by_sort 0 0 nothing nothing (nothing_sound (Unary s) 0) (nothing_sound (Additive s) 0) i f (s i).sort refl (sym (unary_is s 0 i) ∙ e)
  unary_sound (suc n) i f e = by_sort (suc n) n (unary_of s n) (level_of s n 2) (unary_sound n)
      (λ j g h. level_sound s n 2 (omega arith) (unary_of s n) (unary_sound n) j g h) i f (s i).sort refl (sym (unary_is s (suc n) i) ∙ e)

  pub additive_sound : (limit : ℕ) → IsSound (Additive s) limit (level_of s limit 2)
  additive_sound limit i f e = level_sound s limit 2 (omega arith) (unary_of s limit) (unary_sound limit) i f e
