-- Allowed answers, at each place of their list.
use Rattle.std.proofs.Common.{◌≡◌, ℕ, List, [], ◌∷◌, ◌++◌, Some, ◌⊎◌, inl, inr, refl, sym, ap, ◌∙◌, subst}
use Rattle.bj_core.specs.declared.frame.Term.{Term}
use Rattle.bj_core.specs.declared.program.Program.{Program}
use Rattle.bj_core.specs.declared.action.Answer.{Answer}
use Rattle.bj_eval.specs.Allowed.{Allows, IsAllowed, nothing, one_more}
use Rattle.bj_eval.specs.Next.{Asked, next_of}

-- a list with one more behind it, and the same list cut before some place
cut : (f front : List Answer) (y x : Answer) (rest : List Answer) → f ++ y ∷ [] ≡ front ++ x ∷ rest → ((f ≡ front) × (y ≡ x)) ⊎ ((r : List Answer) × (f ≡ front ++ x ∷ r))
cut [] [] y x rest e = let same : y ≡ x = cc in inl (refl, same)
cut [] (b ∷ []) y x rest e = absurd (cc)
cut [] (b ∷ (d ∷ front)) y x rest e = absurd (cc)
cut (a ∷ f) [] y x rest e = let same : a ≡ x = cc in inr (f, ap (λ a. a ∷ f) same)
cut (a ∷ f) (b ∷ front) y x rest e =
    let same : a ≡ b = cc in
    let tails : f ++ y ∷ [] ≡ front ++ x ∷ rest = cc in
    by_cut (cut f front y x rest tails) same
  where
    by_cut : ((f ≡ front) × (y ≡ x)) ⊎ ((r : List Answer) × (f ≡ front ++ x ∷ r)) → a ≡ b → ((a ∷ f ≡ b ∷ front) × (y ≡ x)) ⊎ ((r : List Answer) × (a ∷ f ≡ (b ∷ front) ++ x ∷ r))
    by_cut (inl p) same = let whole : a ∷ f ≡ b ∷ front = ap (λ a. a ∷ f) same ∙ ap (λ f. b ∷ f) p.0 in inl (whole, p.1)
    by_cut (inr p) same = inr (p.0, ap (λ a. a ∷ f) same ∙ ap (λ f. b ∷ f) p.1)

module _ (program : Program) (limit : ℕ) (term : Term) where
  pub at_each : {xs : List Answer} → IsAllowed program limit term xs → (front rest : List Answer) (x : Answer) → xs ≡ front ++ x ∷ rest → (a : Asked) × (next_of program limit term front ≡ Some a) × Allows program a.action x
  at_each (nothing e) front rest x cut_at = absurd (no_cut front rest x (sym e ∙ cut_at))
    where
      no_cut : (front rest : List Answer) (x : Answer) → [] ≡ front ++ x ∷ rest → ⊥
      no_cut [] rest x e = cc
      no_cut (b ∷ front) rest x e = cc
  at_each (one_more {front = f} y a allowed next allows e) front rest x cut_at = by_cut (cut f front y x rest (sym e ∙ cut_at)) (λ r z. at_each allowed front r x z)
    where
      by_cut : ((f ≡ front) × (y ≡ x)) ⊎ ((r : List Answer) × (f ≡ front ++ x ∷ r)) → ((r : List Answer) → f ≡ front ++ x ∷ r → (a : Asked) × (next_of program limit term front ≡ Some a) × Allows program a.action x)
          → (a : Asked) × (next_of program limit term front ≡ Some a) × Allows program a.action x
      by_cut (inl p) before = (a, ap (next_of program limit term) (sym p.0) ∙ next, subst (λ x. Allows program a.action x) p.1 allows)
      by_cut (inr p) before = before p.0 p.1
