-- A thread that follows a term goes on following it, wants what the definition says, and is never stuck.
use Rattle.std.proofs.Common.{◌≡◌, ℕ, zero, suc, List, [], ◌∷◌, Option, Some, None, true, refl, sym, ap, ◌∙◌, subst}
use Rattle.std.specs.Prelude.{if◌then◌else◌}
use Rattle.bj_core.specs.declared.action.Action.{Action}
use Rattle.bj_core.specs.declared.action.Answer.{Answer}
use Rattle.bj_core.specs.declared.action.Done.{Done}
use Rattle.bj_eval.specs.Next.{Outcome, Asks, Over, Misfit}
use Rattle.bj_exec.specs.declared.run.Want.TheVariants as want
use Rattle.bj_exec.specs.declared.run.Run.{Run}
use Rattle.bj_exec.specs.Machine.{Loaded, moves, answered, accepts, going, acting, exec, shown}
use Rattle.bj_exec.specs.Follows.{Tells}

module _ (m : Loaded) where
  -- one instruction, or one answer, less
  past : (j : ℕ) (r q : Run) (xs ys : List Answer) (o : Outcome) → Tells o → ((k : ℕ) → exec m (suc k) r xs ≡ exec m k q ys) → exec m j r xs ≡ o → (k : ℕ) × (exec m k q ys ≡ o)
  past zero r q xs ys o tells s e = absurd (subst Tells (sym e) tells)
  past (suc k) r q xs ys o tells s e = (k, sym (s k) ∙ e)

  one_move : (r q : Run) (xs : List Answer) → r.want ≡ want.Move → moves m r ≡ Some q → (k : ℕ) → exec m (suc k) r xs ≡ exec m k q xs
  one_move r q xs w e k = ap (λ w. acting m (exec m k) w r xs) w ∙ ap (λ o. going o (λ r. exec m k r xs)) e

  one_answer : (r q : Run) (a : Action) (x : Answer) (xs : List Answer) → r.want ≡ want.Do a → accepts a x ≡ true → answered a x r ≡ Some q → (k : ℕ) → exec m (suc k) r (x ∷ xs) ≡ exec m k q xs
  one_answer r q a x xs w t e k =
      ap (λ w. acting m (exec m k) w r (x ∷ xs)) w ∙ ap (λ b. if b then going (answered a x r) (λ r. exec m k r xs) else Misfit) t ∙ ap (λ o. going o (λ r. exec m k r xs)) e

  -- for each list of answers that may come, the run comes to what the definition says
  abbrev pub Keeps : (List Answer → Outcome) → Run → Type 0
  Keeps o r = (more : List Answer) → Tells (o more) → (n : ℕ) × (exec m n r more ≡ o more)

  pub keeps_move : (o : List Answer → Outcome) (r q : Run) → r.want ≡ want.Move → moves m r ≡ Some q → Keeps o r → Keeps o q
  keeps_move o r q w e f more tells = let a = f more tells in past a.0 r q more more (o more) tells (one_move r q more w e) a.1

  pub keeps_answer : (o : List Answer → Outcome) (r q : Run) (a : Action) (x : Answer) → r.want ≡ want.Do a → accepts a x ≡ true → answered a x r ≡ Some q → Keeps o r → Keeps (λ more. o (x ∷ more)) q
  keeps_answer o r q a x w t e f more tells = let b = f (x ∷ more) tells in past b.0 r q (x ∷ more) more (o (x ∷ more)) tells (one_answer r q a x more w t e) b.1

  -- what it wants is what the definition says
  pub wants : (o : List Answer → Outcome) (r : Run) (a : Action) → r.want ≡ want.Do a → Tells (o []) → Keeps o r → o [] ≡ Asks a (shown r)
  wants o r a w tells f = let b = f [] tells in by_count b.0 b.1
    where
      by_count : (j : ℕ) → exec m j r [] ≡ o [] → o [] ≡ Asks a (shown r)
      by_count zero e = absurd (subst Tells (sym e) tells)
      by_count (suc k) e = sym e ∙ ap (λ w. acting m (exec m k) w r []) w

  pub ends_so : (o : List Answer → Outcome) (r : Run) (d : Done) → r.want ≡ want.Over d → Tells (o []) → Keeps o r → o [] ≡ Over d (shown r)
  ends_so o r d w tells f = let b = f [] tells in by_count b.0 b.1
    where
      by_count : (j : ℕ) → exec m j r [] ≡ o [] → o [] ≡ Over d (shown r)
      by_count zero e = absurd (subst Tells (sym e) tells)
      by_count (suc k) e = sym e ∙ ap (λ w. acting m (exec m k) w r []) w

  -- it is not stuck
  some_of : (o : Option Run) (g : Run → Outcome) → Tells (going o g) → (q : Run) × (o ≡ Some q)
  some_of None g tells = absurd tells
  some_of (Some q) g tells = (q, refl)

  pub goes : (o : List Answer → Outcome) (r : Run) → r.want ≡ want.Move → Tells (o []) → Keeps o r → (q : Run) × (moves m r ≡ Some q)
  goes o r w tells f = let b = f [] tells in by_count b.0 (subst Tells (sym b.1) tells)
    where
      by_count : (j : ℕ) → Tells (exec m j r []) → (q : Run) × (moves m r ≡ Some q)
      by_count zero t = absurd t
      by_count (suc k) t = some_of (moves m r) (λ r. exec m k r []) (subst (λ w. Tells (acting m (exec m k) w r [])) w t)

  -- an answer that the definition knows is taken
  pub takes : (o : List Answer → Outcome) (r : Run) (a : Action) (x : Answer) → r.want ≡ want.Do a → accepts a x ≡ true → Tells (o (x ∷ [])) → Keeps o r → (q : Run) × (answered a x r ≡ Some q)
  takes o r a x w t tells f = let b = f (x ∷ []) tells in by_count b.0 (subst Tells (sym b.1) tells)
    where
      by_count : (j : ℕ) → Tells (exec m j r (x ∷ [])) → (q : Run) × (answered a x r ≡ Some q)
      by_count zero u = absurd u
      by_count (suc k) u =
          some_of (answered a x r) (λ r. exec m k r [])
          (subst (λ b. Tells (if b then going (answered a x r) (λ r. exec m k r []) else Misfit)) t (subst (λ w. Tells (acting m (exec m k) w r (x ∷ []))) w u))
