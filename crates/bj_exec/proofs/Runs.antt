-- How stretches of a run are put together.
use Rattle.std.proofs.Common.{◌≡◌, ℕ, suc, ◌+◌, List, [], ◌∷◌, ◌++◌, length, Option, Some, None, true, refl, ap, ◌∙◌, subst, arith}
use Rattle.std.specs.Prelude.{slice_get, if◌then◌else◌}
use Rattle.bj_core.specs.declared.action.Action.{Action}
use Rattle.bj_core.specs.declared.action.Answer.{Answer}
use Rattle.bj_eval.specs.declared.activation.Activation.{Activation}
use Rattle.bj_eval.specs.Evaluation.{Way, Result, Went, Wants, Wrong, Unfit}
use Rattle.bj_eval.specs.Next.{Asks, Misfit}
use Rattle.bj_code.specs.declared.code.Instr.{Instr}
use Rattle.bj_code.specs.declared.code.CodeBody.{CodeBody}
use Rattle.bj_code.specs.declared.frame.CallFrame.{CallFrame}
use Rattle.bj_exec.specs.declared.run.Want.TheVariants as want
use Rattle.bj_exec.specs.declared.run.Run.{Run}
use Rattle.bj_exec.specs.Machine.{Loaded, body_at, wanting, done_by, instr_in, answered, accepts, going, exec}

-- these instructions stand in the body at this place
abbrev pub HasAt : CodeBody → ℕ → List Instr → Type 0
HasAt body pc [] = Unit {0}
HasAt body pc (x ∷ xs) = (slice_get body.steps pc ≡ Some x) × HasAt body (pc + 1) xs

pub front : (body : CodeBody) (pc : ℕ) (a b : List Instr) → HasAt body pc (a ++ b) → HasAt body pc a
front body pc [] b h = tt
front body pc (x ∷ a) b h = (h.0, front body (pc + 1) a b h.1)

pub back : (body : CodeBody) (pc : ℕ) (a b : List Instr) → HasAt body pc (a ++ b) → HasAt body (pc + length a) b
back body pc [] b h = let f : pc ≡ pc + 0 = omega arith in subst (λ n. HasAt body n b) f h
back body pc (x ∷ a) b h = let f : pc + 1 + length a ≡ pc + length (x ∷ a) = omega arith in subst (λ n. HasAt body n b) f (back body (pc + 1) a b h.1)

-- where a way of completing leads: it cannot come, or nothing is said of it, or it leads to a run
pub data Spot : Type 0 where
  Never : Spot
  Anywhere : Spot
  At : Run → Spot

-- nothing is said where the machine is stuck
abbrev pub spot_of : Option Run → Spot
spot_of None = Anywhere
spot_of (Some q) = At q

abbrev pub Lands : Type 0
Lands = Way → Activation → Spot

-- nothing is said of such a result
abbrev pub IsHollow : Result → Type 0
IsHollow (Went w s xs) = ⊥
IsHollow (Wants a fs) = ⊥
IsHollow Wrong = Unit {0}
IsHollow Unfit = ⊥

module _ (m : Loaded) where
  -- the machine goes from one run and its answers to another
  pub record Leads (r : Run) (xs : List Answer) (q : Run) (ys : List Answer) : Type 0 where
    pub by : (k : ℕ) → (j : ℕ) × (exec m j r xs ≡ exec m k q ys)

  pub here : (r : Run) (xs : List Answer) → Leads r xs r xs
  here r xs = record { by = λ k. (k, refl) }

  pub on : {r q w : Run} {xs ys zs : List Answer} → Leads r xs q ys → Leads q ys w zs → Leads r xs w zs
  on l n = record { by = λ k. let b = n.by k in let a = l.by b.0 in (a.0, a.1 ∙ b.1) }

  -- one instruction
  pub one : (b : CodeBody) (f : CallFrame) (fs : List CallFrame) (xs : List Answer) (x : Instr) (q : Run) → body_at m f.invocation ≡ Some b → slice_get b.steps f.place ≡ Some x → done_by m (Some x) f fs ≡ Some q → Leads (wanting want.Move f fs) xs q xs
  one b f fs xs x q eb at e =
      record { by = λ k. (suc k, ap (λ o. going (done_by m (instr_in o f.place) f fs) (λ r. exec m k r xs)) eb ∙ ap (λ o. going (done_by m o f fs) (λ r. exec m k r xs)) at ∙ ap (λ o. going o (λ r. exec m k r xs)) e) }

  -- one answer
  pub told : (a : Action) (f : CallFrame) (fs : List CallFrame) (x : Answer) (xs : List Answer) (q : Run) → accepts a x ≡ true → answered a x (wanting (want.Do a) f fs) ≡ Some q → Leads (wanting (want.Do a) f fs) (x ∷ xs) q xs
  told a f fs x xs q t e =
      record { by = λ k. (suc k, ap (λ b. if b then going (answered a x (wanting (want.Do a) f fs)) (λ r. exec m k r xs) else Misfit) t ∙ ap (λ o. going o (λ r. exec m k r xs)) e) }

  abbrev pub Reaches : Run → List Answer → Spot → List Answer → Type 0
  Reaches r xs Never ys = ⊥
  Reaches r xs Anywhere ys = Unit {0}
  Reaches r xs (At q) ys = Leads r xs q ys

  -- one instruction, after which the machine may be stuck
  pub one_spot : (b : CodeBody) (f : CallFrame) (fs : List CallFrame) (xs : List Answer) (x : Instr) (o : Option Run) → body_at m f.invocation ≡ Some b → slice_get b.steps f.place ≡ Some x → done_by m (Some x) f fs ≡ o → Reaches (wanting want.Move f fs) xs (spot_of o) xs
  one_spot b f fs xs x None eb at e = tt
  one_spot b f fs xs x (Some q) eb at e = one b f fs xs x q eb at e

  pub reaches_after : (r q : Run) (xs ys zs : List Answer) (o : Spot) → Leads r xs q ys → Reaches q ys o zs → Reaches r xs o zs
  reaches_after r q xs ys zs Never l h = h
  reaches_after r q xs ys zs Anywhere l h = tt
  reaches_after r q xs ys zs (At w) l h = on l h

  -- from r with the answers xs, the machine does what the result says
  abbrev pub Runs : Run → List Answer → Lands → Result → Type 0
  Runs r xs K (Went w s ys) = Reaches r xs (K w s) ys
  Runs r xs K (Wants a fs) = (j : ℕ) × (exec m j r xs ≡ Asks a fs)
  Runs r xs K Wrong = Unit {0}
  Runs r xs K Unfit = (j : ℕ) × (exec m j r xs ≡ Misfit)

  pub after : (r q : Run) (xs ys : List Answer) (K : Lands) (res : Result) → Leads r xs q ys → Runs q ys K res → Runs r xs K res
  after r q xs ys K (Went w s zs) l h = reaches_after r q xs ys zs (K w s) l h
  after r q xs ys K (Wants a fs) l h = let a = l.by h.0 in (a.0, a.1 ∙ h.1)
  after r q xs ys K Wrong l h = tt
  after r q xs ys K Unfit l h = let a = l.by h.0 in (a.0, a.1 ∙ h.1)

  pub hollow : (r : Run) (xs : List Answer) (K : Lands) (res : Result) → IsHollow res → Runs r xs K res
  hollow r xs K (Went w s ys) h = absurd h
  hollow r xs K (Wants a fs) h = absurd h
  hollow r xs K Wrong h = tt
  hollow r xs K Unfit h = absurd h

  -- what goes on from where a body was left, if the machine is not stuck there
  abbrev pub From : Option Run → List Answer → Lands → Result → Type 0
  From None ys K res = IsHollow res
  From (Some q) ys K res = Runs q ys K res

  pub from_spot : (r : Run) (xs ys : List Answer) (K : Lands) (res : Result) (o : Option Run) → Reaches r xs (spot_of o) ys → From o ys K res → Runs r xs K res
  from_spot r xs ys K res None h f = hollow r xs K res f
  from_spot r xs ys K res (Some q) h f = after r q xs ys K res h f
