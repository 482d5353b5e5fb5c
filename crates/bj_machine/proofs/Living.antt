-- The main thread in the store, from the beginning of its term to the end.
use Rattle.std.proofs.Common.{◌≡◌, ◌≢◌, List, [], ◌∷◌, Some, None, is_some, Bool, true, refl, ap, ◌∙◌}
use Rattle.bj_core.specs.declared.action.Action.{Action}
use Rattle.bj_core.specs.declared.action.Action.TheVariants.{End}
use Rattle.bj_core.specs.declared.action.Done.{Done}
use Rattle.bj_core.specs.declared.program.Program.{Program}
use Rattle.bj_store.specs.declared.row.ThreadRow.{ThreadRow}
use Rattle.bj_store.specs.Kept.{IsKept}
use Rattle.bj_store.specs.State.{State, row_at, lives_in, with_lives_in, with_lives}
use Rattle.bj_machine.specs.Shown.{IsLiving, end_in}

still_known : (threads : List ThreadRow) (b : Bool) → is_some (row_at threads 1) ≡ true → is_some (row_at (with_lives_in threads 1 b) 1) ≡ true
still_known [] b e = absurd (cc)
still_known (r ∷ rs) b e = refl

lives_so : (threads : List ThreadRow) (b : Bool) → is_some (row_at threads 1) ≡ true → lives_in (row_at (with_lives_in threads 1 b) 1) ≡ b
lives_so [] b e = absurd (cc)
lives_so (r ∷ rs) b e = refl

-- the main thread begins to live, or ends
pub living_so : (p : Program) (s : State) (was b : Bool) → IsLiving p s was → IsKept p (with_lives s 1 b) → IsLiving p (with_lives s 1 b) b
living_so p s was b h kept = record { kept = kept; known = still_known s.threads b h.known; living = lives_so s.threads b h.known }

-- the threads are as before
pub living_on : (p : Program) (s t : State) (b : Bool) → IsLiving p s b → IsKept p t → t.threads ≡ s.threads → IsLiving p t b
living_on p s t b h kept same = record {
  kept = kept;
  known = ap (λ (ts : List ThreadRow). is_some (row_at ts 1)) same ∙ h.known;
  living = ap (λ (ts : List ThreadRow). lives_in (row_at ts 1)) same ∙ h.living;
}

pub is_no_end : (a : Action) → end_in (Some a) ≡ None → (done : Done) → a ≢ End done
is_no_end (End d) n done e = absurd (cc)
is_no_end a n done e = absurd (cc)
