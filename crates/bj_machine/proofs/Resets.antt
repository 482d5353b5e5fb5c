-- What holds of a machine that has begun anew.
use Rattle.std.proofs.Common.{◌≡◌, ℕ, ◌∷◌, Option, Some, None, is_some, Bool, true, false, refl, sym, ap, ◌∙◌, subst, arith}
use Rattle.bj_core.specs.declared.entry.Entry.{Entry}
use Rattle.bj_core.specs.declared.entry.Entry.TheVariants as entry
use Rattle.bj_core.specs.declared.frame.Term.{Term}
use Rattle.bj_core.specs.declared.limits.Limits.{Limits}
use Rattle.bj_core.specs.declared.program.Program.{Program}
use Rattle.bj_code.specs.declared.code.Code.{Code}
use Rattle.bj_code.specs.ProgramCode.{program_code}
use Rattle.bj_exec.specs.declared.thread.Thread.{Thread}
use Rattle.bj_store.specs.Kept.{IsKept}
use Rattle.bj_store.specs.State.{State, fresh, with_lives}
use Rattle.bj_machine.specs.declared.loaded.Loaded.{Loaded}
use Rattle.bj_machine.specs.declared.beginning.Beginning.{Beginning}
use Rattle.bj_machine.specs.Kept.{LogValue, HasEntry}
use Rattle.bj_machine.specs.World.{World, Setting, begun_by, begun_store, reset_world}
use Rattle.bj_machine.specs.Shown.{Shown, At, Stands, IsSound, IsSame, IsLiving, HasFields, setting_of, with_room}
use Rattle.bj_machine.specs.Reset.{program_after, code_after, CanLoad, IsPrepared, IsBeginning, HasReset}
use Rattle.bj_machine.proofs.Rooms.{stands_roomy}

-- the code that is then loaded is the program's
loaded_code : (next : Option Loaded) (program : Program) (code : Code) → CanLoad next → code ≡ program_code program → code_after next code ≡ program_code (program_after next program)
loaded_code None program code h e = e
loaded_code (Some next) program code h e = h.0

loaded_fields : (next : Option Loaded) (program : Program) → CanLoad next → HasFields program → HasFields (program_after next program)
loaded_fields None program h fields = fields
loaded_fields (Some next) program h fields = h.1

store_begun : (term : Option Term) (w : World) → begun_store term w.store ≡ (begun_by term w).store
store_begun None w = refl
store_begun (Some term) w = refl

acts_begun : (term : Option Term) (w : World) → w.acts ≡ (begun_by term w).acts
acts_begun None w = refl
acts_begun (Some term) w = refl

-- the thread that was prepared follows the term, if there is one
main_begun : (v : Shown) (o : Setting) (w : World) (term : Option Term) (main : Option Thread) → IsPrepared v.program v.limits.frames term main → v.code ≡ program_code v.program
    → At v (begun_by term (reset_world o w)).main main
main_begun v o w None None h e = tt
main_begun v o w None (Some thread) h e = absurd h
main_begun v o w (Some term) None h e = absurd h
main_begun v o w (Some term) (Some thread) h e = h v.code e

-- that the main thread lives from the beginning of its term
abbrev pub Begins : Type 0
Begins = (p : Program) (s : State) (b : Bool) → IsLiving p s b → IsLiving p (with_lives s 1 true) true

living_begun : (p : Program) (limits : Limits) (frames : ℕ) (term : Option Term) (main : Option Thread) → IsPrepared p frames term main → Begins → IsLiving p (fresh p limits) false
    → IsLiving p (begun_store term (fresh p limits)) (is_some main)
living_begun p limits frames None None h begins living = living
living_begun p limits frames None (Some thread) h begins living = absurd h
living_begun p limits frames (Some term) None h begins living = absurd h
living_begun p limits frames (Some term) (Some thread) h begins living = begins p (fresh p limits) false living

-- the machine that has begun anew
abbrev pub anew : Shown → Option Loaded → LogValue → Beginning → Shown
anew v next log b = record { program = program_after next v.program; code = code_after next v.code; limits = v.limits; store = b.store; log = log; main = b.main; acts = v.acts }

stands_anew : (v : Shown) (next : Option Loaded) (log : LogValue) (term : Option Term) (b : Beginning) (w : World) → CanLoad next → v.code ≡ program_code v.program
    → IsBeginning (program_after next v.program) v.limits term b → Stands v w → Stands (anew v next log b) (begun_by term (reset_world (setting_of (anew v next log b)) w))
stands_anew v next log term b w loads is_code h st = record {
  store = h.store ∙ store_begun term (reset_world (setting_of (anew v next log b)) w);
  main = main_begun (anew v next log b) (setting_of (anew v next log b)) w term b.main h.main (loaded_code next v.program v.code loads is_code);
  acts = st.acts ∙ acts_begun term (reset_world (setting_of (anew v next log b)) w);
}

pub sound_anew : (v : Shown) (next : Option Loaded) (log : LogValue) (term : Option Term) (b : Beginning) → CanLoad next → IsBeginning (program_after next v.program) v.limits term b → Begins
    → IsKept (program_after next v.program) (fresh (program_after next v.program) v.limits) → IsSound v → IsSound (anew v next log b)
sound_anew v next log term b loads h begins kept sound = record {
  world = begun_by term (reset_world (setting_of (anew v next log b)) sound.world);
  stands = stands_anew v next log term b sound.world loads sound.is_code h sound.stands;
  spent = sound.spent;
  store = subst (λ (s : State). IsLiving (program_after next v.program) s (is_some b.main)) (sym h.store)
      (living_begun (program_after next v.program) v.limits v.limits.frames term b.main h.main begins (record { kept = kept; known = refl; living = refl }));
  fields = loaded_fields next v.program loads sound.fields;
  enough = sound.enough;
  is_code = loaded_code next v.program v.code loads sound.is_code;
}

pub does_reset : (v : Shown) (first : Entry) (next : Option Loaded) (mid log : LogValue) (term : Option Term) (b : Beginning) → HasEntry first None v.log mid → HasEntry entry.Reset None mid log
    → CanLoad next → v.code ≡ program_code v.program → IsBeginning (program_after next v.program) v.limits term b → HasReset v (anew v next log b) first next term
does_reset v first next mid log term b noted reset loads is_code h =
    let used = noted.room in
    let used_too = reset.room in
    record {
      log = reset.entries ∙ ap (λ es. entry.Reset ∷ es) noted.entries;
      actions = reset.actions ∙ ap (λ xs. None ∷ xs) noted.actions;
      room = omega arith;
      program = refl;
      code = refl;
      limits = refl;
      acts = refl;
      world = λ w st. stands_anew v next log term b w loads is_code h st;
    }

-- room was taken, and then the machine began anew
pub reset_after : (old mid new : Shown) (first : Entry) (next : Option Loaded) (term : Option Term) → IsSame old mid → HasReset mid new first next term → HasReset old new first next term
reset_after old mid new first next term same h =
    let r : HasReset (with_room same.0 old) new first next term = subst (λ (v : Shown). HasReset v new first next term) same.2 h in
    let more = same.1 in
    let used = r.room in
    record {
      log = r.log;
      actions = r.actions;
      room = omega arith;
      program = r.program;
      code = r.code;
      limits = r.limits;
      acts = r.acts;
      world = λ w st. r.world w (stands_roomy old same.0 w st);
    }
