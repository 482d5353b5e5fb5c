-- What the machine keeps when its main thread acts.
use Rattle.std.proofs.Common.{◌≡◌, ◌<◌, ◌≤◌, ◌+◌, List, [], ◌∷◌, ◌++◌, Option, Some, None, is_some, Bool, true, false, refl, sym, ap, ◌∙◌, subst, arith}
use Rattle.std.specs.Prelude.{not}
use Rattle.std.proofs.Math.Bool.{not-not}
use Rattle.bj_core.specs.declared.action.Action.{Action}
use Rattle.bj_core.specs.declared.action.Action.TheVariants.{End}
use Rattle.bj_core.specs.declared.action.Answer.{Answer}
use Rattle.bj_core.specs.declared.action.Done.{Done as Ending}
use Rattle.bj_core.specs.declared.entry.Entry.TheVariants.{Act}
use Rattle.bj_core.specs.declared.frame.Frame.{Frame}
use Rattle.bj_core.specs.declared.frame.Term.{Term}
use Rattle.bj_core.specs.declared.program.Program.{Program}
use Rattle.bj_eval.specs.Next.{next_of}
use Rattle.bj_core.specs.declared.limits.Limits.{Limits}
use Rattle.bj_code.specs.declared.code.Code.{Code}
use Rattle.bj_code.specs.ProgramCode.{program_code}
use Rattle.bj_store.specs.Kept.{IsKept}
use Rattle.bj_exec.specs.declared.thread.Thread.{Thread}
use Rattle.bj_exec.specs.declared.run.Want.{Want}
use Rattle.bj_exec.specs.declared.run.Want.TheVariants as want
use Rattle.bj_exec.specs.Follows.{Follows}
use Rattle.bj_store.specs.declared.reaction.Block.{Block}
use Rattle.bj_store.specs.State.{State, fresh, with_lives, lives}
use Rattle.bj_store.specs.React.{Outcome, Answered, Blocked, react, block_of}
use Rattle.bj_machine.specs.Kept.{LogValue, HasEntry}
use Rattle.bj_machine.specs.World.{World, Told, Setting, opened, next_action, reaction, reacts_to, answer_of, state_after, is_enabled, acted, main_after, begun}
use Rattle.bj_machine.specs.Shown.{Shown, At, Stands, IsSound, IsLiving, HasFields, Finishes, HasActed, HasBegun, setting_of, end_of, end_in, end_wanted, rests, rests_main, can_move, can_step}

at_told : (v : Shown) (o : Option Told) (p : Option Thread) (t : Thread) → p ≡ Some t → At v o p → (d : Told) × (o ≡ Some d) × Follows v.program v.code v.limits.frames d.term d.answers t
at_told v None None t e h = absurd cc
at_told v None (Some u) t e h = absurd h
at_told v (Some d) None t e h = absurd h
at_told v (Some d) (Some u) t e h = let same : u ≡ t = cc in (d, refl, subst (λ (x : Thread). Follows v.program v.code v.limits.frames d.term d.answers x) same h)

-- the term that the main thread follows
pub stands_main : (v : Shown) (w : World) (t : Thread) → v.main ≡ Some t → Stands v w → (d : Told) × (w.main ≡ Some d) × Follows v.program v.code v.limits.frames d.term d.answers t
stands_main v w t e st = at_told v w.main v.main t e st.main

-- what is known of a thread that wants an action, or whose term is over
pub record Wanted (v : Shown) (t : Thread) (a : Action) (frames : List Frame) : Type 0 where
  pub main : v.main ≡ Some t
  pub next : (term : Term) (answers : List Answer) → Follows v.program v.code v.limits.frames term answers t → next_of v.program v.limits.frames term answers ≡ Some (record { action = a; frames = frames })

pub next_wanted : (v : Shown) (t : Thread) (a : Action) (frames : List Frame) → Wanted v t a frames → (w : World) → Stands v w → next_action (setting_of v) w ≡ Some a
next_wanted v t a frames k w st =
    let s = stands_main v w t k.main st in
    rw (s.1, k.next s.0.term s.0.answers s.2) refl

-- what the store makes of the main thread's next action
pub reaction_is : (v : Shown) (w : World) (a : Action) (r : Outcome) → Stands v w → next_action (setting_of v) w ≡ Some a → react v.program v.store 1 a ≡ r → reaction (setting_of v) w ≡ r
reaction_is v w a r st e is = ap (λ (b : Option Action). reacts_to v.program w.store b) e ∙ (ap (λ (s : State). react v.program s 1 a) (sym st.store) ∙ is)

pub enabled_wanted : (v : Shown) (t : Thread) (a : Action) (frames : List Frame) → Wanted v t a frames → (w : World) → Stands v w → is_some (answer_of (react v.program v.store 1 a)) ≡ is_enabled (setting_of v) w
enabled_wanted v t a frames k w st = sym (ap (λ (r : Outcome). is_some (answer_of r)) (reaction_is v w a (react v.program v.store 1 a) st (next_wanted v t a frames k w st) refl))

pub is_answered : (r : Outcome) (x : Answer) (s : State) → r ≡ Answered x s → is_some (answer_of r) ≡ true
is_answered r x s e = ap (λ (r : Outcome). is_some (answer_of r)) e

at_none : (v : Shown) (o : Option Told) (p : Option Thread) → p ≡ None → At v o p → o ≡ None
at_none v None p e h = refl
at_none v (Some d) None e h = absurd h
at_none v (Some d) (Some t) e h = absurd (cc)

-- where the main thread has no term nothing is enabled
pub idle_blocked : (v : Shown) (w : World) → v.main ≡ None → Stands v w → is_enabled (setting_of v) w ≡ false
idle_blocked v w e st = ap (λ (o : Option Told). is_enabled (setting_of v) (record { store = w.store; main = o; acts = w.acts })) (at_none v w.main v.main e st.main)

answered_so : (r : Outcome) → not (is_some (block_of r)) ≡ is_some (answer_of r)
answered_so (Answered x s) = refl
answered_so (Blocked b) = refl

-- an action that is not blocked is answered
pub unblocked : (r : Outcome) (b : Option Block) (free : Bool) → b ≡ block_of r → is_some b ≡ not free → free ≡ is_some (answer_of r)
unblocked r b free e f = sym (not-not free) ∙ (ap not (sym f) ∙ (ap (λ (o : Option Block). not (is_some o)) e ∙ answered_so r))

-- the main thread can step where the action that it wants is answered
pub can_wanted : (v : Shown) (t : Thread) (a : Action) → v.main ≡ Some t → t.run.want ≡ want.Do a → can_step v v.main ≡ is_some (answer_of (react v.program v.store 1 a))
can_wanted v t a main wants = ap (λ (o : Option Thread). can_step v o) main ∙ ap (λ (w : Want). can_move v w) wants

end_busy : (o : Option Thread) (d : Ending) → end_of o ≡ Some d → is_some o ≡ true
end_busy None d e = absurd cc
end_busy (Some t) d e = refl

-- where a term ends next the main thread lives
pub ends_living : (v : Shown) (d : Ending) → IsSound v → end_of v.main ≡ Some d → lives v.store 1 ≡ true
ends_living v d sound e = sound.store.living ∙ end_busy v.main d e

-- a new machine
pub sound_new : (program : Program) (code : Code) (limits : Limits) (s : State) (log : LogValue) → s ≡ fresh program limits → IsKept program (fresh program limits) → HasFields program
    → 2 ≤ limits.frames → code ≡ program_code program → IsSound (record { program = program; code = code; limits = limits; store = s; log = log; main = None; acts = 0 })
sound_new program code limits s log is_fresh kept fields enough is_code = record {
  world = opened (record { program = program; limits = limits });
  stands = record { store = is_fresh; main = tt; acts = refl };
  spent = omega arith;
  store = subst (λ (x : State). IsLiving program x false) (sym is_fresh) (record { kept = kept; known = refl; living = refl });
  fields = fields;
  enough = enough;
  is_code = is_code;
}

main_goes : (a : Action) (x : Answer) (d : Told) → end_in (Some a) ≡ None → main_after (Some a) x (Some d) ≡ Some (record { term = d.term; answers = d.answers ++ x ∷ [] })
main_goes (End e) x d n = absurd cc
main_goes a x d n = refl

pub end_main : (o : Option Thread) (t : Thread) (w : Want) → o ≡ Some t → t.run.want ≡ w → end_of o ≡ end_wanted w
end_main o t w e f = rw (e, f) refl

-- the main thread's term with one answer more
main_acted : (o : Setting) (w : World) (a : Action) (x : Answer) (d : Told) → next_action o w ≡ Some a → w.main ≡ Some d → end_in (Some a) ≡ None
    → (acted o w x).main ≡ Some (record { term = d.term; answers = d.answers ++ x ∷ [] })
main_acted o w a x d e m n = ap (λ (b : Option Action). main_after b x w.main) e ∙ (ap (λ (p : Option Told). main_after (Some a) x p) m ∙ main_goes a x d n)

-- the machine after an action of the main thread
abbrev pub acted_by : Shown → State → LogValue → Option Thread → Shown
acted_by v store log main = record { program = v.program; code = v.code; limits = v.limits; store = store; log = log; main = main; acts = v.acts + 1 }

pub does_act : (v : Shown) (t u : Thread) (a b : Action) (frames : List Frame) (x : Answer) (s : State) (log : LogValue) → Wanted v t a frames → t.run.want ≡ want.Do a
    → end_in (Some a) ≡ None → react v.program v.store 1 a ≡ Answered x s → v.acts < v.limits.acts → b ≡ a → HasEntry (Act 1 x) (Some b) v.log log
    → ((term : Term) (answers : List Answer) → Follows v.program v.code v.limits.frames term answers t → Follows v.program v.code v.limits.frames term (answers ++ x ∷ []) u)
    → HasActed v (acted_by v s log (Some u)) 1
does_act v t u a b frames x s log k wants n reacts left same logged follows = record {
  answer = x;
  log = logged.entries;
  actions = λ w st. logged.actions ∙ ap (λ (o : Option Action). o ∷ v.log.actions) (ap (λ (c : Action). Some c) same ∙ sym (next_wanted v t a frames k w st));
  room = logged.room;
  keeps = record { program = refl; code = refl; limits = refl };
  acts = refl;
  world = λ w st.
      let told = stands_main v w t k.main st in
      let e : next_action (setting_of v) w ≡ Some a = next_wanted v t a frames k w st in
      let r : reaction (setting_of v) w ≡ Answered x s = reaction_is v w a (Answered x s) st e reacts in
      let f : (acted (setting_of v) w x).main ≡ Some (record { term = told.0.term; answers = told.0.answers ++ x ∷ [] }) = main_acted (setting_of v) w a x told.0 e told.1 n in
      let count = st.acts in (
        record { main = refl; answer = ap answer_of r; left = omega arith },
        record {
          store = sym (ap (λ (o : Outcome). state_after w.store o) r);
          main = subst (λ (o : Option Told). At (acted_by v s log (Some u)) o (Some u)) (sym f) (follows told.0.term told.0.answers told.2);
          acts = omega arith;
        },
      );
  end = λ w st. end_main v.main t (want.Do a) k.main wants ∙ ap end_in (sym (next_wanted v t a frames k w st));
}

some_same : (a b : Ending) → Some a ≡ Some b → a ≡ b
some_same a b e = cc

pub does_end : (v : Shown) (d : Ending) (x : Answer) (s : State) (log : LogValue) → Finishes v → end_of v.main ≡ Some d → react v.program v.store 1 (End d) ≡ Answered x s → v.acts < v.limits.acts → HasEntry (Act 1 x) (Some (End d)) v.log log
    → HasActed v (acted_by v s log None) 1
does_end v d x s log k over reacts left logged = record {
  answer = x;
  log = logged.entries;
  actions = λ w st.
      let same : k.done ≡ d = some_same k.done d (sym k.ends ∙ over) in
      logged.actions ∙ ap (λ (o : Option Action). o ∷ v.log.actions) (sym (k.next w st ∙ ap (λ (b : Ending). Some (End b)) same));
  room = logged.room;
  keeps = record { program = refl; code = refl; limits = refl };
  acts = refl;
  world = λ w st.
      let e : next_action (setting_of v) w ≡ Some (End k.done) = k.next w st in
      let same : k.done ≡ d = some_same k.done d (sym k.ends ∙ over) in
      let r : reaction (setting_of v) w ≡ Answered x s = reaction_is v w (End d) (Answered x s) st (e ∙ ap (λ (b : Ending). Some (End b)) same) reacts in
      let f : (acted (setting_of v) w x).main ≡ None = ap (λ (b : Option Action). main_after b x w.main) e in
      let count = st.acts in (
        record { main = refl; answer = ap answer_of r; left = omega arith },
        record {
          store = sym (ap (λ (o : Outcome). state_after w.store o) r);
          main = subst (λ (o : Option Told). At (acted_by v s log None) o None) (sym f) tt;
          acts = omega arith;
        },
      );
  end = λ w st. k.ends ∙ ap end_in (sym (k.next w st));
}

pub sound_acted : (v : Shown) (s : State) (log : LogValue) (main : Option Thread) → IsSound v → v.acts < v.limits.acts → IsLiving v.program s (is_some main)
    → HasActed v (acted_by v s log main) 1 → IsSound (acted_by v s log main)
sound_acted v s log main sound left living h = record {
  world = acted (setting_of v) sound.world h.answer;
  stands = (h.world sound.world sound.stands).1;
  spent = omega arith;
  store = living;
  fields = sound.fields;
  enough = sound.enough;
  is_code = sound.is_code;
}

moving_wants : (v : Shown) (w : Want) → rests w ≡ false → can_move v w ≡ true
moving_wants v want.Move e = refl
moving_wants v (want.Do a) e = absurd cc
moving_wants v (want.Over d) e = absurd cc

pub moving_can : (v : Shown) (o : Option Thread) → rests_main o ≡ false → can_step v o ≡ true
moving_can v None e = absurd cc
moving_can v (Some t) e = moving_wants v t.run.want e

-- the machine where a term begins
abbrev pub started : Shown → State → Thread → Shown
started v s t = record { program = v.program; code = v.code; limits = v.limits; store = s; log = v.log; main = Some t; acts = v.acts }

-- a term begins
pub does_begin : (v : Shown) (s : State) (t : Thread) (term : Term) → s ≡ with_lives v.store 1 true → Follows v.program v.code v.limits.frames term [] t → HasBegun v (started v s t) term
does_begin v s t term lived follows = record {
  log = refl;
  keeps = record { program = refl; code = refl; limits = refl };
  acts = refl;
  world = λ w st. record { store = lived ∙ ap (λ (x : State). with_lives x 1 true) st.store; main = follows; acts = st.acts };
}

pub sound_begun : (v : Shown) (s : State) (t : Thread) (term : Term) → s ≡ with_lives v.store 1 true → Follows v.program v.code v.limits.frames term [] t → IsLiving v.program (with_lives v.store 1 true) true → IsSound v
    → IsSound (started v s t)
sound_begun v s t term lived follows living sound = record {
  world = begun sound.world term;
  stands = (does_begin v s t term lived follows).world sound.world sound.stands;
  spent = sound.spent;
  store = subst (λ (x : State). IsLiving v.program x true) (sym lived) living;
  fields = sound.fields;
  enough = sound.enough;
  is_code = sound.is_code;
}

moves_rest : (v : Shown) (w : Want) → can_move v w ≡ false → rests w ≡ true
moves_rest v want.Move e = absurd cc
moves_rest v (want.Do a) e = refl
moves_rest v (want.Over d) e = refl

-- a thread that cannot do an instruction rests
pub steps_rest : (v : Shown) (o : Option Thread) → can_step v o ≡ false → rests_main o ≡ true
steps_rest v None e = refl
steps_rest v (Some t) e = moves_rest v t.run.want e

-- the action is that end
pub end_action : (a : Action) (d : Ending) → end_in (Some a) ≡ Some d → Some a ≡ Some (End d)
end_action (End e) d h = let same : e ≡ d = cc in ap (λ (x : Ending). Some (End x)) same
end_action a d h = absurd cc
