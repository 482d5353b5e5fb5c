-- What the thread's calls keep.
use Rattle.std.proofs.Common.{◌≡◌, ℕ, ◌+◌, ◌<◌, ◌≤◌, ◌^◌, List, [], ◌∷◌, ◌++◌, length, Option, Some, None, true, refl, sym, ap, ◌∙◌, subst, append_assoc, append-nil, arith}
use Rattle.std.specs.Prelude.{Result, Ok, Err, OnOk}
use Rattle.std.proofs.lemmas.Option.{slice_get_within}
use Rattle.bj_core.specs.declared.types.Ty.TheVariants as ty
use Rattle.bj_core.specs.declared.types.Val.{Val}
use Rattle.bj_core.specs.declared.types.Val.TheVariants as val
use Rattle.bj_core.specs.declared.frame.Term.{Term}
use Rattle.bj_core.specs.declared.program.Program.{Program}
use Rattle.bj_core.specs.declared.action.Piece.{Piece}
use Rattle.bj_core.specs.declared.action.Action.{Action}
use Rattle.bj_core.specs.declared.action.Action.TheVariants as act
use Rattle.bj_core.specs.declared.action.Answer.{Answer}
use Rattle.bj_core.specs.declared.action.Answer.TheVariants as answer
use Rattle.bj_core.specs.declared.action.Done.{Done}
use Rattle.bj_eval.specs.declared.activation.Activation.{Activation}
use Rattle.bj_eval.specs.declared.invocation.Invocation.{Invocation}
use Rattle.bj_eval.specs.Allowed.{Allows, IsAllowed, nothing, one_more}
use Rattle.bj_eval.specs.Frames.{start_of, invocation_of_term}
use Rattle.bj_eval.specs.Next.{Asked, asked, Outcome, Asks, Over, Lost, Misfit, outcome, next_of}
use Rattle.bj_eval.specs.Typed.{IsTyped}
use Rattle.bj_code.specs.Stack.{Stack}
use Rattle.bj_code.specs.Step.{placed, resumed}
use Rattle.bj_code.specs.declared.code.Code.{Code}
use Rattle.bj_code.specs.declared.code.CodeBody.{CodeBody}
use Rattle.bj_code.specs.declared.frame.CallFrame.{CallFrame}
use Rattle.bj_code.specs.TermCode.{term_code}
use Rattle.bj_code.specs.ProgramCode.{program_code}
use Rattle.bj_exec.specs.declared.run.Want.TheVariants as want
use Rattle.bj_exec.specs.declared.run.Run.{Run}
use Rattle.bj_exec.specs.declared.thread.Thread.{Thread}
use Rattle.bj_exec.specs.Machine.{Loaded, loaded, wanting, body_at, moves, threw, raised, resumes, answered, accepts, exec, shown}
use Rattle.bj_exec.specs.Follows.{Tells, Follows}
use Rattle.bj_exec.proofs.Terms.{begins, term_runs}
use Rattle.bj_exec.proofs.Threads.{Keeps, keeps_move, keeps_answer, wants, ends_so, goes, takes}
use Rattle.bj_exec.proofs.Steps.{body_there, instr_there}
use Rattle.bj_exec.proofs.Nearer.{asks_in}

abbrev pub thread : Term → CodeBody → ℕ → Run → Thread
thread term body limit run = record { term = term; body = body; limit = limit; run = run }

-- typed terms never go wrong
abbrev pub Sound : Type 0
Sound = (program : Program) (limit : ℕ) (term : Term) (answers : List Answer) → 2 ≤ limit → IsTyped program term → IsAllowed program limit term answers → (a : Asked) × (next_of program limit term answers ≡ Some a)

tells_of : (o : Outcome) (a : Asked) → asked o ≡ Some a → Tells o
tells_of (Asks a fs) b e = tt
tells_of (Over d fs) b e = tt
tells_of Lost b e = cc
tells_of Misfit b e = tt

pub sound_tells : Sound → (program : Program) (limit : ℕ) (term : Term) (answers : List Answer) → 2 ≤ limit → IsTyped program term → IsAllowed program limit term answers → Tells (outcome program limit term answers)
sound_tells sound program limit term answers two typed allowed = let a = sound program limit term answers two typed allowed in tells_of (outcome program limit term answers) a.0 a.1

got : (program : Program) (object : Val) (slot : ℕ) (x : Answer) → Allows program (act.Get object slot) x → accepts (act.Get object slot) x ≡ true
got program object slot (answer.Value v) h = refl
got program (val.Ref object (ty.Class class)) slot x h = absurd h
got program (val.Ref object of) slot x h = absurd h
got program object slot x h = absurd h

threw_it : (program : Program) (class : ℕ) (message : Option Piece) (x : Answer) → Allows program (act.Raise class message) x → accepts (act.Raise class message) x ≡ true
threw_it program class message (answer.Value v) h = refl
threw_it program class None x h = absurd h
threw_it program class (Some piece) x h = absurd h

-- an answer that is allowed is of the kind that the action takes
pub accepted : (program : Program) (a : Action) (x : Answer) → Allows program a x → accepts a x ≡ true
accepted program (act.Point p) x h = ap (accepts (act.Point p)) h
accepted program (act.Put object slot value) x h = ap (accepts (act.Put object slot value)) h
accepted program (act.InitEnd class ok) x h = ap (accepts (act.InitEnd class ok)) h
accepted program (act.Get object slot) x h = got program object slot x h
accepted program (act.Raise class message) x h = threw_it program class message x h
accepted program (act.Make class) (answer.Value v) h = refl
accepted program (act.Make class) (answer.Thrown k) h = refl
accepted program (act.InitBegin class) answer.Ready h = refl
accepted program (act.InitBegin class) answer.Go h = refl
accepted program a x h = absurd h

-- after an answer nothing is initialized at once
threw_ends : (x : Val) (f : CallFrame) (fs : List CallFrame) (a : Action) → (threw x f fs).want ≡ want.Do a → ⊥
threw_ends x f [] a e = cc
threw_ends x f (g ∷ gs) a e = threw_ends x g gs a e

raised_ends : (x : Answer) (r q : Run) (a : Action) → raised x r ≡ Some q → q.want ≡ want.Do a → ⊥
raised_ends (answer.Value v) r q a e w = let same : threw v r.top r.below ≡ q = cc in threw_ends v r.top r.below a (ap (λ q. q.want) same ∙ w)
raised_ends x r q a e w = cc

resumes_moves : (o : Option CallFrame) (fs : List CallFrame) (q : Run) (a : Action) → resumes o fs ≡ Some q → q.want ≡ want.Do a → ⊥
resumes_moves None fs q a e w = cc
resumes_moves (Some f) fs q a e w = cc

no_begin : (a : Action) (x : Answer) (r q : Run) (class : ℕ) → answered a x r ≡ Some q → q.want ≡ want.Do (act.InitBegin class) → ⊥
no_begin (act.Raise k message) x r q class e w = raised_ends x r q (act.InitBegin class) e w
no_begin a (answer.Thrown k) r q class e w = cc
no_begin a x r q class e w = resumes_moves (resumed a x r.top) r.below q (act.InitBegin class) e w

module _ (program : Program) (code : Code) (limit : ℕ) (term : Term) (answers : List Answer) where
  -- what the definition says of further answers
  abbrev after : List Answer → Outcome
  after more = outcome program limit term (answers ++ more)

  now_tells : Tells (outcome program limit term answers) → Tells (after [])
  now_tells t = subst (λ l. Tells (outcome program limit term l)) (sym (append-nil answers)) t

  now_is : (o : Outcome) → after [] ≡ o → outcome program limit term answers ≡ o
  now_is o e = subst (λ l. outcome program limit term l ≡ o) (append-nil answers) e

  pub goes_now : (t : Thread) → t.run.want ≡ want.Move → Follows program code limit term answers t → (q : Run) × (moves (loaded code t) t.run ≡ Some q)
  goes_now t w f = goes (loaded code t) after t.run w (now_tells f.tells) f.by

  wants_next : (m : Loaded) (r : Run) (a : Action) → r.want ≡ want.Do a → Tells (outcome program limit term answers) → Keeps m after r → next_of program limit term answers ≡ Some (record { action = a; frames = shown r })
  wants_next m r a w tells by = ap asked (now_is (Asks a (shown r)) (wants m after r a w (now_tells tells) by))

  pub wants_now : (t : Thread) (a : Action) → t.run.want ≡ want.Do a → Follows program code limit term answers t → next_of program limit term answers ≡ Some (record { action = a; frames = shown t.run })
  wants_now t a w f = wants_next (loaded code t) t.run a w f.tells f.by

  pub ends_now : (t : Thread) (d : Done) → t.run.want ≡ want.Over d → Follows program code limit term answers t → next_of program limit term answers ≡ Some (record { action = act.End d; frames = shown t.run })
  ends_now t d w f = ap asked (now_is (Over d (shown t.run)) (ends_so (loaded code t) after t.run d w (now_tells f.tells) f.by))

  -- an allowed answer is one more
  pub allowed_more : (t : Thread) (a : Action) (x : Answer) → t.run.want ≡ want.Do a → Allows program a x → Follows program code limit term answers t → IsAllowed program limit term (answers ++ x ∷ [])
  allowed_more t a x w allows f = one_more x (record { action = a; frames = shown t.run }) f.allowed (wants_now t a w f) allows refl

  -- where a class may be ready, the place behind its initialization is one of the body
  ready_fits : Sound → (m : Loaded) (q : Run) (class : ℕ) → 2 ≤ limit → IsTyped program term → IsAllowed program limit term answers → Tells (outcome program limit term answers) → Keeps m after q → q.want ≡ want.Do (act.InitBegin class)
      → ((b : CodeBody) → body_at m q.top.invocation ≡ Some b → length b.steps < 2 ^ 64) → q.top.place + 2 < 2 ^ 64
  ready_fits sound m q class two typed allowed tells by w bound =
      let asks = wants_next m q (act.InitBegin class) w tells by in
      let more : IsAllowed program limit term (answers ++ answer.Ready ∷ []) = one_more answer.Ready (record { action = act.InitBegin class; frames = shown q }) allowed asks tt refl in
      let tells_more = sound_tells sound program limit term (answers ++ answer.Ready ∷ []) two typed more in
      let p : Run = wanting want.Move (placed q.top (q.top.place + 2) q.top.operands.values) q.below in
      let kept = keeps_answer m after q p (act.InitBegin class) answer.Ready w refl refl by in
      let g = goes m (λ more. after (answer.Ready ∷ more)) p refl tells_more kept in
      let b = body_there m p g.0 g.1 in
      let x = instr_there m p g.0 b.0 b.1 g.1 in
      let within = slice_get_within b.0.steps (q.top.place + 2) x.0 x.1 in
      let most = bound b.0 b.1 in
      omega (arith, within, most)

  pub moved : Sound → (t : Thread) (q : Run) → t.run.want ≡ want.Move → moves (loaded code t) t.run ≡ Some q → ((b : CodeBody) → body_at (loaded code t) t.run.top.invocation ≡ Some b → length b.steps < 2 ^ 64)
      → Follows program code limit term answers t → Follows program code limit term answers (thread t.term t.body t.limit q)
  moved sound t q w e bound f =
      let by = keeps_move (loaded code t) after t.run q w e f.by in
      record {
        typed = f.typed;
        allowed = f.allowed;
        tells = f.tells;
        enough = f.enough;
        is_term = f.is_term;
        is_limit = f.is_limit;
        is_body = f.is_body;
        is_code = f.is_code;
        room = λ class wq. ready_fits sound (loaded code t) q class f.enough f.typed f.allowed f.tells by wq
            (λ b eb. bound b (ap (body_at (loaded code t)) (sym (asks_in (loaded code t) t.run q (act.InitBegin class) e wq)) ∙ eb));
        by = by;
      }

  pub takes_now : Sound → (t : Thread) (a : Action) (x : Answer) → t.run.want ≡ want.Do a → Allows program a x → Follows program code limit term answers t → (q : Run) × (answered a x t.run ≡ Some q)
  takes_now sound t a x w allows f =
      takes (loaded code t) after t.run a x w (accepted program a x allows) (sound_tells sound program limit term (answers ++ x ∷ []) f.enough f.typed (allowed_more t a x w allows f)) f.by

  pub told : Sound → (t : Thread) (a : Action) (x : Answer) (q : Run) → t.run.want ≡ want.Do a → accepts a x ≡ true → answered a x t.run ≡ Some q → Allows program a x → Follows program code limit term answers t
      → Follows program code limit term (answers ++ x ∷ []) (thread t.term t.body t.limit q)
  told sound t a x q w ok e allows f =
      let allowed = allowed_more t a x w allows f in
      record {
        typed = f.typed;
        allowed = allowed;
        tells = sound_tells sound program limit term (answers ++ x ∷ []) f.enough f.typed allowed;
        enough = f.enough;
        is_term = f.is_term;
        is_limit = f.is_limit;
        is_body = f.is_body;
        is_code = f.is_code;
        room = λ class wq. absurd (no_begin a x t.run q class e wq);
        by = λ more. subst (λ l. Tells (outcome program limit term l) → (n : ℕ) × (exec (loaded code t) n q more ≡ outcome program limit term l)) (sym (append_assoc answers (x ∷ []) more))
            (keeps_answer (loaded code t) after t.run q a x w ok e f.by more);
      }

begun : Sound → (program : Program) (limit : ℕ) (term : Term) → 2 ≤ limit → IsTyped program term → Follows program (program_code program) limit term [] (thread term (term_code program term) limit (begins term))
begun sound program limit term two typed = record {
  typed = typed;
  allowed = nothing refl;
  tells = sound_tells sound program limit term [] two typed (nothing refl);
  enough = two;
  is_term = refl;
  is_limit = refl;
  is_body = refl;
  is_code = refl;
  room = λ class w. absurd (cc);
  by = term_runs program limit term typed.is_program.few (omega arith);
}

pub started : Sound → (program : Program) (code : Code) (limit : ℕ) (term : Term) (body : CodeBody) (t : Thread) → 2 ≤ limit → IsTyped program term → body ≡ term_code program term → code ≡ program_code program
    → t ≡ thread term body limit (wanting want.Move (record { invocation = invocation_of_term; activation = start_of term; place = 0; operands = record { values = []; room = body.depth } }) []) → Follows program code limit term [] t
started sound program code limit term body t two typed eb ec et =
    let e : t ≡ thread term (term_code program term) limit (begins term) =
    et ∙ ap (λ b. thread term b limit (wanting want.Move (record { invocation = invocation_of_term; activation = start_of term; place = 0; operands = record { values = []; room = b.depth } }) [])) eb in
    subst (λ code. Follows program code limit term [] t) (sym ec) (subst (Follows program (program_code program) limit term []) (sym e) (begun sound program limit term two typed))

pub built : (term : Term) (body : CodeBody) (limit : ℕ) (i : Invocation) (a : Activation) (ops : Stack) (below : List CallFrame) → i ≡ invocation_of_term → a ≡ start_of term → ops ≡ record { values = []; room = body.depth } → below ≡ []
    → thread term body limit (wanting want.Move (record { invocation = i; activation = a; place = 0; operands = ops }) below)
    ≡ thread term body limit (wanting want.Move (record { invocation = invocation_of_term; activation = start_of term; place = 0; operands = record { values = []; room = body.depth } }) [])
built term body limit i a ops below ei ea eo ef =
    ap (λ fs. thread term body limit (wanting want.Move (record { invocation = i; activation = a; place = 0; operands = ops }) fs)) ef
    ∙ ap (λ o. thread term body limit (wanting want.Move (record { invocation = i; activation = a; place = 0; operands = o }) [])) eo
    ∙ ap (λ a. thread term body limit (wanting want.Move (record { invocation = i; activation = a; place = 0; operands = record { values = []; room = body.depth } }) [])) ea
    ∙ ap (λ i. thread term body limit (wanting want.Move (record { invocation = i; activation = start_of term; place = 0; operands = record { values = []; room = body.depth } }) [])) ei

pub on_ok : {T E A B : Type 0} → (r : Result T E) → (A → B) → OnOk r A → OnOk r B
on_ok (Ok x) f p = f p
on_ok (Err e) f p = tt

pub on_both : {T E A B C : Type 0} → (r : Result T E) → (A → B → C) → OnOk r A → OnOk r B → OnOk r C
on_both (Ok x) f p q = f p q
on_both (Err e) f p q = tt
