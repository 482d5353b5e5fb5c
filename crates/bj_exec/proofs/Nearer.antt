-- An instruction leaves fewer instructions before the next action.
use Rattle.std.proofs.Common.{◌≡◌, ℕ, zero, suc, ◌+◌, ◌<◌, List, [], ◌∷◌, length, drop, Option, Some, None, Bool, true, false, refl, sym, ap, ◌∙◌, subst, arith}
use Rattle.std.specs.Prelude.{slice_get, nat_eq, nat_lt, if◌then◌else◌}
use Rattle.bj_core.specs.declared.types.Ty.TheVariants as ty
use Rattle.bj_core.specs.declared.types.Val.{Val}
use Rattle.bj_core.specs.declared.types.Val.TheVariants as val
use Rattle.bj_core.specs.declared.action.Action.{Action}
use Rattle.bj_code.specs.declared.code.Instr.{Instr}
use Rattle.bj_code.specs.declared.code.Instr.TheVariants as ins
use Rattle.bj_code.specs.declared.code.CodeBody.{CodeBody}
use Rattle.bj_code.specs.declared.frame.CallFrame.{CallFrame}
use Rattle.bj_code.specs.Step.{step, next, given_back}
use Rattle.bj_code.specs.Calling.{Call, call, cut, special, virtual}
use Rattle.bj_exec.specs.declared.run.Want.TheVariants as want
use Rattle.bj_exec.specs.declared.run.Run.{Run}
use Rattle.bj_exec.specs.Machine.{Loaded, wanting, done_with, at_rest, left, resumes, stepped, entering, called, called_frame, is_call, body_at, moves, plain_ahead, plain_in, ahead_of, ahead_below, ahead}
use Rattle.bj_exec.proofs.Shapes.{Shape, stuck, moved, asked, gone, shape}
use Rattle.bj_exec.proofs.Steps.{body_there, instr_there, does, enters, no_call}
use Rattle.bj_exec.proofs.Plain.{ArePlain}

-- the first of what is left
drops : (xs : List Instr) (n : ℕ) (x : Instr) → slice_get xs n ≡ Some x → drop n xs ≡ x ∷ drop (n + 1) xs
drops [] zero x e = cc
drops [] (suc n) x e = cc
drops (y ∷ xs) zero x e = let same : y ≡ x = cc in ap (λ y. y ∷ xs) same
drops (y ∷ xs) (suc n) x e = let m : suc n + 1 ≡ suc (n + 1) = omega arith in ap (λ l. l) (rw m (drops xs n x e))

-- ---- the caller of a call goes on behind the instruction

abbrev Behind : CallFrame → Call → Type 0
Behind f c = (c.caller.invocation ≡ f.invocation) × (c.caller.place ≡ f.place + 1)

cut_behind : (f : CallFrame) (n : ℕ) (vs : List Val) (g : List Val → List Val → Option Call) (c : Call) → ((ws us : List Val) (c : Call) → g ws us ≡ Some c → Behind f c) → cut n vs g ≡ Some c → Behind f c
cut_behind f zero vs g c h e = h [] vs c e
cut_behind f (suc n) [] g c h e = absurd (cc)
cut_behind f (suc n) (x ∷ vs) g c h e = cut_behind f n vs (λ ws us. g (x ∷ ws) us) c (λ ws us. h (x ∷ ws) us) e

special_behind : (class method : ℕ) (f : CallFrame) (ws us : List Val) (c : Call) → special class method f ws us ≡ Some c → Behind f c
special_behind class method f ws [] c e = absurd (cc)
special_behind class method f ws (o ∷ us) c e =
    let same : record { invocation = record { class = class; method = method; this = o }; values = ws; caller = next f (o ∷ us) } ≡ c = cc in
    subst (Behind f) same (refl, refl)

virtual_behind : (class method : ℕ) (f : CallFrame) (ws us : List Val) (c : Call) → virtual class method f ws us ≡ Some c → Behind f c
virtual_behind class method f ws (val.Ref object (ty.Class own) ∷ us) c e = by_class (nat_eq own class) e
  where
    by_class : (b : Bool) → (if b then Some (record { invocation = record { class = class; method = method; this = val.Ref object (ty.Class own) }; values = ws; caller = next f us }) else None) ≡ Some c → Behind f c
    by_class false g = absurd (cc)
    by_class true g =
        let same : record { invocation = record { class = class; method = method; this = val.Ref object (ty.Class own) }; values = ws; caller = next f us } ≡ c = cc in
        subst (Behind f) same (refl, refl)
virtual_behind class method f ws us c e = absurd (cc)

call_behind : (x : Instr) (f : CallFrame) (c : Call) → call x f ≡ Some c → Behind f c
call_behind (ins.InvokeStart class method) f c e =
    let same : record { invocation = record { class = class; method = method; this = val.Null }; values = []; caller = next f f.operands.values } ≡ c = cc in
    subst (Behind f) same (refl, refl)
call_behind (ins.InvokeSpecial class method n) f c e = cut_behind f n f.operands.values (special class method f) c (special_behind class method f) e
call_behind (ins.InvokeVirtual class method n) f c e = cut_behind f n f.operands.values (virtual class method f) c (virtual_behind class method f) e
call_behind x f c e = absurd (cc)

-- a call counts for two
call_counts : (x : Instr) (f : CallFrame) (c : Call) (rest : List Instr) → call x f ≡ Some c → plain_ahead (x ∷ rest) ≡ plain_ahead rest + 2
call_counts (ins.InvokeStart class method) f c rest e = refl
call_counts (ins.InvokeSpecial class method n) f c rest e = refl
call_counts (ins.InvokeVirtual class method n) f c rest e = refl
call_counts x f c rest e = absurd (cc)

module _ (m : Loaded) where
  -- ---- what a body is left with does not move its caller

  left_nearer : (u : Option Val) (g : CallFrame) (fs : List CallFrame) (q : Run) (n : ℕ) → left u g fs ≡ Some q → ahead m q.want q < suc n + ahead_below m fs
  left_nearer u g [] q n e = let w : wanting (want.Over (done_with u)) (at_rest g) [] ≡ q = cc in subst (λ q. ahead m q.want q < suc n + ahead_below m []) w (omega arith)
  left_nearer None g (h ∷ fs) q n e =
      let w : wanting want.Move h fs ≡ q = cc in
      subst (λ q. ahead m q.want q < suc n + ahead_below m (h ∷ fs)) w (omega arith)
  left_nearer (Some x) g (h ∷ fs) q n e = by_room (nat_lt (length h.operands.values) h.operands.room) e
    where
      by_room : (b : Bool) → resumes (if b then Some (record { invocation = h.invocation; activation = h.activation; place = h.place; operands = record { values = x ∷ h.operands.values; room = h.operands.room } }) else None) fs ≡ Some q
          → ahead m q.want q < suc n + ahead_below m (h ∷ fs)
      by_room false f = absurd (cc)
      by_room true f =
          let w : wanting want.Move (record { invocation = h.invocation; activation = h.activation; place = h.place; operands = record { values = x ∷ h.operands.values; room = h.operands.room } }) fs ≡ q = cc in
          subst (λ q. ahead m q.want q < suc n + ahead_below m (h ∷ fs)) w (omega arith)

  -- what is ahead of a frame at an instruction
  ahead_at : (f : CallFrame) (b : CodeBody) (x : Instr) → body_at m f.invocation ≡ Some b → slice_get b.steps f.place ≡ Some x → ahead_of m f ≡ plain_ahead (x ∷ drop (f.place + 1) b.steps) + 1
  ahead_at f b x eb ex = ap (λ o. plain_in o f.place + 1) eb ∙ ap (λ l. plain_ahead l + 1) (drops b.steps f.place x ex)

  ahead_behind : (f g : CallFrame) (b : CodeBody) → body_at m f.invocation ≡ Some b → g.invocation ≡ f.invocation → g.place ≡ f.place + 1 → ahead_of m g ≡ plain_ahead (drop (f.place + 1) b.steps) + 1
  ahead_behind f g b eb ei ep = ap (λ i. plain_in (body_at m i) g.place + 1) ei ∙ ap (λ o. plain_in o g.place + 1) eb ∙ ap (λ n. plain_ahead (drop n b.steps) + 1) ep

  step_nearer : (f : CallFrame) (fs : List CallFrame) (b : CodeBody) (x : Instr) (q : Run) → body_at m f.invocation ≡ Some b → slice_get b.steps f.place ≡ Some x → stepped (step (length fs + 1) x f) fs ≡ Some q
      → ahead m q.want q < ahead_of m f + ahead_below m fs
  step_nearer f fs b x q eb ex e = by_shape (shape f fs (length fs + 1) x)
    where
      by_shape : Shape x f fs (stepped (step (length fs + 1) x f) fs) → ahead m q.want q < ahead_of m f + ahead_below m fs
      by_shape (stuck s) = let n : None ≡ Some q = sym s ∙ e in absurd (cc)
      by_shape (moved vs counts s) =
          let n : Some (wanting want.Move (next f vs) fs) ≡ Some q = sym s ∙ e in
          let w : wanting want.Move (next f vs) fs ≡ q = cc in
          let now = ahead_at f b x eb ex in
          let behind_it = ahead_behind f (next f vs) b eb refl refl in
          let more = counts (drop (f.place + 1) b.steps) in
          subst (λ q. ahead m q.want q < ahead_of m f + ahead_below m fs) w (omega (arith, now, behind_it, more))
      by_shape (asked a g ei ep s) =
          let n : Some (wanting (want.Do a) g fs) ≡ Some q = sym s ∙ e in
          let w : wanting (want.Do a) g fs ≡ q = cc in
          subst (λ q. ahead m q.want q < ahead_of m f + ahead_below m fs) w (omega arith)
      by_shape (gone u g s) =
          let l = left_nearer u g fs q (plain_in (body_at m f.invocation) f.place) (sym s ∙ e) in
          omega (arith, l)

  call_nearer : ArePlain m → (f : CallFrame) (fs : List CallFrame) (b : CodeBody) (x : Instr) (c : Call) (q : Run) → body_at m f.invocation ≡ Some b → slice_get b.steps f.place ≡ Some x → call x f ≡ Some c
      → entering (body_at m c.invocation) c fs ≡ Some q → ahead m q.want q < ahead_of m f + ahead_below m fs
  call_nearer plain f fs b x c q eb ex ec e = by_body (body_at m c.invocation) refl e
    where
      by_body : (o : Option CodeBody) → body_at m c.invocation ≡ o → entering o c fs ≡ Some q → ahead m q.want q < ahead_of m f + ahead_below m fs
      by_body None ed n = absurd (cc)
      by_body (Some d) ed n =
          let w : wanting want.Move (called_frame d c) (c.caller ∷ fs) ≡ q = cc in
          let behind = call_behind x f c ec in
          let now = ahead_at f b x eb ex in
          let behind_it = ahead_behind f c.caller b eb behind.0 behind.1 in
          let more = call_counts x f c (drop (f.place + 1) b.steps) ec in
          let begins : ahead_of m (called_frame d c) ≡ 1 = ap (λ o. plain_in o 0 + 1) ed ∙ ap (λ n. n + 1) (plain c.invocation d ed) in
          subst (λ q. ahead m q.want q < ahead_of m f + ahead_below m fs) w (omega (arith, now, behind_it, more, begins))

  pub nearer : ArePlain m → (r q : Run) → r.want ≡ want.Move → moves m r ≡ Some q → ahead m q.want q < ahead m r.want r
  nearer plain r q w e =
      let b = body_there m r q e in
      let x = instr_there m r q b.0 b.1 e in
      let f = does m r q b.0 x.0 b.1 x.1 e in
      subst (λ w. ahead m q.want q < ahead m w r) (sym w) (by_call b.0 b.1 x.0 x.1 f (call x.0 r.top) refl)
    where
      by_call : (b : CodeBody) → body_at m r.top.invocation ≡ Some b → (x : Instr) → slice_get b.steps r.top.place ≡ Some x
          → (if is_call x then called m (call x r.top) r.below else stepped (step (length r.below + 1) x r.top) r.below) ≡ Some q → (o : Option Call) → call x r.top ≡ o → ahead m q.want q < ahead_of m r.top + ahead_below m r.below
      by_call b eb x ex f None ec = step_nearer r.top r.below b x q eb ex (no_call m r q x ec f)
      by_call b eb x ex f (Some c) ec = call_nearer plain r.top r.below b x c q eb ex ec (enters m r q x c ec f)

  -- ---- a frame that asks is that of the body that ran

  left_asks : (u : Option Val) (g : CallFrame) (fs : List CallFrame) (q : Run) (a : Action) → left u g fs ≡ Some q → q.want ≡ want.Do a → ⊥
  left_asks u g [] q a e w = cc
  left_asks None g (h ∷ fs) q a e w = cc
  left_asks (Some x) g (h ∷ fs) q a e w = by_frame (given_back x h) e
    where
      by_frame : (o : Option CallFrame) → resumes o fs ≡ Some q → ⊥
      by_frame None f = cc
      by_frame (Some h) f = cc

  pub asks_in : (r q : Run) (a : Action) → moves m r ≡ Some q → q.want ≡ want.Do a → q.top.invocation ≡ r.top.invocation
  asks_in r q a e w =
      let b = body_there m r q e in
      let x = instr_there m r q b.0 b.1 e in
      by_call x.0 (does m r q b.0 x.0 b.1 x.1 e) (call x.0 r.top) refl
    where
      by_shape : (x : Instr) (o : Option Run) → o ≡ Some q → Shape x r.top r.below o → q.top.invocation ≡ r.top.invocation
      by_shape x o eo (stuck s) = absurd (cc)
      by_shape x o eo (moved vs counts s) = absurd (cc)
      by_shape x o eo (asked b g ei ep s) = let n : Some (wanting (want.Do b) g r.below) ≡ Some q = sym s ∙ eo in let same : wanting (want.Do b) g r.below ≡ q = cc in ap (λ q. q.top.invocation) (sym same) ∙ ei
      by_shape x o eo (gone u g s) = absurd (left_asks u g r.below q a (sym s ∙ eo) w)

      by_body : (o : Option CodeBody) (c : Call) → entering o c r.below ≡ Some q → q.top.invocation ≡ r.top.invocation
      by_body None c f = absurd (cc)
      by_body (Some d) c f = absurd (cc)

      by_call : (x : Instr) → (if is_call x then called m (call x r.top) r.below else stepped (step (length r.below + 1) x r.top) r.below) ≡ Some q → (o : Option Call) → call x r.top ≡ o → q.top.invocation ≡ r.top.invocation
      by_call x f None ec = by_shape x (stepped (step (length r.below + 1) x r.top) r.below) (no_call m r q x ec f) (shape r.top r.below (length r.below + 1) x)
      by_call x f (Some c) ec = by_body (body_at m c.invocation) c (enters m r q x c ec f)
