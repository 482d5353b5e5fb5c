-- An answer of the store is one that the thread takes.
use Rattle.std.proofs.Common.{◌≡◌, ℕ, Bool, true, false, cond, Option, Some, None, ◌⊎◌, inl, inr, refl, sym, ap, ◌∙◌, subst}
use Rattle.bj_core.specs.declared.types.Ty.{Ty}
use Rattle.bj_core.specs.declared.types.Ty.TheVariants as ty
use Rattle.bj_core.specs.declared.types.Val.{Val}
use Rattle.bj_core.specs.declared.types.Val.TheVariants as val
use Rattle.bj_core.specs.declared.action.Action.{Action}
use Rattle.bj_core.specs.declared.action.Action.TheVariants as action
use Rattle.bj_core.specs.declared.action.Answer.{Answer}
use Rattle.bj_core.specs.declared.action.Answer.TheVariants as answer
use Rattle.bj_core.specs.declared.action.Piece.{Piece}
use Rattle.bj_core.specs.declared.frame.Point.{Point}
use Rattle.bj_core.specs.declared.program.Program.{Program}
use Rattle.bj_eval.specs.Allowed.{Allows}
use Rattle.bj_store.specs.Kept.{IsKept}
use Rattle.bj_store.specs.Kinds.{kind_of}
use Rattle.bj_store.specs.State.{State, lives}
use Rattle.bj_store.specs.React.{Answered, unfit, react}
use Rattle.bj_store.proofs.Kept.{fields_kind}
use Rattle.bj_machine.specs.Shown.{HasFields, end_in}
use Rattle.bj_machine.proofs.Defaults.{field_of_default, at_is_field, has_val}

-- the answer as the laws of the store tell of it
pub record Tells (p : Program) (s t : State) (x : Answer) : Type 0 where
  pub points : (at : Point) → react p s 1 (action.Point at) ≡ Answered x t → x ≡ answer.Done
  pub got : (object : Val) (slot : ℕ) → react p s 1 (action.Get object slot) ≡ Answered x t → (n class : ℕ) × (v : Val) × (object ≡ val.Ref n (ty.Class class)) × (x ≡ answer.Value v)
  pub put : (object : Val) (slot : ℕ) (value : Val) → react p s 1 (action.Put object slot value) ≡ Answered x t → (n class : ℕ) × (object ≡ val.Ref n (ty.Class class)) × (x ≡ answer.Done)
  pub made : (class : ℕ) → react p s 1 (action.Make class) ≡ Answered x t → ((n : ℕ) × (x ≡ answer.Value (val.Ref n (ty.Class class)))) ⊎ ((k : ℕ) × (x ≡ answer.Thrown k))
  pub begins : (class : ℕ) → react p s 1 (action.InitBegin class) ≡ Answered x t → (x ≡ answer.Ready) ⊎ (x ≡ answer.Go)
  pub ends : (class : ℕ) (ok : Bool) → react p s 1 (action.InitEnd class ok) ≡ Answered x t → x ≡ answer.Done
  pub raised : (class : ℕ) (message : Option Piece) → react p s 1 (action.Raise class message) ≡ Answered x t → (n : ℕ) × (of : Ty) × (x ≡ answer.Value (val.Ref n of))

got_allows : (p : Program) (s t : State) (object : Val) (slot : ℕ) (x : Answer) (n class : ℕ) (v : Val) → object ≡ val.Ref n (ty.Class class) → x ≡ answer.Value v
    → HasFields p → IsKept p s → react p s 1 (action.Get object slot) ≡ Answered x t → Allows p (action.Get object slot) x
got_allows p s t object slot x n class v is_ref is_value fields kept e =
    let got : react p s 1 (action.Get (val.Ref n (ty.Class class)) slot) ≡ Answered (answer.Value v) t =
    ap (λ (o : Val). react p s 1 (action.Get o slot)) (sym is_ref) ∙ (e ∙ ap (λ (y : Answer). Answered y t) is_value) in
    let k = fields_kind p s t 1 n class slot v kept got in
    let f = field_of_default p class slot k.0 k.1 in
    let value : Allows p (action.Get (val.Ref n (ty.Class class)) slot) (answer.Value v) =
    (f.0, f.1, has_val p f.0.ty v (at_is_field p class slot f.0 fields f.1) (k.2 ∙ ap kind_of (sym f.2))) in
    subst (λ (o : Val). Allows p (action.Get o slot) x) (sym is_ref) (subst (λ (y : Answer). Allows p (action.Get (val.Ref n (ty.Class class)) slot) y) (sym is_value) value)

made_allows : (p : Program) (class : ℕ) (x : Answer) → ((n : ℕ) × (x ≡ answer.Value (val.Ref n (ty.Class class)))) ⊎ ((k : ℕ) × (x ≡ answer.Thrown k)) → Allows p (action.Make class) x
made_allows p class x (inl (n, e)) = subst (λ (y : Answer). Allows p (action.Make class) y) (sym e) refl
made_allows p class x (inr (k, e)) = subst (λ (y : Answer). Allows p (action.Make class) y) (sym e) tt

begin_allows : (p : Program) (class : ℕ) (x : Answer) → (x ≡ answer.Ready) ⊎ (x ≡ answer.Go) → Allows p (action.InitBegin class) x
begin_allows p class x (inl e) = subst (λ (y : Answer). Allows p (action.InitBegin class) y) (sym e) tt
begin_allows p class x (inr e) = subst (λ (y : Answer). Allows p (action.InitBegin class) y) (sym e) tt

raised_allows : (p : Program) (class : ℕ) (x : Answer) (n : ℕ) (of : Ty) → x ≡ answer.Value (val.Ref n of) → Allows p (action.Raise class None) x
raised_allows p class x n of e = subst (λ (y : Answer). Allows p (action.Raise class None) y) (sym e) tt

-- no row answers
never : {X : Type 0} (b : Bool) (x : Answer) (t : State) → cond b unfit unfit ≡ Answered x t → X
never true x t e = absurd (cc)
never false x t e = absurd (cc)

pub allows : (p : Program) (s t : State) (a : Action) (x : Answer) → Tells p s t x → HasFields p → IsKept p s → end_in (Some a) ≡ None → react p s 1 a ≡ Answered x t → Allows p a x
allows p s t (action.Point at) x told fields kept n e = told.points at e
allows p s t (action.Get object slot) x told fields kept n e = let g = told.got object slot e in got_allows p s t object slot x g.0 g.1 g.2 g.3 g.4 fields kept e
allows p s t (action.Put object slot value) x told fields kept n e = (told.put object slot value e).3
allows p s t (action.Make class) x told fields kept n e = made_allows p class x (told.made class e)
allows p s t (action.InitBegin class) x told fields kept n e = begin_allows p class x (told.begins class e)
allows p s t (action.InitEnd class ok) x told fields kept n e = told.ends class ok e
allows p s t (action.Raise class None) x told fields kept n e = let r = told.raised class None e in raised_allows p class x r.0 r.1 r.2
allows p s t (action.Raise class (Some message)) x told fields kept n e = never (lives s 1) x t e
allows p s t (action.End done) x told fields kept n e = absurd (cc)
allows p s t a x told fields kept n e = never (lives s 1) x t e
