-- The classes of the built-in program one by one, and their fields.
use Rattle.std.proofs.Common.{◌≡◌, ℕ, zero, suc, true, false, [], Some, None, refl, sym, ap, ◌∙◌, subst}
use Rattle.std.specs.Prelude.{slice_get, ◌≢◌}
use Rattle.bj_core.specs.declared.program.Class.{Class}
use Rattle.bj_core.specs.declared.program.Field.{Field}
use Rattle.bj_core.specs.declared.types.Ty.TheVariants as t
use Rattle.bj_builtin.specs.Builtin.{builtin, object_class, thread_class, print_stream_class, input_stream_class, out_of_memory_class, cell_class, n_field}

-- a class of the prelude is no other
pub of_prelude : (d c : Class) → d.is_prelude ≡ true → Some d ≡ Some c → c.is_prelude ≡ false → ⊥
of_prelude d c ready e plain = let same : d ≡ c = cc in let yes : c.is_prelude ≡ true = subst (λ (k : Class). k.is_prelude ≡ true) same ready in cc

-- a class without fields has none
bare : (d c : Class) (slot : ℕ) (f : Field) → d.fields ≡ [] → Some d ≡ Some c → slice_get c.fields slot ≡ Some f → ⊥
bare d c slot f none e there =
    let same : d ≡ c = cc in
    let at_d : slice_get d.fields slot ≡ Some f = subst (λ (k : Class). slice_get k.fields slot ≡ Some f) (sym same) there in
    let nothing : None ≡ Some f = ap (λ fs. slice_get fs slot) (sym none) ∙ at_d in
    cc

no_members : (d c : Class) → d.fields ≡ [] → d.methods ≡ [] → Some d ≡ Some c → (c.fields ≡ []) × (c.methods ≡ [])
no_members d c fields methods e = let same : d ≡ c = cc in subst (λ (k : Class). (k.fields ≡ []) × (k.methods ≡ [])) same (fields, methods)

cell_field : (slot : ℕ) (f : Field) → slice_get cell_class.fields slot ≡ Some f → f.ty ≡ t.Int
cell_field zero f e = let same : n_field ≡ f = cc in ap (λ (g : Field). g.ty) (sym same)
cell_field (suc slot) f e = absurd (cc)

pub valued : (class slot : ℕ) (c : Class) (f : Field) → slice_get builtin.classes class ≡ Some c → slice_get c.fields slot ≡ Some f → f.ty ≢ t.Void
valued zero slot c f e there void = bare object_class c slot f refl e there
valued (suc zero) slot c f e there void = bare thread_class c slot f refl e there
valued (suc (suc zero)) slot c f e there void = bare print_stream_class c slot f refl e there
valued (suc (suc (suc zero))) slot c f e there void = bare input_stream_class c slot f refl e there
valued (suc (suc (suc (suc zero)))) slot c f e there void = bare out_of_memory_class c slot f refl e there
valued (suc (suc (suc (suc (suc zero))))) slot c f e there void =
    let same : cell_class ≡ c = cc in
    let int : f.ty ≡ t.Int = cell_field slot f (subst (λ (k : Class). slice_get k.fields slot ≡ Some f) (sym same) there) in
    absurd (cc)
valued (suc (suc (suc (suc (suc (suc class)))))) slot c f e there void = absurd (cc)

-- a class of the prelude has no members
pub memberless : (class : ℕ) (c : Class) → slice_get builtin.classes class ≡ Some c → c.is_prelude ≡ true → (c.fields ≡ []) × (c.methods ≡ [])
memberless zero c e ready = no_members object_class c refl refl e
memberless (suc zero) c e ready = no_members thread_class c refl refl e
memberless (suc (suc zero)) c e ready = no_members print_stream_class c refl refl e
memberless (suc (suc (suc zero))) c e ready = no_members input_stream_class c refl refl e
memberless (suc (suc (suc (suc zero)))) c e ready = no_members out_of_memory_class c refl refl e
memberless (suc (suc (suc (suc (suc zero))))) c e ready =
    let same : cell_class ≡ c = cc in
    let own : c.is_prelude ≡ false = subst (λ (k : Class). k.is_prelude ≡ false) same refl in
    absurd (cc)
memberless (suc (suc (suc (suc (suc (suc class)))))) c e ready = absurd (cc)
