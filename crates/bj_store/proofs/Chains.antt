-- The default values of an object, one class at a time.
use Rattle.std.proofs.Common.{◌≡◌, ℕ, suc, ◌-◌, ◌<◌, List, ◌++◌, Option, Some, None, append_assoc, append-nil, sym, ap, ◌∙◌, arith}
use Rattle.std.specs.Prelude.{slice_get}
use Rattle.bj_core.specs.declared.types.Val.{Val}
use Rattle.bj_core.specs.declared.program.Class.{Class}
use Rattle.bj_core.specs.declared.program.Field.{Field}
use Rattle.bj_store.specs.Objects.{defaults, class_defaults, above_defaults, own_defaults}

module _ (classes : List Class) (class depth : ℕ) (before : List Val) where
  more : 0 < depth → defaults depth classes class ≡ class_defaults (defaults (depth - 1) classes) (slice_get classes class)
  more some = let e : depth ≡ suc (depth - 1) = omega arith in ap (λ (n : ℕ). defaults n classes class) e

  pub no_class : 0 < depth → slice_get classes class ≡ None → before ≡ before ++ defaults depth classes class
  no_class some e = sym (append-nil before) ∙ ap (λ (vs : List Val). before ++ vs) (sym (more some ∙ ap (class_defaults (defaults (depth - 1) classes)) e))

  with_class : (c : Class) → 0 < depth → slice_get classes class ≡ Some c → defaults depth classes class ≡ above_defaults (defaults (depth - 1) classes) c.above ++ own_defaults c.fields
  with_class c some e = more some ∙ ap (class_defaults (defaults (depth - 1) classes)) e

  pub top_class : (c : Class) (fields : List Field) (after : List Val) → 0 < depth → slice_get classes class ≡ Some c → c.above ≡ None → fields ≡ c.fields
      → after ≡ before ++ own_defaults fields → after ≡ before ++ defaults depth classes class
  top_class c fields after some e none same is = is ∙ (ap (λ (fs : List Field). before ++ own_defaults fs) same ∙ ap (λ (vs : List Val). before ++ vs)
      (sym (with_class c some e ∙ ap (λ (a : Option ℕ). above_defaults (defaults (depth - 1) classes) a ++ own_defaults c.fields) none)))

  pub lower_class : (c : Class) (above : ℕ) (fields : List Field) (middle after : List Val) → 0 < depth → slice_get classes class ≡ Some c → c.above ≡ Some above → fields ≡ c.fields
      → middle ≡ before ++ defaults (depth - 1) classes above → after ≡ middle ++ own_defaults fields → after ≡ before ++ defaults depth classes class
  lower_class c above fields middle after some e up same half is =
      is ∙ (ap (λ (fs : List Field). middle ++ own_defaults fs) same
      ∙ (ap (λ (vs : List Val). vs ++ own_defaults c.fields) half
      ∙ (append_assoc before (defaults (depth - 1) classes above) (own_defaults c.fields)
      ∙ ap (λ (vs : List Val). before ++ vs) (sym (with_class c some e ∙ ap (λ (a : Option ℕ). above_defaults (defaults (depth - 1) classes) a ++ own_defaults c.fields) up)))))
