-- The lines of an object's fields, one class at a time.
use Rattle.std.proofs.Common.{◌≡◌, ℕ, suc, ◌+◌, ◌-◌, ◌<◌, List, [], ◌∷◌, ◌++◌, length, length-append, append_assoc, Option, Some, None, refl, sym, ap, ◌∙◌, arith}
use Rattle.std.specs.Prelude.{slice_get}
use Rattle.bj_core.specs.declared.program.Class.{Class}
use Rattle.bj_core.specs.declared.program.Field.{Field}
use Rattle.bj_core.specs.declared.program.Program.{Program}
use Rattle.bj_eval.specs.Fields.{fields_to, fields_with, fields_from, of_objects}
use Rattle.bj_store.specs.State.{State}
use Rattle.bj_say.specs.Views.{FieldRow, own_rows, slots_above, rows_above, rows_with, rows_to, row_text, rows_text}

-- the lines of two lists of fields stand one behind the other
joined : (p : Program) (xs ys : List FieldRow) → rows_text p (xs ++ ys) ≡ rows_text p xs ++ rows_text p ys
joined p [] ys = refl
joined p (x ∷ xs) ys = ap (λ (us : List ℕ). row_text p x ++ us) (joined p xs ys) ∙ sym (append_assoc (row_text p x) (rows_text p xs) (rows_text p ys))

-- a text to which the lines of two lists are added in turn has the lines of both
both : (p : Program) (xs ys : List FieldRow) (before middle after : List ℕ) → middle ≡ before ++ rows_text p xs → after ≡ middle ++ rows_text p ys → after ≡ before ++ rows_text p (xs ++ ys)
both p xs ys before middle after half is =
    is ∙ (ap (λ (us : List ℕ). us ++ rows_text p ys) half ∙ (append_assoc before (rows_text p xs) (rows_text p ys) ∙ ap (λ (us : List ℕ). before ++ us) (sym (joined p xs ys))))

module _ (classes : List Class) (class depth : ℕ) (c : Class) (some : 0 < depth) (found : Some c ≡ slice_get classes class) where
  -- the fields of a class are its own behind those above
  fields_of : fields_to depth classes class ≡ fields_from (fields_to (depth - 1) classes) c.above ++ of_objects c.fields
  fields_of = let more : depth ≡ suc (depth - 1) = omega arith in
      ap (λ (n : ℕ). fields_to n classes class) more ∙ ap (fields_with (fields_to (depth - 1) classes)) (sym found)

  rows_of : (s : State) (object : ℕ) → rows_to depth classes s object class ≡ rows_above (rows_to (depth - 1) classes s object) c.above ++ own_rows s object class (slots_above (depth - 1) classes c.above) c.fields
  rows_of s object = let more : depth ≡ suc (depth - 1) = omega arith in
      ap (λ (n : ℕ). rows_to n classes s object class) more ∙ ap (rows_with (depth - 1) classes s object class (rows_to (depth - 1) classes s object)) (sym found)

  -- the slot after the fields of a class that has none above it
  pub top_slot : (fields : List Field) (next : ℕ) → c.above ≡ None → fields ≡ c.fields → next ≡ 0 + length (of_objects fields) → next ≡ length (fields_to depth classes class)
  top_slot fields next none own is =
      let all : length (fields_to depth classes class) ≡ length (of_objects c.fields) = ap (λ (fs : List Field). length fs) (fields_of ∙ ap (λ (a : Option ℕ). fields_from (fields_to (depth - 1) classes) a ++ of_objects c.fields) none) in
      let same : length (of_objects fields) ≡ length (of_objects c.fields) = ap (λ (fs : List Field). length (of_objects fs)) own in
      omega arith

  -- the slot after the fields of a class below another
  pub lower_slot : (above : ℕ) (fields : List Field) (first next : ℕ) → c.above ≡ Some above → fields ≡ c.fields → first ≡ length (fields_to (depth - 1) classes above)
      → next ≡ first + length (of_objects fields) → next ≡ length (fields_to depth classes class)
  lower_slot above fields first next up own half is =
      let all : length (fields_to depth classes class) ≡ length (fields_to (depth - 1) classes above ++ of_objects c.fields) = ap (λ (fs : List Field). length fs) (fields_of ∙ ap (λ (a : Option ℕ). fields_from (fields_to (depth - 1) classes) a ++ of_objects c.fields) up) in
      let same : length (of_objects fields) ≡ length (of_objects c.fields) = ap (λ (fs : List Field). length (of_objects fs)) own in
      omega (arith, length-append (fields_to (depth - 1) classes above) (of_objects c.fields))

  -- the lines of a class below another
  pub lower_lines : (p : Program) (s : State) (object above : ℕ) (fields : List Field) (first : ℕ) (before middle after : List ℕ) → c.above ≡ Some above → fields ≡ c.fields
      → first ≡ length (fields_to (depth - 1) classes above) → middle ≡ before ++ rows_text p (rows_to (depth - 1) classes s object above)
      → after ≡ middle ++ rows_text p (own_rows s object class first fields) → after ≡ before ++ rows_text p (rows_to depth classes s object class)
  lower_lines p s object above fields first before middle after up own slot half is =
      both p (rows_to (depth - 1) classes s object above) (own_rows s object class first fields) before middle after half is
      ∙ ap (λ (rs : List FieldRow). before ++ rows_text p rs)
      (ap (λ (n : ℕ). rows_to (depth - 1) classes s object above ++ own_rows s object class n fields) slot
      ∙ (ap (λ (fs : List Field). rows_to (depth - 1) classes s object above ++ own_rows s object class (length (fields_to (depth - 1) classes above)) fs) own
      ∙ sym (rows_of s object ∙ ap (λ (a : Option ℕ). rows_above (rows_to (depth - 1) classes s object) a ++ own_rows s object class (slots_above (depth - 1) classes a) c.fields) up)))
