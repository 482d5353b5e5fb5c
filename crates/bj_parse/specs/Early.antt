-- How the annotations and modifiers of a part are judged where the grammar stops it, as a function on texts.
use Rattle.std.specs.Prelude.{ℕ, zero, suc, ◌&&◌, not, if◌then◌else◌, nat_lt, List, [], ◌∷◌, ◌++◌, Option, Some, None, is_none}
use Rattle.bj_base.specs.declared.span.Span.{Span}
use Rattle.bj_expr_tree.specs.declared.types.TypeTree.{TypeTree}
use Rattle.bj_tree.specs.declared.class.AnnotationTree.{AnnotationTree}
use Rattle.bj_tree.specs.declared.class.ClassKind.{ClassKind}
use Rattle.bj_tree.specs.declared.class.Modifier.{Modifier}
use Rattle.bj_rules.specs.declared.misfit.Misfit.{Misfit}
use Rattle.bj_rules.specs.declared.place.Place.{Place}
use Rattle.bj_rules.specs.declared.place.Place.TheVariants as places
use Rattle.bj_rules.specs.Misfits.{first}
use Rattle.bj_rules.specs.Modifiers.{modifier_misfit}
use Rattle.bj_rules.specs.Rules.{annotation_misfit, field_place, method_place}
use Rattle.bj_grammar.specs.declared.terminal.Terminal.TheVariants as t
use Rattle.bj_grammar.specs.Terminal.{terminal}
use Rattle.bj_grammar.specs.Reader.{Text, Answer, Found, Wrong, Over}
use Rattle.bj_expr.specs.Reading.{is, type_at}
use Rattle.bj_class.specs.Reading as r
use Rattle.bj_class.specs.Reading.{is_called, is_static_block}
use Rattle.bj_parse.specs.declared.annotations.AnnotationsEnd.{AnnotationsEnd}
use Rattle.bj_parse.specs.declared.annotations.AnnotationsEnd.TheVariants as ends

-- ---- modifiers, of which it may not be known yet what they belong to

-- what is told of a modifier that fits at none of some places, and at none before them
abbrev pub unfit_behind : List Modifier → Modifier → Option Misfit → List Place → Option Misfit
unfit_behind before one told [] = told
unfit_behind before one told (owner ∷ rest) = if is_none (modifier_misfit owner before one) then None else unfit_behind before one (modifier_misfit owner before one) rest

-- the first misfit of modifiers behind some, each of which may belong to any of the places
abbrev pub first_unfit : List Place → List Modifier → List Modifier → Option Misfit
first_unfit owners before [] = None
first_unfit owners before (one ∷ rest) = first (unfit_behind before one None owners ∷ first_unfit owners (before ++ one ∷ []) rest ∷ [])

-- whatever a member is
abbrev pub any_member : ClassKind → List Place
any_member kind = field_place kind ∷ method_place kind ∷ places.Constructor ∷ []

-- a field, or a method with a type
abbrev pub field_or_method : ClassKind → List Place
field_or_method kind = field_place kind ∷ method_place kind ∷ []

-- ---- annotations

-- what reading one annotation comes to
abbrev pub judged : Option Misfit → ℕ → AnnotationsEnd
judged None j = ends.Behind j
judged (Some x) j = ends.Unfit x

abbrev pub annotation_end : Answer AnnotationTree → AnnotationsEnd
annotation_end (Found note j) = judged (annotation_misfit note) j
annotation_end (Wrong k) = ends.Within
annotation_end (Over k at) = ends.Within

abbrev pub behind_one : AnnotationsEnd → (ℕ → AnnotationsEnd) → AnnotationsEnd
behind_one (ends.Behind j) rest = rest j
behind_one (ends.Unfit x) rest = ends.Unfit x
behind_one ends.Within rest = ends.Within

-- ---- what modifiers that end before q may belong to, as the tokens before k tell

-- behind a type that ends before o a name stands, and then the parenthesis of a method, or another token of a field
abbrev pub typed_places : ClassKind → Text → ℕ → Answer TypeTree → List Place
typed_places kind s k (Found type o) = if nat_lt (suc o) k then (if is t.LeftParen (terminal (s (suc o))) then method_place kind ∷ [] else field_place kind ∷ []) else field_or_method kind
typed_places kind s k (Wrong o) = field_or_method kind
typed_places kind s k (Over o at) = field_or_method kind

-- before `class`, before `interface`, or before either
unfoldable pub head_places : Text → ℕ → ℕ → List Place
head_places s q k = if nat_lt q k then (if is t.Interface (terminal (s q)) then places.Interface ∷ [] else places.Class ∷ []) else places.Class ∷ places.Interface ∷ []

abbrev pub modifiers_unfit : (ℕ → List Place) → Answer (List Modifier) → Option Misfit
modifiers_unfit owners (Found ms q) = first_unfit (owners q) [] ms
modifiers_unfit owners (Wrong o) = None
modifiers_unfit owners (Over o at) = None

-- Given where each token stands, and how many steps a loop may take.
module _ (place : ℕ → Span) (most : ℕ) where
  -- what reading annotations one after another comes to, at most n
  unfoldable pub annotations_end : ℕ → Text → ℕ → AnnotationsEnd
  annotations_end zero s i = if is t.At (terminal (s i)) then ends.Within else ends.Behind i
  annotations_end (suc n) s i = if is t.At (terminal (s i)) then behind_one (annotation_end (r.annotation place most s i)) (λ j. annotations_end n s j) else ends.Behind i

  -- a name may be that of a constructor, or a type
  abbrev pub named_places : ClassKind → Text → ℕ → ℕ → List Place
  named_places kind s q k =
      if is t.Word (terminal (s q)) && not (nat_lt (suc q) k) then any_member kind
      else if is_called s q then places.Constructor ∷ []
      else typed_places kind s k (type_at place most s q)

  unfoldable pub member_places : ClassKind → Text → ℕ → ℕ → List Place
  member_places kind s q k =
      if nat_lt q k then (if is t.Void (terminal (s q)) then method_place kind ∷ [] else named_places kind s q k) else any_member kind

  -- ---- a part from n on that goes wrong at k

  abbrev pub behind_annotations : (ℕ → List Place) → Text → AnnotationsEnd → Option Misfit
  behind_annotations owners s (ends.Unfit x) = Some x
  behind_annotations owners s (ends.Behind i) = modifiers_unfit owners (r.modifiers place most s i)
  behind_annotations owners s ends.Within = None

  -- the first annotation or modifier that does not fit, given what the modifiers may belong to
  unfoldable pub unfit_mark : (ℕ → List Place) → Text → ℕ → Option Misfit
  unfit_mark owners s n = behind_annotations owners s (annotations_end most s n)

  -- `static` before a block is no modifier
  unfoldable pub early_member : ClassKind → Text → ℕ → ℕ → Option Misfit
  early_member kind s n k = if is_static_block s n && nat_lt (suc n) k then None else unfit_mark (λ q. member_places kind s q k) s n

  unfoldable pub early_head : Text → ℕ → ℕ → Option Misfit
  early_head s n k = unfit_mark (λ q. head_places s q k) s n
