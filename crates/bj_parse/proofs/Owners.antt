-- What the laws of annotations and modifiers ask of the places that the modifiers of a part may belong to.
use Rattle.std.proofs.Common.{◌≡◌, ℕ, ◌<◌, ◌⊎◌, List, [], ◌∷◌, Option}
use Rattle.bj_base.specs.declared.span.Span.{Span}
use Rattle.bj_tree.specs.declared.class.Modifier.{Modifier}
use Rattle.bj_rules.specs.declared.place.Place.{Place}
use Rattle.bj_grammar.specs.Reader.{Text, Found}
use Rattle.bj_grammar.proofs.Laws.{Rel, Completes}
use Rattle.bj_class.specs.Reading.{modifiers}
use Rattle.bj_parse.specs.declared.annotations.AnnotationsEnd.TheVariants as ends
use Rattle.bj_parse.specs.Early.{annotations_end}
use Rattle.bj_parse.specs.Marks.{MayHave}

abbrev pub IsAmong : Place → List Place → Type 0
IsAmong x [] = ⊥
IsAmong x (y ∷ rest) = (x ≡ y) ⊎ IsAmong x rest

-- The places are those of the parts that begin at n with the tokens before k, where modifiers end before q.
pub record OwnerLaws {A : Type 0} (D : Rel A) (placed : A → Option Place) (place : ℕ → Span) (most : ℕ) (s : Text) (n k : ℕ) (owners : ℕ → List Place) : Type 0 where
  pub complete : (i q : ℕ) (ms : List Modifier) → annotations_end place most most s n ≡ ends.Behind i → modifiers place most s i ≡ Found ms q
      → (owner : Place) → MayHave D placed place s n k owner → IsAmong owner (owners q)
  pub sound : (i q : ℕ) (ms : List Modifier) → annotations_end place most most s n ≡ ends.Behind i → modifiers place most s i ≡ Found ms q → n < q → Completes D s n k
      → (owner : Place) → IsAmong owner (owners q) → MayHave D placed place s n k owner
