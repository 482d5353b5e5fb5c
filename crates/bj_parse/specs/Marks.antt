-- What annotations and modifiers belong to, and which of them do not fit where no class and no member stands whole.
use Rattle.std.specs.Prelude.{◌≡◌, ℕ, suc, ◌<◌, true, List, ◌∷◌, ◌++◌, Option, Some, None}
use Rattle.bj_base.specs.declared.span.Span.{Span}
use Rattle.bj_tree.specs.declared.class.AnnotationTree.{AnnotationTree}
use Rattle.bj_tree.specs.declared.class.ClassKind.{ClassKind}
use Rattle.bj_tree.specs.declared.class.Modifier.{Modifier}
use Rattle.bj_tree.specs.declared.member.MemberTree.{MemberTree}
use Rattle.bj_tree.specs.declared.member.MemberTree.TheVariants as m
use Rattle.bj_rules.specs.declared.misfit.Misfit.{Misfit}
use Rattle.bj_rules.specs.declared.place.Place.{Place}
use Rattle.bj_rules.specs.declared.place.Place.TheVariants as places
use Rattle.bj_rules.specs.Modifiers.{modifier_misfit}
use Rattle.bj_rules.specs.Rules.{annotation_misfit, annotations_misfit, class_place, field_place, method_place}
use Rattle.bj_grammar.specs.declared.terminal.Terminal.TheVariants as t
use Rattle.bj_grammar.specs.Terminal.{terminal, among}
use Rattle.bj_grammar.specs.Reader.{Text}
use Rattle.bj_class.specs.declared.head.ClassHead.{ClassHead}
use Rattle.bj_class.specs.Grammar.{Annotation, Annotations, ModifierList, modifier, modifier_words}

-- what the modifiers of a member belong to; an initializer and a semicolon have none
abbrev pub member_place : ClassKind → MemberTree → Option Place
member_place kind (m.Field a) = Some (field_place kind)
member_place kind (m.Method a) = Some (method_place kind)
member_place kind (m.Constructor a) = Some places.Constructor
member_place kind (m.Initializer a) = None
member_place kind (m.Empty at) = None

-- what the modifiers before a class or an interface belong to
abbrev pub head_place : ClassHead → Option Place
head_place h = Some (class_place h.kind)

-- The parts of one kind: which tree stands where, and what its modifiers belong to.
module _ {A : Type 0} (D : Text → A → ℕ → ℕ → Type 0) (placed : A → Option Place) (place : ℕ → Span) (s : Text) (n : ℕ) where
  -- A part that begins at n with the tokens before k may have modifiers of a place: in some text that goes on from them one has.
  pub record MayHave (k : ℕ) (owner : Place) : Type 0 where
    pub text : Text
    pub tree : A
    pub after : ℕ
    pub same : (x : ℕ) → x < k → text x ≡ s x
    pub stands : D text tree n after
    pub has : placed tree ≡ Some owner

  -- a modifier behind some fits in one of the parts that begin so
  pub record MayFit (k : ℕ) (before : List Modifier) (one : Modifier) : Type 0 where
    pub owner : Place
    pub may : MayHave k owner
    pub fits : modifier_misfit owner before one ≡ None

  -- no part begins with the tokens before k
  abbrev pub NoneBegins : ℕ → Type 0
  NoneBegins k = (text : Text) (tree : A) (after : ℕ) → ((x : ℕ) → x < k → text x ≡ s x) → D text tree n after → ⊥

  -- The first annotation or modifier of a part that does not fit.
  pub data UnfitMark (x : Misfit) : Type 0 where
    -- an annotation that stands whole, with the parentheses behind its name; those before it fit
    of_annotation : {notes : List AnnotationTree} {note : AnnotationTree} {i j : ℕ} → Annotations place s notes n i → annotations_misfit notes ≡ None → Annotation place s note i j
        → (terminal (s (suc (suc i))) ≡ t.LeftParen → suc (suc i) < j) → annotation_misfit note ≡ Some x → UnfitMark x
    -- A modifier before k, the first token with which the part goes wrong: it fits in no part that begins with the tokens before k, and each
    -- modifier before it fits in one.
    of_modifier : {notes : List AnnotationTree} {before : List Modifier} {owner : Place} {i p k : ℕ} → Annotations place s notes n i → annotations_misfit notes ≡ None → ModifierList place s before i p
        → among modifier_words (terminal (s p)) ≡ true → p < k → NoneBegins (suc k)
        → ((b : List Modifier) (one : Modifier) (c : List Modifier) → before ≡ b ++ one ∷ c → MayFit k b one)
        → MayHave k owner → modifier_misfit owner before (modifier (place p) (s p)) ≡ Some x → (MayFit k before (modifier (place p) (s p)) → ⊥)
        → UnfitMark x
