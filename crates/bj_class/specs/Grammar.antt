-- The grammar of files with their classes [JLS 7.3, 7.5, 8, 9, 9.7]: which tree stands in a text from a place up to another. Each constructor is a production.
-- Trees name their places by `place`, which gives where the token at each place of the text stands.
use Rattle.std.specs.Prelude.{◌≡◌, ℕ, suc, Bool, true, false, List, [], ◌∷◌, ◌++◌, length, Option, Some, None, codes}
use Rattle.bj_base.specs.declared.span.Span.{Span}
use Rattle.bj_token.specs.declared.token.Token.{Token}
use Rattle.bj_expr_tree.specs.declared.types.NamedPlace.{NamedPlace}
use Rattle.bj_expr_tree.specs.declared.types.TypeTree.{TypeTree}
use Rattle.bj_tree.specs.declared.stmt.VariableTree.{VariableTree}
use Rattle.bj_tree.specs.declared.stmt.StmtTree.{StmtTree}
use Rattle.bj_tree.specs.declared.class.ModifierKind.{ModifierKind}
use Rattle.bj_tree.specs.declared.class.ModifierKind.TheVariants as kinds
use Rattle.bj_tree.specs.declared.class.Modifier.{Modifier}
use Rattle.bj_tree.specs.declared.class.AnnotationTree.{AnnotationTree}
use Rattle.bj_tree.specs.declared.class.ImportTree.{ImportTree}
use Rattle.bj_tree.specs.declared.class.ClassKind.TheVariants as forms
use Rattle.bj_tree.specs.declared.class.ClassTree.{ClassTree}
use Rattle.bj_tree.specs.declared.member.ParameterTree.{ParameterTree}
use Rattle.bj_tree.specs.declared.member.MemberTree.{MemberTree}
use Rattle.bj_tree.specs.declared.member.MemberTree.TheVariants as m
use Rattle.bj_grammar.specs.declared.terminal.Terminal.{Terminal}
use Rattle.bj_grammar.specs.declared.terminal.Terminal.TheVariants as t
use Rattle.bj_grammar.specs.Terminal.{terminal, among}
use Rattle.bj_grammar.specs.Reader.{Text}
use Rattle.bj_expr.specs.Grammar.{TypeAt, Dims}
use Rattle.bj_stmt.specs.Grammar.{named, MaybeFinal, Variables, Block, ConstructorBody}
use Rattle.bj_class.specs.declared.head.ClassHead.{ClassHead}

-- ---- small parts

-- `static`, or nothing
pub data MaybeStatic (s : Text) : Bool → ℕ → ℕ → Type 0 where
  not_static : {a : Bool} {i j : ℕ} → a ≡ false → j ≡ i → MaybeStatic s a i j
  static : {a : Bool} {i j : ℕ} → terminal (s i) ≡ t.Static → a ≡ true → j ≡ suc i → MaybeStatic s a i j

-- names with a sign between them
pub data NamesBy (sign : Terminal) (place : ℕ → Span) (s : Text) : List NamedPlace → ℕ → ℕ → Type 0 where
  first_name : {a : List NamedPlace} {i j : ℕ} → terminal (s i) ≡ t.Word → a ≡ named (place i) (s i) ∷ [] → j ≡ suc i → NamesBy sign place s a i j
  next_name : {a : List NamedPlace} {b : List NamedPlace} {i n j : ℕ} → NamesBy sign place s b i n → terminal (s n) ≡ sign → terminal (s (suc n)) ≡ t.Word
      → a ≡ b ++ named (place (suc n)) (s (suc n)) ∷ [] → j ≡ suc (suc n) → NamesBy sign place s a i j

-- a keyword with names after it, or nothing [JLS 8.1.5, 8.4.6, 9.1.3]
pub data MaybeNames (keyword : Terminal) (place : ℕ → Span) (s : Text) : List NamedPlace → ℕ → ℕ → Type 0 where
  no_names : {a : List NamedPlace} {i j : ℕ} → a ≡ [] → j ≡ i → MaybeNames keyword place s a i j
  names : {a : List NamedPlace} {i j : ℕ} → terminal (s i) ≡ keyword → NamesBy t.Comma place s a (suc i) j → MaybeNames keyword place s a i j

-- ---- imports [JLS 7.5]

-- `.*`, or nothing
pub data MaybeAll (s : Text) : Bool → ℕ → ℕ → Type 0 where
  not_all : {a : Bool} {i j : ℕ} → a ≡ false → j ≡ i → MaybeAll s a i j
  all : {a : Bool} {i j : ℕ} → terminal (s i) ≡ t.Dot → terminal (s (suc i)) ≡ t.Times → a ≡ true → j ≡ suc (suc i) → MaybeAll s a i j

pub data Import (place : ℕ → Span) (s : Text) : ImportTree → ℕ → ℕ → Type 0 where
  import : {a : ImportTree} {f : Bool} {ns : List NamedPlace} {d : Bool} {i k n o j : ℕ} → terminal (s i) ≡ t.Import → MaybeStatic s f (suc i) k → NamesBy t.Dot place s ns k n → MaybeAll s d n o → terminal (s o) ≡ t.Semicolon
      → a ≡ record { at = place i; is_static = f; names = ns; is_on_demand = d } → j ≡ suc o → Import place s a i j

pub data Imports (place : ℕ → Span) (s : Text) : List ImportTree → ℕ → ℕ → Type 0 where
  no_imports : {a : List ImportTree} {i j : ℕ} → a ≡ [] → j ≡ i → Imports place s a i j
  next_import : {a : List ImportTree} {b : List ImportTree} {c : ImportTree} {i n j : ℕ} → Imports place s b i n → Import place s c n j → a ≡ b ++ c ∷ [] → Imports place s a i j

-- ---- annotations and modifiers

-- how the element of an annotation is spelled that JUnit reads
abbrev pub expected : List ℕ
expected = codes "expected"

-- an annotation without elements, or with a class for `expected` [JLS 9.7]
pub data Annotation (place : ℕ → Span) (s : Text) : AnnotationTree → ℕ → ℕ → Type 0 where
  marker : {a : AnnotationTree} {i j : ℕ} → terminal (s i) ≡ t.At → terminal (s (suc i)) ≡ t.Word → a ≡ record { at = place i; name = named (place (suc i)) (s (suc i)); expected = None } → j ≡ suc (suc i) → Annotation place s a i j
  expecting : {a : AnnotationTree} {i n j : ℕ} → terminal (s i) ≡ t.At → terminal (s (suc i)) ≡ t.Word → n ≡ suc (suc i) → terminal (s n) ≡ t.LeftParen → terminal (s (suc n)) ≡ t.Word → (s (suc n)).text ≡ expected
      → terminal (s (suc (suc n))) ≡ t.Assign → terminal (s (suc (suc (suc n)))) ≡ t.Word → terminal (s (suc (suc (suc (suc n))))) ≡ t.Dot → terminal (s (suc (suc (suc (suc (suc n)))))) ≡ t.Class
      → terminal (s (suc (suc (suc (suc (suc (suc n))))))) ≡ t.RightParen
      → a ≡ record { at = place i; name = named (place (suc i)) (s (suc i)); expected = Some (named (place (suc (suc (suc n)))) (s (suc (suc (suc n))))) } → j ≡ suc (suc (suc (suc (suc (suc (suc n)))))) → Annotation place s a i j

pub data Annotations (place : ℕ → Span) (s : Text) : List AnnotationTree → ℕ → ℕ → Type 0 where
  no_annotations : {a : List AnnotationTree} {i j : ℕ} → a ≡ [] → j ≡ i → Annotations place s a i j
  next_annotation : {a : List AnnotationTree} {b : List AnnotationTree} {c : AnnotationTree} {i n j : ℕ} → Annotations place s b i n → Annotation place s c n j → a ≡ b ++ c ∷ [] → Annotations place s a i j

abbrev pub modifier_words : List Terminal
modifier_words = t.Public ∷ t.Protected ∷ t.Private ∷ t.Abstract ∷ t.Static ∷ t.Final ∷ t.Synchronized ∷ t.Volatile ∷ []

-- which modifier a keyword is [JLS 8.1.1, 8.3.1, 8.4.3]
abbrev pub modifier_kind : Terminal → ModifierKind
modifier_kind t.Public = kinds.Public
modifier_kind t.Protected = kinds.Protected
modifier_kind t.Private = kinds.Private
modifier_kind t.Abstract = kinds.Abstract
modifier_kind t.Static = kinds.Static
modifier_kind t.Final = kinds.Final
modifier_kind t.Synchronized = kinds.Synchronized
modifier_kind _ = kinds.Volatile

abbrev pub modifier : Span → Token → Modifier
modifier at token = record { at = at; kind = modifier_kind (terminal token) }

pub data ModifierList (place : ℕ → Span) (s : Text) : List Modifier → ℕ → ℕ → Type 0 where
  no_modifiers : {a : List Modifier} {i j : ℕ} → a ≡ [] → j ≡ i → ModifierList place s a i j
  next_modifier : {a : List Modifier} {b : List Modifier} {i n j : ℕ} → ModifierList place s b i n → among modifier_words (terminal (s n)) ≡ true → a ≡ b ++ modifier (place n) (s n) ∷ [] → j ≡ suc n → ModifierList place s a i j

-- ---- what stands before the members [JLS 8.1, 9.1]

-- `extends` with a name, or nothing [JLS 8.1.4]
pub data MaybeSuper (place : ℕ → Span) (s : Text) : Option NamedPlace → ℕ → ℕ → Type 0 where
  no_super : {a : Option NamedPlace} {i j : ℕ} → a ≡ None → j ≡ i → MaybeSuper place s a i j
  super : {a : Option NamedPlace} {i j : ℕ} → terminal (s i) ≡ t.Extends → terminal (s (suc i)) ≡ t.Word → a ≡ Some (named (place (suc i)) (s (suc i))) → j ≡ suc (suc i) → MaybeSuper place s a i j

pub data Head (place : ℕ → Span) (s : Text) : ClassHead → ℕ → ℕ → Type 0 where
  class_head : {a : ClassHead} {notes : List AnnotationTree} {ms : List Modifier} {x : Option NamedPlace} {ns : List NamedPlace} {i k n o q j : ℕ} → Annotations place s notes i k → ModifierList place s ms k n
      → terminal (s n) ≡ t.Class → terminal (s (suc n)) ≡ t.Word → MaybeSuper place s x (suc (suc n)) o → MaybeNames t.Implements place s ns o q → terminal (s q) ≡ t.LeftBrace
      → a ≡ record { at = place i; annotations = notes; modifiers = ms; kind = forms.Class; name = named (place (suc n)) (s (suc n)); superclass = x; superinterfaces = ns } → j ≡ suc q → Head place s a i j
  interface_head : {a : ClassHead} {notes : List AnnotationTree} {ms : List Modifier} {ns : List NamedPlace} {i k n q j : ℕ} → Annotations place s notes i k → ModifierList place s ms k n
      → terminal (s n) ≡ t.Interface → terminal (s (suc n)) ≡ t.Word → MaybeNames t.Extends place s ns (suc (suc n)) q → terminal (s q) ≡ t.LeftBrace
      → a ≡ record { at = place i; annotations = notes; modifiers = ms; kind = forms.Interface; name = named (place (suc n)) (s (suc n)); superclass = None; superinterfaces = ns } → j ≡ suc q → Head place s a i j

-- ---- members [JLS 8.1.6, 9.1.4]

-- [JLS 8.4.1]
pub data Parameter (place : ℕ → Span) (s : Text) : ParameterTree → ℕ → ℕ → Type 0 where
  parameter : {a : ParameterTree} {f : Bool} {ty : TypeTree} {d i k n j : ℕ} → MaybeFinal s f i k → TypeAt place s ty k n → terminal (s n) ≡ t.Word → Dims s d (suc n) j
      → a ≡ record { at = place i; is_final = f; of = ty; name = named (place n) (s n); dims = d } → Parameter place s a i j

-- with commas between them
pub data Parameters (place : ℕ → Span) (s : Text) : List ParameterTree → ℕ → ℕ → Type 0 where
  first_parameter : {a : List ParameterTree} {x : ParameterTree} {i j : ℕ} → Parameter place s x i j → a ≡ x ∷ [] → Parameters place s a i j
  next_parameter : {a : List ParameterTree} {b : List ParameterTree} {x : ParameterTree} {i n j : ℕ} → Parameters place s b i n → terminal (s n) ≡ t.Comma → Parameter place s x (suc n) j → a ≡ b ++ x ∷ [] → Parameters place s a i j

-- some, or none, in parentheses
pub data Formals (place : ℕ → Span) (s : Text) : List ParameterTree → ℕ → ℕ → Type 0 where
  no_formals : {a : List ParameterTree} {i j : ℕ} → terminal (s i) ≡ t.LeftParen → terminal (s (suc i)) ≡ t.RightParen → a ≡ [] → j ≡ suc (suc i) → Formals place s a i j
  formals : {a : List ParameterTree} {i n j : ℕ} → terminal (s i) ≡ t.LeftParen → Parameters place s a (suc i) n → terminal (s n) ≡ t.RightParen → j ≡ suc n → Formals place s a i j

-- `void`, or a type [JLS 8.4.5]
pub data ResultAt (place : ℕ → Span) (s : Text) : Option TypeTree → ℕ → ℕ → Type 0 where
  void : {a : Option TypeTree} {i j : ℕ} → terminal (s i) ≡ t.Void → a ≡ None → j ≡ suc i → ResultAt place s a i j
  gives : {a : Option TypeTree} {ty : TypeTree} {i j : ℕ} → TypeAt place s ty i j → a ≡ Some ty → ResultAt place s a i j

-- a block, or a semicolon in its place [JLS 8.4.7]
pub data MaybeBody (place : ℕ → Span) (s : Text) : Option StmtTree → ℕ → ℕ → Type 0 where
  no_body : {a : Option StmtTree} {i j : ℕ} → terminal (s i) ≡ t.Semicolon → a ≡ None → j ≡ suc i → MaybeBody place s a i j
  body : {a : Option StmtTree} {b : StmtTree} {i j : ℕ} → Block place s b i j → a ≡ Some b → MaybeBody place s a i j

pub data Member (place : ℕ → Span) (s : Text) : MemberTree → ℕ → ℕ → Type 0 where
  -- [JLS 8.3, 9.3]
  fields : {a : MemberTree} {notes : List AnnotationTree} {ms : List Modifier} {ty : TypeTree} {vs : List VariableTree} {i k n o q j : ℕ} → Annotations place s notes i k → ModifierList place s ms k n
      → TypeAt place s ty n o → Variables place s vs o q → terminal (s q) ≡ t.Semicolon
      → a ≡ m.Field (record { at = place i; annotations = notes; modifiers = ms; of = ty; variables = vs }) → j ≡ suc q → Member place s a i j
  -- [JLS 8.4, 9.4]
  method : {a : MemberTree} {notes : List AnnotationTree} {ms : List Modifier} {r : Option TypeTree} {ps : List ParameterTree} {ts : List NamedPlace} {b : Option StmtTree} {i k n o q p j : ℕ}
      → Annotations place s notes i k → ModifierList place s ms k n → ResultAt place s r n o → terminal (s o) ≡ t.Word → Formals place s ps (suc o) q → MaybeNames t.Throws place s ts q p → MaybeBody place s b p j
      → a ≡ m.Method (record { at = place i; annotations = notes; modifiers = ms; default = None; result = r; name = named (place o) (s o); parameters = ps; throws = ts; body = b }) → Member place s a i j
  -- [JLS 8.8]
  constructor : {a : MemberTree} {notes : List AnnotationTree} {ms : List Modifier} {ps : List ParameterTree} {ts : List NamedPlace} {b : StmtTree} {i k n q p j : ℕ}
      → Annotations place s notes i k → ModifierList place s ms k n → terminal (s n) ≡ t.Word → Formals place s ps (suc n) q → MaybeNames t.Throws place s ts q p → ConstructorBody place s b p j
      → a ≡ m.Constructor (record { at = place i; annotations = notes; modifiers = ms; name = named (place n) (s n); parameters = ps; throws = ts; body = b }) → Member place s a i j
  -- [JLS 8.6, 8.7]
  initializer : {a : MemberTree} {f : Bool} {b : StmtTree} {i k j : ℕ} → MaybeStatic s f i k → Block place s b k j
      → a ≡ m.Initializer (record { at = place i; is_static = f; body = b }) → Member place s a i j
  empty : {a : MemberTree} {i j : ℕ} → terminal (s i) ≡ t.Semicolon → a ≡ m.Empty (place i) → j ≡ suc i → Member place s a i j

pub data Members (place : ℕ → Span) (s : Text) : List MemberTree → ℕ → ℕ → Type 0 where
  no_members : {a : List MemberTree} {i j : ℕ} → a ≡ [] → j ≡ i → Members place s a i j
  next_member : {a : List MemberTree} {b : List MemberTree} {c : MemberTree} {i n j : ℕ} → Members place s b i n → Member place s c n j → a ≡ b ++ c ∷ [] → Members place s a i j

-- ---- files [JLS 7.3]

-- the tree of a file with its class
abbrev pub class_tree : List ℕ → List ImportTree → ClassHead → List MemberTree → Span → ClassTree
class_tree file is h ms end = record {
  file = file;
  imports = is;
  at = h.at;
  annotations = h.annotations;
  modifiers = h.modifiers;
  kind = h.kind;
  name = h.name;
  superclass = h.superclass;
  superinterfaces = h.superinterfaces;
  members = ms;
  end = end;
}

pub data File (file : List ℕ) (place : ℕ → Span) (s : Text) : ClassTree → ℕ → ℕ → Type 0 where
  in_file : {a : ClassTree} {is : List ImportTree} {h : ClassHead} {ms : List MemberTree} {i k n o j : ℕ} → Imports place s is i k → Head place s h k n → Members place s ms n o → terminal (s o) ≡ t.RightBrace
      → a ≡ class_tree file is h ms (place o) → j ≡ suc o → File file place s a i j
