-- What is asked of an import, of what stands before the members of a class or an interface, and of each member.
use Rattle.std.specs.Prelude.{ℕ, Bool, true, false, ◌&&◌, ◌||◌, not, nat_lt, Option, None, Some, List, [], ◌∷◌}
use Rattle.std.specs.List.{list_any}
use Rattle.std.specs.Str.{bytes_eq}
use lib.Chars.{codes}
use Rattle.bj_base.specs.declared.span.Span.{Span}
use Rattle.bj_base.specs.declared.fault.FaultCode.TheVariants as codes_of
use Rattle.bj_tree.specs.declared.class.AnnotationTree.{AnnotationTree}
use Rattle.bj_tree.specs.declared.class.ClassKind.{ClassKind}
use Rattle.bj_tree.specs.declared.class.ImportTree.{ImportTree}
use Rattle.bj_tree.specs.declared.class.ClassKind.TheVariants as kinds
use Rattle.bj_tree.specs.declared.class.Modifier.{Modifier}
use Rattle.bj_tree.specs.declared.class.ModifierKind.TheVariants as m
use Rattle.bj_expr_tree.specs.declared.expr.ExprTree.{ExprTree, out-ExprTree}
use Rattle.bj_tree.specs.declared.member.MethodTree.{MethodTree}
use Rattle.bj_tree.specs.declared.member.ConstructorTree.{ConstructorTree}
use Rattle.bj_tree.specs.declared.member.InitializerTree.{InitializerTree}
use Rattle.bj_tree.specs.declared.member.FieldTree.{FieldTree}
use Rattle.bj_tree.specs.declared.member.MemberTree.{MemberTree}
use Rattle.bj_tree.specs.declared.member.MemberTree.TheVariants as members
use Rattle.bj_tree.specs.declared.stmt.StmtTree.{StmtTree, out-StmtTree}
use Rattle.bj_tree.specs.declared.stmt.VariableTree.{VariableTree}
use Rattle.bj_expr_tree.specs.Count.{nodes_of_expr}
use Rattle.bj_tree.specs.Count.{nodes_of}
use Rattle.bj_rules.specs.declared.misfit.Misfit.{Misfit}
use Rattle.bj_rules.specs.declared.place.Place.{Place}
use Rattle.bj_rules.specs.declared.place.Place.TheVariants as places
use Rattle.bj_rules.specs.Imports.{is_known}
use Rattle.bj_rules.specs.Misfits.{unless, first}
use Rattle.bj_rules.specs.Modifiers.{same_kind, modifiers_misfit}
use Rattle.bj_rules.specs.Starts.{expr_start, stmt_start}
use Rattle.bj_rules.specs.Words.{is_one_of}

-- ---- imports

-- what is wrong with an import, at its first token [JLS 7.5]
unfoldable pub import_misfit : ImportTree → Option Misfit
import_misfit import = unless (is_known import.is_static import.is_on_demand import.names) import.at codes_of.Profile

-- ---- annotations

-- the annotations of the profile [JLS 9.6.4.4, and JUnit]
abbrev pub annotation_names : List (List ℕ)
annotation_names = codes "Override" ∷ codes "Test" ∷ codes "Before" ∷ codes "After" ∷ []

-- what is wrong with an annotation, at its `@`
abbrev pub annotation_misfit : AnnotationTree → Option Misfit
annotation_misfit one = unless (is_one_of annotation_names one.name.name) one.at codes_of.Profile

abbrev pub annotations_misfit : List AnnotationTree → Option Misfit
annotations_misfit [] = None
annotations_misfit (one ∷ rest) = first (annotation_misfit one ∷ annotations_misfit rest ∷ [])

-- the first misfit of annotations, and then of modifiers
abbrev pub mark_misfit : List AnnotationTree → Place → List Modifier → Option Misfit
mark_misfit annotations place modifiers = first (annotations_misfit annotations ∷ modifiers_misfit place modifiers ∷ [])

-- ---- what stands before the members

abbrev pub class_place : ClassKind → Place
class_place kinds.Class = places.Class
class_place kinds.Interface = places.Interface

unfoldable pub head_misfit : List AnnotationTree → List Modifier → ClassKind → Option Misfit
head_misfit annotations modifiers kind = mark_misfit annotations (class_place kind) modifiers

-- ---- members

abbrev pub field_place : ClassKind → Place
field_place kinds.Class = places.Field
field_place kinds.Interface = places.FieldOfInterface

abbrev pub method_place : ClassKind → Place
method_place kinds.Class = places.Method
method_place kinds.Interface = places.MethodOfInterface

abbrev pub is_interface : ClassKind → Bool
is_interface kinds.Class = false
is_interface kinds.Interface = true

-- the most nodes of a body, and of an initializer of a field
abbrev pub most_nodes : ℕ
most_nodes = 20000

-- what has so many nodes and begins at a place
abbrev pub size_misfit : ℕ → Span → Option Misfit
size_misfit nodes at = unless (not (nat_lt most_nodes nodes)) at codes_of.Large

abbrev pub block_misfit : StmtTree → Option Misfit
block_misfit body = size_misfit (nodes_of body) (stmt_start (out-StmtTree body))

abbrev pub body_misfit : Option StmtTree → Option Misfit
body_misfit None = None
body_misfit (Some body) = block_misfit body

abbrev pub value_misfit : Option ExprTree → Option Misfit
value_misfit None = None
value_misfit (Some value) = size_misfit (nodes_of_expr value) (expr_start (out-ExprTree value))

-- the first initializer of fields with too many nodes
abbrev pub values_misfit : List VariableTree → Option Misfit
values_misfit [] = None
values_misfit (one ∷ rest) = first (value_misfit one.init ∷ values_misfit rest ∷ [])

-- whether a method stands without a body
abbrev pub is_bodiless : ClassKind → List Modifier → Bool
is_bodiless kind modifiers = list_any (λ (one : Modifier). same_kind m.Abstract one.kind) modifiers || is_interface kind

-- `;` stands in place of the body of each method without one, and of no other [JLS 8.4.7, 9.4]
abbrev pub has_its_body : Bool → Option StmtTree → Bool
has_its_body bodiless None = bodiless
has_its_body bodiless (Some body) = not bodiless

abbrev pub field_misfit : ClassKind → FieldTree → Option Misfit
field_misfit kind field = first (mark_misfit field.annotations (field_place kind) field.modifiers
    ∷ values_misfit field.variables ∷ [])

abbrev pub method_misfit : ClassKind → MethodTree → Option Misfit
method_misfit kind method = first (mark_misfit method.annotations (method_place kind) method.modifiers
    ∷ body_misfit method.body
    ∷ unless (has_its_body (is_bodiless kind method.modifiers) method.body) method.name.at codes_of.Syntax ∷ [])

-- a constructor has the name of its class [JLS 8.8]; an interface has none [JLS 9.1.4]
abbrev pub constructor_misfit : ClassKind → List ℕ → ConstructorTree → Option Misfit
constructor_misfit kind class constructor = first (mark_misfit constructor.annotations places.Constructor constructor.modifiers
    ∷ block_misfit constructor.body
    ∷ unless (not (is_interface kind) && bytes_eq constructor.name.name class) constructor.at codes_of.Syntax ∷ [])

-- an interface has no initializer blocks [JLS 9.1.4]
abbrev pub initializer_misfit : ClassKind → InitializerTree → Option Misfit
initializer_misfit kind initializer = first (block_misfit initializer.body
    ∷ unless (not (is_interface kind)) initializer.at codes_of.Syntax ∷ [])

-- The first misfit of a member of a class or an interface of this name. A node is judged once its parts are: annotations and
-- modifiers come first, then what is too large, then the member itself.
unfoldable pub member_misfit : ClassKind → List ℕ → MemberTree → Option Misfit
member_misfit kind class (members.Field field) = field_misfit kind field
member_misfit kind class (members.Method method) = method_misfit kind method
member_misfit kind class (members.Constructor constructor) = constructor_misfit kind class constructor
member_misfit kind class (members.Initializer initializer) = initializer_misfit kind initializer
member_misfit kind class (members.Empty at) = None
