-- Whether a part of a class is as the profile asks does not depend on places.
use Rattle.std.proofs.Common.{◌≡◌, ℕ, Bool, true, false, if◌then◌else◌, List, [], ◌∷◌, ◌++◌, map, Option, Some, None, option_map, refl, sym, ap, ◌∙◌}
use Rattle.std.specs.Prelude.{◌&&◌, ◌||◌, not, nat_lt}
use Rattle.std.specs.List.{list_any}
use Rattle.bj_base.specs.declared.span.Span.{Span}
use Rattle.bj_base.specs.declared.fault.FaultCode.{FaultCode}
use Rattle.bj_base.specs.declared.fault.FaultCode.TheVariants as codes
use Rattle.bj_expr_tree.specs.declared.types.NamedPlace.{NamedPlace}
use Rattle.bj_expr_tree.specs.declared.expr.ExprTree.{ExprTree, out-ExprTree}
use Rattle.bj_tree.specs.declared.stmt.VariableTree.{VariableTree}
use Rattle.bj_tree.specs.declared.stmt.StmtTree.{StmtTree, out-StmtTree}
use Rattle.bj_tree.specs.declared.class.AnnotationTree.{AnnotationTree}
use Rattle.bj_tree.specs.declared.class.ClassKind.{ClassKind}
use Rattle.bj_tree.specs.declared.class.ImportTree.{ImportTree}
use Rattle.bj_tree.specs.declared.class.Modifier.{Modifier}
use Rattle.bj_tree.specs.declared.class.ModifierKind.{ModifierKind}
use Rattle.bj_tree.specs.declared.class.ModifierKind.TheVariants as mk
use Rattle.bj_tree.specs.declared.member.MemberTree.{MemberTree}
use Rattle.bj_tree.specs.declared.member.MemberTree.TheVariants as m
use Rattle.bj_expr_tree.specs.Count.{nodes_of_expr}
use Rattle.bj_tree.specs.Count.{nodes_of}
use Rattle.bj_rules.specs.declared.misfit.Misfit.{Misfit}
use Rattle.bj_rules.specs.declared.place.Place.{Place}
use Rattle.bj_rules.specs.Imports.{is_known}
use Rattle.bj_rules.specs.Misfits.{unless, first}
use Rattle.bj_rules.specs.Modifiers.{same_kind, fits, is_left_out, exclude, modifier_misfit, misfit_behind, modifiers_misfit, among, allowed}
use Rattle.bj_rules.specs.Rules.{import_misfit, head_misfit, member_misfit, annotations_misfit, annotation_misfit, mark_misfit, size_misfit, block_misfit, body_misfit, value_misfit, values_misfit, is_bodiless, has_its_body, is_interface, most_nodes, annotation_names, class_place, field_place, method_place}
use Rattle.bj_rules.specs.Starts.{expr_start, stmt_start}
use Rattle.bj_rules.specs.Words.{is_one_of}
use Rattle.bj_rules.specs.declared.place.Place.TheVariants as places
use Rattle.std.specs.Str.{bytes_eq}
use Rattle.bj_print.proofs.Invariants.{unplaced_nodes}
use Rattle.bj_print.proofs.NodesSteady.{nodes_steady}
use Rattle.bj_print.specs.Same.{nowhere, unplaced_name, unplaced_expr, unplaced_stmt, unplaced_variable, unplaced_modifier, unplaced_annotation, unplaced_import, unplaced_member}

-- whether there is no misfit
abbrev pub is_none : Option Misfit → Bool
is_none None = true
is_none (Some x) = false

pub none_is : (x : Option Misfit) → is_none x ≡ true → x ≡ None
none_is None e = refl
none_is (Some x) e = absurd (cc)

unless_none : (b : Bool) (at : Span) (code : FaultCode) → is_none (unless b at code) ≡ b
unless_none true at code = refl
unless_none false at code = refl

first_none : (x : Option Misfit) (rest : List (Option Misfit)) → is_none (first (x ∷ rest)) ≡ (is_none x && is_none (first rest))
first_none None rest = refl
first_none (Some x) rest = refl

-- two lists of misfits of which each is there where the other is
first_same : (x y : Option Misfit) (xs ys : List (Option Misfit)) → is_none x ≡ is_none y → is_none (first xs) ≡ is_none (first ys) → is_none (first (x ∷ xs)) ≡ is_none (first (y ∷ ys))
first_same x y xs ys e f = first_none x xs ∙ (ap (λ (b : Bool). b && is_none (first xs)) e ∙ ap (λ (b : Bool). is_none y && b) f) ∙ sym (first_none y ys)

two_same : (x y : Option Misfit) → is_none x ≡ is_none y → is_none (first (x ∷ [])) ≡ is_none (first (y ∷ []))
two_same x y e = first_same x y [] [] e refl

-- the test of a misfit does not depend on where it stands
unless_same : (b c : Bool) (at at2 : Span) (code : FaultCode) → b ≡ c → is_none (unless b at code) ≡ is_none (unless c at2 code)
unless_same b c at at2 code e = unless_none b at code ∙ e ∙ sym (unless_none c at2 code)

-- ---- imports

known_steady : (is_static is_on_demand : Bool) (names : List NamedPlace) → is_known is_static is_on_demand (map unplaced_name names) ≡ is_known is_static is_on_demand names
known_steady false false [] = refl
known_steady false false (a ∷ []) = refl
known_steady false false (a ∷ b ∷ []) = refl
known_steady false false (a ∷ b ∷ c ∷ []) = refl
known_steady false false (a ∷ b ∷ c ∷ d ∷ rest) = refl
known_steady false true [] = refl
known_steady false true (a ∷ []) = refl
known_steady false true (a ∷ b ∷ []) = refl
known_steady false true (a ∷ b ∷ c ∷ rest) = refl
known_steady true false [] = refl
known_steady true false (a ∷ []) = refl
known_steady true false (a ∷ b ∷ []) = refl
known_steady true false (a ∷ b ∷ c ∷ []) = refl
known_steady true false (a ∷ b ∷ c ∷ d ∷ []) = refl
known_steady true false (a ∷ b ∷ c ∷ d ∷ e ∷ rest) = refl
known_steady true true [] = refl
known_steady true true (a ∷ []) = refl
known_steady true true (a ∷ b ∷ []) = refl
known_steady true true (a ∷ b ∷ c ∷ []) = refl
known_steady true true (a ∷ b ∷ c ∷ d ∷ rest) = refl

pub import_steady : (a : ImportTree) → is_none (import_misfit (unplaced_import a)) ≡ is_none (import_misfit a)
unfolding import_misfit
import_steady a = unless_same (is_known a.is_static a.is_on_demand (map unplaced_name a.names)) (is_known a.is_static a.is_on_demand a.names) nowhere a.at codes.Profile (known_steady a.is_static a.is_on_demand a.names)

-- ---- annotations and modifiers

annotations_steady : (notes : List AnnotationTree) → is_none (annotations_misfit (map unplaced_annotation notes)) ≡ is_none (annotations_misfit notes)
annotations_steady [] = refl
annotations_steady (x ∷ xs) = first_same (annotation_misfit (unplaced_annotation x)) (annotation_misfit x) (annotations_misfit (map unplaced_annotation xs) ∷ []) (annotations_misfit xs ∷ []) (unless_same (is_one_of annotation_names x.name.name) (is_one_of annotation_names x.name.name) nowhere x.at codes.Profile refl)
    (two_same (annotations_misfit (map unplaced_annotation xs)) (annotations_misfit xs) (annotations_steady xs))

any_steady : (f : ModifierKind → Bool) (ms : List Modifier) → list_any (λ (one : Modifier). f one.kind) (map unplaced_modifier ms) ≡ list_any (λ (one : Modifier). f one.kind) ms
any_steady f [] = refl
any_steady f (x ∷ xs) = ap (λ (b : Bool). f x.kind || b) (any_steady f xs)

fits_steady : (place : Place) (before : List Modifier) (kind : ModifierKind) → fits place (map unplaced_modifier before) kind ≡ fits place before kind
fits_steady place before kind =
    ap (λ (a : Bool). not a && (among (allowed place) kind && not (list_any (λ (one : Modifier). exclude place kind one.kind) (map unplaced_modifier before)))) (any_steady (same_kind kind) before)
    ∙ ap (λ (b : Bool). not (list_any (λ (one : Modifier). same_kind kind one.kind) before) && (among (allowed place) kind && not b)) (any_steady (exclude place kind) before)

misfit_none : (fit left : Bool) (at : Span) (c d : FaultCode) → is_none (if not fit then Some (record { at = at; code = c }) else if left then Some (record { at = at; code = d }) else None) ≡ (fit && not left)
misfit_none true true at c d = refl
misfit_none true false at c d = refl
misfit_none false left at c d = refl

modifier_steady : (place : Place) (before : List Modifier) (one : Modifier) → is_none (modifier_misfit place (map unplaced_modifier before) (unplaced_modifier one)) ≡ is_none (modifier_misfit place before one)
modifier_steady place before one = misfit_none (fits place (map unplaced_modifier before) one.kind) (is_left_out place one.kind) nowhere codes.Syntax codes.Profile
    ∙ ap (λ (b : Bool). b && not (is_left_out place one.kind)) (fits_steady place before one.kind) ∙ sym (misfit_none (fits place before one.kind) (is_left_out place one.kind) one.at codes.Syntax codes.Profile)

map_end : (before : List Modifier) (one : Modifier) → map unplaced_modifier (before ++ one ∷ []) ≡ map unplaced_modifier before ++ unplaced_modifier one ∷ []
map_end [] one = refl
map_end (x ∷ xs) one = ap (λ (ms : List Modifier). unplaced_modifier x ∷ ms) (map_end xs one)

behind_steady : (place : Place) (before ms : List Modifier) → is_none (misfit_behind place (map unplaced_modifier before) (map unplaced_modifier ms)) ≡ is_none (misfit_behind place before ms)
behind_steady place before [] = refl
behind_steady place before (x ∷ xs) =
    first_same (modifier_misfit place (map unplaced_modifier before) (unplaced_modifier x)) (modifier_misfit place before x)
    (misfit_behind place (map unplaced_modifier before ++ unplaced_modifier x ∷ []) (map unplaced_modifier xs) ∷ []) (misfit_behind place (before ++ x ∷ []) xs ∷ []) (modifier_steady place before x)
    (two_same (misfit_behind place (map unplaced_modifier before ++ unplaced_modifier x ∷ []) (map unplaced_modifier xs)) (misfit_behind place (before ++ x ∷ []) xs) (ap (λ (b : List Modifier). is_none (misfit_behind place b (map unplaced_modifier xs))) (sym (map_end before x)) ∙ behind_steady place (before ++ x ∷ []) xs))

mark_steady : (notes : List AnnotationTree) (place : Place) (ms : List Modifier) → is_none (mark_misfit (map unplaced_annotation notes) place (map unplaced_modifier ms)) ≡ is_none (mark_misfit notes place ms)
mark_steady notes place ms =
    first_same (annotations_misfit (map unplaced_annotation notes)) (annotations_misfit notes) (modifiers_misfit place (map unplaced_modifier ms) ∷ []) (modifiers_misfit place ms ∷ []) (annotations_steady notes)
    (two_same (modifiers_misfit place (map unplaced_modifier ms)) (modifiers_misfit place ms) (behind_steady place [] ms))

pub head_steady : (notes : List AnnotationTree) (ms : List Modifier) (kind : ClassKind) → is_none (head_misfit (map unplaced_annotation notes) (map unplaced_modifier ms) kind) ≡ is_none (head_misfit notes ms kind)
unfolding head_misfit
head_steady notes ms kind = mark_steady notes (class_place kind) ms

-- ---- bodies and members

bodiless_steady : (kind : ClassKind) (ms : List Modifier) → is_bodiless kind (map unplaced_modifier ms) ≡ is_bodiless kind ms
bodiless_steady kind ms = ap (λ (b : Bool). b || is_interface kind) (any_steady (same_kind mk.Abstract) ms)

has_body_steady : (b : Bool) (body : Option StmtTree) → has_its_body b (option_map unplaced_stmt body) ≡ has_its_body b body
has_body_steady b None = refl
has_body_steady b (Some x) = refl

size_steady : (n k : ℕ) (at at2 : Span) → n ≡ k → is_none (size_misfit n at) ≡ is_none (size_misfit k at2)
size_steady n k at at2 e = unless_none (not (nat_lt most_nodes n)) at codes.Large ∙ ap (λ (x : ℕ). not (nat_lt most_nodes x)) e ∙ sym (unless_none (not (nat_lt most_nodes k)) at2 codes.Large)

block_steady : (x : StmtTree) → is_none (block_misfit (unplaced_stmt x)) ≡ is_none (block_misfit x)
block_steady x = size_steady (nodes_of (unplaced_stmt x)) (nodes_of x) (stmt_start (out-StmtTree (unplaced_stmt x))) (stmt_start (out-StmtTree x)) (nodes_steady x)

body_steady : (x : Option StmtTree) → is_none (body_misfit (option_map unplaced_stmt x)) ≡ is_none (body_misfit x)
body_steady None = refl
body_steady (Some x) = block_steady x

value_steady : (x : Option ExprTree) → is_none (value_misfit (option_map unplaced_expr x)) ≡ is_none (value_misfit x)
value_steady None = refl
value_steady (Some x) = size_steady (nodes_of_expr (unplaced_expr x)) (nodes_of_expr x) (expr_start (out-ExprTree (unplaced_expr x))) (expr_start (out-ExprTree x)) (unplaced_nodes x)

values_steady : (vs : List VariableTree) → is_none (values_misfit (map unplaced_variable vs)) ≡ is_none (values_misfit vs)
values_steady [] = refl
values_steady (x ∷ xs) =
    first_same (value_misfit (option_map unplaced_expr x.init)) (value_misfit x.init) (values_misfit (map unplaced_variable xs) ∷ []) (values_misfit xs ∷ []) (value_steady x.init)
    (two_same (values_misfit (map unplaced_variable xs)) (values_misfit xs) (values_steady xs))

pub member_steady : (kind : ClassKind) (class : List ℕ) (a : MemberTree) → is_none (member_misfit kind class (unplaced_member a)) ≡ is_none (member_misfit kind class a)
unfolding member_misfit
member_steady kind class (m.Field f) =
    first_same (mark_misfit (map unplaced_annotation f.annotations) (field_place kind) (map unplaced_modifier f.modifiers)) (mark_misfit f.annotations (field_place kind) f.modifiers)
    (values_misfit (map unplaced_variable f.variables) ∷ []) (values_misfit f.variables ∷ []) (mark_steady f.annotations (field_place kind) f.modifiers)
    (two_same (values_misfit (map unplaced_variable f.variables)) (values_misfit f.variables) (values_steady f.variables))
member_steady kind class (m.Method f) =
    let old = has_its_body (is_bodiless kind f.modifiers) f.body in
    let new = has_its_body (is_bodiless kind (map unplaced_modifier f.modifiers)) (option_map unplaced_stmt f.body) in
    let same : new ≡ old = has_body_steady (is_bodiless kind (map unplaced_modifier f.modifiers)) f.body ∙ ap (λ (b : Bool). has_its_body b f.body) (bodiless_steady kind f.modifiers) in
    first_same (mark_misfit (map unplaced_annotation f.annotations) (method_place kind) (map unplaced_modifier f.modifiers)) (mark_misfit f.annotations (method_place kind) f.modifiers)
    (body_misfit (option_map unplaced_stmt f.body) ∷ unless new nowhere codes.Syntax ∷ []) (body_misfit f.body ∷ unless old f.name.at codes.Syntax ∷ []) (mark_steady f.annotations (method_place kind) f.modifiers)
    (first_same (body_misfit (option_map unplaced_stmt f.body)) (body_misfit f.body) (unless new nowhere codes.Syntax ∷ []) (unless old f.name.at codes.Syntax ∷ []) (body_steady f.body)
    (two_same (unless new nowhere codes.Syntax) (unless old f.name.at codes.Syntax) (unless_same new old nowhere f.name.at codes.Syntax same)))
member_steady kind class (m.Constructor f) =
    let named = not (is_interface kind) && bytes_eq f.name.name class in
    first_same (mark_misfit (map unplaced_annotation f.annotations) places.Constructor (map unplaced_modifier f.modifiers)) (mark_misfit f.annotations places.Constructor f.modifiers)
    (block_misfit (unplaced_stmt f.body) ∷ unless named nowhere codes.Syntax ∷ []) (block_misfit f.body ∷ unless named f.at codes.Syntax ∷ []) (mark_steady f.annotations places.Constructor f.modifiers)
    (first_same (block_misfit (unplaced_stmt f.body)) (block_misfit f.body) (unless named nowhere codes.Syntax ∷ []) (unless named f.at codes.Syntax ∷ []) (block_steady f.body)
    (two_same (unless named nowhere codes.Syntax) (unless named f.at codes.Syntax) (unless_same named named nowhere f.at codes.Syntax refl)))
member_steady kind class (m.Initializer f) =
    first_same (block_misfit (unplaced_stmt f.body)) (block_misfit f.body) (unless (not (is_interface kind)) nowhere codes.Syntax ∷ []) (unless (not (is_interface kind)) f.at codes.Syntax ∷ []) (block_steady f.body)
    (two_same (unless (not (is_interface kind)) nowhere codes.Syntax) (unless (not (is_interface kind)) f.at codes.Syntax) (unless_same (not (is_interface kind)) (not (is_interface kind)) nowhere f.at codes.Syntax refl))
member_steady kind class (m.Empty at) = refl
