-- How files with their classes are printed: a statement a line, braces on lines of their own, members indented by four spaces and their statements by eight.
use Rattle.std.specs.Prelude.{ℕ, Bool, true, false, if◌then◌else◌, List, [], ◌∷◌, ◌++◌, map, Option, Some, None, codes}
use Rattle.bj_base.specs.declared.span.Span.{Span}
use Rattle.bj_expr_tree.specs.declared.types.NamedPlace.{NamedPlace}
use Rattle.bj_expr_tree.specs.declared.types.TypeTree.{TypeTree}
use Rattle.bj_tree.specs.declared.stmt.StmtTree.{StmtTree, out-StmtTree}
use Rattle.bj_tree.specs.declared.stmt.StmtTree.TheOpen.{StmtTree-F}
use Rattle.bj_tree.specs.declared.class.ModifierKind.{ModifierKind}
use Rattle.bj_tree.specs.declared.class.ModifierKind.TheVariants as kinds
use Rattle.bj_tree.specs.declared.class.Modifier.{Modifier}
use Rattle.bj_tree.specs.declared.class.AnnotationTree.{AnnotationTree}
use Rattle.bj_tree.specs.declared.class.ImportTree.{ImportTree}
use Rattle.bj_tree.specs.declared.class.ClassKind.{ClassKind}
use Rattle.bj_tree.specs.declared.class.ClassKind.TheVariants as forms
use Rattle.bj_tree.specs.declared.class.ClassTree.{ClassTree}
use Rattle.bj_tree.specs.declared.member.ParameterTree.{ParameterTree}
use Rattle.bj_tree.specs.declared.member.MemberTree.{MemberTree}
use Rattle.bj_tree.specs.declared.member.MemberTree.TheVariants as m
use Rattle.bj_writer.specs.Pieces.{Piece, Space, Line}
use Rattle.bj_layout.specs.Exprs.{word, keyword, sign, each_behind, separated, with_commas, in_parens, pairs, type_pieces}
use Rattle.bj_layout.specs.Stmts.{maybe_final, variable_pieces, semicolon, stmt_pieces}

abbrev pub name_piece : NamedPlace → List Piece
name_piece x = word x.name ∷ []

abbrev pub with_points : List NamedPlace → List Piece
with_points names = separated (sign (codes ".") ∷ []) (map name_piece names)

abbrev pub name_list : List NamedPlace → List Piece
name_list names = with_commas (map name_piece names)

-- a keyword and names behind it, or nothing
abbrev pub maybe_names : List ℕ → List NamedPlace → List Piece
maybe_names before [] = []
maybe_names before (x ∷ xs) = Space ∷ keyword before ∷ Space ∷ name_list (x ∷ xs)

-- ---- imports [JLS 7.5]

abbrev pub import_pieces : ImportTree → List Piece
import_pieces x = keyword (codes "import") ∷ Space ∷ ((if x.is_static then keyword (codes "static") ∷ Space ∷ [] else [])
    ++ (with_points x.names ++ ((if x.is_on_demand then sign (codes ".") ∷ sign (codes "*") ∷ [] else []) ++ (semicolon ∷ Line 0 ∷ []))))

abbrev pub each : List (List Piece) → List Piece
each ps = each_behind [] ps

-- each in its line, and an empty line behind them
abbrev pub imports_pieces : List ImportTree → List Piece
imports_pieces [] = []
imports_pieces (x ∷ xs) = each (map import_pieces (x ∷ xs)) ++ Line 0 ∷ []

-- ---- annotations and modifiers [JLS 9.7, 8.1.1]

abbrev pub expected_pieces : Option NamedPlace → List Piece
expected_pieces None = []
expected_pieces (Some class) = in_parens (word (codes "expected") ∷ Space ∷ sign (codes "=") ∷ Space ∷ word class.name ∷ sign (codes ".") ∷ keyword (codes "class") ∷ [])

-- in a line of its own
abbrev pub annotation_pieces : ℕ → AnnotationTree → List Piece
annotation_pieces columns x = sign (codes "@") ∷ word x.name.name ∷ (expected_pieces x.expected ++ Line columns ∷ [])

abbrev pub modifier_word : ModifierKind → List ℕ
modifier_word kinds.Public = codes "public"
modifier_word kinds.Protected = codes "protected"
modifier_word kinds.Private = codes "private"
modifier_word kinds.Abstract = codes "abstract"
modifier_word kinds.Static = codes "static"
modifier_word kinds.Final = codes "final"
modifier_word kinds.Synchronized = codes "synchronized"
modifier_word kinds.Volatile = codes "volatile"

abbrev pub modifier_pieces : Modifier → List Piece
modifier_pieces x = keyword (modifier_word x.kind) ∷ Space ∷ []

-- what stands before a declaration, in a line that begins behind so many columns
abbrev pub prefix_pieces : ℕ → List AnnotationTree → List Modifier → List Piece
prefix_pieces columns notes ms = each (map (annotation_pieces columns) notes) ++ each (map modifier_pieces ms)

-- ---- members [JLS 8.1.6]

abbrev pub parameter_pieces : ParameterTree → List Piece
parameter_pieces x = maybe_final x.is_final ++ (type_pieces x.of ++ (Space ∷ word x.name.name ∷ pairs x.dims))

abbrev pub formals : List ParameterTree → List Piece
formals ps = in_parens (with_commas (map parameter_pieces ps))

abbrev pub statement_line : StmtTree → List Piece
statement_line x = Line 8 ∷ stmt_pieces x

-- statements in braces, a statement a line
abbrev pub lines_in_braces : List StmtTree → List Piece
lines_in_braces body = sign (codes "{") ∷ (each (map statement_line body) ++ (Line 4 ∷ sign (codes "}") ∷ []))

-- a block has its braces in lines of their own
abbrev pub body_form : StmtTree → StmtTree-F StmtTree → List Piece
body_form x (StmtTree-F.Block at body end) = lines_in_braces body
body_form x form = stmt_pieces x

abbrev pub body_pieces : StmtTree → List Piece
body_pieces x = body_form x (out-StmtTree x)

abbrev pub maybe_body : Option StmtTree → List Piece
maybe_body None = semicolon ∷ []
maybe_body (Some body) = Line 4 ∷ body_pieces body

abbrev pub maybe_default : Option Span → List Piece
maybe_default None = []
maybe_default (Some at) = keyword (codes "default") ∷ Space ∷ []

abbrev pub result_pieces : Option TypeTree → List Piece
result_pieces None = keyword (codes "void") ∷ []
result_pieces (Some ty) = type_pieces ty

abbrev pub maybe_static : Bool → List Piece
maybe_static is_static = if is_static then keyword (codes "static") ∷ Line 4 ∷ [] else []

abbrev pub member_pieces : MemberTree → List Piece
member_pieces (m.Field f) = prefix_pieces 4 f.annotations f.modifiers ++ (type_pieces f.of ++ (Space ∷ (with_commas (map variable_pieces f.variables) ++ semicolon ∷ [])))
member_pieces (m.Method f) = prefix_pieces 4 f.annotations f.modifiers ++ (maybe_default f.default ++ (result_pieces f.result
    ++ (Space ∷ word f.name.name ∷ (formals f.parameters ++ (maybe_names (codes "throws") f.throws ++ maybe_body f.body)))))
member_pieces (m.Constructor f) = prefix_pieces 4 f.annotations f.modifiers ++ (word f.name.name ∷ (formals f.parameters ++ (maybe_names (codes "throws") f.throws ++ (Line 4 ∷ body_pieces f.body))))
member_pieces (m.Initializer f) = maybe_static f.is_static ++ body_pieces f.body
member_pieces (m.Empty at) = semicolon ∷ []

abbrev pub is_field : MemberTree → Bool
is_field (m.Field f) = true
is_field _ = false

-- an empty line stands between members, but not between fields
abbrev pub members_behind : Bool → List MemberTree → List Piece
members_behind is_behind_field [] = []
members_behind is_behind_field (x ∷ xs) = (if is_behind_field then (if is_field x then [] else Line 0 ∷ []) else Line 0 ∷ []) ++ (Line 4 ∷ (member_pieces x ++ members_behind (is_field x) xs))

abbrev pub members_pieces : List MemberTree → List Piece
members_pieces [] = []
members_pieces (x ∷ xs) = Line 4 ∷ (member_pieces x ++ members_behind (is_field x) xs)

-- ---- files [JLS 7.3, 8.1, 9.1]

abbrev pub class_word : ClassKind → List ℕ
class_word forms.Class = codes "class"
class_word forms.Interface = codes "interface"

abbrev pub maybe_super : Option NamedPlace → List Piece
maybe_super None = []
maybe_super (Some x) = Space ∷ keyword (codes "extends") ∷ Space ∷ word x.name ∷ []

abbrev pub super_word : ClassKind → List ℕ
super_word forms.Class = codes "implements"
super_word forms.Interface = codes "extends"

abbrev pub head_pieces : ClassTree → List Piece
head_pieces x = prefix_pieces 0 x.annotations x.modifiers ++ (keyword (class_word x.kind) ∷ Space ∷ word x.name.name ∷ (maybe_super x.superclass ++ (maybe_names (super_word x.kind) x.superinterfaces ++ Line 0 ∷ [])))

abbrev pub class_pieces : ClassTree → List Piece
class_pieces x = imports_pieces x.imports ++ (head_pieces x ++ (sign (codes "{") ∷ (members_pieces x.members ++ (Line 0 ∷ sign (codes "}") ∷ Line 0 ∷ []))))
