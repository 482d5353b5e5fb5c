-- How types and expressions are printed: one space round an operator with two operands or three, behind a comma and behind a cast; parentheses as in the source.
use Rattle.std.specs.Prelude.{ℕ, zero, suc, List, [], ◌∷◌, ◌++◌, map, codes}
use Rattle.bj_token.specs.declared.token.TokenKind.{TokenKind}
use Rattle.bj_token.specs.declared.token.TokenKind.TheVariants as kinds
use Rattle.bj_expr_tree.specs.declared.types.TypeName.{TypeName}
use Rattle.bj_expr_tree.specs.declared.types.TypeName.TheVariants as names
use Rattle.bj_expr_tree.specs.declared.types.TypeTree.{TypeTree}
use Rattle.bj_expr_tree.specs.declared.expr.LiteralKind.{LiteralKind}
use Rattle.bj_expr_tree.specs.declared.expr.LiteralKind.TheVariants as literals
use Rattle.bj_expr_tree.specs.declared.expr.UnaryOp.{UnaryOp}
use Rattle.bj_expr_tree.specs.declared.expr.UnaryOp.TheVariants as unaries
use Rattle.bj_expr_tree.specs.declared.expr.AssignOp.{AssignOp}
use Rattle.bj_expr_tree.specs.declared.expr.AssignOp.TheVariants as assignments
use Rattle.bj_expr_tree.specs.declared.expr.StepOp.{StepOp}
use Rattle.bj_expr_tree.specs.declared.expr.StepOp.TheVariants as steps
use Rattle.bj_expr_tree.specs.declared.expr.BinaryOp.{BinaryOp}
use Rattle.bj_expr_tree.specs.declared.expr.BinaryOp.TheVariants as binaries
use Rattle.bj_expr_tree.specs.declared.expr.ExprTree.{ExprTree}
use Rattle.bj_expr_tree.specs.declared.expr.ExprTree.TheOpen.{ExprTree-F}
use Rattle.bj_expr_tree.specs.declared.expr.ExprTree.TheFolds.{fold-ExprTree}
use Rattle.bj_writer.specs.Pieces.{Piece, Mark, Space}

abbrev pub word : List ℕ → Piece
word units = Mark kinds.Word units

abbrev pub keyword : List ℕ → Piece
keyword units = Mark kinds.Keyword units

abbrev pub sign : List ℕ → Piece
sign units = Mark kinds.Sign units

-- ---- lists

-- each with the same pieces before it
abbrev pub each_behind : List Piece → List (List Piece) → List Piece
each_behind before [] = []
each_behind before (p ∷ ps) = before ++ (p ++ each_behind before ps)

-- with the same pieces between them
abbrev pub separated : List Piece → List (List Piece) → List Piece
separated between [] = []
separated between (p ∷ ps) = p ++ each_behind between ps

abbrev pub comma : List Piece
comma = sign (codes ",") ∷ Space ∷ []

abbrev pub with_commas : List (List Piece) → List Piece
with_commas ps = separated comma ps

abbrev pub in_parens : List Piece → List Piece
in_parens p = sign (codes "(") ∷ (p ++ sign (codes ")") ∷ [])

abbrev pub in_brackets : List Piece → List Piece
in_brackets p = sign (codes "[") ∷ (p ++ sign (codes "]") ∷ [])

abbrev pub in_braces : List Piece → List Piece
in_braces p = sign (codes "{") ∷ (p ++ sign (codes "}") ∷ [])

abbrev pub arguments : List (List Piece) → List Piece
arguments ps = in_parens (with_commas ps)

-- ---- types [JLS 4]

abbrev pub type_name : TypeName → Piece
type_name names.Int = keyword (codes "int")
type_name names.Long = keyword (codes "long")
type_name names.Boolean = keyword (codes "boolean")
type_name names.Char = keyword (codes "char")
type_name (names.Named text) = word text

-- so many pairs of brackets
abbrev pub pairs : ℕ → List Piece
pairs zero = []
pairs (suc n) = sign (codes "[") ∷ sign (codes "]") ∷ pairs n

abbrev pub type_pieces : TypeTree → List Piece
type_pieces ty = type_name ty.name ∷ pairs ty.dims

-- ---- literals and operators

abbrev pub literal_token : LiteralKind → TokenKind
literal_token literals.Int = kinds.Number
literal_token literals.Long = kinds.LongNumber
literal_token literals.Char = kinds.CharText
literal_token literals.Text = kinds.StringText
literal_token _ = kinds.Keyword

abbrev pub unary_sign : UnaryOp → List ℕ
unary_sign unaries.Plus = codes "+"
unary_sign unaries.Minus = codes "-"
unary_sign unaries.Complement = codes "~"
unary_sign unaries.Not = codes "!"

abbrev pub step_sign : StepOp → List ℕ
step_sign steps.Increment = codes "++"
step_sign steps.Decrement = codes "--"

abbrev pub binary_sign : BinaryOp → List ℕ
binary_sign binaries.Mul = codes "*"
binary_sign binaries.Div = codes "/"
binary_sign binaries.Rem = codes "%"
binary_sign binaries.Add = codes "+"
binary_sign binaries.Sub = codes "-"
binary_sign binaries.Shl = codes "<<"
binary_sign binaries.Shr = codes ">>"
binary_sign binaries.Ushr = codes ">>>"
binary_sign binaries.Less = codes "<"
binary_sign binaries.AtMost = codes "<="
binary_sign binaries.Greater = codes ">"
binary_sign binaries.AtLeast = codes ">="
binary_sign binaries.Equal = codes "=="
binary_sign binaries.Unequal = codes "!="
binary_sign binaries.And = codes "&"
binary_sign binaries.Xor = codes "^"
binary_sign binaries.Or = codes "|"
binary_sign binaries.Both = codes "&&"
binary_sign binaries.Either = codes "||"

abbrev pub assign_sign : AssignOp → List ℕ
assign_sign assignments.Plain = codes "="
assign_sign assignments.Mul = codes "*="
assign_sign assignments.Div = codes "/="
assign_sign assignments.Rem = codes "%="
assign_sign assignments.Add = codes "+="
assign_sign assignments.Sub = codes "-="
assign_sign assignments.Shl = codes "<<="
assign_sign assignments.Shr = codes ">>="
assign_sign assignments.Ushr = codes ">>>="
assign_sign assignments.And = codes "&="
assign_sign assignments.Xor = codes "^="
assign_sign assignments.Or = codes "|="

-- a token with a space before it and one behind it
abbrev pub spaced : Piece → List Piece
spaced p = Space ∷ p ∷ Space ∷ []

-- ---- expressions [JLS 15]

abbrev pub expr_form : ExprTree-F (List Piece) → List Piece
expr_form (ExprTree-F.Literal at kind text) = Mark (literal_token kind) text ∷ []
expr_form (ExprTree-F.This at) = keyword (codes "this") ∷ []
expr_form (ExprTree-F.Paren at inner) = in_parens inner
expr_form (ExprTree-F.Name at name) = word name ∷ []
expr_form (ExprTree-F.Field at target name) = target ++ (sign (codes ".") ∷ word name ∷ [])
expr_form (ExprTree-F.SuperField at name) = keyword (codes "super") ∷ sign (codes ".") ∷ word name ∷ []
expr_form (ExprTree-F.Call at name args) = word name ∷ arguments args
expr_form (ExprTree-F.MethodCall at target name args) = target ++ (sign (codes ".") ∷ word name ∷ arguments args)
expr_form (ExprTree-F.SuperCall at name args) = keyword (codes "super") ∷ sign (codes ".") ∷ word name ∷ arguments args
expr_form (ExprTree-F.Index at array index) = array ++ in_brackets index
expr_form (ExprTree-F.New at class args) = keyword (codes "new") ∷ Space ∷ word class ∷ arguments args
expr_form (ExprTree-F.NewArray at holds sizes dims) = keyword (codes "new") ∷ Space ∷ (type_pieces holds ++ (each_behind [] (map in_brackets sizes) ++ pairs dims))
expr_form (ExprTree-F.NewValues at holds values) = keyword (codes "new") ∷ Space ∷ (type_pieces holds ++ in_braces (with_commas values))
expr_form (ExprTree-F.Braces at values) = in_braces (with_commas values)
expr_form (ExprTree-F.Postfix at op operand) = operand ++ sign (step_sign op) ∷ []
expr_form (ExprTree-F.Prefix at op operand) = sign (step_sign op) ∷ operand
expr_form (ExprTree-F.Unary at op operand) = sign (unary_sign op) ∷ operand
expr_form (ExprTree-F.Cast at to operand) = in_parens (type_pieces to) ++ (Space ∷ operand)
expr_form (ExprTree-F.Binary at op left right) = left ++ (spaced (sign (binary_sign op)) ++ right)
expr_form (ExprTree-F.InstanceOf at value holds) = value ++ (spaced (keyword (codes "instanceof")) ++ type_pieces holds)
expr_form (ExprTree-F.Conditional at test chosen other) = test ++ (spaced (sign (codes "?")) ++ (chosen ++ (spaced (sign (codes ":")) ++ other)))
expr_form (ExprTree-F.Assign at op target value) = target ++ (spaced (sign (assign_sign op)) ++ value)

unfoldable pub expr_pieces : ExprTree → List Piece
expr_pieces = fold-ExprTree (List Piece) expr_form
