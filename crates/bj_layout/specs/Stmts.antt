-- How statements are printed, each on one line.
use Rattle.std.specs.Prelude.{ℕ, Bool, if◌then◌else◌, List, [], ◌∷◌, ◌++◌, map, Option, Some, None, codes}
use Rattle.bj_expr_tree.specs.declared.types.NamedPlace.{NamedPlace}
use Rattle.bj_expr_tree.specs.declared.expr.ExprTree.{ExprTree}
use Rattle.bj_tree.specs.declared.stmt.VariableTree.{VariableTree}
use Rattle.bj_tree.specs.declared.stmt.StmtTree.{StmtTree}
use Rattle.bj_tree.specs.declared.stmt.StmtTree.TheOpen.{StmtTree-F}
use Rattle.bj_tree.specs.declared.stmt.StmtTree.TheFolds.{fold-StmtTree}
use Rattle.bj_writer.specs.Pieces.{Piece, Space}
use Rattle.bj_layout.specs.Exprs.{word, keyword, sign, each_behind, separated, with_commas, in_parens, arguments, pairs, type_pieces, spaced, expr_pieces}

-- what a statement is printed as without the semicolon at its end, and that semicolon, if it ends with one of its own
pub record Pieces : Type 0 where
  pub bare : List Piece
  pub end : List Piece

abbrev pub whole : Pieces → List Piece
whole p = p.bare ++ p.end

-- a statement that ends with another one, or with a brace
abbrev pub unended : List Piece → Pieces
unended p = record { bare = p; end = [] }

abbrev pub ended : List Piece → Pieces
ended p = record { bare = p; end = sign (codes ";") ∷ [] }

-- each with a space before it
abbrev pub in_line : List Pieces → List Piece
in_line ps = each_behind (Space ∷ []) (map whole ps)

-- statements in braces, in one line
abbrev pub braced : List Pieces → List Piece
braced ps = sign (codes "{") ∷ (in_line ps ++ (Space ∷ sign (codes "}") ∷ []))

abbrev pub maybe_final : Bool → List Piece
maybe_final is_final = if is_final then keyword (codes "final") ∷ Space ∷ [] else []

-- a space and an expression, or nothing
abbrev pub maybe_expr : Option ExprTree → List Piece
maybe_expr None = []
maybe_expr (Some x) = Space ∷ expr_pieces x

abbrev pub maybe_label : Option NamedPlace → List Piece
maybe_label None = []
maybe_label (Some x) = Space ∷ word x.name ∷ []

abbrev pub maybe_init : Option ExprTree → List Piece
maybe_init None = []
maybe_init (Some x) = spaced (sign (codes "=")) ++ expr_pieces x

abbrev pub variable_pieces : VariableTree → List Piece
variable_pieces x = word x.name ∷ (pairs x.dims ++ maybe_init x.init)

-- a keyword, and an expression in parentheses behind it
abbrev pub headed : List ℕ → List Piece → List Piece
headed name p = keyword name ∷ Space ∷ in_parens p

abbrev pub semicolon : Piece
semicolon = sign (codes ";")

-- a space and the updates, or nothing
abbrev pub for_update : List (List Piece) → List Piece
for_update [] = []
for_update (p ∷ ps) = Space ∷ with_commas (p ∷ ps)

abbrev pub stmt_form : StmtTree-F Pieces → Pieces
stmt_form (StmtTree-F.Block at body end) = unended (braced body)
stmt_form (StmtTree-F.Empty at) = ended []
stmt_form (StmtTree-F.Local at is_final holds variables) = ended (maybe_final is_final ++ (type_pieces holds ++ (Space ∷ with_commas (map variable_pieces variables))))
stmt_form (StmtTree-F.Expression at value) = ended (expr_pieces value)
stmt_form (StmtTree-F.If at test body) = unended (headed (codes "if") (expr_pieces test) ++ (Space ∷ whole body))
stmt_form (StmtTree-F.IfElse at test body other) = unended (headed (codes "if") (expr_pieces test) ++ (Space ∷ (whole body ++ (spaced (keyword (codes "else")) ++ whole other))))
stmt_form (StmtTree-F.While at test body) = unended (headed (codes "while") (expr_pieces test) ++ (Space ∷ whole body))
stmt_form (StmtTree-F.Do at body test) = ended (keyword (codes "do") ∷ Space ∷ (whole body ++ (Space ∷ headed (codes "while") (expr_pieces test))))
stmt_form (StmtTree-F.For at init test update body) = unended (headed (codes "for") (with_commas (map (λ p. p.bare) init) ++ (semicolon ∷ (maybe_expr test ++ (semicolon ∷ for_update (map expr_pieces update))))) ++ (Space ∷ whole body))
stmt_form (StmtTree-F.ForEach at is_final holds name over body) = unended (headed (codes "for") (maybe_final is_final ++ (type_pieces holds ++ (Space ∷ word name.name ∷ (spaced (sign (codes ":")) ++ expr_pieces over)))) ++ (Space ∷ whole body))
stmt_form (StmtTree-F.Switch at value members) = unended (headed (codes "switch") (expr_pieces value) ++ (Space ∷ braced members))
stmt_form (StmtTree-F.Case at value) = unended (keyword (codes "case") ∷ Space ∷ (expr_pieces value ++ sign (codes ":") ∷ []))
stmt_form (StmtTree-F.Default at) = unended (keyword (codes "default") ∷ sign (codes ":") ∷ [])
stmt_form (StmtTree-F.Labelled at label body) = unended (word label ∷ sign (codes ":") ∷ Space ∷ whole body)
stmt_form (StmtTree-F.Break at label) = ended (keyword (codes "break") ∷ maybe_label label)
stmt_form (StmtTree-F.Continue at label) = ended (keyword (codes "continue") ∷ maybe_label label)
stmt_form (StmtTree-F.Return at value) = ended (keyword (codes "return") ∷ maybe_expr value)
stmt_form (StmtTree-F.Throw at value) = ended (keyword (codes "throw") ∷ Space ∷ expr_pieces value)
stmt_form (StmtTree-F.Synchronized at lock body) = unended (headed (codes "synchronized") (expr_pieces lock) ++ (Space ∷ whole body))
stmt_form (StmtTree-F.SynchronizedClass at class body) = unended (headed (codes "synchronized") (word class.name ∷ sign (codes ".") ∷ keyword (codes "class") ∷ []) ++ (Space ∷ whole body))
stmt_form (StmtTree-F.Try at body catches) = unended (keyword (codes "try") ∷ Space ∷ (whole body ++ in_line catches))
stmt_form (StmtTree-F.TryFinally at body catches finally) = unended (keyword (codes "try") ∷ Space ∷ (whole body ++ (in_line catches ++ (spaced (keyword (codes "finally")) ++ whole finally))))
stmt_form (StmtTree-F.Catch at is_final types name body) = unended (headed (codes "catch") (maybe_final is_final ++ (separated (spaced (sign (codes "|"))) (map type_pieces types) ++ (Space ∷ word name.name ∷ []))) ++ (Space ∷ whole body))
stmt_form (StmtTree-F.ConstructorCall at is_super args) = ended (keyword (if is_super then codes "super" else codes "this") ∷ arguments (map expr_pieces args))

unfoldable pub stmt_parts : StmtTree → Pieces
stmt_parts = fold-StmtTree Pieces stmt_form

-- a statement, with its semicolon
abbrev pub stmt_pieces : StmtTree → List Piece
stmt_pieces x = whole (stmt_parts x)
