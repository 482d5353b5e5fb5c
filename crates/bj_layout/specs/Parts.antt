-- Parts of what is printed that functions of the printer write by themselves.
use Rattle.std.specs.Prelude.{ℕ, Bool, ◌==◌, if◌then◌else◌, List, [], ◌∷◌, ◌++◌, map, Option, codes}
use Rattle.bj_expr_tree.specs.declared.types.NamedPlace.{NamedPlace}
use Rattle.bj_expr_tree.specs.declared.types.TypeTree.{TypeTree}
use Rattle.bj_expr_tree.specs.declared.expr.ExprTree.{ExprTree}
use Rattle.bj_tree.specs.declared.stmt.StmtTree.{StmtTree}
use Rattle.bj_writer.specs.Pieces.{Piece, Space, Line}
use Rattle.bj_layout.specs.Exprs.{word, sign, separated, with_commas, type_pieces, spaced, expr_pieces}
use Rattle.bj_layout.specs.Stmts.{maybe_final, maybe_expr, semicolon, for_update, stmt_parts}

-- what stands before the next of so many
abbrev pub before_next : List Piece → ℕ → List Piece
before_next between n = if n == 0 then [] else between

-- between the types of a catch
abbrev pub bar : List Piece
bar = spaced (sign (codes "|"))

-- between the identifiers of a name
abbrev pub point : List Piece
point = sign (codes ".") ∷ []

-- the parameter of a catch
abbrev pub caught_pieces : Bool → List TypeTree → NamedPlace → List Piece
caught_pieces is_final types name = maybe_final is_final ++ (separated bar (map type_pieces types) ++ (Space ∷ word name.name ∷ []))

-- the three parts at the head of a `for`
abbrev pub for_pieces : List StmtTree → Option ExprTree → List ExprTree → List Piece
for_pieces init test update = with_commas (map (λ p. p.bare) (map stmt_parts init)) ++ (semicolon ∷ (maybe_expr test ++ (semicolon ∷ for_update (map expr_pieces update))))

-- the variable of a `for` over an array, and the array
abbrev pub each_pieces : Bool → TypeTree → NamedPlace → ExprTree → List Piece
each_pieces is_final holds name over = maybe_final is_final ++ (type_pieces holds ++ (Space ∷ word name.name ∷ (spaced (sign (codes ":")) ++ expr_pieces over)))

-- what stands between two members: an empty line, but not between fields
abbrev pub gap_between : Bool → Bool → List Piece
gap_between is_behind_field is_field = if is_behind_field then (if is_field then [] else Line 0 ∷ []) else Line 0 ∷ []
