-- What each form of statement is printed as, with its parts side by side.
use Rattle.std.proofs.Common.{◌≡◌, ℕ, Bool, if◌then◌else◌, List, [], ◌∷◌, ◌++◌, map, Option, refl, ap, ◌∙◌, append_assoc}
use Rattle.std.specs.Prelude.{codes}
use Rattle.std.proofs.lemmas.List.{append-nil}
use Rattle.bj_base.specs.declared.span.Span.{Span}
use Rattle.bj_expr_tree.specs.declared.types.TypeTree.{TypeTree}
use Rattle.bj_expr_tree.specs.declared.types.NamedPlace.{NamedPlace}
use Rattle.bj_expr_tree.specs.declared.expr.ExprTree.{ExprTree}
use Rattle.bj_tree.specs.declared.stmt.StmtTree.{StmtTree}
use Rattle.bj_tree.specs.declared.stmt.StmtTree.TheVariants as stmt
use Rattle.bj_writer.specs.Pieces.{Piece, Space}
use Rattle.bj_layout.specs.Exprs.{word, keyword, sign, separated, with_commas, type_pieces, spaced, expr_pieces}
use Rattle.bj_layout.specs.Stmts.{Pieces, whole, in_line, maybe_final, maybe_expr, maybe_label, headed, semicolon, for_update, stmt_parts, stmt_pieces}
use Rattle.bj_print.proofs.ExprLaws.{list_pieces}
use Rattle.bj_layout.proofs.StmtParts.{block_parts, empty_parts, if_parts, if_else_parts, while_parts, do_parts, for_parts, for_each_parts, switch_parts, case_parts, default_parts, labelled_parts, break_parts, continue_parts, return_parts, throw_parts, synchronized_parts, synchronized_class_parts, try_parts, try_finally_parts, catch_parts, constructor_call_parts}

-- statements with a space before each
abbrev pub line_pieces : List StmtTree → List Piece
line_pieces xs = in_line (map stmt_parts xs)

-- a statement without its semicolon
abbrev pub bare_pieces : StmtTree → List Piece
bare_pieces x = (stmt_parts x).bare

-- statements without their semicolons, with commas between them
abbrev pub bare_list : List StmtTree → List Piece
bare_list xs = with_commas (map (λ (p : Pieces). p.bare) (map stmt_parts xs))

pub bares_listed : (xs : List StmtTree) → bare_list xs ≡ with_commas (map bare_pieces xs)
bares_listed xs = ap with_commas (each_bare xs)
  where
    each_bare : (xs : List StmtTree) → map (λ (p : Pieces). p.bare) (map stmt_parts xs) ≡ map bare_pieces xs
    each_bare [] = refl
    each_bare (x ∷ xs) = ap (λ (ps : List (List Piece)). bare_pieces x ∷ ps) (each_bare xs)

-- ---- each form

pub block_pieces : (at : Span) (body : List StmtTree) (end : Span) → stmt_pieces (stmt.Block at body end) ≡ sign (codes "{") ∷ (line_pieces body ++ (Space ∷ sign (codes "}") ∷ []))
block_pieces at body end = ap whole (block_parts at body end) ∙ simp (append-nil, append_assoc)

pub empty_pieces : (at : Span) → stmt_pieces (stmt.Empty at) ≡ semicolon ∷ []
empty_pieces at = ap whole (empty_parts at)

pub if_pieces : (at : Span) (test : ExprTree) (body : StmtTree)
    → stmt_pieces (stmt.If at test body) ≡ keyword (codes "if") ∷ Space ∷ sign (codes "(") ∷ (expr_pieces test ++ (sign (codes ")") ∷ Space ∷ stmt_pieces body))
if_pieces at test body = ap whole (if_parts at test body) ∙ simp (append-nil, append_assoc)

pub if_else_pieces : (at : Span) (test : ExprTree) (body : StmtTree) (other : StmtTree)
    → stmt_pieces (stmt.IfElse at test body other) ≡ keyword (codes "if") ∷ Space ∷ sign (codes "(") ∷ (expr_pieces test ++ (sign (codes ")") ∷ Space ∷ (stmt_pieces body ++ (spaced (keyword (codes "else")) ++ stmt_pieces other))))
if_else_pieces at test body other = ap whole (if_else_parts at test body other) ∙ simp (append-nil, append_assoc)

pub while_pieces : (at : Span) (test : ExprTree) (body : StmtTree)
    → stmt_pieces (stmt.While at test body) ≡ keyword (codes "while") ∷ Space ∷ sign (codes "(") ∷ (expr_pieces test ++ (sign (codes ")") ∷ Space ∷ stmt_pieces body))
while_pieces at test body = ap whole (while_parts at test body) ∙ simp (append-nil, append_assoc)

pub do_pieces : (at : Span) (body : StmtTree) (test : ExprTree)
    → stmt_pieces (stmt.Do at body test) ≡ keyword (codes "do") ∷ Space ∷ (stmt_pieces body ++ (Space ∷ keyword (codes "while") ∷ Space ∷ sign (codes "(") ∷ (expr_pieces test ++ (sign (codes ")") ∷ semicolon ∷ []))))
do_pieces at body test = ap whole (do_parts at body test) ∙ simp append_assoc

pub for_pieces : (at : Span) (init : List StmtTree) (test : Option ExprTree) (update : List ExprTree) (body : StmtTree)
    → stmt_pieces (stmt.For at init test update body) ≡ keyword (codes "for") ∷ Space ∷ sign (codes "(") ∷ (bare_list init ++ (semicolon ∷ (maybe_expr test ++ (semicolon ∷ (for_update (map expr_pieces update) ++ (sign (codes ")") ∷ Space ∷ stmt_pieces body))))))
for_pieces at init test update body = ap whole (for_parts at init test update body) ∙ simp (append-nil, append_assoc)

for_each_flat : (key : List ℕ) (f ty : List Piece) (name : List ℕ) (x b : List Piece) → (headed key (f ++ (ty ++ (Space ∷ word name ∷ (spaced (sign (codes ":")) ++ x)))) ++ (Space ∷ b)) ++ []
    ≡ keyword key ∷ Space ∷ sign (codes "(") ∷ (f ++ (ty ++ (Space ∷ word name ∷ (spaced (sign (codes ":")) ++ (x ++ (sign (codes ")") ∷ Space ∷ b))))))
for_each_flat key f ty name x b = simp (append-nil, append_assoc)

pub for_each_pieces : (at : Span) (is_final : Bool) (holds : TypeTree) (name : NamedPlace) (over : ExprTree) (body : StmtTree)
    → stmt_pieces (stmt.ForEach at is_final holds name over body) ≡ keyword (codes "for") ∷ Space ∷ sign (codes "(") ∷ (maybe_final is_final ++ (type_pieces holds ++ (Space ∷ word name.name ∷ (spaced (sign (codes ":")) ++ (expr_pieces over ++ (sign (codes ")") ∷ Space ∷ stmt_pieces body))))))
for_each_pieces at is_final holds name over body = ap whole (for_each_parts at is_final holds name over body)
    ∙ for_each_flat (codes "for") (maybe_final is_final) (type_pieces holds) name.name (expr_pieces over) (stmt_pieces body)

pub switch_pieces : (at : Span) (value : ExprTree) (members : List StmtTree)
    → stmt_pieces (stmt.Switch at value members) ≡ keyword (codes "switch") ∷ Space ∷ sign (codes "(") ∷ (expr_pieces value ++ (sign (codes ")") ∷ Space ∷ sign (codes "{") ∷ (line_pieces members ++ (Space ∷ sign (codes "}") ∷ []))))
switch_pieces at value members = ap whole (switch_parts at value members) ∙ simp (append-nil, append_assoc)

pub case_pieces : (at : Span) (value : ExprTree) → stmt_pieces (stmt.Case at value) ≡ keyword (codes "case") ∷ Space ∷ (expr_pieces value ++ sign (codes ":") ∷ [])
case_pieces at value = ap whole (case_parts at value) ∙ simp (append-nil, append_assoc)

pub default_pieces : (at : Span) → stmt_pieces (stmt.Default at) ≡ keyword (codes "default") ∷ sign (codes ":") ∷ []
default_pieces at = ap whole (default_parts at) ∙ simp append-nil

pub labelled_pieces : (at : Span) (label : List ℕ) (body : StmtTree) → stmt_pieces (stmt.Labelled at label body) ≡ word label ∷ sign (codes ":") ∷ Space ∷ stmt_pieces body
labelled_pieces at label body = ap whole (labelled_parts at label body) ∙ simp (append-nil, append_assoc)

pub break_pieces : (at : Span) (label : Option NamedPlace) → stmt_pieces (stmt.Break at label) ≡ keyword (codes "break") ∷ (maybe_label label ++ semicolon ∷ [])
break_pieces at label = ap whole (break_parts at label)

pub continue_pieces : (at : Span) (label : Option NamedPlace) → stmt_pieces (stmt.Continue at label) ≡ keyword (codes "continue") ∷ (maybe_label label ++ semicolon ∷ [])
continue_pieces at label = ap whole (continue_parts at label)

pub return_pieces : (at : Span) (value : Option ExprTree) → stmt_pieces (stmt.Return at value) ≡ keyword (codes "return") ∷ (maybe_expr value ++ semicolon ∷ [])
return_pieces at value = ap whole (return_parts at value)

pub throw_pieces : (at : Span) (value : ExprTree) → stmt_pieces (stmt.Throw at value) ≡ keyword (codes "throw") ∷ Space ∷ (expr_pieces value ++ semicolon ∷ [])
throw_pieces at value = ap whole (throw_parts at value)

pub synchronized_pieces : (at : Span) (lock : ExprTree) (body : StmtTree)
    → stmt_pieces (stmt.Synchronized at lock body) ≡ keyword (codes "synchronized") ∷ Space ∷ sign (codes "(") ∷ (expr_pieces lock ++ (sign (codes ")") ∷ Space ∷ stmt_pieces body))
synchronized_pieces at lock body = ap whole (synchronized_parts at lock body) ∙ simp (append-nil, append_assoc)

pub synchronized_class_pieces : (at : Span) (class : NamedPlace) (body : StmtTree)
    → stmt_pieces (stmt.SynchronizedClass at class body) ≡ keyword (codes "synchronized") ∷ Space ∷ sign (codes "(") ∷ word class.name ∷ sign (codes ".") ∷ keyword (codes "class") ∷ sign (codes ")") ∷ Space ∷ stmt_pieces body
synchronized_class_pieces at class body = ap whole (synchronized_class_parts at class body) ∙ simp (append-nil, append_assoc)

pub try_pieces : (at : Span) (body : StmtTree) (catches : List StmtTree) → stmt_pieces (stmt.Try at body catches) ≡ keyword (codes "try") ∷ Space ∷ (stmt_pieces body ++ line_pieces catches)
try_pieces at body catches = ap whole (try_parts at body catches) ∙ simp (append-nil, append_assoc)

pub try_finally_pieces : (at : Span) (body : StmtTree) (catches : List StmtTree) (finally : StmtTree)
    → stmt_pieces (stmt.TryFinally at body catches finally) ≡ keyword (codes "try") ∷ Space ∷ (stmt_pieces body ++ (line_pieces catches ++ (spaced (keyword (codes "finally")) ++ stmt_pieces finally)))
try_finally_pieces at body catches finally = ap whole (try_finally_parts at body catches finally) ∙ simp (append-nil, append_assoc)

pub catch_pieces : (at : Span) (is_final : Bool) (types : List TypeTree) (name : NamedPlace) (body : StmtTree)
    → stmt_pieces (stmt.Catch at is_final types name body) ≡ keyword (codes "catch") ∷ Space ∷ sign (codes "(") ∷ (maybe_final is_final ++ (separated (spaced (sign (codes "|"))) (map type_pieces types) ++ (Space ∷ word name.name ∷ sign (codes ")") ∷ Space ∷ stmt_pieces body)))
catch_pieces at is_final types name body = ap whole (catch_parts at is_final types name body) ∙ simp (append-nil, append_assoc)

pub constructor_call_pieces : (at : Span) (is_super : Bool) (args : List ExprTree)
    → stmt_pieces (stmt.ConstructorCall at is_super args) ≡ keyword (if is_super then codes "super" else codes "this") ∷ sign (codes "(") ∷ (list_pieces args ++ (sign (codes ")") ∷ semicolon ∷ []))
constructor_call_pieces at is_super args = ap whole (constructor_call_parts at is_super args) ∙ simp append_assoc
