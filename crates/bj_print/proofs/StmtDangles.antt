-- Whether an `if` without `else` stands at the end does not depend on places.
use Rattle.std.proofs.Common.{◌≡◌, Bool, refl, sym, ap, ◌∙◌}
use Rattle.bj_tree.specs.declared.stmt.StmtTree.{StmtTree, StmtTree-F}
use Rattle.bj_stmt.specs.Grammar.{dangles, dangles_form}
use Rattle.bj_print.specs.Same.{unplaced_stmt, SameStmt}
use Rattle.bj_print.proofs.StmtSteady.{blotted, unplaced_steady}

form_steady : (y : StmtTree-F Bool) → dangles_form (blotted y) ≡ dangles_form y
form_steady (StmtTree-F.Block at body end) = refl
form_steady (StmtTree-F.Empty at) = refl
form_steady (StmtTree-F.Local at is_final holds variables) = refl
form_steady (StmtTree-F.Expression at value) = refl
form_steady (StmtTree-F.If at test body) = refl
form_steady (StmtTree-F.IfElse at test body other) = refl
form_steady (StmtTree-F.While at test body) = refl
form_steady (StmtTree-F.Do at body test) = refl
form_steady (StmtTree-F.For at init test update body) = refl
form_steady (StmtTree-F.ForEach at is_final holds name over body) = refl
form_steady (StmtTree-F.Switch at value members) = refl
form_steady (StmtTree-F.Case at value) = refl
form_steady (StmtTree-F.Default at) = refl
form_steady (StmtTree-F.Labelled at label body) = refl
form_steady (StmtTree-F.Break at label) = refl
form_steady (StmtTree-F.Continue at label) = refl
form_steady (StmtTree-F.Return at value) = refl
form_steady (StmtTree-F.Throw at value) = refl
form_steady (StmtTree-F.Synchronized at lock body) = refl
form_steady (StmtTree-F.SynchronizedClass at class body) = refl
form_steady (StmtTree-F.Try at body catches) = refl
form_steady (StmtTree-F.TryFinally at body catches finally) = refl
form_steady (StmtTree-F.Catch at is_final types name body) = refl
form_steady (StmtTree-F.ConstructorCall at is_super args) = refl

dangles_steady : (x : StmtTree) → dangles (unplaced_stmt x) ≡ dangles x
unfolding dangles
dangles_steady = unplaced_steady dangles_form form_steady

pub same_dangles : (x y : StmtTree) → SameStmt x y → dangles x ≡ dangles y
same_dangles x y e = sym (dangles_steady x) ∙ ap dangles e ∙ dangles_steady y
