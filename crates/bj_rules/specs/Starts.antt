-- Where trees begin.
use Rattle.bj_base.specs.declared.span.Span.{Span}
use Rattle.bj_expr_tree.specs.declared.expr.ExprTree.{ExprTree}
use Rattle.bj_expr_tree.specs.declared.expr.ExprTree.TheOpen.{ExprTree-F}
use Rattle.bj_tree.specs.declared.stmt.StmtTree.{StmtTree}
use Rattle.bj_tree.specs.declared.stmt.StmtTree.TheOpen.{StmtTree-F}

-- the first token of an expression
abbrev pub expr_start : ExprTree-F ExprTree → Span
expr_start (ExprTree-F.Literal at kind text) = at
expr_start (ExprTree-F.This at) = at
expr_start (ExprTree-F.Paren at inner) = at
expr_start (ExprTree-F.Name at name) = at
expr_start (ExprTree-F.Field at target name) = at
expr_start (ExprTree-F.SuperField at name) = at
expr_start (ExprTree-F.Call at name args) = at
expr_start (ExprTree-F.MethodCall at target name args) = at
expr_start (ExprTree-F.SuperCall at name args) = at
expr_start (ExprTree-F.Index at array index) = at
expr_start (ExprTree-F.New at class args) = at
expr_start (ExprTree-F.NewArray at holds sizes dims) = at
expr_start (ExprTree-F.NewValues at holds values) = at
expr_start (ExprTree-F.Braces at values) = at
expr_start (ExprTree-F.Postfix at op operand) = at
expr_start (ExprTree-F.Prefix at op operand) = at
expr_start (ExprTree-F.Unary at op operand) = at
expr_start (ExprTree-F.Cast at to operand) = at
expr_start (ExprTree-F.Binary at op left right) = at
expr_start (ExprTree-F.InstanceOf at value holds) = at
expr_start (ExprTree-F.Conditional at test chosen other) = at
expr_start (ExprTree-F.Assign at op target value) = at

-- the first token of a statement
abbrev pub stmt_start : StmtTree-F StmtTree → Span
stmt_start (StmtTree-F.Block at body end) = at
stmt_start (StmtTree-F.Empty at) = at
stmt_start (StmtTree-F.Local at is_final holds variables) = at
stmt_start (StmtTree-F.Expression at value) = at
stmt_start (StmtTree-F.If at test body) = at
stmt_start (StmtTree-F.IfElse at test body other) = at
stmt_start (StmtTree-F.While at test body) = at
stmt_start (StmtTree-F.Do at body test) = at
stmt_start (StmtTree-F.For at init test update body) = at
stmt_start (StmtTree-F.ForEach at is_final holds name over body) = at
stmt_start (StmtTree-F.Switch at value members) = at
stmt_start (StmtTree-F.Case at value) = at
stmt_start (StmtTree-F.Default at) = at
stmt_start (StmtTree-F.Labelled at label body) = at
stmt_start (StmtTree-F.Break at label) = at
stmt_start (StmtTree-F.Continue at label) = at
stmt_start (StmtTree-F.Return at value) = at
stmt_start (StmtTree-F.Throw at value) = at
stmt_start (StmtTree-F.Synchronized at lock body) = at
stmt_start (StmtTree-F.SynchronizedClass at class body) = at
stmt_start (StmtTree-F.Try at body catches) = at
stmt_start (StmtTree-F.TryFinally at body catches finally) = at
stmt_start (StmtTree-F.Catch at is_final types name body) = at
stmt_start (StmtTree-F.ConstructorCall at is_super args) = at
