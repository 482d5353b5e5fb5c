-- Trees that differ only in where their tokens stand.
use Rattle.std.specs.Prelude.{◌≡◌, map, option_map}
use Rattle.bj_base.specs.declared.span.Span.{Span}
use Rattle.bj_expr_tree.specs.declared.types.NamedPlace.{NamedPlace}
use Rattle.bj_expr_tree.specs.declared.types.TypeTree.{TypeTree}
use Rattle.bj_expr_tree.specs.declared.expr.ExprTree.{ExprTree}
use Rattle.bj_expr_tree.specs.declared.expr.ExprTree.TheVariants as e
use Rattle.bj_expr_tree.specs.declared.expr.ExprTree.TheOpen.{ExprTree-F}
use Rattle.bj_expr_tree.specs.declared.expr.ExprTree.TheFolds.{fold-ExprTree}
use Rattle.bj_tree.specs.declared.stmt.VariableTree.{VariableTree}
use Rattle.bj_tree.specs.declared.stmt.StmtTree.{StmtTree}
use Rattle.bj_tree.specs.declared.stmt.StmtTree.TheVariants as s
use Rattle.bj_tree.specs.declared.stmt.StmtTree.TheOpen.{StmtTree-F}
use Rattle.bj_tree.specs.declared.stmt.StmtTree.TheFolds.{fold-StmtTree}
use Rattle.bj_tree.specs.declared.class.Modifier.{Modifier}
use Rattle.bj_tree.specs.declared.class.AnnotationTree.{AnnotationTree}
use Rattle.bj_tree.specs.declared.class.ImportTree.{ImportTree}
use Rattle.bj_tree.specs.declared.class.ClassTree.{ClassTree}
use Rattle.bj_tree.specs.declared.member.ParameterTree.{ParameterTree}
use Rattle.bj_tree.specs.declared.member.MemberTree.{MemberTree}
use Rattle.bj_tree.specs.declared.member.MemberTree.TheVariants as m

-- the place that stands for each
abbrev pub nowhere : Span
nowhere = record { line = 0; column = 0 }

-- ---- trees with each place blotted out

abbrev pub unplaced_name : NamedPlace → NamedPlace
unplaced_name x = record x { at = nowhere }

abbrev pub unplaced_type : TypeTree → TypeTree
unplaced_type x = record x { at = nowhere }

abbrev pub unplaced_expr_form : ExprTree-F ExprTree → ExprTree
unplaced_expr_form (ExprTree-F.Literal at kind text) = e.Literal nowhere kind text
unplaced_expr_form (ExprTree-F.This at) = e.This nowhere
unplaced_expr_form (ExprTree-F.Paren at inner) = e.Paren nowhere inner
unplaced_expr_form (ExprTree-F.Name at name) = e.Name nowhere name
unplaced_expr_form (ExprTree-F.Field at target name) = e.Field nowhere target name
unplaced_expr_form (ExprTree-F.SuperField at name) = e.SuperField nowhere name
unplaced_expr_form (ExprTree-F.Call at name args) = e.Call nowhere name args
unplaced_expr_form (ExprTree-F.MethodCall at target name args) = e.MethodCall nowhere target name args
unplaced_expr_form (ExprTree-F.SuperCall at name args) = e.SuperCall nowhere name args
unplaced_expr_form (ExprTree-F.Index at array index) = e.Index nowhere array index
unplaced_expr_form (ExprTree-F.New at class args) = e.New nowhere class args
unplaced_expr_form (ExprTree-F.NewArray at holds sizes dims) = e.NewArray nowhere (unplaced_type holds) sizes dims
unplaced_expr_form (ExprTree-F.NewValues at holds values) = e.NewValues nowhere (unplaced_type holds) values
unplaced_expr_form (ExprTree-F.Braces at values) = e.Braces nowhere values
unplaced_expr_form (ExprTree-F.Postfix at op operand) = e.Postfix nowhere op operand
unplaced_expr_form (ExprTree-F.Prefix at op operand) = e.Prefix nowhere op operand
unplaced_expr_form (ExprTree-F.Unary at op operand) = e.Unary nowhere op operand
unplaced_expr_form (ExprTree-F.Cast at to operand) = e.Cast nowhere (unplaced_type to) operand
unplaced_expr_form (ExprTree-F.Binary at op left right) = e.Binary nowhere op left right
unplaced_expr_form (ExprTree-F.InstanceOf at value holds) = e.InstanceOf nowhere value (unplaced_type holds)
unplaced_expr_form (ExprTree-F.Conditional at test chosen other) = e.Conditional nowhere test chosen other
unplaced_expr_form (ExprTree-F.Assign at op target value) = e.Assign nowhere op target value

unfoldable pub unplaced_expr : ExprTree → ExprTree
unplaced_expr = fold-ExprTree ExprTree unplaced_expr_form

abbrev pub unplaced_variable : VariableTree → VariableTree
unplaced_variable x = record x { at = nowhere; init = option_map unplaced_expr x.init }

abbrev pub unplaced_stmt_form : StmtTree-F StmtTree → StmtTree
unplaced_stmt_form (StmtTree-F.Block at body end) = s.Block nowhere body nowhere
unplaced_stmt_form (StmtTree-F.Empty at) = s.Empty nowhere
unplaced_stmt_form (StmtTree-F.Local at is_final holds variables) = s.Local nowhere is_final (unplaced_type holds) (map unplaced_variable variables)
unplaced_stmt_form (StmtTree-F.Expression at value) = s.Expression nowhere (unplaced_expr value)
unplaced_stmt_form (StmtTree-F.If at test body) = s.If nowhere (unplaced_expr test) body
unplaced_stmt_form (StmtTree-F.IfElse at test body other) = s.IfElse nowhere (unplaced_expr test) body other
unplaced_stmt_form (StmtTree-F.While at test body) = s.While nowhere (unplaced_expr test) body
unplaced_stmt_form (StmtTree-F.Do at body test) = s.Do nowhere body (unplaced_expr test)
unplaced_stmt_form (StmtTree-F.For at init test update body) = s.For nowhere init (option_map unplaced_expr test) (map unplaced_expr update) body
unplaced_stmt_form (StmtTree-F.ForEach at is_final holds name over body) = s.ForEach nowhere is_final (unplaced_type holds) (unplaced_name name) (unplaced_expr over) body
unplaced_stmt_form (StmtTree-F.Switch at value members) = s.Switch nowhere (unplaced_expr value) members
unplaced_stmt_form (StmtTree-F.Case at value) = s.Case nowhere (unplaced_expr value)
unplaced_stmt_form (StmtTree-F.Default at) = s.Default nowhere
unplaced_stmt_form (StmtTree-F.Labelled at label body) = s.Labelled nowhere label body
unplaced_stmt_form (StmtTree-F.Break at label) = s.Break nowhere (option_map unplaced_name label)
unplaced_stmt_form (StmtTree-F.Continue at label) = s.Continue nowhere (option_map unplaced_name label)
unplaced_stmt_form (StmtTree-F.Return at value) = s.Return nowhere (option_map unplaced_expr value)
unplaced_stmt_form (StmtTree-F.Throw at value) = s.Throw nowhere (unplaced_expr value)
unplaced_stmt_form (StmtTree-F.Synchronized at lock body) = s.Synchronized nowhere (unplaced_expr lock) body
unplaced_stmt_form (StmtTree-F.SynchronizedClass at class body) = s.SynchronizedClass nowhere (unplaced_name class) body
unplaced_stmt_form (StmtTree-F.Try at body catches) = s.Try nowhere body catches
unplaced_stmt_form (StmtTree-F.TryFinally at body catches finally) = s.TryFinally nowhere body catches finally
unplaced_stmt_form (StmtTree-F.Catch at is_final types name body) = s.Catch nowhere is_final (map unplaced_type types) (unplaced_name name) body
unplaced_stmt_form (StmtTree-F.ConstructorCall at is_super args) = s.ConstructorCall nowhere is_super (map unplaced_expr args)

unfoldable pub unplaced_stmt : StmtTree → StmtTree
unplaced_stmt = fold-StmtTree StmtTree unplaced_stmt_form

abbrev pub unplaced_modifier : Modifier → Modifier
unplaced_modifier x = record x { at = nowhere }

abbrev pub unplaced_annotation : AnnotationTree → AnnotationTree
unplaced_annotation x = record { at = nowhere; name = unplaced_name x.name; expected = option_map unplaced_name x.expected }

abbrev pub unplaced_import : ImportTree → ImportTree
unplaced_import x = record x { at = nowhere; names = map unplaced_name x.names }

abbrev pub unplaced_parameter : ParameterTree → ParameterTree
unplaced_parameter x = record x { at = nowhere; of = unplaced_type x.of; name = unplaced_name x.name }

abbrev pub nowhere_of : Span → Span
nowhere_of at = nowhere

abbrev pub unplaced_member : MemberTree → MemberTree
unplaced_member (m.Field f) = m.Field (record { at = nowhere; annotations = map unplaced_annotation f.annotations; modifiers = map unplaced_modifier f.modifiers; of = unplaced_type f.of; variables = map unplaced_variable f.variables })
unplaced_member (m.Method f) = m.Method (record {
  at = nowhere;
  annotations = map unplaced_annotation f.annotations;
  modifiers = map unplaced_modifier f.modifiers;
  default = option_map nowhere_of f.default;
  result = option_map unplaced_type f.result;
  name = unplaced_name f.name;
  parameters = map unplaced_parameter f.parameters;
  throws = map unplaced_name f.throws;
  body = option_map unplaced_stmt f.body;
})
unplaced_member (m.Constructor f) = m.Constructor (record {
  at = nowhere;
  annotations = map unplaced_annotation f.annotations;
  modifiers = map unplaced_modifier f.modifiers;
  name = unplaced_name f.name;
  parameters = map unplaced_parameter f.parameters;
  throws = map unplaced_name f.throws;
  body = unplaced_stmt f.body;
})
unplaced_member (m.Initializer f) = m.Initializer (record { at = nowhere; is_static = f.is_static; body = unplaced_stmt f.body })
unplaced_member (m.Empty at) = m.Empty nowhere

abbrev pub unplaced_class : ClassTree → ClassTree
unplaced_class x = record {
  file = x.file;
  imports = map unplaced_import x.imports;
  at = nowhere;
  annotations = map unplaced_annotation x.annotations;
  modifiers = map unplaced_modifier x.modifiers;
  kind = x.kind;
  name = unplaced_name x.name;
  superclass = option_map unplaced_name x.superclass;
  superinterfaces = map unplaced_name x.superinterfaces;
  members = map unplaced_member x.members;
  end = nowhere;
}

-- ---- the same but for places

abbrev pub SameExpr : ExprTree → ExprTree → Type 0
SameExpr a b = unplaced_expr a ≡ unplaced_expr b

abbrev pub SameStmt : StmtTree → StmtTree → Type 0
SameStmt a b = unplaced_stmt a ≡ unplaced_stmt b

abbrev pub SameClass : ClassTree → ClassTree → Type 0
SameClass a b = unplaced_class a ≡ unplaced_class b
