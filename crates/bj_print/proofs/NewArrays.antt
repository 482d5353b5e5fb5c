-- What does not depend on places.
use Rattle.std.proofs.Common.{◌≡◌, sym, ap, ◌∙◌}
use Rattle.bj_expr_tree.specs.declared.expr.ExprTree.{ExprTree}
use Rattle.bj_expr.specs.Grammar.{is_new_array}
use Rattle.bj_print.specs.Same.{unplaced_expr, SameExpr}
use Rattle.bj_print.proofs.ExprForms.{by_forms}
use Rattle.bj_print.proofs.ExprSame.{unplaced_literal, unplaced_this, unplaced_paren, unplaced_name, unplaced_field, unplaced_super_field, unplaced_call, unplaced_method_call, unplaced_super_call, unplaced_index, unplaced_new, unplaced_new_array, unplaced_new_values, unplaced_braces, unplaced_postfix, unplaced_prefix, unplaced_unary, unplaced_cast, unplaced_binary, unplaced_instance_of, unplaced_conditional, unplaced_assign}

unplaced_is_new_array : (a : ExprTree) → is_new_array (unplaced_expr a) ≡ is_new_array a
unplaced_is_new_array = by_forms (λ a. is_new_array (unplaced_expr a) ≡ is_new_array a) (record {
  of_literal = λ at kind text. ap is_new_array (unplaced_literal at kind text);
  of_this = λ at. ap is_new_array (unplaced_this at);
  of_paren = λ at inner h0. ap is_new_array (unplaced_paren at inner);
  of_name = λ at name. ap is_new_array (unplaced_name at name);
  of_field = λ at target name h0. ap is_new_array (unplaced_field at target name);
  of_super_field = λ at name. ap is_new_array (unplaced_super_field at name);
  of_call = λ at name args h0. ap is_new_array (unplaced_call at name args);
  of_method_call = λ at target name args h0 h1. ap is_new_array (unplaced_method_call at target name args);
  of_super_call = λ at name args h0. ap is_new_array (unplaced_super_call at name args);
  of_index = λ at array index h0 h1. ap is_new_array (unplaced_index at array index);
  of_new = λ at class args h0. ap is_new_array (unplaced_new at class args);
  of_new_array = λ at holds sizes dims h0. ap is_new_array (unplaced_new_array at holds sizes dims);
  of_new_values = λ at holds values h0. ap is_new_array (unplaced_new_values at holds values);
  of_braces = λ at values h0. ap is_new_array (unplaced_braces at values);
  of_postfix = λ at op operand h0. ap is_new_array (unplaced_postfix at op operand);
  of_prefix = λ at op operand h0. ap is_new_array (unplaced_prefix at op operand);
  of_unary = λ at op operand h0. ap is_new_array (unplaced_unary at op operand);
  of_cast = λ at to operand h0. ap is_new_array (unplaced_cast at to operand);
  of_binary = λ at op left right h0 h1. ap is_new_array (unplaced_binary at op left right);
  of_instance_of = λ at value holds h0. ap is_new_array (unplaced_instance_of at value holds);
  of_conditional = λ at test chosen other h0 h1 h2. ap is_new_array (unplaced_conditional at test chosen other);
  of_assign = λ at op target value h0 h1. ap is_new_array (unplaced_assign at op target value);
})

pub same_is_new_array : (a b : ExprTree) → SameExpr a b → is_new_array a ≡ is_new_array b
same_is_new_array a b e = sym (unplaced_is_new_array a) ∙ (ap is_new_array e ∙ unplaced_is_new_array b)
