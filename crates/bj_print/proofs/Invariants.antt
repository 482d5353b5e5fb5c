-- The height and the nodes of an expression do not depend on places.
use Rattle.std.proofs.Common.{◌≡◌, ℕ, suc, ◌+◌, List, [], ◌∷◌, map, refl, sym, ap, ◌∙◌}
use Rattle.std.specs.Prelude.{max}
use Rattle.bj_expr_tree.specs.declared.expr.ExprTree.{ExprTree}
use Rattle.bj_expr_tree.specs.Size.{most, height_of}
use Rattle.bj_expr_tree.specs.Count.{total, nodes_of_expr}
use Rattle.bj_expr_tree.proofs.Heights.{literal_height, this_height, paren_height, name_height, field_height, superfield_height, call_height, methodcall_height, supercall_height, index_height, new_height, newarray_height, newvalues_height, braces_height, postfix_height, prefix_height, unary_height, cast_height, binary_height, instanceof_height, conditional_height, assign_height}
use Rattle.bj_expr_tree.proofs.ExprNodes.{literal_nodes, this_nodes, paren_nodes, name_nodes, field_nodes, superfield_nodes, call_nodes, methodcall_nodes, supercall_nodes, index_nodes, new_nodes, newarray_nodes, newvalues_nodes, braces_nodes, postfix_nodes, prefix_nodes, unary_nodes, cast_nodes, binary_nodes, instanceof_nodes, conditional_nodes, assign_nodes}
use Rattle.bj_print.specs.Same.{nowhere, unplaced_type, unplaced_expr, SameExpr}
use Rattle.bj_print.proofs.ExprForms.{Every, by_forms}
use Rattle.bj_print.proofs.ExprSame.{unplaced_literal, unplaced_this, unplaced_paren, unplaced_name, unplaced_field, unplaced_super_field, unplaced_call, unplaced_method_call, unplaced_super_call, unplaced_index, unplaced_new, unplaced_new_array, unplaced_new_values, unplaced_braces, unplaced_postfix, unplaced_prefix, unplaced_unary, unplaced_cast, unplaced_binary, unplaced_instance_of, unplaced_conditional, unplaced_assign}

-- a number of each tree that does not depend on its places
abbrev Stays : (ExprTree → ℕ) → ExprTree → Type 0
Stays f a = f (unplaced_expr a) ≡ f a

all_stay : (f : ExprTree → ℕ) (xs : List ExprTree) → Every (Stays f) xs → map f (map unplaced_expr xs) ≡ map f xs
all_stay f [] h = refl
all_stay f (x ∷ xs) h = ap (λ (n : ℕ). n ∷ map f (map unplaced_expr xs)) h.0 ∙ ap (λ (w : List ℕ). f x ∷ w) (all_stay f xs h.1)

pub unplaced_height : (a : ExprTree) → height_of (unplaced_expr a) ≡ height_of a
unplaced_height = by_forms (Stays height_of) (record {
  of_literal = λ at kind text. ap height_of (unplaced_literal at kind text) ∙ (literal_height nowhere kind text ∙ sym (literal_height at kind text));
  of_this = λ at. ap height_of (unplaced_this at) ∙ (this_height nowhere ∙ sym (this_height at));
  of_paren = λ at inner h0. ap height_of (unplaced_paren at inner) ∙ (paren_height nowhere (unplaced_expr inner) ∙ (ap (λ (z : ℕ). suc z) h0 ∙ sym (paren_height at inner)));
  of_name = λ at name. ap height_of (unplaced_name at name) ∙ (name_height nowhere name ∙ sym (name_height at name));
  of_field = λ at target name h0. ap height_of (unplaced_field at target name) ∙ (field_height nowhere (unplaced_expr target) name ∙ (ap (λ (z : ℕ). suc z) h0 ∙ sym (field_height at target name)));
  of_super_field = λ at name. ap height_of (unplaced_super_field at name) ∙ (superfield_height nowhere name ∙ sym (superfield_height at name));
  of_call = λ at name args h0. ap height_of (unplaced_call at name args) ∙ (call_height nowhere name (map unplaced_expr args) ∙ (ap (λ (z : List ℕ). suc (most z)) (all_stay height_of args h0) ∙ sym (call_height at name args)));
  of_method_call = λ at target name args h0 h1. ap height_of (unplaced_method_call at target name args) ∙ (methodcall_height nowhere (unplaced_expr target) name (map unplaced_expr args)
      ∙ (ap (λ (z : ℕ). suc (max z (most (map height_of (map unplaced_expr args))))) h0 ∙ (ap (λ (z : List ℕ). suc (max (height_of target) (most z))) (all_stay height_of args h1) ∙ sym (methodcall_height at target name args))));
  of_super_call = λ at name args h0. ap height_of (unplaced_super_call at name args) ∙ (supercall_height nowhere name (map unplaced_expr args) ∙ (ap (λ (z : List ℕ). suc (most z)) (all_stay height_of args h0)
      ∙ sym (supercall_height at name args)));
  of_index = λ at array index h0 h1. ap height_of (unplaced_index at array index) ∙ (index_height nowhere (unplaced_expr array) (unplaced_expr index) ∙ (ap (λ (z : ℕ). suc (max z (height_of (unplaced_expr index)))) h0
      ∙ (ap (λ (z : ℕ). suc (max (height_of array) z)) h1 ∙ sym (index_height at array index))));
  of_new = λ at class args h0. ap height_of (unplaced_new at class args) ∙ (new_height nowhere class (map unplaced_expr args) ∙ (ap (λ (z : List ℕ). suc (most z)) (all_stay height_of args h0) ∙ sym (new_height at class args)));
  of_new_array = λ at holds sizes dims h0. ap height_of (unplaced_new_array at holds sizes dims) ∙ (newarray_height nowhere (unplaced_type holds) (map unplaced_expr sizes) dims
      ∙ (ap (λ (z : List ℕ). suc (most z)) (all_stay height_of sizes h0) ∙ sym (newarray_height at holds sizes dims)));
  of_new_values = λ at holds values h0. ap height_of (unplaced_new_values at holds values) ∙ (newvalues_height nowhere (unplaced_type holds) (map unplaced_expr values)
      ∙ (ap (λ (z : List ℕ). suc (most z)) (all_stay height_of values h0) ∙ sym (newvalues_height at holds values)));
  of_braces = λ at values h0. ap height_of (unplaced_braces at values) ∙ (braces_height nowhere (map unplaced_expr values) ∙ (ap (λ (z : List ℕ). suc (most z)) (all_stay height_of values h0) ∙ sym (braces_height at values)));
  of_postfix = λ at op operand h0. ap height_of (unplaced_postfix at op operand) ∙ (postfix_height nowhere op (unplaced_expr operand) ∙ (ap (λ (z : ℕ). suc z) h0 ∙ sym (postfix_height at op operand)));
  of_prefix = λ at op operand h0. ap height_of (unplaced_prefix at op operand) ∙ (prefix_height nowhere op (unplaced_expr operand) ∙ (ap (λ (z : ℕ). suc z) h0 ∙ sym (prefix_height at op operand)));
  of_unary = λ at op operand h0. ap height_of (unplaced_unary at op operand) ∙ (unary_height nowhere op (unplaced_expr operand) ∙ (ap (λ (z : ℕ). suc z) h0 ∙ sym (unary_height at op operand)));
  of_cast = λ at to operand h0. ap height_of (unplaced_cast at to operand) ∙ (cast_height nowhere (unplaced_type to) (unplaced_expr operand) ∙ (ap (λ (z : ℕ). suc z) h0 ∙ sym (cast_height at to operand)));
  of_binary = λ at op left right h0 h1. ap height_of (unplaced_binary at op left right) ∙ (binary_height nowhere op (unplaced_expr left) (unplaced_expr right)
      ∙ (ap (λ (z : ℕ). suc (max z (height_of (unplaced_expr right)))) h0 ∙ (ap (λ (z : ℕ). suc (max (height_of left) z)) h1 ∙ sym (binary_height at op left right))));
  of_instance_of = λ at value holds h0. ap height_of (unplaced_instance_of at value holds) ∙ (instanceof_height nowhere (unplaced_expr value) (unplaced_type holds) ∙ (ap (λ (z : ℕ). suc z) h0
      ∙ sym (instanceof_height at value holds)));
  of_conditional = λ at test chosen other h0 h1 h2. ap height_of (unplaced_conditional at test chosen other) ∙ (conditional_height nowhere (unplaced_expr test) (unplaced_expr chosen) (unplaced_expr other)
      ∙ (ap (λ (z : ℕ). suc (max z (max (height_of (unplaced_expr chosen)) (height_of (unplaced_expr other))))) h0 ∙ (ap (λ (z : ℕ). suc (max (height_of test) (max z (height_of (unplaced_expr other))))) h1
      ∙ (ap (λ (z : ℕ). suc (max (height_of test) (max (height_of chosen) z))) h2 ∙ sym (conditional_height at test chosen other)))));
  of_assign = λ at op target value h0 h1. ap height_of (unplaced_assign at op target value) ∙ (assign_height nowhere op (unplaced_expr target) (unplaced_expr value)
      ∙ (ap (λ (z : ℕ). suc (max z (height_of (unplaced_expr value)))) h0 ∙ (ap (λ (z : ℕ). suc (max (height_of target) z)) h1 ∙ sym (assign_height at op target value))));
})

pub unplaced_nodes : (a : ExprTree) → nodes_of_expr (unplaced_expr a) ≡ nodes_of_expr a
unplaced_nodes = by_forms (Stays nodes_of_expr) (record {
  of_literal = λ at kind text. ap nodes_of_expr (unplaced_literal at kind text) ∙ (literal_nodes nowhere kind text ∙ sym (literal_nodes at kind text));
  of_this = λ at. ap nodes_of_expr (unplaced_this at) ∙ (this_nodes nowhere ∙ sym (this_nodes at));
  of_paren = λ at inner h0. ap nodes_of_expr (unplaced_paren at inner) ∙ (paren_nodes nowhere (unplaced_expr inner) ∙ (ap (λ (z : ℕ). suc z) h0 ∙ sym (paren_nodes at inner)));
  of_name = λ at name. ap nodes_of_expr (unplaced_name at name) ∙ (name_nodes nowhere name ∙ sym (name_nodes at name));
  of_field = λ at target name h0. ap nodes_of_expr (unplaced_field at target name) ∙ (field_nodes nowhere (unplaced_expr target) name ∙ (ap (λ (z : ℕ). suc z) h0 ∙ sym (field_nodes at target name)));
  of_super_field = λ at name. ap nodes_of_expr (unplaced_super_field at name) ∙ (superfield_nodes nowhere name ∙ sym (superfield_nodes at name));
  of_call = λ at name args h0. ap nodes_of_expr (unplaced_call at name args) ∙ (call_nodes nowhere name (map unplaced_expr args) ∙ (ap (λ (z : List ℕ). suc (total z)) (all_stay nodes_of_expr args h0)
      ∙ sym (call_nodes at name args)));
  of_method_call = λ at target name args h0 h1. ap nodes_of_expr (unplaced_method_call at target name args) ∙ (methodcall_nodes nowhere (unplaced_expr target) name (map unplaced_expr args)
      ∙ (ap (λ (z : ℕ). suc (z + total (map nodes_of_expr (map unplaced_expr args)))) h0 ∙ (ap (λ (z : List ℕ). suc (nodes_of_expr target + total z)) (all_stay nodes_of_expr args h1)
      ∙ sym (methodcall_nodes at target name args))));
  of_super_call = λ at name args h0. ap nodes_of_expr (unplaced_super_call at name args) ∙ (supercall_nodes nowhere name (map unplaced_expr args) ∙ (ap (λ (z : List ℕ). suc (total z)) (all_stay nodes_of_expr args h0)
      ∙ sym (supercall_nodes at name args)));
  of_index = λ at array index h0 h1. ap nodes_of_expr (unplaced_index at array index) ∙ (index_nodes nowhere (unplaced_expr array) (unplaced_expr index) ∙ (ap (λ (z : ℕ). suc (z + nodes_of_expr (unplaced_expr index))) h0
      ∙ (ap (λ (z : ℕ). suc (nodes_of_expr array + z)) h1 ∙ sym (index_nodes at array index))));
  of_new = λ at class args h0. ap nodes_of_expr (unplaced_new at class args) ∙ (new_nodes nowhere class (map unplaced_expr args) ∙ (ap (λ (z : List ℕ). suc (total z)) (all_stay nodes_of_expr args h0)
      ∙ sym (new_nodes at class args)));
  of_new_array = λ at holds sizes dims h0. ap nodes_of_expr (unplaced_new_array at holds sizes dims) ∙ (newarray_nodes nowhere (unplaced_type holds) (map unplaced_expr sizes) dims
      ∙ (ap (λ (z : List ℕ). suc (total z)) (all_stay nodes_of_expr sizes h0) ∙ sym (newarray_nodes at holds sizes dims)));
  of_new_values = λ at holds values h0. ap nodes_of_expr (unplaced_new_values at holds values) ∙ (newvalues_nodes nowhere (unplaced_type holds) (map unplaced_expr values)
      ∙ (ap (λ (z : List ℕ). suc (total z)) (all_stay nodes_of_expr values h0) ∙ sym (newvalues_nodes at holds values)));
  of_braces = λ at values h0. ap nodes_of_expr (unplaced_braces at values) ∙ (braces_nodes nowhere (map unplaced_expr values) ∙ (ap (λ (z : List ℕ). suc (total z)) (all_stay nodes_of_expr values h0)
      ∙ sym (braces_nodes at values)));
  of_postfix = λ at op operand h0. ap nodes_of_expr (unplaced_postfix at op operand) ∙ (postfix_nodes nowhere op (unplaced_expr operand) ∙ (ap (λ (z : ℕ). suc z) h0 ∙ sym (postfix_nodes at op operand)));
  of_prefix = λ at op operand h0. ap nodes_of_expr (unplaced_prefix at op operand) ∙ (prefix_nodes nowhere op (unplaced_expr operand) ∙ (ap (λ (z : ℕ). suc z) h0 ∙ sym (prefix_nodes at op operand)));
  of_unary = λ at op operand h0. ap nodes_of_expr (unplaced_unary at op operand) ∙ (unary_nodes nowhere op (unplaced_expr operand) ∙ (ap (λ (z : ℕ). suc z) h0 ∙ sym (unary_nodes at op operand)));
  of_cast = λ at to operand h0. ap nodes_of_expr (unplaced_cast at to operand) ∙ (cast_nodes nowhere (unplaced_type to) (unplaced_expr operand) ∙ (ap (λ (z : ℕ). suc z) h0 ∙ sym (cast_nodes at to operand)));
  of_binary = λ at op left right h0 h1. ap nodes_of_expr (unplaced_binary at op left right) ∙ (binary_nodes nowhere op (unplaced_expr left) (unplaced_expr right)
      ∙ (ap (λ (z : ℕ). suc (z + nodes_of_expr (unplaced_expr right))) h0 ∙ (ap (λ (z : ℕ). suc (nodes_of_expr left + z)) h1 ∙ sym (binary_nodes at op left right))));
  of_instance_of = λ at value holds h0. ap nodes_of_expr (unplaced_instance_of at value holds) ∙ (instanceof_nodes nowhere (unplaced_expr value) (unplaced_type holds) ∙ (ap (λ (z : ℕ). suc z) h0
      ∙ sym (instanceof_nodes at value holds)));
  of_conditional = λ at test chosen other h0 h1 h2. ap nodes_of_expr (unplaced_conditional at test chosen other) ∙ (conditional_nodes nowhere (unplaced_expr test) (unplaced_expr chosen) (unplaced_expr other)
      ∙ (ap (λ (z : ℕ). suc (z + (nodes_of_expr (unplaced_expr chosen) + nodes_of_expr (unplaced_expr other)))) h0 ∙ (ap (λ (z : ℕ). suc (nodes_of_expr test + (z + nodes_of_expr (unplaced_expr other)))) h1
      ∙ (ap (λ (z : ℕ). suc (nodes_of_expr test + (nodes_of_expr chosen + z))) h2 ∙ sym (conditional_nodes at test chosen other)))));
  of_assign = λ at op target value h0 h1. ap nodes_of_expr (unplaced_assign at op target value) ∙ (assign_nodes nowhere op (unplaced_expr target) (unplaced_expr value)
      ∙ (ap (λ (z : ℕ). suc (z + nodes_of_expr (unplaced_expr value))) h0 ∙ (ap (λ (z : ℕ). suc (nodes_of_expr target + z)) h1 ∙ sym (assign_nodes at op target value))));
})

pub same_height : (a b : ExprTree) → SameExpr a b → height_of a ≡ height_of b
same_height a b e = sym (unplaced_height a) ∙ ap height_of e ∙ unplaced_height b
