use Rattle.std.proofs.Common.{[], ap, ◌∙◌}
use Rattle.bj_layout.specs.Exprs.{comma, in_brackets, expr_pieces}
use Rattle.bj_layout.proofs.ExprPieces.{index_pieces, binary_pieces, call_pieces, method_call_pieces, super_call_pieces, new_pieces, new_array_pieces, new_values_pieces, braces_pieces, conditional_pieces, assign_pieces, literal_pieces, this_pieces, paren_pieces, name_pieces, field_pieces, super_field_pieces, postfix_pieces, prefix_pieces, unary_pieces, cast_pieces, instance_of_pieces}
use Rattle.bj_layout.proofs.Writing.{nothing_wrote, item_at, wrote_separated, wrote_behind_both, then_wrote, wrote_as}
use Rattle.bj_layout.proofs.expr.+exprs.Goals as goal

pub write_arguments-returns : goal.write_arguments-returns
write_arguments-returns t c = then_wrote c.in_ok-sign.ensures (then_wrote c.in_ok-write_exprs.ensures c.in_ok-sign-2.ensures)

pub write_binary-returns-in_ok-sign-in-Index-2 : goal.write_binary-returns-in_ok-sign-in-Index-2
write_binary-returns-in_ok-sign-in-Index-2 t c = wrote_as (ap expr_pieces c.in-Index.is ∙ index_pieces _ _ _) (then_wrote c.in_ok-write_boxed-in-Index.ensures (then_wrote c.in_ok-sign-in-Index.ensures (then_wrote c.in_ok-write_boxed-in-Index-2.ensures c.in_ok-sign-in-Index-2.ensures)))

pub write_binary-returns-in_ok-write_boxed-in-Binary-2 : goal.write_binary-returns-in_ok-write_boxed-in-Binary-2
write_binary-returns-in_ok-write_boxed-in-Binary-2 t c = wrote_as (ap expr_pieces c.in-Binary.is ∙ binary_pieces _ _ _ _) (then_wrote c.in_ok-write_boxed-in-Binary.ensures (then_wrote c.in_ok-write_binary_sign-in-Binary.ensures c.in_ok-write_boxed-in-Binary-2.ensures))

pub write_call-returns-in_ok-write_arguments-in-Call : goal.write_call-returns-in_ok-write_arguments-in-Call
write_call-returns-in_ok-write_arguments-in-Call t c = wrote_as (ap expr_pieces c.in-Call.is ∙ call_pieces _ _ _) (then_wrote c.in_ok-word-in-Call.ensures c.in_ok-write_arguments-in-Call.ensures)

pub write_call-returns-in_ok-write_arguments-in-MethodCall : goal.write_call-returns-in_ok-write_arguments-in-MethodCall
write_call-returns-in_ok-write_arguments-in-MethodCall t c = wrote_as (ap expr_pieces c.in-MethodCall.is ∙ method_call_pieces _ _ _ _) (then_wrote c.in_ok-write_boxed-in-MethodCall.ensures (then_wrote c.in_ok-point_and_name-in-MethodCall.ensures c.in_ok-write_arguments-in-MethodCall.ensures))

pub write_call-returns-in_ok-write_arguments-in-SuperCall : goal.write_call-returns-in_ok-write_arguments-in-SuperCall
write_call-returns-in_ok-write_arguments-in-SuperCall t c = wrote_as (ap expr_pieces c.in-SuperCall.is ∙ super_call_pieces _ _ _) (then_wrote c.in_ok-keyword-in-SuperCall.ensures (then_wrote c.in_ok-point_and_name-in-SuperCall.ensures c.in_ok-write_arguments-in-SuperCall.ensures))

pub write_creation-returns-in_ok-write_arguments-in-New : goal.write_creation-returns-in_ok-write_arguments-in-New
write_creation-returns-in_ok-write_arguments-in-New t c = wrote_as (ap expr_pieces c.in-New.is ∙ new_pieces _ _ _) (then_wrote c.in_ok-keyword_before-in-New.ensures (then_wrote c.in_ok-word-in-New.ensures c.in_ok-write_arguments-in-New.ensures))

pub write_creation-returns-in_ok-write_pairs-in-NewArray : goal.write_creation-returns-in_ok-write_pairs-in-NewArray
write_creation-returns-in_ok-write_pairs-in-NewArray t c = wrote_as (ap expr_pieces c.in-NewArray.is ∙ new_array_pieces _ _ _ _) (then_wrote c.in_ok-keyword_before-in-NewArray.ensures (then_wrote c.in_ok-write_type-in-NewArray.ensures (then_wrote c.in_ok-write_sizes-in-NewArray.ensures c.in_ok-write_pairs-in-NewArray.ensures)))

pub write_creation-returns-in_ok-write_values-in-NewValues : goal.write_creation-returns-in_ok-write_values-in-NewValues
write_creation-returns-in_ok-write_values-in-NewValues t c = wrote_as (ap expr_pieces c.in-NewValues.is ∙ new_values_pieces _ _ _) (then_wrote c.in_ok-keyword_before-in-NewValues.ensures (then_wrote c.in_ok-write_type-in-NewValues.ensures c.in_ok-write_values-in-NewValues.ensures))

pub write_creation-returns-in_ok-write_values-in-Braces : goal.write_creation-returns-in_ok-write_values-in-Braces
write_creation-returns-in_ok-write_values-in-Braces t c = wrote_as (ap expr_pieces c.in-Braces.is ∙ braces_pieces _ _) c.in_ok-write_values-in-Braces.ensures

pub write_in_brackets-returns : goal.write_in_brackets-returns
write_in_brackets-returns t c = then_wrote c.in_ok-sign.ensures (then_wrote c.in_ok-write_expr.ensures c.in_ok-sign-2.ensures)

pub write_loosest-returns-in_ok-write_boxed-in-Conditional-3 : goal.write_loosest-returns-in_ok-write_boxed-in-Conditional-3
write_loosest-returns-in_ok-write_boxed-in-Conditional-3 t c = wrote_as (ap expr_pieces c.in-Conditional.is ∙ conditional_pieces _ _ _ _) (then_wrote c.in_ok-write_boxed-in-Conditional.ensures (then_wrote c.in_ok-spaced_sign-in-Conditional.ensures (then_wrote c.in_ok-write_boxed-in-Conditional-2.ensures (then_wrote c.in_ok-spaced_sign-in-Conditional-2.ensures c.in_ok-write_boxed-in-Conditional-3.ensures))))

pub write_loosest-returns-in_ok-write_boxed-in-Assign-2 : goal.write_loosest-returns-in_ok-write_boxed-in-Assign-2
write_loosest-returns-in_ok-write_boxed-in-Assign-2 t c = wrote_as (ap expr_pieces c.in-Assign.is ∙ assign_pieces _ _ _ _) (then_wrote c.in_ok-write_boxed-in-Assign.ensures (then_wrote c.in_ok-write_assign_sign-in-Assign.ensures c.in_ok-write_boxed-in-Assign-2.ensures))

pub write_primary-returns-in_ok-write_literal-in-Literal : goal.write_primary-returns-in_ok-write_literal-in-Literal
write_primary-returns-in_ok-write_literal-in-Literal t c = wrote_as (ap expr_pieces c.in-Literal.is ∙ literal_pieces _ _ _) c.in_ok-write_literal-in-Literal.ensures

pub write_primary-returns-in_ok-keyword-in-This : goal.write_primary-returns-in_ok-keyword-in-This
write_primary-returns-in_ok-keyword-in-This t c = wrote_as (ap expr_pieces c.in-This.is ∙ this_pieces _) c.in_ok-keyword-in-This.ensures

pub write_primary-returns-in_ok-write_in_parens-in-Paren : goal.write_primary-returns-in_ok-write_in_parens-in-Paren
write_primary-returns-in_ok-write_in_parens-in-Paren t c = wrote_as (ap expr_pieces c.in-Paren.is ∙ paren_pieces _ _) c.in_ok-write_in_parens-in-Paren.ensures

pub write_in_parens-returns : goal.write_in_parens-returns
write_in_parens-returns t c = then_wrote c.in_ok-sign.ensures (then_wrote c.in_ok-write_boxed.ensures c.in_ok-sign-2.ensures)

pub write_primary-returns-in_ok-word-in-Name : goal.write_primary-returns-in_ok-word-in-Name
write_primary-returns-in_ok-word-in-Name t c = wrote_as (ap expr_pieces c.in-Name.is ∙ name_pieces _ _) c.in_ok-word-in-Name.ensures

pub write_primary-returns-in_ok-point_and_name-in-Field : goal.write_primary-returns-in_ok-point_and_name-in-Field
write_primary-returns-in_ok-point_and_name-in-Field t c = wrote_as (ap expr_pieces c.in-Field.is ∙ field_pieces _ _ _) (then_wrote c.in_ok-write_boxed-in-Field.ensures c.in_ok-point_and_name-in-Field.ensures)

pub write_primary-returns-in_ok-point_and_name-in-SuperField : goal.write_primary-returns-in_ok-point_and_name-in-SuperField
write_primary-returns-in_ok-point_and_name-in-SuperField t c = wrote_as (ap expr_pieces c.in-SuperField.is ∙ super_field_pieces _ _) (then_wrote c.in_ok-keyword-in-SuperField.ensures c.in_ok-point_and_name-in-SuperField.ensures)

pub write_exprs-loop-index-init : goal.write_exprs-loop-index-init
write_exprs-loop-index-init t c = nothing_wrote

pub write_exprs-loop-index-preserved : goal.write_exprs-loop-index-preserved
write_exprs-loop-index-preserved t c =
    wrote_separated comma expr_pieces c.args.trees.now c.loop-index.index c.tree-item.result (item_at c.as_slice-tree-items.ensures c.loop-index-test.true c.tree-item.is) c.loop-index.invariant c.in_ok-comma_before.ensures c.in_ok-write_expr.ensures

pub write_sizes-loop-size-init : goal.write_sizes-loop-size-init
write_sizes-loop-size-init t c = nothing_wrote

pub write_sizes-loop-size-preserved : goal.write_sizes-loop-size-preserved
write_sizes-loop-size-preserved t c =
    wrote_behind_both [] in_brackets expr_pieces c.args.sizes.now c.loop-size.size-index c.size-item.result (item_at c.as_slice-size-items.ensures c.loop-size-test.true c.size-item.is) c.loop-size.invariant c.in_ok-write_in_brackets.ensures

pub write_unary-returns-in_ok-write_step_sign-in-Postfix : goal.write_unary-returns-in_ok-write_step_sign-in-Postfix
write_unary-returns-in_ok-write_step_sign-in-Postfix t c = wrote_as (ap expr_pieces c.in-Postfix.is ∙ postfix_pieces _ _ _) (then_wrote c.in_ok-write_boxed-in-Postfix.ensures c.in_ok-write_step_sign-in-Postfix.ensures)

pub write_unary-returns-in_ok-write_boxed-in-Prefix : goal.write_unary-returns-in_ok-write_boxed-in-Prefix
write_unary-returns-in_ok-write_boxed-in-Prefix t c = wrote_as (ap expr_pieces c.in-Prefix.is ∙ prefix_pieces _ _ _) (then_wrote c.in_ok-write_step_sign-in-Prefix.ensures c.in_ok-write_boxed-in-Prefix.ensures)

pub write_unary-returns-in_ok-write_boxed-in-Unary : goal.write_unary-returns-in_ok-write_boxed-in-Unary
write_unary-returns-in_ok-write_boxed-in-Unary t c = wrote_as (ap expr_pieces c.in-Unary.is ∙ unary_pieces _ _ _) (then_wrote c.in_ok-write_unary_sign-in-Unary.ensures c.in_ok-write_boxed-in-Unary.ensures)

pub write_unary-returns-in_ok-write_boxed-in-Cast : goal.write_unary-returns-in_ok-write_boxed-in-Cast
write_unary-returns-in_ok-write_boxed-in-Cast t c = wrote_as (ap expr_pieces c.in-Cast.is ∙ cast_pieces _ _ _)
    (then_wrote (then_wrote c.in_ok-sign-in-Cast.ensures (then_wrote c.in_ok-write_type-in-Cast.ensures c.in_ok-sign-in-Cast-2.ensures)) (then_wrote c.in_ok-space-in-Cast.ensures c.in_ok-write_boxed-in-Cast.ensures))

pub write_unary-returns-in_ok-write_type-in-InstanceOf : goal.write_unary-returns-in_ok-write_type-in-InstanceOf
write_unary-returns-in_ok-write_type-in-InstanceOf t c = wrote_as (ap expr_pieces c.in-InstanceOf.is ∙ instance_of_pieces _ _ _) (then_wrote c.in_ok-write_boxed-in-InstanceOf.ensures (then_wrote c.in_ok-spaced_keyword-in-InstanceOf.ensures c.in_ok-write_type-in-InstanceOf.ensures))

pub write_values-returns : goal.write_values-returns
write_values-returns t c = then_wrote c.in_ok-sign.ensures (then_wrote c.in_ok-write_exprs.ensures c.in_ok-sign-2.ensures)
