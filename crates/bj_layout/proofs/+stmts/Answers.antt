use Rattle.std.proofs.Common.{[], ◌∷◌, ap, ◌∙◌}
use Rattle.bj_writer.specs.Pieces.{Space}
use Rattle.bj_layout.specs.Exprs.{comma}
use Rattle.bj_layout.specs.Stmts.{Pieces, whole, stmt_parts}
use Rattle.bj_layout.proofs.Writing.{nothing_wrote, then_wrote, item_at, wrote_behind_both, wrote_separated_both}
use Rattle.bj_layout.proofs.StmtParts.{wrote_bare, block_parts, empty_parts, local_parts, expression_parts, if_parts, if_else_parts, while_parts, do_parts, for_parts, for_each_parts, switch_parts, case_parts, default_parts, labelled_parts, synchronized_parts, synchronized_class_parts, try_parts, try_finally_parts, catch_parts, constructor_call_parts}
use Rattle.bj_layout.proofs.+stmts.Goals as goal

pub bare::write_plain-returns-in-Empty : goal.bare::write_plain-returns-in-Empty
bare::write_plain-returns-in-Empty t c = wrote_bare (ap stmt_parts c.in-Empty.is ∙ empty_parts _) nothing_wrote

pub bare::write_plain-returns-in_ok-write_braced-in-Block : goal.bare::write_plain-returns-in_ok-write_braced-in-Block
bare::write_plain-returns-in_ok-write_braced-in-Block t c =
    wrote_bare (ap stmt_parts c.in-Block.is ∙ block_parts _ _ _)
    c.in_ok-write_braced-in-Block.ensures

pub bare::write_plain-returns-in_ok-write_variables-in-Local : goal.bare::write_plain-returns-in_ok-write_variables-in-Local
bare::write_plain-returns-in_ok-write_variables-in-Local t c =
    wrote_bare (ap stmt_parts c.in-Local.is ∙ local_parts _ _ _ _)
    (then_wrote c.in_ok-write_final-in-Local.ensures (then_wrote c.in_ok-write_type-in-Local.ensures (then_wrote c.in_ok-space-in-Local.ensures c.in_ok-write_variables-in-Local.ensures)))

pub bare::write_plain-returns-in_ok-write_boxed-in-Expression : goal.bare::write_plain-returns-in_ok-write_boxed-in-Expression
bare::write_plain-returns-in_ok-write_boxed-in-Expression t c =
    wrote_bare (ap stmt_parts c.in-Expression.is ∙ expression_parts _ _)
    c.in_ok-write_boxed-in-Expression.ensures

pub bare::write_plain-returns-in_ok-write_arguments-in-ConstructorCall : goal.bare::write_plain-returns-in_ok-write_arguments-in-ConstructorCall
bare::write_plain-returns-in_ok-write_arguments-in-ConstructorCall t c =
    wrote_bare (ap stmt_parts c.in-ConstructorCall.is ∙ constructor_call_parts _ _ _)
    (then_wrote c.in_ok-write_constructor_word-in-ConstructorCall.ensures c.in_ok-write_arguments-in-ConstructorCall.ensures)

pub bare::write_choice-returns-in_ok-write_body-in-If : goal.bare::write_choice-returns-in_ok-write_body-in-If
bare::write_choice-returns-in_ok-write_body-in-If t c =
    wrote_bare (ap stmt_parts c.in-If.is ∙ if_parts _ _ _)
    (then_wrote c.in_ok-write_head-in-If.ensures c.in_ok-write_body-in-If.ensures)

pub bare::write_choice-returns-in_ok-write_boxed_stmt-in-IfElse : goal.bare::write_choice-returns-in_ok-write_boxed_stmt-in-IfElse
bare::write_choice-returns-in_ok-write_boxed_stmt-in-IfElse t c =
    wrote_bare (ap stmt_parts c.in-IfElse.is ∙ if_else_parts _ _ _ _)
    (then_wrote c.in_ok-write_head-in-IfElse.ensures (then_wrote c.in_ok-write_body-in-IfElse.ensures (then_wrote c.in_ok-spaced_keyword-in-IfElse.ensures c.in_ok-write_boxed_stmt-in-IfElse.ensures)))

pub bare::write_choice-returns-in_ok-write_braced-in-Switch : goal.bare::write_choice-returns-in_ok-write_braced-in-Switch
bare::write_choice-returns-in_ok-write_braced-in-Switch t c =
    wrote_bare (ap stmt_parts c.in-Switch.is ∙ switch_parts _ _ _)
    (then_wrote c.in_ok-write_head-in-Switch.ensures (then_wrote c.in_ok-space-in-Switch.ensures c.in_ok-write_braced-in-Switch.ensures))

pub bare::write_choice-returns-in_ok-sign-in-Case : goal.bare::write_choice-returns-in_ok-sign-in-Case
bare::write_choice-returns-in_ok-sign-in-Case t c =
    wrote_bare (ap stmt_parts c.in-Case.is ∙ case_parts _ _)
    (then_wrote c.in_ok-keyword_before-in-Case.ensures (then_wrote c.in_ok-write_boxed-in-Case.ensures c.in_ok-sign-in-Case.ensures))

pub bare::write_choice-returns-in_ok-sign-in-Default : goal.bare::write_choice-returns-in_ok-sign-in-Default
bare::write_choice-returns-in_ok-sign-in-Default t c =
    wrote_bare (ap stmt_parts c.in-Default.is ∙ default_parts _)
    (then_wrote c.in_ok-keyword-in-Default.ensures c.in_ok-sign-in-Default.ensures)

pub bare::write_headed-returns-in_ok-write_body-in-While : goal.bare::write_headed-returns-in_ok-write_body-in-While
bare::write_headed-returns-in_ok-write_body-in-While t c =
    wrote_bare (ap stmt_parts c.in-While.is ∙ while_parts _ _ _)
    (then_wrote c.in_ok-write_head-in-While.ensures c.in_ok-write_body-in-While.ensures)

pub bare::write_headed-returns-in_ok-write_head-in-Do : goal.bare::write_headed-returns-in_ok-write_head-in-Do
bare::write_headed-returns-in_ok-write_head-in-Do t c =
    wrote_bare (ap stmt_parts c.in-Do.is ∙ do_parts _ _ _)
    (then_wrote c.in_ok-keyword-in-Do.ensures (then_wrote c.in_ok-write_body-in-Do.ensures (then_wrote c.in_ok-space-in-Do.ensures c.in_ok-write_head-in-Do.ensures)))

pub bare::write_headed-returns-in_ok-write_body-in-Labelled : goal.bare::write_headed-returns-in_ok-write_body-in-Labelled
bare::write_headed-returns-in_ok-write_body-in-Labelled t c =
    wrote_bare (ap stmt_parts c.in-Labelled.is ∙ labelled_parts _ _ _)
    (then_wrote c.in_ok-word-in-Labelled.ensures (then_wrote c.in_ok-sign-in-Labelled.ensures c.in_ok-write_body-in-Labelled.ensures))

pub bare::write_headed-returns-in_ok-write_body-in-Synchronized : goal.bare::write_headed-returns-in_ok-write_body-in-Synchronized
bare::write_headed-returns-in_ok-write_body-in-Synchronized t c =
    wrote_bare (ap stmt_parts c.in-Synchronized.is ∙ synchronized_parts _ _ _)
    (then_wrote c.in_ok-write_head-in-Synchronized.ensures c.in_ok-write_body-in-Synchronized.ensures)

pub bare::write_headed-returns-in_ok-write_body-in-SynchronizedClass : goal.bare::write_headed-returns-in_ok-write_body-in-SynchronizedClass
bare::write_headed-returns-in_ok-write_body-in-SynchronizedClass t c =
    wrote_bare (ap stmt_parts c.in-SynchronizedClass.is ∙ synchronized_class_parts _ _ _)
    (then_wrote c.in_ok-write_class_head-in-SynchronizedClass.ensures c.in_ok-write_body-in-SynchronizedClass.ensures)

pub for_loop::write_for-returns-in_ok-write_body-in-For : goal.for_loop::write_for-returns-in_ok-write_body-in-For
for_loop::write_for-returns-in_ok-write_body-in-For t c =
    wrote_bare (ap stmt_parts c.in-For.is ∙ for_parts _ _ _ _ _)
    (then_wrote c.in_ok-write_for_head-in-For.ensures c.in_ok-write_body-in-For.ensures)

pub for_loop::write_for-returns-in_ok-write_body-in-ForEach : goal.for_loop::write_for-returns-in_ok-write_body-in-ForEach
for_loop::write_for-returns-in_ok-write_body-in-ForEach t c =
    wrote_bare (ap stmt_parts c.in-ForEach.is ∙ for_each_parts _ _ _ _ _ _)
    (then_wrote c.in_ok-write_each_head-in-ForEach.ensures c.in_ok-write_body-in-ForEach.ensures)

pub guards::write_try-returns-in_ok-write_in_line-in-Try : goal.guards::write_try-returns-in_ok-write_in_line-in-Try
guards::write_try-returns-in_ok-write_in_line-in-Try t c =
    wrote_bare (ap stmt_parts c.in-Try.is ∙ try_parts _ _ _)
    (then_wrote c.in_ok-keyword-in-Try.ensures (then_wrote c.in_ok-write_body-in-Try.ensures c.in_ok-write_in_line-in-Try.ensures))

pub guards::write_try-returns-in_ok-write_boxed_stmt-in-TryFinally : goal.guards::write_try-returns-in_ok-write_boxed_stmt-in-TryFinally
guards::write_try-returns-in_ok-write_boxed_stmt-in-TryFinally t c =
    wrote_bare (ap stmt_parts c.in-TryFinally.is ∙ try_finally_parts _ _ _ _)
    (then_wrote c.in_ok-keyword-in-TryFinally.ensures (then_wrote c.in_ok-write_body-in-TryFinally.ensures (then_wrote c.in_ok-write_in_line-in-TryFinally.ensures (then_wrote c.in_ok-spaced_keyword-in-TryFinally.ensures c.in_ok-write_boxed_stmt-in-TryFinally.ensures))))

pub guards::write_try-returns-in_ok-write_body-in-Catch : goal.guards::write_try-returns-in_ok-write_body-in-Catch
guards::write_try-returns-in_ok-write_body-in-Catch t c =
    wrote_bare (ap stmt_parts c.in-Catch.is ∙ catch_parts _ _ _ _ _)
    (then_wrote c.in_ok-write_catch_head-in-Catch.ensures c.in_ok-write_body-in-Catch.ensures)

pub blocks::write_body-returns : goal.blocks::write_body-returns
blocks::write_body-returns t c = then_wrote c.in_ok-space.ensures c.in_ok-write_boxed_stmt.ensures

pub blocks::write_braced-returns : goal.blocks::write_braced-returns
blocks::write_braced-returns t c = then_wrote c.in_ok-sign.ensures (then_wrote c.in_ok-write_in_line.ensures (then_wrote c.in_ok-space.ensures c.in_ok-sign-2.ensures))

pub for_loop::write_for_head-returns : goal.for_loop::write_for_head-returns
for_loop::write_for_head-returns t c = then_wrote c.in_ok-open_head.ensures (then_wrote c.in_ok-write_for_parts.ensures c.in_ok-sign.ensures)

pub for_loop::write_for_parts-returns : goal.for_loop::write_for_parts-returns
for_loop::write_for_parts-returns t c = then_wrote c.in_ok-write_inits.ensures (then_wrote c.in_ok-sign.ensures (then_wrote c.in_ok-write_optional_expr.ensures (then_wrote c.in_ok-sign-2.ensures c.in_ok-write_update.ensures)))

pub stmt::write_stmt-returns : goal.stmt::write_stmt-returns
stmt::write_stmt-returns t c = then_wrote c.in_ok-write_bare.ensures c.in_ok-write_end.ensures

pub blocks::write_in_line-loop-tree-init : goal.blocks::write_in_line-loop-tree-init
blocks::write_in_line-loop-tree-init t c = nothing_wrote

pub blocks::write_in_line-loop-tree-preserved : goal.blocks::write_in_line-loop-tree-preserved
blocks::write_in_line-loop-tree-preserved t c =
    wrote_behind_both (Space ∷ []) whole stmt_parts c.args.trees.now c.loop-tree.tree-index c.tree-item.result (item_at c.as_slice-tree-items.ensures c.loop-tree-test.true c.tree-item.is) c.loop-tree.invariant
    (then_wrote c.in_ok-space.ensures c.in_ok-write_stmt.ensures)

pub for_loop::write_inits-loop-index-init : goal.for_loop::write_inits-loop-index-init
for_loop::write_inits-loop-index-init t c = nothing_wrote

pub for_loop::write_inits-loop-index-preserved : goal.for_loop::write_inits-loop-index-preserved
for_loop::write_inits-loop-index-preserved t c =
    wrote_separated_both comma (λ (p : Pieces). p.bare) stmt_parts c.args.init.now c.loop-index.index c.tree-item.result (item_at c.as_slice-tree-items.ensures c.loop-index-test.true c.tree-item.is) c.loop-index.invariant
    c.in_ok-comma_before.ensures c.in_ok-write_bare.ensures
