use Rattle.std.proofs.Common.{◌+◌, [], ◌∷◌, ◌++◌, max, take_all, sym, ap, ◌∙◌}
use Rattle.bj_code.proofs.Blocks.{New_code, New_depth, Virtual_code, Virtual_depth}
use Rattle.bj_code.specs.declared.code.Instr.TheVariants as i
use Rattle.bj_code.specs.TermCode.{args_code, args_depth, expr_code, expr_depth}
use Rattle.bj_eval.specs.Shapes.{IntNegate_is, IntBinary_is, Field_is, SetField_is}
use Rattle.bj_gen.proofs.Emits.{form_code, form_depth, after_first, new_form, call_form, more_args_code, more_args_depth}
use Rattle.bj_gen.proofs.emit.+expressions.Goals as goal

pub emit_args-loop-before-preserved : goal.emit_args-loop-before-preserved
emit_args-loop-before-preserved t c = (
  more_args_code c.args.program.now c.args.args.now c.loop-before.before c.index-args-before.result c.args.steps.now c.loop-before.steps c.emit_expr.new.steps c.index-args-before.is c.loop-before-test.true c.loop-before.invariant.0 c.in_ok-own.ensures.code,
  more_args_depth c.args.args.now c.loop-before.before c.index-args-before.result c.loop-before.depth c.in_ok-own.own c.larger-depth.result c.index-args-before.is c.loop-before-test.true c.loop-before.invariant.1 c.in_ok-own.ensures.depth
      (c.larger-depth.ensures ∙ ap (max c.loop-before.depth) (c.in-Some.ensures.1 ∙ ap (λ n. c.in_ok-own.own + n) c.in_ok-number.ensures)),
)

pub emit_args-returns-clause-code : goal.emit_args-returns-clause-code
emit_args-returns-clause-code t c = c.loop-before.invariant.0 ∙ ap (λ l. c.args.steps.now ++ args_code c.args.program.now l) (take_all c.loop-before.before c.args.args.now c.loop-before-test.false)

pub emit_args-returns-clause-depth : goal.emit_args-returns-clause-depth
emit_args-returns-clause-depth t c = c.loop-before.invariant.1 ∙ ap args_depth (take_all c.loop-before.before c.args.args.now c.loop-before-test.false)

pub emit_expr-returns-in-IntNegate-clause-code : goal.emit_expr-returns-in-IntNegate-clause-code
emit_expr-returns-in-IntNegate-clause-code t c = let p = c.args.program.now in let n = c.in-IntNegate in
    form_code c.emit_unary.result p c.args.steps.now c.emit_unary.new.steps (expr_code p c.get.result.now ++ i.IntNegate ∷ []) c.args.expr.now
    (ap (λ a. expr_code p a ++ i.IntNegate ∷ []) c.get.ensures ∙ ap (expr_code p) (sym (n.is ∙ IntNegate_is n.at n.operand))) c.emit_unary.ensures.code

pub emit_expr-returns-in-IntNegate-clause-depth : goal.emit_expr-returns-in-IntNegate-clause-depth
emit_expr-returns-in-IntNegate-clause-depth t c = let n = c.in-IntNegate in
    form_depth c.emit_unary.result (expr_depth c.get.result.now) c.args.expr.now (ap expr_depth c.get.ensures ∙ ap expr_depth (sym (n.is ∙ IntNegate_is n.at n.operand))) c.emit_unary.ensures.depth

pub emit_expr-returns-in-Field-clause-code : goal.emit_expr-returns-in-Field-clause-code
emit_expr-returns-in-Field-clause-code t c = let p = c.args.program.now in let n = c.in-Field in let u = c.emit_unary-in-Field in
    form_code u.result p c.args.steps.now u.new.steps (expr_code p c.get-in-Field.result.now ++ i.GetField n.slot ∷ []) c.args.expr.now
    (ap (λ a. expr_code p a ++ i.GetField n.slot ∷ []) c.get-in-Field.ensures ∙ ap (expr_code p) (sym (n.is ∙ Field_is n.at n.object n.slot))) u.ensures.code

pub emit_expr-returns-in-Field-clause-depth : goal.emit_expr-returns-in-Field-clause-depth
emit_expr-returns-in-Field-clause-depth t c = let n = c.in-Field in let u = c.emit_unary-in-Field in
    form_depth u.result (expr_depth c.get-in-Field.result.now) c.args.expr.now (ap expr_depth c.get-in-Field.ensures ∙ ap expr_depth (sym (n.is ∙ Field_is n.at n.object n.slot))) u.ensures.depth

pub emit_expr-returns-in_ok-first-in-IntBinary-clause-code : goal.emit_expr-returns-in_ok-first-in-IntBinary-clause-code
emit_expr-returns-in_ok-first-in-IntBinary-clause-code t c =
    let p = c.args.program.now in let n = c.in-IntBinary in let right = c.get-in-IntBinary-2.result.now in
    after_first c.emit_second.result p c.args.steps.now c.emit_expr.new.steps c.emit_second.new.steps (expr_code p c.get-in-IntBinary.result.now) (expr_code p right ++ i.IntBinary n.op ∷ []) c.args.expr.now
    (ap (λ a. expr_code p a ++ (expr_code p right ++ i.IntBinary n.op ∷ [])) c.get-in-IntBinary.ensures ∙ ap (λ b. expr_code p n.left ++ (expr_code p b ++ i.IntBinary n.op ∷ [])) c.get-in-IntBinary-2.ensures
    ∙ ap (expr_code p) (sym (n.is ∙ IntBinary_is n.at n.op n.left n.right))) c.in_ok-first-in-IntBinary.ensures.code c.emit_second.ensures.code

pub emit_expr-returns-in_ok-first-in-IntBinary-clause-depth : goal.emit_expr-returns-in_ok-first-in-IntBinary-clause-depth
emit_expr-returns-in_ok-first-in-IntBinary-clause-depth t c =
    let n = c.in-IntBinary in let right = c.get-in-IntBinary-2.result.now in let first = c.in_ok-first-in-IntBinary.first in
    form_depth c.emit_second.result (max first (expr_depth right + 1)) c.args.expr.now
    (ap (λ d. max d (expr_depth right + 1)) (c.in_ok-first-in-IntBinary.ensures.depth ∙ ap expr_depth c.get-in-IntBinary.ensures) ∙ ap (λ b. max (expr_depth n.left) (expr_depth b + 1)) c.get-in-IntBinary-2.ensures
    ∙ ap expr_depth (sym (n.is ∙ IntBinary_is n.at n.op n.left n.right))) c.emit_second.ensures.depth

pub emit_expr-returns-in_ok-first-in-SetField-clause-code : goal.emit_expr-returns-in_ok-first-in-SetField-clause-code
emit_expr-returns-in_ok-first-in-SetField-clause-code t c =
    let p = c.args.program.now in let n = c.in-SetField in let right = c.get-in-SetField-2.result.now in
    after_first c.emit_second-in-SetField.result p c.args.steps.now c.emit_expr-in-SetField.new.steps c.emit_second-in-SetField.new.steps (expr_code p c.get-in-SetField.result.now) (expr_code p right ++ i.PutField n.slot ∷ []) c.args.expr.now
    (ap (λ a. expr_code p a ++ (expr_code p right ++ i.PutField n.slot ∷ [])) c.get-in-SetField.ensures ∙ ap (λ b. expr_code p n.object ++ (expr_code p b ++ i.PutField n.slot ∷ [])) c.get-in-SetField-2.ensures
    ∙ ap (expr_code p) (sym (n.is ∙ SetField_is n.at n.object n.slot n.value))) c.in_ok-first-in-SetField.ensures.code c.emit_second-in-SetField.ensures.code

pub emit_expr-returns-in_ok-first-in-SetField-clause-depth : goal.emit_expr-returns-in_ok-first-in-SetField-clause-depth
emit_expr-returns-in_ok-first-in-SetField-clause-depth t c =
    let n = c.in-SetField in let right = c.get-in-SetField-2.result.now in let first = c.in_ok-first-in-SetField.first in
    form_depth c.emit_second-in-SetField.result (max first (expr_depth right + 1)) c.args.expr.now
    (ap (λ d. max d (expr_depth right + 1)) (c.in_ok-first-in-SetField.ensures.depth ∙ ap expr_depth c.get-in-SetField.ensures) ∙ ap (λ b. max (expr_depth n.object) (expr_depth b + 1)) c.get-in-SetField-2.ensures
    ∙ ap expr_depth (sym (n.is ∙ SetField_is n.at n.object n.slot n.value))) c.emit_second-in-SetField.ensures.depth

pub emit_expr-returns-in-New-clause-code : goal.emit_expr-returns-in-New-clause-code
emit_expr-returns-in-New-clause-code t c = let p = c.args.program.now in let n = c.in-New in
    form_code c.emit_new.result p c.args.steps.now c.emit_new.new.steps (new_form p n.class n.constructor c.as_slice.result.now) c.args.expr.now
    (ap (new_form p n.class n.constructor) c.as_slice.ensures ∙ sym (New_code p n.at n.class n.constructor n.args) ∙ ap (expr_code p) (sym n.is)) c.emit_new.ensures.code

pub emit_expr-returns-in-New-clause-depth : goal.emit_expr-returns-in-New-clause-depth
emit_expr-returns-in-New-clause-depth t c = let n = c.in-New in
    form_depth c.emit_new.result (args_depth c.as_slice.result.now + 1) c.args.expr.now
    (ap (λ l. args_depth l + 1) c.as_slice.ensures ∙ sym (New_depth n.at n.class n.constructor n.args) ∙ ap expr_depth (sym n.is)) c.emit_new.ensures.depth

pub emit_expr-returns-in_ok-first-in-Virtual-clause-code : goal.emit_expr-returns-in_ok-first-in-Virtual-clause-code
emit_expr-returns-in_ok-first-in-Virtual-clause-code t c =
    let p = c.args.program.now in let n = c.in-Virtual in let args = c.as_slice-in-Virtual.result.now in
    after_first c.emit_virtual.result p c.args.steps.now c.emit_expr-in-Virtual.new.steps c.emit_virtual.new.steps (expr_code p c.get-in-Virtual.result.now) (call_form p n.class n.method args) c.args.expr.now
    (ap (λ a. expr_code p a ++ call_form p n.class n.method args) c.get-in-Virtual.ensures ∙ ap (λ l. expr_code p n.object ++ call_form p n.class n.method l) c.as_slice-in-Virtual.ensures
    ∙ sym (Virtual_code p n.at n.object n.class n.method n.args) ∙ ap (expr_code p) (sym n.is)) c.in_ok-first-in-Virtual.ensures.code c.emit_virtual.ensures.code

pub emit_expr-returns-in_ok-first-in-Virtual-clause-depth : goal.emit_expr-returns-in_ok-first-in-Virtual-clause-depth
emit_expr-returns-in_ok-first-in-Virtual-clause-depth t c =
    let n = c.in-Virtual in let args = c.as_slice-in-Virtual.result.now in let first = c.in_ok-first-in-Virtual.first in
    form_depth c.emit_virtual.result (max first (args_depth args + 1)) c.args.expr.now
    (ap (λ d. max d (args_depth args + 1)) (c.in_ok-first-in-Virtual.ensures.depth ∙ ap expr_depth c.get-in-Virtual.ensures) ∙ ap (λ l. max (expr_depth n.object) (args_depth l + 1)) c.as_slice-in-Virtual.ensures
    ∙ sym (Virtual_depth n.at n.object n.class n.method n.args) ∙ ap expr_depth (sym n.is)) c.emit_virtual.ensures.depth
