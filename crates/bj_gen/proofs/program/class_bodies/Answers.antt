use Rattle.bj_gen.proofs.Programs.{more_methods}
use Rattle.bj_gen.proofs.program.class_bodies.Goals as goal

pub loop-method-preserved : goal.loop-method-preserved
loop-method-preserved c =
    more_methods c.args.program.now c.args.class c.args.declared.now c.args.declared.now.methods c.loop-method.method-index c.method-item.result c.as_slice-method-items.result.now
    c.loop-method.bodies c.push.new.self c.in_ok-method_code.field-0 c.as_slice-method-items.ensures c.method-item.is c.loop-method-test.true c.loop-method.invariant
    c.in_ok-method_code.ensures c.in_ok-push.ensures.ok
