use Rattle.std.proofs.Common.{ap, ◌∙◌}
use Rattle.bj_code.specs.ProgramCode.{class_code}
use Rattle.bj_gen.proofs.Programs.{more_classes}
use Rattle.bj_gen.proofs.program.generate.Goals as goal

pub loop-class-preserved : goal.loop-class-preserved
loop-class-preserved c =
    more_classes c.args.program.now c.args.program.now.classes c.loop-class.class c.declared-item.result c.as_slice-declared-items.result.now
    c.loop-class.methods c.push.new.self c.in_ok-class_bodies.field-0 c.as_slice-declared-items.ensures c.declared-item.is c.loop-class-test.true c.loop-class.invariant
    (c.in_ok-class_bodies.ensures ∙ ap (λ n. class_code c.args.program.now n c.declared-item.result) c.in_ok-number.ensures) c.in_ok-push.ensures.ok
