use Rattle.std.proofs.Common.{◌≡◌, ◌<◌, ◌+◌, length, arith}
use Rattle.std.proofs.lemmas.Bool.Decides.{nat_tests}
use Rattle.std.proofs.lemmas.Result.{on_ok_weaker, IfOk-weaker}
use Rattle.bj_eval.specs.Fields.{fields_to, of_objects}
use Rattle.bj_say.proofs.Rows.{top_slot, lower_slot, lower_lines}
use Rattle.bj_say.proofs.viewing.+add_rows.Goals as goal

pub returns-in-None-above-clause-next : goal.returns-in-None-above-clause-next
returns-in-None-above-clause-next t c =
    let classes = c.args.sight.now.program.now.classes in
    let some : 0 < c.args.depth = grind (arith, nat_tests, c.if-depth-eq0.false) in
    IfOk-weaker c.add_own.result
    (λ next. next ≡ 0 + length (of_objects c.as_slice.result.now)) (λ next. next ≡ length (fields_to c.args.depth classes c.args.class))
    (λ next. top_slot classes c.args.class c.args.depth c.in-Some.found.now some c.in-Some.ensures.value c.as_slice.result.now next c.in-None-above.is c.as_slice.ensures)
    c.add_own.ensures.next

pub returns-in_ok-next-in-Some-above-clause-next : goal.returns-in_ok-next-in-Some-above-clause-next
returns-in_ok-next-in-Some-above-clause-next t c =
    let classes = c.args.sight.now.program.now.classes in
    let some : 0 < c.args.depth = grind (arith, nat_tests, c.if-depth-eq0.false) in
    let before = c.in_ok-next-in-Some-above in
    let fields = c.as_slice-in-Some-above in
    IfOk-weaker c.add_own-in-Some-above.result
    (λ next. next ≡ before.next + length (of_objects fields.result.now)) (λ next. next ≡ length (fields_to c.args.depth classes c.args.class))
    (λ next. lower_slot classes c.args.class c.args.depth c.in-Some.found.now some c.in-Some.ensures.value
    c.in-Some-above.above fields.result.now before.next next c.in-Some-above.is fields.ensures before.ensures.next)
    c.add_own-in-Some-above.ensures.next

pub returns-in_ok-next-in-Some-above-clause-text : goal.returns-in_ok-next-in-Some-above-clause-text
returns-in_ok-next-in-Some-above-clause-text t c =
    let sight = c.args.sight.now in
    let some : 0 < c.args.depth = grind (arith, nat_tests, c.if-depth-eq0.false) in
    let before = c.in_ok-next-in-Some-above in
    let fields = c.as_slice-in-Some-above in
    on_ok_weaker c.add_own-in-Some-above.result
    (lower_lines sight.program.now.classes c.args.class c.args.depth c.in-Some.found.now some c.in-Some.ensures.value
    sight.program.now sight.store.now sight.object c.in-Some-above.above fields.result.now before.next
    c.args.text.now c.add_rows.new.text c.add_own-in-Some-above.new.text c.in-Some-above.is fields.ensures before.ensures.next before.ensures.text)
    c.add_own-in-Some-above.ensures.text
