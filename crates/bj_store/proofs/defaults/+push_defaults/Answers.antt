use Rattle.std.proofs.Common.{◌<◌, length, refl, arith}
use Rattle.std.proofs.lemmas.Bool.Decides.{nat_tests}
use Rattle.std.proofs.lemmas.Option.{slice_get_past, slice_get_read}
use Rattle.std.proofs.lemmas.Result.{on_ok_weaker}
use Rattle.bj_store.proofs.Chains.{no_class, top_class, lower_class}
use Rattle.bj_store.proofs.defaults.+push_defaults.Goals as goal

pub returns-in-None : goal.returns-in-None
returns-in-None t c = no_class c.args.classes.now c.args.class c.args.depth c.args.values.now.items
    (let some : 0 < c.args.depth = grind (arith, nat_tests, c.if-depth-eq0.false) in some)
    (slice_get_past c.args.classes.now c.args.class c.in-None.ensures.lookup.3)

pub returns-in-None-above : goal.returns-in-None-above
returns-in-None-above t c = on_ok_weaker c.push_own.result (top_class c.args.classes.now c.args.class c.args.depth c.args.values.now.items c.in-Some.found.now c.as_slice.result.now c.push_own.new.values.items
    (let some : 0 < c.args.depth = grind (arith, nat_tests, c.if-depth-eq0.false) in some)
    (let found = c.in-Some.ensures.lookup in slice_get_read c.args.classes.now (length c.args.classes.now) c.args.class c.in-Some.found.now refl found.3.0 found.1)
    c.in-None-above.is c.as_slice.ensures) c.push_own.ensures

pub returns-in_ok-push_defaults-in-Some-above : goal.returns-in_ok-push_defaults-in-Some-above
returns-in_ok-push_defaults-in-Some-above t c = on_ok_weaker c.push_own-in-Some-above.result (lower_class c.args.classes.now c.args.class c.args.depth c.args.values.now.items c.in-Some.found.now c.in-Some-above.above c.as_slice-in-Some-above.result.now c.push_defaults.new.values.items c.push_own-in-Some-above.new.values.items
    (let some : 0 < c.args.depth = grind (arith, nat_tests, c.if-depth-eq0.false) in some)
    (let found = c.in-Some.ensures.lookup in slice_get_read c.args.classes.now (length c.args.classes.now) c.args.class c.in-Some.found.now refl found.3.0 found.1)
    c.in-Some-above.is c.as_slice-in-Some-above.ensures
    c.in_ok-push_defaults-in-Some-above.ensures) c.push_own-in-Some-above.ensures
