use Rattle.std.specs.Prelude.{codes}
use Rattle.bj_store.specs.Objects.{object_named}
use Rattle.bj_store.proofs.Openings.{four}
use Rattle.bj_store.proofs.opening.first_heap.Goals as goal

pub returns : goal.returns
returns c = four c.args.limits
    (object_named c.args.classes.now (codes "Thread")) (object_named c.args.classes.now (codes "PrintStream"))
    (object_named c.args.classes.now (codes "InputStream")) (object_named c.args.classes.now (codes "OutOfMemoryError"))
    c.new-heap.result.state c.make_first.new.heap.state c.make_first-2.new.heap.state c.make_first-3.new.heap.state c.make_first-4.new.heap.state
    c.new-heap.ensures c.in_ok-make_first.ensures c.in_ok-make_first-2.ensures c.in_ok-make_first-3.ensures c.in_ok-make_first-4.ensures
