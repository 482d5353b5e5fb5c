use Rattle.std.proofs.Common.{ap, ◌∙◌}
use Rattle.bj_heap.specs.declared.header.Header.{Header}
use Rattle.bj_heap.specs.Objects.{HeapValue}
use Rattle.std.proofs.Common.{List}
use Rattle.bj_heap.specs.Cells.{own_in}
use Rattle.bj_heap.proofs.Splits.{own_is}
use Rattle.bj_heap.proofs.heap.Heap.own.Goals as goal

pub returns : goal.returns
returns c = c.own.ensures ∙ (ap (λ (hs : List Header). own_in hs c.args.object) c.as_slice.ensures.value ∙ own_is c.self.inside.limits c.self.inside.objects.items c.self.inside.cells.items c.self.invariant.0 c.args.self.now.state (ap (λ (v : HeapValue). v.state) c.self.view_is) c.args.object)
