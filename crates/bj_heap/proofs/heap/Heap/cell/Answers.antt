use Rattle.std.proofs.Common.{sym, ap, ◌∙◌}
use Rattle.bj_heap.specs.declared.header.Header.{Header}
use Rattle.bj_heap.specs.Objects.{HeapValue}
use Rattle.std.proofs.Common.{List}
use Rattle.std.specs.Prelude.{slice_get}
use Rattle.bj_core.specs.declared.types.Val.{Val}
use Rattle.bj_heap.specs.Cells.{place_of}
use Rattle.bj_heap.proofs.Splits.{cell_none, cell_some}
use Rattle.bj_heap.proofs.heap.Heap.cell.Goals as goal

pub returns-in-None : goal.returns-in-None
returns-in-None c = sym (cell_none c.self.inside.limits c.self.inside.objects.items c.self.inside.cells.items c.self.invariant.0 c.args.self.now.state (ap (λ (v : HeapValue). v.state) c.self.view_is) c.args.object c.args.slot
    (ap (λ (hs : List Header). place_of hs c.args.object c.args.slot) (sym c.as_slice.ensures.value) ∙ sym c.in-None.ensures))

pub returns-in-Some : goal.returns-in-Some
returns-in-Some c =
    let h = cell_some c.self.inside.limits c.self.inside.objects.items c.self.inside.cells.items c.self.invariant.0 c.args.self.now.state (ap (λ (v : HeapValue). v.state) c.self.view_is) c.args.object c.args.slot c.in-Some.at
    (ap (λ (hs : List Header). place_of hs c.args.object c.args.slot) (sym c.as_slice.ensures.value) ∙ sym c.in-Some.ensures) in
    c.value.ensures ∙ (ap (λ (cs : List Val). slice_get cs c.in-Some.at) c.as_slice-in-Some.ensures.value ∙ sym h)
