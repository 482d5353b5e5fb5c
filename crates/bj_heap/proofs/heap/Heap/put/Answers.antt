use Rattle.std.proofs.Common.{sym, ap, ◌∙◌, arith}
use Rattle.bj_heap.specs.declared.header.Header.{Header}
use Rattle.bj_heap.specs.Objects.{HeapValue}
use Rattle.std.proofs.Common.{List}
use Rattle.bj_heap.specs.Cells.{place_of}
use Rattle.bj_heap.proofs.Splits.{cell_none, place_within, put_at}
use Rattle.bj_heap.proofs.heap.Heap.put.Goals as goal

pub returns-then-at-len-clause-state : goal.returns-then-at-len-clause-state
returns-then-at-len-clause-state c = put_at c.self.inside.limits c.self.inside.objects.items c.self.inside.cells.items c.self.invariant.0 c.args.self.now.state (ap (λ (v : HeapValue). v.state) c.self.view_is) c.args.object c.args.slot c.in-Some.at c.args.stored
    (ap (λ (hs : List Header). place_of hs c.args.object c.args.slot) (sym c.as_slice.ensures.value) ∙ sym c.in-Some.ensures)

pub returns-else-at-len-clause-state : goal.returns-else-at-len-clause-state
returns-else-at-len-clause-state c =
    let within = place_within c.self.inside.limits c.self.inside.objects.items c.self.inside.cells.items c.self.invariant.0 c.args.self.now.state (ap (λ (v : HeapValue). v.state) c.self.view_is) c.args.object c.args.slot c.in-Some.at
    (ap (λ (hs : List Header). place_of hs c.args.object c.args.slot) (sym c.as_slice.ensures.value) ∙ sym c.in-Some.ensures) in
    absurd (omega (arith, within, c.self.inside.cells.ok.0))

pub returns-in_default-clause-state : goal.returns-in_default-clause-state
returns-in_default-clause-state c = absurd (c.requires (cell_none c.self.inside.limits c.self.inside.objects.items c.self.inside.cells.items c.self.invariant.0 c.args.self.now.state (ap (λ (v : HeapValue). v.state) c.self.view_is) c.args.object c.args.slot
    (ap (λ (hs : List Header). place_of hs c.args.object c.args.slot) (sym c.as_slice.ensures.value) ∙ sym c.in_default.ensures)))
