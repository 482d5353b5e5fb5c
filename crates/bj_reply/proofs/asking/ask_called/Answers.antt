use Rattle.std.proofs.Common.{◌≡◌, ℕ, List, Some, sym, ap, ◌∙◌}
use Rattle.bj_bench.specs.declared.names.BoundName.{BoundName}
use Rattle.bj_bench.specs.Names.{value_in}
use Rattle.bj_history.specs.Replies.{call_name, cell_in}
use Rattle.bj_reply.proofs.Forms.{for_from, no_cell}
use Rattle.bj_reply.proofs.Typings.{call_typed}
use Rattle.bj_reply.proofs.asking.ask_called.Goals as goal

pub starts_if_free-requires : goal.starts_if_free-requires
starts_if_free-requires c =
    let cell : cell_in c.find.result ≡ Some c.in-Some.object = sym c.cell_in.ensures ∙ c.in-Some.is in
    rw c.in_ok-call_term-in-Some.ensures (call_typed c.args.machine.now.program c.args.call c.find.result c.in-Some.object c.requires.program
    c.calls_of_cells_are_typed.ensures.adds c.calls_of_cells_are_typed.ensures.gets cell c.requires.sum)

pub returns-in-None : goal.returns-in-None
returns-in-None c = for_from c.says.result c.args.machine.now c.args.bench.now _ _ c.says.ensures (λ s stands named.
    let found : c.find.result ≡ value_in s.names (call_name c.args.call) =
    c.find.ensures ∙ ap (λ (name : List ℕ). value_in c.args.bench.now name) c.call_name.ensures ∙ ap (λ (names : List BoundName). value_in names (call_name c.args.call)) named in
    no_cell c.args.call s (sym (ap cell_in found) ∙ sym c.cell_in.ensures ∙ c.in-None.is))
