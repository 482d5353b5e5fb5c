use Rattle.std.proofs.Common.{◌<◌, ◌-◌, Option, Some, length, sym, ap, ◌∙◌, arith}
use Rattle.std.specs.Prelude.{reverse, slice_get}
use Rattle.bj_core.specs.declared.action.Action.{Action}
use Rattle.bj_machine.specs.Kept.{LogValue, entry_of, action_beside}
use Rattle.bj_machine.proofs.Logs.{shown_count, shown_at}
use Rattle.bj_machine.proofs.log.Log.action.Goals as goal

pub returns : goal.returns
returns c =
    let within : c.args.place - 1 < length c.self.inside.rows.items = omega (arith, c.requires.0, c.requires.1, shown_count entry_of c.self.inside.rows.items, ap (λ (v : LogValue). length v.entries) c.self.view_is) in
    ap (λ (v : LogValue). slice_get (reverse v.actions) (c.args.place - 1)) (sym c.self.view_is)
    ∙ (shown_at action_beside c.self.inside.rows.items (c.args.place - 1) c.index.result.now within c.index.ensures ∙ ap (λ (a : Option Action). Some a) (sym c.as_ref.ensures.value))
