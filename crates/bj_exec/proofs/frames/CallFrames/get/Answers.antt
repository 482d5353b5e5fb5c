use Rattle.std.proofs.Common.{◌≡◌, ◌<◌, ◌-◌, length, ap, ◌∙◌, arith}
use Rattle.std.specs.Prelude.{slice_get}
use Rattle.bj_exec.proofs.Below.{from_end}
use Rattle.bj_exec.proofs.frames.CallFrames.get.Goals as goal

pub returns : goal.returns
returns c =
    let lt : c.args.depth < length c.self.inside.items.items = omega arith in
    let n : c.len-count.result ≡ length c.self.inside.items.items = omega arith in
    c.at.ensures ∙ ap (λ l. slice_get l (c.len-count.result - 1 - c.args.depth)) c.as_slice.ensures.value ∙ ap (λ n. slice_get c.self.inside.items.items (n - 1 - c.args.depth)) n
    ∙ from_end c.self.inside.items.items c.args.depth lt ∙ ap (λ l. slice_get l c.args.depth) c.self.view_is
