use Rattle.std.proofs.Common.{sym, ap, ◌∙◌, reverse, take, length, ◌≤◌, subst}
use Rattle.bj_code.proofs.Calls.{call_leaves}
use Rattle.bj_code.proofs.calling.arguments.Goals as goal

pub top-requires : goal.top-requires
top-requires c = let left = call_leaves c.args.instr c.args.frame.now c.requires.0 c.requires.1 in subst (λ n. n ≤ length c.args.frame.now.operands.values) (sym c.arguments_of.ensures) left.0

pub returns : goal.returns
returns c call e =
    let left = call_leaves c.args.instr c.args.frame.now call e in
    c.top.ensures ∙ ap (λ n. reverse (take n c.args.frame.now.operands.values)) c.arguments_of.ensures ∙ ap reverse (sym left.1)
