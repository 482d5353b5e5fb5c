use Rattle.std.proofs.Common.{◌≡◌, Option, Some, None, sym, ap, ◌∙◌, arith}
use Rattle.bj_core.specs.declared.tree.Expr.{Expr}
use Rattle.bj_history.specs.Replies.{pad_outcome}
use Rattle.bj_sum.specs.Reading.{sum_of}
use Rattle.bj_reply.proofs.Forms.{any_same}
use Rattle.bj_reply.proofs.Typings.{pad_typed}
use Rattle.bj_reply.proofs.asking.ask_pad.Goals as goal

pub starts_if_free-requires : goal.starts_if_free-requires
starts_if_free-requires c =
    let read : sum_of c.args.text.now ≡ Some c.in-Some.expr = sym c.in_ok-expr.ensures ∙ c.in-Some.is in
    rw c.pad_term.ensures (pad_typed c.args.machine.now.program c.in-Some.expr c.requires.program c.builtin_is_a_program.ensures
    (c.sums_are_of_sums.ensures c.args.text.now c.in-Some.expr read))

pub reads_if_free-requires : goal.reads_if_free-requires
reads_if_free-requires c = let fits = c.requires.fits in omega arith

pub returns-in-None : goal.returns-in-None
returns-in-None c =
    let none : None ≡ sum_of c.args.text.now = sym c.in-None.is ∙ c.in_ok-expr.ensures in
    any_same c.reads_if_free.result c.args.machine.now _ _ (λ s. ap (λ (e : Option Expr). pad_outcome e c.args.text.now s) none) c.reads_if_free.ensures
