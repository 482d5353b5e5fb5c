use Rattle.std.proofs.Common.{Option, sym, ap, subst}
use Rattle.bj_core.specs.declared.tree.Expr.{Expr}
use Rattle.bj_history.specs.Replies.{creation_begins}
use Rattle.bj_reply.specs.Asking.{IsSumIfAny}
use Rattle.bj_reply.proofs.Forms.{known_from}
use Rattle.bj_reply.proofs.Typings.{new_typed}
use Rattle.bj_reply.proofs.asking.begin_creation.Goals as goal

pub starts-requires : goal.starts-requires
starts-requires c =
    rw c.in_ok-new_term-in-Some.ensures (new_typed c.args.machine.now.program c.args.name.now c.in-Some.argument c.requires.program c.new_cells_are_typed.ensures
    (subst IsSumIfAny c.in-Some.is c.requires.sum))

pub returns-in-None : goal.returns-in-None
returns-in-None c = known_from c.reads.result c.args.machine.now _ _ (ap (λ (e : Option Expr). creation_begins e c.args.name.now c.args.text.now) (sym c.in-None.is)) c.reads.ensures
