use Rattle.std.proofs.Common.{sym, ap, ◌∙◌}
use Rattle.std.proofs.Common.{get_or}
use Rattle.bj_lex.specs.Comments.{is_comment_end}
use Rattle.bj_lex.proofs.Runs.{raised, two_more, block_stop, block_more, block_end}
use Rattle.bj_lex.proofs.comments.block_len.Goals as goal

pub returns-then-is_comment_end-clause-value : goal.returns-then-is_comment_end-clause-value
returns-then-is_comment_end-clause-value c =
    let test = ap (is_comment_end (get_or c.args.rest.now c.loop-at.at 0)) (sym c.unit_at.ensures) ∙ sym c.is_comment_end.ensures ∙ c.if-is_comment_end.true in
    two_more c.loop-at.at ∙ sym (ap (raised c.loop-at.at) (block_stop c.args.rest.now c.loop-at.at c.loop-at-test.true test)) ∙ c.loop-at.invariant

pub loop-at-preserved : goal.loop-at-preserved
loop-at-preserved c =
    let test = ap (is_comment_end (get_or c.args.rest.now c.loop-at.at 0)) (sym c.unit_at.ensures) ∙ sym c.is_comment_end.ensures ∙ c.if-is_comment_end.false in
    sym (block_more c.args.rest.now c.loop-at.at c.loop-at-test.true test) ∙ c.loop-at.invariant

pub returns-clause-value : goal.returns-clause-value
returns-clause-value c = sym (ap (raised c.loop-at.at) (block_end c.args.rest.now c.loop-at.at c.loop-at-test.false)) ∙ c.loop-at.invariant
