use Rattle.std.proofs.Common.{arith}
use Rattle.std.proofs.lemmas.Grind.{common_steps}
use Rattle.bj_stream.proofs.Parts.{held_more, sent_to}
use Rattle.bj_stream.proofs.sending.put_all.Goals as goal

pub loop-at-preserved : goal.loop-at-preserved
loop-at-preserved g c = record {
  within = grind (arith, common_steps);
  held = held_more _ _ _ c.args.bytes.now c.loop-at.at c.in-Took.count (grind (arith, common_steps)) c.loop-at.invariant.held c.in-Took.ensures.held;
  faults = grind (arith, common_steps);
}

pub returns-in-Failed-clause-sent : goal.returns-in-Failed-clause-sent
returns-in-Failed-clause-sent g c = sent_to _ _ _ _ c.args.bytes.now c.loop-at.at (omega arith) (λ is. cc) c.loop-at.invariant.held c.in-Failed.ensures.held

pub returns-in-NoMemory-clause-sent : goal.returns-in-NoMemory-clause-sent
returns-in-NoMemory-clause-sent g c = sent_to _ _ _ _ c.args.bytes.now c.loop-at.at (omega arith) (λ is. cc) c.loop-at.invariant.held c.in-NoMemory.ensures.held
