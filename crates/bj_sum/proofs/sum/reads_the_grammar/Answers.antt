use Rattle.bj_sum.proofs.Wholes.{sum_sound, sum_complete}
use Rattle.bj_sum.proofs.sum.reads_the_grammar.Goals as goal

pub returns : goal.returns
returns c = λ text e. (sum_sound text e, sum_complete text e)
