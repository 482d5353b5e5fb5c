use Rattle.bj_history.proofs.Bench.{bench_of}
use Rattle.bj_history.proofs.laws.names_stand_for_one_object.Goals as goal

pub returns-clause-apart : goal.returns-clause-apart
returns-clause-apart c = λ o log legal. (bench_of o log).apart

pub returns-clause-few : goal.returns-clause-few
returns-clause-few c = λ o log legal. (bench_of o log).few
