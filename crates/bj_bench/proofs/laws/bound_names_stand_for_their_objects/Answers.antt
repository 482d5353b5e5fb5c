use Rattle.bj_bench.proofs.Apart.{told_apart, others_stay, bound_stands, apart_with}
use Rattle.bj_bench.proofs.laws.bound_names_stand_for_their_objects.Goals as goal

pub returns-clause-same : goal.returns-clause-same
returns-clause-same c = bound_stands

pub returns-clause-others : goal.returns-clause-others
returns-clause-others c = λ names name other v differ. others_stay names name other v (told_apart name other differ)

pub returns-clause-apart : goal.returns-clause-apart
returns-clause-apart c = apart_with
