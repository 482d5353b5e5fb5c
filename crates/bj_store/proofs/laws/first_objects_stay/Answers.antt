use Rattle.bj_store.proofs.Keeps.{first_stay, spare_stays}
use Rattle.bj_store.proofs.laws.first_objects_stay.Goals as goal

pub returns-clause-first : goal.returns-clause-first
returns-clause-first c = first_stay

pub returns-clause-spare : goal.returns-clause-spare
returns-clause-spare c = spare_stays
