use Rattle.bj_store.proofs.Keeps.{objects_stay, numbers_rise}
use Rattle.bj_store.proofs.laws.made_objects_are_new.Goals as goal

pub returns-clause-stays : goal.returns-clause-stays
returns-clause-stays c = objects_stay

pub returns-clause-rises : goal.returns-clause-rises
returns-clause-rises c = numbers_rise
