use Rattle.bj_store.proofs.Keeps.{goes_once, stays_ready}
use Rattle.bj_store.proofs.laws.classes_are_initialized_once.Goals as goal

pub returns-clause-once : goal.returns-clause-once
returns-clause-once c = goes_once

pub returns-clause-ready : goal.returns-clause-ready
returns-clause-ready c = stays_ready
