-- The statuses of the program.
use Rattle.std.specs.Prelude.{ℕ}
use Rattle.bj_session.specs.declared.ends.Ending.{Ending}
use Rattle.bj_session.specs.declared.ends.Ending.TheVariants.{Complete, SourceFault, SinkFault, NoMemory, TooLong, NotYet}

abbrev pub status_of : Ending → ℕ
status_of Complete = 0
status_of SourceFault = 3
status_of SinkFault = 4
status_of NoMemory = 5
status_of TooLong = 7
status_of NotYet = 8
