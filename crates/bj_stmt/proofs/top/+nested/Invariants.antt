use Rattle.bj_stmt.proofs.top.+nested.Given as goal

abbrev pub decreases-nested : goal.decreases-nested
decreases-nested l = l.bounds.room
