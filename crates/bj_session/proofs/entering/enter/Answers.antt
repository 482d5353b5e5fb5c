use Rattle.std.proofs.Common.{Option, Some, None}
use Rattle.bj_core.specs.declared.entry.Entry.{Entry}
use Rattle.bj_exec.specs.declared.thread.Thread.{Thread}
use Rattle.bj_machine.specs.Shown.{Shown, HasNoted}
use Rattle.bj_session.specs.Naming.{MayBegin}
use Rattle.bj_session.proofs.entering.enter.Goals as goal

-- what may begin may begin behind an entry
may_noted : (entry : Entry) (m m' : Shown) (thread : Option Thread) → HasNoted entry m m' → MayBegin m thread → MayBegin m' thread
may_noted entry m m' None noted may = tt
may_noted entry m m' (Some thread) noted may = rw (noted.keeps.program, noted.keeps.code, noted.keeps.limits) may

pub begin-requires : goal.begin-requires
begin-requires c = may_noted _ _ _ _ c.in-Ok.ensures.ok c.requires
