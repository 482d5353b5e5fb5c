use Rattle.std.proofs.Common.{arith, [], refl, sym}
use Rattle.std.proofs.lemmas.List.{append-nil}
use Rattle.bj_io.specs.Told.{before-nil}
use Rattle.bj_stream.proofs.Readers.{reader_more}
use Rattle.bj_stream.proofs.reader.Reader.poll.Goals as goal

pub returns-then-is_err : goal.returns-then-is_err
returns-then-is_err g c = rw (← c.self.view_is) (record { polled = record { piece = []; left = sym (before-nil _); got = rw c.reserve.ensures.items (sym (append-nil _)); rest = rw c.reserve.ensures.items (sym (append-nil _)); some = λ h. absurd cc; none = λ h. refl; ended = λ h. absurd cc; goes_on = λ h. refl; faults = omega arith; failed = λ h. absurd cc; waits = omega arith; not_yet = λ h. absurd cc; once = omega arith } })

pub invariant_of-self-in-Ok : goal.invariant_of-self-in-Ok
invariant_of-self-in-Ok g c = rw (c.in-Ok.ensures.items, c.reserve.ensures.items) (reader_more _ _ _ _ _ _ _ _ c.self.invariant c.count_lines-self-inside.ensures.begun c.count_lines-self-inside.ensures.first c.count_lines-self-inside.ensures.bound _ c.in-Got.ensures.ended)
