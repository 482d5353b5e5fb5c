-- The session: what it has read, what it has written, and how it ends.
use Rattle.std.specs.Prelude.{ℕ, ◌≡◌, ◌+◌, ◌-◌, ◌*◌, ◌<◌, ◌≤◌, ◌⊎◌, Bool, true, false, if◌then◌else◌, List, [], ◌∷◌, ◌++◌, length, Option, Some, None}
use Rattle.bj_io.specs.Told.{before, behind, Rose}
use Rattle.bj_core.specs.declared.entry.Entry.{Entry}
use Rattle.bj_core.specs.declared.entry.Entry.TheVariants.{Line, Woke}
use Rattle.bj_history.specs.declared.opening.Opening.{Opening}
use Rattle.bj_say.specs.declared.wait.Wait.{Wait}
use Rattle.bj_say.specs.declared.wait.Wait.TheVariants.{Silent}
use Rattle.bj_command.specs.Items.{items, IsPrefixOf}
use Rattle.bj_command.specs.Words.{is_quit}
use Rattle.bj_history.specs.History.{after, lines, written, has_quit, has_pause, line_is_due, HasHadATurn}
use Rattle.bj_stream.specs.Reading.{Reader, MayStill, is_too_long, fresh_reader}
use Rattle.bj_session.specs.Endings.{status_of}
use Rattle.bj_session.specs.Desk.{Desk, fresh_desk, world_of, IsRested}
use Rattle.bj_stream.specs.declared.reader.Polled.{Polled}
use Rattle.bj_stream.specs.declared.reader.Polled.TheVariants.{Got, NotYet, End, Failed as PollFailed, NoMemory as NoRoom}
use Rattle.bj_stream.specs.declared.sending.Sent.{Sent}
use Rattle.bj_stream.specs.declared.sending.Sent.TheVariants.{All, Failed, NoMemory}
use Rattle.bj_session.specs.declared.ends.Ending.{Ending}
use Rattle.bj_session.specs.declared.ends.Ending.TheVariants as ending

pub record Session : Type 0 where
  pub reader : Reader
  pub desk : Desk
  pub ending : Option Ending

-- what the ends told when the session was made, and its opening
pub record Start : Type 0 where
  pub opening : Opening
  pub left : Option (List ℕ)
  pub held : Option (List ℕ)
  pub source_faults : ℕ
  pub waits : ℕ
  pub polls : ℕ
  pub sink_faults : ℕ

-- the lines that are still to come
abbrev pub still : List Entry → List ℕ → Bool → List (List ℕ)
still log rest ended = if has_quit log then [] else items rest ended

-- the lines of the history and those of the rest are the lines of all that was got, whatever still comes
abbrev pub IsReading : Reader → List Entry → Type 0
IsReading r log = (more : List ℕ) (ended : Bool) → MayStill r.ended more ended → items (r.got ++ more) ended ≡ lines log ++ still log (r.rest ++ more) ended

-- no wait has begun since the last one was over
abbrev pub is_quiet : List Entry → Bool
is_quiet [] = true
is_quiet (Woke reason ∷ front) = true
is_quiet (e ∷ front) = false

abbrev pub ends_by_quit : List Entry → Bool
ends_by_quit [] = false
ends_by_quit (Line line text ∷ front) = is_quit line
ends_by_quit (e ∷ front) = false

abbrev pub is_woken : List Entry → Bool
is_woken [] = false
is_woken (Woke reason ∷ front) = true
is_woken (e ∷ front) = false

-- the last wait, if there was one, is over; in `bench` it is that of the pause at the end of the input
abbrev pub is_closed : Bool → List Entry → Bool
is_closed true log = is_quiet log
is_closed false log = if has_pause log then is_woken log else false

-- the last line is `quit`; or the source has ended, each line is answered, and the last wait is over
abbrev pub IsOver : Bool → List ℕ → Bool → List Entry → Type 0
IsOver pad got ended log = (ends_by_quit log ≡ true) ⊎ ((ended ≡ true) × (lines log ≡ items got true) × (is_closed pad log ≡ true))

-- what holds in `pad` while the session goes on
pub record IsPadding (v : Session) : Type 0 where
  pub rested : (after v.desk.opening v.desk.log).wait ≡ None → IsRested v.desk.opening (world_of v.desk)
  pub quiet : (after v.desk.opening v.desk.log).wait ≡ None → is_quiet v.desk.log ≡ true
  pub more : v.reader.ended ≡ true → is_quiet v.desk.log ≡ true → 0 < length v.reader.rest

-- in `bench` behind the pause: all is read and answered, and its wait is open
pub record IsClosing (v : Session) : Type 0 where
  pub ended : v.reader.ended ≡ true
  pub done : v.reader.rest ≡ []
  pub waits : (after v.desk.opening v.desk.log).wait ≡ Some Silent

-- what holds while the session goes on
pub record IsLive (v : Session) : Type 0 where
  pub reading : IsReading v.reader v.desk.log
  pub goes_on : has_quit v.desk.log ≡ false
  pub due : (after v.desk.opening v.desk.log).wait ≡ None → line_is_due v.desk.opening.pad v.desk.log ≡ true
  pub turn : (after v.desk.opening v.desk.log).wait ≡ None → HasHadATurn v.desk.opening v.desk.log
  pub padding : v.desk.opening.pad ≡ true → IsPadding v
  pub closing : v.desk.opening.pad ≡ false → has_pause v.desk.log ≡ true → IsClosing v

-- what holds always
pub record IsSound (v : Session) : Type 0 where
  pub live : v.ending ≡ None → IsLive v
  pub prefix : IsPrefixOf (lines v.desk.log) (items v.reader.got v.reader.ended)
  pub complete : v.ending ≡ Some ending.Complete → IsOver v.desk.opening.pad v.reader.got v.reader.ended v.desk.log
  pub only_complete : IsOver v.desk.opening.pad v.reader.got v.reader.ended v.desk.log → v.ending ≡ Some ending.Complete
  pub long : v.ending ≡ Some ending.TooLong → is_too_long v.reader.got ≡ true
  pub only_long : is_too_long v.reader.got ≡ true → v.ending ≡ Some ending.TooLong

-- a put failed, or memory was wanting
abbrev pub IsCut : Option Ending → Type 0
IsCut e = (e ≡ Some ending.SinkFault) ⊎ (e ≡ Some ending.NoMemory)

-- what is held is what was held and then what is written, of which a part may be missing at the end
pub record Holds (start now : Option (List ℕ)) (is_cut : Type 0) (text : List ℕ) : Type 0 where
  pub sent : List ℕ
  pub unsent : List ℕ
  pub parts : sent ++ unsent ≡ text
  pub held : now ≡ behind start sent
  pub all : is_cut ⊎ (unsent ≡ [])

-- the session stands for a start
pub record StandsFor (start : Start) (v : Session) : Type 0 where
  pub opening : v.desk.opening ≡ start.opening
  pub left : start.left ≡ before v.reader.got v.reader.left
  pub held : Holds start.held v.desk.held (IsCut v.ending) (written v.desk.opening v.desk.log)
  pub source_faults : start.source_faults ≤ v.reader.faults
  pub waits : start.waits ≤ v.reader.waits
  pub sink_faults : start.sink_faults ≤ v.desk.faults
  pub polls : v.reader.polls ≤ start.polls + length v.reader.got + 1
  pub few_polls : v.ending ≡ None → v.reader.ended ≡ false → v.reader.polls ≤ start.polls + length v.reader.got
  pub source_fault : v.ending ≡ Some ending.SourceFault → Rose start.source_faults v.reader.faults
  pub sink_fault : v.ending ≡ Some ending.SinkFault → Rose start.sink_faults v.desk.faults
  pub not_yet : v.ending ≡ Some ending.NotYet → Rose start.waits v.reader.waits

-- each start is kept, and the history only grows
pub record Goes (old new : Session) : Type 0 where
  pub stands : (start : Start) → StandsFor start old → StandsFor start new
  pub grows : (more : List Entry) × (new.desk.log ≡ more ++ old.desk.log)

-- how much there is to do at most
abbrev pub turns_of_wait : Option Wait → ℕ
turns_of_wait None = 0
turns_of_wait (Some wait) = 1

-- in `bench` there is a pause to come, and its wait
abbrev pub turns_of_pause : Bool → List Entry → ℕ
turns_of_pause true log = 0
turns_of_pause false log = if has_pause log then 0 else 2

abbrev pub todo : Session → ℕ
todo v = 8 * (16777217 - length v.reader.got) + 4 * length v.reader.rest + (if v.reader.ended then 0 else 1)
    + (v.desk.opening.limits.acts - (world_of v.desk).acts) + turns_of_wait (after v.desk.opening v.desk.log).wait
    + turns_of_pause v.desk.opening.pad v.desk.log

-- how a piece leaves the session
abbrev pub ending_after : Sent → Option Ending
ending_after All = None
ending_after Failed = Some ending.SinkFault
ending_after NoMemory = Some ending.NoMemory

-- how a poll leaves it, where the bytes are too many, or are all taken in `pad`
abbrev pub ending_polled : Polled → Bool → Bool → Bool → Option Ending
ending_polled Got long done pad = if long then Some ending.TooLong else None
ending_polled NotYet long done pad = Some ending.NotYet
ending_polled End long true true = Some ending.Complete
ending_polled End long true false = None
ending_polled End long false pad = None
ending_polled PollFailed long done pad = Some ending.SourceFault
ending_polled NoRoom long done pad = Some ending.NoMemory

-- how a line leaves it which is `quit`, or was not sent whole
abbrev pub ending_lined : Sent → Option Ending
ending_lined All = Some ending.Complete
ending_lined Failed = Some ending.SinkFault
ending_lined NoMemory = Some ending.NoMemory

-- how the end of a wait leaves it, which may be the last one, where all may be read
abbrev pub ending_woken : Sent → Bool → Bool → Option Ending
ending_woken All true true = Some ending.Complete
ending_woken All true false = None
ending_woken All false over = None
ending_woken Failed last over = Some ending.SinkFault
ending_woken NoMemory last over = Some ending.NoMemory

-- whether the session ends at a line, which may be `quit`
abbrev pub ends_at : Sent → Bool → Bool
ends_at All quit = quit
ends_at Failed quit = true
ends_at NoMemory quit = true

abbrev pub fresh_session : Opening → Option (List ℕ) → ℕ → ℕ → ℕ → Option (List ℕ) → ℕ → Session
fresh_session o left faults waits polls held sink_faults = record { reader = fresh_reader left faults waits polls; desk = fresh_desk o held sink_faults; ending = None }

-- the status is that of the ending
abbrev pub HasStatus : Option Ending → ℕ → Type 0
HasStatus None status = ⊥
HasStatus (Some e) status = status ≡ status_of e
