-- What a step of the session keeps.
use Rattle.std.proofs.Common.{◌≡◌, ◌≤◌, ◌<◌, ◌+◌, ◌⊎◌, ℕ, length, List, [], ◌∷◌, ◌++◌, Bool, true, false, is_some, if◌then◌else◌, Option, Some, None, inl, inr, ap, sym, ◌∙◌, refl, subst, arith, append_assoc, length-append}
use Rattle.std.proofs.lemmas.List.{append-nil}
use Rattle.bj_io.specs.Told.{before-append, behind-append, Rose}
use Rattle.bj_core.specs.declared.entry.Entry.{Entry}
use Rattle.bj_core.specs.declared.entry.Entry.TheVariants.{Line}
use Rattle.bj_history.specs.declared.opening.Opening.{Opening}
use Rattle.bj_history.specs.History.{after, written, lines, has_quit, has_pause}
use Rattle.bj_command.specs.Items.{items, IsPrefixOf, line_then}
use Rattle.bj_command.specs.Words.{is_quit}
use Rattle.bj_stream.specs.Reading.{Reader, HasPolled, TakesLine, MayStill, is_too_long}
use Rattle.bj_session.specs.Desk.{Desk, HasNoted}
use Rattle.bj_session.specs.Session.{Session, Start, StandsFor, Goes, Holds, IsSound, IsLive, IsPadding, IsClosing, IsReading, IsCut, is_closed, still, todo, ending_after, ending_polled}
use Rattle.bj_session.specs.declared.ends.Ending.{Ending}
use Rattle.bj_session.specs.declared.ends.Ending.TheVariants as ending
use Rattle.bj_stream.specs.declared.reader.Polled.{Polled}
use Rattle.bj_stream.specs.declared.reader.Polled.TheVariants.{Got, NotYet, End, Failed, NoMemory}
use Rattle.bj_stream.specs.declared.sending.Sent.{Sent}
use Rattle.bj_stream.specs.declared.sending.Sent.TheVariants.{All, Failed as Refused, NoMemory as NoRoom}
use Rattle.bj_session.proofs.Overs.{ends_has, not_all_read, closed_in_pad}

-- the source, and what was got of it, are the same
pub record SameSource (old new : Reader) : Type 0 where
  pub got : new.got ≡ old.got
  pub left : new.left ≡ old.left
  pub faults : new.faults ≡ old.faults
  pub waits : new.waits ≡ old.waits
  pub polls : new.polls ≡ old.polls
  pub ended : new.ended ≡ old.ended

pub same_source : (r : Reader) → SameSource r r
same_source r = record { got = refl; left = refl; faults = refl; waits = refl; polls = refl; ended = refl }

pub taken_source : (line : List ℕ) (r r' : Reader) → TakesLine line r r' → SameSource r r'
taken_source line r r' takes = record {
  got = ap (λ (x : Reader). x.got) takes.same;
  left = ap (λ (x : Reader). x.left) takes.same;
  faults = ap (λ (x : Reader). x.faults) takes.same;
  waits = ap (λ (x : Reader). x.waits) takes.same;
  polls = ap (λ (x : Reader). x.polls) takes.same;
  ended = ap (λ (x : Reader). x.ended) takes.same;
}

pub goes_same : (v : Session) → Goes v v
goes_same v = record { stands = λ start h. h; grows = ([], refl) }

pub goes_on : (a b c : Session) → Goes a b → Goes b c → Goes a c
goes_on a b c first later = record {
  stands = λ start h. later.stands start (first.stands start h);
  grows = (later.grows.0 ++ first.grows.0, later.grows.1 ∙ (ap (λ xs. later.grows.0 ++ xs) first.grows.1 ∙ sym (append_assoc later.grows.0 first.grows.0 a.desk.log)));
}

-- a desk with this opening and this log
abbrev pub desk_of : Opening → List Entry → Desk → Desk
desk_of o log d = record { opening = o; log = log; held = d.held; faults = d.faults }

pub same_desk : (d : Desk) (o : Opening) (log : List Entry) → d.opening ≡ o → d.log ≡ log → d ≡ desk_of o log d
same_desk d o log opening grown = ap (λ (p : Opening). desk_of p d.log d) opening ∙ ap (λ (l : List Entry). desk_of o l d) grown

-- what holds while the session goes on, of the opening and the log
pub live_of : (r : Reader) (d : Desk) (s : Option Ending) (o : Opening) (log : List Entry) → d.opening ≡ o → d.log ≡ log
    → IsLive (record { reader = r; desk = desk_of o log d; ending = s }) → IsLive (record { reader = r; desk = d; ending = s })
live_of r d s o log opening grown live = subst (λ (x : Desk). IsLive (record { reader = r; desk = x; ending = s })) (sym (same_desk d o log opening grown)) live

-- and what there is to do
pub todo_of : (r : Reader) (d : Desk) (s : Option Ending) (o : Opening) (log : List Entry) (n : ℕ) → d.opening ≡ o → d.log ≡ log
    → todo (record { reader = r; desk = desk_of o log d; ending = s }) < n → todo (record { reader = r; desk = d; ending = s }) < n
todo_of r d s o log n opening grown less = subst (λ (x : Desk). todo (record { reader = r; desk = x; ending = s }) < n) (sym (same_desk d o log opening grown)) less

-- what was got grows by a piece, and what may still come is the same
pub reading_polled : (answer : Polled) (old new : Reader) (log : List Entry) → HasPolled answer old new → old.ended ≡ false → IsReading old log → IsReading new log
reading_polled answer old new log p going reading more ended may =
    let open_ : MayStill old.ended (p.piece ++ more) ended = subst (λ (e : Bool). MayStill e (p.piece ++ more) ended) (sym going) tt in
    rw (p.got, p.rest, append_assoc old.got p.piece more, append_assoc old.rest p.piece more) (reading (p.piece ++ more) ended open_)

pub may_stop : (ended : Bool) → MayStill ended [] ended
may_stop true = (refl, refl)
may_stop false = tt

-- the lines of the history are a beginning of all
pub prefix_reading : (r : Reader) (log : List Entry) → IsReading r log → IsPrefixOf (lines log) (items r.got r.ended)
prefix_reading r log reading =
    let all : items (r.got ++ []) r.ended ≡ lines log ++ still log (r.rest ++ []) r.ended = reading [] r.ended (may_stop r.ended) in
    (still log (r.rest ++ []) r.ended, sym (rw append-nil at all))

taken_lines : (b : Bool) (line : List ℕ) (before_ rest : List (List ℕ)) → is_quit line ≡ b
    → before_ ++ line_then line rest ≡ (before_ ++ line ∷ []) ++ (if (if is_quit line then true else false) then [] else rest)
taken_lines true line before_ rest is = rw is (sym (append-nil (before_ ++ line ∷ [])))
taken_lines false line before_ rest is = rw is (sym (append_assoc before_ (line ∷ []) rest))

-- a line is taken, and logged
pub reading_taken : (old new : Reader) (line text : List ℕ) (log : List Entry) → TakesLine line old new → has_quit log ≡ false → IsReading old log → IsReading new (Line line text ∷ log)
reading_taken old new line text log takes goes reading more ended may =
    let e : new.ended ≡ old.ended = ap (λ (r : Reader). r.ended) takes.same in
    let g : new.got ≡ old.got = ap (λ (r : Reader). r.got) takes.same in
    let may' : MayStill old.ended more ended = subst (λ (b : Bool). MayStill b more ended) e may in
    let all : items (old.got ++ more) ended ≡ lines log ++ still log (old.rest ++ more) ended = reading more ended may' in
    rw (g, all, goes, takes.reads more ended may') (taken_lines (is_quit line) line (lines log) (items (new.rest ++ more) ended) refl)

pub rose_since : (start earlier now : ℕ) → start ≤ earlier → Rose earlier now → Rose start now
rose_since start earlier now le rose = omega arith

all_sent : (start : Start) (v : Session) (h : StandsFor start v) → v.ending ≡ None → h.held.unsent ≡ []
all_sent start v h none = elim h.held.all [ inl cut ↦ elim cut [ inl fault ↦ absurd (cc (fault, none)) | inr memory ↦ absurd (cc (memory, none)) ] | inr is ↦ is ]

got_more : (answer : Polled) (old new : Reader) → HasPolled answer old new → length old.got ≤ length new.got
got_more answer old new p = let e : length new.got ≡ length old.got + length p.piece = ap length p.got ∙ length-append old.got p.piece in omega arith

got_some : (answer : Polled) (old new : Reader) → HasPolled answer old new → answer ≡ Got → length old.got < length new.got
got_some answer old new p is =
    let e : length new.got ≡ length old.got + length p.piece = ap length p.got ∙ length-append old.got p.piece in
    let some : 0 < length p.piece = p.some is in
    omega arith

-- a poll keeps each start
pub stands_polled : (answer : Polled) (old new : Session) (start : Start) → old.ending ≡ None → old.reader.ended ≡ false → HasPolled answer old.reader new.reader → new.desk ≡ old.desk
    → (new.ending ≡ Some ending.SourceFault → answer ≡ Failed) → (new.ending ≡ Some ending.SinkFault → ⊥) → (new.ending ≡ Some ending.NotYet → answer ≡ NotYet)
    → (new.ending ≡ None → new.reader.ended ≡ false → answer ≡ Got) → StandsFor start old → StandsFor start new
stands_polled answer old new start was going p same source_fault sink_fault not_yet goes h = record {
  opening = ap (λ (d : Desk). d.opening) same ∙ h.opening;
  left = rw (p.got, before-append old.reader.got p.piece new.reader.left, ← p.left) h.left;
  held = record {
    sent = h.held.sent;
    unsent = h.held.unsent;
    parts = h.held.parts ∙ ap (λ (d : Desk). written d.opening d.log) (sym same);
    held = ap (λ (d : Desk). d.held) same ∙ h.held.held;
    all = inr (all_sent start old h was);
  };
  source_faults = omega (arith, h.source_faults, p.faults);
  waits = omega (arith, h.waits, p.waits);
  sink_faults = let e : new.desk.faults ≡ old.desk.faults = ap (λ (d : Desk). d.faults) same in omega (arith, h.sink_faults);
  polls = let few = h.few_polls was going in let more = got_more answer old.reader new.reader p in let once = p.once in omega arith;
  few_polls = λ none ended. let few = h.few_polls was going in let more = got_some answer old.reader new.reader p (goes none ended) in let once = p.once in omega arith;
  source_fault = λ is. rose_since start.source_faults old.reader.faults new.reader.faults h.source_faults (p.failed (source_fault is));
  sink_fault = λ is. absurd (sink_fault is);
  not_yet = λ is. rose_since start.waits old.reader.waits new.reader.waits h.waits (p.not_yet (not_yet is));
}

held_noted : (answer : Sent) (entry : Entry) (start : Start) (old new : Session) (h : StandsFor start old) (n : HasNoted answer entry old.desk new.desk)
    → old.ending ≡ None → IsCut new.ending ⊎ (n.unsent ≡ []) → Holds start.held new.desk.held (IsCut new.ending) (written new.desk.opening new.desk.log)
held_noted answer entry start old new h n was all =
    let none : h.held.unsent ≡ [] = all_sent start old h was in
    let whole : h.held.sent ≡ written old.desk.opening old.desk.log = sym (append-nil h.held.sent) ∙ (ap (λ xs. h.held.sent ++ xs) (sym none) ∙ h.held.parts) in
    record {
      sent = h.held.sent ++ n.sent;
      unsent = n.unsent;
      parts = append_assoc h.held.sent n.sent n.unsent ∙ (ap (λ xs. xs ++ (n.sent ++ n.unsent)) whole ∙ (n.parts ∙ ap (λ (o : Opening). written o new.desk.log) (sym n.opening)));
      held = rw (behind-append start.held h.held.sent n.sent, ← h.held.held) n.held;
      all = all;
    }

-- an entry that was noted whole keeps each start
pub stands_noted : (entry : Entry) (old new : Session) (start : Start) → old.ending ≡ None → HasNoted All entry old.desk new.desk → SameSource old.reader new.reader
    → (new.ending ≡ None) ⊎ (new.ending ≡ Some ending.Complete) → StandsFor start old → StandsFor start new
stands_noted entry old new start was n same goes h = record {
  opening = n.opening ∙ h.opening;
  left = rw (same.got, same.left) h.left;
  held = held_noted All entry start old new h n was (inr (n.all refl).1);
  source_faults = let e = same.faults in omega (arith, h.source_faults);
  waits = let e = same.waits in omega (arith, h.waits);
  sink_faults = omega (arith, h.sink_faults, n.faults);
  polls = rw (same.polls, same.got) h.polls;
  few_polls = λ none ended. rw (same.polls, same.got) (h.few_polls was (sym same.ended ∙ ended));
  source_fault = λ is. absurd (elim goes [ inl none ↦ cc | inr done ↦ cc ]);
  sink_fault = λ is. absurd (elim goes [ inl none ↦ cc | inr done ↦ cc ]);
  not_yet = λ is. absurd (elim goes [ inl none ↦ cc | inr done ↦ cc ]);
}

pub cut_of : (answer : Sent) → (answer ≡ All → ⊥) → IsCut (ending_after answer)
cut_of All not_all = absurd (not_all refl)
cut_of Refused not_all = inl refl
cut_of NoRoom not_all = inr refl

refused_by : (answer : Sent) → ending_after answer ≡ Some ending.SinkFault → answer ≡ Refused
refused_by All is = absurd cc
refused_by Refused is = refl
refused_by NoRoom is = absurd cc

-- an entry of which a part is missing keeps each start
pub stands_cut : (answer : Sent) (entry : Entry) (old new : Session) (start : Start) → old.ending ≡ None → HasNoted answer entry old.desk new.desk → SameSource old.reader new.reader
    → (answer ≡ All → ⊥) → new.ending ≡ ending_after answer → StandsFor start old → StandsFor start new
stands_cut answer entry old new start was n same not_all leaves h =
    let cut : IsCut new.ending = subst IsCut (sym leaves) (cut_of answer not_all) in
    record {
      opening = n.opening ∙ h.opening;
      left = rw (same.got, same.left) h.left;
      held = held_noted answer entry start old new h n was (inl cut);
      source_faults = let e = same.faults in omega (arith, h.source_faults);
      waits = let e = same.waits in omega (arith, h.waits);
      sink_faults = omega (arith, h.sink_faults, n.faults);
      polls = rw (same.polls, same.got) h.polls;
      few_polls = λ none ended. rw (same.polls, same.got) (h.few_polls was (sym same.ended ∙ ended));
      source_fault = λ is. absurd (elim cut [ inl fault ↦ cc | inr memory ↦ cc ]);
      sink_fault = λ is. rose_since start.sink_faults old.desk.faults new.desk.faults h.sink_faults (n.failed (refused_by answer (sym leaves ∙ is)));
      not_yet = λ is. absurd (elim cut [ inl fault ↦ cc | inr memory ↦ cc ]);
    }

-- want of memory keeps each start
pub stands_given_up : (old new : Session) (start : Start) → old.ending ≡ None → new ≡ record { reader = old.reader; desk = old.desk; ending = Some ending.NoMemory } → StandsFor start old → StandsFor start new
stands_given_up old new start was is h = rw is (record {
  opening = h.opening;
  left = h.left;
  held = record { sent = h.held.sent; unsent = h.held.unsent; parts = h.held.parts; held = h.held.held; all = inl (inr refl) };
  source_faults = h.source_faults;
  waits = h.waits;
  sink_faults = h.sink_faults;
  polls = h.polls;
  few_polls = λ none ended. absurd cc;
  source_fault = λ is. absurd cc;
  sink_fault = λ is. absurd cc;
  not_yet = λ is. absurd cc;
})

pub not_long : (v : Session) → IsSound v → v.ending ≡ None → is_too_long v.reader.got ≡ true → ⊥
not_long v sound none long = cc (sound.only_long long, none)

-- where all is taken, the lines of the history are all
pub all_read : (r : Reader) (log : List Entry) → IsReading r log → has_quit log ≡ false → r.ended ≡ true → r.rest ≡ [] → lines log ≡ items r.got true
all_read r log reading goes ended rest =
    let may : MayStill r.ended [] true = subst (λ (b : Bool). MayStill b [] true) (sym ended) (refl, refl) in
    let all : items (r.got ++ []) true ≡ lines log ++ still log (r.rest ++ []) true = reading [] true may in
    let whole : items r.got true ≡ items (r.got ++ []) true = ap (λ xs. items xs true) (sym (append-nil r.got)) in
    let none : still log (r.rest ++ []) true ≡ [] = rw (goes, rest) refl in
    sym (whole ∙ (all ∙ (ap (λ xs. lines log ++ xs) none ∙ append-nil (lines log))))

ended_by : (answer : Polled) (was is : Bool) → ((answer ≡ End → ⊥) → is ≡ was) → was ≡ false → is ≡ true → answer ≡ End
ended_by Got was is same going ended = absurd (cc (same (λ h. cc)))
ended_by NotYet was is same going ended = absurd (cc (same (λ h. cc)))
ended_by End was is same going ended = refl
ended_by Failed was is same going ended = absurd (cc (same (λ h. cc)))
ended_by NoMemory was is same going ended = absurd (cc (same (λ h. cc)))

-- before the end of the bytes there is no pause in `bench`
unpaused : (r : Reader) (d : Desk) (s : Option Ending) → IsLive (record { reader = r; desk = d; ending = s }) → r.ended ≡ false → d.opening.pad ≡ false → has_pause d.log ≡ true → ⊥
unpaused r d s live going bench paused = let c : IsClosing (record { reader = r; desk = d; ending = s }) = live.closing bench paused in cc (c.ended, going)

-- what holds while the session goes on, behind a poll
live_polled : (answer : Polled) (r r' : Reader) (d : Desk) (s s' : Option Ending) → IsLive (record { reader = r; desk = d; ending = s }) → HasPolled answer r r' → r.ended ≡ false
    → (answer ≡ End → d.opening.pad ≡ true → 0 < length r'.rest) → IsLive (record { reader = r'; desk = d; ending = s' })
live_polled answer r r' d s s' live p going more = record {
  reading = reading_polled answer r r' d.log p going live.reading;
  goes_on = live.goes_on;
  due = live.due;
  turn = live.turn;
  padding = λ pad.
      let q : IsPadding (record { reader = r; desk = d; ending = s }) = live.padding pad in
      record { rested = q.rested; quiet = q.quiet; more = λ ended quiet. more (ended_by answer r.ended r'.ended p.goes_on going ended) pad };
  closing = λ bench paused. absurd (unpaused r d s live going bench paused);
}

-- a poll leaves the session sound
pub sound_polled : (answer : Polled) (r r' : Reader) (d : Desk) (s s' : Option Ending) → IsSound (record { reader = r; desk = d; ending = s }) → s ≡ None → HasPolled answer r r' → r.ended ≡ false → (after d.opening d.log).wait ≡ None
    → (s' ≡ Some ending.TooLong → is_too_long r'.got ≡ true) → (is_too_long r'.got ≡ true → s' ≡ Some ending.TooLong)
    → (s' ≡ Some ending.Complete → (answer ≡ End) × (r'.rest ≡ []) × (d.opening.pad ≡ true)) → (s' ≡ None → answer ≡ End → d.opening.pad ≡ true → 0 < length r'.rest)
    → (answer ≡ End → d.opening.pad ≡ true → (s' ≡ Some ending.Complete) ⊎ (0 < length r'.rest))
    → IsSound (record { reader = r'; desk = d; ending = s' })
sound_polled answer r r' d s s' sound was p going closed long only complete more either =
    let live : IsLive (record { reader = r; desk = d; ending = s }) = sound.live was in
    let reading : IsReading r' d.log = reading_polled answer r r' d.log p going live.reading in
    record {
      live = λ none. live_polled answer r r' d s s' live p going (more none);
      prefix = prefix_reading r' d.log reading;
      complete = λ is.
          let z : (answer ≡ End) × (r'.rest ≡ []) × (d.opening.pad ≡ true) = complete is in
          let q : IsPadding (record { reader = r; desk = d; ending = s }) = live.padding z.2 in
          inr (p.ended z.0, all_read r' d.log reading live.goes_on (p.ended z.0) z.1, subst (λ (b : Bool). is_closed b d.log ≡ true) (sym z.2) (q.quiet closed));
      only_complete = λ over. elim over [
        | inl q ↦ absurd (cc (ends_has d.log q, live.goes_on))
        | inr all ↦ elim (either (ended_by answer r.ended r'.ended p.goes_on going all.0) (closed_in_pad d.opening.pad d.log all.2 (unpaused r d s live going))) [
          | inl z ↦ z
          | inr some ↦ absurd (not_all_read r' d.log reading live.goes_on all.0 some all.1)
        ]
      ];
      long = long;
      only_long = only;
    }

-- where nothing came, no more was got
pub got_nothing : (answer : Polled) (r r' : Reader) (d : Desk) (s : Option Ending) → IsSound (record { reader = r; desk = d; ending = s }) → s ≡ None → HasPolled answer r r' → (answer ≡ Got → ⊥) → is_too_long r'.got ≡ true → ⊥
got_nothing answer r r' d s sound was p not_got long =
    let same : r'.got ≡ r.got = p.got ∙ (ap (λ xs. r.got ++ xs) (p.none not_got) ∙ append-nil r.got) in
    not_long (record { reader = r; desk = d; ending = s }) sound was (ap is_too_long (sym same) ∙ long)

-- what is known at the end of a poll
pub record Polls (answer : Polled) (r r' : Reader) (d : Desk) (s : Option Ending) (is_long is_done is_pad : Bool) : Type 0 where
  pub sound : IsSound (record { reader = r; desk = d; ending = s })
  pub was : s ≡ None
  pub polled : HasPolled answer r r'
  pub going : r.ended ≡ false
  pub closed : (after d.opening d.log).wait ≡ None
  pub long_is : is_long ≡ is_too_long r'.got
  pub done_is : is_done ≡ true → r'.rest ≡ []
  pub more_is : is_done ≡ false → 0 < length r'.rest
  pub pad_is : is_pad ≡ d.opening.pad

-- a poll at which the session does not end, or for another reason
sound_unended : (answer : Polled) (r r' : Reader) (d : Desk) (s s' : Option Ending) (long done pad : Bool) → Polls answer r r' d s long done pad → (answer ≡ Got → ⊥)
    → (s' ≡ Some ending.Complete → ⊥) → (s' ≡ Some ending.TooLong → ⊥) → (answer ≡ End → d.opening.pad ≡ true → 0 < length r'.rest) → IsSound (record { reader = r'; desk = d; ending = s' })
sound_unended answer r r' d s s' long done pad k not_got goes short more =
    sound_polled answer r r' d s s' k.sound k.was k.polled k.going k.closed (λ h. absurd (short h)) (λ h. absurd (got_nothing answer r r' d s k.sound k.was k.polled not_got h))
    (λ h. absurd (goes h)) (λ none. more) (λ h g. inr (more h g))

pub sound_read : (answer : Polled) (r r' : Reader) (d : Desk) (s : Option Ending) (long done pad : Bool) → Polls answer r r' d s long done pad
    → IsSound (record { reader = r'; desk = d; ending = ending_polled answer long done pad })
sound_read Got r r' d s true done pad k = sound_polled Got r r' d s _ k.sound k.was k.polled k.going k.closed (λ h. sym k.long_is) (λ h. refl) (λ h. absurd cc) (λ h g. absurd cc) (λ h. absurd cc)
sound_read Got r r' d s false done pad k = sound_polled Got r r' d s _ k.sound k.was k.polled k.going k.closed (λ h. absurd cc) (λ h. absurd (cc (k.long_is, h))) (λ h. absurd cc) (λ h g. absurd cc) (λ h. absurd cc)
sound_read NotYet r r' d s long done pad k = sound_unended NotYet r r' d s _ long done pad k (λ g. cc) (λ h. cc) (λ h. cc) (λ h. absurd cc)
sound_read End r r' d s long true true k =
    sound_polled End r r' d s _ k.sound k.was k.polled k.going k.closed (λ h. absurd cc) (λ h. absurd (got_nothing End r r' d s k.sound k.was k.polled (λ g. cc) h))
    (λ h. (refl, k.done_is refl, sym k.pad_is)) (λ h g. absurd cc) (λ h g. inl refl)
sound_read End r r' d s long true false k = sound_unended End r r' d s _ long true false k (λ g. cc) (λ h. cc) (λ h. cc) (λ h g. absurd (cc (k.pad_is, g)))
sound_read End r r' d s long false true k = sound_unended End r r' d s _ long false true k (λ g. cc) (λ h. cc) (λ h. cc) (λ h g. k.more_is refl)
sound_read End r r' d s long false false k = sound_unended End r r' d s _ long false false k (λ g. cc) (λ h. cc) (λ h. cc) (λ h g. k.more_is refl)
sound_read Failed r r' d s long done pad k = sound_unended Failed r r' d s _ long done pad k (λ g. cc) (λ h. cc) (λ h. cc) (λ h. absurd cc)
sound_read NoMemory r r' d s long done pad k = sound_unended NoMemory r r' d s _ long done pad k (λ g. cc) (λ h. cc) (λ h. cc) (λ h. absurd cc)

failed_polled : (answer : Polled) (long done pad : Bool) → ending_polled answer long done pad ≡ Some ending.SourceFault → answer ≡ Failed
failed_polled Got true done pad is = absurd cc
failed_polled Got false done pad is = absurd cc
failed_polled NotYet long done pad is = absurd cc
failed_polled End long true true is = absurd cc
failed_polled End long true false is = absurd cc
failed_polled End long false pad is = absurd cc
failed_polled Failed long done pad is = refl
failed_polled NoMemory long done pad is = absurd cc

unsent_polled : (answer : Polled) (long done pad : Bool) → ending_polled answer long done pad ≡ Some ending.SinkFault → ⊥
unsent_polled Got true done pad is = cc
unsent_polled Got false done pad is = cc
unsent_polled NotYet long done pad is = cc
unsent_polled End long true true is = cc
unsent_polled End long true false is = cc
unsent_polled End long false pad is = cc
unsent_polled Failed long done pad is = cc
unsent_polled NoMemory long done pad is = cc

waited_polled : (answer : Polled) (long done pad : Bool) → ending_polled answer long done pad ≡ Some ending.NotYet → answer ≡ NotYet
waited_polled Got true done pad is = absurd cc
waited_polled Got false done pad is = absurd cc
waited_polled NotYet long done pad is = refl
waited_polled End long true true is = absurd cc
waited_polled End long true false is = absurd cc
waited_polled End long false pad is = absurd cc
waited_polled Failed long done pad is = absurd cc
waited_polled NoMemory long done pad is = absurd cc

got_polled : (answer : Polled) (long done pad ended : Bool) → (answer ≡ End → ended ≡ true) → ending_polled answer long done pad ≡ None → ended ≡ false → answer ≡ Got
got_polled Got long done pad ended at_end is open_ = refl
got_polled NotYet long done pad ended at_end is open_ = absurd cc
got_polled End long done pad ended at_end is open_ = absurd (cc (at_end refl, open_))
got_polled Failed long done pad ended at_end is open_ = absurd cc
got_polled NoMemory long done pad ended at_end is open_ = absurd cc

pub goes_read : (answer : Polled) (r r' : Reader) (d : Desk) (s : Option Ending) (long done pad : Bool) → Polls answer r r' d s long done pad
    → Goes (record { reader = r; desk = d; ending = s }) (record { reader = r'; desk = d; ending = ending_polled answer long done pad })
goes_read answer r r' d s long done pad k = record {
  stands = λ start h. stands_polled answer _ (record { reader = r'; desk = d; ending = ending_polled answer long done pad }) start k.was k.going k.polled refl
      (failed_polled answer long done pad) (unsent_polled answer long done pad) (waited_polled answer long done pad) (got_polled answer long done pad r'.ended k.polled.ended) h;
  grows = ([], refl);
}

pub none_by : (o : Option Ending) (b : Bool) → b ≡ is_some o → b ≡ false → o ≡ None
none_by None b is off = refl
none_by (Some n) b is off = absurd cc
