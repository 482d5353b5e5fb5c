-- What a line keeps of the session.
use Rattle.std.proofs.Common.{[], ◌≡◌, ◌≤◌, ◌<◌, ◌⊎◌, ℕ, length, List, ◌∷◌, Bool, true, false, Option, Some, None, inl, inr, ap, sym, ◌∙◌, refl, subst, arith}
use Rattle.std.specs.Prelude.{not}
use Rattle.bj_core.specs.declared.action.Answer.{Answer}
use Rattle.bj_core.specs.declared.entry.Entry.{Entry}
use Rattle.bj_core.specs.declared.entry.Entry.TheVariants.{Line, Pause, Act}
use Rattle.bj_command.specs.Items.{items, IsPrefixOf}
use Rattle.bj_command.specs.Words.{is_quit}
use Rattle.bj_history.specs.declared.opening.Opening.{Opening}
use Rattle.bj_say.specs.declared.wait.Wait.{Wait}
use Rattle.bj_history.specs.History.{after, lines, has_quit, has_pause, line_is_due, pause_is_due, Fits}
use Rattle.bj_stream.specs.Reading.{Reader, TakesLine, is_too_long}
use Rattle.bj_session.specs.Desk.{Desk, HasNoted, HasRested, HasFollowed, HasLined, MayTake, IsRested, world_of}
use Rattle.bj_session.specs.Session.{Session, Goes, IsSound, IsOver, IsLive, IsReading, ends_by_quit, is_quiet, todo, turns_of_wait, turns_of_pause, ending_after, ending_lined, ends_at}
use Rattle.bj_session.specs.declared.ends.Ending.{Ending}
use Rattle.bj_session.specs.declared.ends.Ending.TheVariants as ending
use Rattle.bj_stream.specs.declared.sending.Sent.{Sent}
use Rattle.bj_stream.specs.declared.sending.Sent.TheVariants.{All, Failed, NoMemory}
use Rattle.bj_history.proofs.Acts.{acts_line}
use Rattle.bj_session.proofs.Histories.{wait_of_pad, quit_silent}
use Rattle.bj_session.proofs.Overs.{old_not_over, over_of, not_over_entry, closed_quiet}
use Rattle.bj_session.proofs.Turns.{turn_rested}
use Rattle.bj_session.proofs.Steps.{taken_source, not_long, prefix_reading, reading_taken, desk_of, live_of, same_desk, todo_of, stands_noted, stands_cut, stands_given_up, goes_same, goes_on}
use Rattle.bj_session.proofs.Entries.{sound_cut, sound_noted, grows_noted, goes_noted}

-- the next line may come
pub may_take : (v : Session) → IsLive v → (after v.desk.opening v.desk.log).wait ≡ None → MayTake v.desk.opening v.desk.log
may_take v live closed = record { closed = closed; goes_on = live.goes_on; due = live.due closed; turn = live.turn closed }

-- what is known once a line is noted
pub record Lined (sent : Sent) (line : List ℕ) (r r' : Reader) (d d' : Desk) (s : Option Ending) : Type 0 where
  pub sound : IsSound (record { reader = r; desk = d; ending = s })
  pub was : s ≡ None
  pub closed : (after d.opening d.log).wait ≡ None
  pub takes : TakesLine line r r'
  pub lined : HasLined sent line d d'

reading_lined : (sent : Sent) (line : List ℕ) (r r' : Reader) (d d' : Desk) (s : Option Ending) (k : Lined sent line r r' d d' s) → IsReading r' (Line line k.lined.text ∷ d.log)
reading_lined sent line r r' d d' s k = let live : IsLive (record { reader = r; desk = d; ending = s }) = k.sound.live k.was in reading_taken r r' line k.lined.text d.log k.takes live.goes_on live.reading

prefix_lined : (sent : Sent) (line : List ℕ) (r r' : Reader) (d d' : Desk) (s : Option Ending) → Lined sent line r r' d d' s → IsPrefixOf (lines d'.log) (items r'.got r'.ended)
prefix_lined sent line r r' d d' s k = elim k.lined.noted.log [
  | inl is ↦ rw is (prefix_reading r' (Line line k.lined.text ∷ d.log) (reading_lined sent line r r' d d' s k))
  | inr is ↦ rw (is, k.takes.same) k.sound.prefix
]

short_lined : (sent : Sent) (line : List ℕ) (r r' : Reader) (d d' : Desk) (s : Option Ending) → Lined sent line r r' d d' s → is_too_long r'.got ≡ true → ⊥
short_lined sent line r r' d d' s k long = let same = taken_source line r r' k.takes in not_long _ k.sound k.was (ap is_too_long (sym same.got) ∙ long)

-- where a line is missing, all is not over
not_over_taken : (sent : Sent) (line : List ℕ) (r r' : Reader) (d d' : Desk) (s : Option Ending) → Lined sent line r r' d d' s → IsOver d.opening.pad r'.got r'.ended d.log → ⊥
not_over_taken sent line r r' d d' s k over =
    let o : IsOver d.opening.pad r.got r.ended d.log = rw k.takes.same at over in
    old_not_over _ k.sound k.was o

-- a line that was cut off is not `quit`
not_over_lined : (sent : Sent) (line : List ℕ) (r r' : Reader) (d d' : Desk) (s : Option Ending) → Lined sent line r r' d d' s → (sent ≡ All → ⊥) → IsOver d'.opening.pad r'.got r'.ended d'.log → ⊥
not_over_lined sent line r r' d d' s k not_all over = elim k.lined.noted.log [
  | inl is ↦ (let o : IsOver d.opening.pad r'.got r'.ended (Line line k.lined.text ∷ d.log) = over_of d d' r'.got r'.ended (Line line k.lined.text ∷ d.log) k.lined.noted.opening is over in
      elim o [
        | inl q ↦ not_all (k.lined.noted.silent is (quit_silent d.opening (after d.opening d.log) line k.lined.text k.lined.replied q))
        | inr all ↦ cc (closed_quiet d.opening.pad (Line line k.lined.text ∷ d.log) all.2)
      ])
  | inr is ↦ not_over_taken sent line r r' d d' s k (over_of d d' r'.got r'.ended d.log k.lined.noted.opening is over)
]

-- a line that ends the session leaves it sound
pub sound_lined : (sent : Sent) (quit : Bool) (line : List ℕ) (r r' : Reader) (d d' : Desk) (s : Option Ending) → Lined sent line r r' d d' s → ends_at sent quit ≡ true → quit ≡ is_quit line
    → IsSound (record { reader = r'; desk = d'; ending = ending_lined sent })
sound_lined All quit line r r' d d' s k ends is =
    let log : d'.log ≡ Line line k.lined.text ∷ d.log = (k.lined.noted.all refl).0 in
    record {
      live = λ none. absurd cc;
      prefix = prefix_lined All line r r' d d' s k;
      complete = λ h. inl (rw log (sym is ∙ ends));
      only_complete = λ over. refl;
      long = λ h. absurd cc;
      only_long = λ h. absurd (short_lined All line r r' d d' s k h);
    }
sound_lined Failed quit line r r' d d' s k ends is = sound_cut r' d' _ (inl refl) (prefix_lined Failed line r r' d d' s k) (short_lined Failed line r r' d d' s k) (not_over_lined Failed line r r' d d' s k (λ is. cc))
sound_lined NoMemory quit line r r' d d' s k ends is = sound_cut r' d' _ (inr refl) (prefix_lined NoMemory line r r' d d' s k) (short_lined NoMemory line r r' d d' s k) (not_over_lined NoMemory line r r' d d' s k (λ is. cc))

goes_line : (sent : Sent) (line : List ℕ) (r r' : Reader) (d d' : Desk) (s s' : Option Ending) → Lined sent line r r' d d' s
    → ((sent ≡ All) × ((s' ≡ None) ⊎ (s' ≡ Some ending.Complete))) ⊎ ((sent ≡ All → ⊥) × (s' ≡ ending_after sent))
    → Goes (record { reader = r; desk = d; ending = s }) (record { reader = r'; desk = d'; ending = s' })
goes_line sent line r r' d d' s s' k which = record {
  stands = λ start h. elim which [
    | inl all ↦ stands_noted (Line line k.lined.text) _ _ start k.was (subst (λ (x : Sent). HasNoted x (Line line k.lined.text) d d') all.0 k.lined.noted) (taken_source line r r' k.takes) all.1 h
    | inr cut ↦ stands_cut sent (Line line k.lined.text) _ _ start k.was k.lined.noted (taken_source line r r' k.takes) cut.0 cut.1 h
  ];
  grows = grows_noted sent (Line line k.lined.text) d d' k.lined.noted;
}

pub goes_lined : (sent : Sent) (line : List ℕ) (r r' : Reader) (d d' : Desk) (s : Option Ending) → Lined sent line r r' d d' s
    → Goes (record { reader = r; desk = d; ending = s }) (record { reader = r'; desk = d'; ending = ending_lined sent })
goes_lined All line r r' d d' s k = goes_line All line r r' d d' s _ k (inl (refl, inr refl))
goes_lined Failed line r r' d d' s k = goes_line Failed line r r' d d' s _ k (inr ((λ is. cc), refl))
goes_lined NoMemory line r r' d d' s k = goes_line NoMemory line r r' d d' s _ k (inr ((λ is. cc), refl))

-- what is known of a line at which the session does not end
pub record GoesOn (sent : Sent) (quit : Bool) (line : List ℕ) (r r' : Reader) (d d' : Desk) (s : Option Ending) : Type 0 where
  pub lined : Lined sent line r r' d d' s
  pub ends : ends_at sent quit ≡ false
  pub quit_is : quit ≡ is_quit line

sent_all : (sent : Sent) (quit : Bool) → ends_at sent quit ≡ false → (sent ≡ All) × (quit ≡ false)
sent_all All quit is = (refl, is)
sent_all Failed quit is = absurd cc
sent_all NoMemory quit is = absurd cc

log_lined : (sent : Sent) (quit : Bool) (line : List ℕ) (r r' : Reader) (d d' : Desk) (s : Option Ending) (k : GoesOn sent quit line r r' d d' s) → d'.log ≡ Line line k.lined.lined.text ∷ d.log
log_lined sent quit line r r' d d' s k = (k.lined.lined.noted.all (sent_all sent quit k.ends).0).0

line_goes : (sent : Sent) (quit : Bool) (line : List ℕ) (r r' : Reader) (d d' : Desk) (s : Option Ending) → GoesOn sent quit line r r' d d' s → is_quit line ≡ false
line_goes sent quit line r r' d d' s k = sym k.quit_is ∙ (sent_all sent quit k.ends).1

history_goes : (line text : List ℕ) (log : List Entry) → is_quit line ≡ false → has_quit log ≡ false → has_quit (Line line text ∷ log) ≡ false
history_goes line text log goes front = rw goes front

-- the history goes on behind the line
pub quits_not : (sent : Sent) (quit : Bool) (line : List ℕ) (r r' : Reader) (d d' : Desk) (s : Option Ending) → GoesOn sent quit line r r' d d' s → has_quit d'.log ≡ false
quits_not sent quit line r r' d d' s k =
    let live : IsLive (record { reader = r; desk = d; ending = s }) = k.lined.sound.live k.lined.was in
    ap has_quit (log_lined sent quit line r r' d d' s k) ∙ history_goes line k.lined.lined.text d.log (line_goes sent quit line r r' d d' s k) live.goes_on

due_in_pad : (pad : Bool) (line text : List ℕ) (log : List Entry) → pad ≡ true → is_quit line ≡ false → pause_is_due pad (Line line text ∷ log) ≡ true
due_in_pad true line text log is goes = ap not goes
due_in_pad false line text log is goes = absurd cc

fits_pause : (o : Opening) (line text : List ℕ) (log : List Entry) → o.pad ≡ true → is_quit line ≡ false → has_quit log ≡ false → (after o log).wait ≡ None → Fits o (Line line text ∷ log) Pause
fits_pause o line text log pad goes front closed = record {
  goes_on = history_goes line text log goes front;
  may = (wait_of_pad o line text (after o log) pad ∙ closed, due_in_pad o.pad line text log pad goes);
}

-- in `pad` the pause may follow the line
pub may_pause : (sent : Sent) (quit : Bool) (line : List ℕ) (r r' : Reader) (d d' : Desk) (s : Option Ending) → GoesOn sent quit line r r' d d' s → d'.opening.pad ≡ true → Fits d'.opening d'.log Pause
may_pause sent quit line r r' d d' s k pad =
    let live : IsLive (record { reader = r; desk = d; ending = s }) = k.lined.sound.live k.lined.was in
    let opening : d'.opening ≡ d.opening = k.lined.lined.noted.opening in
    let fits : Fits d.opening (Line line k.lined.lined.text ∷ d.log) Pause =
    fits_pause d.opening line k.lined.lined.text d.log (ap (λ (o : Opening). o.pad) (sym opening) ∙ pad) (line_goes sent quit line r r' d d' s k) live.goes_on k.lined.closed in
    subst (λ (o : Opening). Fits o d'.log Pause) (sym opening) (subst (λ (l : List Entry). Fits d.opening l Pause) (sym (log_lined sent quit line r r' d d' s k)) fits)

not_over_going : (sent : Sent) (quit : Bool) (line : List ℕ) (r r' : Reader) (d d' : Desk) (s : Option Ending) → GoesOn sent quit line r r' d d' s → IsOver d'.opening.pad r'.got r'.ended d'.log → ⊥
not_over_going sent quit line r r' d d' s k over =
    not_over_entry d.opening.pad r'.got r'.ended (Line line k.lined.lined.text ∷ d.log) (line_goes sent quit line r r' d d' s k) refl
    (over_of d d' r'.got r'.ended (Line line k.lined.lined.text ∷ d.log) k.lined.lined.noted.opening (log_lined sent quit line r r' d d' s k) over)

due_behind : (pad : Bool) (x : Answer) (line text : List ℕ) (log : List Entry) → pad ≡ false → line_is_due pad log ≡ true → line_is_due pad (Act 1 x ∷ Line line text ∷ log) ≡ true
due_behind true x line text log bench due = absurd cc
due_behind false x line text log bench due = due

due_line : (pad : Bool) (line text : List ℕ) (log : List Entry) → pad ≡ false → line_is_due pad log ≡ true → line_is_due pad (Line line text ∷ log) ≡ true
due_line true line text log bench due = absurd cc
due_line false line text log bench due = due

due_unpaused : (pad : Bool) (log : List Entry) → pad ≡ false → line_is_due pad log ≡ true → has_pause log ≡ true → ⊥
due_unpaused true log bench due paused = cc
due_unpaused false log bench due paused = absurd (let no : not true ≡ true = ap not (sym paused) ∙ due in cc)

-- what holds behind the pause of a line of `pad`
live_paused : (line text : List ℕ) (r' : Reader) (d d' : Desk) (s' : Option Ending) → IsReading r' (Line line text ∷ d.log) → has_quit (Line line text ∷ d.log) ≡ false → d.opening.pad ≡ true
    → IsLive (record { reader = r'; desk = desk_of d.opening (Pause ∷ Line line text ∷ d.log) d'; ending = s' })
live_paused line text r' d d' s' reading goes pad = record {
  reading = reading;
  goes_on = goes;
  due = λ is. absurd cc;
  turn = λ is. absurd cc;
  padding = λ is. record { rested = λ h. absurd cc; quiet = λ h. absurd cc; more = λ ended quiet. absurd cc };
  closing = λ bench paused. absurd (cc (bench, pad));
}

-- what holds behind a line of `bench` and the act that follows it
live_acted : (x : Answer) (line text : List ℕ) (r' : Reader) (d d' : Desk) (s' : Option Ending) → IsReading r' (Line line text ∷ d.log) → has_quit (Line line text ∷ d.log) ≡ false
    → d.opening.pad ≡ false → line_is_due d.opening.pad d.log ≡ true → IsLive (record { reader = r'; desk = desk_of d.opening (Act 1 x ∷ Line line text ∷ d.log) d'; ending = s' })
live_acted x line text r' d d' s' reading goes bench due = record {
  reading = reading;
  goes_on = goes;
  due = λ is. due_behind d.opening.pad x line text d.log bench due;
  turn = λ is could lasts. refl;
  padding = λ is. absurd (cc (bench, is));
  closing = λ is paused. absurd (due_unpaused d.opening.pad d.log bench due paused);
}

-- what holds behind a line of `bench` where nothing can act
live_lined : (line text : List ℕ) (r' : Reader) (d d' : Desk) (s' : Option Ending) → IsReading r' (Line line text ∷ d.log) → has_quit (Line line text ∷ d.log) ≡ false
    → d.opening.pad ≡ false → line_is_due d.opening.pad d.log ≡ true → IsRested d.opening (after d.opening (Line line text ∷ d.log)).world → IsLive (record { reader = r'; desk = desk_of d.opening (Line line text ∷ d.log) d'; ending = s' })
live_lined line text r' d d' s' reading goes bench due rested = record {
  reading = reading;
  goes_on = goes;
  due = λ is. due_line d.opening.pad line text d.log bench due;
  turn = λ is. turn_rested d.opening line text d.log rested;
  padding = λ is. absurd (cc (bench, is));
  closing = λ is paused. absurd (due_unpaused d.opening.pad d.log bench due paused);
}

-- what is known once the pause or the first act behind the line is done, where there is one
pub record Followed (followed sent : Sent) (quit : Bool) (line : List ℕ) (r r' : Reader) (d d' d'' : Desk) (s : Option Ending) : Type 0 where
  pub going : GoesOn sent quit line r r' d d' s
  pub follows : HasFollowed d'.opening.pad followed d' d''

-- the entry that follows leaves the session sound
sound_entry : (followed sent : Sent) (entry : Entry) (quit : Bool) (line : List ℕ) (r r' : Reader) (d d' d'' : Desk) (s : Option Ending) (k : GoesOn sent quit line r r' d d' s) → HasNoted followed entry d' d''
    → lines (entry ∷ d'.log) ≡ lines d'.log → ends_by_quit (entry ∷ d'.log) ≡ false → is_quiet (entry ∷ d'.log) ≡ false
    → IsLive (record { reader = r'; desk = desk_of d.opening (entry ∷ Line line k.lined.lined.text ∷ d.log) d''; ending = None }) → IsSound (record { reader = r'; desk = d''; ending = ending_after followed })
sound_entry followed sent entry quit line r r' d d' d'' s k n same goes loud live =
    sound_noted followed entry r' d' d'' n same goes loud (prefix_lined sent line r r' d d' s k.lined) (short_lined sent line r r' d d' s k.lined) (not_over_going sent quit line r r' d d' s k)
    (λ all. live_of r' d'' None d.opening (entry ∷ Line line k.lined.lined.text ∷ d.log) (n.opening ∙ k.lined.lined.noted.opening)
    ((n.all all).0 ∙ ap (λ (l : List Entry). entry ∷ l) (log_lined sent quit line r r' d d' s k)) live)

sound_still : (followed sent : Sent) (quit : Bool) (line : List ℕ) (r r' : Reader) (d d' d'' : Desk) (s : Option Ending) (k : GoesOn sent quit line r r' d d' s) → (followed ≡ Failed → ⊥)
    → (followed ≡ All → IsLive (record { reader = r'; desk = desk_of d.opening (Line line k.lined.lined.text ∷ d.log) d'; ending = None })) → IsSound (record { reader = r'; desk = d'; ending = ending_after followed })
sound_still All sent quit line r r' d d' d'' s k kept live = record {
  live = λ none. live_of r' d' None d.opening (Line line k.lined.lined.text ∷ d.log) k.lined.lined.noted.opening (log_lined sent quit line r r' d d' s k) (live refl);
  prefix = prefix_lined sent line r r' d d' s k.lined;
  complete = λ is. absurd cc;
  only_complete = λ over. absurd (not_over_going sent quit line r r' d d' s k over);
  long = λ is. absurd cc;
  only_long = λ is. absurd (short_lined sent line r r' d d' s k.lined is);
}
sound_still Failed sent quit line r r' d d' d'' s k kept live = absurd (kept refl)
sound_still NoMemory sent quit line r r' d d' d'' s k kept live =
    sound_cut r' d' _ (inr refl) (prefix_lined sent line r r' d d' s k.lined) (short_lined sent line r r' d d' s k.lined) (not_over_going sent quit line r r' d d' s k)

sound_by : (pad : Bool) (followed sent : Sent) (quit : Bool) (line : List ℕ) (r r' : Reader) (d d' d'' : Desk) (s : Option Ending) → GoesOn sent quit line r r' d d' s → d'.opening.pad ≡ pad → HasFollowed pad followed d' d''
    → IsSound (record { reader = r'; desk = d''; ending = ending_after followed })
sound_by true followed sent quit line r r' d d' d'' s k is n =
    let live : IsLive (record { reader = r; desk = d; ending = s }) = k.lined.sound.live k.lined.was in
    let pad : d.opening.pad ≡ true = ap (λ (o : Opening). o.pad) (sym k.lined.lined.noted.opening) ∙ is in
    sound_entry followed sent Pause quit line r r' d d' d'' s k n refl refl refl
    (live_paused line k.lined.lined.text r' d d'' None (reading_lined sent line r r' d d' s k.lined) (history_goes line k.lined.lined.text d.log (line_goes sent quit line r r' d d' s k) live.goes_on) pad)
sound_by false followed sent quit line r r' d d' d'' s k is which =
    let live : IsLive (record { reader = r; desk = d; ending = s }) = k.lined.sound.live k.lined.was in
    let bench : d.opening.pad ≡ false = ap (λ (o : Opening). o.pad) (sym k.lined.lined.noted.opening) ∙ is in
    let reading = reading_lined sent line r r' d d' s k.lined in
    let goes = history_goes line k.lined.lined.text d.log (line_goes sent quit line r r' d d' s k) live.goes_on in
    let due : line_is_due d.opening.pad d.log ≡ true = live.due k.lined.closed in
    elim which [
      | inl a ↦ sound_entry followed sent (Act 1 a.reply) quit line r r' d d' d'' s k a.noted refl refl refl (live_acted a.reply line k.lined.lined.text r' d d'' None reading goes bench due)
      | inr h ↦ subst (λ (x : Desk). IsSound (record { reader = r'; desk = x; ending = ending_after followed })) (sym h.same)
          (sound_still followed sent quit line r r' d d' d'' s k h.kept (λ all. live_lined line k.lined.lined.text r' d d' None reading goes bench due
          (subst (λ (x : Desk). IsRested x.opening (world_of x)) (same_desk d' d.opening (Line line k.lined.lined.text ∷ d.log) k.lined.lined.noted.opening (log_lined sent quit line r r' d d' s k)) (h.rested all))))
    ]

pub sound_followed : (followed sent : Sent) (quit : Bool) (line : List ℕ) (r r' : Reader) (d d' d'' : Desk) (s : Option Ending) → Followed followed sent quit line r r' d d' d'' s
    → IsSound (record { reader = r'; desk = d''; ending = ending_after followed })
sound_followed followed sent quit line r r' d d' d'' s k = sound_by d'.opening.pad followed sent quit line r r' d d' d'' s k.going refl k.follows

goes_still : (followed : Sent) (r : Reader) (d d' : Desk) → HasRested followed d d' → Goes (record { reader = r; desk = d; ending = None }) (record { reader = r; desk = d'; ending = ending_after followed })
goes_still All r d d' h = subst (λ (x : Desk). Goes (record { reader = r; desk = d; ending = None }) (record { reader = r; desk = x; ending = None })) (sym h.same) (goes_same _)
goes_still Failed r d d' h = absurd (h.kept refl)
goes_still NoMemory r d d' h =
    subst (λ (x : Desk). Goes (record { reader = r; desk = d; ending = None }) (record { reader = r; desk = x; ending = Some ending.NoMemory })) (sym h.same)
    (record { stands = λ start k. stands_given_up _ _ start refl refl k; grows = ([], refl) })

goes_by : (pad : Bool) (followed : Sent) (r : Reader) (d d' : Desk) → HasFollowed pad followed d d' → Goes (record { reader = r; desk = d; ending = None }) (record { reader = r; desk = d'; ending = ending_after followed })
goes_by true followed r d d' n = goes_noted followed Pause r d d' None refl n
goes_by false followed r d d' which = elim which [ inl a ↦ goes_noted followed (Act 1 a.reply) r d d' None refl a.noted | inr h ↦ goes_still followed r d d' h ]

pub goes_followed : (followed sent : Sent) (quit : Bool) (line : List ℕ) (r r' : Reader) (d d' d'' : Desk) (s : Option Ending) → Followed followed sent quit line r r' d d' d'' s
    → Goes (record { reader = r; desk = d; ending = s }) (record { reader = r'; desk = d''; ending = ending_after followed })
goes_followed followed sent quit line r r' d d' d'' s k =
    goes_on _ (record { reader = r'; desk = d'; ending = None }) _
    (goes_line sent line r r' d d' s None k.going.lined (inl ((sent_all sent quit k.going.ends).0, inl refl)))
    (goes_by d'.opening.pad followed r' d' d'' k.follows)

one_at_most : (wait : Option Wait) → turns_of_wait wait ≤ 1
one_at_most None = omega arith
one_at_most (Some wait) = omega arith

-- a line that is taken leaves less to do, whatever wait it opens
falls_taken : (line : List ℕ) (r r' : Reader) (d d' : Desk) (s s' : Option Ending) (log : List Entry) → TakesLine line r r' → (world_of d).acts ≤ (after d.opening log).world.acts
    → turns_of_pause d.opening.pad log ≤ turns_of_pause d.opening.pad d.log → todo (record { reader = r'; desk = desk_of d.opening log d'; ending = s' }) < todo (record { reader = r; desk = d; ending = s })
falls_taken line r r' d d' s s' log takes acts pauses =
    let same = taken_source line r r' takes in
    let got : length r'.got ≡ length r.got = ap length same.got in
    let shorter = takes.shorter in
    let one = one_at_most (after d.opening log).wait in
    rw same.ended (omega arith)

pauses_paused : (pad : Bool) (line text : List ℕ) (log : List Entry) → turns_of_pause pad (Pause ∷ Line line text ∷ log) ≤ turns_of_pause pad log
pauses_paused true line text log = omega arith
pauses_paused false line text log = omega arith

pauses_acted : (pad : Bool) (x : Answer) (line text : List ℕ) (log : List Entry) → turns_of_pause pad (Act 1 x ∷ Line line text ∷ log) ≤ turns_of_pause pad log
pauses_acted true x line text log = omega arith
pauses_acted false x line text log = omega arith

pauses_lined : (pad : Bool) (line text : List ℕ) (log : List Entry) → turns_of_pause pad (Line line text ∷ log) ≤ turns_of_pause pad log
pauses_lined true line text log = omega arith
pauses_lined false line text log = omega arith

falls_entry : (followed sent : Sent) (entry : Entry) (quit : Bool) (line : List ℕ) (r r' : Reader) (d d' d'' : Desk) (s : Option Ending) (k : GoesOn sent quit line r r' d d' s) → HasNoted followed entry d' d'' → followed ≡ All
    → (world_of d).acts ≤ (after d.opening (entry ∷ Line line k.lined.lined.text ∷ d.log)).world.acts
    → turns_of_pause d.opening.pad (entry ∷ Line line k.lined.lined.text ∷ d.log) ≤ turns_of_pause d.opening.pad d.log
    → todo (record { reader = r'; desk = d''; ending = ending_after followed }) < todo (record { reader = r; desk = d; ending = s })
falls_entry followed sent entry quit line r r' d d' d'' s k n all acts pauses =
    todo_of r' d'' (ending_after followed) d.opening (entry ∷ Line line k.lined.lined.text ∷ d.log) _ (n.opening ∙ k.lined.lined.noted.opening)
    ((n.all all).0 ∙ ap (λ (l : List Entry). entry ∷ l) (log_lined sent quit line r r' d d' s k)) (falls_taken line r r' d d'' s (ending_after followed) (entry ∷ Line line k.lined.lined.text ∷ d.log) k.lined.takes acts pauses)

all_of : (answer : Sent) → ending_after answer ≡ None → answer ≡ All
all_of All none = refl
all_of Failed none = absurd cc
all_of NoMemory none = absurd cc

falls_by : (pad : Bool) (followed sent : Sent) (quit : Bool) (line : List ℕ) (r r' : Reader) (d d' d'' : Desk) (s : Option Ending) → GoesOn sent quit line r r' d d' s → HasFollowed pad followed d' d'' → followed ≡ All
    → todo (record { reader = r'; desk = d''; ending = ending_after followed }) < todo (record { reader = r; desk = d; ending = s })
falls_by true followed sent quit line r r' d d' d'' s k n all =
    let acts = acts_line d.opening line k.lined.lined.text (after d.opening d.log) in
    falls_entry followed sent Pause quit line r r' d d' d'' s k n all (omega arith) (pauses_paused d.opening.pad line k.lined.lined.text d.log)
falls_by false followed sent quit line r r' d d' d'' s k which all =
    let acts = acts_line d.opening line k.lined.lined.text (after d.opening d.log) in
    elim which [
      | inl a ↦ falls_entry followed sent (Act 1 a.reply) quit line r r' d d' d'' s k a.noted all (omega arith) (pauses_acted d.opening.pad a.reply line k.lined.lined.text d.log)
      | inr h ↦ todo_of r' d'' (ending_after followed) d.opening (Line line k.lined.lined.text ∷ d.log) _ (ap (λ (x : Desk). x.opening) h.same ∙ k.lined.lined.noted.opening)
          (ap (λ (x : Desk). x.log) h.same ∙ log_lined sent quit line r r' d d' s k)
          (falls_taken line r r' d d'' s (ending_after followed) (Line line k.lined.lined.text ∷ d.log) k.lined.takes (omega arith) (pauses_lined d.opening.pad line k.lined.lined.text d.log))
    ]

pub falls_followed : (followed sent : Sent) (quit : Bool) (line : List ℕ) (r r' : Reader) (d d' d'' : Desk) (s : Option Ending) → Followed followed sent quit line r r' d d' d'' s → ending_after followed ≡ None
    → todo (record { reader = r'; desk = d''; ending = ending_after followed }) < todo (record { reader = r; desk = d; ending = s })
falls_followed followed sent quit line r r' d d' d'' s k none = falls_by d'.opening.pad followed sent quit line r r' d d' d'' s k.going k.follows (all_of followed none)
