-- What an entry keeps of the session.
use Rattle.std.proofs.Common.{◌≡◌, ◌<◌, ℕ, length, List, [], ◌∷◌, ◌++◌, Bool, true, false, Option, Some, None, inl, inr, ap, sym, ◌∙◌, refl, subst, arith}
use Rattle.std.specs.Prelude.{IsSome, not}
use Rattle.bj_core.specs.declared.entry.Entry.{Entry}
use Rattle.bj_core.specs.declared.entry.Entry.TheVariants.{Woke}
use Rattle.bj_core.specs.declared.entry.Reason.{Reason}
use Rattle.bj_history.specs.declared.opening.Opening.{Opening}
use Rattle.bj_say.specs.declared.wait.Wait.{Wait}
use Rattle.bj_say.specs.declared.wait.Wait.TheVariants.{Silent}
use Rattle.bj_history.specs.History.{after, lines, has_pause, line_is_due, Fits, Wakes}
use Rattle.bj_command.specs.Items.{items, IsPrefixOf}
use Rattle.bj_stream.specs.Reading.{Reader, is_too_long}
use Rattle.bj_session.specs.Desk.{Desk, HasNoted, is_last, world_of}
use Rattle.bj_session.specs.Session.{Goes, IsSound, IsOver, IsLive, IsClosing, IsCut, ends_by_quit, is_quiet, is_closed, ending_after, ending_woken}
use Rattle.bj_session.specs.declared.ends.Ending.{Ending}
use Rattle.bj_session.specs.declared.ends.Ending.TheVariants as ending
use Rattle.bj_stream.specs.declared.sending.Sent.{Sent}
use Rattle.bj_stream.specs.declared.sending.Sent.TheVariants.{All, Failed, NoMemory}
use Rattle.bj_history.proofs.Pauses.{silent_pause}
use Rattle.bj_history.proofs.Turns.{turn_before_waking}
use Rattle.bj_session.proofs.Overs.{not_all_read, old_not_over, over_of, not_over_noted, closed_woken, last_closed, silent_closed}
use Rattle.bj_session.proofs.Turns.{rested_by}
use Rattle.bj_session.proofs.Steps.{same_source, not_long, all_read, desk_of, live_of, stands_noted, stands_cut}

-- a session that a put or memory has ended is sound, where its lines are a beginning
pub sound_cut : (r : Reader) (d : Desk) (s : Option Ending) → IsCut s → IsPrefixOf (lines d.log) (items r.got r.ended) → (is_too_long r.got ≡ true → ⊥) → (IsOver d.opening.pad r.got r.ended d.log → ⊥)
    → IsSound (record { reader = r; desk = d; ending = s })
sound_cut r d s cut prefix short not_over = record {
  live = λ is. absurd (elim cut [ inl fault ↦ cc | inr memory ↦ cc ]);
  prefix = prefix;
  complete = λ is. absurd (elim cut [ inl fault ↦ cc | inr memory ↦ cc ]);
  only_complete = λ over. absurd (not_over over);
  long = λ is. absurd (elim cut [ inl fault ↦ cc | inr memory ↦ cc ]);
  only_long = λ is. absurd (short is);
}

-- an entry that is no line leaves the lines
pub prefix_noted : (answer : Sent) (entry : Entry) (r : Reader) (d d' : Desk) → HasNoted answer entry d d' → lines (entry ∷ d.log) ≡ lines d.log → IsPrefixOf (lines d.log) (items r.got r.ended) → IsPrefixOf (lines d'.log) (items r.got r.ended)
prefix_noted answer entry r d d' n same prefix = elim n.log [
  | inl is ↦ subst (λ (ls : List (List ℕ)). IsPrefixOf ls (items r.got r.ended)) (sym (ap lines is ∙ same)) prefix
  | inr is ↦ subst (λ (ls : List (List ℕ)). IsPrefixOf ls (items r.got r.ended)) (sym (ap lines is)) prefix
]

-- an entry that is no line and ends nothing leaves the session sound
pub sound_noted : (answer : Sent) (entry : Entry) (r : Reader) (d d' : Desk) → HasNoted answer entry d d' → lines (entry ∷ d.log) ≡ lines d.log → ends_by_quit (entry ∷ d.log) ≡ false → is_quiet (entry ∷ d.log) ≡ false
    → IsPrefixOf (lines d.log) (items r.got r.ended) → (is_too_long r.got ≡ true → ⊥) → (IsOver d.opening.pad r.got r.ended d.log → ⊥) → (answer ≡ All → IsLive (record { reader = r; desk = d'; ending = None }))
    → IsSound (record { reader = r; desk = d'; ending = ending_after answer })
sound_noted All entry r d d' n same goes loud prefix short not_over live = record {
  live = λ none. live refl;
  prefix = prefix_noted All entry r d d' n same prefix;
  complete = λ is. absurd cc;
  only_complete = λ over. absurd (not_over_noted All entry r d d' n goes loud not_over over);
  long = λ is. absurd cc;
  only_long = λ is. absurd (short is);
}
sound_noted Failed entry r d d' n same goes loud prefix short not_over live = sound_cut r d' _ (inl refl) (prefix_noted Failed entry r d d' n same prefix) short (not_over_noted Failed entry r d d' n goes loud not_over)
sound_noted NoMemory entry r d d' n same goes loud prefix short not_over live = sound_cut r d' _ (inr refl) (prefix_noted NoMemory entry r d d' n same prefix) short (not_over_noted NoMemory entry r d d' n goes loud not_over)

-- the history has grown by the entry, or not
pub grows_noted : (answer : Sent) (entry : Entry) (d d' : Desk) → HasNoted answer entry d d' → (more : List Entry) × (d'.log ≡ more ++ d.log)
grows_noted answer entry d d' n = elim n.log [ inl is ↦ (entry ∷ [], is) | inr is ↦ ([], is) ]

-- an entry that is noted, and may end the session by its piece, keeps each start
pub goes_noted : (answer : Sent) (entry : Entry) (r : Reader) (d d' : Desk) (s : Option Ending) → s ≡ None → HasNoted answer entry d d'
    → Goes (record { reader = r; desk = d; ending = s }) (record { reader = r; desk = d'; ending = ending_after answer })
goes_noted All entry r d d' s was n = record { stands = λ start h. stands_noted entry _ _ start was n (same_source r) (inl refl) h; grows = grows_noted _ _ d d' n }
goes_noted Failed entry r d d' s was n = record { stands = λ start h. stands_cut Failed entry _ _ start was n (same_source r) (λ is. cc) refl h; grows = grows_noted _ _ d d' n }
goes_noted NoMemory entry r d d' s was n = record { stands = λ start h. stands_cut NoMemory entry _ _ start was n (same_source r) (λ is. cc) refl h; grows = grows_noted _ _ d d' n }

-- what is known at the end of a wait
pub record Wakens (answer : Sent) (reason : Reason) (r : Reader) (d d' : Desk) (s : Option Ending) (last over : Bool) : Type 0 where
  pub sound : IsSound (record { reader = r; desk = d; ending = s })
  pub was : s ≡ None
  pub noted : HasNoted answer (Woke reason) d d'
  pub opened : IsSome (after d.opening d.log).wait
  pub wakes : Wakes d.opening (world_of d) reason
  pub last_is : last ≡ is_last d.opening.pad (after d.opening d.log).wait
  pub over_is : over ≡ true → (r.ended ≡ true) × (r.rest ≡ [])
  pub more_is : over ≡ false → r.ended ≡ true → 0 < length r.rest

-- the end of the wait may come
pub may_wake : (r : Reader) (d : Desk) (s : Option Ending) (reason : Reason) → IsSound (record { reader = r; desk = d; ending = s }) → s ≡ None → IsSome (after d.opening d.log).wait → Wakes d.opening (world_of d) reason
    → Fits d.opening d.log (Woke reason)
may_wake r d s reason sound was opened wakes = let live : IsLive (record { reader = r; desk = d; ending = s }) = sound.live was in record { goes_on = live.goes_on; may = (opened, wakes) }

not_by : (b : Bool) → (b ≡ true → ⊥) → not b ≡ true
not_by true h = absurd (h refl)
not_by false h = refl

due_woken : (pad : Bool) (reason : Reason) (log : List Entry) → (pad ≡ false → has_pause log ≡ true → ⊥) → line_is_due pad (Woke reason ∷ log) ≡ true
due_woken true reason log unpaused = refl
due_woken false reason log unpaused = not_by (has_pause log) (unpaused refl)

live_woken : (reason : Reason) (r : Reader) (d d' : Desk) (s s' : Option Ending) → IsLive (record { reader = r; desk = d; ending = s }) → Wakes d.opening (world_of d) reason
    → (d.opening.pad ≡ true → r.ended ≡ true → 0 < length r.rest) → (d.opening.pad ≡ false → has_pause d.log ≡ true → ⊥)
    → IsLive (record { reader = r; desk = desk_of d.opening (Woke reason ∷ d.log) d'; ending = s' })
live_woken reason r d d' s s' live wakes more unpaused = record {
  reading = live.reading;
  goes_on = live.goes_on;
  due = λ is. due_woken d.opening.pad reason d.log unpaused;
  turn = λ is. turn_before_waking d.opening d.log reason wakes;
  padding = λ pad. record { rested = λ is. rested_by d.opening (world_of d) reason wakes; quiet = λ is. refl; more = λ ended quiet. more pad ended };
  closing = λ bench paused. absurd (unpaused bench paused);
}

-- in `bench` the wait behind the pause is silent
silent_of : (r : Reader) (d : Desk) (s : Option Ending) → IsLive (record { reader = r; desk = d; ending = s }) → d.opening.pad ≡ false → has_pause d.log ≡ true → (after d.opening d.log).wait ≡ Some Silent
silent_of r d s live bench paused = let c : IsClosing (record { reader = r; desk = d; ending = s }) = live.closing bench paused in c.waits

-- in `pad` each wait may be the last
last_of_pad : (answer : Sent) (reason : Reason) (r : Reader) (d d' : Desk) (s : Option Ending) (last over : Bool) → Wakens answer reason r d d' s last over → d.opening.pad ≡ true → last ≡ true
last_of_pad answer reason r d d' s last over k pad = k.last_is ∙ ap (λ (b : Bool). is_last b (after d.opening d.log).wait) pad

-- in `bench` the wait behind the pause is the last, and all is read
over_of_pause : (answer : Sent) (reason : Reason) (r : Reader) (d d' : Desk) (s : Option Ending) (last over : Bool) → Wakens answer reason r d d' s last over → (last ≡ true → over ≡ false)
    → d.opening.pad ≡ false → has_pause d.log ≡ true → ⊥
over_of_pause answer reason r d d' s last over k unread bench paused =
    let live : IsLive (record { reader = r; desk = d; ending = s }) = k.sound.live k.was in
    let c : IsClosing (record { reader = r; desk = d; ending = s }) = live.closing bench paused in
    let is : last ≡ true = k.last_is ∙ (ap (λ (b : Bool). is_last b (after d.opening d.log).wait) bench ∙ ap (λ (w : Option Wait). is_last false w) c.waits) in
    let some : 0 < length r.rest = k.more_is (unread is) c.ended in
    let none : length r.rest ≡ 0 = ap length c.done in
    omega arith

sound_woken : (reason : Reason) (r : Reader) (d d' : Desk) (s s' : Option Ending) (last over : Bool) → Wakens All reason r d d' s last over
    → (s' ≡ Some ending.Complete → (last ≡ true) × (over ≡ true)) → (s' ≡ None → last ≡ true → over ≡ false) → (s' ≡ Some ending.TooLong → ⊥)
    → (IsOver d.opening.pad r.got r.ended (Woke reason ∷ d.log) → s' ≡ Some ending.Complete) → IsSound (record { reader = r; desk = d'; ending = s' })
sound_woken reason r d d' s s' last over k complete unread short only_complete =
    let live : IsLive (record { reader = r; desk = d; ending = s }) = k.sound.live k.was in
    let log : d'.log ≡ Woke reason ∷ d.log = (k.noted.all refl).0 in
    record {
      live = λ none. live_of r d' _ d.opening (Woke reason ∷ d.log) k.noted.opening log
          (live_woken reason r d d' s _ live k.wakes
          (λ pad. k.more_is (unread none (last_of_pad All reason r d d' s last over k pad))) (over_of_pause All reason r d d' s last over k (unread none)));
      prefix = prefix_noted All (Woke reason) r d d' k.noted refl k.sound.prefix;
      complete = λ is.
          let both : (last ≡ true) × (over ≡ true) = complete is in
          let o = k.over_is both.1 in
          let closed : is_closed d.opening.pad (Woke reason ∷ d.log) ≡ true =
          closed_woken d.opening.pad (after d.opening d.log).wait reason d.log (silent_pause d.opening d.log) (sym k.last_is ∙ both.0) in
          inr (
            o.0,
            ap lines log ∙ all_read r d.log live.reading live.goes_on o.0 o.1,
            subst (λ (p : Opening). is_closed p.pad d'.log ≡ true) (sym k.noted.opening) (subst (λ (l : List Entry). is_closed d.opening.pad l ≡ true) (sym log) closed),
          );
      only_complete = λ is. only_complete (over_of d d' r.got r.ended (Woke reason ∷ d.log) k.noted.opening log is);
      long = λ is. absurd (short is);
      only_long = λ is. absurd (not_long _ k.sound k.was is);
    }

-- where the wait is not the last, or not all is read, all is not over
not_over_woken : (reason : Reason) (r : Reader) (d d' : Desk) (s : Option Ending) (last over : Bool) → Wakens All reason r d d' s last over → (last ≡ true → over ≡ false) → IsOver d.opening.pad r.got r.ended (Woke reason ∷ d.log) → ⊥
not_over_woken reason r d d' s last over k unread is =
    let live : IsLive (record { reader = r; desk = d; ending = s }) = k.sound.live k.was in
    elim is [
      | inl q ↦ cc (q)
      | inr all ↦ (let l : last ≡ true = k.last_is ∙ last_closed d.opening.pad (after d.opening d.log).wait reason d.log (silent_of r d s live) all.2 in
          not_all_read r d.log live.reading live.goes_on all.0 (k.more_is (unread l) all.0) all.1)
    ]

-- the end of a wait that was cut off is not the last
not_over_cut : (answer : Sent) (reason : Reason) (r : Reader) (d d' : Desk) (s : Option Ending) (last over : Bool) → Wakens answer reason r d d' s last over → (answer ≡ All → ⊥) → IsOver d'.opening.pad r.got r.ended d'.log → ⊥
not_over_cut answer reason r d d' s last over k cut is =
    let live : IsLive (record { reader = r; desk = d; ending = s }) = k.sound.live k.was in
    elim k.noted.log [
      | inl log ↦ (let o : IsOver d.opening.pad r.got r.ended (Woke reason ∷ d.log) = over_of d d' r.got r.ended (Woke reason ∷ d.log) k.noted.opening log is in
          elim o [ inl q ↦ cc (q) | inr all ↦ cut (k.noted.silent log (silent_closed d.opening d.log reason (silent_of r d s live) all.2)) ])
      | inr log ↦ old_not_over _ k.sound k.was (over_of d d' r.got r.ended d.log k.noted.opening log is)
    ]

pub sound_wake : (answer : Sent) (reason : Reason) (r : Reader) (d d' : Desk) (s : Option Ending) (last over : Bool) → Wakens answer reason r d d' s last over
    → IsSound (record { reader = r; desk = d'; ending = ending_woken answer last over })
sound_wake All reason r d d' s true true k = sound_woken reason r d d' s _ true true k (λ is. (refl, refl)) (λ is. absurd cc) (λ is. cc) (λ over. refl)
sound_wake All reason r d d' s true false k = sound_woken reason r d d' s _ true false k (λ is. absurd cc) (λ is l. refl) (λ is. cc) (λ over. absurd (not_over_woken reason r d d' s true false k (λ l. refl) over))
sound_wake All reason r d d' s false over k = sound_woken reason r d d' s _ false over k (λ is. absurd cc) (λ is l. absurd cc) (λ is. cc) (λ o. absurd (not_over_woken reason r d d' s false over k (λ l. absurd cc) o))
sound_wake Failed reason r d d' s last over k = sound_cut r d' _ (inl refl) (prefix_noted Failed (Woke reason) r d d' k.noted refl k.sound.prefix) (not_long _ k.sound k.was) (not_over_cut Failed reason r d d' s last over k (λ is. cc))
sound_wake NoMemory reason r d d' s last over k = sound_cut r d' _ (inr refl) (prefix_noted NoMemory (Woke reason) r d d' k.noted refl k.sound.prefix) (not_long _ k.sound k.was) (not_over_cut NoMemory reason r d d' s last over k (λ is. cc))

pub goes_wake : (answer : Sent) (reason : Reason) (r : Reader) (d d' : Desk) (s : Option Ending) (last over : Bool) → Wakens answer reason r d d' s last over
    → Goes (record { reader = r; desk = d; ending = s }) (record { reader = r; desk = d'; ending = ending_woken answer last over })
goes_wake All reason r d d' s true true k = record { stands = λ start h. stands_noted (Woke reason) _ _ start k.was k.noted (same_source r) (inr refl) h; grows = grows_noted _ _ d d' k.noted }
goes_wake All reason r d d' s true false k = goes_noted All (Woke reason) r d d' s k.was k.noted
goes_wake All reason r d d' s false over k = goes_noted All (Woke reason) r d d' s k.was k.noted
goes_wake Failed reason r d d' s last over k = goes_noted Failed (Woke reason) r d d' s k.was k.noted
goes_wake NoMemory reason r d d' s last over k = goes_noted NoMemory (Woke reason) r d d' s k.was k.noted
