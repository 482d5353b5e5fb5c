-- When all is over.
use Rattle.std.proofs.Common.{◌≡◌, ◌<◌, ◌+◌, ℕ, length, List, [], ◌∷◌, ◌++◌, Bool, true, false, if◌then◌else◌, Option, Some, None, inl, inr, ap, sym, ◌∙◌, refl, subst, arith, length-append}
use Rattle.std.proofs.lemmas.List.{append-nil}
use Rattle.bj_core.specs.declared.entry.Entry.{Entry}
use Rattle.bj_core.specs.declared.entry.Entry.TheVariants.{Line, Woke}
use Rattle.bj_core.specs.declared.entry.Reason.{Reason}
use Rattle.bj_history.specs.declared.opening.Opening.{Opening}
use Rattle.bj_say.specs.declared.wait.Wait.{Wait}
use Rattle.bj_say.specs.declared.wait.Wait.TheVariants.{Silent, Told}
use Rattle.bj_say.specs.Events.{woke_event}
use Rattle.bj_history.specs.History.{after, lines, has_quit, has_pause}
use Rattle.bj_command.specs.Items.{items, items_from, line_then, without_cr, is_lf}
use Rattle.bj_command.specs.Words.{is_quit}
use Rattle.bj_stream.specs.Reading.{Reader, MayStill}
use Rattle.bj_session.specs.Desk.{Desk, HasNoted, is_last}
use Rattle.bj_session.specs.Session.{Session, IsSound, IsOver, IsReading, still, ends_by_quit, is_quiet, is_woken, is_closed}
use Rattle.bj_stream.specs.declared.sending.Sent.{Sent}
use Rattle.bj_session.proofs.Histories.{silent_in_pad}

some_if : (b : Bool) (xs ys : List (List ℕ)) → 0 < length xs → 0 < length ys → 0 < length (if b then xs else ys)
some_if true xs ys h k = h
some_if false xs ys h k = k

pub some_then : (line : List ℕ) (more : List (List ℕ)) → 0 < length (line_then line more)
some_then line more = some_if (is_quit line) (line ∷ []) (line ∷ more) (omega arith) (omega arith)

-- bytes that have ended and are not all taken have a line
items_some : (begun xs : List ℕ) → 0 < length begun + length xs → 0 < length (items_from begun xs true)
items_some [] [] h = absurd (omega arith)
items_some (b ∷ bs) [] h = omega arith
items_some begun (x ∷ xs) h =
    some_if (is_lf x) (line_then (without_cr begun) (items_from [] xs true)) (items_from (begun ++ x ∷ []) xs true)
    (some_then (without_cr begun) (items_from [] xs true))
    (items_some (begun ++ x ∷ []) xs (omega (arith, length-append begun (x ∷ []))))

pub ends_has : (log : List Entry) → ends_by_quit log ≡ true → has_quit log ≡ true
ends_has [] h = absurd cc
ends_has (Line bytes text ∷ front) h = rw h refl
ends_has (e ∷ front) h = absurd cc

-- with a rest that has ended, not all is read
pub not_all_read : (r : Reader) (log : List Entry) → IsReading r log → has_quit log ≡ false → r.ended ≡ true → 0 < length r.rest → lines log ≡ items r.got true → ⊥
not_all_read r log reading goes ended some all =
    let may : MayStill r.ended [] true = subst (λ (b : Bool). MayStill b [] true) (sym ended) (refl, refl) in
    let whole : items (r.got ++ []) true ≡ lines log ++ still log (r.rest ++ []) true = reading [] true may in
    let got : items (r.got ++ []) true ≡ items r.got true = ap (λ xs. items xs true) (append-nil r.got) in
    let rest : still log (r.rest ++ []) true ≡ items r.rest true = rw (goes, append-nil r.rest) refl in
    let joined : items r.got true ≡ lines log ++ items r.rest true = sym got ∙ (whole ∙ ap (λ xs. lines log ++ xs) rest) in
    let sizes : length (lines log) ≡ length (lines log) + length (items r.rest true) = ap length (all ∙ joined) ∙ length-append (lines log) (items r.rest true) in
    let more : 0 < length (items r.rest true) = items_some [] r.rest (omega arith) in
    omega arith

pub if_true : (b c : Bool) → (if b then c else false) ≡ true → (b ≡ true) × (c ≡ true)
if_true true c h = (refl, h)
if_true false c h = absurd cc

woken_quiet : (log : List Entry) → is_woken log ≡ true → is_quiet log ≡ true
woken_quiet [] h = absurd cc
woken_quiet (Woke reason ∷ front) h = refl
woken_quiet (e ∷ front) h = absurd cc

-- where the last wait is over, no other has begun
pub closed_quiet : (pad : Bool) (log : List Entry) → is_closed pad log ≡ true → is_quiet log ≡ true
closed_quiet true log closed = closed
closed_quiet false log closed = woken_quiet log (if_true (has_pause log) (is_woken log) closed).1

-- without a pause, all can be over in `pad` alone
pub closed_in_pad : (pad : Bool) (log : List Entry) → is_closed pad log ≡ true → (pad ≡ false → has_pause log ≡ true → ⊥) → pad ≡ true
closed_in_pad true log closed unpaused = refl
closed_in_pad false log closed unpaused = absurd (unpaused refl (if_true (has_pause log) (is_woken log) closed).0)

-- the end of a wait with which all may be over closes the history
pub closed_woken : (pad : Bool) (wait : Option Wait) (reason : Reason) (log : List Entry) → (wait ≡ Some Silent → has_pause log ≡ true) → is_last pad wait ≡ true → is_closed pad (Woke reason ∷ log) ≡ true
closed_woken true wait reason log paused last = refl
closed_woken false None reason log paused last = absurd cc
closed_woken false (Some Silent) reason log paused last = ap (λ (b : Bool). if b then true else false) (paused refl)
closed_woken false (Some Told) reason log paused last = absurd cc

-- and no other does
pub last_closed : (pad : Bool) (wait : Option Wait) (reason : Reason) (log : List Entry) → (pad ≡ false → has_pause log ≡ true → wait ≡ Some Silent) → is_closed pad (Woke reason ∷ log) ≡ true → is_last pad wait ≡ true
last_closed true wait reason log silent closed = refl
last_closed false wait reason log silent closed = ap (λ (w : Option Wait). is_last false w) (silent refl (if_true (has_pause log) true closed).0)

silent_by : (o : Opening) (log : List Entry) (reason : Reason) (pad : Bool) → o.pad ≡ pad → (pad ≡ false → has_pause log ≡ true → (after o log).wait ≡ Some Silent) → is_closed pad (Woke reason ∷ log) ≡ true
    → woke_event (after o log).wait reason ≡ []
silent_by o log reason true is silent closed = silent_in_pad o log reason is
silent_by o log reason false is silent closed = ap (λ (w : Option Wait). woke_event w reason) (silent refl (if_true (has_pause log) true closed).0)

-- the end of the last wait prints nothing
pub silent_closed : (o : Opening) (log : List Entry) (reason : Reason) → (o.pad ≡ false → has_pause log ≡ true → (after o log).wait ≡ Some Silent) → is_closed o.pad (Woke reason ∷ log) ≡ true
    → woke_event (after o log).wait reason ≡ []
silent_closed o log reason silent closed = silent_by o log reason o.pad refl silent closed

pub old_not_over : (v : Session) → IsSound v → v.ending ≡ None → IsOver v.desk.opening.pad v.reader.got v.reader.ended v.desk.log → ⊥
old_not_over v sound none over = cc (sound.only_complete over, none)

-- all is over of a desk exactly where it is so of its opening and its log
pub over_of : (d d' : Desk) (got : List ℕ) (ended : Bool) (log : List Entry) → d'.opening ≡ d.opening → d'.log ≡ log → IsOver d'.opening.pad got ended d'.log → IsOver d.opening.pad got ended log
over_of d d' got ended log opening grown over =
    subst (λ (o : Opening). IsOver o.pad got ended log) opening (subst (λ (l : List Entry). IsOver d'.opening.pad got ended l) grown over)

-- an entry that ends nothing
pub not_over_entry : (pad : Bool) (got : List ℕ) (ended : Bool) (log : List Entry) → ends_by_quit log ≡ false → is_quiet log ≡ false → IsOver pad got ended log → ⊥
not_over_entry pad got ended log goes loud over = elim over [ inl q ↦ cc (q, goes) | inr all ↦ cc (closed_quiet pad log all.2, loud) ]

pub not_over_noted : (answer : Sent) (entry : Entry) (r : Reader) (d d' : Desk) → HasNoted answer entry d d' → ends_by_quit (entry ∷ d.log) ≡ false → is_quiet (entry ∷ d.log) ≡ false
    → (IsOver d.opening.pad r.got r.ended d.log → ⊥) → IsOver d'.opening.pad r.got r.ended d'.log → ⊥
not_over_noted answer entry r d d' n goes loud not_yet over = elim n.log [
  | inl is ↦ not_over_entry d.opening.pad r.got r.ended (entry ∷ d.log) goes loud (over_of d d' r.got r.ended (entry ∷ d.log) n.opening is over)
  | inr is ↦ not_yet (over_of d d' r.got r.ended d.log n.opening is over)
]
