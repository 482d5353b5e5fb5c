-- A line that is `quit` is so in `pad` as in `bench`.
use Rattle.std.proofs.Common.{◌≡◌, ◌==◌, ℕ, Bool, true, false, if◌then◌else◌, List, length, Option, Some, None, Result, Ok, Err, refl, sym, ap, ◌∙◌}
use Rattle.std.specs.Prelude.{nat_lt, slice_range, codes}
use Rattle.std.specs.Str.{bytes_eq}
use Rattle.bj_command.specs.declared.command.Command.{Command}
use Rattle.bj_command.specs.declared.command.Command.TheVariants.{Blank, Pad, New, Call, Inspect, Wait, Unbuilt, Quit}
use Rattle.bj_command.specs.declared.command.LineFault.{LineFault}
use Rattle.bj_command.specs.Words.{is_quit, is_quit_form, new_form, call_form, inspect_form, wait_form, bench_form, named_form, form_behind, form_in, next_word, word_end, utf8_fault}
use Rattle.bj_command.proofs.Forms.{if_case}

-- the form is not `quit`
abbrev IsOther : Result Command LineFault → Type 0
IsOther form = is_quit_form form ≡ false

-- where neither form is `quit`, the one that the test decides for is not
neither_quit : (b : Bool) (x y : Result Command LineFault) → IsOther x → IsOther y → IsOther (if b then x else y)
neither_quit b x y first second = if_case IsOther b x y (λ h. first) (λ h. second)

new_other : (line : List ℕ) (place : ℕ) → IsOther (new_form line place)
new_other line place = neither_quit (place == length line) _ _ refl (neither_quit (next_word line (word_end line place) == length line) _ _ refl refl)

call_other : (line : List ℕ) (place : ℕ) → IsOther (call_form line place)
call_other line place = neither_quit (place == length line) _ _ refl refl

inspect_other : (line : List ℕ) (place : ℕ) → IsOther (inspect_form line place)
inspect_other line place = neither_quit (place == length line) _ _ refl (neither_quit (next_word line (word_end line place) == length line) _ _ refl refl)

wait_other : (line : List ℕ) (place : ℕ) → IsOther (wait_form line place)
wait_other line place = neither_quit (place == length line) _ _ refl refl

-- no line whose first word only `bench` reads is `quit`
bench_other : (line : List ℕ) (start stop : ℕ) → IsOther (bench_form line start stop)
bench_other line start stop =
    neither_quit (bytes_eq (slice_range line start stop) (codes "new")) _ _ (new_other line (next_word line stop))
    (neither_quit (bytes_eq (slice_range line start stop) (codes "call")) _ _ (call_other line (next_word line stop))
    (neither_quit (bytes_eq (slice_range line start stop) (codes "inspect")) _ _ (inspect_other line (next_word line stop))
    (neither_quit (bytes_eq (slice_range line start stop) (codes "wait")) _ _ (wait_other line (next_word line stop)) refl)))

-- both forms are `quit`, or neither
abbrev AreAlike : Result Command LineFault → Result Command LineFault → Type 0
AreAlike left right = is_quit_form left ≡ is_quit_form right

-- one test decides both forms
alike_case : (b : Bool) (x y x' y' : Result Command LineFault) → AreAlike x x' → AreAlike y y' → AreAlike (if b then x else y) (if b then x' else y')
alike_case true x y x' y' first second = first
alike_case false x y x' y' first second = second

-- the first word names `quit` in both, or in neither
named_alike : (pad : Bool) (line : List ℕ) (start stop : ℕ) → AreAlike (named_form pad line start stop) (named_form false line start stop)
named_alike true line start stop =
    alike_case (bytes_eq (slice_range line start stop) (codes "pad")) _ _ _ _ refl
    (alike_case (bytes_eq (slice_range line start stop) (codes "quit")) _ _ _ _ refl (sym (bench_other line start stop)))
named_alike false line start stop = refl

behind_alike : (pad : Bool) (fault : Option ℕ) (line : List ℕ) → AreAlike (form_behind pad fault line) (form_behind false fault line)
behind_alike pad None line = alike_case (next_word line 0 == length line) _ _ _ _ refl (named_alike pad line (next_word line 0) (word_end line (next_word line 0)))
behind_alike pad (Some place) line = refl

-- `pad` and `bench` read the same lines as `quit`
quit_alike : (pad : Bool) (line : List ℕ) → is_quit_form (form_in pad line) ≡ is_quit line
unfolding form_in
quit_alike pad line = alike_case (nat_lt 65536 (length line)) _ _ _ _ refl (behind_alike pad (utf8_fault line) line)

-- `quit` is the one form that the test is true of
only_quit : (form : Result Command LineFault) → is_quit_form form ≡ true → form ≡ Ok Quit
only_quit (Ok Blank) e = absurd cc
only_quit (Ok (Pad text)) e = absurd cc
only_quit (Ok (New name text)) e = absurd cc
only_quit (Ok (Call text)) e = absurd cc
only_quit (Ok (Inspect name)) e = absurd cc
only_quit (Ok Wait) e = absurd cc
only_quit (Ok Unbuilt) e = absurd cc
only_quit (Ok Quit) e = refl
only_quit (Err fault) e = absurd cc

-- `quit` of `bench` is `quit` of both
pub quit_in : (pad : Bool) (line : List ℕ) → is_quit line ≡ true → form_in pad line ≡ Ok Quit
quit_in pad line e = only_quit (form_in pad line) (quit_alike pad line ∙ e)

-- `quit` of one is `quit` of `bench`
pub quit_from : (pad : Bool) (line : List ℕ) → form_in pad line ≡ Ok Quit → is_quit line ≡ true
quit_from pad line e = sym (quit_alike pad line) ∙ ap is_quit_form e
