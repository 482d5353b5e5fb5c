-- The texts of a line's form are no longer than a line may be.
use Rattle.std.proofs.Common.{◌≤◌, ◌==◌, ℕ, Bool, List, length, drop, Option, Some, None, arith}
use Rattle.std.proofs.lemmas.Grind.{common_steps}
use Rattle.std.proofs.lemmas.Bool.Decides.{nat_tests}
use Rattle.std.specs.Prelude.{nat_lt, slice_range, codes}
use Rattle.std.specs.Str.{bytes_eq}
use Rattle.bj_command.specs.Words.{IsShort, pad_form, quit_form, new_form, call_form, inspect_form, wait_form, bench_form, named_form, form_at, form_behind, form_in, next_word, word_end, utf8_fault}
use Rattle.bj_command.proofs.Forms.{if_case}

-- what stands behind a place of a line is no longer than the line
rest_short : (line : List ℕ) (place : ℕ) → length line ≤ 65536 → length (drop place line) ≤ 65536
rest_short line place few = grind (arith, common_steps)

-- each form in turn, of a line that is no longer than it may be
short_pad : (line : List ℕ) (place : ℕ) → length line ≤ 65536 → IsShort (pad_form line place)
short_pad line place few = if_case IsShort (place == length line) _ _ (λ h. tt) (λ h. rest_short line place few)

short_quit : (line : List ℕ) (place : ℕ) → IsShort (quit_form line place)
short_quit line place = if_case IsShort (place == length line) _ _ (λ h. tt) (λ h. tt)

short_new : (line : List ℕ) (place : ℕ) → length line ≤ 65536 → IsShort (new_form line place)
short_new line place few =
    if_case IsShort (place == length line) _ _ (λ h. tt)
    (λ h. if_case IsShort (next_word line (word_end line place) == length line) _ _ (λ k. tt) (λ k. rest_short line (next_word line (word_end line place)) few))

short_call : (line : List ℕ) (place : ℕ) → length line ≤ 65536 → IsShort (call_form line place)
short_call line place few = if_case IsShort (place == length line) _ _ (λ h. tt) (λ h. rest_short line place few)

short_inspect : (line : List ℕ) (place : ℕ) → IsShort (inspect_form line place)
short_inspect line place =
    if_case IsShort (place == length line) _ _ (λ h. tt)
    (λ h. if_case IsShort (next_word line (word_end line place) == length line) _ _ (λ k. tt) (λ k. tt))

short_wait : (line : List ℕ) (place : ℕ) → IsShort (wait_form line place)
short_wait line place = if_case IsShort (place == length line) _ _ (λ h. tt) (λ h. tt)

short_bench : (line : List ℕ) (start stop : ℕ) → length line ≤ 65536 → IsShort (bench_form line start stop)
short_bench line start stop few =
    if_case IsShort (bytes_eq (slice_range line start stop) (codes "new")) _ _ (λ h. short_new line (next_word line stop) few)
    (λ h. if_case IsShort (bytes_eq (slice_range line start stop) (codes "call")) _ _ (λ k. short_call line (next_word line stop) few)
    (λ k. if_case IsShort (bytes_eq (slice_range line start stop) (codes "inspect")) _ _ (λ m. short_inspect line (next_word line stop))
    (λ m. if_case IsShort (bytes_eq (slice_range line start stop) (codes "wait")) _ _ (λ n. short_wait line (next_word line stop)) (λ n. tt))))

short_named : (pad : Bool) (line : List ℕ) (start stop : ℕ) → length line ≤ 65536 → IsShort (named_form pad line start stop)
short_named pad line start stop few =
    if_case IsShort (bytes_eq (slice_range line start stop) (codes "pad")) _ _ (λ h. short_pad line (next_word line stop) few)
    (λ h. if_case IsShort (bytes_eq (slice_range line start stop) (codes "quit")) _ _ (λ k. short_quit line (next_word line stop))
    (λ k. if_case IsShort pad _ _ (λ m. tt) (λ m. short_bench line start stop few)))

short_at : (pad : Bool) (line : List ℕ) (start : ℕ) → length line ≤ 65536 → IsShort (form_at pad line start)
short_at pad line start few = if_case IsShort (start == length line) _ _ (λ h. tt) (λ h. short_named pad line start (word_end line start) few)

short_behind : (pad : Bool) (fault : Option ℕ) (line : List ℕ) → length line ≤ 65536 → IsShort (form_behind pad fault line)
short_behind pad None line few = short_at pad line (next_word line 0) few
short_behind pad (Some place) line few = tt

-- the form of any line, since a longer one is bad
pub short_form : (pad : Bool) (line : List ℕ) → IsShort (form_in pad line)
unfolding form_in
short_form pad line = if_case IsShort (nat_lt 65536 (length line)) _ _ (λ h. tt) (λ h. short_behind pad (utf8_fault line) line (grind (arith, nat_tests)))
