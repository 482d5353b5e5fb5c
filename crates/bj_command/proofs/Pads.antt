-- The forms that are read in `pad`.
use Rattle.std.proofs.Common.{◌==◌, ℕ, true, List, length, Option, Some, None}
use Rattle.std.specs.Prelude.{nat_lt, slice_range, codes}
use Rattle.std.specs.Str.{bytes_eq}
use Rattle.bj_command.specs.Words.{IsOfPad, named_form, form_behind, form_in, next_word, word_end, utf8_fault}
use Rattle.bj_command.proofs.Forms.{if_case}

-- a first word names `pad` or `quit`, or is a fault
named_of_pad : (line : List ℕ) (start stop : ℕ) → IsOfPad (named_form true line start stop)
named_of_pad line start stop =
    if_case IsOfPad (bytes_eq (slice_range line start stop) (codes "pad")) _ _ (λ h. if_case IsOfPad (next_word line stop == length line) _ _ (λ k. tt) (λ k. tt))
    (λ h. if_case IsOfPad (bytes_eq (slice_range line start stop) (codes "quit")) _ _ (λ k. if_case IsOfPad (next_word line stop == length line) _ _ (λ m. tt) (λ m. tt))
    (λ k. tt))

-- a line of UTF-8 is blank or has a first word
behind_of_pad : (fault : Option ℕ) (line : List ℕ) → IsOfPad (form_behind true fault line)
behind_of_pad None line = if_case IsOfPad (next_word line 0 == length line) _ _ (λ h. tt) (λ h. named_of_pad line (next_word line 0) (word_end line (next_word line 0)))
behind_of_pad (Some place) line = tt

-- each line is of a form of `pad` or at fault
pub form_of_pad : (line : List ℕ) → IsOfPad (form_in true line)
unfolding form_in
form_of_pad line = if_case IsOfPad (nat_lt 65536 (length line)) _ _ (λ h. tt) (λ h. behind_of_pad (utf8_fault line) line)
