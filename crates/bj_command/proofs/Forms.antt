-- The form of a line, by the tests that it is read by.
use Rattle.std.proofs.Common.{◌≡◌, ◌==◌, ℕ, Bool, true, false, if◌then◌else◌, List, length, None, Result, refl}
use Rattle.std.specs.Prelude.{nat_lt}
use Rattle.bj_command.specs.declared.command.Command.{Command}
use Rattle.bj_command.specs.declared.command.LineFault.{LineFault}
use Rattle.bj_command.specs.Words.{form_in, named_form, next_word, word_end, utf8_fault}

-- what holds of both forms holds of the one that the test decides for
pub if_case : (P : Result Command LineFault → Type 0) (b : Bool) (x y : Result Command LineFault) → (b ≡ true → P x) → (b ≡ false → P y) → P (if b then x else y)
if_case P true x y f g = f refl
if_case P false x y f g = g refl

-- the form of a line that has a first word
pub form_named : (pad : Bool) (line : List ℕ) → nat_lt 65536 (length line) ≡ false → utf8_fault line ≡ None → (next_word line 0 == length line) ≡ false
    → form_in pad line ≡ named_form pad line (next_word line 0) (word_end line (next_word line 0))
unfolding form_in
form_named pad line short utf8 some = rw (short, utf8, some) refl
