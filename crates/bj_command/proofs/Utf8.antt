-- Whether bytes are UTF-8.
use Rattle.std.proofs.Common.{◌≡◌, ◌+◌, ℕ, Bool, true, false, List, Some, None, refl}
use Rattle.std.specs.Str.{is_utf8, IsUtf8}
use Rattle.std.specs.Str.Lossy.{utf8_valid_len}
use Rattle.std.proofs.lemmas.Str.{IsUtf8-from_is_utf8, is_utf8-from_IsUtf8}
use Rattle.bj_command.specs.Words.{utf8_fault}

pub no_fault : (line : List ℕ) → IsUtf8 line → None ≡ utf8_fault line
no_fault line utf8 = rw (is_utf8-from_IsUtf8 line utf8) refl

not_utf8 : (line : List ℕ) (b : Bool) → is_utf8 line ≡ b → ¬ (IsUtf8 line) → is_utf8 line ≡ false
not_utf8 line true e none = absurd (none (IsUtf8-from_is_utf8 line e))
not_utf8 line false e none = e

pub fault_at : (line : List ℕ) → ¬ (IsUtf8 line) → Some (utf8_valid_len line + 1) ≡ utf8_fault line
fault_at line none = rw (not_utf8 line (is_utf8 line) refl none) refl
