-- The forms of the console's lines, and where a line that has none goes wrong.
use Rattle.std.specs.Prelude.{ℕ, ◌≡◌, ◌+◌, ◌==◌, ◌≤◌, nat_lt, Bool, true, false, not, if◌then◌else◌, List, drop, length, slice_range, Option, Some, None, Result, Ok, Err, codes}
use Rattle.std.specs.List.{position_or_len}
use Rattle.std.specs.Str.{bytes_eq, is_utf8}
use Rattle.std.specs.Str.Lossy.{utf8_valid_len}
use Rattle.bj_command.specs.declared.command.Command.{Command}
use Rattle.bj_command.specs.declared.command.Command.TheVariants.{Blank, Pad, New, Call, Inspect, Wait, Unbuilt, Quit}
use Rattle.bj_command.specs.declared.form.Form.{Form}
use Rattle.bj_command.specs.declared.form.Form.TheVariants as form
use Rattle.bj_command.specs.declared.command.LineFault.{LineFault}
use Rattle.bj_command.specs.declared.command.LineFault.TheVariants.{BadLine, NoMemory}

-- words are separated by spaces
abbrev pub is_space : ℕ → Bool
is_space byte = byte == 32

-- where the next word begins behind a place, or the end of the line
abbrev pub next_word : List ℕ → ℕ → ℕ
next_word line place = place + position_or_len (λ byte. not (is_space byte)) (drop place line)

-- where the word ends that begins at a place
abbrev pub word_end : List ℕ → ℕ → ℕ
word_end line place = place + position_or_len is_space (drop place line)

-- `quit` stands alone
abbrev pub quit_form : List ℕ → ℕ → Result Command LineFault
quit_form line place = if place == length line then Ok Quit else Err (BadLine (place + 1))

-- behind `pad` there is a text, which begins at a place
abbrev pub pad_form : List ℕ → ℕ → Result Command LineFault
pad_form line place = if place == length line then Err (BadLine (length line + 1)) else Ok (Pad (drop place line))

-- behind `new` there are a name, which begins and ends at these places, and a text
abbrev pub new_behind : List ℕ → ℕ → ℕ → Result Command LineFault
new_behind line start stop =
    if next_word line stop == length line then Err (BadLine (length line + 1))
    else Ok (New (slice_range line start stop) (drop (next_word line stop) line))

abbrev pub new_form : List ℕ → ℕ → Result Command LineFault
new_form line place = if place == length line then Err (BadLine (length line + 1)) else new_behind line place (word_end line place)

-- behind `call` there is a text
abbrev pub call_form : List ℕ → ℕ → Result Command LineFault
call_form line place = if place == length line then Err (BadLine (length line + 1)) else Ok (Call (drop place line))

-- behind `inspect` there is a name, which begins and ends at these places, and nothing behind it
abbrev pub inspect_behind : List ℕ → ℕ → ℕ → Result Command LineFault
inspect_behind line start stop =
    if next_word line stop == length line then Ok (Inspect (slice_range line start stop)) else Err (BadLine (next_word line stop + 1))

abbrev pub inspect_form : List ℕ → ℕ → Result Command LineFault
inspect_form line place = if place == length line then Err (BadLine (length line + 1)) else inspect_behind line place (word_end line place)

-- `wait` stands alone; its other forms are not built
abbrev pub wait_form : List ℕ → ℕ → Result Command LineFault
wait_form line place = if place == length line then Ok Wait else Ok Unbuilt

-- the words that `bench` reads beside those of `pad`; the first one begins and ends at these places
abbrev pub bench_form : List ℕ → ℕ → ℕ → Result Command LineFault
bench_form line start stop =
    if bytes_eq (slice_range line start stop) (codes "new") then new_form line (next_word line stop)
    else if bytes_eq (slice_range line start stop) (codes "call") then call_form line (next_word line stop)
    else if bytes_eq (slice_range line start stop) (codes "inspect") then inspect_form line (next_word line stop)
    else if bytes_eq (slice_range line start stop) (codes "wait") then wait_form line (next_word line stop)
    else Err (BadLine (start + 1))

-- the form that the first word names, which begins and ends at these places; in `pad` there are `pad` and `quit` alone
abbrev pub named_form : Bool → List ℕ → ℕ → ℕ → Result Command LineFault
named_form pad line start stop =
    if bytes_eq (slice_range line start stop) (codes "pad") then pad_form line (next_word line stop)
    else if bytes_eq (slice_range line start stop) (codes "quit") then quit_form line (next_word line stop)
    else if pad then Err (BadLine (start + 1))
    else bench_form line start stop

-- the form of a line whose first word begins at a place
abbrev pub form_at : Bool → List ℕ → ℕ → Result Command LineFault
form_at pad line start = if start == length line then Ok Blank else named_form pad line start (word_end line start)

-- the place of the first byte that is no UTF-8
abbrev pub utf8_fault : List ℕ → Option ℕ
utf8_fault line = if is_utf8 line then None else Some (utf8_valid_len line + 1)

abbrev pub form_behind : Bool → Option ℕ → List ℕ → Result Command LineFault
form_behind pad None line = form_at pad line (next_word line 0)
form_behind pad (Some place) line = Err (BadLine place)

-- the form of a line in `pad` or in `bench`, or the place of its fault: its length is tested first, then its bytes, then
-- its words
unfoldable pub form_in : Bool → List ℕ → Result Command LineFault
form_in pad line = if nat_lt 65536 (length line) then Err (BadLine 65537) else form_behind pad (utf8_fault line) line

-- the form of a line in `bench`
abbrev pub form_of : List ℕ → Result Command LineFault
form_of line = form_in false line

-- the line is `quit`
abbrev pub is_quit_form : Result Command LineFault → Bool
is_quit_form (Ok Quit) = true
is_quit_form form = false

abbrev pub is_quit : List ℕ → Bool
is_quit line = is_quit_form (form_of line)

-- reading the line may want memory: its form keeps a name or a text of it
abbrev pub keeps_text : Result Command LineFault → Bool
keeps_text (Ok (Pad text)) = true
keeps_text (Ok (New name text)) = true
keeps_text (Ok (Call text)) = true
keeps_text (Ok (Inspect name)) = true
keeps_text form = false

-- memory may be wanting where the line is read or replied: for all but `quit` and a blank line
abbrev pub takes_memory : Result Command LineFault → Bool
takes_memory (Ok Blank) = false
takes_memory (Ok Quit) = false
takes_memory form = true

-- the answer is the form of the line, or want of memory where reading may want it
abbrev pub IsForm : Result Command LineFault → Result Command LineFault → Type 0
IsForm (Ok command) form = form ≡ Ok command
IsForm (Err (BadLine at)) form = form ≡ Err (BadLine at)
IsForm (Err NoMemory) form = keeps_text form ≡ true

-- the forms that `pad` reads
abbrev pub IsOfPad : Result Command LineFault → Type 0
IsOfPad (Ok Blank) = Unit {0}
IsOfPad (Ok (Pad text)) = Unit {0}
IsOfPad (Ok Quit) = Unit {0}
IsOfPad (Ok command) = ⊥
IsOfPad (Err fault) = Unit {0}

-- the texts of a command are no longer than a line may be
abbrev pub IsShort : Result Command LineFault → Type 0
IsShort (Ok (Pad text)) = length text ≤ 65536
IsShort (Ok (New name text)) = length text ≤ 65536
IsShort (Ok (Call text)) = length text ≤ 65536
IsShort form = Unit {0}

-- a word and the text behind it stand in the line at these places
pub record Stand (line : List ℕ) (start stop text : ℕ) : Type 0 where
  pub ordered : start ≤ stop
  pub within : stop ≤ length line
  pub text_within : text ≤ length line

-- the form with its places is that of the line
abbrev pub HasForm : List ℕ → Result Command LineFault → Form → Type 0
HasForm line whole form.Blank = whole ≡ Ok Blank
HasForm line whole (form.Pad text) = (whole ≡ Ok (Pad (drop text line))) × (text ≤ length line)
HasForm line whole (form.New start stop text) = (whole ≡ Ok (New (slice_range line start stop) (drop text line))) × Stand line start stop text
HasForm line whole (form.Call text) = (whole ≡ Ok (Call (drop text line))) × (text ≤ length line)
HasForm line whole (form.Inspect start stop) = (whole ≡ Ok (Inspect (slice_range line start stop))) × Stand line start stop stop
HasForm line whole form.Wait = whole ≡ Ok Wait
HasForm line whole form.Unbuilt = whole ≡ Ok Unbuilt
HasForm line whole form.Quit = whole ≡ Ok Quit
HasForm line whole (form.Bad at) = whole ≡ Err (BadLine at)
