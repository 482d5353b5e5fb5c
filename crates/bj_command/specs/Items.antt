-- How the bytes of the input are cut into lines.
use Rattle.std.specs.Prelude.{ℕ, ◌≡◌, ◌+◌, ◌-◌, ◌==◌, Bool, if◌then◌else◌, length, take, slice_index, List, [], ◌∷◌, ◌++◌}
use Rattle.bj_command.specs.Words.{is_quit}

-- a line ends at LF
abbrev pub is_lf : ℕ → Bool
is_lf byte = byte == 10

-- one CR at the end is dropped
abbrev pub without_cr : List ℕ → List ℕ
without_cr line = if slice_index line (length line - 1) == 13 then take (length line - 1) line else line

-- a last line without LF counts where the bytes have ended
abbrev pub last_line : List ℕ → Bool → List (List ℕ)
last_line [] ended = []
last_line (b ∷ bs) ended = if ended then (b ∷ bs) ∷ [] else []

-- a line, and those behind it, unless it is `quit`
abbrev pub line_then : List ℕ → List (List ℕ) → List (List ℕ)
line_then line more = if is_quit line then line ∷ [] else line ∷ more

-- the lines of these bytes, where one has begun
abbrev pub items_from : List ℕ → List ℕ → Bool → List (List ℕ)
items_from begun [] ended = last_line begun ended
items_from begun (b ∷ bs) ended =
    if is_lf b then line_then (without_cr begun) (items_from [] bs ended) else items_from (begun ++ b ∷ []) bs ended

-- the lines of these bytes, up to the first `quit`
abbrev pub items : List ℕ → Bool → List (List ℕ)
items bytes ended = items_from [] bytes ended

-- xs begins ys
abbrev pub IsPrefixOf : {A : Type 0} → List A → List A → Type 0
IsPrefixOf {A} xs ys = (rest : List A) × (xs ++ rest ≡ ys)

-- how many lines have a byte among these: one begins at the first byte, where that is said, and behind each LF
abbrev pub lines_begun : Bool → List ℕ → ℕ
lines_begun first [] = 0
lines_begun first (b ∷ bs) = (if first then 1 else 0) + lines_begun (is_lf b) bs

-- whether the byte behind these would begin a line
abbrev pub begins_line : Bool → List ℕ → Bool
begins_line first [] = first
begins_line first (b ∷ bs) = begins_line (is_lf b) bs
