-- Names and the words that they may be.
use Rattle.std.specs.Prelude.{ℕ, Bool, List}
use Rattle.std.specs.List.{list_any}
use Rattle.std.specs.Str.{bytes_eq}

-- whether a name is one of some words
abbrev pub is_one_of : List (List ℕ) → List ℕ → Bool
is_one_of words name = list_any (bytes_eq name) words
