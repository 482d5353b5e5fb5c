-- What the answers of a source and of a sink count.
use Rattle.std.specs.Prelude.{ℕ, ◌≤◌, ◌<◌, List, [], length, take, Bool, true}
use Rattle.bj_io.specs.declared.traits.Poll.{Poll}
use Rattle.bj_io.specs.declared.traits.Poll.TheVariants.{Got, NotYet, End, Failed}
use Rattle.bj_io.specs.declared.traits.Put.{Put}
use Rattle.bj_io.specs.declared.traits.Put.TheVariants.{Took, Failed as Refused, NoMemory}

-- the bytes that the answer counts
abbrev pub got : Poll → List ℕ → List ℕ
got (Got n) into = take n into
got NotYet into = []
got End into = []
got Failed into = []

abbrev pub FitsGot : Poll → List ℕ → Type 0
FitsGot (Got n) into = (1 ≤ n) × (n ≤ length into)
FitsGot NotYet into = Unit {0}
FitsGot End into = Unit {0}
FitsGot Failed into = Unit {0}

-- an End makes it true, and every other answer leaves it
abbrev pub ended_after : Poll → Bool → Bool
ended_after (Got n) was = was
ended_after NotYet was = was
ended_after End was = true
ended_after Failed was = was

abbrev pub taken : Put → List ℕ → List ℕ
taken (Took n) bytes = take n bytes
taken Refused bytes = []
taken NoMemory bytes = []

-- at least one byte of a piece that is not empty
abbrev pub FitsTook : Put → List ℕ → Type 0
FitsTook (Took n) bytes = (n ≤ length bytes) × (0 < length bytes → 1 ≤ n)
FitsTook Refused bytes = Unit {0}
FitsTook NoMemory bytes = Unit {0}
