-- The tokens of a text, as a function.
use Rattle.std.specs.Prelude.{ℕ, suc, ◌+◌, ◌-◌, ◌*◌, Bool, ◌&&◌, ◌||◌, ◌==◌, false, if◌then◌else◌, ◌≤◌, nat_lt, nat_le, List, [], ◌∷◌, ◌++◌, Option, Some, None, pos}
use Rattle.bj_sum.specs.declared.token.Sort.{Sort}
use Rattle.bj_sum.specs.declared.token.Sort.TheVariants as sort
use Rattle.bj_sum.specs.declared.token.Token.{Token}
use Rattle.bj_sum.specs.declared.lex.Numeral.{Numeral}
use Rattle.bj_sum.specs.Lexical.{token, sign_of}

abbrev pub is_digit : ℕ → Bool
is_digit b = nat_le 48 b && nat_le b 57

-- a numeral with one digit more, where it is then a numeral of an int
abbrev pub longer : ℕ → ℕ → Option ℕ
longer n d = if n == 0 then None else if nat_lt 2147483647 (n * 10 + d) then None else Some (n * 10 + d)

abbrev pub is_doubled : ℕ → List ℕ → Bool
is_doubled b [] = false
is_doubled b (c ∷ rest) = (b == c) && ((b == 43) || (b == 45))

abbrev pub numeral : ℕ → ℕ → Numeral
numeral c n = record { column = c; value = n }

abbrev pub literal_of : Numeral → Token
literal_of n = token n.column (sort.Literal (pos n.value))

-- the tokens behind a sign, or none where it is no sign
abbrev pub with_sign : Option Sort → ℕ → List Token → (List Token → Option (List Token)) → Option (List Token)
with_sign None c before go = None
with_sign (Some s) c before go = go (before ++ token c s ∷ [])

-- what stands at a byte that is no digit
abbrev pub apart : List Token → ℕ → ℕ → List ℕ → (List Token → Option (List Token)) → Option (List Token)
apart before c b rest go = if b == 32 then go before else if is_doubled b rest then None else with_sign (sign_of b) c before go

-- the tokens with the numeral that ends there
abbrev pub behind : List Token → Option Numeral → List Token
behind before None = before
behind before (Some n) = before ++ literal_of n ∷ []

abbrev pub at_column : ℕ → Option ℕ → Option Numeral
at_column c None = None
at_column c (Some v) = Some (numeral c v)

-- a numeral with the digit at a column, where it is then a numeral of an int
abbrev pub begun : Option Numeral → ℕ → ℕ → Option Numeral
begun None c d = Some (numeral c d)
begun (Some n) c d = at_column n.column (longer n.value d)

abbrev pub with_numeral : Option Numeral → (Numeral → Option (List Token)) → Option (List Token)
with_numeral None go = None
with_numeral (Some n) go = go n

-- a numeral that is an int's
abbrev pub IsSmall : Option Numeral → Type 0
IsSmall None = Unit {0}
IsSmall (Some n) = n.value ≤ 2147483647

-- the tokens so far with those of the text that begins at a column, where a numeral may have begun before it
abbrev pub tokens_from : List Token → Option Numeral → ℕ → List ℕ → Option (List Token)
tokens_from before n c [] = Some (behind before n)
tokens_from before n c (b ∷ rest) =
    if is_digit b then with_numeral (begun n c (b - 48)) (λ m. tokens_from before (Some m) (suc c) rest)
    else apart (behind before n) c b rest (λ all. tokens_from all None (suc c) rest)

abbrev pub tokens_of : List ℕ → Option (List Token)
tokens_of text = tokens_from [] None 1 text
