-- The lexical grammar of a sum's text: which tokens it is, each with the column at which it begins. Each constructor is a production.
use Rattle.std.specs.Prelude.{◌≡◌, ℕ, suc, ◌+◌, ◌*◌, ◌≤◌, ◌==◌, if◌then◌else◌, List, [], ◌∷◌, ◌++◌, length, Option, Some, None, pos}
use Rattle.bj_sum.specs.declared.token.Sort.{Sort}
use Rattle.bj_sum.specs.declared.token.Sort.TheVariants as sort
use Rattle.bj_sum.specs.declared.token.Token.{Token}

abbrev pub token : ℕ → Sort → Token
token c s = record { column = c; sort = s }

-- DecimalNumeral, with its value [JLS 3.10.1]: `0`, or digits of which the first is not zero.
pub data DecimalNumeral : List ℕ → ℕ → Type 0 where
  nought : {digits : List ℕ} {n : ℕ} → digits ≡ 48 ∷ [] → n ≡ 0 → DecimalNumeral digits n
  first : {digits : List ℕ} {n : ℕ} → 1 ≤ n → n ≤ 9 → digits ≡ (48 + n) ∷ [] → DecimalNumeral digits n
  next : {digits front : List ℕ} {m n d : ℕ} → DecimalNumeral front m → 1 ≤ m → d ≤ 9 → digits ≡ front ++ (48 + d) ∷ [] → n ≡ m * 10 + d → DecimalNumeral digits n

abbrev pub IsDigit : ℕ → Type 0
IsDigit b = (48 ≤ b) × (b ≤ 57)

-- The text does not go on with a digit, so that a literal before it is as long as it can be [JLS 3.5].
abbrev pub NoDigitNext : List ℕ → Type 0
NoDigitNext [] = Unit {0}
NoDigitNext (b ∷ rest) = IsDigit b → ⊥

-- separators and operators [JLS 3.11, 3.12]
abbrev pub sign_of : ℕ → Option Sort
sign_of b =
    if b == 40 then Some sort.Open
    else if b == 41 then Some sort.Close
    else if b == 42 then Some sort.Times
    else if b == 43 then Some sort.Plus
    else if b == 45 then Some sort.Minus
    else None

-- The sign is as long as it can be: `++` and `--` are tokens of their own, and in no sum [JLS 3.5, 3.12].
abbrev pub IsAlone : ℕ → List ℕ → Type 0
IsAlone b [] = Unit {0}
IsAlone b (c ∷ rest) = ((b ≡ 43) × (c ≡ 43) → ⊥) × ((b ≡ 45) × (c ≡ 45) → ⊥)

-- The tokens of a text that begins at a column.
pub data Tokens : ℕ → List ℕ → List Token → Type 0 where
  none : {c : ℕ} {text : List ℕ} {tokens : List Token} → text ≡ [] → tokens ≡ [] → Tokens c text tokens
  space : {c : ℕ} {text rest : List ℕ} {tokens : List Token} → text ≡ 32 ∷ rest → Tokens (suc c) rest tokens → Tokens c text tokens
  sign : {c b : ℕ} {s : Sort} {text rest : List ℕ} {tokens more : List Token} → sign_of b ≡ Some s → IsAlone b rest → Tokens (suc c) rest more
      → text ≡ b ∷ rest → tokens ≡ token c s ∷ more → Tokens c text tokens
  literal : {c n : ℕ} {digits text rest : List ℕ} {tokens more : List Token} → DecimalNumeral digits n → n ≤ 2147483647 → NoDigitNext rest
      → Tokens (length digits + c) rest more → text ≡ digits ++ rest → tokens ≡ token c (sort.Literal (pos n)) ∷ more → Tokens c text tokens
