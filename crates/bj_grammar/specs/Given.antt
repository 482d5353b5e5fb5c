-- What the functions that read give.
use Rattle.std.specs.Prelude.{◌≡◌, ℕ, suc, true, false, List, [], Result, Ok, Err, slice_index_or}
use Rattle.bj_base.specs.declared.span.Span.{Span}
use Rattle.bj_token.specs.declared.token.TokenKind.TheVariants as kinds
use Rattle.bj_token.specs.declared.token.Token.{Token}
use Rattle.bj_grammar.specs.declared.stop.Stop.{Stop}
use Rattle.bj_grammar.specs.declared.stop.Stop.TheVariants as f
use Rattle.bj_grammar.specs.declared.terminal.Terminal.{Terminal}
use Rattle.bj_grammar.specs.Terminal.{terminal, same_terminal, among}
use Rattle.bj_grammar.specs.Reader.{Text, Answer, Found, Wrong, Over}

-- what stands past the last token
abbrev pub ended : Token
ended = record { kind = kinds.Sign; at = record { line = 0; column = 0 }; text = [] }

-- the text of some tokens
unfoldable pub text_of : List Token → Text
text_of tokens = λ at. slice_index_or tokens at ended

-- where each token stands
unfoldable pub place_of : List Token → ℕ → Span
place_of tokens = λ at. (slice_index_or tokens at ended).at

-- the limit of depth is passed by a node that stands there
abbrev pub IsDeepAt : {A : Type 0} → Span → Answer A → Type 0
IsDeepAt at (Found a j) = ⊥
IsDeepAt at (Wrong k) = ⊥
IsDeepAt at (Over k d) = d ≡ at

abbrev pub Fails : {A : Type 0} → Stop → Answer A → Type 0
Fails f.Memory answer = Unit {0}
Fails (f.Syntax at) answer = answer ≡ Wrong at
Fails (f.Deep at) answer = IsDeepAt at answer

-- what a function returned is the answer, unless memory ran out
abbrev pub Gives : {A : Type 0} → Result (A × ℕ) Stop → Answer A → Type 0
Gives (Ok found) answer = answer ≡ Found found.0 found.1
Gives (Err e) answer = Fails e answer

-- a token of the terminal was taken
abbrev pub Takes : Result ℕ Stop → Text → ℕ → Terminal → Type 0
Takes (Ok next) s at k = (same_terminal (terminal (s at)) k ≡ true) × (next ≡ suc at)
Takes (Err e) s at k = (same_terminal (terminal (s at)) k ≡ false) × (e ≡ f.Syntax at)

-- a token of one of the terminals was taken
abbrev pub TakesOne : Result (Terminal × ℕ) Stop → Text → ℕ → List Terminal → Type 0
TakesOne (Ok found) s at ks = (among ks (terminal (s at)) ≡ true) × (found.0 ≡ terminal (s at)) × (found.1 ≡ suc at)
TakesOne (Err e) s at ks = (among ks (terminal (s at)) ≡ false) × (e ≡ f.Syntax at)
