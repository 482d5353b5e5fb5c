-- What a reader is, and the steps that every rule is made of.
use Rattle.std.specs.Prelude.{ℕ, zero, suc, Bool, if◌then◌else◌, List, Option, None, Some}
use Rattle.bj_base.specs.declared.span.Span.{Span}
use Rattle.bj_token.specs.declared.token.Token.{Token}
use Rattle.bj_grammar.specs.declared.terminal.Terminal.{Terminal}
use Rattle.bj_grammar.specs.Terminal.{terminal, same_terminal}

-- the token at each place, with one that is no token at each place past the last
abbrev pub Text : Type 0
Text = ℕ → Token

pub data Answer (A : Type 0) : Type 0 where
  -- a tree, and the place after its last token
  Found : A → ℕ → Answer A
  -- the place of the first token with which nothing goes on
  Wrong : ℕ → Answer A
  -- The limit of depth is passed, by a node at the span: each tree that begins with the tokens before the place and the five from there on has it.
  Over : ℕ → Span → Answer A

abbrev pub Parser : Type 0 → Type 0
Parser A = Text → ℕ → Answer A

abbrev pub and_then : {A B : Type 0} → Answer A → (A → ℕ → Answer B) → Answer B
and_then (Found a j) f = f a j
and_then (Wrong k) f = Wrong k
and_then (Over k at) f = Over k at

infixl 10 ◌>>=◌
abbrev pub ◌>>=◌ : {A B : Type 0} → Parser A → (A → Parser B) → Parser B
p >>= f = λ s i. and_then (p s i) (λ a j. f a s j)

abbrev pub pure : {A : Type 0} → A → Parser A
pure a = λ s i. Found a i

-- whatever stands here is too deep
abbrev pub over : {A : Type 0} → (ℕ → Span) → Parser A
over place = λ s i. Over i (place i)

-- goes on unless there is a node that stands too deep
abbrev pub unless_deep : {A : Type 0} → Option Span → Parser A → Parser A
unless_deep None p = p
unless_deep (Some at) p = over (λ _. at)

-- where no token stands
abbrev pub nowhere : Span
nowhere = record { line = 0; column = 0 }

-- a rule that is told where it begins
abbrev pub here : {A : Type 0} → (ℕ → Parser A) → Parser A
here f = λ s i. f i s i

-- a token whose terminal passes the test, and then the rest, which is given the token
abbrev pub operator : {A : Type 0} → (Terminal → Bool) → (Token → Parser A) → Parser A
operator test q = λ s i. if test (terminal (s i)) then q (s i) s (suc i) else Wrong i

-- a token of the terminal, and then the rest, which is given its units
abbrev pub word : {A : Type 0} → Terminal → (List ℕ → Parser A) → Parser A
word k q = λ s i. if same_terminal (terminal (s i)) k then q (s i).text s (suc i) else Wrong i

abbrev pub sign : {A : Type 0} → Terminal → Parser A → Parser A
sign k q = word k (λ _. q)

-- by a test of the text from here on
abbrev pub ahead : {A : Type 0} → (Text → ℕ → Bool) → Parser A → Parser A → Parser A
ahead test p q = λ s i. if test s i then p s i else q s i

-- by the next token
abbrev pub choose : {A : Type 0} → (Terminal → Bool) → Parser A → Parser A → Parser A
choose test p q = ahead (λ s i. test (terminal (s i))) p q

-- Goes on by steps while the next token passes the test, at most n times. Each step takes a token, so a loop that may take more than there are
-- tokens never has to stop for it.
unfoldable pub loop : {A : Type 0} → ℕ → (Terminal → Bool) → (A → Parser A) → A → Parser A
loop zero test step a = choose test (over (λ _. nowhere)) (pure a)
loop (suc n) test step a = choose test (step a >>= loop n test step) (pure a)
