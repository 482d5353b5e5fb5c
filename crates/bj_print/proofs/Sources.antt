-- From the tokens of a text to those of a printed one.
use Rattle.std.proofs.Common.{◌≡◌, ◌≢◌, ℕ, zero, suc, ◌+◌, ◌<◌, ◌≤◌, ◌⊎◌, inl, inr, List, [], ◌∷◌, length, get_or, refl, ap, ◌∙◌, arith}
use Rattle.std.proofs.lemmas.Bool.{cases_lt}
use Rattle.bj_base.specs.declared.span.Span.{Span}
use Rattle.bj_token.specs.declared.token.Token.{Token}
use Rattle.bj_lex.specs.Grammar.{Spelled, spelled}
use Rattle.bj_lex.specs.Texts.{ReadsAs}
use Rattle.bj_grammar.specs.declared.terminal.Terminal.TheVariants as t
use Rattle.bj_grammar.specs.Terminal.{terminal}
use Rattle.bj_grammar.specs.Reader.{Text}
use Rattle.bj_grammar.specs.Given.{text_of, ended}
use Rattle.bj_grammar.proofs.TextLemmas.{end_other}
use Rattle.bj_writer.specs.Tokens.{IsToken, AreTokens, StandsIn}
use Rattle.bj_print.proofs.Holds.{spelling_of, Holds, ends, ends_length}
use Rattle.bj_print.proofs.Drawn.{AllTokens}

-- ---- the tokens of a text are tokens

stands_at : (tokens : List Token) (x : ℕ) (d : Token) → x < length tokens → StandsIn (spelling_of (get_or tokens x d)) (spelled tokens)
stands_at [] x d h = absurd (omega arith)
stands_at (y ∷ ys) zero d h = inl refl
stands_at (y ∷ ys) (suc x) d h = inr (stands_at ys x d (omega arith))

within : (tokens : List Token) (x : ℕ) → terminal (text_of tokens x) ≢ t.Other → x < length tokens
within tokens x some = of (cases_lt x (length tokens))
  where
    of : (x < length tokens) ⊎ (length tokens ≤ x) → x < length tokens
    of (inl h) = h
    of (inr h) = absurd (some (end_other tokens x h))

-- each token that is one of the grammar's
pub tokens_given : (bytes : List ℕ) (tokens : List Token) (end : Span) → ReadsAs bytes tokens end → (x : ℕ) → terminal (text_of tokens x) ≢ t.Other → IsToken (spelling_of (text_of tokens x))
unfolding text_of
tokens_given bytes tokens end reads x some =
    record { bytes = bytes; tokens = tokens; end = end; reads = reads; stands = stands_at tokens x ended (within tokens x some) }

pub are_tokens : (w : List Spelled) → AllTokens IsToken w → AreTokens w
are_tokens [] all = tt
are_tokens (x ∷ rest) all = (all.0, are_tokens rest all.1)

-- ---- the printed tokens stand in the text that they are read as

holds_behind_front : (t : Text) (tokens : List Token) (k : ℕ) → ((x : ℕ) → x < length tokens → t (k + x) ≡ get_or tokens x ended) → Holds t k (spelled tokens)
holds_behind_front t [] k h = tt
holds_behind_front t (y ∷ ys) k h = (
  ap spelling_of (ap t (let e : k ≡ k + 0 = omega arith in e) ∙ h 0 (omega arith)),
  holds_behind_front t ys (suc k) (λ x below. ap t (let e : suc k + x ≡ k + suc x = omega arith in e) ∙ h (suc x) (omega arith)),
)

pub holds_itself : (tokens : List Token) → Holds (text_of tokens) 0 (spelled tokens)
unfolding text_of
holds_itself tokens = holds_behind_front (text_of tokens) tokens 0 (λ x below. ap (text_of tokens) (let e : 0 + x ≡ x = omega arith in e))

spelled_length : (tokens : List Token) → length (spelled tokens) ≡ length tokens
spelled_length [] = refl
spelled_length (x ∷ xs) = ap suc (spelled_length xs)

pub ends_at : (tokens : List Token) (w : List Spelled) → spelled tokens ≡ w → ends 0 w ≡ length tokens
ends_at tokens w e = let a = ends_length 0 w in let b = ap length e in let c = spelled_length tokens in omega arith
