-- Printed tokens in a text, and what it is for them to be read again.
use Rattle.std.proofs.Common.{◌≡◌, ℕ, suc, ◌+◌, List, [], ◌∷◌, ◌++◌, length, refl, ap, arith}
use Rattle.bj_token.specs.declared.token.TokenKind.{TokenKind}
use Rattle.bj_token.specs.declared.token.Token.{Token}
use Rattle.bj_lex.specs.Grammar.{Spelled}
use Rattle.bj_grammar.specs.Terminal.{terminal, terminal_by}
use Rattle.bj_grammar.specs.Reader.{Text}
use Rattle.bj_writer.specs.Pieces.{Piece, Mark, Space, Line, tokens_of}

abbrev pub spelling_of : Token → Spelled
spelling_of x = (x.kind, x.text)

-- the tokens stand in the text from a place on
abbrev pub Holds : Text → ℕ → List Spelled → Type 0
Holds t k [] = Unit {0}
Holds t k (x ∷ rest) = (spelling_of (t k) ≡ x) × Holds t (suc k) rest

-- the place behind them
abbrev pub ends : ℕ → List Spelled → ℕ
ends k [] = k
ends k (x ∷ rest) = ends (suc k) rest

-- a tree that differs only in where its tokens stand, and stands between two places
pub record Back {A : Type 0} (Stands : A → ℕ → ℕ → Type 0) (Same : A → A → Type 0) (a : A) (i j : ℕ) : Type 0 where
  pub tree : A
  pub stands : Stands tree i j
  pub same : Same tree a

-- What stands so somewhere is found again in a text that holds the tokens of what is printed of it.
abbrev pub Prints : {A : Type 0} → Text → (A → ℕ → ℕ → Type 0) → (A → ℕ → ℕ → Type 0) → (A → A → Type 0) → (A → List Piece) → Type 0
Prints {A} t From To Same pieces = (a : A) (i j : ℕ) → From a i j → (k : ℕ) → Holds t k (tokens_of (pieces a)) → Back To Same a k (ends k (tokens_of (pieces a)))

-- ---- lemmas

pub tokens_append : (p q : List Piece) → tokens_of (p ++ q) ≡ tokens_of p ++ tokens_of q
tokens_append [] q = refl
tokens_append (Mark kind units ∷ p) q = ap (λ (w : List Spelled). (kind, units) ∷ w) (tokens_append p q)
tokens_append (Space ∷ p) q = tokens_append p q
tokens_append (Line n ∷ p) q = tokens_append p q

pub holds_front : (t : Text) (k : ℕ) (u v : List Spelled) → Holds t k (u ++ v) → Holds t k u
holds_front t k [] v h = tt
holds_front t k (x ∷ u) v h = (h.0, holds_front t (suc k) u v h.1)

pub holds_behind : (t : Text) (k : ℕ) (u v : List Spelled) → Holds t k (u ++ v) → Holds t (ends k u) v
holds_behind t k [] v h = h
holds_behind t k (x ∷ u) v h = holds_behind t (suc k) u v h.1

pub ends_append : (k : ℕ) (u v : List Spelled) → ends k (u ++ v) ≡ ends (ends k u) v
ends_append k [] v = refl
ends_append k (x ∷ u) v = ends_append (suc k) u v

pub ends_length : (k : ℕ) (u : List Spelled) → ends k u ≡ k + length u
ends_length k [] = omega arith
ends_length k (x ∷ u) = let e = ends_length (suc k) u in omega arith

-- the terminal that a token is follows from how it is spelled
pub terminal_is : (x : Token) (kind : TokenKind) (units : List ℕ) → spelling_of x ≡ (kind, units) → terminal x ≡ terminal_by kind units
unfolding terminal
terminal_is x kind units e = ap (λ (w : Spelled). terminal_by w.0 w.1) e

pub text_is : (x : Token) (kind : TokenKind) (units : List ℕ) → spelling_of x ≡ (kind, units) → x.text ≡ units
text_is x kind units e = ap (λ (w : Spelled). w.1) e
