-- What is read of a text that was written.
use Rattle.std.specs.Prelude.{◌≡◌, ℕ, List, [], ◌∷◌, ◌⊎◌}
use Rattle.bj_base.specs.declared.span.Span.{Span}
use Rattle.bj_text.specs.Utf16.{bytes_of}
use Rattle.bj_token.specs.declared.token.Token.{Token as Lexeme}
use Rattle.bj_lex.specs.Texts.{ReadsAs}
use Rattle.bj_lex.specs.Grammar.{Spelled, spelled}

abbrev pub StandsIn : Spelled → List Spelled → Type 0
StandsIn t [] = ⊥
StandsIn t (x ∷ rest) = (t ≡ x) ⊎ StandsIn t rest

-- a token of some text in UTF-8
pub record IsToken (t : Spelled) : Type 0 where
  pub bytes : List ℕ
  pub tokens : List Lexeme
  pub end : Span
  pub reads : ReadsAs bytes tokens end
  pub stands : StandsIn t (spelled tokens)

abbrev pub AreTokens : List Spelled → Type 0
AreTokens [] = Unit {0}
AreTokens (t ∷ rest) = IsToken t × AreTokens rest

-- the units, in UTF-8, are read as tokens that are spelled so
pub record ReadAs (units : List ℕ) (tokens : List Spelled) : Type 0 where
  pub lexemes : List Lexeme
  pub end : Span
  pub reads : ReadsAs (bytes_of units) lexemes end
  pub spelling : spelled lexemes ≡ tokens
