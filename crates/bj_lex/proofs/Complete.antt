-- What is derived is read.
use Rattle.std.proofs.Common.{◌≡◌, ℕ, ◌+◌, ◌≤◌, List, [], ◌∷◌, ◌++◌, length, take, refl, sym, ap, ◌∙◌, arith, length-append}
use Rattle.bj_token.specs.declared.token.Token.{Token as Lexeme}
use Rattle.bj_token.specs.declared.token.TokenKind.{TokenKind}
use Rattle.bj_lex.specs.declared.place.Place.{Place}
use Rattle.bj_lex.specs.declared.element.Element.TheVariants.{Blank, Token}
use Rattle.bj_lex.specs.Elements.{element_of}
use Rattle.bj_lex.specs.Places.{place_after, start}
use Rattle.bj_lex.specs.Texts.{Read, after_token, token_at, read_after}
use Rattle.bj_lex.specs.Grammar.{Spelled, spelled, Lexes}
use Rattle.bj_lex.proofs.Sound.{rest_of, units_of}
use Rattle.bj_lex.proofs.Steps.{blank, token, read_nil}
use Rattle.bj_lex.proofs.Walks.{walk}

-- the reading of a text with these tokens
pub record Found (us : List ℕ) (tokens : List Spelled) (at : ℕ) (p : Place) : Type 0 where
  pub ts : List Lexeme
  pub end : Place
  pub read_is : read_after 0 at p us ≡ Read ts end
  pub is : spelled ts ≡ tokens

module _ (us units rest : List ℕ) (n at : ℕ) (p : Place) (some : 1 ≤ n) (is : us ≡ units ++ rest) (size : length units ≡ n) where
  fits : n ≤ length us
  fits = omega (arith, size, ap length is, length-append units rest)

  blank_found : (tokens : List Spelled) → element_of us ≡ Blank n → Found rest tokens (at + n) (place_after p (take n us)) → Found us tokens at p
  blank_found tokens e f = record {
    ts = f.ts;
    end = f.end;
    read_is = sym (blank at p us n (omega (arith, fits)) (sym e) some fits) ∙ ap (read_after 0 (at + n) (place_after p (take n us))) (rest_of us units rest n is size) ∙ f.read_is;
    is = f.is;
  }

  token_found : (tokens ts : List Spelled) (kind : TokenKind) → element_of us ≡ Token kind n → tokens ≡ (kind, units) ∷ ts → Found rest ts (at + n) (place_after p (take n us)) → Found us tokens at p
  token_found tokens ts kind e same f = record {
    ts = token_at kind p (take n us) ∷ f.ts;
    end = f.end;
    read_is = sym (token at p us kind n (omega (arith, fits)) (sym e) some fits)
        ∙ ap (after_token (token_at kind p (take n us))) (ap (read_after 0 (at + n) (place_after p (take n us))) (rest_of us units rest n is size) ∙ f.read_is);
    is = ap (λ w. (kind, w) ∷ spelled f.ts) (units_of us units rest n is size) ∙ ap (λ vs. (kind, units) ∷ vs) f.is ∙ sym same;
  }

pub complete : (text : List ℕ) (tokens : List Spelled) → Lexes text tokens → Found text tokens 0 start
complete text tokens l =
    walk [] Found (λ at p. record { ts = []; end = p; read_is = read_nil at p; is = refl }) blank_found token_found text tokens l 0 start

-- of a text no two lists of tokens are derived
pub one_reading : (text : List ℕ) (left right : List Spelled) → Lexes text left → Lexes text right → left ≡ right
one_reading text left right l r =
    let f = complete text left l in
    let g = complete text right r in
    let same : Read f.ts f.end ≡ Read g.ts g.end = sym f.read_is ∙ g.read_is in
    let items : f.ts ≡ g.ts = cc in
    sym f.is ∙ ap spelled items ∙ g.is
