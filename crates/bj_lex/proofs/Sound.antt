-- What is read is derived.
use Rattle.std.proofs.Common.{◌≡◌, ℕ, zero, suc, ◌+◌, ◌<◌, ◌≤◌, List, [], ◌∷◌, ◌++◌, length, take, drop, refl, sym, ap, ◌∙◌, subst, arith, length-append}
use Rattle.std.proofs.Math.Seq.{drop-append_seam, take-append_seam}
use Rattle.bj_token.specs.declared.token.Token.{Token as Lexeme}
use Rattle.bj_lex.specs.declared.place.Place.{Place}
use Rattle.bj_lex.specs.declared.element.Element.{Element}
use Rattle.bj_lex.specs.declared.element.Element.TheVariants.{Blank, Token, Fault}
use Rattle.bj_lex.specs.Elements.{element_of}
use Rattle.bj_lex.specs.Places.{place_after, start}
use Rattle.bj_lex.specs.Texts.{Reading, Read, Stopped, after_token, token_at, read_after, read}
use Rattle.bj_lex.specs.Grammar.{spelled, Lexes, here}
use Rattle.bj_lex.proofs.Shapes.{Shape, shape_of}
use Rattle.bj_lex.proofs.Steps.{blank, token, fault_stops, read_nil}

record Tail (t : Lexeme) (r : Reading) (ts : List Lexeme) (q : Place) : Type 0 where
  rest : List Lexeme
  read_is : r ≡ Read rest q
  is : ts ≡ t ∷ rest

tail_of : (t : Lexeme) (r : Reading) (ts : List Lexeme) (q : Place) → after_token t r ≡ Read ts q → Tail t r ts q
tail_of t (Read us p) ts q e = record { rest = us; read_is = cc; is = cc }
tail_of t (Stopped at p code) ts q e = cc

-- the units behind an element are the rest
pub rest_of : (us units rest : List ℕ) (n : ℕ) → us ≡ units ++ rest → length units ≡ n → drop n us ≡ rest
rest_of us units rest n is size = ap (drop n) is ∙ ap (λ k. drop k (units ++ rest)) (sym size) ∙ drop-append_seam units rest

pub units_of : (us units rest : List ℕ) (n : ℕ) → us ≡ units ++ rest → length units ≡ n → take n us ≡ units
units_of us units rest n is size = ap (take n) is ∙ ap (λ k. take k (units ++ rest)) (sym size) ∙ take-append_seam units rest

-- the text of a fuel of units: each text that is shorter was shown
module _ (at : ℕ) (p : Place) (c : ℕ) (us : List ℕ) (ts : List Lexeme) (q : Place) (read_is : read_after 0 at p (c ∷ us) ≡ Read ts q)
    (shorter : (m : ℕ) (r : Place) (rest : List ℕ) (vs : List Lexeme) → length rest < length (c ∷ us) → read_after 0 m r rest ≡ Read vs q → Lexes rest (spelled vs)) where
  of_element : (e : Element) → e ≡ element_of (c ∷ us) → Shape (c ∷ us) e → Lexes (c ∷ us) (spelled ts)
  of_element (Blank n) is s =
      let whole : length (c ∷ us) ≡ length s.units + length s.rest = ap length s.is ∙ length-append s.units s.rest in
      let rest = rest_of (c ∷ us) s.units s.rest n s.is s.size in
      let step = blank at p (c ∷ us) n (omega arith) is s.some (omega (arith, whole, s.size)) in
      s.derives [] (spelled ts) (shorter (at + n) (place_after p (take n (c ∷ us))) s.rest ts (omega (arith, whole, s.size, s.some))
      (ap (read_after 0 (at + n) (place_after p (take n (c ∷ us)))) (sym rest) ∙ step ∙ read_is))
  of_element (Token kind n) is s =
      let whole : length (c ∷ us) ≡ length s.units + length s.rest = ap length s.is ∙ length-append s.units s.rest in
      let rest = rest_of (c ∷ us) s.units s.rest n s.is s.size in
      let units = units_of (c ∷ us) s.units s.rest n s.is s.size in
      let step = token at p (c ∷ us) kind n (omega arith) is s.some (omega (arith, whole, s.size)) in
      let t = tail_of (token_at kind p (take n (c ∷ us))) (read_after 0 (at + n) (place_after p (take n (c ∷ us))) (drop n (c ∷ us))) ts q (step ∙ read_is) in
      let behind = shorter (at + n) (place_after p (take n (c ∷ us))) s.rest t.rest (omega (arith, whole, s.size, s.some))
      (ap (read_after 0 (at + n) (place_after p (take n (c ∷ us)))) (sym rest) ∙ t.read_is) in
      let same : ((kind, s.units) ∷ spelled t.rest) ≡ spelled ts = ap (λ w. (kind, w) ∷ spelled t.rest) (sym units) ∙ sym (ap spelled t.is) in
      subst (Lexes (c ∷ us)) same (s.derives [] (spelled t.rest) behind)
  of_element (Fault code) is s =
      let stopped = sym (fault_stops at p (c ∷ us) code (omega arith) is) ∙ read_is in cc

sound_within : (k : ℕ) (at : ℕ) (p : Place) (us : List ℕ) (ts : List Lexeme) (q : Place) → length us ≤ k → read_after 0 at p us ≡ Read ts q → Lexes us (spelled ts)
sound_within k at p [] ts q h e =
    let read_is = sym (read_nil at p) ∙ e in
    let none : [] ≡ ts = cc in
    here [] (spelled ts) refl (sym (ap spelled none))
sound_within zero at p (c ∷ us) ts q h e = absurd (omega arith)
sound_within (suc k) at p (c ∷ us) ts q h e =
    of_element at p c us ts q e (λ m r rest vs short f. sound_within k m r rest vs q (omega arith) f) (element_of (c ∷ us)) refl (shape_of c us)

pub sound : (us : List ℕ) (ts : List Lexeme) (q : Place) → read us ≡ Read ts q → Lexes us (spelled ts)
sound us ts q e = sound_within (length us) 0 start us ts q (omega arith) e
