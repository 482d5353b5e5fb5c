-- Where the reading stops, tokens lead, and what stands there is a fault by a rule.
use Rattle.std.proofs.Common.{◌≡◌, ℕ, zero, suc, ◌+◌, ◌<◌, ◌≤◌, List, [], ◌∷◌, ◌++◌, length, take, drop, refl, sym, ap, ◌∙◌, subst, arith, append_assoc, length-append}
use Rattle.bj_token.specs.declared.token.Token.{Token as Lexeme}
use Rattle.bj_lex.specs.declared.place.Place.{Place}
use Rattle.bj_lex.specs.declared.element.Element.{Element}
use Rattle.bj_lex.specs.declared.element.Element.TheVariants.{Blank, Token, Fault}
use Rattle.bj_base.specs.declared.fault.FaultCode.{FaultCode}
use Rattle.bj_lex.specs.Elements.{element_of}
use Rattle.bj_lex.specs.Places.{next_place, place_after, start}
use Rattle.bj_lex.specs.Texts.{Reading, Read, Stopped, after_token, token_at, read_after, read}
use Rattle.bj_lex.specs.Grammar.{Spelled, Leads, here, IsFaulty}
use Rattle.bj_lex.proofs.Runs.{place_after-nil}
use Rattle.bj_lex.proofs.Shapes.{Split, Shape, shape_of}
use Rattle.bj_lex.proofs.Sound.{rest_of, units_of}
use Rattle.bj_lex.proofs.Steps.{blank, token, fault_stops, read_nil}

pub place_after-append : (p : Place) (us vs : List ℕ) → place_after p (us ++ vs) ≡ place_after (place_after p us) vs
unfolding place_after
place_after-append p [] vs = refl
place_after-append p (u ∷ us) vs = place_after-append (next_place p u) us vs

stopped_of : (t : Lexeme) (r : Reading) (m : ℕ) (q : Place) (code : FaultCode) → after_token t r ≡ Stopped m q code → r ≡ Stopped m q code
stopped_of t (Read us p) m q code e = cc
stopped_of t (Stopped at p other) m q code e = e

-- the fault of a text of which m units stand before it, where at units stand before the text
pub record Halt (us : List ℕ) (at : ℕ) (p : Place) (m : ℕ) (q : Place) (code : FaultCode) : Type 0 where
  pub front : List ℕ
  pub rest : List ℕ
  pub tokens : List Spelled
  pub is : us ≡ front ++ rest
  pub at_is : m ≡ at + length front
  pub place_is : q ≡ place_after p front
  pub leads : Leads rest us tokens
  pub faulty : IsFaulty rest code

-- the fault of the rest, behind an element
behind : (us : List ℕ) (at : ℕ) (p : Place) (m : ℕ) (q : Place) (code : FaultCode) (n : ℕ) (more : List ℕ → List Spelled → List Spelled) (s : Split us n more)
    → Halt s.rest (at + n) (place_after p s.units) m q code → Halt us at p m q code
behind us at p m q code n more s h = record {
  front = s.units ++ h.front;
  rest = h.rest;
  tokens = more s.units h.tokens;
  is = s.is ∙ ap (λ t. s.units ++ t) h.is ∙ sym (append_assoc s.units h.front h.rest);
  at_is = omega (arith, h.at_is, s.size, length-append s.units h.front);
  place_is = h.place_is ∙ sym (place_after-append p s.units h.front);
  leads = s.derives h.rest h.tokens h.leads;
  faulty = h.faulty;
}

-- a text of which the reading stops; each that is shorter was shown
module _ (at : ℕ) (p : Place) (c : ℕ) (us : List ℕ) (m : ℕ) (q : Place) (code : FaultCode) (stops : read_after 0 at p (c ∷ us) ≡ Stopped m q code)
    (shorter : (l : ℕ) (r : Place) (rest : List ℕ) → length rest < length (c ∷ us) → read_after 0 l r rest ≡ Stopped m q code → Halt rest l r m q code) where
  of_split : (n : ℕ) (more : List ℕ → List Spelled → List Spelled) (s : Split (c ∷ us) n more)
      → read_after 0 (at + n) (place_after p (take n (c ∷ us))) (drop n (c ∷ us)) ≡ Stopped m q code → Halt (c ∷ us) at p m q code
  of_split n more s e =
      let whole : length (c ∷ us) ≡ length s.units + length s.rest = ap length s.is ∙ length-append s.units s.rest in
      let units = units_of (c ∷ us) s.units s.rest n s.is s.size in
      let rest = rest_of (c ∷ us) s.units s.rest n s.is s.size in
      let there : read_after 0 (at + n) (place_after p s.units) s.rest ≡ Stopped m q code =
      sym (ap (λ t. read_after 0 (at + n) (place_after p t) (drop n (c ∷ us))) units ∙ ap (read_after 0 (at + n) (place_after p s.units)) rest) ∙ e in
      behind (c ∷ us) at p m q code n more s (shorter (at + n) (place_after p s.units) s.rest (omega (arith, whole, s.size, s.some)) there)

  fits : (n : ℕ) (more : List ℕ → List Spelled → List Spelled) (s : Split (c ∷ us) n more) → n ≤ length (c ∷ us)
  fits n more s = omega (arith, ap length s.is ∙ length-append s.units s.rest, s.size)

  of_element : (e : Element) → e ≡ element_of (c ∷ us) → Shape (c ∷ us) e → Halt (c ∷ us) at p m q code
  of_element (Blank n) is s =
      of_split n (λ units ts. ts) s (blank at p (c ∷ us) n (omega arith) is s.some (fits n (λ units ts. ts) s) ∙ stops)
  of_element (Token kind n) is s =
      let more = λ (units : List ℕ) (ts : List Spelled). ((kind, units) ∷ ts) in
      of_split n more s (stopped_of (token_at kind p (take n (c ∷ us))) (read_after 0 (at + n) (place_after p (take n (c ∷ us))) (drop n (c ∷ us))) m q code
      (token at p (c ∷ us) kind n (omega arith) is s.some (fits n more s) ∙ stops))
  of_element (Fault found) is s =
      let both : Stopped at p found ≡ Stopped m q code = sym (fault_stops at p (c ∷ us) found (omega arith) is) ∙ stops in
      let m_is : at ≡ m = cc in
      let q_is : p ≡ q = cc in
      let code_is : found ≡ code = cc in
      record {
        front = [];
        rest = c ∷ us;
        tokens = [];
        is = refl;
        at_is = omega (arith, m_is);
        place_is = sym q_is ∙ sym (place_after-nil p);
        leads = here (c ∷ us) [] refl refl;
        faulty = subst (IsFaulty (c ∷ us)) code_is s;
      }

halt_within : (k at : ℕ) (p : Place) (us : List ℕ) (m : ℕ) (q : Place) (code : FaultCode) → length us ≤ k → read_after 0 at p us ≡ Stopped m q code → Halt us at p m q code
halt_within k at p [] m q code h e = let read_is = sym (read_nil at p) ∙ e in cc
halt_within zero at p (c ∷ us) m q code h e = absurd (omega arith)
halt_within (suc k) at p (c ∷ us) m q code h e =
    of_element at p c us m q code e (λ l r rest short f. halt_within k l r rest m q code (omega arith) f) (element_of (c ∷ us)) refl (shape_of c us)

pub size_of : (m n : ℕ) → m ≡ 0 + n → n ≡ m
size_of m n e = omega (arith, e)

pub halt : (us : List ℕ) (m : ℕ) (q : Place) (code : FaultCode) → read us ≡ Stopped m q code → Halt us 0 start m q code
halt us m q code e = halt_within (length us) 0 start us m q code (omega arith) e
