-- A fault to which tokens lead is where the reading stops.
use Rattle.std.proofs.Common.{◌≡◌, ℕ, ◌+◌, ◌<◌, ◌≤◌, List, [], ◌∷◌, ◌++◌, length, take, drop, refl, sym, ap, ◌∙◌, arith, append_assoc, length-append}
use Rattle.std.proofs.Math.Seq.{take-append_seam}
use Rattle.bj_token.specs.declared.token.TokenKind.{TokenKind}
use Rattle.bj_lex.specs.declared.place.Place.{Place}
use Rattle.bj_lex.specs.declared.element.Element.TheVariants.{Blank, Token, Fault}
use Rattle.bj_base.specs.declared.fault.FaultCode.{FaultCode}
use Rattle.bj_lex.specs.Elements.{element_of}
use Rattle.bj_lex.specs.Places.{place_after, start}
use Rattle.bj_lex.specs.Texts.{Stopped, after_token, token_at, read_after, read}
use Rattle.bj_lex.specs.Grammar.{Spelled, Leads, IsFaulty}
use Rattle.bj_lex.proofs.Runs.{place_after-nil}
use Rattle.bj_lex.proofs.Sound.{rest_of, units_of}
use Rattle.bj_lex.proofs.Steps.{blank, token, fault_stops}
use Rattle.bj_lex.proofs.Faults.{place_after-append}
use Rattle.bj_lex.proofs.FaultElements.{faulty_element, faulty_some}
use Rattle.bj_lex.proofs.Walks.{walk}

-- a text of which the reading stops at a rest of it
record Ends (stop : List ℕ) (code : FaultCode) (us : List ℕ) (tokens : List Spelled) (at : ℕ) (p : Place) : Type 0 where
  front : List ℕ
  is : us ≡ front ++ stop
  read_is : read_after 0 at p us ≡ Stopped (at + length front) (place_after p front) code

module _ (stop : List ℕ) (code : FaultCode) (some : 0 < length stop) (faulty : element_of stop ≡ Fault code) where
  ends_here : (at : ℕ) (p : Place) → Ends stop code stop [] at p
  ends_here at p = record {
    front = [];
    is = refl;
    read_is = fault_stops at p stop code some (sym faulty) ∙ ap (λ k. Stopped k p code) (omega arith) ∙ ap (λ q. Stopped (at + 0) q code) (sym (place_after-nil p));
  }

  -- behind n units of an element, the reading of the rest
  behind : (us units rest : List ℕ) (n at : ℕ) (p : Place) → us ≡ units ++ rest → length units ≡ n → (ts : List Spelled) → (f : Ends stop code rest ts (at + n) (place_after p (take n us)))
      → read_after 0 (at + n) (place_after p (take n us)) (drop n us) ≡ Stopped (at + length (units ++ f.front)) (place_after p (units ++ f.front)) code
  behind us units rest n at p is size ts f =
      ap (read_after 0 (at + n) (place_after p (take n us))) (rest_of us units rest n is size) ∙ f.read_is
      ∙ ap (λ k. Stopped k (place_after (place_after p (take n us)) f.front) code) (omega (arith, size, length-append units f.front))
      ∙ ap (λ q. Stopped (at + length (units ++ f.front)) q code) (ap (λ t. place_after (place_after p t) f.front) (units_of us units rest n is size) ∙ sym (place_after-append p units f.front))

  module _ (us units rest : List ℕ) (n at : ℕ) (p : Place) (low : 1 ≤ n) (is : us ≡ units ++ rest) (size : length units ≡ n) where
    fits : n ≤ length us
    fits = omega (arith, size, ap length is, length-append units rest)

    blank_ends : (tokens : List Spelled) → element_of us ≡ Blank n → Ends stop code rest tokens (at + n) (place_after p (take n us)) → Ends stop code us tokens at p
    blank_ends tokens e f = record {
      front = units ++ f.front;
      is = is ∙ ap (λ t. units ++ t) f.is ∙ sym (append_assoc units f.front stop);
      read_is = sym (blank at p us n (omega (arith, fits)) (sym e) low fits) ∙ behind us units rest n at p is size tokens f;
    }

    token_ends : (tokens ts : List Spelled) (kind : TokenKind) → element_of us ≡ Token kind n → tokens ≡ (kind, units) ∷ ts
        → Ends stop code rest ts (at + n) (place_after p (take n us)) → Ends stop code us tokens at p
    token_ends tokens ts kind e same f = record {
      front = units ++ f.front;
      is = is ∙ ap (λ t. units ++ t) f.is ∙ sym (append_assoc units f.front stop);
      read_is = sym (token at p us kind n (omega (arith, fits)) (sym e) low fits) ∙ ap (after_token (token_at kind p (take n us))) (behind us units rest n at p is size ts f);
    }

-- the units before a rest are those before the same rest
same_front : (us front other rest : List ℕ) → us ≡ front ++ rest → us ≡ other ++ rest → front ≡ other
same_front us front other rest e f =
    let size : length other ≡ length front = omega (arith, ap length e ∙ length-append front rest, ap length f ∙ length-append other rest) in
    sym (take-append_seam front rest) ∙ ap (take (length front)) (sym e ∙ f) ∙ ap (λ k. take k (other ++ rest)) (sym size) ∙ take-append_seam other rest

pub reported : (us front rest : List ℕ) (tokens : List Spelled) (at : ℕ) (q : Place) (code : FaultCode) → us ≡ front ++ rest → length front ≡ at → q ≡ place_after start front
    → Leads rest us tokens → IsFaulty rest code → read us ≡ Stopped at q code
reported us front rest tokens at q code is size place leads faulty =
    let some = faulty_some rest code faulty in
    let e = faulty_element rest code faulty in
    let f = walk rest (Ends rest code) (ends_here rest code some e) (blank_ends rest code some e) (token_ends rest code some e) us tokens leads 0 start in
    let same = same_front us f.front front rest f.is is in
    f.read_is ∙ ap (λ k. Stopped k (place_after start f.front) code) (omega (arith, ap length same, size)) ∙ ap (λ p. Stopped at p code) (ap (place_after start) same ∙ sym place)
