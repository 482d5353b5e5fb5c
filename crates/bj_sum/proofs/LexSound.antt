-- The tokens that the reader gives are those of the lexical grammar, and the reverse.
use Rattle.std.proofs.Common.{◌≡◌, ℕ, zero, suc, ◌+◌, ◌-◌, ◌*◌, ◌≤◌, nat_lt, ◌==◌, ◌&&◌, ◌||◌, ◌⊎◌, inl, inr, Bool, true, false, cond, List, [], ◌∷◌, ◌++◌, length, append_assoc, append-nil, length-append, Option, Some, None, refl, sym, ap, ◌∙◌, subst, arith}
use Rattle.std.proofs.lemmas.Bool.{eqb-true, ne_eqb}
use Rattle.std.proofs.lemmas.Bool.Decides.{nat_tests}
use Rattle.bj_sum.specs.declared.lex.Numeral.{Numeral}
use Rattle.bj_sum.specs.declared.token.Sort.{Sort}
use Rattle.bj_sum.specs.declared.token.Token.{Token}
use Rattle.bj_sum.specs.Lexical.{token, DecimalNumeral, nought, first, next, IsDigit, NoDigitNext, sign_of, IsAlone, Tokens, none, space, sign, literal}
use Rattle.bj_sum.specs.Lexing.{is_digit, longer, is_doubled, numeral, literal_of, with_sign, apart, behind, at_column, begun, with_numeral, tokens_from}

digit_is : (b : ℕ) → is_digit b ≡ true → IsDigit b
digit_is b e = grind (arith, nat_tests)

digit_not : (b : ℕ) → is_digit b ≡ false → IsDigit b → ⊥
digit_not b e d = grind (arith, nat_tests)

is_digit_true : (b : ℕ) → IsDigit b → is_digit b ≡ true
is_digit_true b d = grind (arith, nat_tests)

is_digit_false : (b : ℕ) → (IsDigit b → ⊥) → is_digit b ≡ false
is_digit_false b no_digit = of (is_digit b) refl
  where
    of : (x : Bool) → is_digit b ≡ x → x ≡ false
    of true e = absurd (no_digit (digit_is b e))
    of false e = refl

record Longer (n d m : ℕ) : Type 0 where
  some : 1 ≤ n
  value : m ≡ n * 10 + d
  small : m ≤ 2147483647

longer_is : (n d m : ℕ) → longer n d ≡ Some m → Longer n d m
longer_is n d m e = of (n == 0) (nat_lt 2147483647 (n * 10 + d)) refl refl e
  where
    of : (x y : Bool) → (n == 0) ≡ x → nat_lt 2147483647 (n * 10 + d) ≡ y → cond x None (cond y None (Some (n * 10 + d))) ≡ Some m → Longer n d m
    of true y a b e = absurd (cc)
    of false true a b e = absurd (cc)
    of false false a b e =
        let value : m ≡ n * 10 + d = cc in
        let some : 1 ≤ n = grind (arith, nat_tests) in
        let small : n * 10 + d ≤ 2147483647 = grind (arith, nat_tests) in
        record { some = some; value = value; small = subst (λ (k : ℕ). k ≤ 2147483647) (sym value) small }

is_longer : (n d : ℕ) → 1 ≤ n → n * 10 + d ≤ 2147483647 → longer n d ≡ Some (n * 10 + d)
is_longer n d some small =
    ap (λ (x : Bool). cond x None (cond (nat_lt 2147483647 (n * 10 + d)) None (Some (n * 10 + d)))) (ne_eqb n 0 (λ e. omega arith))
    ∙ ap (λ (x : Bool). cond x None (Some (n * 10 + d))) (not_above (n * 10 + d) small)
  where
    not_above : (k : ℕ) → k ≤ 2147483647 → nat_lt 2147483647 k ≡ false
    not_above k le = grind (arith, nat_tests)

alone_is : (b : ℕ) (rest : List ℕ) → is_doubled b rest ≡ false → IsAlone b rest
alone_is b [] e = tt
alone_is b (c ∷ rest) e = (λ h. grind (arith, nat_tests), λ h. grind (arith, nat_tests))

is_alone : (b : ℕ) (rest : List ℕ) → IsAlone b rest → is_doubled b rest ≡ false
is_alone b [] h = refl
is_alone b (c ∷ rest) h = of (b == c) ((b == 43) || (b == 45)) refl refl
  where
    of : (x y : Bool) → (b == c) ≡ x → ((b == 43) || (b == 45)) ≡ y → (x && y) ≡ false
    of false y p q = refl
    of true false p q = refl
    of true true p q =
        let same : b ≡ c = eqb-true b c p in
        let either : (b ≡ 43) ⊎ (b ≡ 45) = grind (arith, nat_tests) in
        absurd (elim either [ inl e ↦ h.0 (e, sym same ∙ e) | inr e ↦ h.1 (e, sym same ∙ e) ])

sign_byte : (b : ℕ) (s : Sort) → sign_of b ≡ Some s → (40 ≤ b) × (b ≤ 45)
sign_byte b s e = grind (arith, nat_tests)

-- ---- what is read is in the lexical grammar

-- the tokens of the text with the numeral that has begun before it
abbrev pub Goes : Option Numeral → ℕ → List ℕ → List Token → Type 0
Goes None c text tokens = Tokens c text tokens
Goes (Some m) c text tokens = (digits : List ℕ) → DecimalNumeral digits m.value → m.value ≤ 2147483647 → c ≡ length digits + m.column → Tokens m.column (digits ++ text) tokens

pub record Lexes (before : List Token) (n : Option Numeral) (c : ℕ) (text : List ℕ) (tokens : List Token) : Type 0 where
  pub more : List Token
  pub all : tokens ≡ before ++ more
  pub stands : Goes n c text more

behind_some : (before : List Token) (m : Numeral) (tokens : List Token) → tokens ≡ behind before (Some m) → tokens ≡ before ++ literal_of m ∷ []
behind_some before m tokens e = e

module _ (c b : ℕ) (rest : List ℕ) (no_digit : is_digit b ≡ false) where
  -- a byte that is no digit, behind tokens
  sign_sound : (all : List Token) (o : Option Sort) (tokens : List Token) → is_doubled b rest ≡ false → sign_of b ≡ o
      → ((before tokens : List Token) → tokens_from before None (suc c) rest ≡ Some tokens → Lexes before None (suc c) rest tokens)
      → with_sign o c all (λ all. tokens_from all None (suc c) rest) ≡ Some tokens → Lexes all None c (b ∷ rest) tokens
  sign_sound all None tokens alone is again e = absurd (cc)
  sign_sound all (Some s) tokens alone is again e =
      let h = again (all ++ token c s ∷ []) tokens e in
      record {
        more = token c s ∷ h.more;
        all = h.all ∙ append_assoc all (token c s ∷ []) h.more;
        stands = sign is (alone_is b rest alone) h.stands refl refl;
      }

  apart_sound : (all tokens : List Token)
      → ((before tokens : List Token) → tokens_from before None (suc c) rest ≡ Some tokens → Lexes before None (suc c) rest tokens)
      → apart all c b rest (λ all. tokens_from all None (suc c) rest) ≡ Some tokens → Lexes all None c (b ∷ rest) tokens
  apart_sound all tokens again e = of (b == 32) (is_doubled b rest) refl refl e
    where
      of : (x y : Bool) → (b == 32) ≡ x → is_doubled b rest ≡ y
          → cond x (tokens_from all None (suc c) rest) (cond y None (with_sign (sign_of b) c all (λ all. tokens_from all None (suc c) rest))) ≡ Some tokens → Lexes all None c (b ∷ rest) tokens
      of true y is alone e =
          let h = again all tokens e in
          record { more = h.more; all = h.all; stands = space (ap (λ (b : ℕ). b ∷ rest) (eqb-true b 32 is)) h.stands }
      of false true is alone e = absurd (cc)
      of false false is alone e = sign_sound all (sign_of b) tokens alone refl again e

  after_numeral : (before tokens : List Token) (n : Option Numeral) → Lexes (behind before n) None c (b ∷ rest) tokens → Lexes before n c (b ∷ rest) tokens
  after_numeral before tokens None h = h
  after_numeral before tokens (Some m) h = record {
    more = literal_of m ∷ h.more;
    all = h.all ∙ append_assoc before (literal_of m ∷ []) h.more;
    stands = λ digits d le at. literal d le (digit_not b no_digit) (subst (λ (k : ℕ). Tokens k (b ∷ rest) h.more) at h.stands) refl refl;
  }

-- a digit goes on with a numeral, or begins one
digit_goes : (c b : ℕ) (rest : List ℕ) (n : Option Numeral) (m : Numeral) (tokens : List Token) → IsDigit b → begun n c (b - 48) ≡ Some m
    → Goes (Some m) (suc c) rest tokens → Goes n c (b ∷ rest) tokens
digit_goes c b rest None m tokens digit is goes =
    let same : numeral c (b - 48) ≡ m = cc in
    let column : m.column ≡ c = ap (λ (m : Numeral). m.column) (sym same) in
    let value : m.value ≡ b - 48 = ap (λ (m : Numeral). m.value) (sym same) in
    subst (λ (k : ℕ). Tokens k (b ∷ rest) tokens) column
    (goes (b ∷ []) (subst (λ (v : ℕ). DecimalNumeral (b ∷ []) v) (sym value) (one (b - 48) refl)) (omega arith) (omega arith))
  where
    spelled : b ≡ 48 + (b - 48)
    spelled = omega arith

    one : (v : ℕ) → b - 48 ≡ v → DecimalNumeral (b ∷ []) (b - 48)
    one zero e = let at : b ≡ 48 = omega arith in nought (ap (λ (b : ℕ). b ∷ []) at) e
    one (suc v) e = first (omega arith) (omega arith) (ap (λ (b : ℕ). b ∷ []) spelled)
digit_goes c b rest (Some n) m tokens digit is goes = of (longer n.value (b - 48)) refl is
  where
    spelled : b ≡ 48 + (b - 48)
    spelled = omega arith

    of : (v : Option ℕ) → longer n.value (b - 48) ≡ v → at_column n.column v ≡ Some m → Goes (Some n) c (b ∷ rest) tokens
    of None a e = absurd (cc)
    of (Some v) a e =
        let l = longer_is n.value (b - 48) v a in
        let same : numeral n.column v ≡ m = cc in
        let column : m.column ≡ n.column = ap (λ (m : Numeral). m.column) (sym same) in
        let value : m.value ≡ v = ap (λ (m : Numeral). m.value) (sym same) in
        λ digits d le at.
        let small : v ≤ 2147483647 = l.small in
        let long : length (digits ++ b ∷ []) ≡ length digits + 1 = length-append digits (b ∷ []) in
        subst (λ (k : ℕ). Tokens k (digits ++ b ∷ rest) tokens) column
        (subst (λ (t : List ℕ). Tokens m.column t tokens) (append_assoc digits (b ∷ []) rest)
        (goes (digits ++ b ∷ [])
        (subst (λ (v : ℕ). DecimalNumeral (digits ++ b ∷ []) v) (sym value) (next d l.some (omega arith) (ap (λ (b : ℕ). digits ++ b ∷ []) spelled) l.value))
        (omega arith) (omega arith)))

pub lex_sound : (text : List ℕ) (before : List Token) (n : Option Numeral) (c : ℕ) (tokens : List Token) → tokens_from before n c text ≡ Some tokens → Lexes before n c text tokens
lex_sound [] before None c tokens e =
    let same : before ≡ tokens = cc in
    record { more = []; all = sym same ∙ sym (append-nil before); stands = none refl refl }
lex_sound [] before (Some m) c tokens e =
    let same : before ++ literal_of m ∷ [] ≡ tokens = cc in
    record { more = literal_of m ∷ []; all = sym same; stands = λ digits d le at. literal d le tt (none refl refl) refl refl }
lex_sound (b ∷ rest) before n c tokens e = of (λ before n tokens e. lex_sound rest before n (suc c) tokens e) (is_digit b) refl e
  where
    of : ((before : List Token) (n : Option Numeral) (tokens : List Token) → tokens_from before n (suc c) rest ≡ Some tokens → Lexes before n (suc c) rest tokens)
        → (x : Bool) → is_digit b ≡ x
        → cond x (with_numeral (begun n c (b - 48)) (λ m. tokens_from before (Some m) (suc c) rest)) (apart (behind before n) c b rest (λ all. tokens_from all None (suc c) rest)) ≡ Some tokens
        → Lexes before n c (b ∷ rest) tokens
    of again true is e = digit (begun n c (b - 48)) refl e
      where
        digit : (m : Option Numeral) → begun n c (b - 48) ≡ m → with_numeral m (λ m. tokens_from before (Some m) (suc c) rest) ≡ Some tokens → Lexes before n c (b ∷ rest) tokens
        digit None a e = absurd (cc)
        digit (Some m) a e =
            let h = again before (Some m) tokens e in
            record { more = h.more; all = h.all; stands = digit_goes c b rest n m h.more (digit_is b is) a h.stands }
    of again false is e = after_numeral c b rest is before tokens n (apart_sound c b rest is (behind before n) tokens (λ before tokens e. again before None tokens e) e)

-- ---- what is in the lexical grammar is read

-- one digit more, behind a numeral or at the first
digit_step : (before : List Token) (n : Option Numeral) (c d : ℕ) (rest : List ℕ) (m : Numeral) → d ≤ 9 → begun n c d ≡ Some m
    → tokens_from before n c ((48 + d) ∷ rest) ≡ tokens_from before (Some m) (suc c) rest
digit_step before n c d rest m le is =
    ap (λ (x : Bool). cond x (with_numeral (begun n c (48 + d - 48)) (λ k. tokens_from before (Some k) (suc c) rest))
    (apart (behind before n) c (48 + d) rest (λ all. tokens_from all None (suc c) rest))) (is_digit_true (48 + d) (omega arith, omega arith))
    ∙ (ap (λ (d : ℕ). with_numeral (begun n c d) (λ k. tokens_from before (Some k) (suc c) rest)) (let back : 48 + d - 48 ≡ d = omega arith in back)
    ∙ ap (λ (o : Option Numeral). with_numeral o (λ k. tokens_from before (Some k) (suc c) rest)) is)

numeral_begins : {digits : List ℕ} {n : ℕ} → DecimalNumeral digits n → n ≤ 2147483647 → (before : List Token) (c : ℕ) (rest : List ℕ)
    → tokens_from before None c (digits ++ rest) ≡ tokens_from before (Some (numeral c n)) (length digits + c) rest
numeral_begins (nought {digits} {n} e a) le before c rest =
    ap (λ (t : List ℕ). tokens_from before None c (t ++ rest)) e
    ∙ (digit_step before None c 0 rest (numeral c 0) (omega arith) refl
    ∙ (ap (λ (v : ℕ). tokens_from before (Some (numeral c v)) (suc c) rest) (sym a)
    ∙ ap (λ (k : ℕ). tokens_from before (Some (numeral c n)) k rest) (let at : suc c ≡ length digits + c = omega (arith, ap length e) in at)))
numeral_begins (first {digits} {n} low high e) le before c rest =
    ap (λ (t : List ℕ). tokens_from before None c (t ++ rest)) e
    ∙ (digit_step before None c n rest (numeral c n) high refl
    ∙ ap (λ (k : ℕ). tokens_from before (Some (numeral c n)) k rest) (let at : suc c ≡ length digits + c = omega (arith, ap length e) in at))
numeral_begins (next {digits} {front} {m} {n} {d} f low high e a) le before c rest =
    ap (λ (t : List ℕ). tokens_from before None c t) (ap (λ (t : List ℕ). t ++ rest) e ∙ append_assoc front ((48 + d) ∷ []) rest)
    ∙ (numeral_begins f (omega arith) before c ((48 + d) ∷ rest)
    ∙ (digit_step before (Some (numeral c m)) (length front + c) d rest (numeral c n) high
    (ap (at_column c) (is_longer m d low (omega arith) ∙ ap Some (sym a)))
    ∙ ap (λ (k : ℕ). tokens_from before (Some (numeral c n)) k rest)
    (let at : suc (length front + c) ≡ length digits + c = omega (arith, ap length e, length-append front ((48 + d) ∷ [])) in at)))

behind_numeral : (before : List Token) (m : Numeral) (c : ℕ) (rest : List ℕ) → NoDigitNext rest
    → tokens_from before (Some m) c rest ≡ tokens_from (before ++ literal_of m ∷ []) None c rest
behind_numeral before m c [] h = refl
behind_numeral before m c (b ∷ rest) h =
    ap (λ (x : Bool). cond x (with_numeral (at_column m.column (longer m.value (b - 48))) (λ k. tokens_from before (Some k) (suc c) rest))
    (apart (before ++ literal_of m ∷ []) c b rest (λ all. tokens_from all None (suc c) rest))) (is_digit_false b h)
    ∙ sym (ap (λ (x : Bool). cond x (tokens_from (before ++ literal_of m ∷ []) (Some (numeral c (b - 48))) (suc c) rest)
    (apart (before ++ literal_of m ∷ []) c b rest (λ all. tokens_from all None (suc c) rest))) (is_digit_false b h))

pub lex_complete : {c : ℕ} {text : List ℕ} {tokens : List Token} → Tokens c text tokens → (before : List Token) → tokens_from before None c text ≡ Some (before ++ tokens)
lex_complete (none {c} {text} {tokens} e a) before =
    ap (λ (t : List ℕ). tokens_from before None c t) e ∙ ap Some (sym (append-nil before) ∙ ap (λ (t : List Token). before ++ t) (sym a))
lex_complete (space {c} {text} {rest} {tokens} e d) before = ap (λ (t : List ℕ). tokens_from before None c t) e ∙ lex_complete d before
lex_complete (sign {c} {b} {s} {text} {rest} {tokens} {more} is alone d e a) before =
    let at = sign_byte b s is in
    let go : List Token → Option (List Token) = λ all. tokens_from all None (suc c) rest in
    ap (λ (t : List ℕ). tokens_from before None c t) e
    ∙ (ap (λ (x : Bool). cond x (with_numeral (begun None c (b - 48)) (λ m. tokens_from before (Some m) (suc c) rest)) (apart before c b rest go))
    (is_digit_false b (λ h. let low : 48 ≤ b = h.0 in let high : b ≤ 45 = at.1 in absurd (omega arith)))
    ∙ (ap (λ (x : Bool). cond x (go before) (cond (is_doubled b rest) None (with_sign (sign_of b) c before go))) (ne_eqb b 32 (λ h. let low : 40 ≤ b = at.0 in absurd (omega arith)))
    ∙ (ap (λ (x : Bool). cond x None (with_sign (sign_of b) c before go)) (is_alone b rest alone)
    ∙ (ap (λ (o : Option Sort). with_sign o c before go) is
    ∙ (lex_complete d (before ++ token c s ∷ [])
    ∙ ap Some (append_assoc before (token c s ∷ []) more ∙ ap (λ (t : List Token). before ++ t) (sym a)))))))
lex_complete (literal {c} {n} {digits} {text} {rest} {tokens} {more} d le no_digit r e a) before =
    ap (λ (t : List ℕ). tokens_from before None c t) e
    ∙ (numeral_begins d le before c rest
    ∙ (behind_numeral before (numeral c n) (length digits + c) rest no_digit
    ∙ (lex_complete r (before ++ literal_of (numeral c n) ∷ [])
    ∙ ap Some (append_assoc before (literal_of (numeral c n) ∷ []) more ∙ ap (λ (t : List Token). before ++ t) (sym a)))))
