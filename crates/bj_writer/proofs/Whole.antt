-- Units without a surrogate that is in no pair: they are those of some characters, and can be written in UTF-8.
use Rattle.std.proofs.Common.{◌≡◌, ℕ, ◌+◌, ◌-◌, ◌/◌, ◌%◌, ◌<◌, ◌≤◌, true, ◌&&◌, cond, ltb, leb, List, [], ◌∷◌, ◌++◌, map, get_or, refl, sym, ap, ◌∙◌, subst, arith, Some, unwrap_or, ◌⊎◌, inl, inr, IsUtf8, chars, encode_utf8_all}
use borrow.Author.Tests.{le-leb, lt-ltb, le-ltb}
use Rattle.std.specs.Char.Escape.{encode_utf16}
use Rattle.std.specs.Char.Utf16.{surrogate_pair_char, lone_unit_char, utf16_chars}
use Rattle.std.proofs.str.Utf16.{IsPair, lone_unit_char_low, lone_unit_char_high}
use Rattle.std.proofs.lemmas.Bool.{cases_lt}
use Rattle.std.proofs.lemmas.Str.{utf16_chars-nil, utf16_chars_lone, utf16_chars_pair, scalars-chars, chars-encodes, utf8_lossy-IsUtf8}
use Rattle.std.proofs.Math.Utf8.{scalar, scalars, scalar_cases, low_scalar}
use Rattle.bj_text.specs.Utf16.{utf16_of, units_of, shown_chars, bytes_of}
use Rattle.bj_lex.specs.Texts.{text_of}
use Rattle.bj_writer.proofs.Conditions.{and_true}
use Rattle.bj_writer.proofs.Joining.{heads}

-- a unit that is no surrogate
abbrev pub IsAlone : ℕ → Type 0
IsAlone u = (u < 0xD800) ⊎ ((0xE000 ≤ u) × (u < 0x1_0000))

pub data IsWhole : List ℕ → Type 0 where
  nothing : (us : List ℕ) → us ≡ [] → IsWhole us
  single : (us : List ℕ) (u : ℕ) (rest : List ℕ) → us ≡ u ∷ rest → IsAlone u → IsWhole rest → IsWhole us
  paired : (us : List ℕ) (u v : ℕ) (rest : List ℕ) → us ≡ u ∷ v ∷ rest → IsPair u v → IsWhole rest → IsWhole us

-- the units of characters are whole
one_unit : (c : ℕ) → c < 0x1_0000 → encode_utf16 c ≡ c ∷ []
one_unit c h = ap (λ b. cond b (c ∷ []) ((0xD800 + (c - 0x1_0000) / 0x400) ∷ (0xDC00 + (c - 0x1_0000) % 0x400) ∷ [])) (lt-ltb c 0x1_0000 h)

two_units : (c : ℕ) → 0x1_0000 ≤ c → encode_utf16 c ≡ (0xD800 + (c - 0x1_0000) / 0x400) ∷ (0xDC00 + (c - 0x1_0000) % 0x400) ∷ []
two_units c h = ap (λ b. cond b (c ∷ []) ((0xD800 + (c - 0x1_0000) / 0x400) ∷ (0xDC00 + (c - 0x1_0000) % 0x400) ∷ [])) (le-ltb c 0x1_0000 h)

char_whole : (c : ℕ) (rest : List ℕ) → scalar c ≡ true → IsWhole rest → IsWhole (encode_utf16 c ++ rest)
char_whole c rest s whole = elim (cases_lt c 0x1_0000) [
  | inl small ↦ single (encode_utf16 c ++ rest) c rest (ap (λ t. t ++ rest) (one_unit c small)) (alone small) whole
  | inr large ↦ paired (encode_utf16 c ++ rest) (0xD800 + (c - 0x1_0000) / 0x400) (0xDC00 + (c - 0x1_0000) % 0x400) rest (ap (λ t. t ++ rest) (two_units c large)) (pair large) whole
]
  where
    alone : c < 0x1_0000 → IsAlone c
    alone small = elim (scalar_cases c s) [ inl low ↦ inl low | inr high ↦ inr (high.0, small) ]

    pair : 0x1_0000 ≤ c → IsPair (0xD800 + (c - 0x1_0000) / 0x400) (0xDC00 + (c - 0x1_0000) % 0x400)
    pair large = elim (scalar_cases c s) [
      | inl low ↦ absurd (omega arith)
      | inr high ↦ let top = high.1 in (omega arith, omega arith, omega arith, omega arith)
    ]

chars_whole : (cs : List ℕ) → scalars cs ≡ true → IsWhole (utf16_of cs)
chars_whole [] s = nothing [] refl
chars_whole (c ∷ cs) s = let each = and_true (scalar c) (scalars cs) s in char_whole c (utf16_of cs) each.0 (chars_whole cs each.1)

pub text_whole : (bytes : List ℕ) → IsUtf8 bytes → IsWhole (text_of bytes)
text_whole bytes u = subst (λ (t : List ℕ). IsWhole (units_of t)) (sym (utf8_lossy-IsUtf8 bytes u)) (chars_whole (chars bytes) (scalars-chars bytes u))

-- whole units are those of the characters that are shown of them
record Spells (us : List ℕ) : Type 0 where
  cs : List ℕ
  valid : scalars cs ≡ true
  units : utf16_of cs ≡ us
  shown : shown_chars us ≡ cs

alone_scalar : (u : ℕ) → IsAlone u → scalar u ≡ true
alone_scalar u (inl low) = low_scalar u low
alone_scalar u (inr high) = let from = high.0 in let below = high.1 in
    ap (λ b. cond b true (leb 57344 u && ltb u 1114112)) (le-ltb u 55296 (omega arith)) ∙ ap (λ b. b && ltb u 1114112) (le-leb 57344 u from) ∙ lt-ltb u 1114112 (omega arith)

alone_char : (u : ℕ) → IsAlone u → lone_unit_char u ≡ Some u
alone_char u (inl low) = lone_unit_char_low u low
alone_char u (inr high) = lone_unit_char_high u high.0

alone_small : (u : ℕ) → IsAlone u → u < 0x1_0000
alone_small u (inl low) = omega arith
alone_small u (inr high) = high.1

pub alone_apart : (u v : ℕ) → IsAlone u → IsPair u v → ⊥
alone_apart u v (inl low) pair = omega (arith, pair.0)
alone_apart u v (inr high) pair = omega (arith, high.0, pair.1)

pair_is : (u v : ℕ) → IsPair u v → encode_utf16 (surrogate_pair_char u v) ≡ u ∷ v ∷ []
pair_is u v pair =
    let from = pair.0 in let below = pair.1 in let low = pair.2 in let high = pair.3 in
    let c = surrogate_pair_char u v in
    let first : 0xD800 + (c - 0x1_0000) / 0x400 ≡ u = omega arith in
    let second : 0xDC00 + (c - 0x1_0000) % 0x400 ≡ v = omega arith in
    two_units c (omega arith) ∙ (λ i. first i ∷ second i ∷ [])

pair_scalar : (u v : ℕ) → IsPair u v → scalar (surrogate_pair_char u v) ≡ true
pair_scalar u v pair =
    let from = pair.0 in let below = pair.1 in let low = pair.2 in let high = pair.3 in
    let c = surrogate_pair_char u v in
    ap (λ b. cond b true (leb 57344 c && ltb c 1114112)) (le-ltb c 55296 (omega arith)) ∙ ap (λ b. b && ltb c 1114112) (le-leb 57344 c (omega arith)) ∙ lt-ltb c 1114112 (omega arith)

spells : (us : List ℕ) → IsWhole us → Spells us
spells us (nothing _ is) = record { cs = []; valid = refl; units = sym is; shown = ap shown_chars is ∙ ap (map (λ o. unwrap_or o 63)) utf16_chars-nil }
spells us (single _ u rest is alone whole) =
    let s = spells rest whole in
    record {
      cs = u ∷ s.cs;
      valid = ap (λ b. b && scalars s.cs) (alone_scalar u alone) ∙ s.valid;
      units = ap (λ t. t ++ utf16_of s.cs) (one_unit u (alone_small u alone)) ∙ ap (λ t. u ∷ t) s.units ∙ sym is;
      shown = ap shown_chars is ∙ ap (map (λ o. unwrap_or o 63)) (utf16_chars_lone u rest (λ pair. alone_apart u (get_or rest 0 0) alone pair) ∙ ap (λ o. o ∷ utf16_chars rest) (alone_char u alone))
          ∙ ap (λ t. u ∷ t) s.shown;
    }
spells us (paired _ u v rest is pair whole) =
    let s = spells rest whole in
    let c = surrogate_pair_char u v in
    record {
      cs = c ∷ s.cs;
      valid = ap (λ b. b && scalars s.cs) (pair_scalar u v pair) ∙ s.valid;
      units = ap (λ t. t ++ utf16_of s.cs) (pair_is u v pair) ∙ ap (λ t. u ∷ v ∷ t) s.units ∙ sym is;
      shown = ap shown_chars is ∙ ap (map (λ o. unwrap_or o 63)) (utf16_chars_pair u v rest pair) ∙ ap (λ t. c ∷ t) s.shown;
    }

-- the bytes of whole units are UTF-8, and have these units
pub bytes_utf8 : (us : List ℕ) → IsWhole us → IsUtf8 (bytes_of us)
bytes_utf8 us whole = let s = spells us whole in (s.cs, (s.valid, ap encode_utf8_all (sym s.shown)))

pub bytes_text : (us : List ℕ) → IsWhole us → text_of (bytes_of us) ≡ us
bytes_text us whole =
    let s = spells us whole in
    ap units_of (utf8_lossy-IsUtf8 (bytes_of us) (bytes_utf8 us whole)) ∙ ap (λ cs. units_of (encode_utf8_all cs)) s.shown ∙ ap utf16_of (chars-encodes s.cs s.valid) ∙ s.units

-- units put together
pub join_whole : (us vs : List ℕ) → IsWhole us → IsWhole vs → IsWhole (us ++ vs)
join_whole us vs (nothing _ is) more = subst (λ (t : List ℕ). IsWhole (t ++ vs)) (sym is) more
join_whole us vs (single _ u rest is alone whole) more = single (us ++ vs) u (rest ++ vs) (ap (λ t. t ++ vs) is) alone (join_whole rest vs whole more)
join_whole us vs (paired _ u v rest is pair whole) more = paired (us ++ vs) u v (rest ++ vs) (ap (λ t. t ++ vs) is) pair (join_whole rest vs whole more)

-- units cut where no pair is: P, which the front has, does not hold of a front that ends with the first half of one
pub record IsCut (us vs : List ℕ) : Type 0 where
  pub front : IsWhole us
  pub rest : IsWhole vs

module _ (vs : List ℕ) (P : List ℕ → Type 0) (past_one : (u : ℕ) (us : List ℕ) → IsAlone u → P (u ∷ us) → P us) (past_two : (u v : ℕ) (us : List ℕ) → IsPair u v → P (u ∷ v ∷ us) → P us)
    (no_half : (u : ℕ) → IsPair u (get_or vs 0 0) → P (u ∷ []) → ⊥) where
  pub cut : (text us : List ℕ) → IsWhole text → text ≡ us ++ vs → P us → IsCut us vs
  cut text [] whole is p = record { front = nothing [] refl; rest = subst IsWhole is whole }
  cut text (w ∷ us) (nothing _ none) is p = let clash = sym none ∙ is in cc
  cut text (w ∷ us) (single _ u rest split alone whole) is p =
      let same = heads u w rest (us ++ vs) (sym split ∙ is) in
      let here = subst IsAlone same.0 alone in
      let more = cut rest us whole same.1 (past_one w us here p) in
      record { front = single (w ∷ us) w us refl here more.front; rest = more.rest }
  cut text (w ∷ []) (paired _ u v rest split pair whole) is p =
      let same = heads u w (v ∷ rest) vs (sym split ∙ is) in
      absurd (no_half w (subst (λ (k : ℕ). IsPair w k) (ap (λ t. get_or t 0 0) same.1) (subst (λ (k : ℕ). IsPair k v) same.0 pair)) p)
  cut text (w ∷ x ∷ us) (paired _ u v rest split pair whole) is p =
      let same = heads u w (v ∷ rest) (x ∷ (us ++ vs)) (sym split ∙ is) in
      let next = heads v x rest (us ++ vs) same.1 in
      let here = subst (λ (k : ℕ). IsPair w k) next.0 (subst (λ (k : ℕ). IsPair k v) same.0 pair) in
      let more = cut rest us whole next.1 (past_two w x us here p) in
      record { front = paired (w ∷ x ∷ us) w x us refl here more.front; rest = more.rest }
