-- The tokens of a whole text are whole, and so is what is written of whole tokens.
use Rattle.std.proofs.Common.{◌≡◌, ℕ, zero, suc, ◌<◌, Bool, true, false, ◌&&◌, ◌||◌, cond, eqb, ltb, List, [], ◌∷◌, ◌++◌, get_or, refl, sym, ap, ◌∙◌, subst, arith, Option, Some, None, inl, inr}
use borrow.Author.Tests.{eqb-true, ltb-true, lt-ltb}
use Rattle.std.specs.List.{list_all}
use Rattle.std.specs.Char.Utf16.{surrogate_pair_char, lone_unit_char, utf16_chars}
use Rattle.std.proofs.str.Utf16.{IsPair, lone_unit_char_surrogate}
use Rattle.std.proofs.lemmas.Str.{utf16_chars_lone, utf16_chars_pair}
use Rattle.bj_token.specs.declared.token.TokenKind.{TokenKind}
use Rattle.bj_lex.specs.Characters.{is_line_end, is_white, passes, is_part_char}
use Rattle.bj_lex.specs.Grammar.{Spelled, IsAtLineEnd, IsParts, quote, Leads, here, white_space, end_of_line_comment, traditional_comment, identifier, keyword, integer, character, string, sign}
use Rattle.bj_lex.proofs.Letters.{or_split}
use Rattle.bj_writer.specs.declared.writer.Last.{Last}
use Rattle.bj_writer.specs.Pieces.{Piece, Mark, Space, Line, tokens_of, gap, joins, last_of, spaces, written}
use Rattle.bj_writer.specs.Tokens.{StandsIn}
use Rattle.bj_writer.proofs.Conditions.{and_true}
use Rattle.bj_writer.proofs.Joining.{is_mark_unit, sign_units}
use Rattle.bj_writer.proofs.Behind.{is_ascii}
use Rattle.bj_writer.proofs.Whole.{IsAlone, IsWhole, nothing, single, IsCut, cut, join_whole, alone_apart}
use Rattle.bj_writer.proofs.Written.{written-nil, written-mark, written-space, written-line}

-- cut behind units that are no surrogates
abbrev are_low : List ℕ → Bool
are_low us = list_all (λ u. ltb u 0xD800) us

low_one : (u : ℕ) (us : List ℕ) → are_low (u ∷ us) ≡ true → are_low us ≡ true
low_one u us e = (and_true (ltb u 0xD800) (are_low us) e).1

low_no_half : (vs : List ℕ) (u : ℕ) → IsPair u (get_or vs 0 0) → are_low (u ∷ []) ≡ true → ⊥
low_no_half vs u pair e = let low = ltb-true u 0xD800 (and_true (ltb u 0xD800) true e).0 in omega (arith, pair.0)

low_cut : (text us vs : List ℕ) → IsWhole text → text ≡ us ++ vs → are_low us ≡ true → IsCut us vs
low_cut text us vs whole is low =
    cut vs (λ (t : List ℕ). are_low t ≡ true) (λ u ws alone e. low_one u ws e) (λ u v ws pair e. low_one v ws (low_one u (v ∷ ws) e)) (low_no_half vs) text us whole is low

-- cut before a unit that is no surrogate, or at the end
cut_before : (text us vs : List ℕ) → IsWhole text → text ≡ us ++ vs → get_or vs 0 0 < 0xD800 → IsCut us vs
cut_before text us vs whole is low =
    cut vs (λ (t : List ℕ). Unit {0}) (λ u ws alone e. tt) (λ u v ws pair e. tt) (λ u pair e. absurd (omega (arith, pair.2))) text us whole is tt

-- cut behind letters and digits
parts_one : (u : ℕ) (us : List ℕ) → IsAlone u → IsParts (u ∷ us) → IsParts us
parts_one u us alone parts =
    (and_true (passes is_part_char (lone_unit_char u)) (list_all (passes is_part_char) (utf16_chars us))
    (ap (list_all (passes is_part_char)) (sym (utf16_chars_lone u us (λ pair. alone_apart u (get_or us 0 0) alone pair))) ∙ parts)).1

parts_two : (u v : ℕ) (us : List ℕ) → IsPair u v → IsParts (u ∷ v ∷ us) → IsParts us
parts_two u v us pair parts =
    (and_true (passes is_part_char (Some (surrogate_pair_char u v))) (list_all (passes is_part_char) (utf16_chars us))
    (ap (list_all (passes is_part_char)) (sym (utf16_chars_pair u v us pair)) ∙ parts)).1

parts_no_half : (vs : List ℕ) (u : ℕ) → IsPair u (get_or vs 0 0) → IsParts (u ∷ []) → ⊥
parts_no_half vs u pair parts =
    let high = pair.0 in let top = pair.1 in
    let alone : (IsPair u 0 → ⊥) = λ p. absurd (omega (arith, p.2)) in
    let one = (and_true (passes is_part_char (lone_unit_char u)) (list_all (passes is_part_char) (utf16_chars [])) (ap (list_all (passes is_part_char)) (sym (utf16_chars_lone u [] alone)) ∙ parts)).0 in
    let none = sym (ap (passes is_part_char) (lone_unit_char_surrogate u high (omega arith))) ∙ one in cc

parts_cut : (text us vs : List ℕ) → IsWhole text → text ≡ us ++ vs → IsParts us → IsCut us vs
parts_cut text us vs whole is parts = cut vs IsParts parts_one parts_two (parts_no_half vs) text us whole is parts

-- units that are no surrogates
pub low_whole : (us : List ℕ) → are_low us ≡ true → IsWhole us
low_whole [] e = nothing [] refl
low_whole (u ∷ us) e = let each = and_true (ltb u 0xD800) (are_low us) e in single (u ∷ us) u us refl (inl (ltb-true u 0xD800 each.0)) (low_whole us each.1)

low_at : (u k : ℕ) → eqb u k ≡ true → k < 0xD800 → u < 0xD800
low_at u k e h = subst (λ (n : ℕ). n < 0xD800) (sym (eqb-true u k e)) h

line_end_low : (u : ℕ) → is_line_end u ≡ true → u < 0xD800
line_end_low u e = elim (or_split (eqb u 10) (eqb u 13) e) [ inl a ↦ low_at u 10 a (omega arith) | inr b ↦ low_at u 13 b (omega arith) ]

white_low : (u : ℕ) → is_white u ≡ true → u < 0xD800
white_low u e = elim (or_split ((eqb u 32 || eqb u 9) || eqb u 12) (is_line_end u) e) [
  | inl a ↦ elim (or_split (eqb u 32 || eqb u 9) (eqb u 12) a) [
    | inl b ↦ elim (or_split (eqb u 32) (eqb u 9) b) [ inl c ↦ low_at u 32 c (omega arith) | inr d ↦ low_at u 9 d (omega arith) ]
    | inr c ↦ low_at u 12 c (omega arith)
  ]
  | inr b ↦ line_end_low u b
]

at_line_end_low : (rest : List ℕ) → IsAtLineEnd rest → get_or rest 0 0 < 0xD800
at_line_end_low [] e = omega arith
at_line_end_low (u ∷ us) e = line_end_low u e

marks_low : (us : List ℕ) → list_all is_mark_unit us ≡ true → are_low us ≡ true
marks_low [] e = refl
marks_low (u ∷ us) e =
    let each = and_true (is_mark_unit u) (list_all is_mark_unit us) e in
    let small = is_ascii u each.0 in
    ap (λ b. b && are_low us) (lt-ltb u 0xD800 (omega arith)) ∙ marks_low us each.1

-- what stands behind an element of a whole text is whole
blank_rest : (text : List ℕ) (u : ℕ) (rest : List ℕ) → IsWhole text → text ≡ u ∷ rest → is_white u ≡ true → IsWhole rest
blank_rest text u rest whole is white =
    (low_cut text (u ∷ []) rest whole is (ap (λ b. b && true) (lt-ltb u 0xD800 (white_low u white)))).rest

line_rest : (text comment rest : List ℕ) → IsWhole text → text ≡ 47 ∷ 47 ∷ (comment ++ rest) → IsAtLineEnd rest → IsWhole rest
line_rest text comment rest whole is ends =
    (cut_before (comment ++ rest) comment rest (low_cut text (47 ∷ 47 ∷ []) (comment ++ rest) whole is refl).rest refl (at_line_end_low rest ends)).rest

block_rest : (text comment rest : List ℕ) → IsWhole text → text ≡ 47 ∷ 42 ∷ (comment ++ (42 ∷ 47 ∷ rest)) → IsWhole rest
block_rest text comment rest whole is =
    let us = comment ++ (42 ∷ 47 ∷ rest) in
    let behind = (cut_before us comment (42 ∷ 47 ∷ rest) (low_cut text (47 ∷ 42 ∷ []) us whole is refl).rest refl (omega arith)).rest in
    (low_cut (42 ∷ 47 ∷ rest) (42 ∷ 47 ∷ []) rest behind refl refl).rest

quoted_cut : (mark : ℕ) (text content rest : List ℕ) → mark < 0xD800 → IsWhole text → text ≡ mark ∷ (content ++ mark ∷ rest) → IsCut (quote mark content) rest
quoted_cut mark text content rest small whole is =
    let low : are_low (mark ∷ []) ≡ true = ap (λ b. b && true) (lt-ltb mark 0xD800 small) in
    let front = low_cut text (mark ∷ []) (content ++ mark ∷ rest) whole is low in
    let inside = cut_before (content ++ mark ∷ rest) content (mark ∷ rest) front.rest refl small in
    let behind = low_cut (mark ∷ rest) (mark ∷ []) rest inside.rest refl low in
    record { front = join_whole (mark ∷ []) (content ++ (mark ∷ [])) front.front (join_whole content (mark ∷ []) inside.front behind.front); rest = behind.rest }

-- a token at the front, or one behind it
module _ (t : Spelled) where
  first_or : (tokens : List Spelled) (kind : TokenKind) (units : List ℕ) (ts : List Spelled) → tokens ≡ (kind, units) ∷ ts → IsWhole units → (StandsIn t ts → IsWhole t.1) → StandsIn t tokens → IsWhole t.1
  first_or tokens kind units ts is whole more stands = elim (subst (StandsIn t) is stands) [
    | inl e ↦ subst (λ (s : Spelled). IsWhole s.1) (sym e) whole
    | inr later ↦ more later
  ]

  pub whole_of : (stop text : List ℕ) (tokens : List Spelled) → Leads stop text tokens → IsWhole text → StandsIn t tokens → IsWhole t.1
  whole_of stop text tokens (here _ _ is none) whole stands = absurd (subst (StandsIn t) none stands)
  whole_of stop text tokens (white_space _ _ u rest is white l) whole stands = whole_of stop rest tokens l (blank_rest text u rest whole is white) stands
  whole_of stop text tokens (end_of_line_comment _ _ comment rest is free ends l) whole stands = whole_of stop rest tokens l (line_rest text comment rest whole is ends) stands
  whole_of stop text tokens (traditional_comment _ _ comment rest is free l) whole stands = whole_of stop rest tokens l (block_rest text comment rest whole is) stands
  whole_of stop text tokens (identifier _ _ word rest ts is run begins kept free same l) whole stands =
      let c = parts_cut text word rest whole is run.0 in first_or tokens _ word ts same c.front (whole_of stop rest ts l c.rest) stands
  whole_of stop text tokens (keyword _ _ word rest ts is run begins kept key same l) whole stands =
      let c = parts_cut text word rest whole is run.0 in first_or tokens _ word ts same c.front (whole_of stop rest ts l c.rest) stands
  whole_of stop text tokens (integer _ _ run rest ts v is longest no_word digit fits number same l) whole stands =
      let c = parts_cut text run rest whole is longest.0 in first_or tokens _ run ts same c.front (whole_of stop rest ts l c.rest) stands
  whole_of stop text tokens (character _ _ content rest units ts is free means one same l) whole stands =
      let c = quoted_cut 39 text content rest (omega arith) whole is in first_or tokens _ (quote 39 content) ts same c.front (whole_of stop rest ts l c.rest) stands
  whole_of stop text tokens (string _ _ content rest units ts is free means same l) whole stands =
      let c = quoted_cut 34 text content rest (omega arith) whole is in first_or tokens _ (quote 34 content) ts same c.front (whole_of stop rest ts l c.rest) stands
  whole_of stop text tokens (sign _ _ units rest ts is longest alone kept same l) whole stands =
      let c = low_cut text units rest whole is (marks_low units (sign_units units longest.0)) in first_or tokens _ units ts same c.front (whole_of stop rest ts l c.rest) stands

-- what is written of whole tokens is whole
abbrev pub AreWhole : List Spelled → Type 0
AreWhole [] = Unit {0}
AreWhole (t ∷ rest) = IsWhole t.1 × AreWhole rest

gap_whole : (last : Option Last) (kind : TokenKind) (units : List ℕ) → IsWhole (gap last kind units)
gap_whole None kind units = nothing [] refl
gap_whole (Some last) kind units = by_test (joins last kind (get_or units 0 0))
  where
    by_test : (t : Bool) → IsWhole (cond t (32 ∷ []) [])
    by_test true = low_whole (32 ∷ []) refl
    by_test false = nothing [] refl

spaces_whole : (n : ℕ) → IsWhole (spaces n)
spaces_whole zero = nothing [] refl
spaces_whole (suc n) = join_whole (32 ∷ []) (spaces n) (low_whole (32 ∷ []) refl) (spaces_whole n)

pub written_whole : (last : Option Last) (pieces : List Piece) → AreWhole (tokens_of pieces) → IsWhole (written last pieces)
written_whole last [] each = nothing (written last []) (written-nil last)
written_whole last (Mark kind units ∷ rest) each =
    let next = Some (last_of kind units) in
    subst IsWhole (sym (written-mark last kind units rest))
    (join_whole (gap last kind units) (units ++ written next rest) (gap_whole last kind units) (join_whole units (written next rest) each.0 (written_whole next rest each.1)))
written_whole last (Space ∷ rest) each =
    subst IsWhole (sym (written-space last rest)) (join_whole (32 ∷ []) (written None rest) (low_whole (32 ∷ []) refl) (written_whole None rest each))
written_whole last (Line n ∷ rest) each =
    subst IsWhole (sym (written-line last n rest))
    (join_whole (10 ∷ []) (spaces n ++ written None rest) (low_whole (10 ∷ []) refl) (join_whole (spaces n) (written None rest) (spaces_whole n) (written_whole None rest each)))
