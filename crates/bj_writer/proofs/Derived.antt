-- What pieces are written as is derived: it has their tokens.
use Rattle.std.proofs.Common.{◌≡◌, ℕ, zero, suc, Bool, true, false, ◌&&◌, cond, List, [], ◌∷◌, ◌++◌, get_or, codes, refl, sym, ap, ◌∙◌, subst, Option, Some, None}
use Rattle.bj_token.specs.declared.token.TokenKind.{TokenKind}
use Rattle.bj_token.specs.declared.token.TokenKind.TheVariants.{Word, Keyword, Number, LongNumber, CharText, StringText, Sign}
use Rattle.bj_lex.specs.Characters.{passes, is_letter_char, begins_word, begins_part}
use Rattle.bj_lex.specs.Numerals.{is_digit_in, number_kind}
use Rattle.bj_lex.specs.Signs.{is_one_of, is_sign as is_sign_text}
use Rattle.bj_lex.specs.Grammar.{Spelled, IsParts, Leads, Lexes, here, white_space, identifier, keyword, integer, character, string, sign}
use Rattle.bj_lex.proofs.Letters.{or_none}
use Rattle.bj_lex.proofs.Chain.{quote_split}
use Rattle.bj_writer.specs.declared.writer.Last.{Last}
use Rattle.bj_writer.specs.Pieces.{Piece, Mark, Space, Line, tokens_of, is_run, is_number, is_sign, signs_join, joins, gap, last_of, spaces, written}
use Rattle.bj_writer.proofs.Conditions.{and_denied}
use Rattle.bj_writer.proofs.Joining.{is_mark_unit}
use Rattle.bj_writer.proofs.Behind.{Behind, behind_end, behind_space, behind_line, mark_no_part, number_whole}
use Rattle.bj_writer.proofs.Marks.{IsNumber, IsQuoted, IsMark, same_front}
use Rattle.bj_writer.proofs.Signs.{first_unit, still_longest, still_alone, still_kept}
use Rattle.bj_writer.proofs.Written.{written-nil, written-mark, written-space, written-line}

-- a run begins as it does alone
word_begins : (word rest : List ℕ) → IsParts word → begins_word word ≡ true → begins_word (word ++ rest) ≡ true
word_begins [] rest parts begins = cc
word_begins (u ∷ word) rest parts begins = ap (passes is_letter_char) (same_front u word rest parts) ∙ begins

number_begins : (units rest : List ℕ) → IsNumber units → (begins_word (units ++ rest) ≡ false) × (is_digit_in 10 (get_or (units ++ rest) 0 0) ≡ true)
number_begins [] rest m = let digit = m.digit in cc
number_begins (u ∷ us) rest m = (ap (passes is_letter_char) (same_front u us rest m.parts) ∙ m.no_word, m.digit)

-- a token before what may stand behind it, and what is derived of that
module _ (units rest : List ℕ) (ts : List Spelled) (l : Leads [] rest ts) where
  number_leads : (kind : TokenKind) → IsNumber units → number_kind units ≡ kind → begins_part rest ≡ false → is_one_of (codes ".+-") (get_or rest 0 0) ≡ false → Leads [] (units ++ rest) ((kind, units) ∷ ts)
  number_leads kind m same stops apart =
      let begins = number_begins units rest m in
      integer (units ++ rest) ((kind, units) ∷ ts) units rest ts m.value refl (m.parts, stops) begins.0 begins.1 (number_whole m.before rest apart units m.whole) m.stands_for
      (ap (λ k. (k, units) ∷ ts) (sym same)) l

  pub mark_leads : (kind : TokenKind) → IsMark kind units → Behind (last_of kind units) rest → Leads [] (units ++ rest) ((kind, units) ∷ ts)
  mark_leads Word m b = identifier (units ++ rest) ((Word, units) ∷ ts) units rest ts refl (m.0.parts, b.stops refl) (word_begins units rest m.0.parts m.0.begins) m.0.kept m.1 refl l
  mark_leads Keyword m b = keyword (units ++ rest) ((Keyword, units) ∷ ts) units rest ts refl (m.0.parts, b.stops refl) (word_begins units rest m.0.parts m.0.begins) m.0.kept m.1 refl l
  mark_leads Number m b = number_leads Number m.0 m.1 (b.stops refl) (b.whole refl)
  mark_leads LongNumber m b = number_leads LongNumber m.0 m.1 (b.stops refl) (b.whole refl)
  mark_leads CharText m b =
      character (units ++ rest) ((CharText, units) ∷ ts) m.quoted.content rest m.quoted.meant ts (ap (λ us. us ++ rest) m.quoted.is ∙ sym (quote_split 39 m.quoted.content rest))
      m.quoted.inside m.quoted.means m.one (ap (λ us. (CharText, us) ∷ ts) m.quoted.is) l
  mark_leads StringText m b =
      string (units ++ rest) ((StringText, units) ∷ ts) m.content rest m.meant ts (ap (λ us. us ++ rest) m.is ∙ sym (quote_split 34 m.content rest)) m.inside m.means
      (ap (λ us. (StringText, us) ∷ ts) m.is) l
  mark_leads Sign m b =
      let apart = b.apart refl in
      sign (units ++ rest) ((Sign, units) ∷ ts) units rest ts refl (still_longest units rest m.is apart) (still_alone units m.before rest m.is apart m.alone)
      (still_kept units m.before rest m.is apart m.kept) refl l

-- what begins with a token that does not join with the last one may stand behind that
quoted_no_part : (mark : ℕ) (units rest : List ℕ) → is_mark_unit mark ≡ true → IsQuoted mark units → begins_part (units ++ rest) ≡ false
quoted_no_part mark units rest plain q = ap (λ us. begins_part (us ++ rest)) q.is ∙ mark_no_part mark ((q.content ++ (mark ∷ [])) ++ rest) plain

sign_no_part : (units rest : List ℕ) → is_sign_text units ≡ true → begins_part (units ++ rest) ≡ false
sign_no_part [] rest e = cc
sign_no_part (u ∷ us) rest e = mark_no_part u (us ++ rest) (first_unit u us e)

no_part_of : (kind : TokenKind) (units rest : List ℕ) → IsMark kind units → is_run kind ≡ false → begins_part (units ++ rest) ≡ false
no_part_of Word units rest m e = cc
no_part_of Keyword units rest m e = cc
no_part_of Number units rest m e = cc
no_part_of LongNumber units rest m e = cc
no_part_of CharText units rest m e = quoted_no_part 39 units rest refl m.quoted
no_part_of StringText units rest m e = quoted_no_part 34 units rest refl m
no_part_of Sign units rest m e = sign_no_part units rest m.is

-- a token has a unit
no_quoted : (mark : ℕ) → IsQuoted mark [] → ⊥
no_quoted mark q = let none = q.is in cc

some_unit : (kind : TokenKind) → IsMark kind [] → ⊥
some_unit Word m = let none = m.0.begins in cc
some_unit Keyword m = let none = m.0.begins in cc
some_unit Number m = let none = m.0.digit in cc
some_unit LongNumber m = let none = m.0.digit in cc
some_unit CharText m = no_quoted 39 m.quoted
some_unit StringText m = no_quoted 34 m
some_unit Sign m = let none = m.is in cc

behind_mark : (last : Last) (kind : TokenKind) (units rest : List ℕ) → IsMark kind units → joins last kind (get_or units 0 0) ≡ false → Behind last (units ++ rest)
behind_mark last kind [] rest m apart = absurd (some_unit kind m)
behind_mark last kind (u ∷ us) rest m apart =
    let runs = or_none (is_run last.kind && is_run kind) _ apart in
    let numbers = or_none (is_number last.kind && is_one_of (codes ".+-") u) (is_sign last.kind && signs_join last.unit u) runs.1 in
    record {
      stops = λ e. no_part_of kind (u ∷ us) rest m (and_denied (is_run last.kind) (is_run kind) e runs.0);
      whole = λ e. and_denied (is_number last.kind) (is_one_of (codes ".+-") u) e numbers.0;
      apart = λ e. and_denied (is_sign last.kind) (signs_join last.unit u) e numbers.1;
    }

-- what may stand behind a token, if there is one
abbrev MayFollow : Option Last → List ℕ → Type 0
MayFollow None rest = Unit {0}
MayFollow (Some last) rest = Behind last rest

record IsDerived (last : Option Last) (text : List ℕ) (tokens : List Spelled) : Type 0 where
  leads : Leads [] text tokens
  follows : MayFollow last text

blank_leads : (rest : List ℕ) (tokens : List Spelled) → Leads [] rest tokens → Leads [] (32 ∷ rest) tokens
blank_leads rest tokens l = white_space (32 ∷ rest) tokens 32 rest refl refl l

spaces_lead : (n : ℕ) (rest : List ℕ) (tokens : List Spelled) → Leads [] rest tokens → Leads [] (spaces n ++ rest) tokens
spaces_lead zero rest tokens l = l
spaces_lead (suc n) rest tokens l = blank_leads (spaces n ++ rest) tokens (spaces_lead n rest tokens l)

end_follows : (last : Option Last) → MayFollow last []
end_follows None = tt
end_follows (Some last) = behind_end last

space_follows : (last : Option Last) (rest : List ℕ) → MayFollow last (32 ∷ rest)
space_follows None rest = tt
space_follows (Some last) rest = behind_space last rest

line_follows : (last : Option Last) (rest : List ℕ) → MayFollow last (10 ∷ rest)
line_follows None rest = tt
line_follows (Some last) rest = behind_line last rest

-- a token behind its gap
mark_derived : (last : Option Last) (kind : TokenKind) (units rest : List ℕ) (tokens : List Spelled) → IsMark kind units → Leads [] (units ++ rest) tokens → IsDerived last (gap last kind units ++ (units ++ rest)) tokens
mark_derived None kind units rest tokens m l = record { leads = l; follows = tt }
mark_derived (Some last) kind units rest tokens m l = by_test (joins last kind (get_or units 0 0)) refl
  where
    by_test : (t : Bool) → joins last kind (get_or units 0 0) ≡ t → IsDerived (Some last) (cond t (32 ∷ []) [] ++ (units ++ rest)) tokens
    by_test true e = record { leads = blank_leads (units ++ rest) tokens l; follows = behind_space last (units ++ rest) }
    by_test false e = record { leads = l; follows = behind_mark last kind units rest m e }

abbrev pub AreMarks : List Spelled → Type 0
AreMarks [] = Unit {0}
AreMarks (t ∷ rest) = IsMark t.0 t.1 × AreMarks rest

derived_behind : (last : Option Last) (pieces : List Piece) → AreMarks (tokens_of pieces) → IsDerived last (written last pieces) (tokens_of pieces)
derived_behind last [] m =
    record { leads = here (written last []) [] (written-nil last) refl; follows = subst (MayFollow last) (sym (written-nil last)) (end_follows last) }
derived_behind last (Mark kind units ∷ rest) m =
    let more = derived_behind (Some (last_of kind units)) rest m.1 in
    let text = written (Some (last_of kind units)) rest in
    subst (λ (t : List ℕ). IsDerived last t ((kind, units) ∷ tokens_of rest)) (sym (written-mark last kind units rest))
    (mark_derived last kind units text ((kind, units) ∷ tokens_of rest) m.0 (mark_leads units text (tokens_of rest) more.leads kind m.0 more.follows))
derived_behind last (Space ∷ rest) m =
    let more = derived_behind None rest m in
    subst (λ (t : List ℕ). IsDerived last t (tokens_of rest)) (sym (written-space last rest))
    (record { leads = blank_leads (written None rest) (tokens_of rest) more.leads; follows = space_follows last (written None rest) })
derived_behind last (Line n ∷ rest) m =
    let more = derived_behind None rest m in
    let text = spaces n ++ written None rest in
    subst (λ (t : List ℕ). IsDerived last t (tokens_of rest)) (sym (written-line last n rest))
    (record { leads = white_space (10 ∷ text) (tokens_of rest) 10 text refl refl (spaces_lead n (written None rest) (tokens_of rest) more.leads); follows = line_follows last text })

-- so what is written of tokens has these tokens
pub written_lexes : (pieces : List Piece) → AreMarks (tokens_of pieces) → Lexes (written None pieces) (tokens_of pieces)
written_lexes pieces m = (derived_behind None pieces m).leads
