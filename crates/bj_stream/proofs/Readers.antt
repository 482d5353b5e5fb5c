-- What a reader keeps.
use Rattle.std.proofs.Common.{◌≡◌, ◌≤◌, ◌<◌, ◌+◌, ◌-◌, ℕ, length, get_or, drop, List, [], ◌∷◌, ◌++◌, Bool, true, false, sym, ◌∙◌, refl, arith, length-append}
use Rattle.std.proofs.lemmas.List.{append-nil}
use Rattle.std.proofs.lemmas.Grind.{common_steps}
use Rattle.bj_command.specs.declared.cut.Lines.{Lines}
use Rattle.bj_command.specs.Words.{is_quit}
use Rattle.bj_command.specs.Items.{items, line_then, last_line, lines_begun, begins_line, is_lf}
use Rattle.bj_stream.specs.Reading.{IsReader, HasNoLf, MayStill}

begun_more : (first : Bool) (xs ys : List ℕ) → lines_begun first (xs ++ ys) ≡ lines_begun first xs + lines_begun (begins_line first xs) ys
begun_more first [] ys = omega arith
begun_more first (x ∷ xs) ys = let h = begun_more (is_lf x) xs ys in omega arith

begins_more : (first : Bool) (xs ys : List ℕ) → begins_line first (xs ++ ys) ≡ begins_line (begins_line first xs) ys
begins_more first [] ys = refl
begins_more first (x ∷ xs) ys = begins_more (is_lf x) xs ys

get_front : (xs ys : List ℕ) (k : ℕ) → k < length xs → get_or (xs ++ ys) k 0 ≡ get_or xs k 0
get_front xs ys k lt = grind (arith, common_steps)

-- a piece more
pub reader_more : (got piece : List ℕ) (cut scanned : ℕ) (lines lines' : Lines) (ended kept : Bool) → IsReader got cut scanned lines ended kept
    → lines'.begun ≡ lines.begun + lines_begun lines.first piece → lines'.first ≡ begins_line lines.first piece → lines'.begun ≤ lines.begun + length piece
    → (ended' : Bool) → ended' ≡ ended → IsReader (got ++ piece) cut scanned lines' ended' kept
reader_more got piece cut scanned lines lines' ended kept r begun first bound ended' same = record {
  cut_within = r.cut_within;
  within = let w = r.within in omega (arith, length-append got piece);
  none = λ k low high is. r.none k low high (sym (get_front got piece k (let w = r.within in omega arith)) ∙ is);
  begun = begun ∙ (rw (r.begun, r.first) (sym (begun_more true got piece)));
  first = first ∙ (rw r.first (sym (begins_more true got piece)));
  few = let f = r.few in omega (arith, length-append got piece);
  known = same ∙ r.known;
}

-- all was looked at
pub reader_scanned : (got : List ℕ) (cut scanned : ℕ) (lines : Lines) (ended kept : Bool) → IsReader got cut scanned lines ended kept → HasNoLf (drop cut got)
    → IsReader got cut (length got) lines ended kept
reader_scanned got cut scanned lines ended kept r none = record {
  cut_within = let a = r.cut_within in let w = r.within in omega arith;
  within = omega arith;
  none = λ k low high is.
      let at : get_or (drop cut got) (k - cut) 0 ≡ get_or got k 0 = grind (arith, common_steps) in
      none (k - cut) (grind (arith, common_steps)) (at ∙ is);
  begun = r.begun;
  first = r.first;
  few = r.few;
  known = r.known;
}

one_line : (b : Bool) (line : List ℕ) → is_quit line ≡ b → line ∷ [] ≡ line_then line []
one_line true line e = rw e refl
one_line false line e = rw e refl

-- the last line, where the bytes have ended
pub takes_last : (rest more : List ℕ) (ended : Bool) → 0 < length rest → items rest true ≡ last_line rest true → MayStill true more ended → items (rest ++ more) ended ≡ line_then rest (items ([] ++ more) ended)
takes_last [] more ended some last may = absurd (omega arith)
takes_last (b ∷ bs) more ended some last may = rw (may.0, may.1, append-nil bs) (last ∙ one_line (is_quit (b ∷ bs)) (b ∷ bs) refl)
