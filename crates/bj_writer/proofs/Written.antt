-- What pieces are written as, one at a time.
use Rattle.std.proofs.Common.{◌≡◌, ℕ, zero, suc, List, [], ◌∷◌, ◌++◌, refl, sym, ap, ◌∙◌, append_assoc, append-nil, Option, Some, None, slice_index, length, ◌-◌, ◌+◌, arith}
use Rattle.bj_token.specs.declared.token.TokenKind.{TokenKind}
use Rattle.bj_writer.specs.declared.writer.Last.{Last}
use Rattle.bj_writer.specs.declared.writer.Writer.{Writer}
use Rattle.bj_writer.specs.Pieces.{Piece, Mark, Space, Line, gap, last_of, spaces, written, last_after, Wrote}

pub written-nil : (last : Option Last) → written last [] ≡ []
unfolding written
written-nil last = refl

pub written-mark : (last : Option Last) (kind : TokenKind) (units : List ℕ) (rest : List Piece)
    → written last (Mark kind units ∷ rest) ≡ gap last kind units ++ (units ++ written (Some (last_of kind units)) rest)
unfolding written
written-mark last kind units rest = refl

pub written-space : (last : Option Last) (rest : List Piece) → written last (Space ∷ rest) ≡ 32 ∷ written None rest
unfolding written
written-space last rest = refl

pub written-line : (last : Option Last) (n : ℕ) (rest : List Piece) → written last (Line n ∷ rest) ≡ 10 ∷ (spaces n ++ written None rest)
unfolding written
written-line last n rest = refl

pub spaces-more : (n : ℕ) → spaces n ++ (32 ∷ []) ≡ spaces (suc n)
spaces-more zero = refl
spaces-more (suc n) = ap (λ t. 32 ∷ t) (spaces-more n)

pub one_more : (end mid front : List ℕ) (n : ℕ) → end ≡ mid ++ (32 ∷ []) → mid ≡ front ++ spaces n → end ≡ front ++ spaces (n + 1)
one_more end mid front n e f = e ∙ ap (λ t. t ++ (32 ∷ [])) f ∙ append_assoc front (spaces n) (32 ∷ []) ∙ ap (λ t. front ++ t) (spaces-more n)
    ∙ ap (λ k. front ++ spaces k) {x = suc n} {y = n + 1} (omega arith)

abbrev last_at : TokenKind → ℕ → Last
last_at kind unit = record { kind = kind; unit = unit }

-- a gap is told by the first unit alone
first_alone : (last : Option Last) (kind : TokenKind) (units : List ℕ) → gap last kind (slice_index units 0 ∷ []) ≡ gap last kind units
first_alone None kind units = refl
first_alone (Some last) kind units = refl

last_after-mark : (last : Option Last) (kind : TokenKind) (units : List ℕ) → last_after last (Mark kind units ∷ []) ≡ Some (last_of kind units)
unfolding last_after
last_after-mark last kind units = refl

last_after-space : (last : Option Last) → last_after last (Space ∷ []) ≡ None
unfolding last_after
last_after-space last = refl

last_after-line : (last : Option Last) (n : ℕ) → last_after last (Line n ∷ []) ≡ None
unfolding last_after
last_after-line last n = refl

-- what the calls of the writer leave is what the pieces are written as
module _ (old : Writer) where
  pub wrote_mark : (kind : TokenKind) (units mid end : List ℕ) (first unit : ℕ) → first ≡ slice_index units 0 → mid ≡ old.text ++ gap old.last kind (first ∷ []) → end ≡ mid ++ units
      → unit ≡ slice_index units (length units - 1) → Wrote old (record { text = end; last = Some (record { kind = kind; unit = unit }) }) (Mark kind units ∷ [])
  wrote_mark kind units mid end first unit begins before text ends = record {
    text = text ∙ ap (λ t. t ++ units) (before ∙ ap (λ u. old.text ++ gap old.last kind (u ∷ [])) begins)
        ∙ append_assoc old.text (gap old.last kind (slice_index units 0 ∷ [])) units
        ∙ ap (λ t. old.text ++ (t ++ units)) (first_alone old.last kind units)
        ∙ ap (λ t. old.text ++ (gap old.last kind units ++ t)) (sym (append-nil units) ∙ ap (λ t. units ++ t) (sym (written-nil (Some (last_of kind units)))))
        ∙ ap (λ t. old.text ++ t) (sym (written-mark old.last kind units []));
    last = ap (λ (u : ℕ). Some (last_at kind u)) ends ∙ sym (last_after-mark old.last kind units);
  }

  pub wrote_space : (end : List ℕ) → end ≡ old.text ++ (32 ∷ []) → Wrote old (record { text = end; last = None }) (Space ∷ [])
  wrote_space end text = record {
    text = text ∙ ap (λ t. old.text ++ (32 ∷ t)) (sym (written-nil None)) ∙ ap (λ t. old.text ++ t) (sym (written-space old.last []));
    last = sym (last_after-space old.last);
  }

  pub wrote_line : (end : List ℕ) (n : ℕ) → end ≡ (old.text ++ (10 ∷ [])) ++ spaces n → Wrote old (record { text = end; last = None }) (Line n ∷ [])
  wrote_line end n text = record {
    text = text ∙ append_assoc old.text (10 ∷ []) (spaces n)
        ∙ ap (λ t. old.text ++ (10 ∷ t)) (sym (append-nil (spaces n)) ∙ ap (λ t. spaces n ++ t) (sym (written-nil None))) ∙ ap (λ t. old.text ++ t) (sym (written-line old.last n []));
    last = sym (last_after-line old.last n);
  }
