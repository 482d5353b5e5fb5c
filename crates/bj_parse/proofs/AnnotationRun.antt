-- One turn of the loop over annotations, as the code makes it.
use Rattle.std.proofs.Common.{◌≡◌, ℕ, zero, suc, ◌+◌, ◌-◌, ◌<◌, ◌≤◌, Bool, true, false, cond, refl, sym, ap, ◌∙◌, arith}
use Rattle.bj_base.specs.declared.span.Span.{Span}
use Rattle.bj_grammar.specs.declared.terminal.Terminal.TheVariants as t
use Rattle.bj_grammar.specs.Terminal.{terminal, same_terminal}
use Rattle.bj_grammar.specs.Reader.{Text}
use Rattle.bj_class.specs.Reading.{annotation}
use Rattle.bj_parse.specs.declared.annotations.AnnotationsEnd.{AnnotationsEnd}
use Rattle.bj_parse.specs.declared.annotations.AnnotationsEnd.TheVariants as ends
use Rattle.bj_parse.specs.Early.{annotation_end, behind_one, annotations_end}

module _ (place : ℕ → Span) (most : ℕ) (s : Text) where
  abbrev run : ℕ → ℕ → AnnotationsEnd
  run n i = annotations_end place most n s i

  abbrev one : ℕ → AnnotationsEnd
  one i = annotation_end (annotation place most s i)

  ends_at : (n i : ℕ) → same_terminal (terminal (s i)) t.At ≡ false → run n i ≡ ends.Behind i
  unfolding annotations_end
  ends_at zero i e = ap (λ (b : Bool). cond b ends.Within (ends.Behind i)) e
  ends_at (suc n) i e = ap (λ (b : Bool). cond b (behind_one (one i) (λ j. run n j)) (ends.Behind i)) e

  no_turns : (i : ℕ) → same_terminal (terminal (s i)) t.At ≡ true → run 0 i ≡ ends.Within
  unfolding annotations_end
  no_turns i e = ap (λ (b : Bool). cond b ends.Within (ends.Behind i)) e

  one_turn : (n i : ℕ) → same_terminal (terminal (s i)) t.At ≡ true → run (suc n) i ≡ behind_one (one i) (λ j. run n j)
  unfolding annotations_end
  one_turn n i e = ap (λ (b : Bool). cond b (behind_one (one i) (λ j. run n j)) (ends.Behind i)) e

  module _ (before : AnnotationsEnd) (turns turn at : ℕ) (so_far : before ≡ run (turns - turn) at) where
    pub stops : same_terminal (terminal (s at)) t.At ≡ false → before ≡ ends.Behind at
    stops e = so_far ∙ ends_at (turns - turn) at e

    pub too_many : turns ≤ turn → same_terminal (terminal (s at)) t.At ≡ true → before ≡ ends.Within
    too_many above e = so_far ∙ (ap (λ (n : ℕ). run n at) (let is : turns - turn ≡ 0 = omega arith in is) ∙ no_turns at e)

    turned : turn < turns → same_terminal (terminal (s at)) t.At ≡ true → before ≡ behind_one (one at) (λ j. run (turns - (turn + 1)) j)
    turned below e = so_far ∙ (ap (λ (n : ℕ). run n at) (let is : turns - turn ≡ suc (turns - (turn + 1)) = omega arith in is) ∙ one_turn (turns - (turn + 1)) at e)

    pub goes : turn < turns → same_terminal (terminal (s at)) t.At ≡ true → (j : ℕ) → ends.Behind j ≡ one at → before ≡ run (turns - (turn + 1)) j
    goes below e j is = turned below e ∙ ap (λ (x : AnnotationsEnd). behind_one x (λ j. run (turns - (turn + 1)) j)) (sym is)

    pub ended : turn < turns → same_terminal (terminal (s at)) t.At ≡ true → (e : AnnotationsEnd) → e ≡ one at → ((j : ℕ) → e ≡ ends.Behind j → ⊥) → before ≡ e
    ended below is_at e is other = turned below is_at ∙ (ap (λ (x : AnnotationsEnd). behind_one x (λ j. run (turns - (turn + 1)) j)) (sym is) ∙ same e other)
      where
        same : (e : AnnotationsEnd) → ((j : ℕ) → e ≡ ends.Behind j → ⊥) → behind_one e (λ j. annotations_end place most (turns - (turn + 1)) s j) ≡ e
        same (ends.Behind j) other = absurd (other j refl)
        same (ends.Unfit x) other = refl
        same ends.Within other = refl
