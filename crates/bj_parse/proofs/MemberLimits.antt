-- Where the reader of a member goes wrong behind annotations and modifiers, the reader of types has passed no limit there.
use Rattle.std.proofs.Common.{◌≡◌, ℕ, suc, ◌<◌, inl, inr, Bool, false, cond, ap, ◌∙◌, arith, List}
use Rattle.std.specs.Prelude.{◌&&◌, nat_lt}
use Rattle.std.proofs.lemmas.Bool.{and_cases, ltb-false}
use Rattle.bj_base.specs.declared.span.Span.{Span}
use Rattle.bj_tree.specs.declared.class.AnnotationTree.{AnnotationTree}
use Rattle.bj_tree.specs.declared.class.Modifier.{Modifier}
use Rattle.bj_grammar.specs.declared.terminal.Terminal.TheVariants as t
use Rattle.bj_grammar.specs.Terminal.{terminal, same_terminal}
use Rattle.bj_grammar.specs.Reader.{Text, Answer, Found, Wrong, Over, and_then}
use Rattle.bj_expr.specs.Reading.{type_at}
use Rattle.bj_class.specs.Reading as r
use Rattle.bj_class.specs.Reading.{is_called, is_static_block}
use Rattle.bj_class.proofs.NoteLaws.{annotations_laws, modifiers_laws}
use Rattle.bj_parse.proofs.MemberOwners.{Unlimited, Mark, marks_mark}

-- what passes a limit in its first part
passed : {A B : Type 0} (x : Answer A) (m : ℕ) (at : Span) (f : A → ℕ → Answer B) → x ≡ Over m at → and_then x f ≡ Over m at
passed {A} x m at f e = ap (λ (z : Answer A). and_then z f) e

-- what stands behind a part that was found
behind : {A B : Type 0} (x : Answer A) (a : A) (m : ℕ) (f : A → ℕ → Answer B) (y : Answer B) → x ≡ Found a m → f a m ≡ y → and_then x f ≡ y
behind {A} x a m f y e h = ap (λ (z : Answer A). and_then z f) e ∙ h

otherwise : {A : Type 0} (b : Bool) (x y z : Answer A) → b ≡ false → y ≡ z → cond b x y ≡ z
otherwise {A} b x y z e h = ap (λ (c : Bool). cond c x y) e ∙ h

wrong_not_over : {A : Type 0} (x : Answer A) (k m : ℕ) (at : Span) → x ≡ Wrong k → x ≡ Over m at → ⊥
wrong_not_over x k m at e h = absurd (cc)

module _ (place : ℕ → Span) (most room : ℕ) (s : Text) (n i q k : ℕ) (notes : List AnnotationTree) (ms : List Modifier)
    (annotated : r.annotations place most s n ≡ Found notes i) (modified : r.modifiers place most s i ≡ Found ms q) where
  typed_over : (m : ℕ) (at : Span) → type_at place most s q ≡ Over m at → r.typed place most room n notes ms s q ≡ Over m at
  unfolding r.typed
  typed_over m at h = passed _ m at _ h

  declared_over : same_terminal (terminal (s q)) t.Void ≡ false → is_called s q ≡ false → (m : ℕ) (at : Span) → type_at place most s q ≡ Over m at → r.declared place most room n s n ≡ Over m at
  unfolding r.declared
  declared_over void none m at h = behind _ notes i _ _ annotated (behind _ ms q _ _ modified (otherwise _ _ _ _ void (otherwise _ _ _ _ none (typed_over m at h))))

  pub unlimited : n < q → (is_static_block s n && nat_lt (suc n) k) ≡ false → r.member place most room s n ≡ Wrong k → Unlimited place most s q k
  unfolding r.member
  unlimited begins no_block stuck below void none m at h =
      wrong_not_over _ k m at stuck (otherwise _ _ _ _ mark.0 (otherwise _ _ _ _ mark.1 (otherwise _ _ _ _ block (declared_over void none m at h))))
    where
      mark : Mark (terminal (s n))
      mark = marks_mark place most s ((annotations_laws place most).sound s n notes i annotated) ((modifiers_laws place most).sound s i ms q modified) begins

      block : is_static_block s n ≡ false
      block = elim (and_cases (is_static_block s n) (nat_lt (suc n) k) no_block) [
        | inl e ↦ e
        | inr e ↦ (let l = ltb-false _ _ e in absurd (omega (arith, begins, below, l)))
      ]
