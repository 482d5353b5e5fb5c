-- Whether a cast stands at a place, step by step.
use Rattle.std.proofs.Common.{◌≡◌, ℕ, suc, Bool, true, false, refl, sym, ap, ◌∙◌}
use Rattle.std.specs.Prelude.{◌&&◌, ◌||◌}
use Rattle.bj_grammar.specs.declared.terminal.Terminal.{Terminal}
use Rattle.bj_grammar.specs.declared.terminal.Terminal.TheVariants as t
use Rattle.bj_grammar.specs.Terminal.{terminal, same_terminal, among}
use Rattle.bj_grammar.specs.Reader.{Text}
use Rattle.bj_expr.specs.Grammar.{primitives}
use Rattle.bj_expr.specs.Reading.{is_cast, begins_plain}
use Rattle.bj_grammar.proofs.Laws.{kind_is}

-- ---- casts

abbrev Value : Bool → Bool → Bool → Bool → Bool → Bool → Bool → Bool
Value p b w c q l x = p && (b || (w && ((c && q) || (l && x))))

value_is : (p b w c q l x p2 b2 w2 c2 q2 l2 x2 : Bool) → p ≡ p2 → b ≡ b2 → w ≡ w2 → c ≡ c2 → q ≡ q2 → l ≡ l2 → x ≡ x2 → Value p b w c q l x ≡ Value p2 b2 w2 c2 q2 l2 x2
value_is p b w c q l x p2 b2 w2 c2 q2 l2 x2 e1 e2 e3 e4 e5 e6 e7 =
    ap (λ z. Value z b w c q l x) e1 ∙ (ap (λ z. Value p2 z w c q l x) e2 ∙ (ap (λ z. Value p2 b2 z c q l x) e3 ∙ (ap (λ z. Value p2 b2 w2 z q l x) e4
    ∙ (ap (λ z. Value p2 b2 w2 c2 z l x) e5 ∙ (ap (λ z. Value p2 b2 w2 c2 q2 z x) e6 ∙ ap (λ z. Value p2 b2 w2 c2 q2 l2 z) e7)))))

or_none : (b : Bool) → (b || false) ≡ b
or_none true = refl
or_none false = refl

no_bracket : (x : Terminal) → x ≡ t.RightParen → same_terminal x t.LeftBracket ≡ false
unfolding same_terminal
no_bracket x e = ap (λ (z : Terminal). same_terminal z t.LeftBracket) e

module _ (s : Text) (i : ℕ) where
  pub cast_end : (b : Bool) → b ≡ false → same_terminal (terminal (s i)) t.LeftParen ≡ false → b ≡ is_cast s i
  cast_end b e none = e ∙ sym (value_is _ (among primitives (terminal (s (suc i)))) (same_terminal (terminal (s (suc i))) t.Word) (same_terminal (terminal (s (suc (suc i)))) t.RightParen) (among begins_plain (terminal (s (suc (suc (suc i)))))) (same_terminal (terminal (s (suc (suc i)))) t.LeftBracket) (same_terminal (terminal (s (suc (suc (suc i))))) t.RightBracket) false (among primitives (terminal (s (suc i)))) (same_terminal (terminal (s (suc i))) t.Word) (same_terminal (terminal (s (suc (suc i)))) t.RightParen) (among begins_plain (terminal (s (suc (suc (suc i)))))) (same_terminal (terminal (s (suc (suc i)))) t.LeftBracket) (same_terminal (terminal (s (suc (suc (suc i))))) t.RightBracket) none refl refl refl refl refl refl)

  module _ (a1 a2 a3 : ℕ) (e1 : a1 ≡ suc i) (e2 : a2 ≡ suc (suc i)) (e3 : a3 ≡ suc (suc (suc i))) (open_is : same_terminal (terminal (s i)) t.LeftParen ≡ true) where
    primitive_at : (b : Bool) → among primitives (terminal (s a1)) ≡ b → among primitives (terminal (s (suc i))) ≡ b
    primitive_at b e = ap (λ (m : ℕ). among primitives (terminal (s m))) (sym e1) ∙ e

    word_at : (b : Bool) → same_terminal (terminal (s a1)) t.Word ≡ b → same_terminal (terminal (s (suc i))) t.Word ≡ b
    word_at b e = ap (λ (m : ℕ). same_terminal (terminal (s m)) t.Word) (sym e1) ∙ e

    close_at : (b : Bool) → same_terminal (terminal (s a2)) t.RightParen ≡ b → same_terminal (terminal (s (suc (suc i)))) t.RightParen ≡ b
    close_at b e = ap (λ (m : ℕ). same_terminal (terminal (s m)) t.RightParen) (sym e2) ∙ e

    bracket_at : (b : Bool) → same_terminal (terminal (s a2)) t.LeftBracket ≡ b → same_terminal (terminal (s (suc (suc i)))) t.LeftBracket ≡ b
    bracket_at b e = ap (λ (m : ℕ). same_terminal (terminal (s m)) t.LeftBracket) (sym e2) ∙ e

    pub cast_primitive : (b : Bool) → b ≡ true → among primitives (terminal (s a1)) ≡ true → b ≡ is_cast s i
    cast_primitive b e p = e ∙ sym (value_is _ _ (same_terminal (terminal (s (suc i))) t.Word) (same_terminal (terminal (s (suc (suc i)))) t.RightParen) (among begins_plain (terminal (s (suc (suc (suc i)))))) (same_terminal (terminal (s (suc (suc i)))) t.LeftBracket) (same_terminal (terminal (s (suc (suc (suc i))))) t.RightBracket) true true (same_terminal (terminal (s (suc i))) t.Word) (same_terminal (terminal (s (suc (suc i)))) t.RightParen) (among begins_plain (terminal (s (suc (suc (suc i)))))) (same_terminal (terminal (s (suc (suc i)))) t.LeftBracket) (same_terminal (terminal (s (suc (suc (suc i))))) t.RightBracket) open_is (primitive_at true p) refl refl refl refl refl)

    pub cast_no_word : (b : Bool) → b ≡ false → among primitives (terminal (s a1)) ≡ false → same_terminal (terminal (s a1)) t.Word ≡ false → b ≡ is_cast s i
    cast_no_word b e p w = e ∙ sym (value_is _ _ _ (same_terminal (terminal (s (suc (suc i)))) t.RightParen) (among begins_plain (terminal (s (suc (suc (suc i)))))) (same_terminal (terminal (s (suc (suc i)))) t.LeftBracket) (same_terminal (terminal (s (suc (suc (suc i))))) t.RightBracket) true false false (same_terminal (terminal (s (suc (suc i)))) t.RightParen) (among begins_plain (terminal (s (suc (suc (suc i)))))) (same_terminal (terminal (s (suc (suc i)))) t.LeftBracket) (same_terminal (terminal (s (suc (suc (suc i))))) t.RightBracket) open_is (primitive_at false p) (word_at false w) refl refl refl refl)

    pub cast_close : (b : Bool) → b ≡ among begins_plain (terminal (s a3)) → among primitives (terminal (s a1)) ≡ false → same_terminal (terminal (s a1)) t.Word ≡ true → same_terminal (terminal (s a2)) t.RightParen ≡ true → b ≡ is_cast s i
    cast_close b e p w c =
        let c2 = close_at true c in
        let no = no_bracket (terminal (s (suc (suc i)))) (kind_is _ _ c2) in
        e ∙ (ap (λ (m : ℕ). among begins_plain (terminal (s m))) e3
        ∙ (sym (or_none (among begins_plain (terminal (s (suc (suc (suc i)))))))
        ∙ sym (value_is _ _ _ _ (among begins_plain (terminal (s (suc (suc (suc i)))))) _ (same_terminal (terminal (s (suc (suc (suc i))))) t.RightBracket) true false true true (among begins_plain (terminal (s (suc (suc (suc i)))))) false (same_terminal (terminal (s (suc (suc (suc i))))) t.RightBracket)
        open_is (primitive_at false p) (word_at true w) c2 refl no refl)))

    pub cast_no_bracket : (b : Bool) → b ≡ false → among primitives (terminal (s a1)) ≡ false → same_terminal (terminal (s a1)) t.Word ≡ true → same_terminal (terminal (s a2)) t.RightParen ≡ false
        → same_terminal (terminal (s a2)) t.LeftBracket ≡ false → b ≡ is_cast s i
    cast_no_bracket b e p w c l = e ∙ sym (value_is _ _ _ _ (among begins_plain (terminal (s (suc (suc (suc i)))))) _ (same_terminal (terminal (s (suc (suc (suc i))))) t.RightBracket) true false true false (among begins_plain (terminal (s (suc (suc (suc i)))))) false (same_terminal (terminal (s (suc (suc (suc i))))) t.RightBracket)
        open_is (primitive_at false p) (word_at true w) (close_at false c) refl (bracket_at false l) refl)

    pub cast_bracket : (b : Bool) → b ≡ same_terminal (terminal (s a3)) t.RightBracket → among primitives (terminal (s a1)) ≡ false → same_terminal (terminal (s a1)) t.Word ≡ true → same_terminal (terminal (s a2)) t.RightParen ≡ false
        → same_terminal (terminal (s a2)) t.LeftBracket ≡ true → b ≡ is_cast s i
    cast_bracket b e p w c l =
        e ∙ (ap (λ (m : ℕ). same_terminal (terminal (s m)) t.RightBracket) e3
        ∙ sym (value_is _ _ _ _ (among begins_plain (terminal (s (suc (suc (suc i)))))) _ (same_terminal (terminal (s (suc (suc (suc i))))) t.RightBracket) true false true false (among begins_plain (terminal (s (suc (suc (suc i)))))) true (same_terminal (terminal (s (suc (suc (suc i))))) t.RightBracket)
        open_is (primitive_at false p) (word_at true w) (close_at false c) refl (bracket_at true l) refl))
