-- The reader of a token that passes a test on its units, too: a word that is spelled in one way.
use Rattle.std.proofs.Common.{◌≡◌, ℕ, suc, ◌<◌, ◌≤◌, inl, inr, Bool, true, false, cond, refl, sym, ap, ◌∙◌, subst, arith, le_refl, List, Some}
use Rattle.std.specs.Prelude.{◌&&◌}
use Rattle.std.specs.Cmp.Derive.{both_true}
use Rattle.std.proofs.lemmas.Bool.{cases_lt}
use Rattle.std.proofs.lemmas.Slice.Eq.{bytes_eq-Decides}
use Rattle.bj_base.specs.declared.span.Span.{Span}
use Rattle.bj_token.specs.declared.token.Token.{Token}
use Rattle.bj_token.specs.declared.token.TokenKind.TheVariants as kinds
use Rattle.bj_grammar.specs.declared.terminal.Terminal.{Terminal}
use Rattle.bj_grammar.specs.declared.terminal.Terminal.TheVariants as t
use Rattle.bj_grammar.specs.Terminal.{terminal}
use Rattle.bj_grammar.specs.Reader.{Text, Found, Wrong, Parser}
use Rattle.bj_grammar.proofs.Terminals.{is_token}
use Rattle.bj_grammar.proofs.Laws.{Rel, Shape, Completes, Laws, Outcome, reached, reached_stop, stop, halted, halted_reached, kind_is, is_kind, put, put_here, put_before, later, renamed}
use Rattle.bj_class.specs.Reading as r
use Rattle.bj_class.specs.Reading.{is_spelled}

-- ---- a token that passes a test

pub record Passing {A : Type 0} (test : Token → Bool) (Q : Rel A) (s : Text) (a : A) (i j : ℕ) : Type 0 where
  pub passes : test (s i) ≡ true
  pub rest : Q s a (suc i) j

abbrev pub passing : {A : Type 0} → (Token → Bool) → Parser A → Parser A
passing test q = λ s i. cond (test (s i)) (q s (suc i)) (Wrong i)

module _ {A : Type 0} (test : Token → Bool) (v : Token) (is_one : test v ≡ true) (Q : Rel A) where
  pub passing_shape : Shape Q → Shape (Passing test Q)
  passing_shape u = record {
    forward = λ s a i j d. let h = u.forward s a (suc i) j d.rest in omega arith;
    frame = λ s t a i j e d.
        let h : suc i ≤ j = u.forward s a (suc i) j d.rest in
        record { passes = ap test (e i (omega arith)) ∙ d.passes; rest = u.frame s t a (suc i) j e d.rest };
    some = λ s i.
        let c = u.some (put s i v) (suc i) in
        let le : suc i ≤ c.after = c.beyond in
        let here : c.text i ≡ v = c.same i (omega arith) ∙ put_here s i v in
        record {
          text = c.text;
          tree = c.tree;
          after = c.after;
          same = λ x h. c.same x (omega arith) ∙ put_before s i v x h;
          beyond = omega arith;
          stands = record { passes = ap test here ∙ is_one; rest = c.stands };
        };
  }

module _ {A : Type 0} (n : ℕ) (test : Token → Bool) (v : Token) (is_one : test v ≡ true) (tokens : (x : Token) → test x ≡ true → is_token (terminal x) ≡ true)
    (q : Parser A) (Q : Rel A) (E : A → Terminal → Type 0) (T : Span → A → Type 0) where
  pub passing_laws : Laws n q Q E T → Laws n (passing test q) (Passing test Q) E T
  passing_laws u = record {
    shape = passing_shape test v is_one Q u.shape;
    onward = λ s i. onward_at s i (test (s i));
    local = λ s t i e. local_at s t i (test (s i)) refl e;
    sound = λ s i a j e. sound_at s i a j (test (s i)) refl e;
    inside = λ s i x low high. inside_at s i x (test (s i)) refl low high;
    complete = λ s i a j d last. subst (λ (b : Bool). Outcome n T (cond b (q s (suc i)) (Wrong i)) a i j) (sym d.passes) (later n T _ a i j (u.complete s (suc i) a j d.rest last));
    viable = λ s i o e. viable_at s i o (test (s i)) refl e;
  }
    where
      onward_at : (s : Text) (i : ℕ) (b : Bool) → i ≤ reached (cond b (q s (suc i)) (Wrong i))
      onward_at s i true = let h = u.onward s (suc i) in omega arith
      onward_at s i false = le_refl i

      local_at : (s t : Text) (i : ℕ) (b : Bool) → test (s i) ≡ b → ((x : ℕ) → x ≤ stop (cond b (q s (suc i)) (Wrong i)) → t x ≡ s x) → passing test q t i ≡ cond b (q s (suc i)) (Wrong i)
      local_at s t i true is e =
          let h = u.onward s (suc i) in
          let k = reached_stop (q s (suc i)) in
          let here : t i ≡ s i = e i (omega arith) in
          ap (λ (b : Bool). cond b (q t (suc i)) (Wrong i)) (ap test here ∙ is) ∙ u.local s t (suc i) e
      local_at s t i false is e = ap (λ (b : Bool). cond b (q t (suc i)) (Wrong i)) (ap test (e i (le_refl i)) ∙ is)

      sound_at : (s : Text) (i : ℕ) (a : A) (j : ℕ) (b : Bool) → test (s i) ≡ b → cond b (q s (suc i)) (Wrong i) ≡ Found a j → Passing test Q s a i j
      sound_at s i a j true is e = record { passes = is; rest = u.sound s (suc i) a j e }
      sound_at s i a j false is e = absurd (cc)

      inside_at : (s : Text) (i x : ℕ) (b : Bool) → test (s i) ≡ b → i ≤ x → x < reached (cond b (q s (suc i)) (Wrong i)) → is_token (terminal (s x)) ≡ true
      inside_at s i x true is low high =
          elim (cases_lt i x) [
            | inl h ↦ u.inside s (suc i) x h high
            | inr h ↦ (let here : i ≡ x = omega arith in ap (λ (m : ℕ). is_token (terminal (s m))) (sym here) ∙ tokens (s i) is)
          ]
      inside_at s i x false is low high = absurd (omega arith)

      viable_at : (s : Text) (i o : ℕ) (b : Bool) → test (s i) ≡ b → halted (cond b (q s (suc i)) (Wrong i)) ≡ Some o → Completes (Passing test Q) s i o
      viable_at s i o true is e =
          let c = u.viable s (suc i) o e in
          let le : suc i ≤ o = subst (λ (x : ℕ). suc i ≤ x) (halted_reached _ o e) (u.onward s (suc i)) in
          record {
            text = c.text;
            tree = c.tree;
            after = c.after;
            same = c.same;
            beyond = c.beyond;
            stands = record { passes = ap test (c.same i (omega arith)) ∙ is; rest = c.stands };
          }
      viable_at s i o false is e =
          let at : i ≡ o = cc in
          subst (λ (x : ℕ). Completes (Passing test Q) s i x) at ((passing_shape test v is_one Q u.shape).some s i)

-- ---- a word that is spelled so

pub record Spelled {A : Type 0} (units : List ℕ) (Q : Rel A) (s : Text) (a : A) (i j : ℕ) : Type 0 where
  pub kind : terminal (s i) ≡ t.Word
  pub text : (s i).text ≡ units
  pub rest : Q s a (suc i) j

-- such a word
abbrev word_of : List ℕ → Token
word_of units = record { kind = kinds.Word; at = record { line = 1; column = 1 }; text = units }

of_word : (units : List ℕ) → terminal (word_of units) ≡ t.Word
unfolding terminal
of_word units = refl

both_parts : (a b : Bool) → (a && b) ≡ true → (a ≡ true) × (b ≡ true)
both_parts true b e = (refl, e)
both_parts false b e = absurd (cc)

says_spelled : (units : List ℕ) (v : Token) → is_spelled units v ≡ true → (terminal v ≡ t.Word) × (v.text ≡ units)
says_spelled units v e = let w = both_parts _ _ e in (kind_is _ _ w.0, (bytes_eq-Decides v.text units).0 w.1)

spelled_says : (units : List ℕ) (v : Token) → terminal v ≡ t.Word → v.text ≡ units → is_spelled units v ≡ true
spelled_says units v o e = both_true (is_kind _ _ o) ((bytes_eq-Decides v.text units).1 e)

word_is_token : (units : List ℕ) (v : Token) → is_spelled units v ≡ true → is_token (terminal v) ≡ true
word_is_token units v e = ap is_token (says_spelled units v e).0

module _ {A : Type 0} {n : ℕ} {q : Parser A} {Q : Rel A} {E : A → Terminal → Type 0} {T : Span → A → Type 0} (units : List ℕ) where
  pub spelled_laws : Laws n q Q E T → Laws n (r.spelled units q) (Spelled units Q) E T
  spelled_laws u = renamed (Spelled units Q) E
      (passing_laws n (is_spelled units) (word_of units) (spelled_says units (word_of units) (of_word units) refl) (word_is_token units) q Q E T u)
      (λ s a i j d. let w = says_spelled units (s i) d.passes in record { kind = w.0; text = w.1; rest = d.rest })
      (λ s a i j d. record { passes = spelled_says units (s i) d.kind d.text; rest = d.rest }) (λ a x e. e)
