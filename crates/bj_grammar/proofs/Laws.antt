-- What is proved of each rule's reader, and how it follows from its parts.
use Rattle.std.proofs.Common.{◌≡◌, ℕ, zero, suc, ◌+◌, ◌<◌, ◌≤◌, List, Option, None, Some, ◌⊎◌, inl, inr, Bool, true, false, cond, refl, sym, ap, ◌∙◌, subst, arith, le_refl}
use Rattle.std.proofs.lemmas.Bool.{eq-eqb, ne_eqb, cases_lt}
use denote.Enum.Bare.{same_true, true_same}
use lib.Dec.{eqb}
use Rattle.bj_grammar.specs.declared.terminal.Terminal.{Terminal}
use Rattle.bj_token.specs.declared.token.Token.{Token}
use Rattle.bj_grammar.specs.Terminal.{terminal, same_terminal}
use Rattle.bj_grammar.proofs.Terminals.{make, made, is_token}
use Rattle.bj_grammar.specs.contracts.terminal.Terminal.{the_type}
use Rattle.bj_base.specs.declared.span.Span.{Span}
use Rattle.bj_grammar.specs.Reader.{Text, Answer, Found, Wrong, Over, Parser, and_then, ◌>>=◌, pure, over, unless_deep, nowhere, here, operator, word, ahead, choose, loop}

pub kind_is : (a b : Terminal) → same_terminal a b ≡ true → a ≡ b
unfolding same_terminal
kind_is a b e = same_true the_type tt a b e

pub is_kind : (a b : Terminal) → a ≡ b → same_terminal a b ≡ true
unfolding same_terminal
is_kind a b e = true_same the_type a b e

-- the place up to which a reader took tokens
abbrev pub reached : {A : Type 0} → Answer A → ℕ
reached (Found a j) = j
reached (Wrong k) = k
reached (Over k at) = k

-- the place of the last token that a reader may have looked at
abbrev pub stop : {A : Type 0} → Answer A → ℕ
stop (Found a j) = j
stop (Wrong k) = k
stop (Over k at) = suc (suc (suc (suc k)))

-- the place up to which the tokens begin a text, where a reader finds no tree
abbrev pub halted : {A : Type 0} → Answer A → Option ℕ
halted (Found a j) = None
halted (Wrong k) = Some k
halted (Over k at) = Some k

pub reached_stop : {A : Type 0} (r : Answer A) → reached r ≤ stop r
reached_stop (Found a j) = le_refl j
reached_stop (Wrong k) = le_refl k
reached_stop (Over k at) = omega arith

pub halted_reached : {A : Type 0} (r : Answer A) (k : ℕ) → halted r ≡ Some k → reached r ≡ k
halted_reached (Found a j) k e = absurd (cc)
halted_reached (Wrong m) k e = cc
halted_reached (Over m at) k e = cc

-- which trees stand where
abbrev pub Rel : Type 0 → Type 1
Rel A = Text → A → ℕ → ℕ → Type 0

-- the tokens before k begin a text in which a tree stands at i, and goes on to k or beyond
pub record Completes {A : Type 0} (D : Rel A) (s : Text) (i k : ℕ) : Type 0 where
  pub text : Text
  pub tree : A
  pub after : ℕ
  pub same : (x : ℕ) → x < k → text x ≡ s x
  pub beyond : k ≤ after
  pub stands : D text tree i after

pub record Shape {A : Type 0} (D : Rel A) : Type 0 where
  pub forward : (s : Text) (a : A) (i j : ℕ) → D s a i j → i ≤ j
  pub frame : (s t : Text) (a : A) (i j : ℕ) → ((x : ℕ) → x < j → t x ≡ s x) → D s a i j → D t a i j
  pub some : (s : Text) (i : ℕ) → Completes D s i i

-- A reader passes its limit where a tree stands: the node is too deep in the tree, or so many tokens were taken.
pub record Passed {A : Type 0} (n : ℕ) (T : Span → A → Type 0) (r : Answer A) (a : A) (i : ℕ) : Type 0 where
  pub place : ℕ
  pub node : Span
  pub is : r ≡ Over place node
  pub why : T node a ⊎ (n + i ≤ place)

abbrev pub Outcome : {A : Type 0} → ℕ → (Span → A → Type 0) → Answer A → A → ℕ → ℕ → Type 0
Outcome n T r a i j = (r ≡ Found a j) ⊎ Passed n T r a i

pub record Laws {A : Type 0} (n : ℕ) (p : Parser A) (D : Rel A) (E : A → Terminal → Type 0) (T : Span → A → Type 0) : Type 0 where
  pub shape : Shape D
  pub onward : (s : Text) (i : ℕ) → i ≤ reached (p s i)
  -- what is read depends on no token after the one where it stops
  pub local : (s t : Text) (i : ℕ) → ((x : ℕ) → x ≤ stop (p s i) → t x ≡ s x) → p t i ≡ p s i
  pub sound : (s : Text) (i : ℕ) (a : A) (j : ℕ) → p s i ≡ Found a j → D s a i j
  -- the end is not read over
  pub inside : (s : Text) (i x : ℕ) → i ≤ x → x < reached (p s i) → is_token (terminal (s x)) ≡ true
  pub complete : (s : Text) (i : ℕ) (a : A) (j : ℕ) → D s a i j → E a (terminal (s j)) → Outcome n T (p s i) a i j
  -- where no tree is found, the tokens before begin one
  pub viable : (s : Text) (i k : ℕ) → halted (p s i) ≡ Some k → Completes D s i k

-- ---- one after another

pub record Then {A B : Type 0} (P : Rel A) (Q : A → Rel B) (s : Text) (b : B) (i j : ℕ) : Type 0 where
  pub part : A
  pub at : ℕ
  pub first : P s part i at
  pub rest : Q part s b at j

module _ {A B : Type 0} (P : Rel A) (Q : A → Rel B) where
  pub then_shape : Shape P → ((a : A) → Shape (Q a)) → Shape (Then P Q)
  then_shape u v = record {
    forward = λ s b i j d. let h = u.forward s d.part i d.at d.first in let k = (v d.part).forward s b d.at j d.rest in omega arith;
    frame = λ s t b i j e d.
        let k : d.at ≤ j = (v d.part).forward s b d.at j d.rest in
        record {
          part = d.part;
          at = d.at;
          first = u.frame s t d.part i d.at (λ x h. e x (omega arith)) d.first;
          rest = (v d.part).frame s t b d.at j e d.rest;
        };
    some = λ s i.
        let c = u.some s i in
        let d = (v c.tree).some c.text c.after in
        let le : i ≤ c.after = c.beyond in
        let le2 : c.after ≤ d.after = d.beyond in
        record {
          text = d.text;
          tree = d.tree;
          after = d.after;
          same = λ x h. d.same x (omega arith) ∙ c.same x h;
          beyond = omega arith;
          stands = record {
            part = c.tree;
            at = c.after;
            first = u.frame c.text d.text c.tree i c.after (λ x h. d.same x h) c.stands;
            rest = d.stands;
          };
        };
  }

-- what the result of and_then says of its first part
pub and_then_found : {A B : Type 0} (r : Answer A) (f : A → ℕ → Answer B) (b : B) (j : ℕ) → and_then r f ≡ Found b j → (a : A) × (m : ℕ) × (r ≡ Found a m) × (f a m ≡ Found b j)
and_then_found (Found a m) f b j e = (a, m, refl, e)
and_then_found (Wrong k) f b j e = absurd (cc)
and_then_found (Over k at) f b j e = absurd (cc)

pub and_then_halted : {A B : Type 0} (r : Answer A) (f : A → ℕ → Answer B) (k : ℕ) → halted (and_then r f) ≡ Some k → ((a : A) × (m : ℕ) × (r ≡ Found a m) × (halted (f a m) ≡ Some k)) ⊎ (halted r ≡ Some k)
and_then_halted (Found a m) f k e = inl (a, m, refl, e)
and_then_halted (Wrong i) f k e = inr e
and_then_halted (Over i at) f k e = inr e

then_onward : {A B : Type 0} (i : ℕ) (r : Answer A) (f : A → ℕ → Answer B) → i ≤ reached r → ((a : A) (m : ℕ) → m ≤ reached (f a m)) → i ≤ reached (and_then r f)
then_onward i (Found a m) f h g = let k = g a m in omega arith
then_onward i (Wrong k) f h g = h
then_onward i (Over k at) f h g = h

then_inside : {A B : Type 0} (P : ℕ → Type 0) (x : ℕ) (r : Answer A) (f : A → ℕ → Answer B) → x < reached (and_then r f) → (x < reached r → P x) → ((a : A) (m : ℕ) → m ≤ x → x < reached (f a m) → P x) → P x
then_inside P x (Found a m) f high first rest = elim (cases_lt x m) [ inl h ↦ first h | inr h ↦ rest a m h high ]
then_inside P x (Wrong k) f high first rest = first high
then_inside P x (Over k at) f high first rest = first high

then_local : {A B : Type 0} (s t : Text) (r r' : Answer A) (f : A → Parser B) → ((a : A) (m : ℕ) → m ≤ stop (f a s m))
    → ((a : A) (m : ℕ) → ((x : ℕ) → x ≤ stop (f a s m) → t x ≡ s x) → f a t m ≡ f a s m)
    → (((x : ℕ) → x ≤ stop r → t x ≡ s x) → r' ≡ r)
    → ((x : ℕ) → x ≤ stop (and_then r (λ a m. f a s m)) → t x ≡ s x)
    → and_then r' (λ a m. f a t m) ≡ and_then r (λ a m. f a s m)
then_local s t (Found a m) r' f on loc first e =
    let k : m ≤ stop (f a s m) = on a m in
    ap (λ (r : Answer _). and_then r (λ a m. f a t m)) (first (λ x h. e x (omega arith))) ∙ loc a m e
then_local s t (Wrong k) r' f on loc first e = ap (λ (r : Answer _). and_then r (λ a m. f a t m)) (first e)
then_local s t (Over k at) r' f on loc first e = ap (λ (r : Answer _). and_then r (λ a m. f a t m)) (first e)

module _ {A B : Type 0} (n o : ℕ) (p : Parser A) (P : Rel A) (E : A → Terminal → Type 0) (S : Span → A → Type 0) (f : A → Parser B) (Q : A → Rel B) (F : B → Terminal → Type 0) (T : Span → B → Type 0) where
  -- one rule and then another, where what may follow the second shows that the second may follow the first
  pub then_laws : Laws n p P E S → ((a : A) → Laws o (f a) (Q a) F T)
      → ((s : Text) (a : A) (m : ℕ) (b : B) (j : ℕ) → Q a s b m j → F b (terminal (s j)) → E a (terminal (s m)))
      → ((s : Text) (a : A) (m : ℕ) (b : B) (j : ℕ) → Q a s b m j → (at : Span) → S at a → T at b)
      → ((s : Text) (a : A) (i m k : ℕ) → P s a i m → o + m ≤ k → n + i ≤ k)
      → Laws n (p >>= f) (Then P Q) F T
  then_laws u v fits raise moves = record {
    shape = then_shape P Q u.shape (λ a. (v a).shape);
    onward = λ s i. then_onward i (p s i) (λ a m. f a s m) (u.onward s i) (λ a m. (v a).onward s m);
    local = λ s t i e. then_local s t (p s i) (p t i) f (λ a m. let h = (v a).onward s m in let k = reached_stop (f a s m) in omega arith) (λ a m h. (v a).local s t m h) (u.local s t i) e;
    sound = λ s i b j e.
        let w = and_then_found (p s i) (λ a m. f a s m) b j e in
        record { part = w.0; at = w.1; first = u.sound s i w.0 w.1 w.2; rest = (v w.0).sound s w.1 b j w.3 };
    inside = λ s i x low high. then_inside (λ x. is_token (terminal (s x)) ≡ true) x (p s i) (λ a m. f a s m) high (u.inside s i x low) (λ a m below high. (v a).inside s m x below high);
    complete = λ s i b j d last. both s i b j d last (u.complete s i d.part d.at d.first (fits s d.part d.at b j d.rest last)) ((v d.part).complete s d.at b j d.rest last);
    viable = λ s i k e. either s i k (and_then_halted (p s i) (λ a m. f a s m) k e);
  }
    where
      part_passed : (s : Text) (i : ℕ) (b : B) (j : ℕ) (d : Then P Q s b i j) → Passed n S (p s i) d.part i → Passed n T ((p >>= f) s i) b i
      part_passed s i b j d x = record {
        place = x.place;
        node = x.node;
        is = ap (λ (r : Answer A). and_then r (λ a m. f a s m)) x.is;
        why = elim (x.why) [ inl h ↦ inl (raise s d.part d.at b j d.rest x.node h) | inr h ↦ inr h ];
      }

      rest_passed : (s : Text) (i : ℕ) (b : B) (j : ℕ) (d : Then P Q s b i j) → p s i ≡ Found d.part d.at → Passed o T (f d.part s d.at) b d.at → Passed n T ((p >>= f) s i) b i
      rest_passed s i b j d found x = record {
        place = x.place;
        node = x.node;
        is = ap (λ (r : Answer A). and_then r (λ a m. f a s m)) found ∙ x.is;
        why = elim (x.why) [ inl h ↦ inl h | inr h ↦ inr (moves s d.part i d.at x.place d.first h) ];
      }

      both : (s : Text) (i : ℕ) (b : B) (j : ℕ) (d : Then P Q s b i j) → F b (terminal (s j)) → Outcome n S (p s i) d.part i d.at
          → Outcome o T (f d.part s d.at) b d.at j → Outcome n T ((p >>= f) s i) b i j
      both s i b j d last (inl x) (inl y) = inl (ap (λ (r : Answer A). and_then r (λ a m. f a s m)) x ∙ y)
      both s i b j d last (inl x) (inr y) = inr (rest_passed s i b j d x y)
      both s i b j d last (inr x) y = inr (part_passed s i b j d x)

      either : (s : Text) (i k : ℕ) → ((a : A) × (m : ℕ) × (p s i ≡ Found a m) × (halted (f a s m) ≡ Some k)) ⊎ (halted (p s i) ≡ Some k) → Completes (Then P Q) s i k
      either s i k (inl w) =
          let c = (v w.0).viable s w.1 k w.3 in
          let le : w.1 ≤ k = subst (λ (x : ℕ). w.1 ≤ x) (halted_reached (f w.0 s w.1) k w.3) ((v w.0).onward s w.1) in
          let d = u.sound s i w.0 w.1 w.2 in
          record {
            text = c.text;
            tree = c.tree;
            after = c.after;
            same = c.same;
            beyond = c.beyond;
            stands = record { part = w.0; at = w.1; first = u.shape.frame s c.text w.0 i w.1 (λ x h. c.same x (omega arith)) d; rest = c.stands };
          }
      either s i k (inr e) =
          let c = u.viable s i k e in
          let d = (v c.tree).shape.some c.text c.after in
          let le : k ≤ c.after = c.beyond in
          let le2 : c.after ≤ d.after = d.beyond in
          record {
            text = d.text;
            tree = d.tree;
            after = d.after;
            same = λ x h. d.same x (omega arith) ∙ c.same x h;
            beyond = omega arith;
            stands = record {
              part = c.tree;
              at = c.after;
              first = u.shape.frame c.text d.text c.tree i c.after (λ x h. d.same x h) c.stands;
              rest = d.stands;
            };
          }

-- ---- another relation that says the same, and another condition on what follows

module _ {A : Type 0} (n o : ℕ) (p : Parser A) (P : Rel A) (E : A → Terminal → Type 0) (S : Span → A → Type 0) (Q : Rel A) (F : A → Terminal → Type 0) (T : Span → A → Type 0) where
  pub same_laws : Laws n p P E S → ((s : Text) (a : A) (i j : ℕ) → P s a i j → Q s a i j) → ((s : Text) (a : A) (i j : ℕ) → Q s a i j → P s a i j)
      → ((a : A) (k : Terminal) → F a k → E a k) → ((a : A) (at : Span) → S at a → T at a) → o ≤ n → Laws o p Q F T
  same_laws u to from less grow fewer = record {
    shape = record {
      forward = λ s a i j d. u.shape.forward s a i j (from s a i j d);
      frame = λ s t a i j e d. to t a i j (u.shape.frame s t a i j e (from s a i j d));
      some = λ s i. carry s i i (u.shape.some s i);
    };
    onward = u.onward;
    local = u.local;
    sound = λ s i a j e. to s a i j (u.sound s i a j e);
    inside = u.inside;
    complete = λ s i a j d last. excused s i a j (u.complete s i a j (from s a i j d) (less a (terminal (s j)) last));
    viable = λ s i k e. carry s i k (u.viable s i k e);
  }
    where
      excused : (s : Text) (i : ℕ) (a : A) (j : ℕ) → Outcome n S (p s i) a i j → Outcome o T (p s i) a i j
      excused s i a j (inl x) = inl x
      excused s i a j (inr x) = inr (record { place = x.place; node = x.node; is = x.is; why = elim (x.why) [ inl y ↦ inl (grow a x.node y) | inr y ↦ inr (omega arith) ] })

      carry : (s : Text) (i k : ℕ) → Completes P s i k → Completes Q s i k
      carry s i k c = record { text = c.text; tree = c.tree; after = c.after; same = c.same; beyond = c.beyond; stands = to c.text c.tree i c.after c.stands }

-- ---- no token

pub record Same {A : Type 0} (b : A) (s : Text) (a : A) (i j : ℕ) : Type 0 where
  pub tree : a ≡ b
  pub at : j ≡ i

pub pure_laws : {A : Type 0} (n : ℕ) (b : A) (E : A → Terminal → Type 0) (T : Span → A → Type 0) → Laws n (pure b) (Same b) E T
pure_laws n b E T = record {
  shape = record {
    forward = λ s a i j d. let e = d.at in omega arith;
    frame = λ s t a i j e d. record { tree = d.tree; at = d.at };
    some = λ s i. record { text = s; tree = b; after = i; same = λ x h. refl; beyond = le_refl i; stands = record { tree = refl; at = refl } };
  };
  onward = λ s i. le_refl i;
  local = λ s t i e. refl;
  sound = λ s i a j e. record { tree = cc; at = cc };
  inside = λ s i x low high. absurd (omega arith);
  complete = λ s i a j d last. let e = d.tree in let e2 = d.at in inl (cc);
  viable = λ s i k e. absurd (cc);
}

pub over_laws : {A : Type 0} (n : ℕ) (place : ℕ → Span) (D : Rel A) (E : A → Terminal → Type 0) (T : Span → A → Type 0) → Shape D → ((s : Text) (a : A) (i j : ℕ) → D s a i j → T (place i) a ⊎ (n + i ≤ i))
    → Laws n (over place) D E T
over_laws n place D E T shape excuse = record {
  shape = shape;
  onward = λ s i. le_refl i;
  local = λ s t i e. refl;
  sound = λ s i a j e. absurd (cc);
  inside = λ s i x low high. absurd (omega arith);
  complete = λ s i a j d last. inr (record { place = i; node = place i; is = refl; why = excuse s a i j d });
  viable = λ s i k e. let here : i ≡ k = cc in subst (λ (x : ℕ). Completes D s i x) here (shape.some s i);
}

-- a rule that stops where there is such a node, which is then too deep in each tree of the rule
pub unless_deep_laws : {A : Type 0} {n : ℕ} {p : Parser A} {D : Rel A} {E : A → Terminal → Type 0} {T : Span → A → Type 0} (x : Option Span) → Laws n p D E T
    → ((at : Span) → x ≡ Some at → (s : Text) (a : A) (i j : ℕ) → D s a i j → T at a) → Laws n (unless_deep x p) D E T
unless_deep_laws None u deep = u
unless_deep_laws {n} {D} {E} {T} (Some at) u deep = over_laws n (λ _. at) D E T u.shape (λ s a i j d. inl (deep at refl s a i j d))

-- a token more before it
pub later : {A : Type 0} (n : ℕ) (T : Span → A → Type 0) (r : Answer A) (a : A) (i j : ℕ) → Outcome n T r a (suc i) j → Outcome n T r a i j
later n T r a i j (inl x) = inl x
later n T r a i j (inr x) = inr (record { place = x.place; node = x.node; is = x.is; why = elim (x.why) [ inl y ↦ inl y | inr y ↦ inr (omega arith) ] })

-- ---- a token

-- the text with another token at a place
abbrev pub put : Text → ℕ → Token → Text
put s i v = λ x. cond (eqb x i) v (s x)

pub put_here : (s : Text) (i : ℕ) (v : Token) → put s i v i ≡ v
put_here s i v = ap (λ b. cond b v (s i)) (eq-eqb i i refl)

pub put_before : (s : Text) (i : ℕ) (v : Token) (x : ℕ) → x < i → put s i v x ≡ s x
put_before s i v x h = ap (λ b. cond b v (s x)) (ne_eqb x i (λ e. omega arith))

pub record Word {A : Type 0} (k : Terminal) (Q : List ℕ → Rel A) (s : Text) (a : A) (i j : ℕ) : Type 0 where
  pub kind : (terminal (s i)) ≡ k
  pub rest : Q (s i).text s a (suc i) j

module _ {A : Type 0} (k : Terminal) (real : is_token k ≡ true) (Q : List ℕ → Rel A) where
  pub word_shape : ((v : List ℕ) → Shape (Q v)) → Shape (Word k Q)
  word_shape u = record {
    forward = λ s a i j d. let h = (u (s i).text).forward s a (suc i) j d.rest in omega arith;
    frame = λ s t a i j e d.
        let h : suc i ≤ j = (u (s i).text).forward s a (suc i) j d.rest in
        let here : t i ≡ s i = e i (omega arith) in
        record {
          kind = ap (λ (x : Token). (terminal x)) here ∙ d.kind;
          rest = subst (λ (x : Token). Q x.text t a (suc i) j) (sym here) ((u (s i).text).frame s t a (suc i) j e d.rest);
        };
    some = λ s i.
        let v : Token = make k in
        let c = (u v.text).some (put s i v) (suc i) in
        let le : suc i ≤ c.after = c.beyond in
        let here : c.text i ≡ v = c.same i (omega arith) ∙ put_here s i v in
        record {
          text = c.text;
          tree = c.tree;
          after = c.after;
          same = λ x h. c.same x (omega arith) ∙ put_before s i v x h;
          beyond = omega arith;
          stands = record { kind = ap (λ (x : Token). (terminal x)) here ∙ made k real; rest = subst (λ (x : Token). Q x.text c.text c.tree (suc i) c.after) (sym here) c.stands };
        };
  }

module _ {A : Type 0} (n : ℕ) (k : Terminal) (real : is_token k ≡ true) (q : List ℕ → Parser A) (Q : List ℕ → Rel A) (E : A → Terminal → Type 0) (T : Span → A → Type 0) where
  pub word_laws : ((v : List ℕ) → Laws n (q v) (Q v) E T) → Laws n (word k q) (Word k Q) E T
  word_laws u = record {
    shape = word_shape k real Q (λ v. (u v).shape);
    onward = λ s i. onward_at s i (same_terminal (terminal (s i)) k);
    local = λ s t i e. local_at s t i (same_terminal (terminal (s i)) k) refl e;
    sound = λ s i a j e. sound_at s i a j (same_terminal (terminal (s i)) k) refl e;
    inside = λ s i x low high. inside_at s i x (same_terminal (terminal (s i)) k) refl low high;
    complete = λ s i a j d last. subst (λ (b : Bool). Outcome n T (cond b (q (s i).text s (suc i)) (Wrong i)) a i j)
        (sym (is_kind (terminal (s i)) k d.kind)) (later n T _ a i j ((u (s i).text).complete s (suc i) a j d.rest last));
    viable = λ s i o e. viable_at s i o (same_terminal (terminal (s i)) k) refl e;
  }
    where
      onward_at : (s : Text) (i : ℕ) (b : Bool) → i ≤ reached (cond b (q (s i).text s (suc i)) (Wrong i))
      onward_at s i true = let h = (u (s i).text).onward s (suc i) in omega arith
      onward_at s i false = le_refl i

      local_at : (s t : Text) (i : ℕ) (b : Bool) → same_terminal (terminal (s i)) k ≡ b → ((x : ℕ) → x ≤ stop (cond b (q (s i).text s (suc i)) (Wrong i)) → t x ≡ s x)
          → word k q t i ≡ cond b (q (s i).text s (suc i)) (Wrong i)
      local_at s t i true is e =
          let h = (u (s i).text).onward s (suc i) in
          let near = reached_stop (q (s i).text s (suc i)) in
          let here : t i ≡ s i = e i (omega arith) in
          ap (λ (x : Token). cond (same_terminal (terminal x) k) (q x.text t (suc i)) (Wrong i)) here
          ∙ ap (λ (b : Bool). cond b (q (s i).text t (suc i)) (Wrong i)) is ∙ (u (s i).text).local s t (suc i) e
      local_at s t i false is e =
          let here : t i ≡ s i = e i (le_refl i) in
          ap (λ (x : Token). cond (same_terminal (terminal x) k) (q x.text t (suc i)) (Wrong i)) here
          ∙ ap (λ (b : Bool). cond b (q (s i).text t (suc i)) (Wrong i)) is

      sound_at : (s : Text) (i : ℕ) (a : A) (j : ℕ) (b : Bool) → same_terminal (terminal (s i)) k ≡ b → cond b (q (s i).text s (suc i)) (Wrong i) ≡ Found a j → Word k Q s a i j
      sound_at s i a j true is e = record { kind = kind_is (terminal (s i)) k is; rest = (u (s i).text).sound s (suc i) a j e }
      sound_at s i a j false is e = absurd (cc)

      inside_at : (s : Text) (i x : ℕ) (b : Bool) → same_terminal (terminal (s i)) k ≡ b → i ≤ x → x < reached (cond b (q (s i).text s (suc i)) (Wrong i)) → is_token (terminal (s x)) ≡ true
      inside_at s i x true is low high =
          elim (cases_lt i x) [
            | inl h ↦ (u (s i).text).inside s (suc i) x h high
            | inr h ↦ (let here : i ≡ x = omega arith in ap (λ (m : ℕ). is_token (terminal (s m))) (sym here) ∙ (ap is_token (kind_is (terminal (s i)) k is) ∙ real))
          ]
      inside_at s i x false is low high = absurd (omega arith)

      viable_at : (s : Text) (i o : ℕ) (b : Bool) → same_terminal (terminal (s i)) k ≡ b → halted (cond b (q (s i).text s (suc i)) (Wrong i)) ≡ Some o → Completes (Word k Q) s i o
      viable_at s i o true is e =
          let c = (u (s i).text).viable s (suc i) o e in
          let le : suc i ≤ o = subst (λ (x : ℕ). suc i ≤ x) (halted_reached _ o e) ((u (s i).text).onward s (suc i)) in
          let here : c.text i ≡ s i = c.same i (omega arith) in
          record {
            text = c.text;
            tree = c.tree;
            after = c.after;
            same = c.same;
            beyond = c.beyond;
            stands = record {
              kind = ap (λ (x : Token). (terminal x)) here ∙ kind_is (terminal (s i)) k is;
              rest = subst (λ (x : Token). Q x.text c.text c.tree (suc i) c.after) (sym here) c.stands;
            };
          }
      viable_at s i o false is e =
          let at : i ≡ o = cc in
          subst (λ (x : ℕ). Completes (Word k Q) s i x) at ((word_shape k real Q (λ v. (u v).shape)).some s i)

-- ---- where a rule begins

module _ {A : Type 0} (n : ℕ) (f : ℕ → Parser A) (D : ℕ → Rel A) (E : A → Terminal → Type 0) (T : Span → A → Type 0) where
  pub here_laws : ((i : ℕ) → Laws n (f i) (D i) E T) → Laws n (here f) (λ s a i j. D i s a i j) E T
  here_laws u = record {
    shape = record {
      forward = λ s a i j d. (u i).shape.forward s a i j d;
      frame = λ s t a i j e d. (u i).shape.frame s t a i j e d;
      some = λ s i. let c = (u i).shape.some s i in
          record { text = c.text; tree = c.tree; after = c.after; same = c.same; beyond = c.beyond; stands = c.stands };
    };
    onward = λ s i. (u i).onward s i;
    local = λ s t i e. (u i).local s t i e;
    sound = λ s i a j e. (u i).sound s i a j e;
    inside = λ s i. (u i).inside s i;
    complete = λ s i a j d last. (u i).complete s i a j d last;
    viable = λ s i k e. let c = (u i).viable s i k e in
        record { text = c.text; tree = c.tree; after = c.after; same = c.same; beyond = c.beyond; stands = c.stands };
  }

-- ---- an operator

pub record Operator {A : Type 0} (test : Terminal → Bool) (Q : Token → Rel A) (s : Text) (a : A) (i j : ℕ) : Type 0 where
  pub kind : test (terminal (s i)) ≡ true
  pub rest : Q (s i) s a (suc i) j

module _ {A : Type 0} (test : Terminal → Bool) (k : Terminal) (real : is_token k ≡ true) (is_one : test k ≡ true) (Q : Token → Rel A) where
  pub operator_shape : ((v : Token) → Shape (Q v)) → Shape (Operator test Q)
  operator_shape u = record {
    forward = λ s a i j d. let h = (u (s i)).forward s a (suc i) j d.rest in omega arith;
    frame = λ s t a i j e d.
        let h : suc i ≤ j = (u (s i)).forward s a (suc i) j d.rest in
        let here : t i ≡ s i = e i (omega arith) in
        record {
          kind = ap (λ (x : Token). test (terminal x)) here ∙ d.kind;
          rest = subst (λ (x : Token). Q x t a (suc i) j) (sym here) ((u (s i)).frame s t a (suc i) j e d.rest);
        };
    some = λ s i.
        let v : Token = make k in
        let c = (u v).some (put s i v) (suc i) in
        let le : suc i ≤ c.after = c.beyond in
        let here : c.text i ≡ v = c.same i (omega arith) ∙ put_here s i v in
        record {
          text = c.text;
          tree = c.tree;
          after = c.after;
          same = λ x h. c.same x (omega arith) ∙ put_before s i v x h;
          beyond = omega arith;
          stands = record { kind = ap (λ (x : Token). test (terminal x)) here ∙ (ap test (made k real) ∙ is_one); rest = subst (λ (x : Token). Q x c.text c.tree (suc i) c.after) (sym here) c.stands };
        };
  }

module _ {A : Type 0} (n : ℕ) (test : Terminal → Bool) (k : Terminal) (real : is_token k ≡ true) (is_one : test k ≡ true) (tokens : (x : Terminal) → test x ≡ true → is_token x ≡ true)
    (q : Token → Parser A) (Q : Token → Rel A) (E : A → Terminal → Type 0) (T : Span → A → Type 0) where
  pub operator_laws : ((v : Token) → Laws n (q v) (Q v) E T) → Laws n (operator test q) (Operator test Q) E T
  operator_laws u = record {
    shape = operator_shape test k real is_one Q (λ v. (u v).shape);
    onward = λ s i. onward_at s i (test (terminal (s i)));
    local = λ s t i e. local_at s t i (test (terminal (s i))) refl e;
    sound = λ s i a j e. sound_at s i a j (test (terminal (s i))) refl e;
    inside = λ s i x low high. inside_at s i x (test (terminal (s i))) refl low high;
    complete = λ s i a j d last. subst (λ (b : Bool). Outcome n T (cond b (q (s i) s (suc i)) (Wrong i)) a i j)
        (sym (d.kind)) (later n T _ a i j ((u (s i)).complete s (suc i) a j d.rest last));
    viable = λ s i o e. viable_at s i o (test (terminal (s i))) refl e;
  }
    where
      onward_at : (s : Text) (i : ℕ) (b : Bool) → i ≤ reached (cond b (q (s i) s (suc i)) (Wrong i))
      onward_at s i true = let h = (u (s i)).onward s (suc i) in omega arith
      onward_at s i false = le_refl i

      local_at : (s t : Text) (i : ℕ) (b : Bool) → test (terminal (s i)) ≡ b → ((x : ℕ) → x ≤ stop (cond b (q (s i) s (suc i)) (Wrong i)) → t x ≡ s x)
          → operator test q t i ≡ cond b (q (s i) s (suc i)) (Wrong i)
      local_at s t i true is e =
          let h = (u (s i)).onward s (suc i) in
          let k = reached_stop (q (s i) s (suc i)) in
          let here : t i ≡ s i = e i (omega arith) in
          ap (λ (x : Token). cond (test (terminal x)) (q x t (suc i)) (Wrong i)) here
          ∙ ap (λ (b : Bool). cond b (q (s i) t (suc i)) (Wrong i)) is ∙ (u (s i)).local s t (suc i) e
      local_at s t i false is e =
          let here : t i ≡ s i = e i (le_refl i) in
          ap (λ (x : Token). cond (test (terminal x)) (q x t (suc i)) (Wrong i)) here
          ∙ ap (λ (b : Bool). cond b (q (s i) t (suc i)) (Wrong i)) is

      sound_at : (s : Text) (i : ℕ) (a : A) (j : ℕ) (b : Bool) → test (terminal (s i)) ≡ b → cond b (q (s i) s (suc i)) (Wrong i) ≡ Found a j → Operator test Q s a i j
      sound_at s i a j true is e = record { kind = is; rest = (u (s i)).sound s (suc i) a j e }
      sound_at s i a j false is e = absurd (cc)

      inside_at : (s : Text) (i x : ℕ) (b : Bool) → test (terminal (s i)) ≡ b → i ≤ x → x < reached (cond b (q (s i) s (suc i)) (Wrong i)) → is_token (terminal (s x)) ≡ true
      inside_at s i x true is low high =
          elim (cases_lt i x) [
            | inl h ↦ (u (s i)).inside s (suc i) x h high
            | inr h ↦ (let here : i ≡ x = omega arith in ap (λ (m : ℕ). is_token (terminal (s m))) (sym here) ∙ tokens (terminal (s i)) is)
          ]
      inside_at s i x false is low high = absurd (omega arith)

      viable_at : (s : Text) (i o : ℕ) (b : Bool) → test (terminal (s i)) ≡ b → halted (cond b (q (s i) s (suc i)) (Wrong i)) ≡ Some o → Completes (Operator test Q) s i o
      viable_at s i o true is e =
          let c = (u (s i)).viable s (suc i) o e in
          let le : suc i ≤ o = subst (λ (x : ℕ). suc i ≤ x) (halted_reached _ o e) ((u (s i)).onward s (suc i)) in
          let here : c.text i ≡ s i = c.same i (omega arith) in
          record {
            text = c.text;
            tree = c.tree;
            after = c.after;
            same = c.same;
            beyond = c.beyond;
            stands = record {
              kind = ap (λ (x : Token). test (terminal x)) here ∙ is;
              rest = subst (λ (x : Token). Q x c.text c.tree (suc i) c.after) (sym here) c.stands;
            };
          }
      viable_at s i o false is e =
          let at : i ≡ o = cc in
          subst (λ (x : ℕ). Completes (Operator test Q) s i x) at ((operator_shape test k real is_one Q (λ v. (u v).shape)).some s i)

-- ---- a choice

abbrev pub Either : {A : Type 0} → Rel A → Rel A → Rel A
Either P Q = λ s a i j. P s a i j ⊎ Q s a i j

module _ {A : Type 0} (P Q : Rel A) where
  pub either_shape : Shape P → Shape Q → Shape (Either P Q)
  either_shape u v = record {
    forward = λ s a i j d. elim d [ inl x ↦ u.forward s a i j x | inr y ↦ v.forward s a i j y ];
    frame = λ s t a i j e d. elim d [ inl x ↦ inl (u.frame s t a i j e x) | inr y ↦ inr (v.frame s t a i j e y) ];
    some = λ s i. let c = v.some s i in
        record { text = c.text; tree = c.tree; after = c.after; same = c.same; beyond = c.beyond; stands = inr c.stands };
  }

module _ {A : Type 0} (n : ℕ) (test : Text → ℕ → Bool) (p q : Parser A) (P Q : Rel A) (E : A → Terminal → Type 0) (T : Span → A → Type 0) where
  -- The test looks at no token after the one where the reader stops. It tells the two rules apart where what follows may follow.
  pub ahead_laws : Laws n p P E T → Laws n q Q E T
      → ((s t : Text) (i : ℕ) → ((x : ℕ) → x ≤ stop (ahead test p q s i) → t x ≡ s x) → test t i ≡ test s i)
      → ((s : Text) (a : A) (i j : ℕ) → P s a i j → E a (terminal (s j)) → test s i ≡ true)
      → ((s : Text) (a : A) (i j : ℕ) → Q s a i j → E a (terminal (s j)) → test s i ≡ false)
      → Laws n (ahead test p q) (Either P Q) E T
  ahead_laws u v seen first second = record {
    shape = either_shape P Q u.shape v.shape;
    onward = λ s i. onward_at s i (test s i);
    local = λ s t i e. ap (λ (b : Bool). cond b (p t i) (q t i)) (seen s t i e) ∙ local_at s t i (test s i) e;
    sound = λ s i a j e. sound_at s i a j (test s i) e;
    inside = λ s i x. inside_at s i x (test s i);
    complete = λ s i a j d last. complete_at s i a j last d;
    viable = λ s i k e. viable_at s i k (test s i) e;
  }
    where
      onward_at : (s : Text) (i : ℕ) (b : Bool) → i ≤ reached (cond b (p s i) (q s i))
      onward_at s i true = u.onward s i
      onward_at s i false = v.onward s i

      local_at : (s t : Text) (i : ℕ) (b : Bool) → ((x : ℕ) → x ≤ stop (cond b (p s i) (q s i)) → t x ≡ s x) → cond b (p t i) (q t i) ≡ cond b (p s i) (q s i)
      local_at s t i true e = u.local s t i e
      local_at s t i false e = v.local s t i e

      sound_at : (s : Text) (i : ℕ) (a : A) (j : ℕ) (b : Bool) → cond b (p s i) (q s i) ≡ Found a j → Either P Q s a i j
      sound_at s i a j true e = inl (u.sound s i a j e)
      sound_at s i a j false e = inr (v.sound s i a j e)

      inside_at : (s : Text) (i x : ℕ) (b : Bool) → i ≤ x → x < reached (cond b (p s i) (q s i)) → is_token (terminal (s x)) ≡ true
      inside_at s i x true low high = u.inside s i x low high
      inside_at s i x false low high = v.inside s i x low high

      complete_at : (s : Text) (i : ℕ) (a : A) (j : ℕ) → E a (terminal (s j)) → Either P Q s a i j → Outcome n T (ahead test p q s i) a i j
      complete_at s i a j last (inl x) = subst (λ (b : Bool). Outcome n T (cond b (p s i) (q s i)) a i j) (sym (first s a i j x last)) (u.complete s i a j x last)
      complete_at s i a j last (inr y) = subst (λ (b : Bool). Outcome n T (cond b (p s i) (q s i)) a i j) (sym (second s a i j y last)) (v.complete s i a j y last)

      viable_at : (s : Text) (i k : ℕ) (b : Bool) → halted (cond b (p s i) (q s i)) ≡ Some k → Completes (Either P Q) s i k
      viable_at s i k true e = let c = u.viable s i k e in
          record { text = c.text; tree = c.tree; after = c.after; same = c.same; beyond = c.beyond; stands = inl c.stands }
      viable_at s i k false e = let c = v.viable s i k e in
          record { text = c.text; tree = c.tree; after = c.after; same = c.same; beyond = c.beyond; stands = inr c.stands }

module _ {A : Type 0} (n : ℕ) (test : Terminal → Bool) (p q : Parser A) (P Q : Rel A) (E : A → Terminal → Type 0) (T : Span → A → Type 0) where
  pub choose_laws : Laws n p P E T → Laws n q Q E T
      → ((s : Text) (a : A) (i j : ℕ) → P s a i j → E a (terminal (s j)) → test (terminal (s i)) ≡ true)
      → ((s : Text) (a : A) (i j : ℕ) → Q s a i j → E a (terminal (s j)) → test (terminal (s i)) ≡ false)
      → Laws n (choose test p q) (Either P Q) E T
  choose_laws u v first second = ahead_laws n (λ s i. test (terminal (s i))) p q P Q E T u v
      (λ s t i e. ap (λ (x : Token). test (terminal x)) (e i (let h = onward_at s i (test (terminal (s i))) in let k = reached_stop (choose test p q s i) in omega arith))) first second
    where
      onward_at : (s : Text) (i : ℕ) (b : Bool) → i ≤ reached (cond b (p s i) (q s i))
      onward_at s i true = u.onward s i
      onward_at s i false = v.onward s i

-- ---- a loop

-- from x, which stands before i, to a by steps
pub data Steps {A : Type 0} (Q : A → Rel A) (s : Text) : A → A → ℕ → ℕ → Type 0 where
  done : {x a : A} {i j : ℕ} → a ≡ x → j ≡ i → Steps Q s x a i j
  more : {x y a : A} {i m j : ℕ} → Q x s y i m → Steps Q s y a m j → Steps Q s x a i j

module _ {A : Type 0} (Q : A → Rel A) (shapes : (a : A) → Shape (Q a)) where
  steps_forward : (s : Text) (x a : A) (i j : ℕ) → Steps Q s x a i j → i ≤ j
  steps_forward s x a i j (done e e2) = omega arith
  steps_forward s x a i j (more {y} {m} q r) =
      let h = (shapes x).forward s y i m q in
      let k = steps_forward s y a m j r in
      omega arith

  steps_frame : (s t : Text) (x a : A) (i j : ℕ) → ((x : ℕ) → x < j → t x ≡ s x) → Steps Q s x a i j → Steps Q t x a i j
  steps_frame s t x a i j e (done u v) = done u v
  steps_frame s t x a i j e (more {y} {m} q r) =
      let k : m ≤ j = steps_forward s y a m j r in
      more ((shapes x).frame s t y i m (λ z h. e z (omega arith)) q) (steps_frame s t y a m j e r)

  pub steps_shape : (x : A) → Shape (λ s a i j. Steps Q s x a i j)
  steps_shape x = record {
    forward = λ s a i j d. steps_forward s x a i j d;
    frame = λ s t a i j e d. steps_frame s t x a i j e d;
    some = λ s i. record { text = s; tree = x; after = i; same = λ z h. refl; beyond = le_refl i; stands = done refl refl };
  }

module _ {A : Type 0} (big : ℕ) (test : Terminal → Bool) (step : A → Parser A) (Q : A → Rel A) (E : A → Terminal → Type 0) (T : Span → A → Type 0)
    (parts : (a : A) → Laws big (step a) (Q a) E T)
    (begins : (s : Text) (x a : A) (i j : ℕ) → Q x s a i j → test (terminal (s i)) ≡ true)
    (strict : (s : Text) (x a : A) (i j : ℕ) → Q x s a i j → i < j)
    (follows : (s : Text) (x a : A) (i j : ℕ) → Q x s a i j → E x (terminal (s i)))
    (grows : (s : Text) (x a : A) (i j : ℕ) → Q x s a i j → (at : Span) → T at x → T at a) where
  -- what may follow the loop is what may follow a step, and does not begin another
  abbrev pub Stops : A → Terminal → Type 0
  Stops a k = E a k × (test k ≡ false)

  unroll : (s : Text) (x a : A) (i j : ℕ) → Steps Q s x a i j → Either (Then (Q x) (λ y t b m k. Steps Q t y b m k)) (Same x) s a i j
  unroll s x a i j (done e e2) = inr (record { tree = e; at = e2 })
  unroll s x a i j (more {y} {m} q r) = inl (record { part = y; at = m; first = q; rest = r })

  roll : (s : Text) (x a : A) (i j : ℕ) → Either (Then (Q x) (λ y t b m k. Steps Q t y b m k)) (Same x) s a i j → Steps Q s x a i j
  roll s x a i j (inl d) = more d.first d.rest
  roll s x a i j (inr d) = done d.tree d.at

  pub steps_grow : (s : Text) (x a : A) (i j : ℕ) → Steps Q s x a i j → (at : Span) → T at x → T at a
  steps_grow s x a i j (done e e2) at h = subst (T at) (sym e) h
  steps_grow s x a i j (more {y} {m} q r) at h = steps_grow s y a m j r at (grows s x y i m q at h)

  -- what stands after a step: another step, or what may follow the loop
  pub after_step : (s : Text) (y a : A) (m j : ℕ) → Steps Q s y a m j → Stops a (terminal (s j)) → E y (terminal (s m))
  after_step s y a m j (done e e2) last = subst (λ (x : A). E x (terminal (s m))) e (subst (λ (x : ℕ). E a (terminal (s x))) e2 last.0)
  after_step s y a m j (more {y = z} {m = n} q r) last = follows s y z m n q

  no_step : (s : Text) (x a : A) (i j : ℕ) → Same x s a i j → Stops a (terminal (s j)) → test (terminal (s i)) ≡ false
  no_step s x a i j d last = subst (λ (n : ℕ). test (terminal (s n)) ≡ false) d.at last.1

  some_step : (s : Text) (x a : A) (i j : ℕ) → Then (Q x) (λ y t b m k. Steps Q t y b m k) s a i j → Stops a (terminal (s j)) → test (terminal (s i)) ≡ true
  some_step s x a i j d last = begins s x d.part i d.at d.first

  pub loop_laws : (n : ℕ) → n ≤ big → (x : A) → Laws n (loop n test step x) (λ s a i j. Steps Q s x a i j) Stops T
  unfolding loop
  loop_laws zero small x = same_laws zero zero (loop zero test step x) (Either (Then (Q x) (λ y t b m k. Steps Q t y b m k)) (Same x)) Stops T (λ s a i j. Steps Q s x a i j) Stops T
      (choose_laws zero test (over (λ _. nowhere)) (pure x) (Then (Q x) (λ y t b m k. Steps Q t y b m k)) (Same x) Stops T
      (over_laws zero (λ _. nowhere) (Then (Q x) (λ y t b m k. Steps Q t y b m k)) Stops T (then_shape (Q x) (λ y t b m k. Steps Q t y b m k) (parts x).shape (steps_shape Q (λ a. (parts a).shape)))
      (λ s a i j d. inr (omega arith)))
      (pure_laws zero x Stops T)
      (λ s a i j. some_step s x a i j) (λ s a i j. no_step s x a i j))
      (λ s a i j. roll s x a i j) (λ s a i j. unroll s x a i j) (λ a k h. h) (λ a at h. h) (le_refl zero)
  loop_laws (suc n) small x = same_laws (suc n) (suc n) (loop (suc n) test step x) (Either (Then (Q x) (λ y t b m k. Steps Q t y b m k)) (Same x)) Stops T (λ s a i j. Steps Q s x a i j) Stops T
      (choose_laws (suc n) test (step x >>= loop n test step) (pure x) (Then (Q x) (λ y t b m k. Steps Q t y b m k)) (Same x) Stops T
      (then_laws (suc n) n (step x) (Q x) E T (loop n test step) (λ y t b m k. Steps Q t y b m k) Stops T
      (same_laws big (suc n) (step x) (Q x) E T (Q x) E T (parts x) (λ s a i j d. d) (λ s a i j d. d) (λ a k h. h) (λ a at h. h) small)
      (λ y. loop_laws n (omega arith) y)
      (λ s y m a j d last. after_step s y a m j d last)
      (λ s y m a j d at h. steps_grow s y a m j d at h)
      (λ s y i m j d h. let k = strict s x y i m d in omega arith))
      (pure_laws (suc n) x Stops T)
      (λ s a i j. some_step s x a i j) (λ s a i j. no_step s x a i j))
      (λ s a i j. roll s x a i j) (λ s a i j. unroll s x a i j) (λ a k h. h) (λ a at h. h) (le_refl (suc n))

-- ---- a rule and then a loop stand for a rule that begins with itself

module _ {A : Type 0} (Q : A → Rel A) where
  pub steps_end : (s : Text) (x y a : A) (i m j : ℕ) → Steps Q s x y i m → Q y s a m j → Steps Q s x a i j
  steps_end s x y a i m j (done e e2) q =
      more (subst (λ (n : ℕ). Q x s a n j) e2 (subst (λ (z : A). Q z s a m j) e q)) (done refl refl)
  steps_end s x y a i m j (more {y = z} {m = n} p r) q = more p (steps_end s z y a n m j r q)

  pub steps_fold : (R : Rel A) (s : Text) (start : ℕ)
      → ((y a : A) (m j : ℕ) → R s y start m → Q y s a m j → R s a start j)
      → (x a : A) (i j : ℕ) → R s x start i → Steps Q s x a i j → R s a start j
  steps_fold R s start grow x a i j r (done e e2) = subst (λ (n : ℕ). R s a start n) (sym e2) (subst (λ (z : A). R s z start i) (sym e) r)
  steps_fold R s start grow x a i j r (more {y = z} {m = n} p q) = steps_fold R s start grow z a n j (grow x z i n r p) q

-- ---- a reader of a text that is read goes on past what it shares with it

pub reaches : {A : Type 0} (n : ℕ) (p : Parser A) (D : Rel A) (E : A → Terminal → Type 0) (T : Span → A → Type 0) (u : Laws n p D E T) (s t : Text) (i k : ℕ) (a : A) (j : ℕ)
    → ((x : ℕ) → x ≤ k → t x ≡ s x) → D t a i j → E a (terminal (t j)) → k < j → k ≤ suc (suc (suc i)) → k < stop (p s i)
reaches n p D E T u s t i k a j same d last below near = of (cases_lt k (stop (p s i)))
  where
    found : stop (p s i) ≤ k → Outcome n T (p t i) a i j → p t i ≡ p s i → ⊥
    found le (inl e) same_answer = let at : stop (p s i) ≡ j = ap stop (sym same_answer ∙ e) in absurd (omega arith)
    found le (inr x) same_answer =
        let forth : i ≤ x.place = subst (λ (r : Answer _). i ≤ reached r) (sym same_answer ∙ x.is) (u.onward s i) in
        let at : stop (p s i) ≡ suc (suc (suc (suc x.place))) = ap stop (sym same_answer ∙ x.is) in
        absurd (omega arith)

    of : (k < stop (p s i)) ⊎ (stop (p s i) ≤ k) → k < stop (p s i)
    of (inl h) = h
    of (inr le) = absurd (found le (u.complete t i a j d last) (u.local s t i (λ x h. same x (omega arith))))

-- ---- the same with arguments that the parts show

module _ {A B : Type 0} {n : ℕ} {p : Parser A} {P : Rel A} {E : A → Terminal → Type 0} {S : Span → A → Type 0} {f : A → Parser B} {Q : A → Rel B} {F : B → Terminal → Type 0} {T : Span → B → Type 0} where
  pub seq : Laws n p P E S → ((a : A) → Laws n (f a) (Q a) F T) → ((s : Text) (a : A) (m : ℕ) (b : B) (j : ℕ) → Q a s b m j → F b (terminal (s j)) → E a (terminal (s m)))
      → ((s : Text) (a : A) (m : ℕ) (b : B) (j : ℕ) → Q a s b m j → (at : Span) → S at a → T at b) → Laws n (p >>= f) (Then P Q) F T
  seq u v fits raise = then_laws n n p P E S f Q F T u v fits raise (λ s a i m k d h. let forth = u.shape.forward s a i m d in omega arith)

module _ {A : Type 0} {n : ℕ} {p q : Parser A} {P Q : Rel A} {E : A → Terminal → Type 0} {T : Span → A → Type 0} where
  pub alt : (test : Terminal → Bool) → Laws n p P E T → Laws n q Q E T
      → ((s : Text) (a : A) (i j : ℕ) → P s a i j → E a (terminal (s j)) → test (terminal (s i)) ≡ true)
      → ((s : Text) (a : A) (i j : ℕ) → Q s a i j → E a (terminal (s j)) → test (terminal (s i)) ≡ false)
      → Laws n (choose test p q) (Either P Q) E T
  alt test = choose_laws n test p q P Q E T

pub tok : {A : Type 0} {n : ℕ} {q : List ℕ → Parser A} {Q : List ℕ → Rel A} {E : A → Terminal → Type 0} {T : Span → A → Type 0} (k : Terminal) → is_token k ≡ true → ((v : List ℕ) → Laws n (q v) (Q v) E T) → Laws n (word k q) (Word k Q) E T
tok {n} {q} {Q} {E} {T} k real = word_laws n k real q Q E T

pub op : {A : Type 0} {n : ℕ} {q : Token → Parser A} {Q : Token → Rel A} {E : A → Terminal → Type 0} {T : Span → A → Type 0} (test : Terminal → Bool) (k : Terminal) → is_token k ≡ true → test k ≡ true
    → ((x : Terminal) → test x ≡ true → is_token x ≡ true) → ((v : Token) → Laws n (q v) (Q v) E T) → Laws n (operator test q) (Operator test Q) E T
op {n} {q} {Q} {E} {T} test k real is_one tokens = operator_laws n test k real is_one tokens q Q E T

pub start : {A : Type 0} {n : ℕ} {f : ℕ → Parser A} {D : ℕ → Rel A} {E : A → Terminal → Type 0} {T : Span → A → Type 0} → ((i : ℕ) → Laws n (f i) (D i) E T) → Laws n (here f) (λ s a i j. D i s a i j) E T
start {n} {f} {D} {E} {T} = here_laws n f D E T

pub renamed : {A : Type 0} {n : ℕ} {p : Parser A} {P : Rel A} {E : A → Terminal → Type 0} {T : Span → A → Type 0} (Q : Rel A) (F : A → Terminal → Type 0) → Laws n p P E T
    → ((s : Text) (a : A) (i j : ℕ) → P s a i j → Q s a i j) → ((s : Text) (a : A) (i j : ℕ) → Q s a i j → P s a i j)
    → ((a : A) (k : Terminal) → F a k → E a k) → Laws n p Q F T
renamed {n} {p} {P} {E} {T} Q F u to from less = same_laws n n p P E T Q F T u to from less (λ a at h. h) (le_refl n)

pub taller : {A : Type 0} {n : ℕ} {p : Parser A} {P : Rel A} {E : A → Terminal → Type 0} {S : Span → A → Type 0} (T : Span → A → Type 0) → Laws n p P E S → ((a : A) (at : Span) → S at a → T at a) → Laws n p P E T
taller {n} {p} {P} {E} {S} T u grow = same_laws n n p P E S P E T u (λ s a i j d. d) (λ s a i j d. d) (λ a k h. h) grow (le_refl n)

-- a loop after a rule, of which a step begins with what may follow what stands before it
module _ {A : Type 0} {n : ℕ} {p : Parser A} {P : Rel A} {step : A → Parser A} {Q : A → Rel A} {E : A → Terminal → Type 0} {T : Span → A → Type 0} where
  pub rep_by : (test : Terminal → Bool) → Laws n p P E T → ((a : A) → Laws n (step a) (Q a) E T)
      → ((s : Text) (x a : A) (i j : ℕ) → Q x s a i j → test (terminal (s i)) ≡ true) → ((s : Text) (x a : A) (i j : ℕ) → Q x s a i j → i < j)
      → ((s : Text) (x a : A) (i j : ℕ) → Q x s a i j → E x (terminal (s i))) → ((s : Text) (x a : A) (i j : ℕ) → Q x s a i j → (at : Span) → T at x → T at a)
      → Laws n (p >>= loop n test step) (Then P (λ x s a i j. Steps Q s x a i j)) (λ a k. E a k × (test k ≡ false)) T
  rep_by test u parts begins strict follows grows = then_laws n n p P E T (loop n test step) (λ x s a i j. Steps Q s x a i j) (λ a k. E a k × (test k ≡ false)) T u
      (loop_laws n test step Q E T parts begins strict follows grows n (le_refl n)) (λ s y m a j d last. after_step n test step Q E T parts begins strict follows grows s y a m j d last)
      (λ s y m a j d at h. steps_grow n test step Q E T parts begins strict follows grows s y a m j d at h)
      (λ s a i m j d h. let k = u.shape.forward s a i m d in omega arith)

  -- the same where whatever passes the test may follow
  pub rep : (test : Terminal → Bool) → Laws n p P E T → ((a : A) → Laws n (step a) (Q a) E T)
      → ((s : Text) (x a : A) (i j : ℕ) → Q x s a i j → test (terminal (s i)) ≡ true) → ((s : Text) (x a : A) (i j : ℕ) → Q x s a i j → i < j)
      → ((a : A) (k : Terminal) → test k ≡ true → E a k) → ((s : Text) (x a : A) (i j : ℕ) → Q x s a i j → (at : Span) → T at x → T at a)
      → Laws n (p >>= loop n test step) (Then P (λ x s a i j. Steps Q s x a i j)) (λ a k. E a k × (test k ≡ false)) T
  rep test u parts begins strict goes_on grows = rep_by test u parts begins strict (λ s x a i j d. goes_on x (terminal (s i)) (begins s x a i j d)) grows
