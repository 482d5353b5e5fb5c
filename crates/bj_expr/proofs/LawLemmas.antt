-- What the laws of the rules share: choices by a truth value, readers that give the same, limits, and what may stand behind a part.
use Rattle.std.proofs.Common.{◌≡◌, ℕ, zero, suc, ◌<◌, ◌≤◌, inl, Bool, true, false, cond, refl, sym, ap, ◌∙◌, subst, arith, List, [], ◌∷◌, Option, None, Some}
use Rattle.std.specs.Prelude.{Contains}
use Rattle.bj_base.specs.declared.span.Span.{Span}
use Rattle.bj_expr_tree.specs.declared.expr.ExprTree.{ExprTree}
use Rattle.bj_expr.specs.declared.part.Part.{Part}
use Rattle.bj_expr.specs.declared.part.Part.TheVariants as part
use Rattle.bj_grammar.specs.declared.terminal.Terminal.{Terminal}
use Rattle.bj_grammar.specs.declared.terminal.Terminal.TheVariants as t
use Rattle.bj_grammar.specs.Terminal.{terminal, same_terminal, among}
use Rattle.bj_grammar.specs.Reader.{Text, Answer, Parser, ◌>>=◌, pure, unless_deep}
use Rattle.bj_expr.specs.Nodes.{nodes_at, HasNode, first}
use Rattle.bj_expr.specs.Reading.{limited}
use Rattle.bj_expr.specs.Within.{Stands}
use Rattle.bj_grammar.proofs.Laws.{reached, stop, halted, Outcome, Rel, Laws, Same, over_laws}
use Rattle.bj_expr.proofs.Facts.{stops_level, stops_conditional, stops_expression, closers, closes}

-- ---- by a truth value

pub cond_laws : {A : Type 0} {n : ℕ} {p q : Parser A} {D : Rel A} {E : A → Terminal → Type 0} {T : Span → A → Type 0} (b : Bool) → (b ≡ true → Laws n p D E T) → (b ≡ false → Laws n q D E T)
    → Laws n (λ s i. cond b (p s i) (q s i)) D E T
cond_laws true u v = u refl
cond_laws false u v = v refl

pub pick_laws : {A : Type 0} {n : ℕ} {p q : Parser A} {D : Rel A} {E : A → Terminal → Type 0} {T : Span → A → Type 0} (b : Bool) → (b ≡ true → Laws n p D E T) → (b ≡ false → Laws n q D E T) → Laws n (cond b p q) D E T
pick_laws true u v = u refl
pick_laws false u v = v refl

-- ---- a reader that gives the same everywhere has the same laws

pub equal_laws : {A : Type 0} {n : ℕ} {q : Parser A} {D : Rel A} {E : A → Terminal → Type 0} {T : Span → A → Type 0} (p : Parser A) → ((s : Text) (i : ℕ) → p s i ≡ q s i) → Laws n q D E T → Laws n p D E T
equal_laws {n} {q} {D} {E} {T} p e u = record {
  shape = u.shape;
  onward = λ s i. subst (λ (r : Answer _). i ≤ reached r) (sym (e s i)) (u.onward s i);
  local = λ s t i same. e t i ∙ (u.local s t i (λ x h. same x (subst (λ (r : Answer _). x ≤ stop r) (sym (e s i)) h)) ∙ sym (e s i));
  sound = λ s i a j is. u.sound s i a j (sym (e s i) ∙ is);
  inside = λ s i x low high. u.inside s i x low (subst (λ (r : Answer _). x < reached r) (e s i) high);
  complete = λ s i a j d last. subst (λ (r : Answer _). Outcome n T r a i j) (sym (e s i)) (u.complete s i a j d last);
  viable = λ s i k is. u.viable s i k (sym (ap halted (e s i)) ∙ is);
}

-- ---- terminals

-- what stands behind a rule stands behind one that ends with it
pub same_after : {A : Type 0} (F : Terminal → Type 0) (s : Text) (b a : A) (i j : ℕ) → Same b s a i j → F (terminal (s j)) → F (terminal (s i))
same_after F s b a i j d last = subst (λ (n : ℕ). F (terminal (s n))) d.at last

-- what is not a terminal, where it is another
pub is_not : (x y k : Terminal) → x ≡ y → same_terminal y k ≡ false → same_terminal x k ≡ false
is_not x y k e h = ap (λ (z : Terminal). same_terminal z k) e ∙ h

pub not_among : (ks : List Terminal) (x k : Terminal) → x ≡ k → among ks k ≡ false → among ks x ≡ false
not_among ks x k e h = ap (among ks) e ∙ h

pub closer : (x k : Terminal) → x ≡ k → among closers k ≡ true → stops_expression x ≡ false
closer x k e h = closes x (ap (among closers) e ∙ h)

pub is_closer : (among closers t.RightParen ≡ true) × (among closers t.RightBracket ≡ true) × (among closers t.Comma ≡ true) × (among closers t.Colon ≡ true) × (among closers t.RightBrace ≡ true)
unfolding same_terminal
is_closer = (refl, refl, refl, refl, refl)

-- ---- parts

abbrev pub After : (Terminal → Bool) → ExprTree → Terminal → Type 0
After f = λ _ x. f x ≡ false

abbrev pub PartRel : (ℕ → Span) → Part → Rel ExprTree
PartRel place x = λ s a i j. Stands x place s a i j

-- what may stand behind a part
abbrev pub AfterPart : Part → ExprTree → Terminal → Type 0
AfterPart part.Expression = After stops_expression
AfterPart part.Conditional = After stops_conditional
AfterPart (part.Operand h) = After (stops_level h)
AfterPart part.Unary = After (stops_level 0)
AfterPart part.Plain = After (stops_level 0)
AfterPart part.Initializer = After stops_expression

-- ---- limits

-- no node makes the limit pass
abbrev pub Never : {A : Type 0} → Span → A → Type 0
Never at a = ⊥

-- a node with so many nodes on the way to it, both ends included
abbrev pub Tall : ℕ → Span → ExprTree → Type 0
Tall n at a = HasNode n at a

pub more_than : {at : Span} (k : ℕ) (b : ExprTree) → Tall (suc (suc k)) at b → Tall (suc k) at b
more_than k b h = (h.0, fewer k h.0 h.1, h.2)
  where
    fewer : (k above : ℕ) → suc (suc k) ≤ suc above → suc k ≤ suc above
    fewer k above le = omega arith

first_stands : (ps : List Span) (at : Span) → first ps ≡ Some at → Contains ps at
first_stands [] at e = absurd (cc)
first_stands (p ∷ ps) at e = (zero, omega arith, cc)

module _ (most room n : ℕ) (small : n ≡ suc room) where
  deep_in : (b : ExprTree) (at : Span) → first (nodes_at b room) ≡ Some at → Tall n at b
  deep_in b at e = (room, omega arith, first_stands (nodes_at b room) at e)

  -- an operand that was read before the node above it: a node in it that is too deep is so in each tree that goes on from it
  pub limited_then : {D : Rel ExprTree} {E : ExprTree → Terminal → Type 0} (f : ExprTree → Parser ExprTree) (b : ExprTree) → Laws most (f b) D E (Tall (suc n))
      → ((at : Span) → Tall n at b → (s : Text) (a : ExprTree) (i j : ℕ) → D s a i j → Tall (suc n) at a) → Laws most (limited room b >>= f) D E (Tall (suc n))
  unfolding limited
  limited_then {D} {E} f b u grow = of (first (nodes_at b room)) (λ at e. deep_in b at e)
    where
      of : (x : Option Span) → ((at : Span) → x ≡ Some at → Tall n at b) → Laws most (unless_deep x (pure b) >>= f) D E (Tall (suc n))
      of None deep = u
      of (Some at) deep = over_laws most (λ _. at) D E (Tall (suc n)) u.shape (λ s a i j d. inl (grow at (deep at refl) s a i j d))
