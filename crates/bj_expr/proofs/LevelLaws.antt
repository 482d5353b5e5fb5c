-- The readers of operators between operands.
use Rattle.std.proofs.Common.{◌≡◌, ℕ, zero, suc, ◌<◌, ◌≤◌, ◌⊎◌, inl, inr, Bool, true, false, cond, refl, sym, ap, subst, arith}
use Rattle.std.proofs.lemmas.Bool.{both_ways, and_from, cases_lt}
use Rattle.bj_base.specs.declared.span.Span.{Span}
use Rattle.bj_expr_tree.specs.declared.expr.ExprTree.{ExprTree}
use Rattle.bj_expr_tree.specs.declared.expr.ExprTree.TheVariants as tree
use Rattle.bj_expr.specs.declared.bounds.Bounds.{Bounds}
use Rattle.bj_expr.specs.declared.part.Part.{Part}
use Rattle.bj_expr.specs.declared.part.Part.TheVariants as part
use Rattle.bj_grammar.specs.declared.terminal.Terminal.{Terminal}
use Rattle.bj_grammar.specs.declared.terminal.Terminal.TheVariants as t
use Rattle.bj_grammar.specs.Terminal.{terminal, among}
use Rattle.bj_grammar.specs.Reader.{Text, Answer, Found, Wrong, Over, Parser, and_then, ◌>>=◌, pure, nowhere, loop}
use Rattle.bj_expr.specs.Grammar as g
use Rattle.bj_expr.specs.Grammar.{ops, is_relational, binary_op, TypeAt, Level, Unary}
use Rattle.bj_expr.specs.Reading as r
use Rattle.bj_expr.specs.Reading.{is, goes_on}
use Rattle.bj_grammar.proofs.Laws.{Rel, Laws, Then, Same, Word, Operator, Either, Steps, done, pure_laws, steps_end, steps_fold, is_kind, seq, alt, tok, op, start, renamed, rep}
use Rattle.bj_expr.proofs.Facts.{or_split, or_left, or_right, stops_level, op_after, op_of, op_is, goes_no_further, tokens_of}
use Rattle.bj_expr.proofs.Tall as tall
use Rattle.bj_expr.proofs.LawLemmas.{pick_laws, equal_laws, limited_then, more_than, same_after, Tall, After, PartRel, AfterPart}
use Rattle.bj_expr.proofs.TypeLaws.{type_laws}
use Rattle.bj_expr.proofs.UnaryFacts.{op_not_instance, op_not_other, level_not_bracket}
use Rattle.bj_expr.proofs.UnaryLaws.{unary_laws}

-- ---- constants

goes_instance : (h : ℕ) (x : Terminal) → is_relational h ≡ true → x ≡ t.InstanceOf → goes_on h x ≡ true
goes_instance h x e o = or_left _ _ (and_from _ _ e (is_kind _ _ o))

goes_op : (h : ℕ) (x : Terminal) → among (ops h) x ≡ true → goes_on h x ≡ true
goes_op h x o = or_right _ _ o

-- ---- readers that do not go on

-- a part behind which nothing is read
then_found : {A : Type 0} (r : Answer A) (f : A → ℕ → Answer A) → ((a : A) (j : ℕ) → f a j ≡ Found a j) → and_then r f ≡ r
then_found (Found a j) f e = e a j
then_found (Wrong k) f e = refl
then_found (Over k at) f e = refl

-- a loop whose test the next token does not pass
loop_stops : {A : Type 0} (n : ℕ) (test : Terminal → Bool) (step : A → Parser A) (a : A) (s : Text) (j : ℕ) → test (terminal (s j)) ≡ false → loop n test step a s j ≡ Found a j
unfolding loop
loop_stops zero test step a s j e = ap (λ (b : Bool). cond b (Over j nowhere) (Found a j)) e
loop_stops (suc n) test step a s j e = ap (λ (b : Bool). cond b ((step a >>= loop n test step) s j) (Found a j)) e

module _ (place : ℕ → Span) (bounds : Bounds) (n : ℕ) (small : n ≡ suc bounds.room) (nested : Part → Parser ExprTree)
    (u : (x : Part) → Laws bounds.most (nested x) (PartRel place x) (AfterPart x) (Tall n)) where
  abbrev pub LevelRel : ℕ → Rel ExprTree
  LevelRel h = λ s a i j. Level place s h a i j

  abbrev pub AfterLevel : ℕ → ExprTree → Terminal → Type 0
  AfterLevel h = After (stops_level h)

  abbrev BinaryRel : ℕ → ℕ → ExprTree → Rel ExprTree
  BinaryRel h i l = Operator (among (ops h)) (λ v. Then (LevelRel h) (λ r. Same (tree.Binary (place i) (binary_op (terminal v)) l r)))

  abbrev InstanceRel : ℕ → ExprTree → Rel ExprTree
  InstanceRel i l = Word t.InstanceOf (λ _. Then (λ s a i j. TypeAt place s a i j) (λ ty. Same (tree.InstanceOf (place i) l ty)))

  pub record Relational (h i : ℕ) (l : ExprTree) (s : Text) (a : ExprTree) (m j : ℕ) : Type 0 where
    pub rank : is_relational h ≡ true
    pub stands : InstanceRel i l s a m j

  abbrev OperationRel : ℕ → ℕ → ExprTree → Rel ExprTree
  OperationRel h i l = Either (Relational h i l) (BinaryRel h i l)

  module _ (h : ℕ) (lt : h < 10) where
    right : Laws bounds.most (nested (part.Operand h)) (LevelRel h) (AfterLevel h) (Tall n)
    right = u (part.Operand h)

    binary_laws : (i : ℕ) (l : ExprTree) → Laws bounds.most (r.binary place bounds nested h i l) (BinaryRel h i l) (AfterLevel h) (Tall (suc n))
    unfolding r.binary
    binary_laws i l = op {Q = λ v. Then (LevelRel h) (λ r. Same (tree.Binary (place i) (binary_op (terminal v)) l r))} (among (ops h)) (op_of h) ((op_is h lt).1) ((op_is h lt).0) (tokens_of (ops h) (op_not_other h))
        (λ v. limited_then bounds.most bounds.room n small (λ k. nested (part.Operand h) >>= λ x. pure (tree.Binary (place i) (binary_op (terminal v)) k x)) l
        (seq right (λ x. pure_laws bounds.most (tree.Binary (place i) (binary_op (terminal v)) l x) (AfterLevel h) (Tall (suc n)))
        (λ s x m b j d last. same_after (λ y. stops_level h y ≡ false) s (tree.Binary (place i) (binary_op (terminal v)) l x) b m j d last)
        (λ s x m b j d at z. tall.tall_binary_right n (place i) (binary_op (terminal v)) l x b d.tree z))
        (λ at z s a m j d. tall.tall_binary_left n (place i) (binary_op (terminal v)) l d.part a d.rest.tree z))

    instance_laws : (i : ℕ) (l : ExprTree) → Laws bounds.most (r.instance place bounds nested i l) (InstanceRel i l) (AfterLevel h) (Tall (suc n))
    unfolding r.instance
    instance_laws i l = tok t.InstanceOf refl (λ _. limited_then bounds.most bounds.room n small (λ k. r.type_at place bounds.most >>= λ ty. pure (tree.InstanceOf (place i) k ty)) l
        (seq (type_laws place bounds.most) (λ ty. pure_laws bounds.most (tree.InstanceOf (place i) l ty) (AfterLevel h) (Tall (suc n)))
        (λ s ty m b j d last. level_not_bracket h _ (same_after (λ y. stops_level h y ≡ false) s (tree.InstanceOf (place i) l ty) b m j d last)) (λ s ty m b j d at z. absurd z))
        (λ at z s a m j d. tall.tall_instanceof_value n (place i) l d.part a d.rest.tree z))

    operation_laws : (i : ℕ) (l : ExprTree) → Laws bounds.most (r.operation place bounds nested h i l) (OperationRel h i l) (AfterLevel h) (Tall (suc n))
    unfolding r.operation
    operation_laws i l = pick_laws (is_relational h)
        (λ e. renamed (OperationRel h i l) (AfterLevel h)
        (alt (is t.InstanceOf) (instance_laws i l) (binary_laws i l) (λ s a m j d last. is_kind _ _ d.kind) (λ s a m j d last. op_not_instance h _ d.kind))
        (λ s a m j d. elim d [ inl x ↦ inl (record { rank = e; stands = x }) | inr y ↦ inr y ]) (λ s a m j d. elim d [ inl x ↦ inl x.stands | inr y ↦ inr y ]) (λ a x z. z))
        (λ e. renamed (OperationRel h i l) (AfterLevel h) (binary_laws i l) (λ s a m j d. inr d)
        (λ s a m j d. elim d [ inl x ↦ absurd (both_ways (is_relational h) e x.rank) | inr y ↦ y ]) (λ a x z. z))

    operation_begins : (i : ℕ) (s : Text) (l a : ExprTree) (m j : ℕ) → OperationRel h i l s a m j → goes_on h (terminal (s m)) ≡ true
    operation_begins i s l a m j (inl d) = goes_instance h _ d.rank d.stands.kind
    operation_begins i s l a m j (inr d) = goes_op h _ d.kind

    operation_strict : (i : ℕ) (s : Text) (l a : ExprTree) (m j : ℕ) → OperationRel h i l s a m j → m < j
    operation_strict i s l a m j (inl d) = let z = (type_laws place bounds.most).shape.forward s d.stands.rest.part (suc m) d.stands.rest.at d.stands.rest.first in let e = d.stands.rest.rest.at in omega arith
    operation_strict i s l a m j (inr d) = let z = right.shape.forward s d.rest.part (suc m) d.rest.at d.rest.first in let e = d.rest.rest.at in omega arith

    operation_grows : (i : ℕ) (s : Text) (l a : ExprTree) (m j : ℕ) → OperationRel h i l s a m j → (at : Span) → Tall (suc n) at l → Tall (suc n) at a
    operation_grows i s l a m j (inl d) at z = more_than n a (tall.tall_instanceof_value (suc n) (place i) l d.stands.rest.part a d.stands.rest.rest.tree z)
    operation_grows i s l a m j (inr d) at z = more_than n a (tall.tall_binary_left (suc n) (place i) (binary_op (terminal (s m))) l d.rest.part a d.rest.rest.tree z)

    abbrev Chain : ℕ → Rel ExprTree
    Chain i = Then (LevelRel h) (λ x v b m k. Steps (OperationRel h i) v x b m k)

    grow : (i : ℕ) (s : Text) (l a : ExprTree) (m j : ℕ) → Level place s (suc h) l i m → OperationRel h i l s a m j → Level place s (suc h) a i j
    grow i s l a m j d (inl o) = g.instance d o.rank o.stands.kind (subst (λ (k : ℕ). TypeAt place s o.stands.rest.part (suc m) k) (sym o.stands.rest.rest.at) o.stands.rest.first) o.stands.rest.rest.tree
    grow i s l a m j d (inr o) = g.binary d o.kind (subst (λ (k : ℕ). Level place s h o.rest.part (suc m) k) (sym o.rest.rest.at) o.rest.first) o.rest.rest.tree

    to_level : (s : Text) (a : ExprTree) (i j : ℕ) → Chain i s a i j → Level place s (suc h) a i j
    to_level s a i j d = steps_fold (OperationRel h i) (LevelRel (suc h)) s i (λ y b m k. grow i s y b m k) d.part a d.at j (g.tighter d.first) d.rest

  from_level : (s : Text) {h : ℕ} {a : ExprTree} {i j : ℕ} → Level place s (suc h) a i j → Then (LevelRel h) (λ x v b m k. Steps (OperationRel h i) v x b m k) s a i j
  from_level s (g.tighter d) = record { part = _; at = _; first = d; rest = done refl refl }
  from_level s {h} {a} {i} {j} (g.binary {l} {r = right} {m} d o y is) =
      let w = from_level s d in
      record {
        part = w.part;
        at = w.at;
        first = w.first;
        rest = steps_end (OperationRel h i) s w.part l a w.at m j w.rest (inr (record { kind = o; rest = record { part = right; at = j; first = y; rest = record { tree = is; at = refl } } }));
      }
  from_level s {h} {a} {i} {j} (g.instance {l} {ty} {m} d e o y is) =
      let w = from_level s d in
      record {
        part = w.part;
        at = w.at;
        first = w.first;
        rest = steps_end (OperationRel h i) s w.part l a w.at m j w.rest (inl (record { rank = e; stands = record { kind = o; rest = record { part = ty; at = j; first = y; rest = record { tree = is; at = refl } } } }));
      }

  from_zero : (s : Text) (a : ExprTree) (i j : ℕ) → Level place s zero a i j → Unary place s a i j
  from_zero s a i j (g.unary d) = d

  level_zero : Laws bounds.most (r.level place bounds nested zero) (LevelRel zero) (AfterLevel zero) (Tall (suc n))
  unfolding r.level
  level_zero = renamed (LevelRel zero) (AfterLevel zero) (unary_laws place bounds n small nested u) (λ s a i j d. g.unary d) from_zero (λ a x e. e)

  level_more : (h : ℕ) → h < 10 → Laws bounds.most (r.level place bounds nested h) (LevelRel h) (AfterLevel h) (Tall (suc n))
      → Laws bounds.most (r.level place bounds nested (suc h)) (LevelRel (suc h)) (AfterLevel (suc h)) (Tall (suc n))
  unfolding r.level
  level_more h lt v = renamed (LevelRel (suc h)) (AfterLevel (suc h))
      (start {D = Chain h lt} (λ i. rep {Q = OperationRel h i} (goes_on h) v (λ l. operation_laws h lt i l) (λ s x a m j d. operation_begins h lt i s x a m j d) (λ s x a m j d. operation_strict h lt i s x a m j d)
      (λ a x o. op_after h x o) (λ s x a m j d at z. operation_grows h lt i s x a m j d at z)))
      (to_level h lt) (λ s a i j d. from_level s d) (λ a x e. let z = or_split (goes_on h x) (stops_level h x) e in (z.1, z.0))

  -- ---- above the last rank

  level_stays : (h : ℕ) → 10 ≤ h → (s : Text) (i : ℕ) → r.level place bounds nested (suc h) s i ≡ r.level place bounds nested h s i
  unfolding r.level
  level_stays h le s i = then_found (r.level place bounds nested h s i) (λ a j. loop bounds.most (goes_on h) (r.operation place bounds nested h i) a s j)
      (λ a j. loop_stops bounds.most (goes_on h) (r.operation place bounds nested h i) a s j (goes_no_further h le (terminal (s j))))

  lower : (h : ℕ) → 10 ≤ h → (s : Text) {a : ExprTree} {i j : ℕ} → Level place s (suc h) a i j → Level place s h a i j
  lower h le s (g.tighter d) = d
  lower h le s (g.binary {m} d o y is) = absurd (both_ways (goes_on h (terminal (s m))) (goes_no_further h le (terminal (s m))) (goes_op h _ o))
  lower h le s (g.instance {m} d e o y is) = absurd (both_ways (goes_on h (terminal (s m))) (goes_no_further h le (terminal (s m))) (goes_instance h _ e o))

  level_past : (h : ℕ) → 10 ≤ h → Laws bounds.most (r.level place bounds nested h) (LevelRel h) (AfterLevel h) (Tall (suc n))
      → Laws bounds.most (r.level place bounds nested (suc h)) (LevelRel (suc h)) (AfterLevel (suc h)) (Tall (suc n))
  level_past h le v = renamed (LevelRel (suc h)) (AfterLevel (suc h)) (equal_laws (r.level place bounds nested (suc h)) (level_stays h le) v)
      (λ s a i j d. g.tighter d) (λ s a i j d. lower h le s d) (λ a x e. (or_split (goes_on h x) (stops_level h x) e).1)

  level_next : (h : ℕ) → (h < 10) ⊎ (10 ≤ h) → Laws bounds.most (r.level place bounds nested h) (LevelRel h) (AfterLevel h) (Tall (suc n))
      → Laws bounds.most (r.level place bounds nested (suc h)) (LevelRel (suc h)) (AfterLevel (suc h)) (Tall (suc n))
  level_next h (inl lt) v = level_more h lt v
  level_next h (inr le) v = level_past h le v

  pub level_laws : (h : ℕ) → Laws bounds.most (r.level place bounds nested h) (LevelRel h) (AfterLevel h) (Tall (suc n))
  level_laws zero = level_zero
  level_laws (suc h) = level_next h (cases_lt h 10) (level_laws h)
