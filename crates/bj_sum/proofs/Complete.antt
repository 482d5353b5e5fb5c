-- What the grammar derives, no higher than the limit, the reader finds.
use Rattle.std.proofs.Common.{◌≡◌, ℕ, suc, ◌+◌, ◌-◌, ◌<◌, ◌≤◌, max, Bool, cond, Option, Some, None, refl, sym, ap, ◌∙◌, arith, add-one}
use Rattle.std.proofs.lemmas.Bool.{lt-ltb}
use Rattle.bj_core.specs.declared.tree.Expr.{Expr}
use Rattle.bj_base.specs.declared.op.Op.{Op}
use Rattle.bj_base.specs.declared.op.Op.TheVariants as op
use Rattle.bj_sum.specs.declared.sum.Found.{Found}
use Rattle.bj_sum.specs.declared.token.Sort.{Sort}
use Rattle.bj_sum.specs.declared.token.Sort.TheVariants as sort
use Rattle.bj_sum.specs.Grammar.{Text, operation, Additive, Multiplicative, Unary, Primary, multiplicative, plus, minus, unary, times, primary, negative, literal, parenthesized}
use Rattle.bj_sum.specs.Reading.{and_then, raised, operator, level_over, closed, unary_of, level_of, operations_of}
use Rattle.bj_sum.proofs.Turns.{unary_sort, minus_some, open_some, operations_stop, operations_turn}

abbrev pub found : Expr → ℕ → ℕ → Found
found a h j = record { tree = a; height = h; after = j }

raised_up : (limit : ℕ) (tree : Expr) (below after : ℕ) → below < limit → raised limit tree below after ≡ Some (found tree (suc below) after)
raised_up limit tree below after h = ap (λ (b : Bool). cond b (Some (found tree (suc below) after)) None) (lt-ltb below limit h)

-- From the first operand of a chain, some turns of the loop lead to the tree.
record Chain (s : Text) (limit rank : ℕ) (a : Expr) (h i j : ℕ) : Type 0 where
  turns : ℕ
  low : turns ≤ h
  goes : (m n : ℕ) → m ≡ turns + n
      → and_then (level_of s limit rank i) (operations_of s limit rank (s i).column m) ≡ operations_of s limit rank (s i).column n (found a h j)

module _ (s : Text) (limit : ℕ) where
  one : (rank : ℕ) (a : Expr) (h i j : ℕ) → level_of s limit rank i ≡ Some (found a h j) → Chain s limit rank a h i j
  one rank a h i j e = record {
    turns = 0;
    low = omega arith;
    goes = λ m n is. ap (λ (r : Option Found). and_then r (operations_of s limit rank (s i).column m)) e
        ∙ ap (λ (k : ℕ). operations_of s limit rank (s i).column k (found a h j)) (let same : m ≡ n = omega arith in same);
  }

  more : (rank : ℕ) (o : Op) (a l r : Expr) (h hl hr i k j : ℕ) → Chain s limit rank l hl i k → operator rank (s k).sort ≡ Some o
      → level_of s limit rank (suc k) ≡ Some (found r hr j) → a ≡ operation (s i).column o l r → h ≡ suc (max hl hr) → h ≤ limit → Chain s limit rank a h i j
  more rank o a l r h hl hr i k j c is right tree high le =
      let low : c.turns ≤ hl = c.low in
      record {
        turns = suc c.turns;
        low = omega arith;
        goes = λ m n e. c.goes m (suc n) (omega arith)
            ∙ (operations_turn s limit rank (s i).column n (found l hl k) o is
            ∙ (ap (λ (r : Option Found). and_then r (λ right.
            and_then (raised limit (operation (s i).column o l right.tree) (max hl right.height) right.after) (operations_of s limit rank (s i).column n))) right
            ∙ (ap (λ (r : Option Found). and_then r (operations_of s limit rank (s i).column n)) (raised_up limit (operation (s i).column o l r) (max hl hr) j (omega arith))
            ∙ (ap (λ (h : ℕ). operations_of s limit rank (s i).column n (found (operation (s i).column o l r) h j)) (sym high)
            ∙ ap (λ (a : Expr). operations_of s limit rank (s i).column n (found a h j)) (sym tree)))));
      }

  whole_chain : (rank : ℕ) (a : Expr) (h i j : ℕ) → Chain s limit rank a h i j → h ≤ limit → operator rank (s j).sort ≡ None → level_of s limit (suc rank) i ≡ Some (found a h j)
  unfolding level_over
  whole_chain rank a h i j c le quiet =
      let low : c.turns ≤ h = c.low in
      c.goes limit (limit - c.turns) (omega arith) ∙ operations_stop s limit rank (s i).column (limit - c.turns) (found a h j) quiet

  unary_level : (i : ℕ) (f : Found) → unary_of s limit i ≡ Some f → level_of s limit 0 i ≡ Some f
  unfolding level_over
  unary_level i f e = e

no_times : (x : Sort) → x ≡ sort.Plus → operator 0 x ≡ None
no_times x e = ap (operator 0) e

no_times_minus : (x : Sort) → x ≡ sort.Minus → operator 0 x ≡ None
no_times_minus x e = ap (operator 0) e

module _ (s : Text) where
  mutual
    additive_chain : {a : Expr} {h i j : ℕ} → Additive s a h i j → (limit : ℕ) → h ≤ limit → operator 0 (s j).sort ≡ None → Chain s limit 1 a h i j
    additive_chain (multiplicative {a} {h} {i} {j} d) limit le quiet = one s limit 1 a h i j (whole_chain s limit 0 a h i j (multiplicative_chain d limit le) le quiet)
    additive_chain (plus {a} {l} {r} {h} {m} {n} {i} {k} {j} d is e tree high) limit le quiet =
        more s limit 1 op.Add a l r h m n i k j (additive_chain d limit (omega arith) (no_times (s k).sort is)) (ap (operator 1) is)
        (whole_chain s limit 0 r n (suc k) j (multiplicative_chain e limit (omega arith)) (omega arith) quiet) tree high le
    additive_chain (minus {a} {l} {r} {h} {m} {n} {i} {k} {j} d is e tree high) limit le quiet =
        more s limit 1 op.Sub a l r h m n i k j (additive_chain d limit (omega arith) (no_times_minus (s k).sort is)) (ap (operator 1) is)
        (whole_chain s limit 0 r n (suc k) j (multiplicative_chain e limit (omega arith)) (omega arith) quiet) tree high le

    multiplicative_chain : {a : Expr} {h i j : ℕ} → Multiplicative s a h i j → (limit : ℕ) → h ≤ limit → Chain s limit 0 a h i j
    multiplicative_chain (unary {a} {h} {i} {j} d) limit le = one s limit 0 a h i j (unary_level s limit i (found a h j) (unary_complete d limit le))
    multiplicative_chain (times {a} {l} {r} {h} {m} {n} {i} {k} {j} d is e tree high) limit le =
        more s limit 0 op.Mul a l r h m n i k j (multiplicative_chain d limit (omega arith)) (ap (operator 0) is)
        (unary_level s limit (suc k) (found r n j) (unary_complete e limit (omega arith))) tree high le

    unary_complete : {a : Expr} {h i j : ℕ} → Unary s a h i j → (limit : ℕ) → h ≤ limit → unary_of s limit i ≡ Some (found a h j)
    unary_complete (primary d) limit le = primary_complete d limit le
    unary_complete (negative {a} {x} {h} {m} {i} {j} is d tree high) limit le =
        minus_some s limit i (s i) refl (found x m j) a is (omega arith)
        (ap (λ (k : ℕ). unary_of s (limit - 1) k) (add-one i) ∙ unary_complete d (limit - 1) (omega arith)) tree
        ∙ (raised_up limit a m j (omega arith) ∙ ap (λ (h : ℕ). Some (found a h j)) (sym high))

    primary_complete : {a : Expr} {h i j : ℕ} → Primary s a h i j → (limit : ℕ) → h ≤ limit → unary_of s limit i ≡ Some (found a h j)
    primary_complete (literal {a} {v} {h} {i} {j} is tree high at) limit le =
        unary_sort s limit i (sort.Literal v) is
        ∙ (ap (λ (a : Expr). Some (found a 0 (suc i))) (sym tree) ∙ (ap (λ (h : ℕ). Some (found a h (suc i))) (sym high) ∙ ap (λ (j : ℕ). Some (found a h j)) (sym at)))
    primary_complete (parenthesized {a} {h} {m} {i} {k} {j} is d closes high at) limit le =
        open_some s limit i (s i) refl (found a m k) is (omega arith)
        (ap (λ (k : ℕ). level_of s (limit - 1) 2 k) (add-one i)
        ∙ whole_chain s (limit - 1) 1 a m (suc i) k (additive_chain d (limit - 1) (omega arith) (ap (operator 0) closes)) (omega arith) (ap (operator 1) closes))
        ∙ (ap (closed limit (found a m k)) closes
        ∙ (raised_up limit a m (suc k) (omega arith) ∙ (ap (λ (h : ℕ). Some (found a h (suc k))) (sym high) ∙ ap (λ (j : ℕ). Some (found a h j)) (sym at))))

  pub additive_complete : {a : Expr} {h i j : ℕ} → Additive s a h i j → (limit : ℕ) → h ≤ limit → operator 0 (s j).sort ≡ None → operator 1 (s j).sort ≡ None
      → level_of s limit 2 i ≡ Some (found a h j)
  additive_complete {a} {h} {i} {j} d limit le quiet quiet2 = whole_chain s limit 1 a h i j (additive_chain d limit le quiet) le quiet2
