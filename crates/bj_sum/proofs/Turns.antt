-- The reader on tokens, one step at a time, as the code makes it.
use Rattle.std.proofs.Common.{◌≡◌, ℕ, zero, suc, ◌+◌, ◌-◌, ◌<◌, ◌≤◌, max, List, length, ℤ, Option, Some, None, refl, sym, ap, ◌∙◌, add-one, arith}
use Rattle.std.proofs.lemmas.List.{get_or_past}
use Rattle.bj_core.specs.declared.tree.Expr.{Expr}
use Rattle.bj_base.specs.declared.op.Op.{Op}
use Rattle.bj_core.specs.declared.types.Const.TheVariants as const
use Rattle.bj_base.specs.declared.span.Span.{Span}
use Rattle.bj_core.specs.declared.tree.Expr.TheVariants as e
use Rattle.bj_sum.specs.declared.sum.Found.{Found}
use Rattle.bj_sum.specs.declared.token.Sort.{Sort}
use Rattle.bj_sum.specs.declared.token.Sort.TheVariants as sort
use Rattle.bj_sum.specs.declared.token.Token.{Token}
use Rattle.bj_sum.specs.Lexical.{token}
use Rattle.bj_sum.specs.Grammar.{Text, place, negation, operation}
use Rattle.bj_sum.specs.Reading.{text_of, and_then, raised, operator, with_operator, operations, level_over, closed, constant_found, unary_by, unary_of, level_of, operations_of, nothing, Parser}

pub end_sort : (tokens : List Token) (at : ℕ) → length tokens ≤ at → (text_of tokens at).sort ≡ sort.End
unfolding text_of
end_sort tokens at le = ap (λ (v : Token). v.sort) (get_or_past tokens at (token 0 sort.End) le)

no_end_operator : (rank : ℕ) → operator rank sort.End ≡ None
no_end_operator zero = refl
no_end_operator (suc n) = refl

pub no_operator_at_end : (tokens : List Token) (at rank : ℕ) → length tokens ≤ at → operator rank (text_of tokens at).sort ≡ None
no_operator_at_end tokens at rank le = ap (operator rank) (end_sort tokens at le) ∙ no_end_operator rank

pub not_closed_at_end : (tokens : List Token) (limit : ℕ) (inner : Found) → length tokens ≤ inner.after → closed limit inner (text_of tokens inner.after).sort ≡ None
not_closed_at_end tokens limit inner le = ap (closed limit inner) (end_sort tokens inner.after le)

one_more : {X : Type 0} {x : X} (f : ℕ → X) (n at : ℕ) → at < n → x ≡ f (n - at) → x ≡ f (suc (n - (at + 1)))
one_more f n at below e = let turn : n - at ≡ suc (n - (at + 1)) = omega arith in e ∙ ap f turn

no_more : {X : Type 0} {x : X} (f : ℕ → X) (n at : ℕ) → n ≤ at → x ≡ f (n - at) → x ≡ f 0
no_more f n at done e = let none : n - at ≡ 0 = omega arith in e ∙ ap f none

deeper : {X : Type 0} (f : ℕ → X) (n : ℕ) → 0 < n → f n ≡ f (suc (n - 1))
deeper f n some = let e : n ≡ suc (n - 1) = omega arith in ap f e

-- ---- a level

module _ (s : Text) (limit rank at : ℕ) where
  pub level_zero : rank ≡ 0 → level_of s limit rank at ≡ unary_of s limit at
  unfolding level_over
  level_zero none = ap (λ (n : ℕ). level_of s limit n at) none

  level_more : 0 < rank → level_of s limit rank at ≡ and_then (level_of s limit (rank - 1) at) (operations_of s limit (rank - 1) (s at).column limit)
  unfolding level_over
  level_more some = deeper (λ (n : ℕ). level_of s limit n at) rank some

  pub level_none : 0 < rank → level_of s limit (rank - 1) at ≡ None → level_of s limit rank at ≡ None
  level_none some e = level_more some ∙ ap (λ (r : Option Found). and_then r (operations_of s limit (rank - 1) (s at).column limit)) e

  pub level_some : (left : Found) → 0 < rank → level_of s limit (rank - 1) at ≡ Some left
      → level_of s limit rank at ≡ operations_of s limit (rank - 1) (s at).column limit left
  level_some left some e = level_more some ∙ ap (λ (r : Option Found). and_then r (operations_of s limit (rank - 1) (s at).column limit)) e

-- ---- operators of a rank

module _ (s : Text) (limit rank column : ℕ) where
  pub operations_stop : (n : ℕ) (left : Found) → operator rank (s left.after).sort ≡ None → operations_of s limit rank column n left ≡ Some left
  unfolding operations
  operations_stop zero left e = ap (λ (o : Option Op). with_operator o (Some left) (λ o. None)) e
  operations_stop (suc n) left e = ap (λ (o : Option Op). with_operator o (Some left)
      (λ o. and_then (level_of s limit rank (suc left.after)) (λ right.
      and_then (raised limit (operation column o left.tree right.tree) (max left.height right.height) right.after) (operations_of s limit rank column n)))) e

  operations_over : (left : Found) (o : Op) → operator rank (s left.after).sort ≡ Some o → operations_of s limit rank column 0 left ≡ None
  unfolding operations
  operations_over left o e = ap (λ (o : Option Op). with_operator o (Some left) (λ o. None)) e

  pub operations_turn : (n : ℕ) (left : Found) (o : Op) → operator rank (s left.after).sort ≡ Some o
      → operations_of s limit rank column (suc n) left ≡ and_then (level_of s limit rank (suc left.after)) (λ right.
      and_then (raised limit (operation column o left.tree right.tree) (max left.height right.height) right.after) (operations_of s limit rank column n))
  unfolding operations
  operations_turn n left o e = ap (λ (o : Option Op). with_operator o (Some left)
      (λ o. and_then (level_of s limit rank (suc left.after)) (λ right.
      and_then (raised limit (operation column o left.tree right.tree) (max left.height right.height) right.after) (operations_of s limit rank column n)))) e

  module _ (before : Option Found) (turn : ℕ) (left : Found) (so_far : before ≡ operations_of s limit rank column (limit - turn) left) where
    pub stops : operator rank (s left.after).sort ≡ None → before ≡ Some left
    stops e = so_far ∙ operations_stop (limit - turn) left e

    pub overs : (o : Op) → limit ≤ turn → operator rank (s left.after).sort ≡ Some o → before ≡ None
    overs o done e = no_more (λ n. operations_of s limit rank column n left) limit turn done so_far ∙ operations_over left o e

    turns : (o : Op) → turn < limit → operator rank (s left.after).sort ≡ Some o
        → before ≡ and_then (level_of s limit rank (suc left.after)) (λ right.
        and_then (raised limit (operation column o left.tree right.tree) (max left.height right.height) right.after) (operations_of s limit rank column (limit - (turn + 1))))
    turns o below e = one_more (λ n. operations_of s limit rank column n left) limit turn below so_far ∙ operations_turn (limit - (turn + 1)) left o e

    pub right_none : (o : Op) → turn < limit → operator rank (s left.after).sort ≡ Some o → level_of s limit rank (left.after + 1) ≡ None → before ≡ None
    right_none o below e none = turns o below e ∙ ap (λ (r : Option Found). and_then r (λ right.
        and_then (raised limit (operation column o left.tree right.tree) (max left.height right.height) right.after) (operations_of s limit rank column (limit - (turn + 1)))))
        (ap (λ (i : ℕ). level_of s limit rank i) (sym (add-one left.after)) ∙ none)

    pub with_right : (r : Option Found) (o : Op) (right : Found) (tree : Expr) (height : ℕ) → turn < limit → operator rank (s left.after).sort ≡ Some o
        → level_of s limit rank (left.after + 1) ≡ Some right → tree ≡ operation column o left.tree right.tree → height ≡ max left.height right.height
        → r ≡ raised limit tree height right.after
        → before ≡ and_then r (operations_of s limit rank column (limit - (turn + 1)))
    with_right r o right tree height below e some is_tree is_height is = turns o below e ∙ (ap (λ (r : Option Found). and_then r (λ right.
        and_then (raised limit (operation column o left.tree right.tree) (max left.height right.height) right.after) (operations_of s limit rank column (limit - (turn + 1)))))
        (ap (λ (i : ℕ). level_of s limit rank i) (sym (add-one left.after)) ∙ some)
        ∙ ap (λ (r : Option Found). and_then r (operations_of s limit rank column (limit - (turn + 1))))
        (ap (λ (t : Expr). raised limit t (max left.height right.height) right.after) (sym is_tree)
        ∙ (ap (λ (h : ℕ). raised limit tree h right.after) (sym is_height) ∙ sym is)))

    pub too_high : (o : Op) (right : Found) (tree : Expr) (height : ℕ) → turn < limit → operator rank (s left.after).sort ≡ Some o
        → level_of s limit rank (left.after + 1) ≡ Some right → tree ≡ operation column o left.tree right.tree → height ≡ max left.height right.height
        → raised limit tree height right.after ≡ None → before ≡ None
    too_high o right tree height below e some is_tree is_height none = with_right None o right tree height below e some is_tree is_height (sym none)

    pub joined : (o : Op) (right : Found) (tree : Expr) (height : ℕ) (both : Found) → turn < limit → operator rank (s left.after).sort ≡ Some o
        → level_of s limit rank (left.after + 1) ≡ Some right → tree ≡ operation column o left.tree right.tree → height ≡ max left.height right.height
        → raised limit tree height right.after ≡ Some both → before ≡ operations_of s limit rank column (limit - (turn + 1)) both
    joined o right tree height both below e some is_tree is_height is = with_right (Some both) o right tree height below e some is_tree is_height (sym is)

-- ---- a unary expression

-- at limit zero nothing nests
abbrev pub nested_of : Text → ℕ → Parser
nested_of s zero = nothing
nested_of s (suc n) = unary_of s n

abbrev pub whole_of : Text → ℕ → Parser
whole_of s zero = nothing
whole_of s (suc n) = level_of s n 2

pub unary_is : (s : Text) (limit at : ℕ) → unary_of s limit at ≡ unary_by s limit (s at).sort (nested_of s limit) (whole_of s limit) at
unfolding unary_of
unary_is s zero at = refl
unary_is s (suc n) at = refl

module _ (s : Text) (limit at : ℕ) where
  pub unary_sort : (x : Sort) → (s at).sort ≡ x → unary_of s limit at ≡ unary_by s limit x (nested_of s limit) (whole_of s limit) at
  unary_sort x e = unary_is s limit at ∙ ap (λ (x : Sort). unary_by s limit x (nested_of s limit) (whole_of s limit) at) e

  nested_none : limit ≡ 0 → nested_of s limit (suc at) ≡ None
  nested_none e = ap (λ (n : ℕ). nested_of s n (suc at)) e

  whole_none : limit ≡ 0 → whole_of s limit (suc at) ≡ None
  whole_none e = ap (λ (n : ℕ). whole_of s n (suc at)) e

  nested_more : 0 < limit → nested_of s limit (suc at) ≡ unary_of s (limit - 1) (at + 1)
  nested_more some = deeper (λ (n : ℕ). nested_of s n (suc at)) limit some ∙ ap (λ (i : ℕ). unary_of s (limit - 1) i) (sym (add-one at))

  whole_more : 0 < limit → whole_of s limit (suc at) ≡ level_of s (limit - 1) 2 (at + 1)
  whole_more some = deeper (λ (n : ℕ). whole_of s n (suc at)) limit some ∙ ap (λ (i : ℕ). level_of s (limit - 1) 2 i) (sym (add-one at))

  module _ (t : Token) (read : t ≡ s at) where
    sort_at : (x : Sort) → t.sort ≡ x → (s at).sort ≡ x
    sort_at x e = sym (ap (λ (t : Token). t.sort) read) ∙ e

    pub unary_literal : (v : ℤ) (p : Span) → t.sort ≡ sort.Literal v → p ≡ place t.column
        → Some (record { tree = e.Const p (const.Int v); height = 0; after = at + 1 }) ≡ unary_of s limit at
    unary_literal v p is placed = ap (λ (p : Span). Some (record { tree = e.Const p (const.Int v); height = 0; after = at + 1 })) placed
        ∙ (ap (λ (t : Token). Some (constant_found t.column v (at + 1))) read
        ∙ (ap (λ (i : ℕ). Some (constant_found (s at).column v i)) (add-one at) ∙ sym (unary_sort (sort.Literal v) (sort_at (sort.Literal v) is))))

    pub minus_zero : t.sort ≡ sort.Minus → limit ≡ 0 → unary_of s limit at ≡ None
    minus_zero e none = unary_sort sort.Minus (sort_at sort.Minus e)
        ∙ ap (λ (r : Option Found). and_then r (λ x. raised limit (negation (s at).column x.tree) x.height x.after)) (nested_none none)

    minus_by : (r : Option Found) → t.sort ≡ sort.Minus → 0 < limit → unary_of s (limit - 1) (at + 1) ≡ r
        → unary_of s limit at ≡ and_then r (λ x. raised limit (negation (s at).column x.tree) x.height x.after)
    minus_by r e some is = unary_sort sort.Minus (sort_at sort.Minus e)
        ∙ ap (λ (r : Option Found). and_then r (λ x. raised limit (negation (s at).column x.tree) x.height x.after)) (nested_more some ∙ is)

    pub minus_none : t.sort ≡ sort.Minus → 0 < limit → unary_of s (limit - 1) (at + 1) ≡ None → unary_of s limit at ≡ None
    minus_none e some is = minus_by None e some is

    pub minus_some : (x : Found) (tree : Expr) → t.sort ≡ sort.Minus → 0 < limit → unary_of s (limit - 1) (at + 1) ≡ Some x → tree ≡ negation t.column x.tree
        → unary_of s limit at ≡ raised limit tree x.height x.after
    minus_some x tree e some is is_tree = minus_by (Some x) e some is
        ∙ ap (λ (t : Expr). raised limit t x.height x.after) (ap (λ (t : Token). negation t.column x.tree) (sym read) ∙ sym is_tree)

    pub open_zero : t.sort ≡ sort.Open → limit ≡ 0 → unary_of s limit at ≡ None
    open_zero e none = unary_sort sort.Open (sort_at sort.Open e) ∙ ap (λ (r : Option Found). and_then r (λ x. closed limit x (s x.after).sort)) (whole_none none)

    open_by : (r : Option Found) → t.sort ≡ sort.Open → 0 < limit → level_of s (limit - 1) 2 (at + 1) ≡ r
        → unary_of s limit at ≡ and_then r (λ x. closed limit x (s x.after).sort)
    open_by r e some is = unary_sort sort.Open (sort_at sort.Open e) ∙ ap (λ (r : Option Found). and_then r (λ x. closed limit x (s x.after).sort)) (whole_more some ∙ is)

    pub open_none : t.sort ≡ sort.Open → 0 < limit → level_of s (limit - 1) 2 (at + 1) ≡ None → unary_of s limit at ≡ None
    open_none e some is = open_by None e some is

    pub open_some : (x : Found) → t.sort ≡ sort.Open → 0 < limit → level_of s (limit - 1) 2 (at + 1) ≡ Some x → unary_of s limit at ≡ closed limit x (s x.after).sort
    open_some x e some is = open_by (Some x) e some is

  other_sort : (x : Sort) → ((v : ℤ) → x ≡ sort.Literal v → ⊥) → (x ≡ sort.Open → ⊥) → (x ≡ sort.Minus → ⊥)
      → unary_by s limit x (nested_of s limit) (whole_of s limit) at ≡ None
  other_sort sort.End a b c = refl
  other_sort (sort.Literal v) a b c = absurd (a v refl)
  other_sort sort.Open a b c = absurd (b refl)
  other_sort sort.Close a b c = refl
  other_sort sort.Plus a b c = refl
  other_sort sort.Minus a b c = absurd (c refl)
  other_sort sort.Times a b c = refl

  pub unary_other : (t : Token) → t ≡ s at → ((v : ℤ) → t.sort ≡ sort.Literal v → ⊥) → (t.sort ≡ sort.Open → ⊥) → (t.sort ≡ sort.Minus → ⊥)
      → unary_of s limit at ≡ None
  unary_other t read a b c = unary_sort t.sort (sym (ap (λ (t : Token). t.sort) read)) ∙ other_sort t.sort a b c

pub unary_at_end : (tokens : List Token) (limit at : ℕ) → length tokens ≤ at → unary_of (text_of tokens) limit at ≡ None
unary_at_end tokens limit at le = unary_sort (text_of tokens) limit at sort.End (end_sort tokens at le)
