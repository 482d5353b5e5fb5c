-- What the reader finds is no higher than there is room.
use Rattle.std.proofs.Common.{◌≡◌, ℕ, zero, suc, ◌≤◌, List, [], ◌∷◌, ◌++◌, map, Option, None, Some, Bool, true, false, cond, refl, subst, arith}
use Rattle.bj_base.specs.declared.span.Span.{Span}
use Rattle.bj_token.specs.declared.token.Token.{Token}
use Rattle.bj_expr_tree.specs.declared.expr.UnaryOp.TheVariants as unaries
use Rattle.bj_expr_tree.specs.declared.expr.ExprTree.{ExprTree}
use Rattle.bj_expr_tree.specs.declared.expr.ExprTree.TheVariants as tree
use Rattle.bj_expr_tree.specs.Size.{most, height_of}
use Rattle.bj_expr_tree.proofs.Heights as high
use Rattle.bj_expr.specs.declared.bounds.Bounds.{Bounds}
use Rattle.bj_expr.specs.declared.part.Part.{Part}
use Rattle.bj_expr.specs.declared.part.Part.TheVariants as part
use Rattle.bj_grammar.specs.declared.terminal.Terminal.{Terminal}
use Rattle.bj_grammar.specs.declared.terminal.Terminal.TheVariants as t
use Rattle.bj_grammar.specs.Terminal.{terminal, same_terminal, among}
use Rattle.bj_grammar.specs.Reader.{Text, Answer, Found, Wrong, Parser, ◌>>=◌, pure, over, unless_deep, nowhere, here, operator, word, ahead, choose, loop}
use Rattle.bj_grammar.proofs.Laws.{and_then_found}
use Rattle.bj_expr.specs.Grammar.{ops, ranks, type_words, literal_words, negations, leasts, binary_op, assign_op, assigns, negation_op, step_ops, step_op, literal_kind, type_tree, is_new_array, is_relational}
use Rattle.bj_expr.specs.Reading as r
use Rattle.bj_expr.specs.Reading.{is, selectors, goes_on, is_unary, operand_part, limited, bounds_of}
use Rattle.bj_expr.specs.Nodes.{nodes_at, first}
use Rattle.bj_expr.proofs.NodeHeights.{none_low}

-- each tree that a reader finds is as a predicate says
abbrev pub Yields : {A : Type 0} → Parser A → (A → Type 0) → Type 0
Yields {A} p P = (s : Text) (i : ℕ) (a : A) (j : ℕ) → p s i ≡ Found a j → P a

same_found : {A : Type 0} (P : A → Type 0) (b a : A) (i j : ℕ) → Found b i ≡ Found a j → P b → P a
same_found P b a i j e h = let is : b ≡ a = cc in subst P is h

module _ {A B : Type 0} {p : Parser A} {P : A → Type 0} {f : A → Parser B} {Q : B → Type 0} where
  pub yields_then : Yields p P → ((a : A) → P a → Yields (f a) Q) → Yields (p >>= f) Q
  yields_then u v s i b j e = let w = and_then_found (p s i) (λ a m. f a s m) b j e in v w.0 (u s i w.0 w.1 w.2) s w.1 b j w.3

pub yields_pure : {B : Type 0} (Q : B → Type 0) (b : B) → Q b → Yields (pure b) Q
yields_pure Q b h s i a j e = same_found Q b a i j e h

pub yields_over : {A : Type 0} (P : A → Type 0) (place : ℕ → Span) → Yields (over place) P
yields_over P place s i a j e = absurd (cc)

pub yields_any : {A : Type 0} (p : Parser A) → Yields p (λ _. Unit {0})
yields_any p s i a j e = tt

by_test : {A : Type 0} (P : A → Type 0) (b : Bool) (x y : Answer A) (a : A) (j : ℕ) → cond b x y ≡ Found a j → (x ≡ Found a j → P a) → (y ≡ Found a j → P a) → P a
by_test P true x y a j e u v = u e
by_test P false x y a j e u v = v e

module _ {A : Type 0} {P : A → Type 0} where
  pub yields_here : {f : ℕ → Parser A} → ((i : ℕ) → Yields (f i) P) → Yields (here f) P
  yields_here {f} u s i a j e = u i s i a j e

  pub yields_cond : {p q : Parser A} (b : Bool) → Yields p P → Yields q P → Yields (cond b p q) P
  yields_cond true u v = u
  yields_cond false u v = v

  pub yields_ahead : {p q : Parser A} (test : Text → ℕ → Bool) → Yields p P → Yields q P → Yields (ahead test p q) P
  yields_ahead {p} {q} test u v s i a j e = by_test P (test s i) (p s i) (q s i) a j e (u s i a j) (v s i a j)

  pub yields_choose : {p q : Parser A} (test : Terminal → Bool) → Yields p P → Yields q P → Yields (choose test p q) P
  yields_choose test u v = yields_ahead (λ s i. test (terminal (s i))) u v

  pub yields_operator : (test : Terminal → Bool) (q : Token → Parser A) → ((v : Token) → Yields (q v) P) → Yields (operator test q) P
  yields_operator test q u s i a j e = by_test P (test (terminal (s i))) (q (s i) s (suc i)) (Wrong i) a j e (u (s i) s (suc i) a j) (λ e. absurd (cc))

  pub yields_word : (k : Terminal) (q : List ℕ → Parser A) → ((v : List ℕ) → Yields (q v) P) → Yields (word k q) P
  yields_word k q u s i a j e = by_test P (same_terminal (terminal (s i)) k) (q (s i).text s (suc i)) (Wrong i) a j e (u (s i).text s (suc i) a j) (λ e. absurd (cc))

  pub yields_sign : {q : Parser A} (k : Terminal) → Yields q P → Yields (word k (λ _. q)) P
  yields_sign {q} k u = yields_word k (λ _. q) (λ v. u)

  pub yields_loop : (n : ℕ) (test : Terminal → Bool) (step : A → Parser A) → ((a : A) → P a → Yields (step a) P) → (a : A) → P a → Yields (loop n test step a) P
  unfolding loop
  yields_loop zero test step u a h = yields_choose test (yields_over _ (λ _. nowhere)) (yields_pure _ a h)
  yields_loop (suc n) test step u a h = yields_choose test (yields_then (u a h) (λ b k. yields_loop n test step u b k)) (yields_pure _ a h)

-- ---- heights

abbrev pub Low : ℕ → ExprTree → Type 0
Low n a = height_of a ≤ n

abbrev pub LowList : ℕ → List ExprTree → Type 0
LowList n xs = most (map height_of xs) ≤ n

low_one : (n : ℕ) (x : ExprTree) → Low n x → LowList n (x ∷ [])
low_one n x h = omega arith

low_end : (n : ℕ) (xs : List ExprTree) (x : ExprTree) → LowList n xs → Low n x → LowList n (xs ++ x ∷ [])
low_end n xs x h k = let e = high.list_height xs x in omega arith

-- an operand that passes is no higher than the room
pub yields_limited : (room : ℕ) (a : ExprTree) → Yields (limited room a) (Low room)
unfolding limited
yields_limited room a = of (first (nodes_at a room)) refl
  where
    of : (o : Option Span) → first (nodes_at a room) ≡ o → Yields (unless_deep o (pure a)) (Low room)
    of None e = yields_pure _ a (none_low a room e)
    of (Some at) e = yields_over _ (λ _. at)

-- ---- the rules

module _ (place : ℕ → Span) (bounds : Bounds) (nested : Part → Parser ExprTree) (low : (x : Part) → Yields (nested x) (Low bounds.room)) where
  comma_low : (b : List ExprTree) → LowList bounds.room b → Yields (r.comma place bounds nested b) (LowList bounds.room)
  unfolding r.comma
  comma_low b h = yields_sign t.Comma (yields_then (low part.Expression) (λ x k. yields_pure _ (b ++ x ∷ []) (low_end bounds.room b x h k)))

  exprs_low : Yields (r.exprs place bounds nested) (LowList bounds.room)
  unfolding r.exprs
  exprs_low = yields_then (yields_then {Q = LowList bounds.room} (low part.Expression) (λ x k. yields_pure _ (x ∷ []) (low_one bounds.room x k)))
      (λ b h. yields_loop bounds.most (is t.Comma) (r.comma place bounds nested) comma_low b h)

  args_low : Yields (r.args place bounds nested) (LowList bounds.room)
  unfolding r.args
  args_low = yields_choose (is t.RightParen) (yields_pure _ [] (omega arith)) exprs_low

  arguments_low : Yields (r.arguments place bounds nested) (LowList bounds.room)
  unfolding r.arguments
  arguments_low = yields_sign t.LeftParen (yields_then args_low (λ all h. yields_sign t.RightParen (yields_pure _ all h)))

  abbrev Fits : ExprTree → Type 0
  Fits = Low (suc bounds.room)

  named_low : (i : ℕ) (v : List ℕ) → Yields (r.named place bounds nested i v) Fits
  unfolding r.named
  named_low i v = yields_choose (is t.LeftParen)
      (yields_then arguments_low (λ all h. yields_pure _ (tree.Call (place i) v all) (let e = high.call_height (place i) v all in omega arith)))
      (yields_pure _ (tree.Name (place i) v) (let e = high.name_height (place i) v in omega arith))

  of_super_low : (i : ℕ) (v : List ℕ) → Yields (r.of_super place bounds nested i v) Fits
  unfolding r.of_super
  of_super_low i v = yields_choose (is t.LeftParen)
      (yields_then arguments_low (λ all h. yields_pure _ (tree.SuperCall (place i) v all) (let e = high.supercall_height (place i) v all in omega arith)))
      (yields_pure _ (tree.SuperField (place i) v) (let e = high.superfield_height (place i) v in omega arith))

  more_values_low : (n : ℕ) (b : List ExprTree) → LowList bounds.room b → Yields (r.more_values place bounds nested n b) (LowList bounds.room)
  unfolding r.more_values
  more_values_low zero b h = yields_choose (is t.Comma) (yields_over _ (λ _. nowhere)) (yields_pure _ b h)
  more_values_low (suc n) b h = yields_choose (is t.Comma)
      (yields_sign t.Comma (yields_choose (is t.RightBrace) (yields_pure _ b h)
      (yields_then (low part.Initializer) (λ x k. more_values_low n (b ++ x ∷ []) (low_end bounds.room b x h k)))))
      (yields_pure _ b h)

  inside_low : Yields (r.inside_braces place bounds nested) (LowList bounds.room)
  unfolding r.inside_braces
  inside_low = yields_choose (is t.RightBrace) (yields_pure _ [] (omega arith))
      (yields_choose (is t.Comma) (yields_sign t.Comma (yields_pure _ [] (omega arith)))
      (yields_then (low part.Initializer) (λ x k. more_values_low bounds.most (x ∷ []) (low_one bounds.room x k))))

  values_low : Yields (r.values place bounds nested) (LowList bounds.room)
  unfolding r.values
  values_low = yields_sign t.LeftBrace (yields_then inside_low (λ all h. yields_sign t.RightBrace (yields_pure _ all h)))

  valued_low : (i m : ℕ) (v : Token) (n : ℕ) → Yields (r.valued place bounds nested i m v n) Fits
  unfolding r.valued
  valued_low i m v n = yields_then values_low (λ all h. yields_pure _ (tree.NewValues (place i) (type_tree (place m) v n) all)
      (let e = high.newvalues_height (place i) (type_tree (place m) v n) all in omega arith))

  more_sizes_low : (n : ℕ) (b : List ExprTree) → LowList bounds.room b → Yields (r.more_sizes place bounds nested n b) (λ d. LowList bounds.room d.0)
  unfolding r.more_sizes
  more_sizes_low zero b h = yields_choose (is t.LeftBracket) (yields_over _ (λ _. nowhere)) (yields_pure _ (b, 0) h)
  more_sizes_low (suc n) b h = yields_choose (is t.LeftBracket)
      (yields_sign t.LeftBracket (yields_choose (is t.RightBracket)
      (yields_sign t.RightBracket (yields_then (yields_any (r.pairs bounds.most 1)) (λ d k. yields_pure _ (b, d) h)))
      (yields_then (low part.Expression) (λ x k. yields_sign t.RightBracket (more_sizes_low n (b ++ x ∷ []) (low_end bounds.room b x h k))))))
      (yields_pure _ (b, 0) h)

  sized_low : (i m : ℕ) (v : Token) → Yields (r.sized place bounds nested i m v) Fits
  unfolding r.sized
  sized_low i m v = yields_then (low part.Expression) (λ x k. yields_sign t.RightBracket (yields_then (more_sizes_low bounds.most (x ∷ []) (low_one bounds.room x k))
      (λ d h. yields_pure _ (tree.NewArray (place i) (type_tree (place m) v 0) d.0 d.1) (let e = high.newarray_height (place i) (type_tree (place m) v 0) d.0 d.1 in omega arith))))

  unsized_low : (i m : ℕ) (v : Token) → Yields (r.unsized place bounds nested i m v) Fits
  unfolding r.unsized
  unsized_low i m v = yields_sign t.RightBracket (yields_then (yields_any (r.pairs bounds.most 1)) (λ n h. valued_low i m v n))

  array_low : (i m : ℕ) (v : Token) → Yields (r.array place bounds nested i m v) Fits
  unfolding r.array
  array_low i m v = yields_choose (is t.LeftBrace) (valued_low i m v 0) (yields_sign t.LeftBracket (yields_choose (is t.RightBracket) (unsized_low i m v) (sized_low i m v)))

  object_low : (i : ℕ) (class : List ℕ) → Yields (r.object place bounds nested i class) Fits
  unfolding r.object
  object_low i class = yields_then arguments_low (λ all h. yields_pure _ (tree.New (place i) class all) (let e = high.new_height (place i) class all in omega arith))

  created_low : (i m : ℕ) (v : Token) → Yields (r.created place bounds nested i m v) Fits
  unfolding r.created
  created_low i m v = yields_cond (same_terminal (terminal v) t.Word) (yields_choose (is t.LeftParen) (object_low i v.text) (array_low i m v)) (array_low i m v)

  creation_low : (i : ℕ) → Yields (r.creation place bounds nested i) Fits
  unfolding r.creation
  creation_low i = yields_sign t.New (yields_here (λ m. yields_operator (among type_words) (λ v. r.created place bounds nested i m v) (λ v. created_low i m v)))

  parenthesized_low : (i : ℕ) → Yields (r.parenthesized place bounds nested i) Fits
  unfolding r.parenthesized
  parenthesized_low i = yields_sign t.LeftParen (yields_then (low part.Expression) (λ x k. yields_sign t.RightParen
      (yields_pure _ (tree.Paren (place i) x) (let e = high.paren_height (place i) x in omega arith))))

  by_super_low : (i : ℕ) → Yields (r.by_super place bounds nested i) Fits
  unfolding r.by_super
  by_super_low i = yields_sign t.Super (yields_sign t.Dot (yields_word t.Word (r.of_super place bounds nested i) (λ v. of_super_low i v)))

  by_name_low : (i : ℕ) → Yields (r.by_name place bounds nested i) Fits
  unfolding r.by_name
  by_name_low i = yields_word t.Word (r.named place bounds nested i) (λ v. named_low i v)

  literal_low : (i : ℕ) → Yields (r.literal place bounds nested i) Fits
  unfolding r.literal
  literal_low i = yields_operator (among literal_words) (λ v. pure (tree.Literal (place i) (literal_kind (terminal v)) v.text))
      (λ v. yields_pure _ (tree.Literal (place i) (literal_kind (terminal v)) v.text) (let e = high.literal_height (place i) (literal_kind (terminal v)) v.text in omega arith))

  primary_low : Yields (r.primary place bounds nested) Fits
  unfolding r.primary
  primary_low = yields_here (λ i. yields_choose (among literal_words) (literal_low i)
      (yields_choose (is t.This) (yields_sign t.This (yields_pure _ (tree.This (place i)) (let e = high.this_height (place i) in omega arith)))
      (yields_choose (is t.LeftParen) (parenthesized_low i) (yields_choose (is t.Super) (by_super_low i) (yields_choose (is t.New) (creation_low i) (by_name_low i))))))

  member_low : (i : ℕ) (x : ExprTree) (v : List ℕ) → Low bounds.room x → Yields (r.member place bounds nested i x v) Fits
  unfolding r.member
  member_low i x v k = yields_choose (is t.LeftParen)
      (yields_then arguments_low (λ all h. yields_pure _ (tree.MethodCall (place i) x v all) (let e = high.methodcall_height (place i) x v all in omega arith)))
      (yields_pure _ (tree.Field (place i) x v) (let e = high.field_height (place i) x v in omega arith))

  element_low : (i : ℕ) (x : ExprTree) → Yields (r.element place bounds nested i x) Fits
  unfolding r.element
  element_low i x = yields_sign t.LeftBracket (yields_then (yields_limited bounds.room x) (λ x h. yields_then (low part.Expression) (λ y k. yields_sign t.RightBracket
      (yields_pure _ (tree.Index (place i) x y) (let e = high.index_height (place i) x y in omega arith)))))

  dotted_low : (i : ℕ) (x : ExprTree) → Yields (r.dotted place bounds nested i x) Fits
  unfolding r.dotted
  dotted_low i x = yields_sign t.Dot (yields_then (yields_limited bounds.room x) (λ x h. yields_word t.Word (r.member place bounds nested i x) (λ v. member_low i x v h)))

  selection_low : (i : ℕ) (x : ExprTree) → Yields (r.selection place bounds nested i x) Fits
  unfolding r.selection
  selection_low i x = yields_cond (is_new_array x) (dotted_low i x) (yields_choose (is t.LeftBracket) (element_low i x) (dotted_low i x))

  selected_low : Yields (r.selected place bounds nested) Fits
  unfolding r.selected
  selected_low = yields_here (λ i. yields_then primary_low (λ a h. yields_loop bounds.most (among selectors) (r.selection place bounds nested i) (λ x k. selection_low i x) a h))

  postfix_step_low : (i : ℕ) (x : ExprTree) → Yields (r.postfix_step place bounds nested i x) Fits
  unfolding r.postfix_step
  postfix_step_low i x = yields_operator (among step_ops) _ (λ v. yields_then (yields_limited bounds.room x)
      (λ x h. yields_pure _ (tree.Postfix (place i) (step_op (terminal v)) x) (let e = high.postfix_height (place i) (step_op (terminal v)) x in omega arith)))

  postfix_low : Yields (r.postfix place bounds nested) Fits
  unfolding r.postfix
  postfix_low = yields_here (λ i. yields_then selected_low (λ a h. yields_loop bounds.most (among step_ops) (r.postfix_step place bounds nested i) (λ x k. postfix_step_low i x) a h))

  cast_low : (i : ℕ) → Yields (r.cast place bounds nested i) Fits
  unfolding r.cast
  cast_low i = yields_sign t.LeftParen (yields_then (yields_any (r.type_at place bounds.most)) (λ ty k. yields_sign t.RightParen (yields_then (low (operand_part ty))
      (λ x h. yields_pure _ (tree.Cast (place i) ty x) (let e = high.cast_height (place i) ty x in omega arith)))))

  negation_low : (i : ℕ) → Yields (r.negation place bounds nested i) Fits
  unfolding r.negation
  negation_low i = yields_operator (among negations) _ (λ v. yields_then (low part.Unary)
      (λ x h. yields_pure _ (tree.Unary (place i) (negation_op (terminal v)) x) (let e = high.unary_height (place i) (negation_op (terminal v)) x in omega arith)))

  plain_low : Yields (r.plain place bounds nested) Fits
  unfolding r.plain
  plain_low = yields_here (λ i. yields_choose (among negations) (negation_low i) (yields_ahead r.is_cast (cast_low i) postfix_low))

  least_low : (i : ℕ) → Yields (r.least place bounds nested i) Fits
  unfolding r.least
  least_low i = yields_here (λ m. yields_operator (among leasts) _ (λ v. yields_then (yields_limited bounds.room (tree.Literal (place m) (literal_kind (terminal v)) v.text))
      (λ x h. yields_pure _ (tree.Unary (place i) unaries.Minus x) (let e = high.unary_height (place i) unaries.Minus x in omega arith))))

  negative_low : (i : ℕ) → Yields (r.negative place bounds nested i) Fits
  unfolding r.negative
  negative_low i = yields_choose (among leasts) (least_low i)
      (yields_then (low part.Unary) (λ x h. yields_pure _ (tree.Unary (place i) unaries.Minus x) (let e = high.unary_height (place i) unaries.Minus x in omega arith)))

  positive_low : (i : ℕ) → Yields (r.positive place bounds nested i) Fits
  unfolding r.positive
  positive_low i = yields_sign t.Plus (yields_then (low part.Unary) (λ x h. yields_pure _ (tree.Unary (place i) unaries.Plus x) (let e = high.unary_height (place i) unaries.Plus x in omega arith)))

  prefixed_low : (i : ℕ) → Yields (r.prefixed place bounds nested i) Fits
  unfolding r.prefixed
  prefixed_low i = yields_operator (among step_ops) _ (λ v. yields_then (low part.Unary)
      (λ x h. yields_pure _ (tree.Prefix (place i) (step_op (terminal v)) x) (let e = high.prefix_height (place i) (step_op (terminal v)) x in omega arith)))

  unary_low : Yields (r.unary place bounds nested) Fits
  unfolding r.unary
  unary_low = yields_here (λ i. yields_choose (is t.Minus) (yields_sign t.Minus (negative_low i))
      (yields_choose (is t.Plus) (positive_low i) (yields_choose (among step_ops) (prefixed_low i) plain_low)))

  binary_low : (h i : ℕ) (l : ExprTree) → Yields (r.binary place bounds nested h i l) Fits
  unfolding r.binary
  binary_low h i l = yields_operator (among (ops h)) _ (λ v. yields_then (yields_limited bounds.room l) (λ l k. yields_then (low (part.Operand h))
      (λ x o. yields_pure _ (tree.Binary (place i) (binary_op (terminal v)) l x) (let e = high.binary_height (place i) (binary_op (terminal v)) l x in omega arith))))

  instance_low : (i : ℕ) (l : ExprTree) → Yields (r.instance place bounds nested i l) Fits
  unfolding r.instance
  instance_low i l = yields_sign t.InstanceOf (yields_then (yields_limited bounds.room l) (λ l k. yields_then (yields_any (r.type_at place bounds.most))
      (λ ty o. yields_pure _ (tree.InstanceOf (place i) l ty) (let e = high.instanceof_height (place i) l ty in omega arith))))

  operation_low : (h i : ℕ) (l : ExprTree) → Yields (r.operation place bounds nested h i l) Fits
  unfolding r.operation
  operation_low h i l = yields_cond (is_relational h) (yields_choose (is t.InstanceOf) (instance_low i l) (binary_low h i l)) (binary_low h i l)

  level_low : (h : ℕ) → Yields (r.level place bounds nested h) Fits
  unfolding r.level
  level_low zero = unary_low
  level_low (suc h) = yields_here (λ i. yields_then (level_low h) (λ a k. yields_loop bounds.most (goes_on h) (r.operation place bounds nested h i) (λ x o. operation_low h i x) a k))

  otherwise_low : (i : ℕ) (x y : ExprTree) → Low bounds.room x → Low bounds.room y → Yields (r.otherwise place bounds nested i x y) Fits
  unfolding r.otherwise
  otherwise_low i x y h k = yields_then (low part.Conditional) (λ z o. yields_pure _ (tree.Conditional (place i) x y z) (let e = high.conditional_height (place i) x y z in omega arith))

  alternatives_low : (i : ℕ) (x : ExprTree) → Yields (r.alternatives place bounds nested i x) Fits
  unfolding r.alternatives
  alternatives_low i x = yields_sign t.Question (yields_then (yields_limited bounds.room x) (λ x h. yields_then (low part.Expression) (λ y k. yields_sign t.Colon (otherwise_low i x y h k))))

  chosen_low : (i : ℕ) (x : ExprTree) → Fits x → Yields (r.chosen place bounds nested i x) Fits
  unfolding r.chosen
  chosen_low i x h = yields_choose (is t.Question) (alternatives_low i x) (yields_pure _ x h)

  conditional_low : Yields (r.conditional place bounds nested) Fits
  unfolding r.conditional
  conditional_low = yields_here (λ i. yields_then (level_low ranks) (λ x h. chosen_low i x h))

  assignment_low : (i : ℕ) (l : ExprTree) → Yields (r.assignment place bounds nested i l) Fits
  unfolding r.assignment
  assignment_low i l = yields_operator (among assigns) _ (λ v. yields_then (yields_limited bounds.room l) (λ l h. yields_then (low part.Expression)
      (λ x k. yields_pure _ (tree.Assign (place i) (assign_op (terminal v)) l x) (let e = high.assign_height (place i) (assign_op (terminal v)) l x in omega arith))))

  assigned_low : (i : ℕ) (l : ExprTree) → Fits l → Yields (r.assigned place bounds nested i l) Fits
  unfolding r.assigned
  assigned_low i l h = yields_cond (is_unary l) (yields_choose (among assigns) (assignment_low i l) (yields_pure _ l h)) (yields_pure _ l h)

  expression_low : Yields (r.expression place bounds nested) Fits
  unfolding r.expression
  expression_low = yields_here (λ i. yields_then conditional_low (λ l h. assigned_low i l h))

  initializer_low : Yields (r.initializer place bounds nested) Fits
  unfolding r.initializer
  initializer_low = yields_here (λ i. yields_choose (is t.LeftBrace)
      (yields_then values_low (λ all h. yields_pure _ (tree.Braces (place i) all) (let e = high.braces_height (place i) all in omega arith))) expression_low)

  pub rule_low : (x : Part) → Yields (r.rule place bounds nested x) Fits
  unfolding r.rule
  rule_low part.Expression = expression_low
  rule_low part.Conditional = conditional_low
  rule_low (part.Operand h) = level_low h
  rule_low part.Unary = unary_low
  rule_low part.Plain = plain_low
  rule_low part.Initializer = initializer_low

-- ---- every room

nested_low : (place : ℕ → Span) (most room : ℕ) (x : Part) → Yields (r.nested place most room x) (Low room)
unfolding r.nested
nested_low place most zero x = yields_over _ place
nested_low place most (suc room) x = rule_low place (bounds_of most room) (r.nested place most room) (λ y. nested_low place most room y) x

pub part_low : (place : ℕ → Span) (most room : ℕ) (x : Part) (s : Text) (i : ℕ) (a : ExprTree) (j : ℕ) → r.nested place most room x s i ≡ Found a j → height_of a ≤ room
part_low place most room x s i a j e = nested_low place most room x s i a j e
