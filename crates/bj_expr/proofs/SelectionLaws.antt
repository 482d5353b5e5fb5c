-- The readers of what is selected from a primary expression, and of `++` and `--` behind it.
use Rattle.std.proofs.Common.{◌≡◌, ℕ, suc, ◌<◌, inl, inr, true, false, refl, ap, ◌∙◌, subst, arith, List}
use Rattle.std.specs.Prelude.{◌||◌}
use Rattle.bj_base.specs.declared.span.Span.{Span}
use Rattle.bj_expr_tree.specs.declared.expr.ExprTree.{ExprTree}
use Rattle.bj_expr_tree.specs.declared.expr.ExprTree.TheVariants as tree
use Rattle.bj_expr.specs.declared.bounds.Bounds.{Bounds}
use Rattle.bj_expr.specs.declared.part.Part.{Part}
use Rattle.bj_expr.specs.declared.part.Part.TheVariants as part
use Rattle.bj_grammar.specs.declared.terminal.Terminal.{Terminal}
use Rattle.bj_grammar.specs.declared.terminal.Terminal.TheVariants as t
use Rattle.bj_grammar.specs.Terminal.{terminal, same_terminal, among}
use Rattle.bj_grammar.specs.Reader.{Text, Parser, ◌>>=◌, pure, word, sign}
use Rattle.bj_expr.specs.Grammar as g
use Rattle.bj_expr.specs.Grammar.{step_ops, step_op, is_new_array, Expression, Args, Primary, Selected, Postfix}
use Rattle.bj_expr.specs.Reading as r
use Rattle.bj_expr.specs.Reading.{is, begins_plain, selectors}
use Rattle.std.proofs.lemmas.Bool.{both_ways}
use Rattle.bj_grammar.proofs.Laws.{Rel, Laws, Then, Same, Word, Operator, Either, Steps, done, steps_end, steps_fold, pure_laws, is_kind, seq, alt, tok, op, start, renamed, rep, rep_by}
use Rattle.bj_expr.proofs.Facts.{or_split, other_way, stops_level, stops_expression, tokens_of, step_after}
use Rattle.bj_expr.proofs.Tall as tall
use Rattle.bj_expr.proofs.LawLemmas.{pick_laws, limited_then, more_than, Tall, After, PartRel, AfterPart, is_not, not_among, closer, is_closer}
use Rattle.bj_expr.proofs.ArgumentLaws.{arguments_laws}
use Rattle.bj_expr.proofs.CreationLaws.{AfterPrimary}
use Rattle.bj_expr.proofs.PrimaryLaws.{NamedRel, called, primary_laws, plain_left_paren}

after_op_one : (among step_ops t.Increment ≡ true) × (among step_ops t.Other ≡ false)
unfolding same_terminal
after_op_one = (refl, refl)

dot_not : same_terminal t.Dot t.LeftBracket ≡ false
unfolding same_terminal
dot_not = refl

selector_dot : among selectors t.Dot ≡ true
unfolding same_terminal
selector_dot = refl

selector_bracket : among selectors t.LeftBracket ≡ true
unfolding same_terminal
selector_bracket = refl

selector_plain : (among begins_plain t.Dot ≡ false) × (among begins_plain t.LeftBracket ≡ false)
unfolding same_terminal
selector_plain = (refl, refl)

no_bracket : (x : Terminal) → among selectors x ≡ false → same_terminal x t.LeftBracket ≡ false
no_bracket x e = other_way (among selectors) x t.LeftBracket selector_bracket e

module _ (place : ℕ → Span) (bounds : Bounds) (n : ℕ) (small : n ≡ suc bounds.room) (nested : Part → Parser ExprTree)
    (u : (x : Part) → Laws bounds.most (nested x) (PartRel place x) (AfterPart x) (Tall n)) where
  whole : Laws bounds.most (nested part.Expression) (λ s a i j. Expression place s a i j) (After stops_expression) (Tall n)
  whole = u part.Expression

  abbrev MemberRel : ℕ → ExprTree → List ℕ → Rel ExprTree
  MemberRel i x v = NamedRel place bounds n nested u (tree.MethodCall (place i) x v) (tree.Field (place i) x v)

  member_laws : (i : ℕ) (x : ExprTree) (v : List ℕ) → Laws bounds.most (r.member place bounds nested i x v) (MemberRel i x v) AfterPrimary (Tall (suc n))
  unfolding r.member
  member_laws i x v = alt (is t.LeftParen)
      (seq (arguments_laws place bounds n nested u (λ _ _. Unit {0})) (λ all. pure_laws bounds.most (tree.MethodCall (place i) x v all) AfterPrimary (Tall (suc n)))
      (λ s all m c j d last. tt)
      (λ s all m c j d at h. tall.tall_methodcall_args n (place i) x v all c d.tree h))
      (pure_laws bounds.most (tree.Field (place i) x v) AfterPrimary (Tall (suc n)))
      (λ s a i j d last. is_kind _ _ d.first.kind)
      (λ s a i j d last. other_way (among begins_plain) (terminal (s i)) t.LeftParen plain_left_paren (subst (λ (m : ℕ). among begins_plain (terminal (s m)) ≡ false) d.at last.0))

  abbrev IndexRel : ℕ → ExprTree → Rel ExprTree
  IndexRel i x = Word t.LeftBracket (λ _. Then (λ s a i j. Expression place s a i j) (λ y. Word t.RightBracket (λ _. Same (tree.Index (place i) x y))))

  -- what is selected from stands one deeper
  member_grows : (k i : ℕ) (x : ExprTree) (v : List ℕ) (s : Text) (a : ExprTree) (m j : ℕ) → MemberRel i x v s a m j → (at : Span) → Tall k at x → Tall (suc k) at a
  member_grows k i x v s a m j (inl c) at h = tall.tall_methodcall_target k (place i) x v c.part a c.rest.tree h
  member_grows k i x v s a m j (inr c) at h = tall.tall_field_target k (place i) x v a c.tree h

  abbrev DottedRel : ℕ → ExprTree → Rel ExprTree
  DottedRel i x = Word t.Dot (λ _. Word t.Word (λ v. MemberRel i x v))

  dotted_laws : (i : ℕ) (x : ExprTree) → Laws bounds.most (r.dotted place bounds nested i x) (DottedRel i x) AfterPrimary (Tall (suc n))
  unfolding r.dotted
  dotted_laws i x = tok t.Dot refl (λ _. limited_then bounds.most bounds.room n small (λ y. word t.Word (r.member place bounds nested i y)) x (tok {Q = λ v. MemberRel i x v} t.Word refl (λ v. member_laws i x v))
      (λ at h s a m j d. member_grows n i x (s m).text s a (suc m) j d.rest at h))

  element_laws : (i : ℕ) (x : ExprTree) → Laws bounds.most (r.element place bounds nested i x) (IndexRel i x) AfterPrimary (Tall (suc n))
  unfolding r.element
  element_laws i x = tok t.LeftBracket refl (λ _. limited_then bounds.most bounds.room n small (λ z. nested part.Expression >>= λ y. sign t.RightBracket (pure (tree.Index (place i) z y))) x (seq whole (λ y. tok t.RightBracket refl (λ _. pure_laws bounds.most (tree.Index (place i) x y) AfterPrimary (Tall (suc n))))
      (λ s y m b j d last. closer (terminal (s m)) t.RightBracket d.kind is_closer.1) (λ s y m b j d at h. tall.tall_index_index n (place i) x y b d.rest.tree h))
      (λ at h s a m j d. tall.tall_index_array n (place i) x d.part a d.rest.rest.tree h))

  -- an element, of what is no new array of given sizes
  pub record Indexed (i : ℕ) (x : ExprTree) (s : Text) (a : ExprTree) (m j : ℕ) : Type 0 where
    pub other : is_new_array x ≡ false
    pub stands : IndexRel i x s a m j

  abbrev SelectionRel : ℕ → ExprTree → Rel ExprTree
  SelectionRel i x = Either (Indexed i x) (DottedRel i x)

  selection_laws : (i : ℕ) (x : ExprTree) → Laws bounds.most (r.selection place bounds nested i x) (SelectionRel i x) AfterPrimary (Tall (suc n))
  unfolding r.selection
  selection_laws i x = pick_laws (is_new_array x)
      (λ e. renamed (SelectionRel i x) AfterPrimary (dotted_laws i x) (λ s a m j d. inr d)
      (λ s a m j d. elim d [ inl y ↦ absurd (both_ways (is_new_array x) y.other e) | inr y ↦ y ]) (λ a y z. z))
      (λ e. renamed (SelectionRel i x) AfterPrimary
      (alt (is t.LeftBracket) (element_laws i x) (dotted_laws i x) (λ s a m j d last. is_kind _ _ d.kind) (λ s a m j d last. is_not _ _ t.LeftBracket d.kind dot_not))
      (λ s a m j d. elim d [ inl y ↦ inl (record { other = e; stands = y }) | inr y ↦ inr y ]) (λ s a m j d. elim d [ inl y ↦ inl y.stands | inr y ↦ inr y ]) (λ a y z. z))

  selection_begins : (i : ℕ) (s : Text) (x a : ExprTree) (m j : ℕ) → SelectionRel i x s a m j → among selectors (terminal (s m)) ≡ true
  selection_begins i s x a m j (inl d) = ap (among selectors) d.stands.kind ∙ selector_bracket
  selection_begins i s x a m j (inr d) = ap (among selectors) d.kind ∙ selector_dot

  selection_strict : (i : ℕ) (s : Text) (x a : ExprTree) (m j : ℕ) → SelectionRel i x s a m j → m < j
  selection_strict i s x a m j (inl d) = let c = d.stands.rest in let h = whole.shape.forward s c.part (suc m) c.at c.first in let e = c.rest.rest.at in omega arith
  selection_strict i s x a m j (inr d) = let h = (member_laws i x (s (suc m)).text).shape.forward s a (suc (suc m)) j d.rest.rest in omega arith

  -- what a selection begins with may stand behind what it is selected from
  selection_follows : (i : ℕ) (s : Text) (x a : ExprTree) (m j : ℕ) → SelectionRel i x s a m j → AfterPrimary x (terminal (s m))
  selection_follows i s x a m j (inl d) = (not_among begins_plain _ t.LeftBracket d.stands.kind selector_plain.1, λ e. absurd (both_ways (is_new_array x) d.other e))
  selection_follows i s x a m j (inr d) = (not_among begins_plain _ t.Dot d.kind selector_plain.0, λ e. is_not _ _ t.LeftBracket d.kind dot_not)

  selection_grows : (i : ℕ) (s : Text) (x a : ExprTree) (m j : ℕ) → SelectionRel i x s a m j → (at : Span) → Tall (suc n) at x → Tall (suc n) at a
  selection_grows i s x a m j (inl d) at h = more_than n a (tall.tall_index_array (suc n) (place i) x d.stands.rest.part a d.stands.rest.rest.rest.tree h)
  selection_grows i s x a m j (inr d) at h = more_than n a (member_grows (suc n) i x (s (suc m)).text s a (suc (suc m)) j d.rest.rest at h)

  abbrev SelectedRel : ℕ → Rel ExprTree
  SelectedRel i = Then (λ s a i j. Primary place s a i j) (λ x s a m j. Steps (SelectionRel i) s x a m j)

  grow_selected : (i : ℕ) (s : Text) (x a : ExprTree) (m j : ℕ) → Selected place s x i m → SelectionRel i x s a m j → Selected place s a i j
  grow_selected i s x a m j d (inl o) = let c = o.stands.rest in g.index d o.other o.stands.kind c.first c.rest.kind c.rest.rest.tree c.rest.rest.at
  grow_selected i s x a m j d (inr o) = elim o.rest.rest [
    | inl c ↦ (let w = c.first.rest in
        g.method_call d o.kind o.rest.kind c.first.kind w.first w.rest.kind (c.rest.tree ∙ ap (tree.MethodCall (place i) x (s (suc m)).text) w.rest.rest.tree) (c.rest.at ∙ w.rest.rest.at))
    | inr c ↦ g.field d o.kind o.rest.kind c.tree c.at
  ]

  to_selected : (s : Text) (a : ExprTree) (i j : ℕ) → SelectedRel i s a i j → Selected place s a i j
  to_selected s a i j d = steps_fold (SelectionRel i) (λ s a i j. Selected place s a i j) s i (λ x b m k. grow_selected i s x b m k) d.part a d.at j (g.primary d.first) d.rest

  from_selected : (s : Text) {a : ExprTree} {i j : ℕ} → Selected place s a i j → SelectedRel i s a i j
  from_selected s {a} {i} {j} (g.primary d) = record { part = a; at = j; first = d; rest = done refl refl }
  from_selected s {a} {i} {j} (g.field {x} {m} d o1 o2 e at) =
      let v = from_selected s d in
      record { part = v.part; at = v.at; first = v.first; rest = steps_end (SelectionRel i) s v.part x a v.at m j v.rest (inr (record { kind = o1; rest = record { kind = o2; rest = inr (record { tree = e; at = at }) } })) }
  from_selected s {a} {i} {j} (g.method_call {x} {args} {m} {n = k} d o1 o2 o3 xs o4 e at) =
      let v = from_selected s d in
      record {
        part = v.part;
        at = v.at;
        first = v.first;
        rest = steps_end (SelectionRel i) s v.part x a v.at m j v.rest
            (inr (record { kind = o1; rest = record { kind = o2; rest = called place bounds n nested u s (tree.MethodCall (place i) x (s (suc m)).text) (tree.Field (place i) x (s (suc m)).text) a args (suc (suc m)) k j o3 xs o4 e at } }));
      }
  from_selected s {a} {i} {j} (g.index {x} {m} d o1 o2 y o3 e at) =
      let v = from_selected s d in
      record {
        part = v.part;
        at = v.at;
        first = v.first;
        rest = steps_end (SelectionRel i) s v.part x a v.at m j v.rest
            (inl (record { other = o1; stands = record { kind = o2; rest = record { part = _; at = _; first = y; rest = record { kind = o3; rest = record { tree = e; at = at } } } } }));
      }

  selected_laws : Laws bounds.most (r.selected place bounds nested) (λ s a i j. Selected place s a i j) (After (λ x. among selectors x || among begins_plain x)) (Tall (suc n))
  unfolding r.selected
  selected_laws = renamed (λ s a i j. Selected place s a i j) (After (λ x. among selectors x || among begins_plain x))
      (start {D = SelectedRel} (λ i. rep_by {Q = SelectionRel i} (among selectors) (primary_laws place bounds n nested u) (λ x. selection_laws i x) (λ s x a m j d. selection_begins i s x a m j d) (λ s x a m j d. selection_strict i s x a m j d)
      (λ s x a m j d. selection_follows i s x a m j d) (λ s x a m j d at h. selection_grows i s x a m j d at h)))
      to_selected (λ s a i j d. from_selected s d) (λ a x e. let w = or_split (among selectors x) (among begins_plain x) e in ((w.1, λ _. no_bracket x w.0), w.0))

  -- ---- `++` and `--` behind

  abbrev StepRel : ℕ → ExprTree → Rel ExprTree
  StepRel i x = Operator (among step_ops) (λ v. Same (tree.Postfix (place i) (step_op (terminal v)) x))

  abbrev PostfixRel : ℕ → Rel ExprTree
  PostfixRel i = Then (λ s a i j. Selected place s a i j) (λ x s a m j. Steps (StepRel i) s x a m j)

  to_postfix : (s : Text) (a : ExprTree) (i j : ℕ) → PostfixRel i s a i j → Postfix place s a i j
  to_postfix s a i j d = steps_fold (StepRel i) (λ s a i j. Postfix place s a i j) s i (λ x b m k h o. g.step h o.kind o.rest.tree o.rest.at) d.part a d.at j (g.selected d.first) d.rest

  from_postfix : (s : Text) {a : ExprTree} {i j : ℕ} → Postfix place s a i j → PostfixRel i s a i j
  from_postfix s {a} {i} {j} (g.selected d) = record { part = a; at = j; first = d; rest = done refl refl }
  from_postfix s {a} {i} {j} (g.step {x} {m} d o e at) =
      let v = from_postfix s d in
      record { part = v.part; at = v.at; first = v.first; rest = steps_end (StepRel i) s v.part x a v.at m j v.rest (record { kind = o; rest = record { tree = e; at = at } }) }

  pub postfix_laws : Laws bounds.most (r.postfix place bounds nested) (λ s a i j. Postfix place s a i j) (After (stops_level 0)) (Tall (suc n))
  unfolding r.postfix r.postfix_step
  postfix_laws = renamed (λ s a i j. Postfix place s a i j) (After (stops_level 0))
      (start {D = PostfixRel} (λ i. rep {Q = StepRel i} (among step_ops) selected_laws
      (λ x. op {Q = λ v. Same (tree.Postfix (place i) (step_op (terminal v)) x)} (among step_ops) t.Increment refl after_op_one.0 (tokens_of step_ops after_op_one.1)
      (λ v. limited_then bounds.most bounds.room n small (λ y. pure (tree.Postfix (place i) (step_op (terminal v)) y)) x (pure_laws bounds.most (tree.Postfix (place i) (step_op (terminal v)) x) (After (λ x. among selectors x || among begins_plain x)) (Tall (suc n)))
      (λ at h s a m j d. tall.tall_postfix_operand n (place i) (step_op (terminal v)) x a d.tree h)))
      (λ s x a m j d. d.kind) (λ s x a m j d. let e = d.rest.at in omega arith) (λ a x o. step_after x o)
      (λ s x a m j d at h. more_than n a (tall.tall_postfix_operand (suc n) (place i) (step_op (terminal (s m))) x a d.rest.tree h))))
      to_postfix (λ s a i j d. from_postfix s d) (λ a x e. let w = or_split (among step_ops x) (among selectors x || among begins_plain x) e in (w.1, w.0))
