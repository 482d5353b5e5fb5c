-- The laws of `for`.
use Rattle.std.proofs.Common.{◌≡◌, ℕ, zero, suc, ◌≤◌, ◌⊎◌, inl, inr, Bool, true, false, cond, refl, sym, ap, ◌∙◌, subst, arith, le_refl, List, [], ◌∷◌, ◌++◌, Option}
use Rattle.bj_base.specs.declared.span.Span.{Span}
use Rattle.bj_expr_tree.specs.declared.types.TypeTree.{TypeTree}
use Rattle.bj_expr_tree.specs.declared.types.NamedPlace.{NamedPlace}
use Rattle.bj_expr_tree.specs.declared.expr.ExprTree.{ExprTree}
use Rattle.bj_tree.specs.declared.stmt.VariableTree.{VariableTree}
use Rattle.bj_tree.specs.declared.stmt.StmtTree.{StmtTree}
use Rattle.bj_tree.specs.declared.stmt.StmtTree.TheVariants as stmt
use Rattle.bj_grammar.specs.declared.terminal.Terminal.{Terminal}
use Rattle.bj_grammar.specs.declared.terminal.Terminal.TheVariants as t
use Rattle.bj_grammar.specs.Terminal.{terminal, same_terminal, among}
use Rattle.bj_grammar.specs.Reader.{Text, Found, Parser, and_then, ◌>>=◌, pure, sign, ahead, loop}
use Rattle.bj_grammar.proofs.Laws.{Rel, Shape, Laws, Then, then_shape, Same, Word, Either, Steps, done, more, stop, pure_laws, over_laws, steps_end, steps_fold, is_kind, kind_is, ahead_laws, loop_laws, seq, alt, tok, start, renamed, rep}
use Rattle.bj_expr.specs.Grammar.{TypeAt, Dims, Expression}
use Rattle.bj_expr.specs.Reading.{is, type_at}
use Rattle.bj_stmt.specs.declared.part.StmtPart.{StmtPart}
use Rattle.bj_stmt.specs.declared.part.StmtPart.TheVariants as p
use Rattle.bj_stmt.specs.Grammar as g
use Rattle.bj_stmt.specs.Grammar.{jump, jumps, dangles, MaybeFinal, MaybeInit, MaybeExpression, MaybeExpressions, MaybeName, Variables, Declaration, Evaluation, Evaluations, ForInit, Statement, Block, BlockStatements, BlockStatement, Members, Member, Label, Catches, Catch, ConstructorCall, ConstructorBody}
use Rattle.bj_stmt.specs.Reading as r
use Rattle.bj_stmt.specs.Reading.{declares, is_labelled, is_class_lock, is_constructor_call, constructors, inside, is_empty, branch_words, loop_words, leave_words, guard_words}
use Rattle.bj_stmt.specs.Nodes.{variable_nodes, stmt_nodes_at, StmtHasNode, SomeStmtHasNode, SomeVariableHasNode}
use Rattle.bj_stmt.proofs.Expressions.{Given, expression_words, Never}
use Rattle.bj_stmt.proofs.StmtNodeForms.{local_root}
use Rattle.bj_stmt.proofs.StmtTall as tall
use Rattle.bj_stmt.proofs.StmtShape.{evaluation_forward}
use Rattle.bj_stmt.proofs.Leftmost.{each, is_not, Second, semicolon_second, comma_second}
use Rattle.bj_stmt.proofs.Begins as Begins
use Rattle.bj_stmt.proofs.Begins.{no_follow, member_words, First, member_first}
use Rattle.bj_stmt.proofs.Starts.{evaluation_begins, dims_two, type_declares, final_declares, evaluation_declares}
use Rattle.bj_stmt.proofs.Ahead.{stop_then, forth, declares_depends, type_past, type_past_bracket, evaluation_past, evaluation_past_bracket}
use Rattle.bj_stmt.proofs.Small.{same_after, CommaVariable, VariablesBehind, variables_behind_laws, to_named, from_named, Any, Before, InList, list_ends, in_list, sign_facts, final_laws, type_no_final, NameAt, name_laws, value_laws, value_ends, maybe_value_laws, all_values_laws}
use Rattle.bj_stmt.proofs.Rules.{StandsAs, AfterStatement, AfterPart, handlers, stop_ahead, stop_found}

module _ (place : ℕ → Span) (most : ℕ) (given : Given place most) (room : ℕ) (nested : StmtPart → Parser StmtTree)
    (u : (x : StmtPart) → Laws most (nested x) (StandsAs x place) (AfterPart x) (StmtHasNode (suc room))) where
  abbrev TallStmt : Span → StmtTree → Type 0
  TallStmt = StmtHasNode (suc (suc room))

  abbrev TallList : Span → List StmtTree → Type 0
  TallList = SomeStmtHasNode (suc room)

  abbrev BodyRel : Rel StmtTree
  BodyRel = λ s a i j. Statement place s a i j

  abbrev NameRel : Rel NamedPlace
  NameRel = λ s a i j. NameAt place most i s a i j

  -- what follows a statement that ends with another follows this one
  handed : (f : StmtTree → StmtTree) (same : (b : StmtTree) → dangles (f b) ≡ dangles b) (s : Text) (b a : StmtTree) (m j : ℕ) → Same (f b) s a m j → AfterStatement a (terminal (s j)) → AfterStatement b (terminal (s m))
  handed f same s b a m j d last = record {
    no_else = λ h. subst (λ (n : ℕ). same_terminal (terminal (s n)) t.Else ≡ false) d.at (last.no_else (ap dangles d.tree ∙ (same b ∙ h)));
    no_handler = subst (λ (n : ℕ). among handlers (terminal (s n)) ≡ false) d.at last.no_handler;
  }

  ended_laws : (f : StmtTree → StmtTree) → ((b : StmtTree) → dangles (f b) ≡ dangles b) → ((b a : StmtTree) → a ≡ f b → (at : Span) → StmtHasNode (suc room) at b → TallStmt at a)
      → Laws most (nested p.Statement >>= λ b. pure (f b)) (Then BodyRel (λ b. Same (f b))) AfterStatement TallStmt
  ended_laws f same high = seq (u p.Statement) (λ b. pure_laws most (f b) AfterStatement TallStmt) (λ s b m a j d last. handed f same s b a m j d last) (λ s b m a j d at h. high b a d.tree at h)

  -- ---- behind what a `for` begins with

  abbrev Updated : ℕ → List StmtTree → Option ExprTree → List ExprTree → Rel StmtTree
  Updated i inits x us = Word t.RightParen (λ _. Then BodyRel (λ b. Same (stmt.For (place i) inits x us b)))

  abbrev Tested : ℕ → List StmtTree → Option ExprTree → Rel StmtTree
  Tested i inits x = Word t.Semicolon (λ _. Then (λ s a i j. MaybeExpressions place s a i j) (Updated i inits x))

  abbrev ForTail : ℕ → List StmtTree → Rel StmtTree
  ForTail i inits = Word t.Semicolon (λ _. Then (λ s a i j. MaybeExpression place s a i j) (Tested i inits))

  tail_laws : (i : ℕ) (inits : List StmtTree) → Laws most (r.for_tail place most room nested i inits) (ForTail i inits) AfterStatement TallStmt
  unfolding r.for_tail
  tail_laws i inits = tok t.Semicolon refl (λ _. seq (maybe_value_laws place most given room)
      (λ x. tok t.Semicolon refl (λ _. seq (all_values_laws place most given room)
      (λ us. tok t.RightParen refl (λ _. ended_laws (stmt.For (place i) inits x us) (λ b. Begins.for_dangles (place i) inits x us b) (λ b a e at h. tall.tall_for_body room (place i) inits x us b a e h)))
      (λ s us m a j d last. d.kind) (λ s us m a j d at h. tall.tall_for_update room (place i) inits x us d.rest.part a d.rest.rest.tree h)))
      (λ s x m a j d last. d.kind) (λ s x m a j d at h. tall.tall_for_test room (place i) inits x d.rest.part d.rest.rest.rest.part a d.rest.rest.rest.rest.tree h))

  tail_high : {p : Span} (i : ℕ) (inits : List StmtTree) (n : ℕ) (s : Text) (a : StmtTree) (m j : ℕ) → ForTail i inits s a m j → SomeStmtHasNode (suc n) p inits → StmtHasNode (suc (suc n)) p a
  tail_high i inits n s a m j d h = let w = d.rest.rest.rest in tall.tall_for_init n (place i) inits d.rest.part w.part w.rest.rest.part a w.rest.rest.rest.tree h

  to_tail : (i k : ℕ) (inits : List StmtTree) (s : Text) (a : StmtTree) (j : ℕ) → terminal (s i) ≡ t.For → terminal (s (suc i)) ≡ t.LeftParen → ForInit place s inits (suc (suc i)) k → ForTail i inits s a k j → Statement place s a i j
  to_tail i k inits s a j o q d e =
      let x = e.rest in
      let us = x.rest.rest in
      let b = us.rest.rest in
      g.for o q d e.kind x.first x.rest.kind us.first us.rest.kind (subst (λ (z : ℕ). Statement place s b.part (suc us.at) z) (sym b.rest.at) b.first) b.rest.tree

  -- ---- over an array

  abbrev EachRel : ℕ → Bool → TypeTree → NamedPlace → Rel StmtTree
  EachRel i f ty name = Word t.Colon (λ _. Then (λ s a i j. Expression place s a i j) (λ x. Word t.RightParen (λ _. Then BodyRel (λ b. Same (stmt.ForEach (place i) f ty name x b)))))

  each_laws : (i : ℕ) (f : Bool) (ty : TypeTree) (name : NamedPlace) → Laws most (r.for_each place most room nested i f ty name) (EachRel i f ty name) AfterStatement TallStmt
  unfolding r.for_each
  each_laws i f ty name = tok t.Colon refl (λ _. seq (value_laws place most given room)
      (λ x. tok t.RightParen refl (λ _. ended_laws (stmt.ForEach (place i) f ty name x) (λ b. Begins.foreach_dangles (place i) f ty name x b) (λ b a e at h. tall.tall_foreach_body room (place i) f ty name x b a e h)))
      (λ s x m a j d last. value_ends place most given room x _ t.RightParen d.kind sign_facts.2)
      (λ s x m a j d at h. tall.tall_foreach_ranges room (place i) f ty name x d.rest.part a d.rest.rest.tree h))

  -- ---- with variables

  abbrev VarsRel : ℕ → ℕ → Bool → TypeTree → NamedPlace → ℕ → Rel StmtTree
  VarsRel i d f ty name m = Then (VariablesBehind place most given room m name.name) (λ vs. ForTail i (stmt.Local (place d) f ty vs ∷ []))

  -- the first of the variables is a node at its name
  behind_front : (m : ℕ) (v : List ℕ) (s : Text) (a : List VariableTree) (i j : ℕ) → VariablesBehind place most given room m v s a i j → SomeVariableHasNode 1 (place m) a
  behind_front m v s a i j d = steps_fold (CommaVariable place most given room) (λ s a i j. SomeVariableHasNode 1 (place m) a) s i
      (λ b c k l h o. tall.tall_before variable_nodes 0 b o.rest.part c o.rest.rest.tree h)
      d.part a d.at j (tall.tall_one variable_nodes 0 d.first.part d.part d.first.rest.tree (tall.variable_root (place m) d.first.part (ap (λ (x : VariableTree). x.at) d.first.first.rest.rest.tree))) d.rest

  one_local : {p : Span} (n : ℕ) (d : ℕ) (f : Bool) (ty : TypeTree) (vs : List VariableTree) → SomeVariableHasNode (suc n) p vs → SomeStmtHasNode (suc (suc n)) p (stmt.Local (place d) f ty vs ∷ [])
  one_local n d f ty vs h = tall.tall_one stmt_nodes_at (suc n) (stmt.Local (place d) f ty vs) _ refl (tall.tall_local_variables n (place d) f ty vs _ refl h)

  -- the declaration is a node below the `for`
  local_high : (i d : ℕ) (f : Bool) (ty : TypeTree) (name : NamedPlace) (m : ℕ) (s : Text) (a : StmtTree) (k j : ℕ) → VarsRel i d f ty name m s a k j → StmtHasNode 2 (place d) a
  local_high i d f ty name m s a k j e = tail_high i (stmt.Local (place d) f ty e.part ∷ []) 0 s a e.at j e.rest
      (tall.tall_one stmt_nodes_at 0 (stmt.Local (place d) f ty e.part) _ refl (tall.rooted (place d) (stmt.Local (place d) f ty e.part) _ refl (local_root (place d) f ty e.part)))

  -- and its first variable one below the declaration
  vars_high : (i d : ℕ) (f : Bool) (ty : TypeTree) (name : NamedPlace) (m : ℕ) (s : Text) (a : StmtTree) (k j : ℕ) → VarsRel i d f ty name m s a k j → StmtHasNode 3 (place m) a
  vars_high i d f ty name m s a k j e = tail_high i (stmt.Local (place d) f ty e.part ∷ []) 1 s a e.at j e.rest (one_local 0 d f ty e.part (behind_front m name.name s e.part k e.at e.first))

  vars_shape : (i d : ℕ) (f : Bool) (ty : TypeTree) (name : NamedPlace) (m : ℕ) → Shape (VarsRel i d f ty name m)
  vars_shape i d f ty name m = then_shape (VariablesBehind place most given room m name.name) (λ vs. ForTail i (stmt.Local (place d) f ty vs ∷ []))
      (variables_behind_laws place most given room m name.name).shape (λ vs. (tail_laws i (stmt.Local (place d) f ty vs ∷ [])).shape)

  vars_laws_at : (k : ℕ) → k ≡ room → (i d : ℕ) (f : Bool) (ty : TypeTree) (name : NamedPlace) (m : ℕ) → Laws most (r.for_variables place most k nested i d f ty name m) (VarsRel i d f ty name m) AfterStatement TallStmt
  unfolding r.for_variables
  vars_laws_at zero e i d f ty name m = over_laws most (λ _. place d) (VarsRel i d f ty name m) AfterStatement TallStmt (vars_shape i d f ty name m)
      (λ s a l j x. inl (subst (λ (n : ℕ). StmtHasNode (suc (suc n)) (place d) a) e (local_high i d f ty name m s a l j x)))
  vars_laws_at (suc zero) e i d f ty name m = over_laws most (λ _. place m) (VarsRel i d f ty name m) AfterStatement TallStmt (vars_shape i d f ty name m)
      (λ s a l j x. inl (subst (λ (n : ℕ). StmtHasNode (suc (suc n)) (place m) a) e (vars_high i d f ty name m s a l j x)))
  vars_laws_at (suc (suc k)) e i d f ty name m = seq (variables_behind_laws place most given k m name.name)
      (λ vs. subst (λ (z : ℕ). Laws most (r.for_tail place most z nested i (stmt.Local (place d) f ty vs ∷ [])) (ForTail i (stmt.Local (place d) f ty vs ∷ [])) AfterStatement TallStmt) (sym e) (tail_laws i (stmt.Local (place d) f ty vs ∷ [])))
      (λ s vs l a j x last. x.kind)
      (λ s vs l a j x at h. subst (λ (n : ℕ). StmtHasNode (suc (suc n)) at a) e (tail_high i (stmt.Local (place d) f ty vs ∷ []) (suc (suc k)) s a l j x (one_local (suc k) d f ty vs h)))

  -- behind the name stands no colon
  dims_colon : (s : Text) {n i j : ℕ} → Dims s n i j → same_terminal (terminal (s j)) t.Colon ≡ false → same_terminal (terminal (s i)) t.Colon ≡ false
  unfolding same_terminal
  dims_colon s {i = i} {j = j} d h = of (dims_two s d)
    where
      of : (j ≡ i) ⊎ ((terminal (s i) ≡ t.LeftBracket) × (terminal (s (suc i)) ≡ t.RightBracket)) → same_terminal (terminal (s i)) t.Colon ≡ false
      of (inl e) = subst (λ (z : ℕ). same_terminal (terminal (s z)) t.Colon ≡ false) e h
      of (inr e) = is_not (terminal (s i)) t.LeftBracket t.Colon e.0 refl

  init_colon : (s : Text) {a : Option ExprTree} {i j : ℕ} → MaybeInit place s a i j → same_terminal (terminal (s j)) t.Colon ≡ false → same_terminal (terminal (s i)) t.Colon ≡ false
  unfolding same_terminal
  init_colon s (g.no_init e at) h = subst (λ (z : ℕ). same_terminal (terminal (s z)) t.Colon ≡ false) at h
  init_colon s {i = i} (g.init o d e) h = is_not (terminal (s i)) t.Assign t.Colon o refl

  steps_colon : (s : Text) (x a : List VariableTree) (i j : ℕ) → Steps (CommaVariable place most given room) s x a i j → same_terminal (terminal (s j)) t.Colon ≡ false → same_terminal (terminal (s i)) t.Colon ≡ false
  unfolding same_terminal
  steps_colon s x a i j (done e at) h = subst (λ (z : ℕ). same_terminal (terminal (s z)) t.Colon ≡ false) at h
  steps_colon s x a i j (more o d) h = is_not (terminal (s i)) t.Comma t.Colon o.kind refl

  semicolon_colon : same_terminal t.Semicolon t.Colon ≡ false
  unfolding same_terminal
  semicolon_colon = refl

  vars_colon : (i d : ℕ) (f : Bool) (ty : TypeTree) (name : NamedPlace) (m : ℕ) (s : Text) (a : StmtTree) (k j : ℕ) → VarsRel i d f ty name m s a k j → same_terminal (terminal (s k)) t.Colon ≡ false
  vars_colon i d f ty name m s a k j e =
      let v = e.first in
      let b = v.first.first in
      let no_colon = is_not (terminal (s e.at)) t.Semicolon t.Colon e.rest.kind semicolon_colon in
      let after_first = steps_colon s v.part e.part v.at e.at v.rest no_colon in
      let after_init = subst (λ (z : ℕ). same_terminal (terminal (s z)) t.Colon ≡ false) (v.first.rest.at ∙ b.rest.rest.at) after_first in
      dims_colon s b.first (init_colon s b.rest.first after_init)

  -- ---- behind the type

  abbrev NamedRel : ℕ → ℕ → Bool → TypeTree → ℕ → Rel StmtTree
  NamedRel i d f ty m = Then NameRel (λ x. Either (EachRel i f ty x) (VarsRel i d f ty x m))

  named_laws : (i d : ℕ) (f : Bool) (ty : TypeTree) → Laws most (r.for_named place most room nested i d f ty) (λ s a m j. NamedRel i d f ty m s a m j) AfterStatement TallStmt
  unfolding r.for_named
  named_laws i d f ty = start {D = NamedRel i d f ty} (λ m. seq (name_laws place most Any Never)
      (λ x. alt (is t.Colon) (each_laws i f ty x) (vars_laws_at room refl i d f ty x m) (λ s a k j e last. is_kind _ _ e.kind) (λ s a k j e last. vars_colon i d f ty x m s a k j e))
      (λ s x k a j e last. tt) (λ s x k a j e at h. absurd h))

  abbrev DeclaredRel : ℕ → ℕ → Rel StmtTree
  DeclaredRel i d = Then (λ s a i j. MaybeFinal s a i j) (λ f. Then (λ s a i j. TypeAt place s a i j) (λ ty s a m j. NamedRel i d f ty m s a m j))

  name_no_bracket : (s : Text) (x : NamedPlace) (m j : ℕ) → NameRel s x m j → same_terminal (terminal (s m)) t.LeftBracket ≡ false
  unfolding same_terminal
  name_no_bracket s x m j d = is_not (terminal (s m)) t.Word t.LeftBracket d.kind refl

  typed_laws : (i d : ℕ) (f : Bool) → Laws most (type_at place most >>= λ ty. r.for_named place most room nested i d f ty) (Then (λ s a i j. TypeAt place s a i j) (λ ty s a m j. NamedRel i d f ty m s a m j)) AfterStatement TallStmt
  typed_laws i d f = seq given.type_laws (λ ty. named_laws i d f ty) (λ s ty m a j e last. name_no_bracket s e.part m e.at e.first) (λ s ty m a j e at h. absurd h)

  declared_laws : (i : ℕ) → Laws most (r.for_declared place most room nested i) (λ s a d j. DeclaredRel i d s a d j) AfterStatement TallStmt
  unfolding r.for_declared
  declared_laws i = start {D = DeclaredRel i} (λ d. seq (final_laws most) (λ f. typed_laws i d f) (λ s f m a j e last. type_no_final place s e.first) (λ s f m a j e at h. absurd h))

  -- ---- with expressions

  abbrev One : Rel (List StmtTree)
  One = Then (λ s a i j. Evaluation place s a i j) (λ x. Same (x ∷ []))

  abbrev Comma : List StmtTree → Rel (List StmtTree)
  Comma b = Word t.Comma (λ _. Then (λ s a i j. Evaluation place s a i j) (λ x. Same (b ++ x ∷ [])))

  abbrev EvaluationsRel : Rel (List StmtTree)
  EvaluationsRel = λ s a i j. Evaluations place s a i j

  to_evaluations : (s : Text) (a : List StmtTree) (i j : ℕ) → Then One (λ b v c m k. Steps Comma v b c m k) s a i j → Evaluations place s a i j
  to_evaluations s a i j d = steps_fold Comma EvaluationsRel s i
      (λ b c m k h o. g.next_evaluation h o.kind (subst (λ (z : ℕ). Evaluation place s o.rest.part (suc m) z) (sym o.rest.rest.at) o.rest.first) o.rest.rest.tree)
      d.part a d.at j (g.first_evaluation (subst (λ (z : ℕ). Evaluation place s d.first.part i z) (sym d.first.rest.at) d.first.first) d.first.rest.tree) d.rest

  from_evaluations : (s : Text) {a : List StmtTree} {i j : ℕ} → Evaluations place s a i j → Then One (λ b v c m k. Steps Comma v b c m k) s a i j
  from_evaluations s {a} {i} {j} (g.first_evaluation {x} d e) = record { part = a; at = j; first = record { part = x; at = j; first = d; rest = record { tree = e; at = refl } }; rest = done refl refl }
  from_evaluations s {a} {i} {j} (g.next_evaluation {b} {x} {m} d o y e) =
      let v = from_evaluations s d in
      record { part = v.part; at = v.at; first = v.first; rest = steps_end Comma s v.part b a v.at m j v.rest (record { kind = o; rest = record { part = x; at = j; first = y; rest = record { tree = e; at = refl } } }) }

  evaluations_laws : Laws most (r.evaluations place most room nested) EvaluationsRel (Before t.Semicolon) TallList
  unfolding r.evaluations r.next_evaluation
  evaluations_laws = renamed EvaluationsRel (Before t.Semicolon)
      (rep {Q = Comma} {E = InList} (is t.Comma)
      (seq (u p.Evaluation) (λ x. pure_laws most (x ∷ []) InList TallList) (λ s x m b j d last. same_after (λ y. among list_ends y ≡ true) s (x ∷ []) b m j d last)
      (λ s x m b j d at h. tall.tall_one stmt_nodes_at room x b d.tree h))
      (λ b. tok t.Comma refl (λ _. seq (u p.Evaluation) (λ x. pure_laws most (b ++ x ∷ []) InList TallList)
      (λ s x m c j d last. same_after (λ y. among list_ends y ≡ true) s (b ++ x ∷ []) c m j d last) (λ s x m c j d at h. tall.tall_end stmt_nodes_at room b x c d.tree h)))
      (λ s x a i j d. is_kind _ _ d.kind)
      (λ s x a i j d. let h = evaluation_forward place most given s d.rest.first in let e = d.rest.rest.at in omega arith)
      (λ a x o. in_list x t.Comma (kind_is x t.Comma o) sign_facts.1)
      (λ s x a i j d at h. tall.tall_before stmt_nodes_at room x d.rest.part a d.rest.rest.tree h))
      to_evaluations (λ s a i j d. from_evaluations s d) (λ a x e. (in_list x t.Semicolon e sign_facts.0, is_not x t.Semicolon t.Comma e sign_facts.6))

  abbrev EvaluatedRel : ℕ → Rel StmtTree
  EvaluatedRel i = Either (ForTail i []) (Then EvaluationsRel (ForTail i))

  -- the first of some, and what is behind it
  first_evaluation : (s : Text) {a : List StmtTree} {i j : ℕ} → Evaluations place s a i j → Second (terminal (s j)) → (x : StmtTree) × (k : ℕ) × Evaluation place s x i k × Second (terminal (s k))
  first_evaluation s {j = j} (g.first_evaluation {x = x} d e) h = (x, j, d, h)
  first_evaluation s (g.next_evaluation {m = m} d o y e) h = first_evaluation s d (comma_second (terminal (s m)) o)

  words_no_semicolon : (x : Terminal) → among expression_words x ≡ true → same_terminal x t.Semicolon ≡ false
  unfolding same_terminal
  words_no_semicolon = each (λ x. same_terminal x t.Semicolon ≡ false) expression_words (refl, (refl, (refl, (refl, (refl, (refl, (refl, (refl, (refl, (refl, (refl, (refl, (refl, (refl, (refl, (refl, (refl, (refl, tt))))))))))))))))))

  evaluated_laws : (i : ℕ) → Laws most (r.for_evaluated place most room nested i) (EvaluatedRel i) AfterStatement TallStmt
  unfolding r.for_evaluated
  evaluated_laws i = alt (is t.Semicolon) (tail_laws i []) (seq evaluations_laws (tail_laws i) (λ s es m a j d last. d.kind) (λ s es m a j d at h. tail_high i es room s a m j d h))
      (λ s a m j d last. is_kind _ _ d.kind)
      (λ s a m j d last. let w = first_evaluation s d.first (semicolon_second (terminal (s d.at)) d.rest.kind) in words_no_semicolon (terminal (s m)) (evaluation_begins place most given s w.2))

  -- ---- which of the two

  declared_is : (i : ℕ) (s : Text) (a : StmtTree) (d j : ℕ) → DeclaredRel i d s a d j → declares s d ≡ true
  declared_is i s a d j e = of e.first
    where
      of : MaybeFinal s e.part d e.at → declares s d ≡ true
      of (g.not_final x at) = subst (λ (z : ℕ). declares s z ≡ true) at (type_declares place s e.rest.first e.rest.rest.first.kind)
      of (g.final o x at) = final_declares s d o

  semicolon_keyword : among Begins.keyword_part t.Semicolon ≡ true
  unfolding same_terminal
  semicolon_keyword = refl

  evaluated_is : (i : ℕ) (s : Text) (a : StmtTree) (d j : ℕ) → EvaluatedRel i s a d j → declares s d ≡ false
  evaluated_is i s a d j (inl e) = Begins.keyword_declares s d t.Semicolon e.kind semicolon_keyword
  evaluated_is i s a d j (inr e) = let w = first_evaluation s e.first (semicolon_second (terminal (s e.at)) e.rest.kind) in evaluation_declares place most given s w.2 w.3

  -- a declaration is read as far as its type
  final_none : (s : Text) (d : ℕ) → same_terminal (terminal (s d)) t.Final ≡ false → r.maybe_final s d ≡ Found false d
  unfolding r.maybe_final
  final_none s d e = ap (λ (b : Bool). cond b (sign t.Final (pure true) s d) (Found false d)) e

  word_no_final : (x : Terminal) → same_terminal x t.Word ≡ true → same_terminal x t.Final ≡ false
  unfolding same_terminal
  word_no_final x e = is_not x t.Word t.Final (kind_is x t.Word e) refl

  word_no_semicolon : (x : Terminal) → same_terminal x t.Word ≡ true → same_terminal x t.Semicolon ≡ false
  unfolding same_terminal
  word_no_semicolon x e = is_not x t.Word t.Semicolon (kind_is x t.Word e) refl

  declared_stop : (i : ℕ) (s : Text) (d n : ℕ) → same_terminal (terminal (s d)) t.Word ≡ true → n ≤ stop (type_at place most s d) → n ≤ stop (r.for_declared place most room nested i s d)
  unfolding r.for_declared
  declared_stop i s d n w h = stop_found (r.maybe_final s d) (λ f m. (type_at place most >>= λ ty. r.for_named place most room nested i d f ty) s m) false d n (final_none s d (word_no_final (terminal (s d)) w))
      (let k = stop_then (type_at place most s d) (λ ty m. r.for_named place most room nested i d false ty s m) (λ ty m. forth (named_laws i d false ty) s m) in omega arith)

  evaluated_stop : (i : ℕ) (s : Text) (d n : ℕ) → same_terminal (terminal (s d)) t.Word ≡ true → n ≤ stop (nested p.Evaluation s d) → n ≤ stop (r.for_evaluated place most room nested i s d)
  unfolding r.for_evaluated r.evaluations r.next_evaluation
  evaluated_stop i s d n w h =
      let a = stop_then (nested p.Evaluation s d) (λ x m. Found (x ∷ []) m) (λ x m. le_refl m) in
      let b = stop_then (and_then (nested p.Evaluation s d) (λ x m. Found (x ∷ []) m)) (λ b m. loop most (is t.Comma) (r.next_evaluation place most room nested) b s m) (λ b m. forth (comma_loop b) s m) in
      let c = stop_then (r.evaluations place most room nested s d) (λ es m. r.for_tail place most room nested i es s m) (λ es m. forth (tail_laws i es) s m) in
      let e : n ≤ stop (and_then (r.evaluations place most room nested s d) (λ es m. r.for_tail place most room nested i es s m)) = omega arith in
      subst (λ (z : Bool). n ≤ stop (cond z (r.for_tail place most room nested i [] s d) (and_then (r.evaluations place most room nested s d) (λ es m. r.for_tail place most room nested i es s m)))) (sym (word_no_semicolon (terminal (s d)) w)) e
    where
      comma_loop : (b : List StmtTree) → Laws most (loop most (is t.Comma) (r.next_evaluation place most room nested) b) (λ s a i j. Steps Comma s b a i j) (λ a k. InList a k × (same_terminal k t.Comma ≡ false)) TallList
      comma_loop b = loop_laws most (is t.Comma) (r.next_evaluation place most room nested) Comma InList TallList
          (λ b. tok t.Comma refl (λ _. seq (u p.Evaluation) (λ x. pure_laws most (b ++ x ∷ []) InList TallList)
          (λ s x m c j d last. same_after (λ y. among list_ends y ≡ true) s (b ++ x ∷ []) c m j d last) (λ s x m c j d at h. tall.tall_end stmt_nodes_at room b x c d.tree h)))
          (λ s x a i j d. is_kind _ _ d.kind)
          (λ s x a i j d. let h = evaluation_forward place most given s d.rest.first in let e = d.rest.rest.at in omega arith)
          (λ s x a i j d. in_list _ t.Comma d.kind sign_facts.1)
          (λ s x a i j d at h. tall.tall_before stmt_nodes_at room x d.rest.part a d.rest.rest.tree h) most (le_refl most) b

  seen : (i : ℕ) (s v : Text) (d : ℕ) → ((x : ℕ) → x ≤ stop (ahead declares (r.for_declared place most room nested i) (r.for_evaluated place most room nested i) s d) → v x ≡ s x) → declares v d ≡ declares s d
  seen i s v d same = declares_depends s v d (same d (reach d (λ e. forth (declared_laws i) s d) (λ e. forth (evaluated_laws i) s d)))
      (λ w. same (suc d) (reach (suc d) (λ e. declared_stop i s d (suc d) w (type_past place most given s d w)) (λ e. evaluated_stop i s d (suc d) w (evaluation_past place most given s d w (nested p.Evaluation) (StmtHasNode (suc room)) (u p.Evaluation)))))
      (λ w b. same (suc (suc d)) (reach (suc (suc d)) (λ e. declared_stop i s d (suc (suc d)) w (type_past_bracket place most given s d w b)) (λ e. evaluated_stop i s d (suc (suc d)) w (evaluation_past_bracket place most given s d w b (nested p.Evaluation) (StmtHasNode (suc room)) (u p.Evaluation)))))
    where
      reach : (n : ℕ) → (declares s d ≡ true → n ≤ stop (r.for_declared place most room nested i s d)) → (declares s d ≡ false → n ≤ stop (r.for_evaluated place most room nested i s d))
          → n ≤ stop (ahead declares (r.for_declared place most room nested i) (r.for_evaluated place most room nested i) s d)
      reach n h k = stop_ahead (r.for_declared place most room nested i s d) (r.for_evaluated place most room nested i s d) n (declares s d) h k

  abbrev HeadRel : ℕ → Rel StmtTree
  HeadRel i = Either (λ s a d j. DeclaredRel i d s a d j) (EvaluatedRel i)

  abbrev pub ForRel : ℕ → Rel StmtTree
  ForRel i = Word t.For (λ _. Word t.LeftParen (λ _. HeadRel i))

  pub for_laws : (i : ℕ) → Laws most (r.for_loop place most room nested i) (ForRel i) AfterStatement TallStmt
  unfolding r.for_loop
  for_laws i = tok t.For refl (λ _. tok t.LeftParen refl (λ _. ahead_laws most declares (r.for_declared place most room nested i) (r.for_evaluated place most room nested i) (λ s a d j. DeclaredRel i d s a d j) (EvaluatedRel i) AfterStatement TallStmt
      (declared_laws i) (evaluated_laws i) (seen i) (λ s a d j e last. declared_is i s a d j e) (λ s a d j e last. evaluated_is i s a d j e)))

  pub to_for : (s : Text) (a : StmtTree) (i j : ℕ) → ForRel i s a i j → Statement place s a i j
  to_for s a i j d = of d.rest.rest
    where
      of : HeadRel i s a (suc (suc i)) j → Statement place s a i j
      of (inr (inl e)) = to_tail i (suc (suc i)) [] s a j d.kind d.rest.kind (g.no_for_init refl refl) e
      of (inr (inr e)) = to_tail i e.at e.part s a j d.kind d.rest.kind (g.evaluates e.first) e.rest
      of (inl e) = named e.rest.rest.first e.rest.rest.rest
        where
          m : ℕ
          m = e.rest.at

          named : NameAt place most m s e.rest.rest.part m e.rest.rest.at → Either (EachRel i e.part e.rest.part e.rest.rest.part) (VarsRel i (suc (suc i)) e.part e.rest.part e.rest.rest.part m) s a e.rest.rest.at j → Statement place s a i j
          named x (inl c) =
              let w = subst (λ (z : ℕ). EachRel i e.part e.rest.part e.rest.rest.part s a z j) x.rest.at c in
              g.for_each d.kind d.rest.kind e.first e.rest.first x.kind w.kind w.rest.first w.rest.rest.kind
              (subst (λ (z : ℕ). Statement place s w.rest.rest.rest.part (suc w.rest.at) z) (sym w.rest.rest.rest.rest.at) w.rest.rest.rest.first)
              (w.rest.rest.rest.rest.tree ∙ ap (λ (y : NamedPlace). stmt.ForEach (place i) e.part e.rest.part y w.rest.part w.rest.rest.rest.part) x.rest.tree)
          named x (inr c) =
              let vs = subst (λ (z : ℕ). VariablesBehind place most given room m e.rest.rest.part.name s c.part z c.at) x.rest.at c.first in
              let vs2 = subst (λ (y : List ℕ). VariablesBehind place most given room m y s c.part (suc m) c.at) (ap (λ (y : NamedPlace). y.name) x.rest.tree) vs in
              to_tail i c.at (stmt.Local (place (suc (suc i))) e.part e.rest.part c.part ∷ []) s a j d.kind d.rest.kind
              (g.declares (g.declaration e.first e.rest.first (to_named place most given room s c.part m c.at x.kind vs2) refl) refl) c.rest

  from_tail : (i : ℕ) (s : Text) (a : StmtTree) (inits : List StmtTree) {x : Option ExprTree} {us : List ExprTree} {b : StmtTree} {k m n j : ℕ} → terminal (s k) ≡ t.Semicolon → MaybeExpression place s x (suc k) m → terminal (s m) ≡ t.Semicolon → MaybeExpressions place s us (suc m) n
      → terminal (s n) ≡ t.RightParen → Statement place s b (suc n) j → a ≡ stmt.For (place i) inits x us b → ForTail i inits s a k j
  from_tail i s a inits {x = x} {us = us} {b = b} {m = m} {n = n} {j = j} o d o2 e o3 c tree = record {
    kind = o;
    rest = record {
      part = x;
      at = m;
      first = d;
      rest = record {
        kind = o2;
        rest = record {
          part = us;
          at = n;
          first = e;
          rest = record {
            kind = o3;
            rest = record { part = b; at = j; first = c; rest = record { tree = tree; at = refl } };
          };
        };
      };
    };
  }

  pub from_for_tail : (s : Text) (a : StmtTree) (i k j : ℕ) (inits : List StmtTree) → ForInit place s inits (suc (suc i)) k → ForTail i inits s a k j → HeadRel i s a (suc (suc i)) j
  from_for_tail s a i k j inits (g.no_for_init e at) f = inr (inl (subst (λ (z : ℕ). ForTail i [] s a z j) at (subst (λ (z : List StmtTree). ForTail i z s a k j) e f)))
  from_for_tail s a i k j inits (g.evaluates d) f = inr (inr (record { part = inits; at = k; first = d; rest = f }))
  from_for_tail s a i k j inits (g.declares {x = x} (g.declaration {f = fin} {ty = ty} {vs = vs} {m = m} {n = n} o d v e) e2) f =
      let w = from_named place most given room s v in
      let tail = subst (λ (z : List StmtTree). ForTail i z s a k j) (e2 ∙ ap (λ (y : StmtTree). y ∷ []) e) f in
      inl (record {
        part = fin;
        at = m;
        first = o;
        rest = record {
          part = ty;
          at = n;
          first = d;
          rest = record {
            part = record { at = place n; name = (s n).text };
            at = suc n;
            first = record { kind = w.0; rest = record { tree = refl; at = refl } };
            rest = inr (record { part = vs; at = k; first = w.1; rest = tail });
          };
        };
      })

  pub from_each : (s : Text) (a : StmtTree) (i k m n j : ℕ) (f : Bool) (ty : TypeTree) (x : ExprTree) (b : StmtTree) → MaybeFinal s f (suc (suc i)) k → TypeAt place s ty k m → terminal (s m) ≡ t.Word → terminal (s (suc m)) ≡ t.Colon
      → Expression place s x (suc (suc m)) n → terminal (s n) ≡ t.RightParen → Statement place s b (suc n) j → a ≡ stmt.ForEach (place i) f ty (g.named (place m) (s m)) x b → HeadRel i s a (suc (suc i)) j
  from_each s a i k m n j f ty x b o d w c e p2 body tree = inl (record {
    part = f;
    at = k;
    first = o;
    rest = record {
      part = ty;
      at = m;
      first = d;
      rest = record {
        part = record { at = place m; name = (s m).text };
        at = suc m;
        first = record { kind = w; rest = record { tree = refl; at = refl } };
        rest = inl (record { kind = c; rest = record { part = x; at = n; first = e; rest = record { kind = p2; rest = record { part = b; at = j; first = body; rest = record { tree = tree; at = refl } } } } });
      };
    };
  })

  pub from_for : (s : Text) (a : StmtTree) (i k m n j : ℕ) (inits : List StmtTree) (x : Option ExprTree) (us : List ExprTree) (b : StmtTree) → ForInit place s inits (suc (suc i)) k → terminal (s k) ≡ t.Semicolon → MaybeExpression place s x (suc k) m → terminal (s m) ≡ t.Semicolon
      → MaybeExpressions place s us (suc m) n → terminal (s n) ≡ t.RightParen → Statement place s b (suc n) j → a ≡ stmt.For (place i) inits x us b → HeadRel i s a (suc (suc i)) j
  from_for s a i k m n j inits x us b d o e o2 e2 o3 c tree = from_for_tail s a i k j inits d (from_tail i s a inits o e o2 e2 o3 c tree)
