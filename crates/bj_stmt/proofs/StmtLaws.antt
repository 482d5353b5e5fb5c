-- The laws of statements, blocks and their members, at every depth.
use Rattle.std.proofs.Common.{◌≡◌, ℕ, zero, suc, ◌<◌, ◌≤◌, ◌⊎◌, inl, inr, Bool, true, false, cond, refl, sym, ap, ◌∙◌, subst, arith, le_refl, List, [], ◌∷◌, ◌++◌}
use Rattle.std.proofs.lemmas.Bool.{both_ways}
use Rattle.bj_base.specs.declared.span.Span.{Span}
use Rattle.bj_expr_tree.specs.declared.types.TypeTree.{TypeTree}
use Rattle.bj_expr_tree.specs.declared.types.NamedPlace.{NamedPlace}
use Rattle.bj_expr_tree.specs.declared.expr.ExprTree.{ExprTree}
use Rattle.bj_expr_tree.specs.declared.expr.ExprTree.TheVariants as tree
use Rattle.bj_tree.specs.declared.stmt.StmtTree.{StmtTree}
use Rattle.bj_tree.specs.declared.stmt.StmtTree.TheVariants as stmt
use Rattle.bj_grammar.specs.declared.terminal.Terminal.{Terminal}
use Rattle.bj_grammar.specs.declared.terminal.Terminal.TheVariants as t
use Rattle.bj_grammar.specs.Terminal.{terminal, same_terminal, among}
use Rattle.bj_grammar.specs.Reader.{Text, Found, Parser, ◌>>=◌, pure, here, sign, ahead, choose, loop}
use Rattle.bj_grammar.proofs.Laws.{Rel, Laws, Then, Same, Word, Either, Steps, done, more, stop, pure_laws, steps_end, steps_fold, is_kind, kind_is, and_then_found, ahead_laws, loop_laws, reaches, seq, alt, tok, start, renamed}
use Rattle.bj_expr.specs.Grammar as ge
use Rattle.bj_expr.specs.Grammar.{primitives, type_words, TypeAt, Dims, Expression}
use Rattle.bj_expr.specs.Reading.{is, type_at}
use Rattle.bj_stmt.specs.declared.part.StmtPart.{StmtPart}
use Rattle.bj_stmt.specs.declared.part.StmtPart.TheVariants as p
use Rattle.bj_stmt.specs.Grammar as g
use Rattle.bj_stmt.specs.Grammar.{is_statement, jump, jumps, dangles, MaybeFinal, MaybeInit, MaybeExpression, MaybeExpressions, MaybeName, Variables, Declaration, Evaluation, Evaluations, ForInit, Statement, Block, BlockStatements, BlockStatement, Members, Member, Label, Catches, Catch, ConstructorCall, ConstructorBody}
use Rattle.bj_stmt.specs.Reading as r
use Rattle.bj_stmt.specs.Reading.{declares, is_labelled, is_class_lock, is_constructor_call, constructors, inside, is_empty, branch_words, loop_words, leave_words, guard_words}
use Rattle.bj_stmt.specs.Nodes.{stmt_nodes_at, StmtHasNode, SomeStmtHasNode}
use Rattle.bj_stmt.proofs.Expressions.{Given, expression_words}
use Rattle.bj_stmt.proofs.StmtTall as tall
use Rattle.bj_stmt.proofs.StmtShape.{block_statement_forward}
use Rattle.bj_stmt.proofs.Leftmost.{each, or_cases, is_not, none_of, or_none, and_first, and_second, semicolon_second}
use Rattle.bj_stmt.proofs.Begins as Begins
use Rattle.bj_stmt.proofs.Begins.{no_follow, member_words, First, member_first}
use Rattle.bj_stmt.proofs.Starts.{block_statement_begins, evaluation_begins, block_begins, block_member_word, is_inside, type_declares, final_declares, evaluation_declares, evaluation_next}
use Rattle.bj_stmt.proofs.Ahead.{stop_then, forth, stop_word, declares_depends, labelled_depends, constructor_depends, type_past, type_past_bracket, evaluation_past, goes_on, call_evaluation, assigned_evaluation}
use Rattle.bj_stmt.proofs.Small.{same_after, variables_below_laws, variables_word, Cased, Defaulted, declaration_laws, evaluation_laws, constructor_call_laws, label_laws, case_laws, default_laws, to_label, from_label, Any, in_list, sign_facts}
use Rattle.bj_stmt.proofs.Rules.{StandsAs, AfterStatement, AfterPart, handlers, InBlock, in_block, Greedy, then_greedy, word_greedy, operator_greedy, ahead_greedy, pure_greedy, over_greedy, last_greedy, stop_ahead, stop_found, and_first_true, and_join, WhileRel, while_laws, to_while, DoRel, do_laws, to_do, BranchRel, branching_laws, branch_begins, to_branch, LeaveRel, leaving_laws, leave_begins, to_leave, GuardRel, guarding_laws, guard_begins, to_guard, catch_laws}
use Rattle.bj_stmt.proofs.ForRules.{ForRel, for_laws, to_for, from_for, from_each}

module _ (place : ℕ → Span) (most : ℕ) (given : Given place most) (room : ℕ) (nested : StmtPart → Parser StmtTree)
    (u : (x : StmtPart) → Laws most (nested x) (StandsAs x place) (AfterPart x) (StmtHasNode (suc room)))
    (greedy : Greedy (nested p.Statement)) where
  abbrev TallStmt : Span → StmtTree → Type 0
  TallStmt = StmtHasNode (suc (suc room))

  abbrev TallList : Span → List StmtTree → Type 0
  TallList = SomeStmtHasNode (suc room)

  abbrev BodyRel : Rel StmtTree
  BodyRel = λ s a i j. Statement place s a i j

  -- ---- loops

  abbrev LoopRel : ℕ → Rel StmtTree
  LoopRel i = Either (WhileRel place most given room nested u greedy i) (Either (DoRel place most given room nested u greedy i) (ForRel place most given room nested u i))

  loop_facts : (same_terminal t.Do t.While ≡ false) × (same_terminal t.For t.While ≡ false) × (same_terminal t.For t.Do ≡ false) × (among loop_words t.While ≡ true) × (among loop_words t.Do ≡ true) × (among loop_words t.For ≡ true)
  unfolding same_terminal
  loop_facts = (refl, refl, refl, refl, refl, refl)

  no_while : (i : ℕ) (s : Text) (a : StmtTree) (m j : ℕ) → Either (DoRel place most given room nested u greedy i) (ForRel place most given room nested u i) s a m j → same_terminal (terminal (s m)) t.While ≡ false
  no_while i s a m j (inl d) = is_not _ t.Do t.While d.kind loop_facts.0
  no_while i s a m j (inr d) = is_not _ t.For t.While d.kind loop_facts.1

  looping_laws : (i : ℕ) → Laws most (r.looping place most room nested i) (LoopRel i) AfterStatement TallStmt
  unfolding r.looping
  looping_laws i = alt (is t.While) (while_laws place most given room nested u greedy i)
      (alt (is t.Do) (do_laws place most given room nested u greedy i) (for_laws place most given room nested u i) (λ s a m j d last. is_kind _ _ d.kind) (λ s a m j d last. is_not _ t.For t.Do d.kind loop_facts.2))
      (λ s a m j d last. is_kind _ _ d.kind) (λ s a m j d last. no_while i s a m j d)

  loop_begins : (i : ℕ) (s : Text) (a : StmtTree) (m j : ℕ) → LoopRel i s a m j → among loop_words (terminal (s m)) ≡ true
  loop_begins i s a m j (inl d) = Begins.is_among loop_words _ t.While d.kind loop_facts.3
  loop_begins i s a m j (inr (inl d)) = Begins.is_among loop_words _ t.Do d.kind loop_facts.4
  loop_begins i s a m j (inr (inr d)) = Begins.is_among loop_words _ t.For d.kind loop_facts.5

  to_loop : (s : Text) (a : StmtTree) (i j : ℕ) → LoopRel i s a i j → Statement place s a i j
  to_loop s a i j (inl d) = to_while place most given room nested u greedy s a i j d
  to_loop s a i j (inr (inl d)) = to_do place most given room nested u greedy s a i j d
  to_loop s a i j (inr (inr d)) = to_for place most given room nested u s a i j d

  -- ---- blocks

  abbrev StmtStep : List StmtTree → Rel (List StmtTree)
  StmtStep b = Then (λ s a i j. BlockStatement place s a i j) (λ c. Same (b ++ c ∷ []))

  step_laws : (b : List StmtTree) → Laws most (r.next_statement place most room nested b) (StmtStep b) InBlock TallList
  unfolding r.next_statement
  step_laws b = seq (u p.BlockStatement) (λ c. pure_laws most (b ++ c ∷ []) InBlock TallList) (λ s c m a j d last. in_block c _ (same_after (λ y. among no_follow y ≡ false) s (b ++ c ∷ []) a m j d last)) (λ s c m a j d at h. tall.tall_end stmt_nodes_at room b c a d.tree h)

  first_of_step : (s : Text) (x a : List StmtTree) (i j : ℕ) → StmtStep x s a i j → First (terminal (s i))
  first_of_step s x a i j d = member_first (terminal (s i)) (block_member_word (terminal (s i)) (block_statement_begins place most given s d.first))

  step_strict : (s : Text) (x a : List StmtTree) (i j : ℕ) → StmtStep x s a i j → i < j
  step_strict s x a i j d = let h = block_statement_forward place most given s d.first in let e = d.rest.at in omega arith

  steps_laws : (b : List StmtTree) → Laws most (loop most inside (r.next_statement place most room nested) b) (λ s a i j. Steps StmtStep s b a i j) (λ a k. InBlock a k × (inside k ≡ false)) TallList
  steps_laws b = loop_laws most inside (r.next_statement place most room nested) StmtStep InBlock TallList step_laws
      (λ s x a i j d. is_inside _ (first_of_step s x a i j d).0) step_strict (λ s x a i j d. (first_of_step s x a i j d).1.0) (λ s x a i j d at h. tall.tall_before stmt_nodes_at room x d.part a d.rest.tree h) most (le_refl most) b

  abbrev Closed : ℕ → List StmtTree → Rel StmtTree
  Closed i all s a m j = Word t.RightBrace (λ _. Same (stmt.Block (place i) all (place m))) s a m j

  abbrev RestRel : ℕ → List StmtTree → Rel StmtTree
  RestRel i b = Then (λ s a i j. Steps StmtStep s b a i j) (Closed i)

  brace_facts : (among no_follow t.RightBrace ≡ false) × (inside t.RightBrace ≡ false)
  unfolding same_terminal
  brace_facts = (refl, refl)

  rest_laws : (i : ℕ) (b : List StmtTree) (E : StmtTree → Terminal → Type 0) → Laws most (r.rest_of_block place most room nested i b) (RestRel i b) E TallStmt
  unfolding r.rest_of_block
  rest_laws i b E = seq (steps_laws b) (λ all. start {D = λ m. Word t.RightBrace (λ _. Same (stmt.Block (place i) all (place m)))} (λ m. tok t.RightBrace refl (λ _. pure_laws most (stmt.Block (place i) all (place m)) E TallStmt)))
      (λ s all m a j d last. (none_of no_follow (terminal (s m)) t.RightBrace d.kind brace_facts.0, ap inside d.kind ∙ brace_facts.1))
      (λ s all m a j d at h. tall.tall_block_body room (place i) all (place m) a d.rest.tree h)

  abbrev BlockStatementsRel : Rel (List StmtTree)
  BlockStatementsRel = λ s a i j. BlockStatements place s a i j

  to_statements : (s : Text) (a : List StmtTree) (i j : ℕ) → Steps StmtStep s [] a i j → BlockStatements place s a i j
  to_statements s a i j d = steps_fold StmtStep BlockStatementsRel s i
      (λ b c m k h o. g.next_statement h (subst (λ (z : ℕ). BlockStatement place s o.part m z) (sym o.rest.at) o.first) o.rest.tree)
      [] a i j (g.no_statements refl refl) d

  from_statements : (s : Text) {a : List StmtTree} {i j : ℕ} → BlockStatements place s a i j → Steps StmtStep s [] a i j
  from_statements s (g.no_statements e at) = done e at
  from_statements s {a} {i} {j} (g.next_statement {b = b} {c = c} {m = m} d x e) = steps_end StmtStep s [] b a i m j (from_statements s d) (record { part = c; at = j; first = x; rest = record { tree = e; at = refl } })

  to_braces : (s : Text) (a : StmtTree) (i j : ℕ) → Word t.LeftBrace (λ _. RestRel i []) s a i j → Block place s a i j
  to_braces s a i j d = g.braces d.kind (to_statements s d.rest.part (suc i) d.rest.at d.rest.first) d.rest.rest.kind d.rest.rest.rest.tree d.rest.rest.rest.at

  from_braces : (s : Text) (a : StmtTree) (i j : ℕ) → Block place s a i j → Word t.LeftBrace (λ _. RestRel i []) s a i j
  from_braces s a i j (g.braces {b = b} {m = m} o d c e at) = record { kind = o; rest = record { part = b; at = m; first = from_statements s d; rest = record { kind = c; rest = record { tree = e; at = at } } } }

  block_laws : (E : StmtTree → Terminal → Type 0) → Laws most (r.block place most room nested) (λ s a i j. Block place s a i j) E TallStmt
  unfolding r.block
  block_laws E = renamed (λ s a i j. Block place s a i j) E (start {D = λ i. Word t.LeftBrace (λ _. RestRel i [])} (λ i. tok t.LeftBrace refl (λ _. rest_laws i [] E))) to_braces from_braces (λ a x e. e)

  -- ---- bodies of constructors

  -- what follows a first statement
  cons_steps : (s : Text) (c : StmtTree) (x a : List StmtTree) (i j : ℕ) → Steps StmtStep s x a i j → Steps StmtStep s (c ∷ x) (c ∷ a) i j
  cons_steps s c x a i j (done e at) = done (ap (λ (y : List StmtTree). c ∷ y) e) at
  cons_steps s c x a i j (more {y = y} {m = m} d rest) = more (record { part = d.part; at = d.at; first = d.first; rest = record { tree = ap (λ (z : List StmtTree). c ∷ z) d.rest.tree; at = d.rest.at } }) (cons_steps s c y a m j rest)

  pub record Behind (s : Text) (c : StmtTree) (x a : List StmtTree) (i j : ℕ) : Type 0 where
    pub others : List StmtTree
    pub tree : a ≡ c ∷ others
    pub steps : Steps StmtStep s x others i j

  uncons_steps : (s : Text) (c : StmtTree) (w x a : List StmtTree) (i j : ℕ) → w ≡ c ∷ x → Steps StmtStep s w a i j → Behind s c x a i j
  uncons_steps s c w x a i j is_cons (done e at) = record { others = x; tree = e ∙ is_cons; steps = done refl at }
  uncons_steps s c w x a i j is_cons (more {y = y} {m = m} d rest) =
      let v = uncons_steps s c y (x ++ d.part ∷ []) a m j (d.rest.tree ∙ ap (λ (z : List StmtTree). z ++ d.part ∷ []) is_cons) rest in
      record { others = v.others; tree = v.tree; steps = more (record { part = d.part; at = d.at; first = d.first; rest = record { tree = refl; at = d.rest.at } }) v.steps }

  abbrev CallingRel : ℕ → Rel StmtTree
  CallingRel i = Then (λ s a i j. ConstructorCall place s a i j) (λ c. RestRel i (c ∷ []))

  calling_laws : (i : ℕ) → Laws most (nested p.ConstructorCall >>= λ c. r.rest_of_block place most room nested i (c ∷ [])) (CallingRel i) Any TallStmt
  calling_laws i = seq (u p.ConstructorCall) (λ c. rest_laws i (c ∷ []) Any) (λ s c m a j d last. tt)
      (λ s c m a j d at h. tall.tall_block_body room (place i) d.part (place d.at) a d.rest.rest.tree (steps_tall s c d.part m d.at d.first h))
    where
      steps_tall : {p : Span} (s : Text) (c : StmtTree) (all : List StmtTree) (m j : ℕ) → Steps StmtStep s (c ∷ []) all m j → StmtHasNode (suc room) p c → SomeStmtHasNode (suc room) p all
      steps_tall {p} s c all m j d h = steps_fold StmtStep (λ s a i j. SomeStmtHasNode (suc room) p a) s m (λ b e k l w o. tall.tall_before stmt_nodes_at room b o.part e o.rest.tree w) (c ∷ []) all m j (tall.tall_one stmt_nodes_at room c (c ∷ []) refl h) d

  call_begins : (s : Text) {a : StmtTree} {i j : ℕ} → ConstructorCall place s a i j → is_constructor_call s i ≡ true
  unfolding same_terminal
  call_begins s {i = i} (g.of_this o q d c e is at) = and_join (among constructors (terminal (s i))) (same_terminal (terminal (s (suc i))) t.LeftParen) (Begins.is_among constructors (terminal (s i)) t.This o refl) (is_kind (terminal (s (suc i))) t.LeftParen q)
  call_begins s {i = i} (g.of_super o q d c e is at) = and_join (among constructors (terminal (s i))) (same_terminal (terminal (s (suc i))) t.LeftParen) (Begins.is_among constructors (terminal (s i)) t.Super o refl) (is_kind (terminal (s (suc i))) t.LeftParen q)

  keyword_call : (x : Terminal) → among Begins.keyword_part x ≡ true → among constructors x ≡ false
  unfolding same_terminal
  keyword_call = each (λ x. among constructors x ≡ false) Begins.keyword_part (refl, (refl, (refl, (refl, (refl, (refl, (refl, (refl, (refl, (refl, (refl, (refl, (refl, tt)))))))))))))

  type_call : (x : Terminal) → among Begins.type_part x ≡ true → among constructors x ≡ false
  unfolding same_terminal
  type_call = each (λ x. among constructors x ≡ false) Begins.type_part (refl, (refl, (refl, (refl, (refl, (refl, tt))))))

  -- no statement begins like a call of another constructor
  evaluation_call : (s : Text) {a : StmtTree} {i m : ℕ} → Evaluation place s a i m → terminal (s m) ≡ t.Semicolon → is_constructor_call s i ≡ false
  evaluation_call s {m = m} d o = (evaluation_next place most given s d (semicolon_second (terminal (s m)) o)).no_constructor

  keyword_no_call : (s : Text) (i : ℕ) (k : Terminal) → terminal (s i) ≡ k → among Begins.keyword_part k ≡ true → is_constructor_call s i ≡ false
  keyword_no_call s i k e h = and_first _ _ (keyword_call (terminal (s i)) (Begins.is_among Begins.keyword_part (terminal (s i)) k e h))

  word_no_call : (s : Text) (i : ℕ) → among Begins.type_part (terminal (s i)) ≡ true → is_constructor_call s i ≡ false
  word_no_call s i h = and_first _ _ (type_call (terminal (s i)) h)

  one_keyword : (among Begins.keyword_part t.LeftBrace ≡ true) × (among Begins.keyword_part t.Semicolon ≡ true) × (among Begins.keyword_part t.If ≡ true) × (among Begins.keyword_part t.While ≡ true) × (among Begins.keyword_part t.Do ≡ true)
      × (among Begins.keyword_part t.For ≡ true) × (among Begins.keyword_part t.Switch ≡ true) × (among Begins.keyword_part t.Return ≡ true) × (among Begins.keyword_part t.Throw ≡ true) × (among Begins.keyword_part t.Synchronized ≡ true) × (among Begins.keyword_part t.Try ≡ true)
      × (among Begins.type_part t.Word ≡ true) × (among Begins.type_part t.Final ≡ true)
  unfolding same_terminal
  one_keyword = (refl, refl, refl, refl, refl, refl, refl, refl, refl, refl, refl, refl, refl)

  jump_keyword : (x : Terminal) → among jumps x ≡ true → among Begins.keyword_part x ≡ true
  unfolding same_terminal
  jump_keyword = each (λ x. among Begins.keyword_part x ≡ true) jumps (refl, (refl, tt))

  -- what begins a statement that is no expression: a keyword or a label
  pub data Front (s : Text) (i : ℕ) : Type 0 where
    by_keyword : among Begins.keyword_part (terminal (s i)) ≡ true → Front s i
    by_label : terminal (s i) ≡ t.Word → terminal (s (suc i)) ≡ t.Colon → Front s i
    by_evaluation : (a : StmtTree) (m : ℕ) → Evaluation place s a i m → terminal (s m) ≡ t.Semicolon → Front s i

  keyed : (s : Text) (i : ℕ) (k : Terminal) → terminal (s i) ≡ k → among Begins.keyword_part k ≡ true → Front s i
  keyed s i k e h = by_keyword (Begins.is_among Begins.keyword_part (terminal (s i)) k e h)

  pub statement_front : (s : Text) {a : StmtTree} {i j : ℕ} → Statement place s a i j → Front s i
  statement_front s {i = i} (g.block d) = keyed s i t.LeftBrace (block_begins place most given s d) one_keyword.0
  statement_front s {i = i} (g.empty o e at) = keyed s i t.Semicolon o one_keyword.1
  statement_front s {a = a} (g.evaluate {m = m} d o at) = by_evaluation a m d o
  statement_front s {i = i} (g.choice o q d c b e) = keyed s i t.If o one_keyword.2
  statement_front s {i = i} (g.choice_else o q d c b h o2 b2 e) = keyed s i t.If o one_keyword.2
  statement_front s {i = i} (g.while o q d c b e) = keyed s i t.While o one_keyword.3
  statement_front s {i = i} (g.do_while o b o2 q d c e2 e at) = keyed s i t.Do o one_keyword.4
  statement_front s {i = i} (g.for o q n q1 d q2 us c b e) = keyed s i t.For o one_keyword.5
  statement_front s {i = i} (g.for_each o q f ty w k d c b e) = keyed s i t.For o one_keyword.5
  statement_front s {i = i} (g.switch o q d c l ms e2 e at) = keyed s i t.Switch o one_keyword.6
  statement_front s (g.labelled o k b e) = by_label o k
  statement_front s {i = i} (g.jump_to o l q e at) = by_keyword (jump_keyword (terminal (s i)) o)
  statement_front s {i = i} (g.return o d q e at) = keyed s i t.Return o one_keyword.7
  statement_front s {i = i} (g.throw o d q e at) = keyed s i t.Throw o one_keyword.8
  statement_front s {i = i} (g.synchronized o q d c b e) = keyed s i t.Synchronized o one_keyword.9
  statement_front s {i = i} (g.synchronized_class o q w k l c b e) = keyed s i t.Synchronized o one_keyword.9
  statement_front s {i = i} (g.try o b cs h e) = keyed s i t.Try o one_keyword.10
  statement_front s {i = i} (g.try_finally o b cs f b2 e) = keyed s i t.Try o one_keyword.10

  front_call : (s : Text) (i : ℕ) → Front s i → is_constructor_call s i ≡ false
  front_call s i (by_keyword h) = and_first _ _ (keyword_call (terminal (s i)) h)
  front_call s i (by_label o k) = word_no_call s i (Begins.is_among Begins.type_part (terminal (s i)) t.Word o one_keyword.11)
  front_call s i (by_evaluation a m d o) = evaluation_call s d o

  label_second : (x : Terminal) → x ≡ t.Colon → (same_terminal x t.Word ≡ false) × (same_terminal x t.LeftBracket ≡ false)
  unfolding same_terminal
  label_second x e = (is_not x t.Colon t.Word e refl, is_not x t.Colon t.LeftBracket e refl)

  word_only : (x : Terminal) → x ≡ t.Word → (same_terminal x t.Final ≡ false) × (among primitives x ≡ false)
  unfolding same_terminal
  word_only x e = (is_not x t.Word t.Final e refl, none_of primitives x t.Word e refl)

  keyword_no_declaration : (s : Text) (i : ℕ) → among Begins.keyword_part (terminal (s i)) ≡ true → declares s i ≡ false
  keyword_no_declaration s i h = Begins.keyword_declares s i (terminal (s i)) refl h

  front_declares : (s : Text) (i : ℕ) → Front s i → declares s i ≡ false
  front_declares s i (by_keyword h) = keyword_no_declaration s i h
  front_declares s i (by_label o k) =
      let w = word_only (terminal (s i)) o in
      let c = label_second (terminal (s (suc i))) k in
      or_none (same_terminal (terminal (s i)) t.Final) _ w.0 (or_none (among primitives (terminal (s i))) _ w.1 (and_second (same_terminal (terminal (s i)) t.Word) _ (or_none _ _ c.0 (and_first _ _ c.1))))
  front_declares s i (by_evaluation a m d o) = evaluation_declares place most given s d (semicolon_second (terminal (s m)) o)

  type_part_word : (x : Terminal) → among type_words x ≡ true → among Begins.type_part x ≡ true
  unfolding same_terminal
  type_part_word = each (λ x. among Begins.type_part x ≡ true) type_words (refl, (refl, (refl, (refl, (refl, tt)))))

  type_front : (s : Text) {a : TypeTree} {i j : ℕ} → TypeAt place s a i j → among Begins.type_part (terminal (s i)) ≡ true
  type_front s {i = i} (ge.named o d e) = type_part_word (terminal (s i)) o

  declaration_front : (s : Text) {a : StmtTree} {i j : ℕ} → Declaration place s a i j → among Begins.type_part (terminal (s i)) ≡ true
  declaration_front s (g.declaration (g.not_final e at) ty vs tree) = subst (λ (z : ℕ). among Begins.type_part (terminal (s z)) ≡ true) at (type_front s ty)
  declaration_front s {i = i} (g.declaration (g.final o e at) ty vs tree) = Begins.is_among Begins.type_part (terminal (s i)) t.Final o one_keyword.12

  block_statement_call : (s : Text) {a : StmtTree} {i j : ℕ} → BlockStatement place s a i j → is_constructor_call s i ≡ false
  block_statement_call s {i = i} (g.local d o at) = word_no_call s i (declaration_front s d)
  block_statement_call s {i = i} (g.statement d) = front_call s i (statement_front s d)

  brace_call : among constructors t.RightBrace ≡ false
  unfolding same_terminal
  brace_call = refl

  rest_call : (i : ℕ) (s : Text) (a : StmtTree) (m j : ℕ) → RestRel i [] s a m j → is_constructor_call s m ≡ false
  rest_call i s a m j d = of d.part d.at d.first d.rest.kind
    where
      of : (all : List StmtTree) (k : ℕ) → Steps StmtStep s [] all m k → terminal (s k) ≡ t.RightBrace → is_constructor_call s m ≡ false
      of all k (done e at) o = and_first _ _ (none_of constructors (terminal (s m)) t.RightBrace (subst (λ (z : ℕ). terminal (s z) ≡ t.RightBrace) at o) brace_call)
      of all k (more x y) o = block_statement_call s x.first

  -- ---- calls of members of `this` and `super`, which are statements

  this_paren : among constructors t.This ≡ true
  unfolding same_terminal
  this_paren = refl

  method_is : (at : Span) (x : ExprTree) (v : List ℕ) → is_statement (tree.MethodCall at x v []) ≡ true
  method_is at x v = refl

  super_is : (at : Span) (v : List ℕ) → is_statement (tree.SuperCall at v []) ≡ true
  super_is at v = refl

  member_call : (s : Text) (i : ℕ) → (terminal (s i) ≡ t.This) ⊎ (terminal (s i) ≡ t.Super) → terminal (s (suc i)) ≡ t.Dot → terminal (s (suc (suc i))) ≡ t.Word → terminal (s (suc (suc (suc i)))) ≡ t.LeftParen
      → terminal (s (suc (suc (suc (suc i))))) ≡ t.RightParen → (a : StmtTree) × Evaluation place s a i (suc (suc (suc (suc (suc i)))))
  member_call s i (inl o) d w q c = (
    stmt.Expression (place i) (tree.MethodCall (place i) (tree.This (place i)) (s (suc (suc i))).text []),
    g.evaluation (g.evaluated (ge.plain (ge.postfix (ge.selected (ge.method_call (ge.primary (ge.this o refl refl)) d w q (ge.none refl refl) c refl refl)))) (method_is (place i) (tree.This (place i)) (s (suc (suc i))).text)) refl,
  )
  member_call s i (inr o) d w q c = (
    stmt.Expression (place i) (tree.SuperCall (place i) (s (suc (suc i))).text []),
    g.evaluation (g.evaluated (ge.plain (ge.postfix (ge.selected (ge.primary (ge.super_call o d w q (ge.none refl refl) c refl refl))))) (super_is (place i) (s (suc (suc i))).text)) refl,
  )

  which : (x : Terminal) → among constructors x ≡ true → (x ≡ t.This) ⊎ (x ≡ t.Super)
  which x e = elim (or_cases (same_terminal x t.This) _ e) [ inl y ↦ inl (kind_is x t.This y) | inr y ↦ elim (or_cases (same_terminal x t.Super) _ y) [ inl z ↦ inr (kind_is x t.Super z) | inr z ↦ absurd (cc) ] ]

  moved : (s v : Text) (i : ℕ) → v i ≡ s i → (terminal (s i) ≡ t.This) ⊎ (terminal (s i) ≡ t.Super) → (terminal (v i) ≡ t.This) ⊎ (terminal (v i) ≡ t.Super)
  moved s v i e (inl h) = inl (ap terminal e ∙ h)
  moved s v i e (inr h) = inr (ap terminal e ∙ h)

  -- the rest of a block looks behind `this` and `super` at its front
  rest_past : (i : ℕ) (s : Text) (m : ℕ) → among constructors (terminal (s m)) ≡ true → m < stop (r.rest_of_block place most room nested i [] s m)
  rest_past i s m h =
      let c = goes_on s (suc m) (t.Dot ∷ t.Word ∷ t.LeftParen ∷ t.RightParen ∷ t.Semicolon ∷ t.RightBrace ∷ []) (refl, (refl, (refl, (refl, (refl, (refl, tt)))))) in
      let row = c.2.1 in
      let d = member_call c.0 m (moved s c.0 m (c.1 m (omega arith)) (which (terminal (s m)) h)) row.kind row.rest.kind row.rest.rest.kind row.rest.rest.rest.kind in
      let x : BlockStatement place c.0 d.0 m (suc (suc (suc (suc (suc (suc m)))))) = g.statement (g.evaluate d.1 row.rest.rest.rest.rest.kind refl) in
      let rest : RestRel i [] c.0 (stmt.Block (place i) (d.0 ∷ []) (place (suc (suc (suc (suc (suc (suc m)))))))) m (suc (suc (suc (suc (suc (suc (suc m))))))) =
      record {
        part = d.0 ∷ [];
        at = suc (suc (suc (suc (suc (suc m)))));
        first = more (record { part = d.0; at = suc (suc (suc (suc (suc (suc m))))); first = x; rest = record { tree = refl; at = refl } }) (done refl refl);
        rest = record { kind = row.rest.rest.rest.rest.rest.kind; rest = record { tree = refl; at = refl } };
      } in
      reaches most (r.rest_of_block place most room nested i []) (RestRel i []) Any TallStmt (rest_laws i [] Any) s c.0 m m _ (suc (suc (suc (suc (suc (suc (suc m)))))))
      (λ x k. c.1 x (omega arith)) rest tt (omega arith) (omega arith)

  constructor_call_at : (s : Text) (m : ℕ) → (terminal (s m) ≡ t.This) ⊎ (terminal (s m) ≡ t.Super) → terminal (s (suc m)) ≡ t.LeftParen → terminal (s (suc (suc m))) ≡ t.RightParen → terminal (s (suc (suc (suc m)))) ≡ t.Semicolon
      → (a : StmtTree) × ConstructorCall place s a m (suc (suc (suc (suc m))))
  constructor_call_at s m (inl o) q c e = (stmt.ConstructorCall (place m) false [], g.of_this o q (g.no_expressions refl refl) c e refl refl)
  constructor_call_at s m (inr o) q c e = (stmt.ConstructorCall (place m) true [], g.of_super o q (g.no_expressions refl refl) c e refl refl)

  calling_past : (i : ℕ) (s : Text) (m : ℕ) → among constructors (terminal (s m)) ≡ true → m < stop ((nested p.ConstructorCall >>= λ c. r.rest_of_block place most room nested i (c ∷ [])) s m)
  calling_past i s m h =
      let c = goes_on s (suc m) (t.LeftParen ∷ t.RightParen ∷ t.Semicolon ∷ []) (refl, (refl, (refl, tt))) in
      let d = constructor_call_at c.0 m (moved s c.0 m (c.1 m (omega arith)) (which (terminal (s m)) h)) c.2.1.kind c.2.1.rest.kind c.2.1.rest.rest.kind in
      let k = reaches most (nested p.ConstructorCall) (λ s a i j. ConstructorCall place s a i j) (λ a k. Unit {0}) (StmtHasNode (suc room)) (u p.ConstructorCall) s c.0 m m d.0 (suc (suc (suc (suc m)))) (λ x k. c.1 x (omega arith)) d.1 tt (omega arith) (omega arith) in
      let n = stop_then (nested p.ConstructorCall s m) (λ c k. r.rest_of_block place most room nested i (c ∷ []) s k) (λ c k. forth (rest_laws i (c ∷ []) Any) s k) in
      omega arith

  constructor_seen : (i : ℕ) (s v : Text) (m : ℕ) → ((x : ℕ) → x ≤ stop (ahead is_constructor_call (nested p.ConstructorCall >>= λ c. r.rest_of_block place most room nested i (c ∷ [])) (r.rest_of_block place most room nested i []) s m) → v x ≡ s x)
      → is_constructor_call v m ≡ is_constructor_call s m
  constructor_seen i s v m same = constructor_depends s v m (same m (reach m (λ e. forth (calling_laws i) s m) (λ e. forth (rest_laws i [] Any) s m)))
      (λ w. same (suc m) (reach (suc m) (λ e. calling_past i s m w) (λ e. rest_past i s m w)))
    where
      reach : (n : ℕ) → (is_constructor_call s m ≡ true → n ≤ stop ((nested p.ConstructorCall >>= λ c. r.rest_of_block place most room nested i (c ∷ [])) s m)) → (is_constructor_call s m ≡ false → n ≤ stop (r.rest_of_block place most room nested i [] s m))
          → n ≤ stop (ahead is_constructor_call (nested p.ConstructorCall >>= λ c. r.rest_of_block place most room nested i (c ∷ [])) (r.rest_of_block place most room nested i []) s m)
      reach n h k = stop_ahead ((nested p.ConstructorCall >>= λ c. r.rest_of_block place most room nested i (c ∷ [])) s m) (r.rest_of_block place most room nested i [] s m) n (is_constructor_call s m) h k

  abbrev BodyOf : ℕ → Rel StmtTree
  BodyOf i = Word t.LeftBrace (λ _. Either (CallingRel i) (RestRel i []))

  to_body : (s : Text) (a : StmtTree) (i j : ℕ) → BodyOf i s a i j → ConstructorBody place s a i j
  to_body s a i j d = of d.rest
    where
      of : Either (CallingRel i) (RestRel i []) s a (suc i) j → ConstructorBody place s a i j
      of (inr x) = g.plain_body (to_braces s a i j (record { kind = d.kind; rest = x }))
      of (inl x) =
          let v = uncons_steps s x.part (x.part ∷ []) [] x.rest.part x.at x.rest.at refl x.rest.first in
          g.calling_body d.kind x.first (to_statements s v.others x.at x.rest.at v.steps) x.rest.rest.kind (x.rest.rest.rest.tree ∙ ap (λ (y : List StmtTree). stmt.Block (place i) y (place x.rest.at)) v.tree) x.rest.rest.rest.at

  from_body : (s : Text) (a : StmtTree) (i j : ℕ) → ConstructorBody place s a i j → BodyOf i s a i j
  from_body s a i j (g.plain_body d) = let w = from_braces s a i j d in record { kind = w.kind; rest = inr w.rest }
  from_body s a i j (g.calling_body {c = c} {b = b} {k = k} {m = m} o d e q tree at) = record {
    kind = o;
    rest = inl (record {
      part = c;
      at = k;
      first = d;
      rest = record {
        part = c ∷ b;
        at = m;
        first = cons_steps s c [] b k m (from_statements s e);
        rest = record { kind = q; rest = record { tree = tree; at = at } };
      };
    });
  }

  body_laws : Laws most (r.constructor_body place most room nested) (λ s a i j. ConstructorBody place s a i j) Any TallStmt
  unfolding r.constructor_body
  body_laws = renamed (λ s a i j. ConstructorBody place s a i j) Any
      (start {D = BodyOf} (λ i. tok t.LeftBrace refl (λ _. ahead_laws most is_constructor_call (nested p.ConstructorCall >>= λ c. r.rest_of_block place most room nested i (c ∷ [])) (r.rest_of_block place most room nested i []) (CallingRel i) (RestRel i []) Any TallStmt
      (calling_laws i) (rest_laws i [] Any) (constructor_seen i) (λ s a m j d last. call_begins s d.first) (λ s a m j d last. rest_call i s a m j d))))
      to_body from_body (λ a x e. e)

  -- ---- labels, and expressions as statements

  abbrev LabelledRel : ℕ → Rel StmtTree
  LabelledRel i = Word t.Word (λ v. Word t.Colon (λ _. Then BodyRel (λ b. Same (stmt.Labelled (place i) v b))))

  handed : (f : StmtTree → StmtTree) (same : (b : StmtTree) → dangles (f b) ≡ dangles b) (s : Text) (b a : StmtTree) (m j : ℕ) → Same (f b) s a m j → AfterStatement a (terminal (s j)) → AfterStatement b (terminal (s m))
  handed f same s b a m j d last = record {
    no_else = λ h. subst (λ (n : ℕ). same_terminal (terminal (s n)) t.Else ≡ false) d.at (last.no_else (ap dangles d.tree ∙ (same b ∙ h)));
    no_handler = subst (λ (n : ℕ). among handlers (terminal (s n)) ≡ false) d.at last.no_handler;
  }

  colon_laws : (i : ℕ) (v : List ℕ) → Laws most (sign t.Colon (nested p.Statement >>= λ b. pure (stmt.Labelled (place i) v b))) (Word t.Colon (λ _. Then BodyRel (λ b. Same (stmt.Labelled (place i) v b)))) AfterStatement TallStmt
  colon_laws i v = tok t.Colon refl (λ _. seq (u p.Statement) (λ b. pure_laws most (stmt.Labelled (place i) v b) AfterStatement TallStmt)
      (λ s b m a j d last. handed (stmt.Labelled (place i) v) (λ b. Begins.labelled_dangles (place i) v b) s b a m j d last) (λ s b m a j d at h. tall.tall_labelled_body room (place i) v b a d.tree h))

  labelled_laws : (i : ℕ) → Laws most (r.labelled place most room nested i) (LabelledRel i) AfterStatement TallStmt
  unfolding r.labelled
  labelled_laws i = tok t.Word refl (λ v. colon_laws i v)

  abbrev EvaluateRel : Rel StmtTree
  EvaluateRel = Then (λ s a i j. Evaluation place s a i j) (λ a. Word t.Semicolon (λ _. Same a))

  same_tall : {at : Span} (a b : StmtTree) → b ≡ a → TallStmt at a → TallStmt at b
  same_tall {at} a b e h = subst (TallStmt at) (sym e) h

  evaluate_laws : (E : StmtTree → Terminal → Type 0) → Laws most (r.evaluate place most room nested) EvaluateRel E TallStmt
  unfolding r.evaluate
  evaluate_laws E = seq (evaluation_laws place most given room) (λ a. tok t.Semicolon refl (λ _. pure_laws most a E TallStmt)) (λ s a m b j d last. in_list _ t.Semicolon d.kind sign_facts.0) (λ s a m b j d at h. same_tall a b d.rest.tree h)

  labelled_stop : (i : ℕ) (s : Text) (m : ℕ) → is_labelled s m ≡ true → suc m ≤ stop (r.labelled place most room nested i s m)
  unfolding r.labelled
  labelled_stop i s m e = stop_word t.Word (λ v. sign t.Colon (nested p.Statement >>= λ b. pure (stmt.Labelled (place i) v b))) s m (suc m) (and_first_true (same_terminal (terminal (s m)) t.Word) _ e)
      (forth (colon_laws i (s m).text) s (suc m))

  evaluate_stop : (s : Text) (m n : ℕ) → n ≤ stop (r.evaluation place most room s m) → n ≤ stop (r.evaluate place most room nested s m)
  unfolding r.evaluate
  evaluate_stop s m n h =
      let k = stop_then (r.evaluation place most room s m) (λ a k. sign t.Semicolon (pure a) s k) (λ a k. forth (tok {E = Any} {T = TallStmt} t.Semicolon refl (λ _. pure_laws most a Any TallStmt)) s k) in
      omega arith

  labelled_seen : (i : ℕ) (s v : Text) (m : ℕ) → ((x : ℕ) → x ≤ stop (ahead is_labelled (r.labelled place most room nested i) (r.evaluate place most room nested) s m) → v x ≡ s x) → is_labelled v m ≡ is_labelled s m
  labelled_seen i s v m same = labelled_depends s v m (same m (reach m (λ e. forth (labelled_laws i) s m) (λ e. forth (evaluate_laws Any) s m)))
      (λ w. same (suc m) (reach (suc m) (λ e. labelled_stop i s m e) (λ e. evaluate_stop s m (suc m) (evaluation_past place most given s m w (r.evaluation place most room) TallStmt (evaluation_laws place most given room)))))
    where
      reach : (n : ℕ) → (is_labelled s m ≡ true → n ≤ stop (r.labelled place most room nested i s m)) → (is_labelled s m ≡ false → n ≤ stop (r.evaluate place most room nested s m))
          → n ≤ stop (ahead is_labelled (r.labelled place most room nested i) (r.evaluate place most room nested) s m)
      reach n h k = stop_ahead (r.labelled place most room nested i s m) (r.evaluate place most room nested s m) n (is_labelled s m) h k

  abbrev PlainRel : ℕ → Rel StmtTree
  PlainRel i = Either (LabelledRel i) EvaluateRel

  plain_laws : (i : ℕ) → Laws most (ahead is_labelled (r.labelled place most room nested i) (r.evaluate place most room nested)) (PlainRel i) AfterStatement TallStmt
  plain_laws i = ahead_laws most is_labelled (r.labelled place most room nested i) (r.evaluate place most room nested) (LabelledRel i) EvaluateRel AfterStatement TallStmt (labelled_laws i) (evaluate_laws AfterStatement) (labelled_seen i)
      (λ s a m j d last. and_join _ _ (is_kind _ _ d.kind) (is_kind _ _ d.rest.kind))
      (λ s a m j d last. (evaluation_next place most given s d.first (semicolon_second (terminal (s d.at)) d.rest.kind)).no_label)

  word_expression : among expression_words t.Word ≡ true
  unfolding same_terminal
  word_expression = refl

  plain_begins : (i : ℕ) (s : Text) (a : StmtTree) (m j : ℕ) → PlainRel i s a m j → among expression_words (terminal (s m)) ≡ true
  plain_begins i s a m j (inl d) = Begins.is_among expression_words _ t.Word d.kind word_expression
  plain_begins i s a m j (inr d) = evaluation_begins place most given s d.first

  -- ---- statements

  abbrev FromGuard : ℕ → Rel StmtTree
  FromGuard i = Either (GuardRel place most given room nested u greedy i) (PlainRel i)

  abbrev FromLeave : ℕ → Rel StmtTree
  FromLeave i = Either (LeaveRel place most given room nested u greedy i) (FromGuard i)

  abbrev FromLoop : ℕ → Rel StmtTree
  FromLoop i = Either (LoopRel i) (FromLeave i)

  abbrev FromBranch : ℕ → Rel StmtTree
  FromBranch i = Either (BranchRel place most given room nested u greedy i) (FromLoop i)

  abbrev EmptyRel : ℕ → Rel StmtTree
  EmptyRel i = Word t.Semicolon (λ _. Same (stmt.Empty (place i)))

  abbrev FromEmpty : ℕ → Rel StmtTree
  FromEmpty i = Either (EmptyRel i) (FromBranch i)

  abbrev StatementRel : ℕ → Rel StmtTree
  StatementRel i = Either (λ s a m j. Block place s a m j) (FromEmpty i)

  guard_word : (x : Terminal) → among guard_words x ≡ true → among Begins.guarded_words x ≡ true
  unfolding same_terminal
  guard_word = each (λ x. among Begins.guarded_words x ≡ true) guard_words (refl, (refl, tt))

  leave_word : (x : Terminal) → among leave_words x ≡ true → among Begins.left_words x ≡ true
  unfolding same_terminal
  leave_word = each (λ x. among Begins.left_words x ≡ true) leave_words (refl, (refl, (refl, (refl, tt))))

  loop_word : (x : Terminal) → among loop_words x ≡ true → among Begins.looped_words x ≡ true
  unfolding same_terminal
  loop_word = each (λ x. among Begins.looped_words x ≡ true) loop_words (refl, (refl, (refl, tt)))

  branch_word : (x : Terminal) → among branch_words x ≡ true → among Begins.branched_words x ≡ true
  unfolding same_terminal
  branch_word = each (λ x. among Begins.branched_words x ≡ true) branch_words (refl, (refl, tt))

  from_guard_begins : (i : ℕ) (s : Text) (a : StmtTree) (m j : ℕ) → FromGuard i s a m j → among Begins.guarded_words (terminal (s m)) ≡ true
  from_guard_begins i s a m j (inl d) = guard_word (terminal (s m)) (guard_begins place most given room nested u greedy i s a m j d)
  from_guard_begins i s a m j (inr d) = let x = terminal (s m) in Begins.or_right (same_terminal x t.Synchronized) _ (Begins.or_right (same_terminal x t.Try) (among expression_words x) (plain_begins i s a m j d))

  from_leave_begins : (i : ℕ) (s : Text) (a : StmtTree) (m j : ℕ) → FromLeave i s a m j → among Begins.left_words (terminal (s m)) ≡ true
  from_leave_begins i s a m j (inl d) = leave_word (terminal (s m)) (leave_begins place most given room nested u greedy i s a m j d)
  from_leave_begins i s a m j (inr d) = let x = terminal (s m) in
      Begins.or_right (same_terminal x t.Break) _ (Begins.or_right (same_terminal x t.Continue) _ (Begins.or_right (same_terminal x t.Return) _ (Begins.or_right (same_terminal x t.Throw) (among Begins.guarded_words x) (from_guard_begins i s a m j d))))

  from_loop_begins : (i : ℕ) (s : Text) (a : StmtTree) (m j : ℕ) → FromLoop i s a m j → among Begins.looped_words (terminal (s m)) ≡ true
  from_loop_begins i s a m j (inl d) = loop_word (terminal (s m)) (loop_begins i s a m j d)
  from_loop_begins i s a m j (inr d) = let x = terminal (s m) in
      Begins.or_right (same_terminal x t.While) _ (Begins.or_right (same_terminal x t.Do) _ (Begins.or_right (same_terminal x t.For) (among Begins.left_words x) (from_leave_begins i s a m j d)))

  from_branch_begins : (i : ℕ) (s : Text) (a : StmtTree) (m j : ℕ) → FromBranch i s a m j → among Begins.branched_words (terminal (s m)) ≡ true
  from_branch_begins i s a m j (inl d) = branch_word (terminal (s m)) (branch_begins place most given room nested u greedy i s a m j d)
  from_branch_begins i s a m j (inr d) = let x = terminal (s m) in Begins.or_right (same_terminal x t.If) _ (Begins.or_right (same_terminal x t.Switch) (among Begins.looped_words x) (from_loop_begins i s a m j d))

  empty_word : among Begins.empty_words t.Semicolon ≡ true
  unfolding same_terminal
  empty_word = refl

  from_empty_begins : (i : ℕ) (s : Text) (a : StmtTree) (m j : ℕ) → FromEmpty i s a m j → among Begins.empty_words (terminal (s m)) ≡ true
  from_empty_begins i s a m j (inl d) = Begins.is_among Begins.empty_words (terminal (s m)) t.Semicolon d.kind empty_word
  from_empty_begins i s a m j (inr d) = Begins.or_right (same_terminal (terminal (s m)) t.Semicolon) (among Begins.branched_words (terminal (s m))) (from_branch_begins i s a m j d)

  empty_laws : (i : ℕ) → Laws most (r.empty place most room nested i) (EmptyRel i) AfterStatement TallStmt
  unfolding r.empty
  empty_laws i = tok t.Semicolon refl (λ _. pure_laws most (stmt.Empty (place i)) AfterStatement TallStmt)

  to_plain : (s : Text) (a : StmtTree) (i j : ℕ) → PlainRel i s a i j → Statement place s a i j
  to_plain s a i j (inl d) = g.labelled d.kind d.rest.kind (subst (λ (z : ℕ). Statement place s d.rest.rest.part (suc (suc i)) z) (sym d.rest.rest.rest.at) d.rest.rest.first) d.rest.rest.rest.tree
  to_plain s a i j (inr d) = g.evaluate (subst (λ (z : StmtTree). Evaluation place s z i d.at) (sym d.rest.rest.tree) d.first) d.rest.kind d.rest.rest.at

  to_statement : (s : Text) (a : StmtTree) (i j : ℕ) → StatementRel i s a i j → Statement place s a i j
  to_statement s a i j (inl d) = g.block d
  to_statement s a i j (inr (inl d)) = g.empty d.kind d.rest.tree d.rest.at
  to_statement s a i j (inr (inr (inl d))) = to_branch place most given room nested u greedy s a i j d
  to_statement s a i j (inr (inr (inr (inl d)))) = to_loop s a i j d
  to_statement s a i j (inr (inr (inr (inr (inl d))))) = to_leave place most given room nested u greedy s a i j d
  to_statement s a i j (inr (inr (inr (inr (inr (inl d)))))) = to_guard place most given room nested u greedy s a i j d
  to_statement s a i j (inr (inr (inr (inr (inr (inr d)))))) = to_plain s a i j d

  from_statement : (s : Text) (a : StmtTree) (i j : ℕ) → Statement place s a i j → StatementRel i s a i j
  from_statement s a i j (g.block d) = inl d
  from_statement s a i j (g.empty o e at) = inr (inl (record { kind = o; rest = record { tree = e; at = at } }))
  from_statement s a i j (g.choice {x = x} {b = b} {m = m} o q d c body e) = inr (inr (inl (inl (record {
    kind = o;
    rest = record {
      kind = q;
      rest = record {
        part = x;
        at = m;
        first = d;
        rest = record {
          kind = c;
          rest = record { part = b; at = j; first = body; rest = inr (record { tree = e; at = refl }) };
        };
      };
    };
  }))))
  from_statement s a i j (g.choice_else {x = x} {b = b} {c = c} {m = m} {n = n} o q d p2 body never o2 other e) = inr (inr (inl (inl (record {
    kind = o;
    rest = record {
      kind = q;
      rest = record {
        part = x;
        at = m;
        first = d;
        rest = record {
          kind = p2;
          rest = record { part = b; at = n; first = body; rest = inl (record { holds = never; stands = record { kind = o2; rest = record { part = c; at = j; first = other; rest = record { tree = e; at = refl } } } }) };
        };
      };
    };
  }))))
  from_statement s a i j (g.switch {x = x} {ms = ms} {m = m} {n = n} o q d c l members r2 e at) = inr (inr (inl (inr (record {
    kind = o;
    rest = record {
      kind = q;
      rest = record {
        part = x;
        at = m;
        first = d;
        rest = record {
          kind = c;
          rest = record { kind = l; rest = record { part = ms; at = n; first = members; rest = record { kind = r2; rest = record { tree = e; at = at } } } };
        };
      };
    };
  }))))
  from_statement s a i j (g.while {x = x} {b = b} {m = m} o q d c body e) = inr (inr (inr (inl (inl (record {
    kind = o;
    rest = record {
      kind = q;
      rest = record {
        part = x;
        at = m;
        first = d;
        rest = record {
          kind = c;
          rest = record { part = b; at = j; first = body; rest = record { tree = e; at = refl } };
        };
      };
    };
  })))))
  from_statement s a i j (g.do_while {b = b} {x = x} {m = m} {n = n} o body o2 q d c e2 e at) = inr (inr (inr (inl (inr (inl (record {
    kind = o;
    rest = record {
      part = b;
      at = m;
      first = body;
      rest = record {
        kind = o2;
        rest = record {
          kind = q;
          rest = record { part = x; at = n; first = d; rest = record { kind = c; rest = record { kind = e2; rest = record { tree = e; at = at } } } };
        };
      };
    };
  }))))))
  from_statement s a i j (g.for {inits = inits} {x = x} {us = us} {b = b} {k = k} {m = m} {n = n} o q d o2 e o3 e2 o4 body tree) = inr (inr (inr (inl (inr (inr (record { kind = o; rest = record { kind = q; rest = from_for place most given room nested u s a i k m n j inits x us b d o2 e o3 e2 o4 body tree } }))))))
  from_statement s a i j (g.for_each {f = f} {ty = ty} {x = x} {b = b} {k = k} {m = m} {n = n} o q fin typ w c d c2 body tree) = inr (inr (inr (inl (inr (inr (record { kind = o; rest = record { kind = q; rest = from_each place most given room nested u s a i k m n j f ty x b fin typ w c d c2 body tree } }))))))
  from_statement s a i j (g.jump_to {l = l} {m = m} o d q e at) = inr (inr (inr (inr (inl (inl (record { kind = o; rest = record { part = l; at = m; first = d; rest = record { kind = q; rest = record { tree = e; at = at } } } }))))))
  from_statement s a i j (g.return {x = x} {m = m} o d q e at) = inr (inr (inr (inr (inl (inr (inl (record { kind = o; rest = record { part = x; at = m; first = d; rest = record { kind = q; rest = record { tree = e; at = at } } } })))))))
  from_statement s a i j (g.throw {x = x} {m = m} o d q e at) = inr (inr (inr (inr (inl (inr (inr (record { kind = o; rest = record { part = x; at = m; first = d; rest = record { kind = q; rest = record { tree = e; at = at } } } })))))))
  from_statement s a i j (g.synchronized {x = x} {b = b} {m = m} o q d c body e) = inr (inr (inr (inr (inr (inl (inl (record {
    kind = o;
    rest = record {
      kind = q;
      rest = inr (record {
        part = x;
        at = m;
        first = d;
        rest = record {
          kind = c;
          rest = record { part = b; at = j; first = body; rest = record { tree = e; at = refl } };
        };
      });
    };
  })))))))
  from_statement s a i j (g.synchronized_class {b = b} o q w k l c body e) = inr (inr (inr (inr (inr (inl (inl (record {
    kind = o;
    rest = record {
      kind = q;
      rest = inl (record {
        part = record { at = place (suc (suc i)); name = (s (suc (suc i))).text };
        at = suc (suc (suc i));
        first = record { kind = w; rest = record { tree = refl; at = refl } };
        rest = record { kind = k; rest = record { kind = l; rest = record { kind = c; rest = record { part = b; at = j; first = body; rest = record { tree = e; at = refl } } } } };
      });
    };
  })))))))
  from_statement s a i j (g.try {b = b} {cs = cs} {m = m} o d c some e) = inr (inr (inr (inr (inr (inl (inr (record { kind = o; rest = record { part = b; at = m; first = d; rest = record { part = cs; at = j; first = c; rest = inr (record { holds = some; stands = record { tree = e; at = refl } }) } } })))))))
  from_statement s a i j (g.try_finally {b = b} {cs = cs} {f = f} {m = m} {n = n} o d c o2 fin e) = inr (inr (inr (inr (inr (inl (inr (record {
    kind = o;
    rest = record {
      part = b;
      at = m;
      first = d;
      rest = record {
        part = cs;
        at = n;
        first = c;
        rest = inl (record { kind = o2; rest = record { part = f; at = j; first = fin; rest = record { tree = e; at = refl } } });
      };
    };
  })))))))
  from_statement s a i j (g.labelled {b = b} o k body e) = inr (inr (inr (inr (inr (inr (inl (record { kind = o; rest = record { kind = k; rest = record { part = b; at = j; first = body; rest = record { tree = e; at = refl } } } })))))))
  from_statement s a i j (g.evaluate {m = m} d o at) = inr (inr (inr (inr (inr (inr (inr (record { part = a; at = m; first = d; rest = record { kind = o; rest = record { tree = refl; at = at } } })))))))

  statement_laws : Laws most (r.statement place most room nested) BodyRel AfterStatement TallStmt
  unfolding r.statement
  statement_laws = renamed BodyRel AfterStatement
      (start {D = StatementRel} (λ i. alt (is t.LeftBrace) (block_laws AfterStatement)
      (alt (is t.Semicolon) (empty_laws i)
      (alt (among branch_words) (branching_laws place most given room nested u greedy i)
      (alt (among loop_words) (looping_laws i)
      (alt (among leave_words) (leaving_laws place most given room nested u greedy i)
      (alt (among guard_words) (guarding_laws place most given room nested u greedy i) (plain_laws i)
      (λ s a m j d last. guard_begins place most given room nested u greedy i s a m j d) (λ s a m j d last. Begins.after_guard (terminal (s m)) (plain_begins i s a m j d)))
      (λ s a m j d last. leave_begins place most given room nested u greedy i s a m j d) (λ s a m j d last. Begins.after_leave (terminal (s m)) (from_guard_begins i s a m j d)))
      (λ s a m j d last. loop_begins i s a m j d) (λ s a m j d last. Begins.after_loop (terminal (s m)) (from_leave_begins i s a m j d)))
      (λ s a m j d last. branch_begins place most given room nested u greedy i s a m j d) (λ s a m j d last. Begins.after_branch (terminal (s m)) (from_loop_begins i s a m j d)))
      (λ s a m j d last. is_kind _ _ d.kind) (λ s a m j d last. Begins.after_empty (terminal (s m)) (from_branch_begins i s a m j d)))
      (λ s a m j d last. is_kind _ _ (block_begins place most given s d)) (λ s a m j d last. Begins.after_brace (terminal (s m)) (from_empty_begins i s a m j d))))
      to_statement from_statement (λ a x e. e)

  -- ---- statements of a block

  abbrev LocalRel : Rel StmtTree
  LocalRel = Then (λ s a i j. Declaration place s a i j) (λ a. Word t.Semicolon (λ _. Same a))

  local_laws : Laws most (r.local place most room nested) LocalRel AfterStatement TallStmt
  unfolding r.local
  local_laws = seq (declaration_laws place most given room) (λ a. tok t.Semicolon refl (λ _. pure_laws most a AfterStatement TallStmt)) (λ s a m b j d last. d.kind) (λ s a m b j d at h. same_tall a b d.rest.tree h)

  declares_type : (s : Text) {a : StmtTree} {i j : ℕ} → Declaration place s a i j → declares s i ≡ true
  declares_type s {j = j} (g.declaration {n = n} (g.not_final e at) ty vs tree) = subst (λ (z : ℕ). declares s z ≡ true) at (type_declares place s ty (variables_word place most given 0 s vs))
  declares_type s {i = i} (g.declaration (g.final o e at) ty vs tree) = final_declares s i o

  final_none : (s : Text) (d : ℕ) → same_terminal (terminal (s d)) t.Final ≡ false → r.maybe_final s d ≡ Found false d
  unfolding r.maybe_final
  final_none s d e = ap (λ (b : Bool). cond b (sign t.Final (pure true) s d) (Found false d)) e

  word_no_final : (x : Terminal) → same_terminal x t.Word ≡ true → same_terminal x t.Final ≡ false
  unfolding same_terminal
  word_no_final x e = is_not x t.Word t.Final (kind_is x t.Word e) refl

  typed_onward : (k i : ℕ) (ty : TypeTree) (s : Text) (m : ℕ) → m ≤ stop ((r.variables_below place most k >>= λ vs. pure (stmt.Local (place i) false ty vs)) s m)
  typed_onward k i ty s m =
      let x = stop_then (r.variables_below place most k s m) (λ vs n. Found (stmt.Local (place i) false ty vs) n) (λ vs n. le_refl n) in
      let y = forth (variables_below_laws place most given k) s m in
      omega arith

  declaration_stop : (k : ℕ) (s : Text) (d n : ℕ) → same_terminal (terminal (s d)) t.Word ≡ true → n ≤ stop (type_at place most s d) → n ≤ stop (r.declaration place most k s d)
  unfolding r.declaration
  declaration_stop k s d n w h = stop_found (r.maybe_final s d) (λ f m. (type_at place most >>= λ ty. r.variables_below place most k >>= λ vs. pure (stmt.Local (place d) f ty vs)) s m) false d n (final_none s d (word_no_final (terminal (s d)) w))
      (let x = stop_then (type_at place most s d) (λ ty m. (r.variables_below place most k >>= λ vs. pure (stmt.Local (place d) false ty vs)) s m) (λ ty m. typed_onward k d ty s m) in omega arith)

  local_stop : (s : Text) (d n : ℕ) → n ≤ stop (r.declaration place most room s d) → n ≤ stop (r.local place most room nested s d)
  unfolding r.local
  local_stop s d n h =
      let k = stop_then (r.declaration place most room s d) (λ a k. sign t.Semicolon (pure a) s k) (λ a k. forth (tok {E = Any} {T = TallStmt} t.Semicolon refl (λ _. pure_laws most a Any TallStmt)) s k) in
      omega arith

  -- a statement that is followed by another looks behind a name at its front
  semicolon_after : (a : StmtTree) (k : Terminal) → dangles a ≡ false → k ≡ t.Semicolon → AfterStatement a k
  unfolding same_terminal
  semicolon_after a k never e = record { no_else = λ h. absurd (both_ways (dangles a) never h); no_handler = none_of handlers k t.Semicolon e refl }

  evaluation_never : (s : Text) {a : StmtTree} {i j : ℕ} → Evaluation place s a i j → dangles a ≡ false
  evaluation_never s {i = i} (g.evaluation {x = x} d e) = ap dangles e ∙ Begins.expression_dangles (place i) x

  statement_past : (s : Text) (i : ℕ) → same_terminal (terminal (s i)) t.Word ≡ true → i < stop (r.statement place most room nested s i)
  statement_past s i w =
      let c = goes_on s (suc i) (t.LeftParen ∷ t.RightParen ∷ t.Semicolon ∷ t.Semicolon ∷ []) (refl, (refl, (refl, (refl, tt)))) in
      let row = c.2.1 in
      let word_is : terminal (c.0 i) ≡ t.Word = ap terminal (c.1 i (omega arith)) ∙ kind_is _ _ w in
      let d = call_evaluation place c.0 i word_is row.kind row.rest.kind in
      reaches most (r.statement place most room nested) BodyRel AfterStatement TallStmt statement_laws s c.0 i i _ (suc (suc (suc (suc i)))) (λ x k. c.1 x (omega arith))
      (g.evaluate d row.rest.rest.kind refl) (semicolon_after _ (terminal (c.0 (suc (suc (suc (suc i)))))) (evaluation_never c.0 d) row.rest.rest.rest.kind) (omega arith) (omega arith)

  assign_is : (x : Terminal) → x ≡ t.Assign → among ge.assigns x ≡ true
  unfolding same_terminal
  assign_is x e = ap (among ge.assigns) e

  statement_past_bracket : (s : Text) (i : ℕ) → same_terminal (terminal (s i)) t.Word ≡ true → same_terminal (terminal (s (suc i))) t.LeftBracket ≡ true → suc i < stop (r.statement place most room nested s i)
  statement_past_bracket s i w bracket =
      let c = goes_on s (suc (suc i)) (t.Word ∷ t.RightBracket ∷ t.Assign ∷ t.Word ∷ t.Semicolon ∷ t.Semicolon ∷ []) (refl, (refl, (refl, (refl, (refl, (refl, tt)))))) in
      let row = c.2.1 in
      let word_is : terminal (c.0 i) ≡ t.Word = ap terminal (c.1 i (omega arith)) ∙ kind_is _ _ w in
      let bracket_is : terminal (c.0 (suc i)) ≡ t.LeftBracket = ap terminal (c.1 (suc i) (omega arith)) ∙ kind_is _ _ bracket in
      let d = assigned_evaluation place c.0 i word_is bracket_is row.kind row.rest.kind (assign_is (terminal (c.0 (suc (suc (suc (suc i)))))) row.rest.rest.kind) row.rest.rest.rest.kind in
      reaches most (r.statement place most room nested) BodyRel AfterStatement TallStmt statement_laws s c.0 i (suc i) d.0 (suc (suc (suc (suc (suc (suc (suc i))))))) (λ x k. c.1 x (omega arith))
      (g.evaluate d.1 row.rest.rest.rest.rest.kind refl) (semicolon_after d.0 (terminal (c.0 (suc (suc (suc (suc (suc (suc (suc i))))))))) (evaluation_never c.0 d.1) row.rest.rest.rest.rest.rest.kind) (omega arith) (omega arith)

  declares_seen : (s v : Text) (d : ℕ) → ((x : ℕ) → x ≤ stop (ahead declares (r.local place most room nested) (r.statement place most room nested) s d) → v x ≡ s x) → declares v d ≡ declares s d
  declares_seen s v d same = declares_depends s v d (same d (reach d (λ e. forth local_laws s d) (λ e. forth statement_laws s d)))
      (λ w. same (suc d) (reach (suc d) (λ e. local_stop s d (suc d) (declaration_stop room s d (suc d) w (type_past place most given s d w))) (λ e. statement_past s d w)))
      (λ w b. same (suc (suc d)) (reach (suc (suc d)) (λ e. local_stop s d (suc (suc d)) (declaration_stop room s d (suc (suc d)) w (type_past_bracket place most given s d w b))) (λ e. statement_past_bracket s d w b)))
    where
      reach : (n : ℕ) → (declares s d ≡ true → n ≤ stop (r.local place most room nested s d)) → (declares s d ≡ false → n ≤ stop (r.statement place most room nested s d))
          → n ≤ stop (ahead declares (r.local place most room nested) (r.statement place most room nested) s d)
      reach n h k = stop_ahead (r.local place most room nested s d) (r.statement place most room nested s d) n (declares s d) h k

  to_block_statement : (s : Text) (a : StmtTree) (i j : ℕ) → Either LocalRel BodyRel s a i j → BlockStatement place s a i j
  to_block_statement s a i j (inl d) = g.local (subst (λ (z : StmtTree). Declaration place s z i d.at) (sym d.rest.rest.tree) d.first) d.rest.kind d.rest.rest.at
  to_block_statement s a i j (inr d) = g.statement d

  from_block_statement : (s : Text) (a : StmtTree) (i j : ℕ) → BlockStatement place s a i j → Either LocalRel BodyRel s a i j
  from_block_statement s a i j (g.local {m = m} d o at) = inl (record { part = a; at = m; first = d; rest = record { kind = o; rest = record { tree = refl; at = at } } })
  from_block_statement s a i j (g.statement d) = inr d

  block_statement_laws : Laws most (r.block_statement place most room nested) (λ s a i j. BlockStatement place s a i j) AfterStatement TallStmt
  unfolding r.block_statement
  block_statement_laws = renamed (λ s a i j. BlockStatement place s a i j) AfterStatement
      (ahead_laws most declares (r.local place most room nested) (r.statement place most room nested) LocalRel BodyRel AfterStatement TallStmt local_laws statement_laws declares_seen (λ s a i j d last. declares_type s d.first) (λ s a i j d last. front_declares s i (statement_front s d)))
      to_block_statement from_block_statement (λ a x e. e)

  -- ---- members of a switch

  abbrev CasedRel : ℕ → Rel StmtTree
  CasedRel i = Cased place most given room i

  abbrev MemberRel : ℕ → Rel StmtTree
  MemberRel i = Either (Cased place most given room i) (Either (Defaulted place most given room i) (λ s a m j. BlockStatement place s a m j))

  to_member : (s : Text) (a : StmtTree) (i j : ℕ) → MemberRel i s a i j → Member place s a i j
  to_member s a i j (inl d) = g.label (to_label place most given room s a i j (inl d))
  to_member s a i j (inr (inl d)) = g.label (to_label place most given room s a i j (inr d))
  to_member s a i j (inr (inr d)) = g.in_group d

  from_member : (s : Text) (a : StmtTree) (i j : ℕ) → Member place s a i j → MemberRel i s a i j
  from_member s a i j (g.label d) = elim (from_label place most given room s d) [ inl x ↦ inl x | inr y ↦ inr (inl y) ]
  from_member s a i j (g.in_group d) = inr (inr d)

  default_no_case : same_terminal t.Default t.Case ≡ false
  unfolding same_terminal
  default_no_case = refl

  group_no_case : (i : ℕ) (s : Text) (a : StmtTree) (m j : ℕ) → Either (Defaulted place most given room i) (λ s a m j. BlockStatement place s a m j) s a m j → same_terminal (terminal (s m)) t.Case ≡ false
  group_no_case i s a m j (inl d) = is_not (terminal (s m)) t.Default t.Case d.kind default_no_case
  group_no_case i s a m j (inr d) = (Begins.not_label (terminal (s m)) (block_statement_begins place most given s d)).0

  member_laws : Laws most (r.member place most room nested) (λ s a i j. Member place s a i j) AfterStatement TallStmt
  unfolding r.member
  member_laws = renamed (λ s a i j. Member place s a i j) AfterStatement
      (start {D = MemberRel} (λ i. alt (is t.Case) (case_laws place most given room i AfterStatement)
      (alt (is t.Default) (default_laws place most given room i AfterStatement) block_statement_laws (λ s a m j d last. is_kind _ _ d.kind) (λ s a m j d last. (Begins.not_label (terminal (s m)) (block_statement_begins place most given s d)).1))
      (λ s a m j d last. is_kind _ _ d.kind) (λ s a m j d last. group_no_case i s a m j d)))
      to_member from_member (λ a x e. e)

  -- ---- each part

  pub rule_laws : (x : StmtPart) → Laws most (r.rule place most room nested x) (StandsAs x place) (AfterPart x) TallStmt
  unfolding r.rule
  rule_laws p.Statement = statement_laws
  rule_laws p.BlockStatement = block_statement_laws
  rule_laws p.Block = block_laws Any
  rule_laws p.Member = member_laws
  rule_laws p.Label = label_laws place most given room Any
  rule_laws p.Catch = catch_laws place most given room nested u greedy
  rule_laws p.Evaluation = evaluation_laws place most given room
  rule_laws p.ConstructorCall = constructor_call_laws place most given room
  rule_laws p.ConstructorBody = body_laws

  -- ---- no `else` behind a statement that could take it

  in_parens_greedy : (f : ExprTree → Parser StmtTree) → ((x : ExprTree) → Greedy (f x)) → Greedy (r.in_parens place most room nested f)
  unfolding r.in_parens
  in_parens_greedy f h = word_greedy t.LeftParen (λ _. r.value place most room >>= λ x. sign t.RightParen (f x)) (λ _. then_greedy (r.value place most room) (λ x. sign t.RightParen (f x)) (λ x. word_greedy t.RightParen (λ _. f x) (λ _. h x)))

  tail_greedy : (i : ℕ) (x : ExprTree) (b : StmtTree) → Greedy (r.choice_tail place most room nested i x b)
  unfolding r.choice_tail
  tail_greedy i x b s m a j e h = of (same_terminal (terminal (s m)) t.Else) refl e
    where
      of : (c : Bool) → same_terminal (terminal (s m)) t.Else ≡ c → cond c (sign t.Else (nested p.Statement >>= λ c. pure (stmt.IfElse (place i) x b c)) s m) (Found (stmt.If (place i) x b) m) ≡ Found a j → same_terminal (terminal (s j)) t.Else ≡ false
      of true is_else e2 = word_greedy t.Else (λ _. nested p.Statement >>= λ c. pure (stmt.IfElse (place i) x b c)) (λ _. last_greedy (nested p.Statement) (stmt.IfElse (place i) x b) greedy (λ c. Begins.ifelse_dangles (place i) x b c)) s m a j e2 h
      of false no_else e2 = let at : m ≡ j = cc in subst (λ (n : ℕ). same_terminal (terminal (s n)) t.Else ≡ false) at no_else

  branching_greedy : (i : ℕ) → Greedy (r.branching place most room nested i)
  unfolding r.branching r.choice r.switch r.switched
  branching_greedy i = ahead_greedy (λ s m. is t.If (terminal (s m))) (r.choice place most room nested i) (r.switch place most room nested i)
      (word_greedy t.If (λ _. r.in_parens place most room nested (λ x. nested p.Statement >>= r.choice_tail place most room nested i x)) (λ _. in_parens_greedy (λ x. nested p.Statement >>= r.choice_tail place most room nested i x)
      (λ x. then_greedy (nested p.Statement) (r.choice_tail place most room nested i x) (λ b. tail_greedy i x b))))
      (word_greedy t.Switch (λ _. r.in_parens place most room nested (r.switched place most room nested i)) (λ _. in_parens_greedy (r.switched place most room nested i) (λ x. word_greedy t.LeftBrace (λ _. r.members place most room nested >>= λ ms. sign t.RightBrace (pure (stmt.Switch (place i) x ms)))
      (λ _. then_greedy (r.members place most room nested) (λ ms. sign t.RightBrace (pure (stmt.Switch (place i) x ms))) (λ ms. word_greedy t.RightBrace (λ _. pure (stmt.Switch (place i) x ms)) (λ _. pure_greedy (stmt.Switch (place i) x ms) (Begins.switch_dangles (place i) x ms)))))))

  for_tail_greedy : (k i : ℕ) (inits : List StmtTree) → Greedy (r.for_tail place most k nested i inits)
  unfolding r.for_tail
  for_tail_greedy k i inits = word_greedy t.Semicolon (λ _. r.maybe_value place most k >>= λ x. sign t.Semicolon (r.all_values place most k >>= λ us. sign t.RightParen (nested p.Statement >>= λ b. pure (stmt.For (place i) inits x us b))))
      (λ _. then_greedy (r.maybe_value place most k) (λ x. sign t.Semicolon (r.all_values place most k >>= λ us. sign t.RightParen (nested p.Statement >>= λ b. pure (stmt.For (place i) inits x us b))))
      (λ x. word_greedy t.Semicolon (λ _. r.all_values place most k >>= λ us. sign t.RightParen (nested p.Statement >>= λ b. pure (stmt.For (place i) inits x us b)))
      (λ _. then_greedy (r.all_values place most k) (λ us. sign t.RightParen (nested p.Statement >>= λ b. pure (stmt.For (place i) inits x us b)))
      (λ us. word_greedy t.RightParen (λ _. nested p.Statement >>= λ b. pure (stmt.For (place i) inits x us b)) (λ _. last_greedy (nested p.Statement) (stmt.For (place i) inits x us) greedy (λ b. Begins.for_dangles (place i) inits x us b))))))

  for_variables_greedy : (k i d : ℕ) (f : Bool) (ty : TypeTree) (name : NamedPlace) (m : ℕ) → Greedy (r.for_variables place most k nested i d f ty name m)
  unfolding r.for_variables
  for_variables_greedy zero i d f ty name m = over_greedy (λ _. place d)
  for_variables_greedy (suc zero) i d f ty name m = over_greedy (λ _. place m)
  for_variables_greedy (suc (suc k)) i d f ty name m = then_greedy (r.variables_behind place most k m name.name) (λ vs. r.for_tail place most (suc (suc k)) nested i (stmt.Local (place d) f ty vs ∷ [])) (λ vs. for_tail_greedy (suc (suc k)) i (stmt.Local (place d) f ty vs ∷ []))

  for_each_greedy : (i : ℕ) (f : Bool) (ty : TypeTree) (name : NamedPlace) → Greedy (r.for_each place most room nested i f ty name)
  unfolding r.for_each
  for_each_greedy i f ty name = word_greedy t.Colon (λ _. r.value place most room >>= λ x. sign t.RightParen (nested p.Statement >>= λ b. pure (stmt.ForEach (place i) f ty name x b)))
      (λ _. then_greedy (r.value place most room) (λ x. sign t.RightParen (nested p.Statement >>= λ b. pure (stmt.ForEach (place i) f ty name x b)))
      (λ x. word_greedy t.RightParen (λ _. nested p.Statement >>= λ b. pure (stmt.ForEach (place i) f ty name x b)) (λ _. last_greedy (nested p.Statement) (stmt.ForEach (place i) f ty name x) greedy (λ b. Begins.foreach_dangles (place i) f ty name x b))))

  here_greedy : (f : ℕ → Parser StmtTree) → ((i : ℕ) → Greedy (f i)) → Greedy (here f)
  here_greedy f h s i a j e = h i s i a j e

  named_greedy : (i d : ℕ) (f : Bool) (ty : TypeTree) → Greedy (r.for_named place most room nested i d f ty)
  unfolding r.for_named
  named_greedy i d f ty = here_greedy (λ m. r.name_at place most >>= λ x. choose (is t.Colon) (r.for_each place most room nested i f ty x) (r.for_variables place most room nested i d f ty x m))
      (λ m. then_greedy (r.name_at place most) (λ x. choose (is t.Colon) (r.for_each place most room nested i f ty x) (r.for_variables place most room nested i d f ty x m))
      (λ x. ahead_greedy (λ s m. is t.Colon (terminal (s m))) (r.for_each place most room nested i f ty x) (r.for_variables place most room nested i d f ty x m) (for_each_greedy i f ty x) (for_variables_greedy room i d f ty x m)))

  for_greedy : (i : ℕ) → Greedy (r.for_loop place most room nested i)
  unfolding r.for_loop r.for_declared r.for_evaluated
  for_greedy i = word_greedy t.For (λ _. sign t.LeftParen (ahead declares (r.for_declared place most room nested i) (r.for_evaluated place most room nested i)))
      (λ _. word_greedy t.LeftParen (λ _. ahead declares (r.for_declared place most room nested i) (r.for_evaluated place most room nested i))
      (λ _. ahead_greedy declares (r.for_declared place most room nested i) (r.for_evaluated place most room nested i)
      (here_greedy (λ d. r.maybe_final >>= λ f. type_at place most >>= λ ty. r.for_named place most room nested i d f ty) (λ d. then_greedy r.maybe_final (λ f. type_at place most >>= λ ty. r.for_named place most room nested i d f ty)
      (λ f. then_greedy (type_at place most) (λ ty. r.for_named place most room nested i d f ty) (λ ty. named_greedy i d f ty))))
      (ahead_greedy (λ s m. is t.Semicolon (terminal (s m))) (r.for_tail place most room nested i []) (r.evaluations place most room nested >>= r.for_tail place most room nested i) (for_tail_greedy room i [])
      (then_greedy (r.evaluations place most room nested) (r.for_tail place most room nested i) (λ es. for_tail_greedy room i es)))))

  looping_greedy : (i : ℕ) → Greedy (r.looping place most room nested i)
  unfolding r.looping r.while_loop r.do_loop
  looping_greedy i = ahead_greedy (λ s m. is t.While (terminal (s m))) (r.while_loop place most room nested i) (choose (is t.Do) (r.do_loop place most room nested i) (r.for_loop place most room nested i))
      (word_greedy t.While (λ _. r.in_parens place most room nested (λ x. nested p.Statement >>= λ b. pure (stmt.While (place i) x b))) (λ _. in_parens_greedy (λ x. nested p.Statement >>= λ b. pure (stmt.While (place i) x b))
      (λ x. last_greedy (nested p.Statement) (stmt.While (place i) x) greedy (λ b. Begins.while_dangles (place i) x b))))
      (ahead_greedy (λ s m. is t.Do (terminal (s m))) (r.do_loop place most room nested i) (r.for_loop place most room nested i)
      (word_greedy t.Do (λ _. nested p.Statement >>= λ b. sign t.While (r.in_parens place most room nested (λ x. sign t.Semicolon (pure (stmt.Do (place i) b x)))))
      (λ _. then_greedy (nested p.Statement) (λ b. sign t.While (r.in_parens place most room nested (λ x. sign t.Semicolon (pure (stmt.Do (place i) b x)))))
      (λ b. word_greedy t.While (λ _. r.in_parens place most room nested (λ x. sign t.Semicolon (pure (stmt.Do (place i) b x)))) (λ _. in_parens_greedy (λ x. sign t.Semicolon (pure (stmt.Do (place i) b x)))
      (λ x. word_greedy t.Semicolon (λ _. pure (stmt.Do (place i) b x)) (λ _. pure_greedy (stmt.Do (place i) b x) (Begins.do_dangles (place i) b x)))))))
      (for_greedy i))

  leaving_greedy : (i : ℕ) → Greedy (r.leaving place most room nested i)
  unfolding r.leaving r.jumped r.returned r.thrown
  leaving_greedy i = ahead_greedy (λ s m. among jumps (terminal (s m))) (r.jumped place most room nested i) (choose (is t.Return) (r.returned place most room nested i) (r.thrown place most room nested i))
      (operator_greedy (among jumps) (λ v. r.maybe_name place most >>= λ l. sign t.Semicolon (pure (jump (terminal v) (place i) l))) (λ v. then_greedy (r.maybe_name place most) (λ l. sign t.Semicolon (pure (jump (terminal v) (place i) l)))
      (λ l. word_greedy t.Semicolon (λ _. pure (jump (terminal v) (place i) l)) (λ _. pure_greedy (jump (terminal v) (place i) l) (Begins.jump_dangles (terminal v) (place i) l)))))
      (ahead_greedy (λ s m. is t.Return (terminal (s m))) (r.returned place most room nested i) (r.thrown place most room nested i)
      (word_greedy t.Return (λ _. r.maybe_value place most room >>= λ x. sign t.Semicolon (pure (stmt.Return (place i) x))) (λ _. then_greedy (r.maybe_value place most room) (λ x. sign t.Semicolon (pure (stmt.Return (place i) x)))
      (λ x. word_greedy t.Semicolon (λ _. pure (stmt.Return (place i) x)) (λ _. pure_greedy (stmt.Return (place i) x) (Begins.return_dangles (place i) x)))))
      (word_greedy t.Throw (λ _. r.value place most room >>= λ x. sign t.Semicolon (pure (stmt.Throw (place i) x))) (λ _. then_greedy (r.value place most room) (λ x. sign t.Semicolon (pure (stmt.Throw (place i) x)))
      (λ x. word_greedy t.Semicolon (λ _. pure (stmt.Throw (place i) x)) (λ _. pure_greedy (stmt.Throw (place i) x) (Begins.throw_dangles (place i) x))))))

  -- a statement that ends with a block
  closed_greedy : (f : StmtTree → StmtTree) → ((b : StmtTree) → dangles (f b) ≡ false) → Greedy (nested p.Block >>= λ b. pure (f b))
  closed_greedy f never = then_greedy (nested p.Block) (λ b. pure (f b)) (λ b. pure_greedy (f b) (never b))

  locked_greedy : (i : ℕ) → Greedy (r.locked place most room nested i)
  unfolding r.locked r.class_lock r.object_lock
  locked_greedy i = word_greedy t.Synchronized (λ _. sign t.LeftParen (ahead is_class_lock (r.class_lock place most room nested i) (r.object_lock place most room nested i)))
      (λ _. word_greedy t.LeftParen (λ _. ahead is_class_lock (r.class_lock place most room nested i) (r.object_lock place most room nested i))
      (λ _. ahead_greedy is_class_lock (r.class_lock place most room nested i) (r.object_lock place most room nested i)
      (then_greedy (r.name_at place most) (λ x. sign t.Dot (sign t.Class (sign t.RightParen (nested p.Block >>= λ b. pure (stmt.SynchronizedClass (place i) x b)))))
      (λ x. word_greedy t.Dot (λ _. sign t.Class (sign t.RightParen (nested p.Block >>= λ b. pure (stmt.SynchronizedClass (place i) x b)))) (λ _. word_greedy t.Class (λ _. sign t.RightParen (nested p.Block >>= λ b. pure (stmt.SynchronizedClass (place i) x b)))
      (λ _. word_greedy t.RightParen (λ _. nested p.Block >>= λ b. pure (stmt.SynchronizedClass (place i) x b)) (λ _. closed_greedy (stmt.SynchronizedClass (place i) x) (λ b. Begins.synchronizedclass_dangles (place i) x b))))))
      (then_greedy (r.value place most room) (λ x. sign t.RightParen (nested p.Block >>= λ b. pure (stmt.Synchronized (place i) x b)))
      (λ x. word_greedy t.RightParen (λ _. nested p.Block >>= λ b. pure (stmt.Synchronized (place i) x b)) (λ _. closed_greedy (stmt.Synchronized (place i) x) (λ b. Begins.synchronized_dangles (place i) x b))))))

  finally_greedy : (i : ℕ) (b : StmtTree) (cs : List StmtTree) → Greedy (r.finally place most room nested i b cs)
  unfolding r.finally
  finally_greedy i b cs = word_greedy t.Finally (λ _. nested p.Block >>= λ f. pure (stmt.TryFinally (place i) b cs f)) (λ _. closed_greedy (stmt.TryFinally (place i) b cs) (λ f. Begins.tryfinally_dangles (place i) b cs f))

  pick_greedy : (b : Bool) (x y : Parser StmtTree) → Greedy x → Greedy y → Greedy (cond b x y)
  pick_greedy true x y h k = h
  pick_greedy false x y h k = k

  tried_greedy : (i : ℕ) → Greedy (r.tried place most room nested i)
  unfolding r.tried r.try_tail
  tried_greedy i = word_greedy t.Try (λ _. nested p.Block >>= λ b. r.catches place most room nested >>= r.try_tail place most room nested i b)
      (λ _. then_greedy (nested p.Block) (λ b. r.catches place most room nested >>= r.try_tail place most room nested i b) (λ b. then_greedy (r.catches place most room nested) (r.try_tail place most room nested i b)
      (λ cs. pick_greedy (is_empty cs) (r.finally place most room nested i b cs) (choose (is t.Finally) (r.finally place most room nested i b cs) (pure (stmt.Try (place i) b cs))) (finally_greedy i b cs)
      (ahead_greedy (λ s m. is t.Finally (terminal (s m))) (r.finally place most room nested i b cs) (pure (stmt.Try (place i) b cs)) (finally_greedy i b cs) (pure_greedy (stmt.Try (place i) b cs) (Begins.try_dangles (place i) b cs))))))

  guarding_greedy : (i : ℕ) → Greedy (r.guarding place most room nested i)
  unfolding r.guarding
  guarding_greedy i = ahead_greedy (λ s m. is t.Synchronized (terminal (s m))) (r.locked place most room nested i) (r.tried place most room nested i) (locked_greedy i) (tried_greedy i)

  labelled_greedy : (i : ℕ) → Greedy (r.labelled place most room nested i)
  unfolding r.labelled
  labelled_greedy i = word_greedy t.Word (λ v. sign t.Colon (nested p.Statement >>= λ b. pure (stmt.Labelled (place i) v b))) (λ v. word_greedy t.Colon (λ _. nested p.Statement >>= λ b. pure (stmt.Labelled (place i) v b))
      (λ _. last_greedy (nested p.Statement) (stmt.Labelled (place i) v) greedy (λ b. Begins.labelled_dangles (place i) v b)))

  evaluate_greedy : Greedy (r.evaluate place most room nested)
  unfolding r.evaluate r.evaluation
  evaluate_greedy s i a j e h =
      let w = and_then_found (r.evaluation place most room s i) (λ a k. sign t.Semicolon (pure a) s k) a j e in
      let d = (evaluation_laws place most given room).sound s i w.0 w.1 w.2 in
      word_greedy t.Semicolon (λ _. pure w.0) (λ _. pure_greedy w.0 (evaluation_never s d)) s w.1 a j w.3 h

  block_greedy : Greedy (r.block place most room nested)
  unfolding r.block r.rest_of_block
  block_greedy = here_greedy (λ i. sign t.LeftBrace (r.rest_of_block place most room nested i [])) (λ i. word_greedy t.LeftBrace (λ _. r.rest_of_block place most room nested i [])
      (λ _. then_greedy (loop most inside (r.next_statement place most room nested) []) (λ all. here (λ m. sign t.RightBrace (pure (stmt.Block (place i) all (place m)))))
      (λ all. here_greedy (λ m. sign t.RightBrace (pure (stmt.Block (place i) all (place m)))) (λ m. word_greedy t.RightBrace (λ _. pure (stmt.Block (place i) all (place m))) (λ _. pure_greedy (stmt.Block (place i) all (place m)) (Begins.block_dangles (place i) all (place m)))))))

  empty_greedy : (i : ℕ) → Greedy (r.empty place most room nested i)
  unfolding r.empty
  empty_greedy i = word_greedy t.Semicolon (λ _. pure (stmt.Empty (place i))) (λ _. pure_greedy (stmt.Empty (place i)) (Begins.empty_dangles (place i)))

  choose_greedy : (test : Terminal → Bool) (x y : Parser StmtTree) → Greedy x → Greedy y → Greedy (choose test x y)
  choose_greedy test x y h k = ahead_greedy (λ s m. test (terminal (s m))) x y h k

  pub statement_greedy : Greedy (r.statement place most room nested)
  unfolding r.statement
  statement_greedy = here_greedy (λ i. choose (is t.LeftBrace) (r.block place most room nested) (choose (is t.Semicolon) (r.empty place most room nested i) (choose (among branch_words) (r.branching place most room nested i) (choose (among loop_words) (r.looping place most room nested i)
      (choose (among leave_words) (r.leaving place most room nested i) (choose (among guard_words) (r.guarding place most room nested i) (ahead is_labelled (r.labelled place most room nested i) (r.evaluate place most room nested))))))))
      (λ i. choose_greedy (is t.LeftBrace) _ _ block_greedy (choose_greedy (is t.Semicolon) _ _ (empty_greedy i) (choose_greedy (among branch_words) _ _ (branching_greedy i) (choose_greedy (among loop_words) _ _ (looping_greedy i)
      (choose_greedy (among leave_words) _ _ (leaving_greedy i) (choose_greedy (among guard_words) _ _ (guarding_greedy i) (ahead_greedy is_labelled (r.labelled place most room nested i) (r.evaluate place most room nested) (labelled_greedy i) evaluate_greedy)))))))
