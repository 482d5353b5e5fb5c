-- The laws of what is nested, at every depth, and of statements up to the end of a text.
use Rattle.std.proofs.Common.{◌≡◌, ◌≢◌, ℕ, zero, suc, ◌≤◌, inl, true, false, refl, sym, ap, ◌∙◌, subst, arith, List, [], ◌∷◌, ◌++◌, Option}
use Rattle.bj_base.specs.declared.span.Span.{Span}
use Rattle.bj_expr_tree.specs.declared.types.NamedPlace.{NamedPlace}
use Rattle.bj_tree.specs.declared.stmt.StmtTree.{StmtTree}
use Rattle.bj_tree.specs.declared.stmt.StmtTree.TheVariants as stmt
use Rattle.bj_grammar.specs.declared.terminal.Terminal.{Terminal}
use Rattle.bj_grammar.specs.declared.terminal.Terminal.TheVariants as t
use Rattle.bj_grammar.specs.Terminal.{terminal, same_terminal, among}
use Rattle.bj_grammar.specs.Reader.{Text}
use Rattle.bj_grammar.proofs.Laws.{Rel, Shape, Laws, Then, Same, Steps, done, pure_laws, over_laws, steps_end, steps_fold, seq, renamed, rep_by}
use Rattle.bj_expr.specs.Grammar as ge
use Rattle.bj_expr.specs.Grammar.{primitives, type_words, TypeAt, Dims, Expression}
use Rattle.bj_stmt.specs.declared.part.StmtPart.{StmtPart}
use Rattle.bj_stmt.specs.declared.part.StmtPart.TheVariants as p
use Rattle.bj_stmt.specs.Grammar as g
use Rattle.bj_stmt.specs.Grammar.{is_statement, jump, jumps, dangles, MaybeFinal, MaybeInit, MaybeExpression, MaybeExpressions, MaybeName, Variables, Declaration, Evaluation, Evaluations, ForInit, Statement, Block, BlockStatements, BlockStatement, Members, Member, Label, Catches, Catch, ConstructorCall, ConstructorBody}
use Rattle.bj_stmt.specs.Reading as r
use Rattle.bj_stmt.specs.Reading.{declares, is_labelled, is_class_lock, is_constructor_call, constructors, inside, is_empty, branch_words, loop_words, leave_words, guard_words}
use Rattle.bj_stmt.specs.Nodes.{stmt_nodes_at, StmtHasNode, SomeStmtHasNode}
use Rattle.bj_stmt.proofs.Expressions.{Given}
use Rattle.bj_stmt.proofs.StmtNodeForms as forms
use Rattle.bj_stmt.proofs.StmtTall as tall
use Rattle.bj_stmt.proofs.StmtShape.{block_forward, block_statement_forward, member_forward, catch_forward}
use Rattle.bj_stmt.proofs.Leftmost.{none_of}
use Rattle.bj_stmt.proofs.Begins.{no_follow, First, member_first}
use Rattle.bj_stmt.proofs.Starts.{block_statement_begins, block_member_word, is_on_line}
use Rattle.bj_stmt.proofs.Ahead.{goes_on}
use Rattle.bj_stmt.proofs.Small.{same_after, evaluation_laws, constructor_call_laws, label_laws, Any, Before}
use Rattle.bj_stmt.specs.Reading.{nested, statements_within, on_line}
use Rattle.bj_stmt.specs.Grammar.{SomeStatements}
use Rattle.bj_stmt.proofs.Rules.{StandsAs, AfterPart, InBlock, in_block, Greedy, over_greedy}
use Rattle.bj_stmt.proofs.StmtLaws.{rule_laws, statement_greedy}
use Rattle.bj_stmt.proofs.StmtShape.{statement_forward, statement_frame, block_frame, block_statement_frame, member_frame, catch_frame, constructor_body_forward, constructor_body_frame}
use Rattle.bj_grammar.proofs.Laws.{Completes}
use Rattle.bj_stmt.proofs.Ahead.{Row, Tokens}

module _ (place : ℕ → Span) (most : ℕ) (given : Given place most) where
  -- ---- each part can stand at each place

  some_by : (D : Rel StmtTree) (ks : List Terminal) → Tokens ks → ((v : Text) (i j : ℕ) → Row ks v 0 i j → (a : StmtTree) × (k : ℕ) × (i ≤ k) × D v a i k) → (s : Text) (i : ℕ) → Completes D s i i
  some_by D ks real f s i =
      let c = goes_on s i ks real in
      let d = f c.0 i c.2.0 c.2.1 in
      record { text = c.0; tree = d.0; after = d.1; same = c.1; beyond = d.2; stands = d.3 }

  some_empty : (v : Text) (i j : ℕ) → Row (t.Semicolon ∷ []) v 0 i j → Statement place v (stmt.Empty (place i)) i (suc i)
  some_empty v i j d = g.empty d.kind refl refl

  some_block : (v : Text) (i j : ℕ) → Row (t.LeftBrace ∷ t.RightBrace ∷ []) v 0 i j → Block place v (stmt.Block (place i) [] (place (suc i))) i (suc (suc i))
  some_block v i j d = g.braces d.kind (g.no_statements refl refl) d.rest.kind refl refl

  some_label : (v : Text) (i j : ℕ) → Row (t.Default ∷ t.Colon ∷ []) v 0 i j → Label place v (stmt.Default (place i)) i (suc (suc i))
  some_label v i j d = g.default d.kind d.rest.kind refl refl

  int_type : among ge.type_words t.Int ≡ true
  unfolding same_terminal
  int_type = refl

  is_int : (x : Terminal) → x ≡ t.Int → among ge.type_words x ≡ true
  is_int x e = ap (among ge.type_words) e ∙ int_type

  some_catch : (v : Text) (i j : ℕ) → Row (t.Catch ∷ t.LeftParen ∷ t.Int ∷ t.Word ∷ t.RightParen ∷ t.LeftBrace ∷ t.RightBrace ∷ []) v 0 i j → (a : StmtTree) × Catch place v a i (suc (suc (suc (suc (suc (suc (suc i)))))))
  some_catch v i j d =
      let w = d.rest.rest in (
        stmt.Catch (place i) false (ge.type_tree (place (suc (suc i))) (v (suc (suc i))) 0 ∷ []) (g.named (place (suc (suc (suc i)))) (v (suc (suc (suc i))))) (stmt.Block (place (suc (suc (suc (suc (suc i)))))) [] (place (suc (suc (suc (suc (suc (suc i)))))))),
        g.catch d.kind d.rest.kind (g.not_final refl refl) (ge.named (is_int (terminal (v (suc (suc i)))) w.kind) (ge.no_pair refl refl) refl) w.rest.kind w.rest.rest.kind (g.braces w.rest.rest.rest.kind (g.no_statements refl refl) w.rest.rest.rest.rest.kind refl refl) refl,
      )

  abbrev ShapeOf : StmtPart → Type 0
  ShapeOf x = Shape (StandsAs x place)

  shape_of : (x : StmtPart) → Shape (StandsAs x place)
  shape_of p.Statement = record {
    forward = λ s a i j d. let h = statement_forward place most given s d in omega arith;
    frame = λ s v a i j e d. statement_frame place most given s v e d;
    some = some_by (λ s a i j. Statement place s a i j) (t.Semicolon ∷ []) (refl, tt) (λ v i j d. (stmt.Empty (place i), suc i, (let h : i ≤ suc i = omega arith in h), some_empty v i j d));
  }
  shape_of p.BlockStatement = record {
    forward = λ s a i j d. let h = block_statement_forward place most given s d in omega arith;
    frame = λ s v a i j e d. block_statement_frame place most given s v e d;
    some = some_by (λ s a i j. BlockStatement place s a i j) (t.Semicolon ∷ []) (refl, tt) (λ v i j d. (stmt.Empty (place i), suc i, (let h : i ≤ suc i = omega arith in h), g.statement (some_empty v i j d)));
  }
  shape_of p.Member = record {
    forward = λ s a i j d. let h = member_forward place most given s d in omega arith;
    frame = λ s v a i j e d. member_frame place most given s v e d;
    some = some_by (λ s a i j. Member place s a i j) (t.Semicolon ∷ []) (refl, tt) (λ v i j d. (stmt.Empty (place i), suc i, (let h : i ≤ suc i = omega arith in h), g.in_group (g.statement (some_empty v i j d))));
  }
  shape_of p.Block = record {
    forward = λ s a i j d. let h = block_forward place most given s d in omega arith;
    frame = λ s v a i j e d. block_frame place most given s v e d;
    some = some_by (λ s a i j. Block place s a i j) (t.LeftBrace ∷ t.RightBrace ∷ []) (refl, (refl, tt)) (λ v i j d. (stmt.Block (place i) [] (place (suc i)), suc (suc i), (let h : i ≤ suc (suc i) = omega arith in h), some_block v i j d));
  }
  shape_of p.ConstructorBody = record {
    forward = λ s a i j d. let h = constructor_body_forward place most given s d in omega arith;
    frame = λ s v a i j e d. constructor_body_frame place most given s v e d;
    some = some_by (λ s a i j. ConstructorBody place s a i j) (t.LeftBrace ∷ t.RightBrace ∷ []) (refl, (refl, tt)) (λ v i j d. (stmt.Block (place i) [] (place (suc i)), suc (suc i), (let h : i ≤ suc (suc i) = omega arith in h), g.plain_body (some_block v i j d)));
  }
  shape_of p.Label = (label_laws place most given 0 Any).shape
  shape_of p.Evaluation = (evaluation_laws place most given 0).shape
  shape_of p.ConstructorCall = (constructor_call_laws place most given 0).shape
  shape_of p.Catch = record {
    forward = λ s a i j d. let h = catch_forward place most given s d in omega arith;
    frame = λ s v a i j e d. catch_frame place most given s v e d;
    some = some_by (λ s a i j. Catch place s a i j) (t.Catch ∷ t.LeftParen ∷ t.Int ∷ t.Word ∷ t.RightParen ∷ t.LeftBrace ∷ t.RightBrace ∷ []) (refl, (refl, (refl, (refl, (refl, (refl, (refl, tt)))))))
        (λ v i j d. let w = some_catch v i j d in (w.0, suc (suc (suc (suc (suc (suc (suc i)))))), (let h : i ≤ suc (suc (suc (suc (suc (suc (suc i)))))) = omega arith in h), w.1));
  }

  -- ---- the root of each is a node at its first token

  high_block : (s : Text) {a : StmtTree} {i j : ℕ} → Block place s a i j → StmtHasNode 1 (place i) a
  high_block s {i = i} (g.braces {b = b} {m = m} o d c e at) = tall.rooted (place i) _ _ e (forms.block_root (place i) b (place m))

  high_evaluation : (s : Text) {a : StmtTree} {i j : ℕ} → Evaluation place s a i j → StmtHasNode 1 (place i) a
  high_evaluation s {i = i} (g.evaluation {x = v} d e) = tall.rooted (place i) _ _ e (forms.expression_root (place i) v)

  jump_root : (k : Terminal) (at : Span) (label : Option NamedPlace) → stmt_nodes_at (jump k at label) 0 ≡ at ∷ []
  jump_root t.Break at label = forms.break_root at label
  jump_root _ at label = forms.continue_root at label

  high_statement : (s : Text) {a : StmtTree} {i j : ℕ} → Statement place s a i j → StmtHasNode 1 (place i) a
  high_statement s (g.block d) = high_block s d
  high_statement s {i = i} (g.empty o e at) = tall.rooted (place i) _ _ e (forms.empty_root (place i))
  high_statement s (g.evaluate d o at) = high_evaluation s d
  high_statement s {i = i} (g.choice {x = v} {b = b} o q d c body e) = tall.rooted (place i) _ _ e (forms.if_root (place i) v b)
  high_statement s {i = i} (g.choice_else {x = v} {b = b} {c = c} o q d p2 body h o2 b2 e) = tall.rooted (place i) _ _ e (forms.ifelse_root (place i) v b c)
  high_statement s {i = i} (g.while {x = v} {b = b} o q d c body e) = tall.rooted (place i) _ _ e (forms.while_root (place i) v b)
  high_statement s {i = i} (g.do_while {b = b} {x = v} o body o2 q d c e2 e at) = tall.rooted (place i) _ _ e (forms.do_root (place i) b v)
  high_statement s {i = i} (g.for {inits = inits} {x = v} {us = us} {b = b} o q n q1 d q2 us2 c body e) = tall.rooted (place i) _ _ e (forms.for_root (place i) inits v us b)
  high_statement s {i = i} (g.for_each {f = f} {ty = ty} {x = v} {b = b} {m = m} o q fin typ w k d c body e) = tall.rooted (place i) _ _ e (forms.foreach_root (place i) f ty (g.named (place m) (s m)) v b)
  high_statement s {i = i} (g.switch {x = v} {ms = ms} o q d c l members e2 e at) = tall.rooted (place i) _ _ e (forms.switch_root (place i) v ms)
  high_statement s {i = i} (g.labelled {b = b} o k body e) = tall.rooted (place i) _ _ e (forms.labelled_root (place i) (s i).text b)
  high_statement s {i = i} (g.jump_to {l = l} o d q e at) = tall.rooted (place i) _ _ e (jump_root (terminal (s i)) (place i) l)
  high_statement s {i = i} (g.return {x = v} o d q e at) = tall.rooted (place i) _ _ e (forms.return_root (place i) v)
  high_statement s {i = i} (g.throw {x = v} o d q e at) = tall.rooted (place i) _ _ e (forms.throw_root (place i) v)
  high_statement s {i = i} (g.synchronized {x = v} {b = b} o q d c body e) = tall.rooted (place i) _ _ e (forms.synchronized_root (place i) v b)
  high_statement s {i = i} (g.synchronized_class {b = b} o q w k l c body e) = tall.rooted (place i) _ _ e (forms.synchronizedclass_root (place i) (g.named (place (suc (suc i))) (s (suc (suc i)))) b)
  high_statement s {i = i} (g.try {b = b} {cs = cs} o d c h e) = tall.rooted (place i) _ _ e (forms.try_root (place i) b cs)
  high_statement s {i = i} (g.try_finally {b = b} {cs = cs} {f = f} o d c o2 fin e) = tall.rooted (place i) _ _ e (forms.tryfinally_root (place i) b cs f)

  high_block_statement : (s : Text) {a : StmtTree} {i j : ℕ} → BlockStatement place s a i j → StmtHasNode 1 (place i) a
  high_block_statement s {i = i} (g.local (g.declaration {f = f} {ty = ty} {vs = vs} o d v e) q at) = tall.rooted (place i) _ _ e (forms.local_root (place i) f ty vs)
  high_block_statement s (g.statement d) = high_statement s d

  high_label : (s : Text) {a : StmtTree} {i j : ℕ} → Label place s a i j → StmtHasNode 1 (place i) a
  high_label s {i = i} (g.case {x = v} o d c e at) = tall.rooted (place i) _ _ e (forms.case_root (place i) v)
  high_label s {i = i} (g.default o c e at) = tall.rooted (place i) _ _ e (forms.default_root (place i))

  high_part : (x : StmtPart) (s : Text) (a : StmtTree) (i j : ℕ) → StandsAs x place s a i j → StmtHasNode 1 (place i) a
  high_part p.Statement s a i j d = high_statement s d
  high_part p.BlockStatement s a i j d = high_block_statement s d
  high_part p.Block s a i j d = high_block s d
  high_part p.Member s a i j (g.label d) = high_label s d
  high_part p.Member s a i j (g.in_group d) = high_block_statement s d
  high_part p.Label s a i j d = high_label s d
  high_part p.Catch s a i j (g.catch {f = f} {ty = ty} {b = b} {m = m} o q fin typ w c d e) = tall.rooted (place i) _ _ e (forms.catch_root (place i) f (ty ∷ []) (g.named (place m) (s m)) b)
  high_part p.Evaluation s a i j d = high_evaluation s d
  high_part p.ConstructorCall s a i j (g.of_this {xs = xs} o q d c q2 e at) = tall.rooted (place i) _ _ e (forms.constructorcall_root (place i) false xs)
  high_part p.ConstructorCall s a i j (g.of_super {xs = xs} o q d c q2 e at) = tall.rooted (place i) _ _ e (forms.constructorcall_root (place i) true xs)
  high_part p.ConstructorBody s a i j (g.plain_body d) = high_block s d
  high_part p.ConstructorBody s a i j (g.calling_body {c = c} {b = b} {m = m} o d e q tree at) = tall.rooted (place i) _ _ tree (forms.block_root (place i) (c ∷ b) (place m))

  -- ---- every depth

  pub record Depth (n : ℕ) : Type 0 where
    pub parts : (x : StmtPart) → Laws most (nested place most n x) (StandsAs x place) (AfterPart x) (StmtHasNode (suc n))
    pub greedy : Greedy (nested place most n p.Statement)

  pub depth : (n : ℕ) → Depth n
  unfolding nested r.rule
  depth zero = record { parts = λ x. over_laws most place (StandsAs x place) (AfterPart x) (StmtHasNode 1) (shape_of x) (λ s a i j d. inl (high_part x s a i j d)); greedy = over_greedy place }
  depth (suc n) = let d = depth n in record { parts = λ x. rule_laws place most given n (nested place most n) d.parts d.greedy x; greedy = statement_greedy place most given n (nested place most n) d.parts d.greedy }

  -- ---- statements up to the end of the text

  module _ (room : ℕ) where
    abbrev TallList : Span → List StmtTree → Type 0
    TallList = SomeStmtHasNode (suc room)

    parts : (x : StmtPart) → Laws most (nested place most room x) (StandsAs x place) (AfterPart x) (StmtHasNode (suc room))
    parts = (depth room).parts

    abbrev One : Rel (List StmtTree)
    One = Then (λ s a i j. BlockStatement place s a i j) (λ c. Same (c ∷ []))

    abbrev StmtStep : List StmtTree → Rel (List StmtTree)
    StmtStep b = Then (λ s a i j. BlockStatement place s a i j) (λ c. Same (b ++ c ∷ []))

    abbrev SomeRel : Rel (List StmtTree)
    SomeRel = λ s a i j. SomeStatements place s a i j

    not_empty : (b : List StmtTree) (c : StmtTree) → b ++ c ∷ [] ≢ []
    not_empty [] c e = absurd (cc)
    not_empty (x ∷ b) c e = absurd (cc)

    abbrev Both : Rel (List StmtTree)
    Both s a i j = BlockStatements place s a i j × (a ≢ [])

    to_some : (s : Text) (a : List StmtTree) (i j : ℕ) → Then One (λ b v c m k. Steps StmtStep v b c m k) s a i j → SomeStatements place s a i j
    to_some s a i j d =
        let w = steps_fold StmtStep Both s i
        (λ b c m k h o. (g.next_statement h.0 (subst (λ (z : ℕ). BlockStatement place s o.part m z) (sym o.rest.at) o.first) o.rest.tree, (λ e. not_empty b o.part (sym o.rest.tree ∙ e))))
        d.part a d.at j
        (g.next_statement {b = []} (g.no_statements refl refl) (subst (λ (z : ℕ). BlockStatement place s d.first.part i z) (sym d.first.rest.at) d.first.first) d.first.rest.tree, (λ e. not_empty [] d.first.part (sym d.first.rest.tree ∙ e))) d.rest in
        g.some_statements w.0 w.1

    from_list : (s : Text) {a : List StmtTree} {i j : ℕ} → BlockStatements place s a i j → a ≢ [] → Then One (λ b v c m k. Steps StmtStep v b c m k) s a i j
    from_list s (g.no_statements e at) some = absurd (some e)
    from_list s {a} {i} {j} (g.next_statement {b = []} {c = c} {m = m} (g.no_statements e0 at0) x e) some = record { part = a; at = j; first = record { part = c; at = j; first = subst (λ (z : ℕ). BlockStatement place s c z j) at0 x; rest = record { tree = e; at = refl } }; rest = done refl refl }
    from_list s {a} {i} {j} (g.next_statement {b = []} (g.next_statement {b = b2} {c = c2} d y e2) x e) some = absurd (not_empty b2 c2 (sym e2))
    from_list s {a} {i} {j} (g.next_statement {b = b1 ∷ bs} {c = c} {m = m} d x e) some =
        let v = from_list s d (λ h. cons_not (b1) bs h) in
        record { part = v.part; at = v.at; first = v.first; rest = steps_end StmtStep s v.part (b1 ∷ bs) a v.at m j v.rest (record { part = c; at = j; first = x; rest = record { tree = e; at = refl } }) }
      where
        cons_not : (x : StmtTree) (xs : List StmtTree) → x ∷ xs ≢ []
        cons_not x xs e = absurd (cc)

    from_some : (s : Text) (a : List StmtTree) (i j : ℕ) → SomeStatements place s a i j → Then One (λ b v c m k. Steps StmtStep v b c m k) s a i j
    from_some s a i j (g.some_statements d some) = from_list s d some

    end_facts : (among no_follow t.Other ≡ false) × (on_line t.Other ≡ false)
    unfolding same_terminal
    end_facts = (refl, refl)

    first_of_step : (s : Text) (x a : List StmtTree) (i j : ℕ) → StmtStep x s a i j → First (terminal (s i))
    first_of_step s x a i j d = member_first (terminal (s i)) (block_member_word (terminal (s i)) (block_statement_begins place most given s d.first))

    pub some_laws : Laws most (statements_within place most room) SomeRel (Before t.Other) TallList
    unfolding statements_within
    some_laws = renamed SomeRel (Before t.Other)
        (rep_by {Q = StmtStep} {E = InBlock} on_line
        (seq (parts p.BlockStatement) (λ c. pure_laws most (c ∷ []) InBlock TallList) (λ s c m a j d last. in_block c _ (same_after (λ y. among no_follow y ≡ false) s (c ∷ []) a m j d last)) (λ s c m a j d at h. tall.tall_one stmt_nodes_at room c a d.tree h))
        (λ b. seq (parts p.BlockStatement) (λ c. pure_laws most (b ++ c ∷ []) InBlock TallList) (λ s c m a j d last. in_block c _ (same_after (λ y. among no_follow y ≡ false) s (b ++ c ∷ []) a m j d last)) (λ s c m a j d at h. tall.tall_end stmt_nodes_at room b c a d.tree h))
        (λ s x a i j d. is_on_line _ (first_of_step s x a i j d).1.1)
        (λ s x a i j d. let h = block_statement_forward place most given s d.first in let e = d.rest.at in omega arith)
        (λ s x a i j d. (first_of_step s x a i j d).1.0)
        (λ s x a i j d at h. tall.tall_before stmt_nodes_at room x d.part a d.rest.tree h))
        to_some from_some (λ a x e. (none_of no_follow x t.Other e end_facts.0, ap on_line e ∙ end_facts.1))
