-- Printed statements are found again: by induction on how they stand where they were read.
use Rattle.std.proofs.Common.{◌≡◌, ℕ, suc, List, refl, sym, subst}
use Rattle.bj_base.specs.declared.span.Span.{Span}
use Rattle.bj_tree.specs.declared.stmt.StmtTree.{StmtTree}
use Rattle.bj_grammar.specs.Terminal.{terminal}
use Rattle.bj_grammar.specs.Reader.{Text}
use Rattle.bj_stmt.specs.Grammar as g
use Rattle.bj_stmt.specs.Grammar.{named, jump, Statement, Block, BlockStatements, BlockStatement, Members, Member, Label, Catches, Catch, ConstructorCall, ConstructorBody, SomeStatements}
use Rattle.bj_print.specs.Same.{unplaced_stmt}
use Rattle.bj_layout.specs.Stmts.{stmt_pieces}
use Rattle.bj_print.proofs.ExprLaws.{ExprLaws}
use Rattle.bj_print.proofs.StmtLaws.{StmtLaws}
use Rattle.bj_print.proofs.SmallBack as small
use Rattle.bj_print.proofs.StmtBack as plain
use Rattle.bj_print.proofs.StmtBack.{FoundStmt, FoundStmts, with_semicolon, in_a_line, not_empty}
use Rattle.bj_print.proofs.NestedBack as nested
use Rattle.bj_print.proofs.Again.{reads_as, lifted}
use Rattle.bj_print.proofs.RowBack.{empty_row, one_row, longer_row}

-- what is the tree of a form is found as that form
formed : {t : Text} {D : StmtTree → ℕ → ℕ → Type 0} {a b : StmtTree} → a ≡ b → FoundStmt t D b → FoundStmt t D a
formed {t} {D} is f = subst (FoundStmt t D) (sym is) f

module _ (place : ℕ → Span) (s : Text) (other : ℕ → Span) (t : Text) (laws : ExprLaws place s other t) where
  label_found : {a : StmtTree} {i j : ℕ} → Label place s a i j → FoundStmt t (Label other t) a
  label_found {i = i} (g.case {x} o d q is end) = formed is (plain.case_case other t (place i) x (small.expression_found place s other t laws d))
  label_found {i = i} (g.default o q is end) = formed is (plain.default_case other t (place i))

  mutual
    statement_found : {a : StmtTree} {i j : ℕ} → Statement place s a i j → FoundStmt t (Statement other t) a
    statement_found (g.block d) = lifted (λ x k j. g.block) (block_found d)
    statement_found {i = i} (g.empty o is end) = formed is (plain.empty_case other t (place i))
    statement_found (g.evaluate d o end) = with_semicolon (λ x k m j d o is. g.evaluate d o is) (small.evaluation_end place s other t laws d) (small.evaluation_found place s other t laws d)
    statement_found {i = i} (g.choice {x} {b} o1 o2 d o3 f is) = formed is (nested.if_case other t (place i) x b (small.expression_found place s other t laws d) (statement_found f))
    statement_found {i = i} (g.choice_else {x} {b} {c} o1 o2 d o3 f near o4 h is) = formed is
        (nested.if_else_case other t (place i) x b c near (small.expression_found place s other t laws d) (statement_found f) (statement_found h))
    statement_found {i = i} (g.while {x} {b} o1 o2 d o3 f is) = formed is (nested.while_case other t (place i) x b (small.expression_found place s other t laws d) (statement_found f))
    statement_found {i = i} (g.do_while {b} {x} o1 f o2 o3 d o4 o5 is end) = formed is (nested.do_case other t (place i) b x (statement_found f) (small.expression_found place s other t laws d))
    statement_found {i = i} (g.for {inits} {x} {us} {b} o1 o2 begin o3 test o4 update o5 f is) = formed is
        (nested.for_case other t (place i) inits x us b (small.for_init_found place s other t laws begin) (small.maybe_expression_found place s other t laws test)
        (small.maybe_expressions_found place s other t laws update) (statement_found f))
    statement_found {i = i} (g.for_each {f} {ty} {x} {b} {m} o1 o2 may_final of_type o3 o4 d o5 body is) = formed is
        (nested.for_each_case other t (place i) (place m) f ty (s m) x b (small.type_found place s other t laws of_type) (small.expression_found place s other t laws d) (statement_found body))
    statement_found {i = i} (g.switch {x} {ms} o1 o2 d o3 o4 f o5 is end) = formed is (nested.switch_case other t (place i) x ms (small.expression_found place s other t laws d) (members_found f))
    statement_found {i = i} (g.labelled {b} o1 o2 f is) = formed is (nested.labelled_case other t (place i) (s i).text b (statement_found f))
    statement_found {i = i} (g.jump_to {l} o d o2 is end) = formed is (plain.jump_case other t (terminal (s i)) o (place i) l (small.maybe_name_found place s other t laws d))
    statement_found {i = i} (g.return {x} o d o2 is end) = formed is (plain.return_case other t (place i) x (small.maybe_expression_found place s other t laws d))
    statement_found {i = i} (g.throw {x} o d o2 is end) = formed is (plain.throw_case other t (place i) x (small.expression_found place s other t laws d))
    statement_found {i = i} (g.synchronized {x} {b} o1 o2 d o3 f is) = formed is (nested.synchronized_case other t (place i) x b (small.expression_found place s other t laws d) (block_found f))
    statement_found {i = i} (g.synchronized_class {b} o1 o2 o3 o4 o5 o6 f is) = formed is
        (nested.synchronized_class_case other t (place i) (place (suc (suc i))) (s (suc (suc i))) b (block_found f))
    statement_found {i = i} (g.try {b} {cs} o f cd some is) = formed is (nested.try_case other t (place i) b cs some (block_found f) (catches_found cd))
    statement_found {i = i} (g.try_finally {b} {cs} {f} o d cd o2 last is) = formed is (nested.try_finally_case other t (place i) b cs f (block_found d) (catches_found cd) (block_found last))

    block_found : {a : StmtTree} {i j : ℕ} → Block place s a i j → FoundStmt t (Block other t) a
    block_found {i = i} (g.braces {b} {m} o d o2 is end) = formed is (plain.block_case other t (place i) (place m) b (statements_found d))

    statements_found : {a : List StmtTree} {i j : ℕ} → BlockStatements place s a i j → FoundStmts t (BlockStatements other t) a
    statements_found (g.no_statements is end) = empty_row t unplaced_stmt stmt_pieces (BlockStatement other t) (BlockStatements other t) (λ k j end. g.no_statements refl end) is
    statements_found (g.next_statement d f is) = longer_row t unplaced_stmt stmt_pieces (BlockStatement other t) (BlockStatements other t)
        (λ xs y k m j same d f. g.next_statement d f refl) (statements_found d) (block_statement_found f) is

    block_statement_found : {a : StmtTree} {i j : ℕ} → BlockStatement place s a i j → FoundStmt t (BlockStatement other t) a
    block_statement_found (g.local d o end) = with_semicolon (λ x k m j d o is. g.local d o is) (small.declaration_end place s other t laws d) (small.declaration_found place s other t laws d)
    block_statement_found (g.statement d) = lifted (λ x k j. g.statement) (statement_found d)

    members_found : {a : List StmtTree} {i j : ℕ} → Members place s a i j → FoundStmts t (Members other t) a
    members_found (g.no_members is end) = empty_row t unplaced_stmt stmt_pieces (Member other t) (Members other t) (λ k j end. g.no_members refl end) is
    members_found (g.first_label d is) = one_row t unplaced_stmt stmt_pieces (Label other t) (Members other t) (λ y k j d. g.first_label d refl) (label_found d) is
    members_found (g.next_member {b} d some f is) = longer_row t unplaced_stmt stmt_pieces (Member other t) (Members other t)
        (λ xs y k m j same d f. g.next_member d (not_empty xs b same some) f refl) (members_found d) (member_found f) is

    member_found : {a : StmtTree} {i j : ℕ} → Member place s a i j → FoundStmt t (Member other t) a
    member_found (g.label d) = lifted (λ x k j. g.label) (label_found d)
    member_found (g.in_group d) = lifted (λ x k j. g.in_group) (block_statement_found d)

    catches_found : {a : List StmtTree} {i j : ℕ} → Catches place s a i j → FoundStmts t (Catches other t) a
    catches_found (g.no_catches is end) = empty_row t unplaced_stmt stmt_pieces (Catch other t) (Catches other t) (λ k j end. g.no_catches refl end) is
    catches_found (g.next_catch d f is) = longer_row t unplaced_stmt stmt_pieces (Catch other t) (Catches other t)
        (λ xs y k m j same d f. g.next_catch d f refl) (catches_found d) (catch_found f) is

    catch_found : {a : StmtTree} {i j : ℕ} → Catch place s a i j → FoundStmt t (Catch other t) a
    catch_found {i = i} (g.catch {f} {ty} {b} {m} o1 o2 may_final of_type o3 o4 d is) = formed is
        (nested.catch_case other t (place i) (place m) f ty (s m) b (small.type_found place s other t laws of_type) (block_found d))

  -- ---- the bodies of constructors

  call_found : {a : StmtTree} {i j : ℕ} → ConstructorCall place s a i j → FoundStmt t (ConstructorCall other t) a
  call_found {i = i} (g.of_this {xs} o1 o2 d o3 o4 is end) = formed is (plain.this_call_case other t (place i) xs (small.maybe_expressions_found place s other t laws d))
  call_found {i = i} (g.of_super {xs} o1 o2 d o3 o4 is end) = formed is (plain.super_call_case other t (place i) xs (small.maybe_expressions_found place s other t laws d))

  constructor_found : {a : StmtTree} {i j : ℕ} → ConstructorBody place s a i j → FoundStmt t (ConstructorBody other t) a
  constructor_found (g.plain_body d) = lifted (λ x k j. g.plain_body) (block_found d)
  constructor_found {i = i} (g.calling_body {c} {b} {m} o d f o2 is end) = formed is (plain.calling_case other t (place i) (place m) c b (call_found d) (statements_found f))

  some_found : {a : List StmtTree} {i j : ℕ} → SomeStatements place s a i j → FoundStmts t (SomeStatements other t) a
  some_found {a} (g.some_statements d some) = reads_as (statements_found d) (λ k j f. record {
    tree = f.tree;
    stands = g.some_statements f.stands (not_empty f.tree a f.same some);
    same = f.same;
  })

  pub stmt_laws : StmtLaws place s other t
  stmt_laws = record {
    statement = λ a i j d. (statement_found d).read;
    block = λ a i j d. (block_found d).read;
    block_statement = λ a i j d. (block_statement_found d).read;
    constructor_body = λ a i j d. (constructor_found d).read;
    variables = λ a i j d. (small.variables_found place s other t laws d).read;
    some_statements = λ a i j d. (in_a_line a (some_found d)).read;
  }
