-- No tokens are both statements and an expression.
use Rattle.std.proofs.Common.{◌≡◌, ℕ, suc, ◌<◌, ◌≤◌, ◌⊎◌, inl, inr, Bool, true, false, refl, ap, ◌∙◌, subst, arith, le_refl, List, []}
use Rattle.std.proofs.lemmas.Bool.{both_ways}
use Rattle.bj_base.specs.declared.span.Span.{Span}
use Rattle.bj_expr_tree.specs.declared.expr.ExprTree.{ExprTree}
use Rattle.bj_tree.specs.declared.stmt.StmtTree.{StmtTree}
use Rattle.bj_grammar.specs.declared.terminal.Terminal.{Terminal}
use Rattle.bj_grammar.specs.declared.terminal.Terminal.TheVariants as t
use Rattle.bj_grammar.specs.Terminal.{terminal, among}
use Rattle.bj_grammar.specs.Reader.{Text}
use Rattle.bj_expr.specs.Grammar.{Expression}
use Rattle.bj_expr.proofs.Facts.{each, begins_unary}
use Rattle.bj_expr.proofs.Begins.{expression_begins}
use Rattle.bj_stmt.specs.Grammar as g
use Rattle.bj_stmt.specs.Grammar.{jumps, Block, BlockStatements, BlockStatement, Statement, SomeStatements}
use Rattle.bj_print.proofs.Unended.{is_semicolon, expression_unended}
use Rattle.bj_print.proofs.SecondToken.{is_colon, expression_name}
use Rattle.bj_print.proofs.StmtOnward.{evaluation_onward, declaration_onward, statement_onward, block_statement_onward}

-- ---- the tokens with which statements begin, and no expression

abbrev opens_statement : Terminal → Bool
opens_statement t.LeftBrace = true
opens_statement t.Semicolon = true
opens_statement t.If = true
opens_statement t.While = true
opens_statement t.Do = true
opens_statement t.For = true
opens_statement t.Switch = true
opens_statement t.Break = true
opens_statement t.Continue = true
opens_statement t.Return = true
opens_statement t.Throw = true
opens_statement t.Synchronized = true
opens_statement t.Try = true
opens_statement _ = false

abbrev OpensNone : Terminal → Type 0
OpensNone x = opens_statement x ≡ false

beginner_opens_none : (x : Terminal) → among begins_unary x ≡ true → OpensNone x
beginner_opens_none = each OpensNone begins_unary (refl, (refl, (refl, (refl, (refl, (refl, (refl, (refl, (refl, (refl, (refl, (refl, (refl, (refl, (refl, (refl, (refl, (refl, tt))))))))))))))))))

jump_opens : (x : Terminal) → among jumps x ≡ true → opens_statement x ≡ true
jump_opens = each (λ x. opens_statement x ≡ true) jumps (refl, (refl, tt))

-- the first of some statements
pub record First (place : ℕ → Span) (s : Text) (i j : ℕ) : Type 0 where
  pub tree : StmtTree
  pub after : ℕ
  pub stands : BlockStatement place s tree i after
  pub inside : after ≤ j

module _ (place : ℕ → Span) where
  first_or_none : (s : Text) {b : List StmtTree} {i j : ℕ} → BlockStatements place s b i j → ((b ≡ []) × (j ≡ i)) ⊎ First place s i j
  first_or_none s (g.no_statements is at) = inl (is, at)
  first_or_none s {j = j} (g.next_statement {c = c} d one is) = elim (first_or_none s d) [
    | inl e ↦ inr (record { tree = c; after = j; stands = subst (λ (z : ℕ). BlockStatement place s c z j) e.1 one; inside = le_refl j })
    | inr f ↦ inr (record { tree = f.tree; after = f.after; stands = f.stands; inside = (let x = f.inside in let y = block_statement_onward place s one in omega arith) })
  ]

  pub first_statement : (s : Text) {b : List StmtTree} {i j : ℕ} → SomeStatements place s b i j → First place s i j
  first_statement s (g.some_statements d some) = elim (first_or_none s d) [ inl e ↦ absurd (some e.0) | inr f ↦ f ]

-- ---- a statement at the front of an expression

module _ (place other : ℕ → Span) (s : Text) {a : ExprTree} {i n : ℕ} (x : Expression other s a i n) where
  not_opened : (k : Terminal) → opens_statement k ≡ true → terminal (s i) ≡ k → ⊥
  not_opened k opens o = both_ways (opens_statement (terminal (s i))) (beginner_opens_none _ (expression_begins other s x)) (ap opens_statement o ∙ opens)

  not_ended : (m : ℕ) → i ≤ m → m < n → terminal (s m) ≡ t.Semicolon → ⊥
  not_ended m low high o = both_ways (is_semicolon (terminal (s m))) ((expression_unended other s x).none m low high) (ap is_semicolon o)

  not_labelled : terminal (s i) ≡ t.Word → terminal (s (suc i)) ≡ t.Colon → suc (suc i) ≤ n → ⊥
  not_labelled w o more = elim (expression_name other s x w) [
    | inl e ↦ absurd (omega arith)
    | inr no_colon ↦ both_ways (is_colon (terminal (s (suc i)))) no_colon (ap is_colon o)
  ]

  not_block : {c : StmtTree} {m : ℕ} → Block place s c i m → ⊥
  not_block (g.braces o d o2 is at) = not_opened _ refl o

  not_statement : {c : StmtTree} {m : ℕ} → Statement place s c i m → m ≤ n → ⊥
  not_statement (g.block d) le = not_block d
  not_statement (g.empty o is at) le = not_opened _ refl o
  not_statement (g.evaluate {m = m} d o at) le = let low = evaluation_onward place s d in not_ended m low (omega arith) o
  not_statement (g.choice o o2 d o3 b is) le = not_opened _ refl o
  not_statement (g.choice_else o o2 d o3 b near o4 c is) le = not_opened _ refl o
  not_statement (g.while o o2 d o3 b is) le = not_opened _ refl o
  not_statement (g.do_while o b o2 o3 d o4 o5 is at) le = not_opened _ refl o
  not_statement (g.for o o2 d o3 d2 o4 d3 o5 b is) le = not_opened _ refl o
  not_statement (g.for_each o o2 d d2 o3 o4 d3 o5 b is) le = not_opened _ refl o
  not_statement (g.switch o o2 d o3 o4 ms o5 is at) le = not_opened _ refl o
  not_statement (g.labelled o o2 b is) le = let more = statement_onward place s b in not_labelled o o2 (omega arith)
  not_statement (g.jump_to o d o2 is at) le = not_opened _ (jump_opens _ o) refl
  not_statement (g.return o d o2 is at) le = not_opened _ refl o
  not_statement (g.throw o d o2 is at) le = not_opened _ refl o
  not_statement (g.synchronized o o2 d o3 b is) le = not_opened _ refl o
  not_statement (g.synchronized_class o o2 o3 o4 o5 o6 b is) le = not_opened _ refl o
  not_statement (g.try o b cs some is) le = not_opened _ refl o
  not_statement (g.try_finally o b cs o2 f is) le = not_opened _ refl o

  pub not_block_statement : {c : StmtTree} {m : ℕ} → BlockStatement place s c i m → m ≤ n → ⊥
  not_block_statement (g.local {m = m} d o at) le = let low = declaration_onward place s d in not_ended m low (omega arith) o
  not_block_statement (g.statement d) le = not_statement d le

pub statements_are_no_expression : (place other : ℕ → Span) (s : Text) (n : ℕ) (b : List StmtTree) (a : ExprTree) → SomeStatements place s b 0 n → Expression other s a 0 n → ⊥
statements_are_no_expression place other s n b a d x =
    let first = first_statement place s d in
    not_block_statement place other s x first.stands first.inside
