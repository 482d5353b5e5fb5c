-- The first tokens of statements and their parts.
use Rattle.std.proofs.Common.{◌≡◌, ℕ, suc, ◌⊎◌, inl, inr, Bool, true, false, refl, ap, ◌∙◌, subst}
use Rattle.std.specs.Prelude.{◌||◌, ◌&&◌, not}
use Rattle.bj_base.specs.declared.span.Span.{Span}
use Rattle.bj_expr_tree.specs.declared.types.TypeTree.{TypeTree}
use Rattle.bj_expr_tree.specs.declared.expr.ExprTree.{ExprTree}
use Rattle.bj_tree.specs.declared.stmt.StmtTree.{StmtTree}
use Rattle.bj_grammar.specs.declared.terminal.Terminal.{Terminal}
use Rattle.bj_grammar.specs.declared.terminal.Terminal.TheVariants as t
use Rattle.bj_grammar.specs.Terminal.{terminal, same_terminal, among}
use Rattle.bj_grammar.specs.Reader.{Text}
use Rattle.bj_grammar.proofs.Laws.{is_kind}
use Rattle.bj_expr.specs.declared.part.Part.TheVariants as part
use Rattle.bj_expr.specs.Grammar as ge
use Rattle.bj_expr.specs.Grammar.{primitives, type_words, TypeAt, Dims, Unary}
use Rattle.bj_stmt.specs.Grammar as g
use Rattle.bj_stmt.specs.Grammar.{jumps, MaybeFinal, MaybeInit, Declaration, StatementExpression, Evaluation, Statement, Block, BlockStatement, Member, Label, Catch}
use Rattle.bj_stmt.specs.Reading.{inside, on_line, declares}
use Rattle.bj_stmt.proofs.Expressions.{Given, expression_words}
use Rattle.bj_stmt.proofs.Leftmost.{each, or_cases, Next, Second, unary_leftmost, followed, assign_second, no_declaration}
use Rattle.bj_stmt.proofs.Begins as Begins

-- ---- types

pub dims_two : (s : Text) {n i j : ℕ} → Dims s n i j → (j ≡ i) ⊎ ((terminal (s i) ≡ t.LeftBracket) × (terminal (s (suc i)) ≡ t.RightBracket))
dims_two s (ge.no_pair e at) = inl at
dims_two s {i = i} {j = j} (ge.pair {m = m} d o o2 e at) = of (dims_two s d)
  where
    of : (m ≡ i) ⊎ ((terminal (s i) ≡ t.LeftBracket) × (terminal (s (suc i)) ≡ t.RightBracket)) → (j ≡ i) ⊎ ((terminal (s i) ≡ t.LeftBracket) × (terminal (s (suc i)) ≡ t.RightBracket))
    of (inl h) = inr (subst (λ (z : ℕ). terminal (s z) ≡ t.LeftBracket) h o, subst (λ (z : ℕ). terminal (s (suc z)) ≡ t.RightBracket) h o2)
    of (inr h) = inr h

and_join : (a b : Bool) → a ≡ true → b ≡ true → (a && b) ≡ true
and_join a b e h = ap (λ (x : Bool). x && b) e ∙ h

-- a type with a name behind it is a declaration
pub type_declares : (place : ℕ → Span) (s : Text) {ty : TypeTree} {i m : ℕ} → TypeAt place s ty i m → terminal (s m) ≡ t.Word → declares s i ≡ true
type_declares place s {i = i} {m = m} (ge.named {n = n} o d e) w = Begins.or_right (same_terminal (terminal (s i)) t.Final) _ (of (or_cases (same_terminal (terminal (s i)) t.Word) _ o))
  where
    behind : (m ≡ suc i) ⊎ ((terminal (s (suc i)) ≡ t.LeftBracket) × (terminal (s (suc (suc i))) ≡ t.RightBracket))
        → (same_terminal (terminal (s (suc i))) t.Word || (same_terminal (terminal (s (suc i))) t.LeftBracket && same_terminal (terminal (s (suc (suc i)))) t.RightBracket)) ≡ true
    behind (inl h) = Begins.or_left _ _ (is_kind _ _ (subst (λ (z : ℕ). terminal (s z) ≡ t.Word) h w))
    behind (inr h) = Begins.or_right (same_terminal (terminal (s (suc i))) t.Word) _ (and_join _ _ (is_kind _ _ h.0) (is_kind _ _ h.1))

    of : (same_terminal (terminal (s i)) t.Word ≡ true) ⊎ (among primitives (terminal (s i)) ≡ true)
        → (among primitives (terminal (s i)) || (same_terminal (terminal (s i)) t.Word && (same_terminal (terminal (s (suc i))) t.Word || (same_terminal (terminal (s (suc i))) t.LeftBracket && same_terminal (terminal (s (suc (suc i)))) t.RightBracket)))) ≡ true
    of (inl h) = Begins.or_right (among primitives (terminal (s i))) _ (and_join _ _ h (behind (dims_two s d)))
    of (inr h) = Begins.or_left _ _ h

pub final_declares : (s : Text) (i : ℕ) → terminal (s i) ≡ t.Final → declares s i ≡ true
final_declares s i o = Begins.or_left _ _ (is_kind _ _ o)

type_block_word : (x : Terminal) → among type_words x ≡ true → among Begins.block_words x ≡ true
unfolding same_terminal
type_block_word = each (λ x. among Begins.block_words x ≡ true) type_words (refl, (refl, (refl, (refl, (refl, tt)))))

-- ---- the words

one_word : (among Begins.statement_words t.LeftBrace ≡ true) × (among Begins.statement_words t.Semicolon ≡ true) × (among Begins.statement_words t.If ≡ true) × (among Begins.statement_words t.While ≡ true) × (among Begins.statement_words t.Do ≡ true)
    × (among Begins.statement_words t.For ≡ true) × (among Begins.statement_words t.Switch ≡ true) × (among Begins.statement_words t.Word ≡ true) × (among Begins.statement_words t.Return ≡ true) × (among Begins.statement_words t.Throw ≡ true)
    × (among Begins.statement_words t.Synchronized ≡ true) × (among Begins.statement_words t.Try ≡ true) × (among Begins.block_words t.Final ≡ true) × (among Begins.member_words t.Case ≡ true) × (among Begins.member_words t.Default ≡ true)
unfolding same_terminal
one_word = (refl, refl, refl, refl, refl, refl, refl, refl, refl, refl, refl, refl, refl, refl, refl)

jump_word : (x : Terminal) → among jumps x ≡ true → among Begins.statement_words x ≡ true
unfolding same_terminal
jump_word = each (λ x. among Begins.statement_words x ≡ true) jumps (refl, (refl, tt))

expression_statement_word : (x : Terminal) → among expression_words x ≡ true → among Begins.statement_words x ≡ true
unfolding same_terminal
expression_statement_word = each (λ x. among Begins.statement_words x ≡ true) expression_words (refl, (refl, (refl, (refl, (refl, (refl, (refl, (refl, (refl, (refl, (refl, (refl, (refl, (refl, (refl, (refl, (refl, (refl, tt))))))))))))))))))

pub statement_block_word : (x : Terminal) → among Begins.statement_words x ≡ true → among Begins.block_words x ≡ true
statement_block_word x e =
    Begins.or_right (same_terminal x t.Final) _ (Begins.or_right (same_terminal x t.Int) _ (Begins.or_right (same_terminal x t.Long) _ (Begins.or_right (same_terminal x t.Boolean) _ (Begins.or_right (same_terminal x t.Char) (among Begins.statement_words x) e))))

pub block_member_word : (x : Terminal) → among Begins.block_words x ≡ true → among Begins.member_words x ≡ true
block_member_word x e = Begins.or_right (same_terminal x t.Case) _ (Begins.or_right (same_terminal x t.Default) (among Begins.block_words x) e)

module _ (place : ℕ → Span) (most : ℕ) (given : Given place most) (s : Text) where
  pub statement_expression_begins : {a : ExprTree} {i j : ℕ} → StatementExpression place s a i j → among expression_words (terminal (s i)) ≡ true
  statement_expression_begins {a} {i} {j} (g.evaluated d able) = given.begins part.Unary s a i j d
  statement_expression_begins {i = i} (g.assigned {l = l} {m = m} d o x e) = given.begins part.Unary s l i m d

  pub evaluation_begins : {a : StmtTree} {i j : ℕ} → Evaluation place s a i j → among expression_words (terminal (s i)) ≡ true
  evaluation_begins (g.evaluation d e) = statement_expression_begins d

  pub block_begins : {a : StmtTree} {i j : ℕ} → Block place s a i j → terminal (s i) ≡ t.LeftBrace
  block_begins (g.braces o d c e at) = o

  word : (i : ℕ) (k : Terminal) → terminal (s i) ≡ k → among Begins.statement_words k ≡ true → among Begins.statement_words (terminal (s i)) ≡ true
  word i k e h = Begins.is_among Begins.statement_words (terminal (s i)) k e h

  pub statement_begins : {a : StmtTree} {i j : ℕ} → Statement place s a i j → among Begins.statement_words (terminal (s i)) ≡ true
  statement_begins {i = i} (g.block d) = word i t.LeftBrace (block_begins d) one_word.0
  statement_begins {i = i} (g.empty o e at) = word i t.Semicolon o one_word.1
  statement_begins {i = i} (g.evaluate d o at) = expression_statement_word (terminal (s i)) (evaluation_begins d)
  statement_begins {i = i} (g.choice o p d c b e) = word i t.If o one_word.2
  statement_begins {i = i} (g.choice_else o p d c b h o2 b2 e) = word i t.If o one_word.2
  statement_begins {i = i} (g.while o p d c b e) = word i t.While o one_word.3
  statement_begins {i = i} (g.do_while o b o2 p d c q e at) = word i t.Do o one_word.4
  statement_begins {i = i} (g.for o p n q d q2 us c b e) = word i t.For o one_word.5
  statement_begins {i = i} (g.for_each o p f ty w k d c b e) = word i t.For o one_word.5
  statement_begins {i = i} (g.switch o p d c l ms r e at) = word i t.Switch o one_word.6
  statement_begins {i = i} (g.labelled o k b e) = word i t.Word o one_word.7
  statement_begins {i = i} (g.jump_to o l q e at) = jump_word (terminal (s i)) o
  statement_begins {i = i} (g.return o d q e at) = word i t.Return o one_word.8
  statement_begins {i = i} (g.throw o d q e at) = word i t.Throw o one_word.9
  statement_begins {i = i} (g.synchronized o p d c b e) = word i t.Synchronized o one_word.10
  statement_begins {i = i} (g.synchronized_class o p w k l c b e) = word i t.Synchronized o one_word.10
  statement_begins {i = i} (g.try o b cs h e) = word i t.Try o one_word.11
  statement_begins {i = i} (g.try_finally o b cs f b2 e) = word i t.Try o one_word.11

  type_begins : {a : TypeTree} {i j : ℕ} → TypeAt place s a i j → among Begins.block_words (terminal (s i)) ≡ true
  type_begins {i = i} (ge.named o d e) = type_block_word (terminal (s i)) o

  pub declaration_begins : {a : StmtTree} {i j : ℕ} → Declaration place s a i j → among Begins.block_words (terminal (s i)) ≡ true
  declaration_begins {i = i} (g.declaration {m = m} (g.not_final e at) ty vs is) = subst (λ (z : ℕ). among Begins.block_words (terminal (s z)) ≡ true) at (type_begins ty)
  declaration_begins {i = i} (g.declaration (g.final o e at) ty vs is) = Begins.is_among Begins.block_words (terminal (s i)) t.Final o one_word.12

  pub block_statement_begins : {a : StmtTree} {i j : ℕ} → BlockStatement place s a i j → among Begins.block_words (terminal (s i)) ≡ true
  block_statement_begins (g.local d o at) = declaration_begins d
  block_statement_begins {i = i} (g.statement d) = statement_block_word (terminal (s i)) (statement_begins d)

  pub member_begins : {a : StmtTree} {i j : ℕ} → Member place s a i j → among Begins.member_words (terminal (s i)) ≡ true
  member_begins {i = i} (g.label (g.case o d c e at)) = Begins.is_among Begins.member_words (terminal (s i)) t.Case o one_word.13
  member_begins {i = i} (g.label (g.default o c e at)) = Begins.is_among Begins.member_words (terminal (s i)) t.Default o one_word.14
  member_begins {i = i} (g.in_group d) = block_member_word (terminal (s i)) (block_statement_begins d)

  -- an expression as a statement begins no other form
  pub evaluation_next : {a : StmtTree} {i j : ℕ} → Evaluation place s a i j → Second (terminal (s j)) → Next s i
  evaluation_next {i = i} (g.evaluation d e) h = of d h
    where
      of : {x : ExprTree} {j : ℕ} → StatementExpression place s x i j → Second (terminal (s j)) → Next s i
      of {j = j} (g.evaluated d able) h = followed place most given s i j (unary_leftmost place most given s d) h
      of {j = j} (g.assigned {m = m} d o x e) h = followed place most given s i m (unary_leftmost place most given s d) (assign_second (terminal (s m)) o)

  pub evaluation_declares : {a : StmtTree} {i j : ℕ} → Evaluation place s a i j → Second (terminal (s j)) → declares s i ≡ false
  evaluation_declares {i = i} d h = no_declaration s i (evaluation_begins d) (evaluation_next d h)

-- before the end of a block
pub is_inside : (x : Terminal) → same_terminal x t.RightBrace ≡ false → inside x ≡ true
is_inside x e = ap not e

pub is_on_line : (x : Terminal) → same_terminal x t.Other ≡ false → on_line x ≡ true
is_on_line x e = ap not e
