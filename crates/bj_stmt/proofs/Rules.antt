-- The laws of the rules of statements, given those of what is nested in them.
use Rattle.std.proofs.Common.{◌≡◌, ◌≢◌, ℕ, suc, ◌<◌, ◌≤◌, inl, inr, Bool, true, false, cond, refl, sym, ap, ◌∙◌, subst, arith, List, [], ◌∷◌, ◌++◌}
use Rattle.std.specs.Prelude.{◌&&◌}
use Rattle.std.proofs.lemmas.Bool.{both_ways}
use Rattle.bj_base.specs.declared.span.Span.{Span}
use Rattle.bj_token.specs.declared.token.Token.{Token}
use Rattle.bj_expr_tree.specs.declared.types.TypeTree.{TypeTree}
use Rattle.bj_expr_tree.specs.declared.types.NamedPlace.{NamedPlace}
use Rattle.bj_expr_tree.specs.declared.expr.ExprTree.{ExprTree}
use Rattle.bj_tree.specs.declared.stmt.StmtTree.{StmtTree}
use Rattle.bj_tree.specs.declared.stmt.StmtTree.TheVariants as stmt
use Rattle.bj_grammar.specs.declared.terminal.Terminal.{Terminal}
use Rattle.bj_grammar.specs.declared.terminal.Terminal.TheVariants as t
use Rattle.bj_grammar.specs.Terminal.{terminal, same_terminal, among}
use Rattle.bj_grammar.specs.Reader.{Text, Answer, Found, Wrong, Over, Parser, and_then, ◌>>=◌, pure, over, operator, word, sign, ahead}
use Rattle.bj_grammar.proofs.Terminals.{is_token}
use Rattle.bj_grammar.proofs.Laws.{Rel, Outcome, Laws, Then, Same, Word, Operator, Either, Steps, done, reached, stop, halted, pure_laws, steps_end, steps_fold, is_kind, and_then_found, ahead_laws, seq, alt, tok, op, start, renamed, rep, rep_by}
use Rattle.bj_expr.specs.Grammar.{TypeAt, Expression}
use Rattle.bj_expr.specs.Reading.{is}
use Rattle.bj_expr.specs.Nodes.{HasNode}
use Rattle.bj_stmt.specs.declared.part.StmtPart.{StmtPart}
use Rattle.bj_stmt.specs.declared.part.StmtPart.TheVariants as p
use Rattle.bj_stmt.specs.Grammar as g
use Rattle.bj_stmt.specs.Grammar.{jump, jumps, dangles, MaybeFinal, MaybeExpression, MaybeExpressions, MaybeName, Variables, Declaration, Evaluation, Evaluations, ForInit, Statement, Block, BlockStatements, BlockStatement, Members, Member, Label, Catches, Catch, ConstructorCall, ConstructorBody}
use Rattle.bj_stmt.specs.Reading as r
use Rattle.bj_stmt.specs.Reading.{declares, is_labelled, is_class_lock, is_constructor_call, constructors, inside, is_empty, branch_words, loop_words, leave_words, guard_words}
use Rattle.bj_stmt.specs.Nodes.{stmt_nodes_at, StmtHasNode, SomeStmtHasNode}
use Rattle.bj_stmt.proofs.Expressions.{Given, Never}
use Rattle.bj_stmt.proofs.StmtTall as tall
use Rattle.bj_stmt.proofs.StmtShape.{member_forward, catch_forward}
use Rattle.bj_stmt.proofs.Leftmost.{each, is_not, none_of, or_split, followed, expression_leftmost, paren_second}
use Rattle.bj_stmt.proofs.Begins as Begins
use Rattle.bj_stmt.proofs.Begins.{no_follow, member_words, First, member_first}
use Rattle.bj_stmt.proofs.Starts.{member_begins, is_inside}
use Rattle.bj_stmt.proofs.Ahead.{stop_then, forth, stop_word, class_depends, value_past, value_past_dot}
use Rattle.bj_stmt.proofs.Small.{same_after, pick_laws, Any, Before, list_ends, sign_facts, final_laws, type_no_final, NameAt, name_laws, maybe_name_laws, ExprRel, value_laws, value_ends, maybe_value_laws}

-- ---- what each part is, and what may follow it

abbrev pub StandsAs : StmtPart → (ℕ → Span) → Rel StmtTree
StandsAs p.Statement place s a i j = Statement place s a i j
StandsAs p.BlockStatement place s a i j = BlockStatement place s a i j
StandsAs p.Block place s a i j = Block place s a i j
StandsAs p.Member place s a i j = Member place s a i j
StandsAs p.Label place s a i j = Label place s a i j
StandsAs p.Catch place s a i j = Catch place s a i j
StandsAs p.Evaluation place s a i j = Evaluation place s a i j
StandsAs p.ConstructorCall place s a i j = ConstructorCall place s a i j
StandsAs p.ConstructorBody place s a i j = ConstructorBody place s a i j

abbrev pub handlers : List Terminal
handlers = t.Catch ∷ t.Finally ∷ []

-- a statement that ends with an `if` without an `else` has no `else` behind it, and none has a catch or a `finally`
pub record AfterStatement (a : StmtTree) (k : Terminal) : Type 0 where
  pub no_else : dangles a ≡ true → same_terminal k t.Else ≡ false
  pub no_handler : among handlers k ≡ false

abbrev pub AfterPart : StmtPart → StmtTree → Terminal → Type 0
AfterPart p.Statement a k = AfterStatement a k
AfterPart p.BlockStatement a k = AfterStatement a k
AfterPart p.Block a k = Unit {0}
AfterPart p.Member a k = AfterStatement a k
AfterPart p.Label a k = Unit {0}
AfterPart p.Catch a k = Unit {0}
AfterPart p.Evaluation a k = among list_ends k ≡ true
AfterPart p.ConstructorCall a k = Unit {0}
AfterPart p.ConstructorBody a k = Unit {0}

-- what may follow in a list of statements
abbrev pub InBlock : {A : Type 0} → A → Terminal → Type 0
InBlock a k = among no_follow k ≡ false

pub in_block : (a : StmtTree) (k : Terminal) → among no_follow k ≡ false → AfterStatement a k
in_block a k e = let w = or_split (same_terminal k t.Else) _ e in record { no_else = λ h. w.0; no_handler = w.1 }

-- ---- a reader that gives the same everywhere has the same laws

pub equal_laws : {A : Type 0} {n : ℕ} {q : Parser A} {D : Rel A} {E : A → Terminal → Type 0} {T : Span → A → Type 0} (p : Parser A) → ((s : Text) (i : ℕ) → p s i ≡ q s i) → Laws n q D E T → Laws n p D E T
equal_laws {n} {q} {D} {E} {T} p e u = record {
  shape = u.shape;
  onward = λ s i. subst (λ (r : Answer _). i ≤ reached r) (sym (e s i)) (u.onward s i);
  local = λ s t i same. e t i ∙ (u.local s t i (λ x h. same x (subst (λ (r : Answer _). x ≤ stop r) (sym (e s i)) h)) ∙ sym (e s i));
  sound = λ s i a j is. u.sound s i a j (sym (e s i) ∙ is);
  inside = λ s i x low high. u.inside s i x low (subst (λ (r : Answer _). x < reached r) (e s i) high);
  complete = λ s i a j d last. subst (λ (r : Answer _). Outcome n T r a i j) (sym (e s i)) (u.complete s i a j d last);
  viable = λ s i k is. u.viable s i k (sym (ap halted (e s i)) ∙ is);
}

-- ---- what reading a statement leaves behind it: no `else` that an `if` in it could take

abbrev pub NoElse : StmtTree → Terminal → Type 0
NoElse a k = dangles a ≡ true → same_terminal k t.Else ≡ false

abbrev pub Greedy : Parser StmtTree → Type 0
Greedy q = (s : Text) (i : ℕ) (a : StmtTree) (j : ℕ) → q s i ≡ Found a j → NoElse a (terminal (s j))

pub then_greedy : {A : Type 0} (q : Parser A) (f : A → Parser StmtTree) → ((x : A) → Greedy (f x)) → Greedy (q >>= f)
then_greedy q f u s i a j e = let w = and_then_found (q s i) (λ x m. f x s m) a j e in u w.0 s w.1 a j w.3

pub word_greedy : (k : Terminal) (q : List ℕ → Parser StmtTree) → ((v : List ℕ) → Greedy (q v)) → Greedy (word k q)
word_greedy k q u s i a j e = of (same_terminal (terminal (s i)) k) e
  where
    of : (b : Bool) → cond b (q (s i).text s (suc i)) (Wrong i) ≡ Found a j → NoElse a (terminal (s j))
    of true e = u (s i).text s (suc i) a j e
    of false e = absurd (cc)

pub operator_greedy : (test : Terminal → Bool) (q : Token → Parser StmtTree) → ((v : Token) → Greedy (q v)) → Greedy (operator test q)
operator_greedy test q u s i a j e = of (test (terminal (s i))) e
  where
    of : (b : Bool) → cond b (q (s i) s (suc i)) (Wrong i) ≡ Found a j → NoElse a (terminal (s j))
    of true e = u (s i) s (suc i) a j e
    of false e = absurd (cc)

pub ahead_greedy : (test : Text → ℕ → Bool) (p q : Parser StmtTree) → Greedy p → Greedy q → Greedy (ahead test p q)
ahead_greedy test p q u v s i a j e = of (test s i) e
  where
    of : (b : Bool) → cond b (p s i) (q s i) ≡ Found a j → NoElse a (terminal (s j))
    of true e = u s i a j e
    of false e = v s i a j e

-- a tree that does not dangle
pub pure_greedy : (b : StmtTree) → dangles b ≡ false → Greedy (pure b)
pure_greedy b never s i a j e h = let tree : b ≡ a = cc in absurd (both_ways (dangles b) never (ap dangles tree ∙ h))

pub over_greedy : (place : ℕ → Span) → Greedy (over place)
over_greedy place s i a j e = absurd (cc)

-- a statement that ends with another
pub last_greedy : (q : Parser StmtTree) (f : StmtTree → StmtTree) → Greedy q → ((b : StmtTree) → dangles (f b) ≡ dangles b) → Greedy (q >>= λ b. pure (f b))
last_greedy q f u same s i a j e h =
    let w = and_then_found (q s i) (λ b m. Found (f b) m) a j e in
    let tree : f w.0 ≡ a = cc in
    let at : w.1 ≡ j = cc in
    subst (λ (n : ℕ). same_terminal (terminal (s n)) t.Else ≡ false) at (u s i w.0 w.1 w.2 (sym (same w.0) ∙ (ap dangles tree ∙ h)))

-- ---- a test on the next tokens

pub stop_ahead : {A : Type 0} (x y : Answer A) (n : ℕ) (b : Bool) → (b ≡ true → n ≤ stop x) → (b ≡ false → n ≤ stop y) → n ≤ stop (cond b x y)
stop_ahead x y n true h k = h refl
stop_ahead x y n false h k = k refl

pub stop_found : {A B : Type 0} (x : Answer A) (f : A → ℕ → Answer B) (a : A) (m n : ℕ) → x ≡ Found a m → n ≤ stop (f a m) → n ≤ stop (and_then x f)
stop_found x f a m n e h = subst (λ (y : Answer _). n ≤ stop (and_then y f)) (sym e) h

pub and_first_true : (a b : Bool) → (a && b) ≡ true → a ≡ true
and_first_true true b e = refl
and_first_true false b e = absurd (cc)

pub and_second_true : (a b : Bool) → (a && b) ≡ true → b ≡ true
and_second_true true b e = e
and_second_true false b e = absurd (cc)

pub and_join : (a b : Bool) → a ≡ true → b ≡ true → (a && b) ≡ true
and_join a b e h = ap (λ (x : Bool). x && b) e ∙ h

-- ---- the rules

module _ (place : ℕ → Span) (most : ℕ) (given : Given place most) (room : ℕ) (nested : StmtPart → Parser StmtTree)
    (u : (x : StmtPart) → Laws most (nested x) (StandsAs x place) (AfterPart x) (StmtHasNode (suc room)))
    (greedy : Greedy (nested p.Statement)) where
  abbrev pub TallStmt : Span → StmtTree → Type 0
  TallStmt = StmtHasNode (suc (suc room))

  abbrev TallList : Span → List StmtTree → Type 0
  TallList = SomeStmtHasNode (suc room)

  abbrev pub BodyRel : Rel StmtTree
  BodyRel = λ s a i j. Statement place s a i j

  abbrev pub BlockRel : Rel StmtTree
  BlockRel = λ s a i j. Block place s a i j

  body_laws : Laws most (nested p.Statement) BodyRel AfterStatement (StmtHasNode (suc room))
  body_laws = u p.Statement

  -- what follows a statement that ends with another follows this one
  handed : (f : StmtTree → StmtTree) (same : (b : StmtTree) → dangles (f b) ≡ dangles b) (s : Text) (b a : StmtTree) (m j : ℕ) → Same (f b) s a m j → AfterStatement a (terminal (s j)) → AfterStatement b (terminal (s m))
  handed f same s b a m j d last = record {
    no_else = λ h. subst (λ (n : ℕ). same_terminal (terminal (s n)) t.Else ≡ false) d.at (last.no_else (ap dangles d.tree ∙ (same b ∙ h)));
    no_handler = subst (λ (n : ℕ). among handlers (terminal (s n)) ≡ false) d.at last.no_handler;
  }

  -- a body at the end
  ended_laws : (f : StmtTree → StmtTree) → ((b : StmtTree) → dangles (f b) ≡ dangles b) → ((b a : StmtTree) → a ≡ f b → (at : Span) → StmtHasNode (suc room) at b → TallStmt at a)
      → Laws most (nested p.Statement >>= λ b. pure (f b)) (Then BodyRel (λ b. Same (f b))) AfterStatement TallStmt
  ended_laws f same high = seq body_laws (λ b. pure_laws most (f b) AfterStatement TallStmt) (λ s b m a j d last. handed f same s b a m j d last) (λ s b m a j d at h. high b a d.tree at h)

  -- an expression in parentheses
  in_parens_laws : (f : ExprTree → Parser StmtTree) (Q : ExprTree → Rel StmtTree) (E : StmtTree → Terminal → Type 0) → ((x : ExprTree) → Laws most (f x) (Q x) E TallStmt)
      → ((x : ExprTree) (s : Text) (a : StmtTree) (m j : ℕ) → Q x s a m j → (at : Span) → HasNode (suc room) at x → TallStmt at a)
      → Laws most (r.in_parens place most room nested f) (Word t.LeftParen (λ _. Then (ExprRel place most given room) (λ x. Word t.RightParen (λ _. Q x)))) E TallStmt
  unfolding r.in_parens
  in_parens_laws f Q E v high = tok t.LeftParen refl (λ _. seq (value_laws place most given room) (λ x. tok t.RightParen refl (λ _. v x))
      (λ s x m a j d last. value_ends place most given room x _ t.RightParen d.kind sign_facts.2) (λ s x m a j d at h. high x s a (suc m) j d.rest at h))

  abbrev InParens : (ExprTree → Rel StmtTree) → Rel StmtTree
  InParens Q = Word t.LeftParen (λ _. Then (λ s a i j. Expression place s a i j) (λ x. Word t.RightParen (λ _. Q x)))

  -- ---- `if`

  pub record Guard (P : Type 0) (D : Rel StmtTree) (s : Text) (a : StmtTree) (i j : ℕ) : Type 0 where
    pub holds : P
    pub stands : D s a i j

  abbrev ElseRel : ℕ → ExprTree → StmtTree → Rel StmtTree
  ElseRel i x b = Word t.Else (λ _. Then BodyRel (λ c. Same (stmt.IfElse (place i) x b c)))

  abbrev TailRel : ℕ → ExprTree → StmtTree → Rel StmtTree
  TailRel i x b = Either (Guard (dangles b ≡ false) (ElseRel i x b)) (Same (stmt.If (place i) x b))

  -- the same reader, but it looks at the statement before the `else`
  checked : Bool → ℕ → ExprTree → StmtTree → Parser StmtTree
  checked true i x b = pure (stmt.If (place i) x b)
  checked false i x b = r.choice_tail place most room nested i x b

  else_laws : (i : ℕ) (x : ExprTree) (b : StmtTree) → Laws most (sign t.Else (nested p.Statement >>= λ c. pure (stmt.IfElse (place i) x b c))) (ElseRel i x b) AfterStatement TallStmt
  else_laws i x b = tok t.Else refl (λ _. ended_laws (stmt.IfElse (place i) x b) (λ c. Begins.ifelse_dangles (place i) x b c) (λ c a e at h. tall.tall_ifelse_other room (place i) x b c a e h))

  if_no_else : (i : ℕ) (x : ExprTree) (b : StmtTree) (s : Text) (a : StmtTree) (m j : ℕ) → Same (stmt.If (place i) x b) s a m j → AfterStatement a (terminal (s j)) → same_terminal (terminal (s m)) t.Else ≡ false
  if_no_else i x b s a m j d last = subst (λ (n : ℕ). same_terminal (terminal (s n)) t.Else ≡ false) d.at (last.no_else (ap dangles d.tree ∙ Begins.if_dangles (place i) x b))

  checked_laws : (d : Bool) (i : ℕ) (x : ExprTree) (b : StmtTree) → dangles b ≡ d → Laws most (checked d i x b) (TailRel i x b) AfterStatement TallStmt
  unfolding checked r.choice_tail
  checked_laws true i x b e = renamed (TailRel i x b) AfterStatement (pure_laws most (stmt.If (place i) x b) AfterStatement TallStmt)
      (λ s a m j d. inr d) (λ s a m j d. elim d [ inl c ↦ absurd (both_ways (dangles b) c.holds e) | inr c ↦ c ]) (λ a x e. e)
  checked_laws false i x b e = renamed (TailRel i x b) AfterStatement
      (alt (is t.Else) (else_laws i x b) (pure_laws most (stmt.If (place i) x b) AfterStatement TallStmt) (λ s a m j d last. is_kind _ _ d.kind) (λ s a m j d last. if_no_else i x b s a m j d last))
      (λ s a m j d. elim d [ inl c ↦ inl (record { holds = e; stands = c }) | inr c ↦ inr c ])
      (λ s a m j d. elim d [ inl c ↦ inl c.stands | inr c ↦ inr c ]) (λ a x e. e)

  else_no_handler : among handlers t.Else ≡ false
  unfolding same_terminal
  else_no_handler = refl

  branch_laws : (i : ℕ) (x : ExprTree) → Laws most (nested p.Statement >>= r.choice_tail place most room nested i x) (Then BodyRel (λ b. TailRel i x b)) AfterStatement TallStmt
  unfolding checked r.choice_tail
  branch_laws i x = equal_laws (nested p.Statement >>= r.choice_tail place most room nested i x) (λ s m. same s m (nested p.Statement s m) refl)
      (seq body_laws (λ b. checked_laws (dangles b) i x b refl) fits high)
    where
      fits : (s : Text) (b : StmtTree) (m : ℕ) (a : StmtTree) (j : ℕ) → TailRel i x b s a m j → AfterStatement a (terminal (s j)) → AfterStatement b (terminal (s m))
      fits s b m a j (inl d) last = record { no_else = λ h. absurd (both_ways (dangles b) d.holds h); no_handler = none_of handlers (terminal (s m)) t.Else d.stands.kind else_no_handler }
      fits s b m a j (inr d) last = record { no_else = λ h. if_no_else i x b s a m j d last; no_handler = subst (λ (n : ℕ). among handlers (terminal (s n)) ≡ false) d.at last.no_handler }

      high : (s : Text) (b : StmtTree) (m : ℕ) (a : StmtTree) (j : ℕ) → TailRel i x b s a m j → (at : Span) → StmtHasNode (suc room) at b → TallStmt at a
      high s b m a j (inl d) at h = tall.tall_ifelse_body room (place i) x b d.stands.rest.part a d.stands.rest.rest.tree h
      high s b m a j (inr d) at h = tall.tall_if_body room (place i) x b a d.tree h

      tails : (s : Text) (b : StmtTree) (m : ℕ) (d : Bool) → dangles b ≡ d → NoElse b (terminal (s m)) → r.choice_tail place most room nested i x b s m ≡ checked d i x b s m
      tails s b m true e h = ap (λ (y : Bool). cond y (sign t.Else (nested p.Statement >>= λ c. pure (stmt.IfElse (place i) x b c)) s m) (Found (stmt.If (place i) x b) m)) (h e)
      tails s b m false e h = refl

      same : (s : Text) (m : ℕ) (q : Answer StmtTree) → nested p.Statement s m ≡ q
          → and_then (nested p.Statement s m) (λ b j. r.choice_tail place most room nested i x b s j) ≡ and_then (nested p.Statement s m) (λ b j. checked (dangles b) i x b s j)
      same s m (Found b j) e = ap (λ (q : Answer StmtTree). and_then q (λ b j. r.choice_tail place most room nested i x b s j)) e ∙ (tails s b j (dangles b) refl (greedy s m b j e) ∙ sym (ap (λ (q : Answer StmtTree). and_then q (λ b j. checked (dangles b) i x b s j)) e))
      same s m (Wrong j) e = ap (λ (q : Answer StmtTree). and_then q (λ b j. r.choice_tail place most room nested i x b s j)) e ∙ sym (ap (λ (q : Answer StmtTree). and_then q (λ b j. checked (dangles b) i x b s j)) e)
      same s m (Over j at) e = ap (λ (q : Answer StmtTree). and_then q (λ b j. r.choice_tail place most room nested i x b s j)) e ∙ sym (ap (λ (q : Answer StmtTree). and_then q (λ b j. checked (dangles b) i x b s j)) e)

  abbrev pub ChoiceRel : ℕ → Rel StmtTree
  ChoiceRel i = Word t.If (λ _. InParens (λ x. Then BodyRel (λ b. TailRel i x b)))

  test_high : (i : ℕ) (x : ExprTree) (s : Text) (a : StmtTree) (m j : ℕ) → Then BodyRel (λ b. TailRel i x b) s a m j → (at : Span) → HasNode (suc room) at x → TallStmt at a
  test_high i x s a m j d at h = of d.part d.rest
    where
      of : (b : StmtTree) → TailRel i x b s a d.at j → TallStmt at a
      of b (inl c) = tall.tall_ifelse_test room (place i) x b c.stands.rest.part a c.stands.rest.rest.tree h
      of b (inr c) = tall.tall_if_test room (place i) x b a c.tree h

  choice_laws : (i : ℕ) → Laws most (r.choice place most room nested i) (ChoiceRel i) AfterStatement TallStmt
  unfolding r.choice
  choice_laws i = tok t.If refl (λ _. in_parens_laws (λ x. nested p.Statement >>= r.choice_tail place most room nested i x) (λ x. Then BodyRel (λ b. TailRel i x b)) AfterStatement (λ x. branch_laws i x) (λ x s a m j d at h. test_high i x s a m j d at h))

  to_choice : (s : Text) (a : StmtTree) (i j : ℕ) → ChoiceRel i s a i j → Statement place s a i j
  to_choice s a i j d = of d.rest.rest.rest.rest.rest
    where
      of : TailRel i d.rest.rest.part d.rest.rest.rest.rest.part s a d.rest.rest.rest.rest.at j → Statement place s a i j
      of (inl c) = g.choice_else d.kind d.rest.kind d.rest.rest.first d.rest.rest.rest.kind d.rest.rest.rest.rest.first c.holds c.stands.kind
          (subst (λ (m : ℕ). Statement place s c.stands.rest.part (suc d.rest.rest.rest.rest.at) m) (sym c.stands.rest.rest.at) c.stands.rest.first) c.stands.rest.rest.tree
      of (inr c) = g.choice d.kind d.rest.kind d.rest.rest.first d.rest.rest.rest.kind (subst (λ (m : ℕ). Statement place s d.rest.rest.rest.rest.part (suc d.rest.rest.at) m) (sym c.at) d.rest.rest.rest.rest.first) c.tree

  -- ---- loops

  abbrev pub WhileRel : ℕ → Rel StmtTree
  WhileRel i = Word t.While (λ _. InParens (λ x. Then BodyRel (λ b. Same (stmt.While (place i) x b))))

  pub while_laws : (i : ℕ) → Laws most (r.while_loop place most room nested i) (WhileRel i) AfterStatement TallStmt
  unfolding r.while_loop
  while_laws i = tok t.While refl (λ _. in_parens_laws (λ x. nested p.Statement >>= λ b. pure (stmt.While (place i) x b)) (λ x. Then BodyRel (λ b. Same (stmt.While (place i) x b))) AfterStatement
      (λ x. ended_laws (stmt.While (place i) x) (λ b. Begins.while_dangles (place i) x b) (λ b a e at h. tall.tall_while_body room (place i) x b a e h))
      (λ x s a m j d at h. tall.tall_while_test room (place i) x d.part a d.rest.tree h))

  pub to_while : (s : Text) (a : StmtTree) (i j : ℕ) → WhileRel i s a i j → Statement place s a i j
  to_while s a i j d = g.while d.kind d.rest.kind d.rest.rest.first d.rest.rest.rest.kind
      (subst (λ (m : ℕ). Statement place s d.rest.rest.rest.rest.part (suc d.rest.rest.at) m) (sym d.rest.rest.rest.rest.rest.at) d.rest.rest.rest.rest.first) d.rest.rest.rest.rest.rest.tree

  abbrev pub DoRel : ℕ → Rel StmtTree
  DoRel i = Word t.Do (λ _. Then BodyRel (λ b. Word t.While (λ _. InParens (λ x. Word t.Semicolon (λ _. Same (stmt.Do (place i) b x))))))

  while_follow : among no_follow t.While ≡ false
  unfolding same_terminal
  while_follow = refl

  pub do_laws : (i : ℕ) → Laws most (r.do_loop place most room nested i) (DoRel i) AfterStatement TallStmt
  unfolding r.do_loop
  do_laws i = tok t.Do refl (λ _. seq body_laws (λ b. tok t.While refl (λ _. in_parens_laws (λ x. sign t.Semicolon (pure (stmt.Do (place i) b x))) (λ x. Word t.Semicolon (λ _. Same (stmt.Do (place i) b x))) AfterStatement
      (λ x. tok t.Semicolon refl (λ _. pure_laws most (stmt.Do (place i) b x) AfterStatement TallStmt))
      (λ x s a m j d at h. tall.tall_do_test room (place i) b x a d.rest.tree h)))
      (λ s b m a j d last. in_block b _ (none_of no_follow _ t.While d.kind while_follow))
      (λ s b m a j d at h. tall.tall_do_body room (place i) b d.rest.rest.part a d.rest.rest.rest.rest.rest.tree h))

  pub to_do : (s : Text) (a : StmtTree) (i j : ℕ) → DoRel i s a i j → Statement place s a i j
  to_do s a i j d = let w = d.rest.rest in
      g.do_while d.kind d.rest.first w.kind w.rest.kind w.rest.rest.first w.rest.rest.rest.kind w.rest.rest.rest.rest.kind w.rest.rest.rest.rest.rest.tree w.rest.rest.rest.rest.rest.at

  -- ---- `switch`

  abbrev MemberStep : List StmtTree → Rel (List StmtTree)
  MemberStep b = Then (λ s a i j. Member place s a i j) (λ c. Same (b ++ c ∷ []))

  abbrev FirstLabel : Rel (List StmtTree)
  FirstLabel = Then (λ s a i j. Label place s a i j) (λ c. Same (c ∷ []))

  abbrev SomeMembers : Rel (List StmtTree)
  SomeMembers = Then FirstLabel (λ b v c m k. Steps MemberStep v b c m k)

  brace_follow : among no_follow t.RightBrace ≡ false
  unfolding same_terminal
  brace_follow = refl

  brace_inside : inside t.RightBrace ≡ false
  unfolding same_terminal
  brace_inside = refl

  not_empty : (b : List StmtTree) (c : StmtTree) → b ++ c ∷ [] ≢ []
  not_empty [] c e = absurd (cc)
  not_empty (x ∷ b) c e = absurd (cc)

  one_not_empty : (c : StmtTree) → c ∷ [] ≢ []
  one_not_empty c e = absurd (cc)

  abbrev NotEmpty : Rel (List StmtTree)
  NotEmpty s a i j = Members place s a i j × (a ≢ [])

  to_some_members : (s : Text) (a : List StmtTree) (i j : ℕ) → SomeMembers s a i j → NotEmpty s a i j
  to_some_members s a i j d = steps_fold MemberStep NotEmpty s i
      (λ b c m k h o. (g.next_member h.0 h.1 (subst (λ (z : ℕ). Member place s o.part m z) (sym o.rest.at) o.first) o.rest.tree, (λ e. not_empty b o.part (sym o.rest.tree ∙ e))))
      d.part a d.at j (g.first_label (subst (λ (z : ℕ). Label place s d.first.part i z) (sym d.first.rest.at) d.first.first) d.first.rest.tree, (λ e. one_not_empty d.first.part (sym d.first.rest.tree ∙ e))) d.rest

  to_members : (s : Text) (a : List StmtTree) (i j : ℕ) → Either (Same []) SomeMembers s a i j → Members place s a i j
  to_members s a i j (inl d) = g.no_members d.tree d.at
  to_members s a i j (inr d) = (to_some_members s a i j d).0

  from_members : (s : Text) {a : List StmtTree} {i j : ℕ} → Members place s a i j → Either (Same []) SomeMembers s a i j
  from_members s (g.no_members e at) = inl (record { tree = e; at = at })
  from_members s {a} {i} {j} (g.first_label {c = c} d e) = inr (record { part = a; at = j; first = record { part = c; at = j; first = d; rest = record { tree = e; at = refl } }; rest = done refl refl })
  from_members s {a} {i} {j} (g.next_member {b = b} {c = c} {m = m} d some x e) = of (from_members s d)
    where
      of : Either (Same []) SomeMembers s b i m → Either (Same []) SomeMembers s a i j
      of (inl y) = absurd (some y.tree)
      of (inr v) = inr (record { part = v.part; at = v.at; first = v.first; rest = steps_end MemberStep s v.part b a v.at m j v.rest (record { part = c; at = j; first = x; rest = record { tree = e; at = refl } }) })

  label_no_brace : (s : Text) {a : StmtTree} {i j : ℕ} → Label place s a i j → same_terminal (terminal (s i)) t.RightBrace ≡ false
  label_no_brace s {a} {i} {j} d = (member_first _ (member_begins place most given s {a = a} {i = i} {j = j} (g.label d))).0

  in_members : (s : Text) (c : StmtTree) (b : List StmtTree) (a : List StmtTree) (m j : ℕ) → Same b s a m j → among no_follow (terminal (s j)) ≡ false → AfterStatement c (terminal (s m))
  in_members s c b a m j d last = in_block c _ (same_after (λ y. among no_follow y ≡ false) s b a m j d last)

  member_step_laws : (b : List StmtTree) → Laws most (r.next_member place most room nested b) (MemberStep b) InBlock TallList
  unfolding r.next_member
  member_step_laws b = seq (u p.Member) (λ c. pure_laws most (b ++ c ∷ []) InBlock TallList) (λ s c m a j d last. in_members s c (b ++ c ∷ []) a m j d last) (λ s c m a j d at h. tall.tall_end stmt_nodes_at room b c a d.tree h)

  members_laws : Laws most (r.members place most room nested) (λ s a i j. Members place s a i j) (Before t.RightBrace) TallList
  unfolding r.members
  members_laws = renamed (λ s a i j. Members place s a i j) (Before t.RightBrace)
      (alt (is t.RightBrace) (pure_laws most [] (Before t.RightBrace) TallList)
      (renamed SomeMembers (Before t.RightBrace)
      (rep_by {Q = MemberStep} {E = InBlock} inside
      (seq (u p.Label) (λ c. pure_laws most (c ∷ []) InBlock TallList) (λ s c m a j d last. tt) (λ s c m a j d at h. tall.tall_one stmt_nodes_at room c a d.tree h))
      member_step_laws
      (λ s x a i j d. is_inside _ (member_first _ (member_begins place most given s d.first)).0)
      (λ s x a i j d. let h = member_forward place most given s d.first in let e = d.rest.at in omega arith)
      (λ s x a i j d. (member_first _ (member_begins place most given s d.first)).1.0)
      (λ s x a i j d at h. tall.tall_before stmt_nodes_at room x d.part a d.rest.tree h))
      (λ s a i j d. d) (λ s a i j d. d) (λ a x e. (none_of no_follow x t.RightBrace e brace_follow, ap inside e ∙ brace_inside)))
      (λ s a i j d last. is_kind _ _ (same_after (λ y. y ≡ t.RightBrace) s [] a i j d last))
      (λ s a i j d last. label_no_brace s d.first.first))
      to_members (λ s a i j d. from_members s d) (λ a x e. e)

  abbrev Switched : ℕ → ExprTree → Rel StmtTree
  Switched i x = Word t.LeftBrace (λ _. Then (λ s a i j. Members place s a i j) (λ ms. Word t.RightBrace (λ _. Same (stmt.Switch (place i) x ms))))

  abbrev pub SwitchRel : ℕ → Rel StmtTree
  SwitchRel i = Word t.Switch (λ _. InParens (Switched i))

  switched_laws : (i : ℕ) (x : ExprTree) → Laws most (r.switched place most room nested i x) (Switched i x) AfterStatement TallStmt
  unfolding r.switched
  switched_laws i x = tok t.LeftBrace refl (λ _. seq members_laws (λ ms. tok t.RightBrace refl (λ _. pure_laws most (stmt.Switch (place i) x ms) AfterStatement TallStmt)) (λ s ms m a j d last. d.kind)
      (λ s ms m a j d at h. tall.tall_switch_members room (place i) x ms a d.rest.tree h))

  switch_laws : (i : ℕ) → Laws most (r.switch place most room nested i) (SwitchRel i) AfterStatement TallStmt
  unfolding r.switch
  switch_laws i = tok t.Switch refl (λ _. in_parens_laws (r.switched place most room nested i) (Switched i) AfterStatement (switched_laws i)
      (λ x s a m j d at h. tall.tall_switch_value room (place i) x d.rest.part a d.rest.rest.rest.tree h))

  to_switch : (s : Text) (a : StmtTree) (i j : ℕ) → SwitchRel i s a i j → Statement place s a i j
  to_switch s a i j d = let w = d.rest.rest.rest.rest in g.switch d.kind d.rest.kind d.rest.rest.first d.rest.rest.rest.kind w.kind w.rest.first w.rest.rest.kind w.rest.rest.rest.tree w.rest.rest.rest.at

  -- ---- `if` or `switch`

  abbrev pub BranchRel : ℕ → Rel StmtTree
  BranchRel i = Either (ChoiceRel i) (SwitchRel i)

  two_branches : (same_terminal t.Switch t.If ≡ false) × (among branch_words t.If ≡ true) × (among branch_words t.Switch ≡ true)
  unfolding same_terminal
  two_branches = (refl, refl, refl)

  pub branching_laws : (i : ℕ) → Laws most (r.branching place most room nested i) (BranchRel i) AfterStatement TallStmt
  unfolding r.branching
  branching_laws i = alt (is t.If) (choice_laws i) (switch_laws i) (λ s a m j d last. is_kind _ _ d.kind) (λ s a m j d last. is_not _ t.Switch t.If d.kind two_branches.0)

  pub branch_begins : (i : ℕ) (s : Text) (a : StmtTree) (m j : ℕ) → BranchRel i s a m j → among branch_words (terminal (s m)) ≡ true
  branch_begins i s a m j (inl d) = Begins.is_among branch_words _ t.If d.kind two_branches.1
  branch_begins i s a m j (inr d) = Begins.is_among branch_words _ t.Switch d.kind two_branches.2

  pub to_branch : (s : Text) (a : StmtTree) (i j : ℕ) → BranchRel i s a i j → Statement place s a i j
  to_branch s a i j (inl d) = to_choice s a i j d
  to_branch s a i j (inr d) = to_switch s a i j d

  -- ---- leaving

  abbrev JumpRel : ℕ → Rel StmtTree
  JumpRel i = Operator (among jumps) (λ v. Then (λ s a i j. MaybeName place s a i j) (λ l. Word t.Semicolon (λ _. Same (jump (terminal v) (place i) l))))

  jump_facts : (among jumps t.Break ≡ true) × (among jumps t.Other ≡ false) × (same_terminal t.Semicolon t.Word ≡ false) × (among jumps t.Return ≡ false) × (among jumps t.Throw ≡ false) × (same_terminal t.Throw t.Return ≡ false) × (among leave_words t.Return ≡ true) × (among leave_words t.Throw ≡ true)
  unfolding same_terminal
  jump_facts = (refl, refl, refl, refl, refl, refl, refl, refl)

  jump_token : (x : Terminal) → among jumps x ≡ true → is_token x ≡ true
  jump_token t.Other e = absurd (both_ways (among jumps t.Other) jump_facts.1 e)
  jump_token _ e = refl

  jump_laws : (i : ℕ) → Laws most (r.jumped place most room nested i) (JumpRel i) AfterStatement TallStmt
  unfolding r.jumped
  jump_laws i = op {Q = λ v. Then (λ s a i j. MaybeName place s a i j) (λ l. Word t.Semicolon (λ _. Same (jump (terminal v) (place i) l)))} (among jumps) t.Break refl jump_facts.0 jump_token
      (λ v. seq (maybe_name_laws place most) (λ l. tok t.Semicolon refl (λ _. pure_laws most (jump (terminal v) (place i) l) AfterStatement TallStmt)) (λ s l m a j d last. is_not _ t.Semicolon t.Word d.kind jump_facts.2) (λ s l m a j d at h. absurd h))

  to_jump : (s : Text) (a : StmtTree) (i j : ℕ) → JumpRel i s a i j → Statement place s a i j
  to_jump s a i j d = g.jump_to d.kind d.rest.first d.rest.rest.kind d.rest.rest.rest.tree d.rest.rest.rest.at

  abbrev ReturnRel : ℕ → Rel StmtTree
  ReturnRel i = Word t.Return (λ _. Then (λ s a i j. MaybeExpression place s a i j) (λ x. Word t.Semicolon (λ _. Same (stmt.Return (place i) x))))

  return_laws : (i : ℕ) → Laws most (r.returned place most room nested i) (ReturnRel i) AfterStatement TallStmt
  unfolding r.returned
  return_laws i = tok t.Return refl (λ _. seq (maybe_value_laws place most given room) (λ x. tok t.Semicolon refl (λ _. pure_laws most (stmt.Return (place i) x) AfterStatement TallStmt)) (λ s x m a j d last. d.kind)
      (λ s x m a j d at h. tall.tall_return_value room (place i) x a d.rest.tree h))

  abbrev ThrowRel : ℕ → Rel StmtTree
  ThrowRel i = Word t.Throw (λ _. Then (λ s a i j. Expression place s a i j) (λ x. Word t.Semicolon (λ _. Same (stmt.Throw (place i) x))))

  throw_laws : (i : ℕ) → Laws most (r.thrown place most room nested i) (ThrowRel i) AfterStatement TallStmt
  unfolding r.thrown
  throw_laws i = tok t.Throw refl (λ _. seq (value_laws place most given room) (λ x. tok t.Semicolon refl (λ _. pure_laws most (stmt.Throw (place i) x) AfterStatement TallStmt)) (λ s x m a j d last. value_ends place most given room x _ t.Semicolon d.kind sign_facts.3)
      (λ s x m a j d at h. tall.tall_throw_value room (place i) x a d.rest.tree h))

  abbrev pub LeaveRel : ℕ → Rel StmtTree
  LeaveRel i = Either (JumpRel i) (Either (ReturnRel i) (ThrowRel i))

  no_jump : (i : ℕ) (s : Text) (a : StmtTree) (m j : ℕ) → Either (ReturnRel i) (ThrowRel i) s a m j → among jumps (terminal (s m)) ≡ false
  no_jump i s a m j (inl d) = none_of jumps _ t.Return d.kind jump_facts.3
  no_jump i s a m j (inr d) = none_of jumps _ t.Throw d.kind jump_facts.4

  pub leaving_laws : (i : ℕ) → Laws most (r.leaving place most room nested i) (LeaveRel i) AfterStatement TallStmt
  unfolding r.leaving
  leaving_laws i = alt (among jumps) (jump_laws i) (alt (is t.Return) (return_laws i) (throw_laws i) (λ s a m j d last. is_kind _ _ d.kind) (λ s a m j d last. is_not _ t.Throw t.Return d.kind jump_facts.5))
      (λ s a m j d last. d.kind) (λ s a m j d last. no_jump i s a m j d)

  jump_leave : (x : Terminal) → among jumps x ≡ true → among leave_words x ≡ true
  unfolding same_terminal
  jump_leave = each (λ x. among leave_words x ≡ true) jumps (refl, (refl, tt))

  pub leave_begins : (i : ℕ) (s : Text) (a : StmtTree) (m j : ℕ) → LeaveRel i s a m j → among leave_words (terminal (s m)) ≡ true
  leave_begins i s a m j (inl d) = jump_leave _ d.kind
  leave_begins i s a m j (inr (inl d)) = Begins.is_among leave_words _ t.Return d.kind jump_facts.6
  leave_begins i s a m j (inr (inr d)) = Begins.is_among leave_words _ t.Throw d.kind jump_facts.7

  pub to_leave : (s : Text) (a : StmtTree) (i j : ℕ) → LeaveRel i s a i j → Statement place s a i j
  to_leave s a i j (inl d) = to_jump s a i j d
  to_leave s a i j (inr (inl d)) = g.return d.kind d.rest.first d.rest.rest.kind d.rest.rest.rest.tree d.rest.rest.rest.at
  to_leave s a i j (inr (inr d)) = g.throw d.kind d.rest.first d.rest.rest.kind d.rest.rest.rest.tree d.rest.rest.rest.at

  -- ---- `try`

  abbrev CatchStep : List StmtTree → Rel (List StmtTree)
  CatchStep b = Then (λ s a i j. Catch place s a i j) (λ c. Same (b ++ c ∷ []))

  to_catches : (s : Text) (a : List StmtTree) (i j : ℕ) → Then (Same []) (λ b v c m k. Steps CatchStep v b c m k) s a i j → Catches place s a i j
  to_catches s a i j d = steps_fold CatchStep (λ s a i j. Catches place s a i j) s i
      (λ b c m k h o. g.next_catch h (subst (λ (z : ℕ). Catch place s o.part m z) (sym o.rest.at) o.first) o.rest.tree)
      d.part a d.at j (g.no_catches d.first.tree d.first.at) d.rest

  from_catches : (s : Text) {a : List StmtTree} {i j : ℕ} → Catches place s a i j → Then (Same []) (λ b v c m k. Steps CatchStep v b c m k) s a i j
  from_catches s {a} {i} {j} (g.no_catches e at) = record { part = a; at = j; first = record { tree = e; at = at }; rest = done refl refl }
  from_catches s {a} {i} {j} (g.next_catch {b = b} {c = c} {m = m} d x e) =
      let v = from_catches s d in
      record { part = v.part; at = v.at; first = v.first; rest = steps_end CatchStep s v.part b a v.at m j v.rest (record { part = c; at = j; first = x; rest = record { tree = e; at = refl } }) }

  catch_begins : (s : Text) {a : StmtTree} {i j : ℕ} → Catch place s a i j → terminal (s i) ≡ t.Catch
  catch_begins s (g.catch o p f ty w c b e) = o

  abbrev NoCatch : {A : Type 0} → A → Terminal → Type 0
  NoCatch a k = same_terminal k t.Catch ≡ false

  catches_laws : Laws most (r.catches place most room nested) (λ s a i j. Catches place s a i j) NoCatch TallList
  unfolding r.catches r.next_catch
  catches_laws = renamed (λ s a i j. Catches place s a i j) NoCatch
      (rep {Q = CatchStep} {E = Any} (is t.Catch) (pure_laws most [] Any TallList)
      (λ b. seq (u p.Catch) (λ c. pure_laws most (b ++ c ∷ []) Any TallList) (λ s c m a j d last. tt) (λ s c m a j d at h. tall.tall_end stmt_nodes_at room b c a d.tree h))
      (λ s x a i j d. is_kind _ _ (catch_begins s d.first))
      (λ s x a i j d. let h = catch_forward place most given s d.first in let e = d.rest.at in omega arith)
      (λ a x e. tt)
      (λ s x a i j d at h. tall.tall_before stmt_nodes_at room x d.part a d.rest.tree h))
      to_catches (λ s a i j d. from_catches s d) (λ a x e. (tt, e))

  abbrev FinallyRel : ℕ → StmtTree → List StmtTree → Rel StmtTree
  FinallyRel i b cs = Word t.Finally (λ _. Then BlockRel (λ f. Same (stmt.TryFinally (place i) b cs f)))

  finally_laws : (i : ℕ) (b : StmtTree) (cs : List StmtTree) → Laws most (r.finally place most room nested i b cs) (FinallyRel i b cs) AfterStatement TallStmt
  unfolding r.finally
  finally_laws i b cs = tok t.Finally refl (λ _. seq (u p.Block) (λ f. pure_laws most (stmt.TryFinally (place i) b cs f) AfterStatement TallStmt) (λ s f m a j d last. tt)
      (λ s f m a j d at h. tall.tall_tryfinally_finally room (place i) b cs f a d.tree h))

  abbrev TryTail : ℕ → StmtTree → List StmtTree → Rel StmtTree
  TryTail i b cs = Either (FinallyRel i b cs) (Guard (cs ≢ []) (Same (stmt.Try (place i) b cs)))

  empty_is : (cs : List StmtTree) → is_empty cs ≡ true → cs ≡ []
  empty_is [] e = refl
  empty_is (c ∷ cs) e = absurd (cc)

  not_empty_is : (cs : List StmtTree) → is_empty cs ≡ false → cs ≢ []
  not_empty_is [] e h = absurd (cc)
  not_empty_is (c ∷ cs) e h = absurd (cc)

  handler_facts : (x : Terminal) → among handlers x ≡ false → (same_terminal x t.Catch ≡ false) × (same_terminal x t.Finally ≡ false)
  handler_facts x e = let w = or_split (same_terminal x t.Catch) _ e in (w.0, (or_split (same_terminal x t.Finally) _ w.1).0)

  finally_no_catch : same_terminal t.Finally t.Catch ≡ false
  unfolding same_terminal
  finally_no_catch = refl

  try_tail_laws : (i : ℕ) (b : StmtTree) (cs : List StmtTree) → Laws most (r.try_tail place most room nested i b cs) (TryTail i b cs) AfterStatement TallStmt
  unfolding r.try_tail
  try_tail_laws i b cs = pick_laws (is_empty cs)
      (λ none. renamed (TryTail i b cs) AfterStatement (finally_laws i b cs) (λ s a m j d. inl d) (λ s a m j d. elim d [ inl x ↦ x | inr y ↦ absurd (y.holds (empty_is cs none)) ]) (λ a x e. e))
      (λ some. renamed (TryTail i b cs) AfterStatement
      (alt (is t.Finally) (finally_laws i b cs) (pure_laws most (stmt.Try (place i) b cs) AfterStatement TallStmt) (λ s a m j d last. is_kind _ _ d.kind)
      (λ s a m j d last. (handler_facts _ (subst (λ (n : ℕ). among handlers (terminal (s n)) ≡ false) d.at last.no_handler)).1))
      (λ s a m j d. elim d [ inl x ↦ inl x | inr y ↦ inr (record { holds = not_empty_is cs some; stands = y }) ])
      (λ s a m j d. elim d [ inl x ↦ inl x | inr y ↦ inr y.stands ]) (λ a x e. e))

  abbrev TryRest : ℕ → StmtTree → Rel StmtTree
  TryRest i b = Then (λ s a i j. Catches place s a i j) (TryTail i b)

  tail_no_catch : (i : ℕ) (b : StmtTree) (s : Text) (cs : List StmtTree) (m : ℕ) (a : StmtTree) (j : ℕ) → TryTail i b cs s a m j → AfterStatement a (terminal (s j)) → same_terminal (terminal (s m)) t.Catch ≡ false
  tail_no_catch i b s cs m a j (inl d) last = is_not _ t.Finally t.Catch d.kind finally_no_catch
  tail_no_catch i b s cs m a j (inr d) last = (handler_facts _ (subst (λ (n : ℕ). among handlers (terminal (s n)) ≡ false) d.stands.at last.no_handler)).0

  catches_high : (i : ℕ) (b : StmtTree) (s : Text) (cs : List StmtTree) (m : ℕ) (a : StmtTree) (j : ℕ) → TryTail i b cs s a m j → (at : Span) → SomeStmtHasNode (suc room) at cs → TallStmt at a
  catches_high i b s cs m a j (inl d) at h = tall.tall_tryfinally_catches room (place i) b cs d.rest.part a d.rest.rest.tree h
  catches_high i b s cs m a j (inr d) at h = tall.tall_try_catches room (place i) b cs a d.stands.tree h

  tried_high : (i : ℕ) (b : StmtTree) (s : Text) (cs : List StmtTree) (m : ℕ) (a : StmtTree) (j : ℕ) → TryTail i b cs s a m j → (at : Span) → StmtHasNode (suc room) at b → TallStmt at a
  tried_high i b s cs m a j (inl d) at h = tall.tall_tryfinally_body room (place i) b cs d.rest.part a d.rest.rest.tree h
  tried_high i b s cs m a j (inr d) at h = tall.tall_try_body room (place i) b cs a d.stands.tree h

  abbrev TryRel : ℕ → Rel StmtTree
  TryRel i = Word t.Try (λ _. Then BlockRel (TryRest i))

  try_laws : (i : ℕ) → Laws most (r.tried place most room nested i) (TryRel i) AfterStatement TallStmt
  unfolding r.tried
  try_laws i = tok t.Try refl (λ _. seq (u p.Block) (λ b. seq catches_laws (λ cs. try_tail_laws i b cs) (λ s cs m a j d last. tail_no_catch i b s cs m a j d last) (λ s cs m a j d at h. catches_high i b s cs m a j d at h))
      (λ s b m a j d last. tt) (λ s b m a j d at h. tried_high i b s d.part d.at a j d.rest at h))

  to_try : (s : Text) (a : StmtTree) (i j : ℕ) → TryRel i s a i j → Statement place s a i j
  to_try s a i j d = of d.rest.rest.part d.rest.rest.at d.rest.rest.first d.rest.rest.rest
    where
      of : (cs : List StmtTree) (m : ℕ) → Catches place s cs d.rest.at m → TryTail i d.rest.part cs s a m j → Statement place s a i j
      of cs m c (inl x) = g.try_finally d.kind d.rest.first c x.kind (subst (λ (z : ℕ). Block place s x.rest.part (suc m) z) (sym x.rest.rest.at) x.rest.first) x.rest.rest.tree
      of cs m c (inr y) = g.try d.kind d.rest.first (subst (λ (z : ℕ). Catches place s cs d.rest.at z) (sym y.stands.at) c) y.holds y.stands.tree

  -- ---- `synchronized`

  abbrev NameRel : Rel NamedPlace
  NameRel = λ s a i j. NameAt place most i s a i j

  abbrev ClassLock : ℕ → Rel StmtTree
  ClassLock i = Then NameRel (λ x. Word t.Dot (λ _. Word t.Class (λ _. Word t.RightParen (λ _. Then BlockRel (λ b. Same (stmt.SynchronizedClass (place i) x b))))))

  abbrev ObjectLock : ℕ → Rel StmtTree
  ObjectLock i = Then (λ s a i j. Expression place s a i j) (λ x. Word t.RightParen (λ _. Then BlockRel (λ b. Same (stmt.Synchronized (place i) x b))))

  class_rest : (i : ℕ) (x : NamedPlace) → Laws most (sign t.Dot (sign t.Class (sign t.RightParen (nested p.Block >>= λ b. pure (stmt.SynchronizedClass (place i) x b))))) (Word t.Dot (λ _. Word t.Class (λ _. Word t.RightParen (λ _. Then BlockRel (λ b. Same (stmt.SynchronizedClass (place i) x b)))))) AfterStatement TallStmt
  class_rest i x = tok t.Dot refl (λ _. tok t.Class refl (λ _. tok t.RightParen refl (λ _. seq (u p.Block) (λ b. pure_laws most (stmt.SynchronizedClass (place i) x b) AfterStatement TallStmt) (λ s b m a j d last. tt)
      (λ s b m a j d at h. tall.tall_synchronizedclass_body room (place i) x b a d.tree h))))

  class_laws : (i : ℕ) → Laws most (r.class_lock place most room nested i) (ClassLock i) AfterStatement TallStmt
  unfolding r.class_lock
  class_laws i = seq (name_laws place most Any Never) (class_rest i) (λ s x m a j d last. tt) (λ s x m a j d at h. absurd h)

  object_laws : (i : ℕ) → Laws most (r.object_lock place most room nested i) (ObjectLock i) AfterStatement TallStmt
  unfolding r.object_lock
  object_laws i = seq (value_laws place most given room) (λ x. tok t.RightParen refl (λ _. seq (u p.Block) (λ b. pure_laws most (stmt.Synchronized (place i) x b) AfterStatement TallStmt) (λ s b m a j d last. tt)
      (λ s b m a j d at h. tall.tall_synchronized_body room (place i) x b a d.tree h)))
      (λ s x m a j d last. value_ends place most given room x _ t.RightParen d.kind sign_facts.2)
      (λ s x m a j d at h. tall.tall_synchronized_lock room (place i) x d.rest.part a d.rest.rest.tree h)

  -- a name in place of a lock is read
  class_name : (s : Text) (m : ℕ) → same_terminal (terminal (s m)) t.Word ≡ true → r.name_at place most s m ≡ Found (record { at = place m; name = (s m).text }) (suc m)
  unfolding r.name_at
  class_name s m w = ap (λ (b : Bool). cond b (Found (record { at = place m; name = (s m).text }) (suc m)) (Wrong m)) w

  class_stop : (i : ℕ) (s : Text) (m n : ℕ) → is_class_lock s m ≡ true → n ≤ suc (suc m) → n ≤ stop (r.class_lock place most room nested i s m)
  unfolding r.class_lock
  class_stop i s m n e le =
      let w = and_first_true (same_terminal (terminal (s m)) t.Word) _ e in
      let d = and_first_true (same_terminal (terminal (s (suc m))) t.Dot) _ (and_second_true (same_terminal (terminal (s m)) t.Word) _ e) in
      let x : NamedPlace = record { at = place m; name = (s m).text } in
      stop_found (r.name_at place most s m) (λ x k. sign t.Dot (sign t.Class (sign t.RightParen (nested p.Block >>= λ b. pure (stmt.SynchronizedClass (place i) x b)))) s k) x (suc m) n (class_name s m w)
      (stop_word t.Dot (λ _. sign t.Class (sign t.RightParen (nested p.Block >>= λ b. pure (stmt.SynchronizedClass (place i) x b)))) s (suc m) n d
      (let h = forth (tok {E = AfterStatement} t.Class refl (λ _. tok t.RightParen refl (λ _. seq (u p.Block) (λ b. pure_laws most (stmt.SynchronizedClass (place i) x b) AfterStatement TallStmt) (λ s b m a j d last. tt)
      (λ s b m a j d at h. tall.tall_synchronizedclass_body room (place i) x b a d.tree h)))) s (suc (suc m)) in omega arith))

  object_stop : (i : ℕ) (s : Text) (m n : ℕ) → n ≤ stop (r.value place most room s m) → n ≤ stop (r.object_lock place most room nested i s m)
  unfolding r.object_lock
  object_stop i s m n h =
      let k = stop_then (r.value place most room s m) (λ x k. sign t.RightParen (nested p.Block >>= λ b. pure (stmt.Synchronized (place i) x b)) s k)
      (λ x k. forth (tok {E = AfterStatement} t.RightParen refl (λ _. seq (u p.Block) (λ b. pure_laws most (stmt.Synchronized (place i) x b) AfterStatement TallStmt) (λ s b m a j d last. tt)
      (λ s b m a j d at h. tall.tall_synchronized_body room (place i) x b a d.tree h))) s k) in
      omega arith

  class_seen : (i : ℕ) (s v : Text) (m : ℕ) → ((x : ℕ) → x ≤ stop (ahead is_class_lock (r.class_lock place most room nested i) (r.object_lock place most room nested i) s m) → v x ≡ s x) → is_class_lock v m ≡ is_class_lock s m
  class_seen i s v m same = class_depends s v m (same m (reach m (λ e. omega arith) (λ e. forth (object_laws i) s m)))
      (λ w. same (suc m) (reach (suc m) (λ e. omega arith) (λ e. object_stop i s m (suc m) (value_past place most given s m w room))))
      (λ w d. same (suc (suc m)) (reach (suc (suc m)) (λ e. omega arith) (λ e. object_stop i s m (suc (suc m)) (value_past_dot place most given s m w d room))))
    where
      reach : (n : ℕ) → (is_class_lock s m ≡ true → n ≤ suc (suc m)) → (is_class_lock s m ≡ false → n ≤ stop (r.object_lock place most room nested i s m))
          → n ≤ stop (ahead is_class_lock (r.class_lock place most room nested i) (r.object_lock place most room nested i) s m)
      reach n h k = stop_ahead (r.class_lock place most room nested i s m) (r.object_lock place most room nested i s m) n (is_class_lock s m) (λ e. class_stop i s m n e (h e)) k

  class_is : (i : ℕ) (s : Text) (a : StmtTree) (m j : ℕ) → ClassLock i s a m j → is_class_lock s m ≡ true
  class_is i s a m j d = and_join _ _ (is_kind _ _ d.first.kind) (and_join _ _ (is_kind _ _ (subst (λ (z : ℕ). terminal (s z) ≡ t.Dot) d.first.rest.at d.rest.kind)) (is_kind _ _ (subst (λ (z : ℕ). terminal (s (suc z)) ≡ t.Class) d.first.rest.at d.rest.rest.kind)))

  object_is : (i : ℕ) (s : Text) (a : StmtTree) (m j : ℕ) → ObjectLock i s a m j → is_class_lock s m ≡ false
  object_is i s a m j d = (followed place most given s m d.at (expression_leftmost place most given s d.first) (paren_second _ d.rest.kind)).no_class

  abbrev LockRel : ℕ → Rel StmtTree
  LockRel i = Word t.Synchronized (λ _. Word t.LeftParen (λ _. Either (ClassLock i) (ObjectLock i)))

  lock_laws : (i : ℕ) → Laws most (r.locked place most room nested i) (LockRel i) AfterStatement TallStmt
  unfolding r.locked
  lock_laws i = tok t.Synchronized refl (λ _. tok t.LeftParen refl (λ _. ahead_laws most is_class_lock (r.class_lock place most room nested i) (r.object_lock place most room nested i) (ClassLock i) (ObjectLock i) AfterStatement TallStmt
      (class_laws i) (object_laws i) (class_seen i) (λ s a m j d last. class_is i s a m j d) (λ s a m j d last. object_is i s a m j d)))

  to_lock : (s : Text) (a : StmtTree) (i j : ℕ) → LockRel i s a i j → Statement place s a i j
  to_lock s a i j d = of d.rest.rest
    where
      of : Either (ClassLock i) (ObjectLock i) s a (suc (suc i)) j → Statement place s a i j
      of (inl c) =
          let x = c.first in
          let w = subst (λ (z : ℕ). Word t.Dot (λ _. Word t.Class (λ _. Word t.RightParen (λ _. Then BlockRel (λ b. Same (stmt.SynchronizedClass (place i) c.part b))))) s a z j) x.rest.at c.rest in
          g.synchronized_class d.kind d.rest.kind x.kind w.kind w.rest.kind w.rest.rest.kind
          (subst (λ (z : ℕ). Block place s w.rest.rest.rest.part (suc (suc (suc (suc (suc (suc i)))))) z) (sym w.rest.rest.rest.rest.at) w.rest.rest.rest.first)
          (w.rest.rest.rest.rest.tree ∙ ap (λ (y : NamedPlace). stmt.SynchronizedClass (place i) y w.rest.rest.rest.part) x.rest.tree)
      of (inr o) = g.synchronized d.kind d.rest.kind o.first o.rest.kind (subst (λ (z : ℕ). Block place s o.rest.rest.part (suc o.at) z) (sym o.rest.rest.rest.at) o.rest.rest.first) o.rest.rest.rest.tree

  -- ---- `synchronized` or `try`

  abbrev pub GuardRel : ℕ → Rel StmtTree
  GuardRel i = Either (LockRel i) (TryRel i)

  guard_facts : (same_terminal t.Try t.Synchronized ≡ false) × (among guard_words t.Synchronized ≡ true) × (among guard_words t.Try ≡ true)
  unfolding same_terminal
  guard_facts = (refl, refl, refl)

  pub guarding_laws : (i : ℕ) → Laws most (r.guarding place most room nested i) (GuardRel i) AfterStatement TallStmt
  unfolding r.guarding
  guarding_laws i = alt (is t.Synchronized) (lock_laws i) (try_laws i) (λ s a m j d last. is_kind _ _ d.kind) (λ s a m j d last. is_not _ t.Try t.Synchronized d.kind guard_facts.0)

  pub guard_begins : (i : ℕ) (s : Text) (a : StmtTree) (m j : ℕ) → GuardRel i s a m j → among guard_words (terminal (s m)) ≡ true
  guard_begins i s a m j (inl d) = Begins.is_among guard_words _ t.Synchronized d.kind guard_facts.1
  guard_begins i s a m j (inr d) = Begins.is_among guard_words _ t.Try d.kind guard_facts.2

  pub to_guard : (s : Text) (a : StmtTree) (i j : ℕ) → GuardRel i s a i j → Statement place s a i j
  to_guard s a i j (inl d) = to_lock s a i j d
  to_guard s a i j (inr d) = to_try s a i j d

  -- ---- a catch

  abbrev Caught : ℕ → Bool → TypeTree → NamedPlace → Rel StmtTree
  Caught i f ty x = Word t.RightParen (λ _. Then BlockRel (λ b. Same (stmt.Catch (place i) f (ty ∷ []) x b)))

  abbrev CatchRel : ℕ → Rel StmtTree
  CatchRel i = Word t.Catch (λ _. Word t.LeftParen (λ _. Then (λ s a i j. MaybeFinal s a i j) (λ f. Then (λ s a i j. TypeAt place s a i j) (λ ty. Then NameRel (Caught i f ty)))))

  name_no_bracket : (s : Text) (x : NamedPlace) (m j : ℕ) → NameRel s x m j → same_terminal (terminal (s m)) t.LeftBracket ≡ false
  unfolding same_terminal
  name_no_bracket s x m j d = is_not (terminal (s m)) t.Word t.LeftBracket d.kind refl

  pub catch_laws : Laws most (r.catch place most room nested) (λ s a i j. Catch place s a i j) Any TallStmt
  unfolding r.catch
  catch_laws = renamed (λ s a i j. Catch place s a i j) Any
      (start {D = CatchRel} (λ i. tok t.Catch refl (λ _. tok t.LeftParen refl (λ _. seq (final_laws most) (λ f. seq given.type_laws (λ ty. seq (name_laws place most Any Never)
      (λ x. tok t.RightParen refl (λ _. seq (u p.Block) (λ b. pure_laws most (stmt.Catch (place i) f (ty ∷ []) x b) Any TallStmt) (λ s b m a j d last. tt) (λ s b m a j d at h. tall.tall_catch_body room (place i) f (ty ∷ []) x b a d.tree h)))
      (λ s x m a j d last. tt) (λ s x m a j d at h. absurd h))
      (λ s ty m a j d last. name_no_bracket s d.part m d.at d.first) (λ s ty m a j d at h. absurd h))
      (λ s f m a j d last. type_no_final place s d.first) (λ s f m a j d at h. absurd h)))))
      to_catch from_catch (λ a x e. e)
    where
      to_catch : (s : Text) (a : StmtTree) (i j : ℕ) → CatchRel i s a i j → Catch place s a i j
      to_catch s a i j d =
          let f = d.rest.rest in
          let ty = f.rest in
          let x = ty.rest in
          let c = subst (λ (z : ℕ). Caught i f.part ty.part x.part s a z j) x.first.rest.at x.rest in
          g.catch d.kind d.rest.kind f.first ty.first x.first.kind c.kind (subst (λ (z : ℕ). Block place s c.rest.part (suc (suc ty.at)) z) (sym c.rest.rest.at) c.rest.first)
          (c.rest.rest.tree ∙ ap (λ (y : NamedPlace). stmt.Catch (place i) f.part (ty.part ∷ []) y c.rest.part) x.first.rest.tree)

      from_catch : (s : Text) (a : StmtTree) (i j : ℕ) → Catch place s a i j → CatchRel i s a i j
      from_catch s a i j (g.catch {f = f} {ty = ty} {b = b} {k = k} {m = m} o q fin typ w c d e) = record {
        kind = o;
        rest = record {
          kind = q;
          rest = record {
            part = f;
            at = k;
            first = fin;
            rest = record {
              part = ty;
              at = m;
              first = typ;
              rest = record { part = record { at = place m; name = (s m).text }; at = suc m; first = record { kind = w; rest = record { tree = refl; at = refl } }; rest = record { kind = c; rest = record { part = b; at = j; first = d; rest = record { tree = e; at = refl } } } };
            };
          };
        };
      }
