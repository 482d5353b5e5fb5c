-- The laws of the small parts of statements.
use Rattle.std.proofs.Common.{◌≡◌, ℕ, zero, suc, ◌<◌, inl, inr, Bool, true, false, cond, refl, sym, ap, ◌∙◌, subst, arith, le_refl, List, [], ◌∷◌, ◌++◌, Option, Some, None}
use Rattle.std.specs.Prelude.{◌-◌, Contains}
use Rattle.std.proofs.lemmas.Bool.{both_ways}
use Rattle.std.proofs.lemmas.List.Elements.{Contains-append_left, Contains-append_right}
use Rattle.bj_base.specs.declared.span.Span.{Span}
use Rattle.bj_token.specs.declared.token.Token.{Token}
use Rattle.bj_expr_tree.specs.declared.types.TypeTree.{TypeTree}
use Rattle.bj_expr_tree.specs.declared.types.NamedPlace.{NamedPlace}
use Rattle.bj_expr_tree.specs.declared.expr.ExprTree.{ExprTree}
use Rattle.bj_expr_tree.specs.declared.expr.ExprTree.TheVariants as tree
use Rattle.bj_tree.specs.declared.stmt.VariableTree.{VariableTree}
use Rattle.bj_tree.specs.declared.stmt.StmtTree.{StmtTree}
use Rattle.bj_tree.specs.declared.stmt.StmtTree.TheVariants as stmt
use Rattle.bj_grammar.specs.declared.terminal.Terminal.{Terminal}
use Rattle.bj_grammar.specs.declared.terminal.Terminal.TheVariants as t
use Rattle.bj_grammar.specs.Terminal.{terminal, same_terminal, among}
use Rattle.bj_grammar.specs.Reader.{Text, Parser, ◌>>=◌, pure, unless_deep, loop}
use Rattle.bj_grammar.proofs.Terminals.{is_token}
use Rattle.bj_grammar.proofs.Laws.{Rel, Laws, Then, Same, Word, Either, Steps, done, pure_laws, over_laws, steps_end, steps_fold, is_kind, kind_is, seq, alt, tok, op, Operator, start, renamed, rep}
use Rattle.bj_expr.specs.declared.part.Part.TheVariants as part
use Rattle.bj_expr.specs.Grammar as ge
use Rattle.bj_expr.specs.Grammar.{assigns, assign_op, type_words, Dims, TypeAt, Expression, Unary, Initializer}
use Rattle.bj_expr.specs.Reading.{is, type_at, limited}
use Rattle.bj_expr.specs.Nodes.{nodes_at, HasNode, first}
use Rattle.bj_expr.proofs.NodeForms.{assign_below}
use Rattle.bj_stmt.specs.Grammar as g
use Rattle.bj_stmt.specs.Grammar.{MaybeFinal, MaybeInit, MaybeExpression, MaybeName, Variable, Variables, Declaration, StatementExpression, Evaluation, ConstructorCall, Label, is_statement, Expressions, MaybeExpressions}
use Rattle.bj_stmt.specs.Reading as r
use Rattle.bj_stmt.specs.Nodes.{variable_nodes, StmtHasNode, SomeVariableHasNode}
use Rattle.bj_stmt.proofs.Expressions.{Given, expression_words, enders, Never}
use Rattle.bj_stmt.proofs.StmtTall as tall
use Rattle.bj_stmt.proofs.StmtTall.{SomeExprHasNode, OptionHasNode, VariableHasNode}
use Rattle.bj_stmt.proofs.Leftmost.{each, is_not}

-- ---- general steps

-- what stands behind a rule stands behind one that ends with it
pub same_after : {A : Type 0} (F : Terminal → Type 0) (s : Text) (b a : A) (i j : ℕ) → Same b s a i j → F (terminal (s j)) → F (terminal (s i))
same_after F s b a i j d last = subst (λ (n : ℕ). F (terminal (s n))) d.at last

pub pick_laws : {A : Type 0} {n : ℕ} {p q : Parser A} {D : Rel A} {E : A → Terminal → Type 0} {T : Span → A → Type 0} (b : Bool) → (b ≡ true → Laws n p D E T) → (b ≡ false → Laws n q D E T) → Laws n (cond b p q) D E T
pick_laws true u v = u refl
pick_laws false u v = v refl

-- What goes on behind an operand that has no node with so many above it. Where it has one, that node has to be too deep in what is read.
pub limited_then : {B : Type 0} {n : ℕ} {Q : Rel B} {E : B → Terminal → Type 0} {T : Span → B → Type 0} (f : ExprTree → Parser B) (k : ℕ) (l : ExprTree) → Laws n (f l) Q E T
    → ((at : Span) → HasNode (suc k) at l → (s : Text) (b : B) (i j : ℕ) → Q s b i j → T at b) → Laws n (limited k l >>= f) Q E T
unfolding limited
limited_then {n} {Q} {E} {T} f k l u deep = of (first (nodes_at l k)) refl
  where
    of : (x : Option Span) → first (nodes_at l k) ≡ x → Laws n (unless_deep x (pure l) >>= f) Q E T
    of None e = u
    of (Some at) e = over_laws n (λ _. at) Q E T u.shape (λ s b i j d. inl (deep at (k, le_refl (suc k), tall.of_front (nodes_at l k) at e) s b i j d))

pub type_no_final : (place : ℕ → Span) (s : Text) {a : TypeTree} {i j : ℕ} → TypeAt place s a i j → same_terminal (terminal (s i)) t.Final ≡ false
unfolding same_terminal
type_no_final place s {i = i} (ge.named o d e) = each (λ x. same_terminal x t.Final ≡ false) type_words (refl, (refl, (refl, (refl, (refl, tt))))) (terminal (s i)) o

-- what may follow a part that nothing limits
abbrev pub Any : {A : Type 0} → A → Terminal → Type 0
Any a k = Unit {0}

-- the next token is this one
abbrev pub Before : {A : Type 0} → Terminal → A → Terminal → Type 0
Before k = λ _ x. x ≡ k

-- what may follow a variable, or an expression in a list
abbrev pub list_ends : List Terminal
list_ends = t.Semicolon ∷ t.Comma ∷ []

abbrev pub InList : {A : Type 0} → A → Terminal → Type 0
InList a x = among list_ends x ≡ true

abbrev ListFacts : Terminal → Type 0
ListFacts x = (among enders x ≡ true) × (same_terminal x t.Assign ≡ false) × (same_terminal x t.LeftBracket ≡ false)

pub list_facts : (x : Terminal) → among list_ends x ≡ true → ListFacts x
unfolding same_terminal
list_facts = each ListFacts list_ends ((refl, refl, refl), ((refl, refl, refl), tt))

pub sign_facts : (among list_ends t.Semicolon ≡ true) × (among list_ends t.Comma ≡ true) × (among enders t.RightParen ≡ true) × (among enders t.Semicolon ≡ true) × (among enders t.Comma ≡ true) × (among enders t.Colon ≡ true) × (same_terminal t.Semicolon t.Comma ≡ false) × (same_terminal t.RightParen t.Comma ≡ false)
unfolding same_terminal
sign_facts = (refl, refl, refl, refl, refl, refl, refl, refl)

pub in_list : (x k : Terminal) → x ≡ k → among list_ends k ≡ true → among list_ends x ≡ true
in_list x k e h = ap (among list_ends) e ∙ h

pub in_enders : (x k : Terminal) → x ≡ k → among enders k ≡ true → among enders x ≡ true
in_enders x k e h = ap (among enders) e ∙ h

not_ender : (x : Terminal) → among expression_words x ≡ true → (same_terminal x t.Semicolon ≡ false) × (same_terminal x t.RightParen ≡ false)
unfolding same_terminal
not_ender = each (λ x. (same_terminal x t.Semicolon ≡ false) × (same_terminal x t.RightParen ≡ false)) expression_words
    ((refl, refl), ((refl, refl), ((refl, refl), ((refl, refl), ((refl, refl), ((refl, refl), ((refl, refl), ((refl, refl), ((refl, refl), ((refl, refl), ((refl, refl), ((refl, refl), ((refl, refl), ((refl, refl), ((refl, refl), ((refl, refl), ((refl, refl), ((refl, refl), tt))))))))))))))))))

-- ---- `final`, names

module _ (most : ℕ) where
  to_final : (s : Text) (a : Bool) (i j : ℕ) → Either (Word t.Final (λ _. Same true)) (Same false) s a i j → MaybeFinal s a i j
  to_final s a i j (inl d) = g.final d.kind d.rest.tree d.rest.at
  to_final s a i j (inr d) = g.not_final d.tree d.at

  from_final : (s : Text) {a : Bool} {i j : ℕ} → MaybeFinal s a i j → Either (Word t.Final (λ _. Same true)) (Same false) s a i j
  from_final s (g.not_final e at) = inr (record { tree = e; at = at })
  from_final s (g.final o e at) = inl (record { kind = o; rest = record { tree = e; at = at } })

  pub final_laws : Laws most r.maybe_final (λ s a i j. MaybeFinal s a i j) (λ _ x. same_terminal x t.Final ≡ false) Never
  unfolding r.maybe_final
  final_laws = renamed (λ s a i j. MaybeFinal s a i j) (λ _ x. same_terminal x t.Final ≡ false)
      (alt (is t.Final) (tok t.Final refl (λ _. pure_laws most true (λ _ x. same_terminal x t.Final ≡ false) Never)) (pure_laws most false (λ _ x. same_terminal x t.Final ≡ false) Never)
      (λ s a i j d last. is_kind _ _ d.kind)
      (λ s a i j d last. same_after (λ x. same_terminal x t.Final ≡ false) s false a i j d last))
      to_final (λ s a i j d. from_final s d) (λ a x e. e)

module _ (place : ℕ → Span) (most : ℕ) where
  -- a name stands where a word does
  abbrev pub NameAt : ℕ → Rel NamedPlace
  NameAt m = Word t.Word (λ v. Same (record { at = place m; name = v }))

  pub name_laws : (E : NamedPlace → Terminal → Type 0) (T : Span → NamedPlace → Type 0) → Laws most (r.name_at place most) (λ s a i j. NameAt i s a i j) E T
  unfolding r.name_at
  name_laws E T = start {D = NameAt} (λ m. tok t.Word refl (λ v. pure_laws most (record { at = place m; name = v }) E T))

  abbrev SomeName : Rel (Option NamedPlace)
  SomeName = Then (λ s a i j. NameAt i s a i j) (λ x. Same (Some x))

  to_name : (s : Text) (a : Option NamedPlace) (i j : ℕ) → Either SomeName (Same None) s a i j → MaybeName place s a i j
  to_name s a i j (inl d) = g.name d.first.kind (d.rest.tree ∙ ap Some d.first.rest.tree) (d.rest.at ∙ d.first.rest.at)
  to_name s a i j (inr d) = g.no_name d.tree d.at

  from_name : (s : Text) {a : Option NamedPlace} {i j : ℕ} → MaybeName place s a i j → Either SomeName (Same None) s a i j
  from_name s (g.no_name e at) = inr (record { tree = e; at = at })
  from_name s {i = i} (g.name o e at) = inl (record { part = record { at = place i; name = (s i).text }; at = suc i; first = record { kind = o; rest = record { tree = refl; at = refl } }; rest = record { tree = e; at = at } })

  pub maybe_name_laws : Laws most (r.maybe_name place most) (λ s a i j. MaybeName place s a i j) (λ _ x. same_terminal x t.Word ≡ false) Never
  unfolding r.maybe_name
  maybe_name_laws = renamed (λ s a i j. MaybeName place s a i j) (λ _ x. same_terminal x t.Word ≡ false)
      (alt (is t.Word) (seq (name_laws Any Never) (λ x. pure_laws most (Some x) (λ _ y. same_terminal y t.Word ≡ false) Never) (λ s x m b j d last. tt) (λ s x m b j d at h. h))
      (pure_laws most None (λ _ y. same_terminal y t.Word ≡ false) Never)
      (λ s a i j d last. is_kind _ _ d.first.kind)
      (λ s a i j d last. same_after (λ y. same_terminal y t.Word ≡ false) s None a i j d last))
      to_name (λ s a i j d. from_name s d) (λ a x e. e)

-- ---- expressions

module _ (place : ℕ → Span) (most : ℕ) (given : Given place most) (room : ℕ) where
  abbrev pub ExprRel : Rel ExprTree
  ExprRel = λ s a i j. Expression place s a i j

  pub value_laws : Laws most (r.value place most room) ExprRel (given.After part.Expression) (HasNode (suc room))
  unfolding r.value
  value_laws = given.part_laws room part.Expression

  pub value_ends : (a : ExprTree) (x k : Terminal) → x ≡ k → among enders k ≡ true → given.After part.Expression a x
  value_ends a x k e h = given.ends part.Expression a x (in_enders x k e h)

  abbrev TallOption : Span → Option ExprTree → Type 0
  TallOption = OptionHasNode (suc room)

  abbrev TallExprs : Span → List ExprTree → Type 0
  TallExprs = SomeExprHasNode (suc room)

  to_maybe : (s : Text) (a : Option ExprTree) (i j : ℕ) → Either (Same None) (Then ExprRel (λ x. Same (Some x))) s a i j → MaybeExpression place s a i j
  to_maybe s a i j (inl d) = g.no_expression d.tree d.at
  to_maybe s a i j (inr d) = g.expression (subst (λ (z : ℕ). Expression place s d.part i z) (sym d.rest.at) d.first) d.rest.tree

  from_maybe : (s : Text) {a : Option ExprTree} {i j : ℕ} → MaybeExpression place s a i j → Either (Same None) (Then ExprRel (λ x. Same (Some x))) s a i j
  from_maybe s (g.no_expression e at) = inl (record { tree = e; at = at })
  from_maybe s {j = j} (g.expression {x = x} d e) = inr (record { part = x; at = j; first = d; rest = record { tree = e; at = refl } })

  begins_value : (s : Text) (a : ExprTree) (i j : ℕ) → Expression place s a i j → (same_terminal (terminal (s i)) t.Semicolon ≡ false) × (same_terminal (terminal (s i)) t.RightParen ≡ false)
  begins_value s a i j d = not_ender _ (given.begins part.Expression s a i j d)

  pub maybe_value_laws : Laws most (r.maybe_value place most room) (λ s a i j. MaybeExpression place s a i j) (Before t.Semicolon) TallOption
  unfolding r.maybe_value
  maybe_value_laws = renamed (λ s a i j. MaybeExpression place s a i j) (Before t.Semicolon)
      (alt (is t.Semicolon) (pure_laws most None (Before t.Semicolon) TallOption)
      (seq value_laws (λ x. pure_laws most (Some x) (Before t.Semicolon) TallOption)
      (λ s x m b j d last. value_ends x _ t.Semicolon (same_after (λ y. y ≡ t.Semicolon) s (Some x) b m j d last) sign_facts.3)
      (λ s x m b j d at h. tall.tall_some room x b d.tree h))
      (λ s a i j d last. is_kind _ _ (same_after (λ y. y ≡ t.Semicolon) s None a i j d last))
      (λ s a i j d last. (begins_value s d.part i d.at d.first).0))
      to_maybe (λ s a i j d. from_maybe s d) (λ a x e. e)

  -- ---- expressions with commas between them

  abbrev One : Rel (List ExprTree)
  One = Then ExprRel (λ x. Same (x ∷ []))

  abbrev Comma : List ExprTree → Rel (List ExprTree)
  Comma b = Word t.Comma (λ _. Then ExprRel (λ x. Same (b ++ x ∷ [])))

  abbrev ExprsRel : Rel (List ExprTree)
  ExprsRel = λ s a i j. Expressions place s a i j

  to_exprs : (s : Text) (a : List ExprTree) (i j : ℕ) → Then One (λ b v c m k. Steps Comma v b c m k) s a i j → Expressions place s a i j
  to_exprs s a i j d = steps_fold Comma ExprsRel s i
      (λ b c m k h o. g.next_expression h o.kind (subst (λ (z : ℕ). Expression place s o.rest.part (suc m) z) (sym o.rest.rest.at) o.rest.first) o.rest.rest.tree)
      d.part a d.at j (g.first_expression (subst (λ (z : ℕ). Expression place s d.first.part i z) (sym d.first.rest.at) d.first.first) d.first.rest.tree) d.rest

  from_exprs : (s : Text) {a : List ExprTree} {i j : ℕ} → Expressions place s a i j → Then One (λ b v c m k. Steps Comma v b c m k) s a i j
  from_exprs s {a} {i} {j} (g.first_expression {x} d e) = record { part = a; at = j; first = record { part = x; at = j; first = d; rest = record { tree = e; at = refl } }; rest = done refl refl }
  from_exprs s {a} {i} {j} (g.next_expression {b} {x} {m} d o y e) =
      let v = from_exprs s d in
      record { part = v.part; at = v.at; first = v.first; rest = steps_end Comma s v.part b a v.at m j v.rest (record { kind = o; rest = record { part = x; at = j; first = y; rest = record { tree = e; at = refl } } }) }

  first_in_exprs : (s : Text) {a : List ExprTree} {i j : ℕ} → Expressions place s a i j → same_terminal (terminal (s i)) t.RightParen ≡ false
  first_in_exprs s {i = i} {j = j} (g.first_expression {x = x} d e) = (begins_value s x i j d).1
  first_in_exprs s (g.next_expression d o y e) = first_in_exprs s d

  exprs_laws : Laws most ((r.value place most room >>= λ x. pure (x ∷ [])) >>= loop most (is t.Comma) (r.next_value place most room)) ExprsRel (Before t.RightParen) TallExprs
  unfolding r.next_value
  exprs_laws = renamed ExprsRel (Before t.RightParen)
      (rep {Q = Comma} {E = λ _ x. among enders x ≡ true} (is t.Comma)
      (seq value_laws (λ x. pure_laws most (x ∷ []) (λ _ y. among enders y ≡ true) TallExprs) (λ s x m b j d last. given.ends part.Expression x _ (same_after (λ y. among enders y ≡ true) s (x ∷ []) b m j d last))
      (λ s x m b j d at h. tall.tall_one nodes_at room x b d.tree h))
      (λ b. tok t.Comma refl (λ _. seq value_laws (λ x. pure_laws most (b ++ x ∷ []) (λ _ y. among enders y ≡ true) TallExprs)
      (λ s x m c j d last. given.ends part.Expression x _ (same_after (λ y. among enders y ≡ true) s (b ++ x ∷ []) c m j d last)) (λ s x m c j d at h. tall.tall_end nodes_at room b x c d.tree h)))
      (λ s x a i j d. is_kind _ _ d.kind)
      (λ s x a i j d. let h = given.part_forward part.Expression s d.rest.part (suc i) d.rest.at d.rest.first in let e = d.rest.rest.at in omega arith)
      (λ a x o. in_enders x t.Comma (kind_is x t.Comma o) sign_facts.4)
      (λ s x a i j d at h. tall.tall_before nodes_at room x d.rest.part a d.rest.rest.tree h))
      to_exprs (λ s a i j d. from_exprs s d) (λ a x e. (in_enders x t.RightParen e sign_facts.2, is_not x t.RightParen t.Comma e sign_facts.7))

  from_all : (s : Text) {a : List ExprTree} {i j : ℕ} → MaybeExpressions place s a i j → Either (Same []) ExprsRel s a i j
  from_all s (g.no_expressions e at) = inl (record { tree = e; at = at })
  from_all s (g.expressions d) = inr d

  pub all_values_laws : Laws most (r.all_values place most room) (λ s a i j. MaybeExpressions place s a i j) (Before t.RightParen) TallExprs
  unfolding r.all_values
  all_values_laws = renamed (λ s a i j. MaybeExpressions place s a i j) (Before t.RightParen)
      (alt (is t.RightParen) (pure_laws most [] (Before t.RightParen) TallExprs) exprs_laws
      (λ s a i j d last. is_kind _ _ (same_after (λ y. y ≡ t.RightParen) s [] a i j d last))
      (λ s a i j d last. first_in_exprs s d))
      (λ s a i j d. elim d [ inl x ↦ g.no_expressions x.tree x.at | inr y ↦ g.expressions y ])
      (λ s a i j d. from_all s d) (λ a x e. e)

  -- ---- variables

  abbrev InitRel : Rel ExprTree
  InitRel = λ s a i j. Initializer place s a i j

  abbrev SomeInit : Rel (Option ExprTree)
  SomeInit = Word t.Assign (λ _. Then InitRel (λ x. Same (Some x)))

  to_init : (s : Text) (a : Option ExprTree) (i j : ℕ) → Either SomeInit (Same None) s a i j → MaybeInit place s a i j
  to_init s a i j (inl d) = g.init d.kind (subst (λ (z : ℕ). Initializer place s d.rest.part (suc i) z) (sym d.rest.rest.at) d.rest.first) d.rest.rest.tree
  to_init s a i j (inr d) = g.no_init d.tree d.at

  from_init : (s : Text) {a : Option ExprTree} {i j : ℕ} → MaybeInit place s a i j → Either SomeInit (Same None) s a i j
  from_init s (g.no_init e at) = inr (record { tree = e; at = at })
  from_init s {j = j} (g.init {x = x} o d e) = inl (record { kind = o; rest = record { part = x; at = j; first = d; rest = record { tree = e; at = refl } } })

  maybe_init_laws : Laws most (r.maybe_init place most room) (λ s a i j. MaybeInit place s a i j) InList TallOption
  unfolding r.maybe_init
  maybe_init_laws = renamed (λ s a i j. MaybeInit place s a i j) InList
      (alt (is t.Assign) (tok t.Assign refl (λ _. seq (given.part_laws room part.Initializer) (λ x. pure_laws most (Some x) InList TallOption)
      (λ s x m b j d last. given.ends part.Initializer x _ (list_facts _ (same_after (λ y. among list_ends y ≡ true) s (Some x) b m j d last)).0)
      (λ s x m b j d at h. tall.tall_some room x b d.tree h)))
      (pure_laws most None InList TallOption)
      (λ s a i j d last. is_kind _ _ d.kind)
      (λ s a i j d last. (list_facts _ (same_after (λ y. among list_ends y ≡ true) s None a i j d last)).1))
      to_init (λ s a i j d. from_init s d) (λ a x e. e)

  abbrev TallVariable : Span → VariableTree → Type 0
  TallVariable = VariableHasNode (suc (suc room))

  abbrev TallVariables : Span → List VariableTree → Type 0
  TallVariables = SomeVariableHasNode (suc (suc room))

  abbrev pub variable_of : ℕ → List ℕ → ℕ → Option ExprTree → VariableTree
  variable_of m v d x = record { at = place m; name = v; dims = d; init = x }

  -- the rest of a variable, behind its name
  abbrev pub Behind : ℕ → List ℕ → Rel VariableTree
  Behind m v = Then (λ s a i j. Dims s a i j) (λ d. Then (λ s a i j. MaybeInit place s a i j) (λ x. Same (variable_of m v d x)))

  variable_tall : {p : Span} (m : ℕ) (v : List ℕ) (d : ℕ) (x : Option ExprTree) (a : VariableTree) → a ≡ variable_of m v d x → OptionHasNode (suc room) p x → VariableHasNode (suc (suc room)) p a
  variable_tall m v d x a e h = tall.tall_variable room x (variable_of m v d x) a refl e h

  init_first : (s : Text) {a : Option ExprTree} {i j : ℕ} → MaybeInit place s a i j → among list_ends (terminal (s j)) ≡ true → same_terminal (terminal (s i)) t.LeftBracket ≡ false
  unfolding same_terminal
  init_first s {j = j} (g.no_init e at) last = subst (λ (z : ℕ). same_terminal (terminal (s z)) t.LeftBracket ≡ false) at (list_facts (terminal (s j)) last).2
  init_first s {i = i} (g.init o d e) last = is_not (terminal (s i)) t.Assign t.LeftBracket o refl

  pub behind_laws : (m : ℕ) (v : List ℕ) → Laws most (r.variable_behind place most room m v) (Behind m v) InList TallVariable
  unfolding r.variable_behind
  behind_laws m v = seq given.dims_laws (λ d. seq maybe_init_laws (λ x. pure_laws most (variable_of m v d x) InList TallVariable)
      (λ s x k b j e last. same_after (λ y. among list_ends y ≡ true) s (variable_of m v d x) b k j e last)
      (λ s x k b j e at h. variable_tall m v d x b e.tree h))
      (λ s d k b j e last. init_first s e.first (same_after (λ y. among list_ends y ≡ true) s (variable_of m v d e.part) b e.at j e.rest last))
      (λ s d k b j e at h. absurd h)

  abbrev VariableRel : Rel VariableTree
  VariableRel = λ s a i j. Variable place s a i j

  pub to_variable : (s : Text) (a : VariableTree) (i j : ℕ) → Word t.Word (Behind i) s a i j → Variable place s a i j
  to_variable s a i j d = g.variable d.kind d.rest.first (subst (λ (z : ℕ). MaybeInit place s d.rest.rest.part d.rest.at z) (sym d.rest.rest.rest.at) d.rest.rest.first) d.rest.rest.rest.tree

  pub from_variable : (s : Text) {a : VariableTree} {i j : ℕ} → Variable place s a i j → Word t.Word (Behind i) s a i j
  from_variable s {j = j} (g.variable {x = x} {n = n} {m = m} o d y e) = record { kind = o; rest = record { part = n; at = m; first = d; rest = record { part = x; at = j; first = y; rest = record { tree = e; at = refl } } } }

  variable_laws : Laws most (r.variable place most room) VariableRel InList TallVariable
  unfolding r.variable
  variable_laws = renamed VariableRel InList (start {D = λ m. Word t.Word (Behind m)} (λ m. tok t.Word refl (λ v. behind_laws m v))) to_variable (λ s a i j d. from_variable s d) (λ a x e. e)

  variable_forward : (s : Text) {a : VariableTree} {i j : ℕ} → Variable place s a i j → i < j
  variable_forward s {a = a} {i = i} {j = j} d = let w = from_variable s d in let h = (behind_laws i (s i).text).shape.forward s a (suc i) j w.rest in omega arith

  abbrev pub CommaVariable : List VariableTree → Rel (List VariableTree)
  CommaVariable b = Word t.Comma (λ _. Then VariableRel (λ x. Same (b ++ x ∷ [])))

  -- variables, the first of which is read by another rule
  abbrev FirstBy : Rel VariableTree → Rel (List VariableTree)
  FirstBy P = Then (Then P (λ x. Same (x ∷ []))) (λ b v c m k. Steps CommaVariable v b c m k)

  firsts_laws : {p : Parser VariableTree} {P : Rel VariableTree} → Laws most p P InList TallVariable
      → Laws most ((p >>= λ x. pure (x ∷ [])) >>= loop most (is t.Comma) (r.next_variable place most room)) (FirstBy P) (Before t.Semicolon) TallVariables
  unfolding r.next_variable
  firsts_laws {P = P} u = renamed (FirstBy P) (Before t.Semicolon)
      (rep {Q = CommaVariable} {E = InList} (is t.Comma)
      (seq u (λ x. pure_laws most (x ∷ []) InList TallVariables) (λ s x m b j d last. same_after (λ y. among list_ends y ≡ true) s (x ∷ []) b m j d last)
      (λ s x m b j d at h. tall.tall_one variable_nodes (suc room) x b d.tree h))
      (λ b. tok t.Comma refl (λ _. seq variable_laws (λ x. pure_laws most (b ++ x ∷ []) InList TallVariables)
      (λ s x m c j d last. same_after (λ y. among list_ends y ≡ true) s (b ++ x ∷ []) c m j d last) (λ s x m c j d at h. tall.tall_end variable_nodes (suc room) b x c d.tree h)))
      (λ s x a i j d. is_kind _ _ d.kind)
      (λ s x a i j d. let h = variable_forward s d.rest.first in let e = d.rest.rest.at in omega arith)
      (λ a x o. in_list x t.Comma (kind_is x t.Comma o) sign_facts.1)
      (λ s x a i j d at h. tall.tall_before variable_nodes (suc room) x d.rest.part a d.rest.rest.tree h))
      (λ s a i j d. d) (λ s a i j d. d) (λ a x e. (in_list x t.Semicolon e sign_facts.0, is_not x t.Semicolon t.Comma e sign_facts.6))

  abbrev pub VariablesBehind : ℕ → List ℕ → Rel (List VariableTree)
  VariablesBehind m v = FirstBy (Behind m v)

  pub variables_behind_laws : (m : ℕ) (v : List ℕ) → Laws most (r.variables_behind place most room m v) (VariablesBehind m v) (Before t.Semicolon) TallVariables
  unfolding r.variables_behind
  variables_behind_laws m v = firsts_laws (behind_laws m v)

  abbrev VariablesRel : Rel (List VariableTree)
  VariablesRel = λ s a i j. Variables place s a i j

  to_variables : (s : Text) (a : List VariableTree) (i j : ℕ) → FirstBy VariableRel s a i j → Variables place s a i j
  to_variables s a i j d = steps_fold CommaVariable VariablesRel s i
      (λ b c m k h o. g.next_variable h o.kind (subst (λ (z : ℕ). Variable place s o.rest.part (suc m) z) (sym o.rest.rest.at) o.rest.first) o.rest.rest.tree)
      d.part a d.at j (g.first_variable (subst (λ (z : ℕ). Variable place s d.first.part i z) (sym d.first.rest.at) d.first.first) d.first.rest.tree) d.rest

  from_variables : (s : Text) {a : List VariableTree} {i j : ℕ} → Variables place s a i j → FirstBy VariableRel s a i j
  from_variables s {a} {i} {j} (g.first_variable {x} d e) = record { part = a; at = j; first = record { part = x; at = j; first = d; rest = record { tree = e; at = refl } }; rest = done refl refl }
  from_variables s {a} {i} {j} (g.next_variable {b} {x} {m} d o y e) =
      let v = from_variables s d in
      record { part = v.part; at = v.at; first = v.first; rest = steps_end CommaVariable s v.part b a v.at m j v.rest (record { kind = o; rest = record { part = x; at = j; first = y; rest = record { tree = e; at = refl } } }) }

  -- variables are those behind a name
  pub to_named : (s : Text) (a : List VariableTree) (m j : ℕ) → terminal (s m) ≡ t.Word → VariablesBehind m (s m).text s a (suc m) j → Variables place s a m j
  to_named s a m j o d = to_variables s a m j (record { part = d.part; at = d.at; first = record { part = d.first.part; at = d.first.at; first = to_variable s d.first.part m d.first.at (record { kind = o; rest = d.first.first }); rest = d.first.rest }; rest = d.rest })

  pub from_named : (s : Text) {a : List VariableTree} {m j : ℕ} → Variables place s a m j → (terminal (s m) ≡ t.Word) × VariablesBehind m (s m).text s a (suc m) j
  from_named s d =
      let v = from_variables s d in
      let w = from_variable s v.first.first in
      (w.kind, record { part = v.part; at = v.at; first = record { part = v.first.part; at = v.first.at; first = w.rest; rest = v.first.rest }; rest = v.rest })

  pub variables_laws : Laws most (r.variables place most room) VariablesRel (Before t.Semicolon) TallVariables
  unfolding r.variables
  variables_laws = renamed VariablesRel (Before t.Semicolon) (firsts_laws variable_laws) to_variables (λ s a i j d. from_variables s d) (λ a x e. e)

  variable_word : (s : Text) {a : VariableTree} {i j : ℕ} → Variable place s a i j → terminal (s i) ≡ t.Word
  variable_word s (g.variable o d x e) = o

  pub variables_word : (s : Text) {a : List VariableTree} {i j : ℕ} → Variables place s a i j → terminal (s i) ≡ t.Word
  variables_word s (g.first_variable d e) = variable_word s d
  variables_word s (g.next_variable d o x e) = variables_word s d

  word_bracket : (x : Terminal) → x ≡ t.Word → same_terminal x t.LeftBracket ≡ false
  unfolding same_terminal
  word_bracket x e = is_not x t.Word t.LeftBracket e refl

  -- ---- expressions that are statements

  abbrev TallExpr : Span → ExprTree → Type 0
  TallExpr = HasNode (suc room)

  abbrev pub assign_tree : ℕ → ExprTree → Token → ExprTree → ExprTree
  assign_tree i l v x = tree.Assign (place i) (assign_op (terminal v)) l x

  abbrev Assigned : ℕ → ExprTree → Rel ExprTree
  Assigned i l = Operator (among assigns) (λ v. Then ExprRel (λ x. Same (assign_tree i l v x)))

  assign_other : among assigns t.Other ≡ false
  unfolding same_terminal
  assign_other = refl

  assign_token : (x : Terminal) → among assigns x ≡ true → is_token x ≡ true
  assign_token t.Other e = absurd (both_ways (among assigns t.Other) assign_other e)
  assign_token _ e = refl

  assign_one : among assigns t.Assign ≡ true
  unfolding same_terminal
  assign_one = refl

  no_assign : (x : Terminal) → among list_ends x ≡ true → among assigns x ≡ false
  unfolding same_terminal
  no_assign = each (λ x. among assigns x ≡ false) list_ends (refl, (refl, tt))

  left_tall : {p : Span} (i : ℕ) (l : ExprTree) (v : Token) (x b : ExprTree) → b ≡ assign_tree i l v x → HasNode (suc (room - 1)) p l → HasNode (suc room) p b
  left_tall {p} i l v x b e h = subst (HasNode (suc room) p) (sym e)
      (suc h.0, (let k = h.1 in omega arith), subst (λ (ps : List Span). Contains ps p) (sym (assign_below (place i) (assign_op (terminal v)) l x h.0)) (Contains-append_left (nodes_at l h.0) (nodes_at x h.0) p h.2))

  right_tall : {p : Span} (i : ℕ) (l : ExprTree) (v : Token) (x b : ExprTree) → b ≡ assign_tree i l v x → HasNode (suc (room - 1)) p x → HasNode (suc room) p b
  right_tall {p} i l v x b e h = subst (HasNode (suc room) p) (sym e)
      (suc h.0, (let k = h.1 in omega arith), subst (λ (ps : List Span). Contains ps p) (sym (assign_below (place i) (assign_op (terminal v)) l x h.0)) (Contains-append_right (nodes_at l h.0) (nodes_at x h.0) p h.2))

  assigned_laws : Laws most (r.assigned place most room) ExprRel (given.After part.Expression) (HasNode (suc (room - 1)))
  unfolding r.assigned
  assigned_laws = given.part_laws (room - 1) part.Expression

  assignment_laws : (i : ℕ) (l : ExprTree) → Laws most (r.assignment place most room i l) (Assigned i l) InList TallExpr
  unfolding r.assignment
  assignment_laws i l = op {Q = λ v. Then ExprRel (λ x. Same (assign_tree i l v x))} (among assigns) t.Assign refl assign_one assign_token
      (λ v. limited_then (λ l. r.assigned place most room >>= λ x. pure (assign_tree i l v x)) (room - 1) l
      (seq assigned_laws (λ x. pure_laws most (assign_tree i l v x) InList TallExpr)
      (λ s x m b j d last. given.ends part.Expression x _ (list_facts _ (same_after (λ y. among list_ends y ≡ true) s (assign_tree i l v x) b m j d last)).0)
      (λ s x m b j d at h. right_tall i l v x b d.tree h))
      (λ at h s b m j d. left_tall i l v d.part b d.rest.tree h))

  -- with the test of the tree
  pub record Evaluated (l : ExprTree) (s : Text) (a : ExprTree) (i j : ℕ) : Type 0 where
    pub same : a ≡ l
    pub at : j ≡ i
    pub able : is_statement l ≡ true

  abbrev Rest : ℕ → ExprTree → Rel ExprTree
  Rest i l = Either (Assigned i l) (Evaluated l)

  evaluated_laws : (i : ℕ) (l : ExprTree) → Laws most (r.evaluated place most room i l) (Rest i l) InList TallExpr
  unfolding r.evaluated
  evaluated_laws i l = pick_laws (is_statement l)
      (λ able. renamed (Rest i l) InList (alt (among assigns) (assignment_laws i l) (pure_laws most l InList TallExpr) (λ s a m j d last. d.kind)
      (λ s a m j d last. no_assign _ (same_after (λ y. among list_ends y ≡ true) s l a m j d last)))
      (λ s a m j d. elim d [ inl x ↦ inl x | inr y ↦ inr (record { same = y.tree; at = y.at; able = able }) ])
      (λ s a m j d. elim d [ inl x ↦ inl x | inr y ↦ inr (record { tree = y.same; at = y.at }) ])
      (λ a x e. e))
      (λ unable. renamed (Rest i l) InList (assignment_laws i l) (λ s a m j d. inl d)
      (λ s a m j d. elim d [ inl x ↦ x | inr y ↦ absurd (both_ways (is_statement l) unable y.able) ])
      (λ a x e. e))

  abbrev UnaryRel : Rel ExprTree
  UnaryRel = λ s a i j. Unary place s a i j

  abbrev StatementExprRel : Rel ExprTree
  StatementExprRel = λ s a i j. StatementExpression place s a i j

  to_statement_expression : (s : Text) (a : ExprTree) (i j : ℕ) → Then UnaryRel (Rest i) s a i j → StatementExpression place s a i j
  to_statement_expression s a i j d = of d.part d.at d.first d.rest
    where
      of : (l : ExprTree) (m : ℕ) → Unary place s l i m → Rest i l s a m j → StatementExpression place s a i j
      of l m u (inl x) = g.assigned u x.kind (subst (λ (z : ℕ). Expression place s x.rest.part (suc m) z) (sym x.rest.rest.at) x.rest.first) x.rest.rest.tree
      of l m u (inr y) = subst (λ (z : ExprTree). StatementExpression place s z i j) (sym y.same) (subst (λ (z : ℕ). StatementExpression place s l i z) (sym y.at) (g.evaluated u y.able))

  from_statement_expression : (s : Text) {a : ExprTree} {i j : ℕ} → StatementExpression place s a i j → Then UnaryRel (Rest i) s a i j
  from_statement_expression s {a} {i} {j} (g.evaluated d able) = record { part = a; at = j; first = d; rest = inr (record { same = refl; at = refl; able = able }) }
  from_statement_expression s {a} {i} {j} (g.assigned {l = l} {r = x} {m = m} d o y e) = record { part = l; at = m; first = d; rest = inl (record { kind = o; rest = record { part = x; at = j; first = y; rest = record { tree = e; at = refl } } }) }

  behind_unary : (i : ℕ) (s : Text) (l : ExprTree) (m : ℕ) (b : ExprTree) (j : ℕ) → Rest i l s b m j → among list_ends (terminal (s j)) ≡ true → given.After part.Unary l (terminal (s m))
  behind_unary i s l m b j (inl x) last = given.before_assign l _ x.kind
  behind_unary i s l m b j (inr y) last = given.ends part.Unary l _ (subst (λ (z : ℕ). among enders (terminal (s z)) ≡ true) y.at (list_facts _ last).0)

  rest_tall : {p : Span} (i : ℕ) (s : Text) (l : ExprTree) (m : ℕ) (b : ExprTree) (j : ℕ) → Rest i l s b m j → HasNode (suc room) p l → HasNode (suc room) p b
  rest_tall i s l m b j (inl x) h = left_tall i l (s m) x.rest.part b x.rest.rest.tree (tall.fewer nodes_at (suc (room - 1)) (suc room) l (omega arith) h)
  rest_tall {p} i s l m b j (inr y) h = subst (HasNode (suc room) p) (sym y.same) h

  statement_expression_laws : Laws most (r.statement_expression place most room) StatementExprRel InList TallExpr
  unfolding r.statement_expression
  statement_expression_laws = renamed StatementExprRel InList
      (start {D = λ i. Then UnaryRel (Rest i)} (λ i. seq (given.part_laws room part.Unary) (λ l. evaluated_laws i l) (λ s l m b j d last. behind_unary i s l m b j d last) (λ s l m b j d at h. rest_tall i s l m b j d h)))
      to_statement_expression (λ s a i j d. from_statement_expression s d) (λ a x e. e)

  abbrev EvaluationRel : Rel StmtTree
  EvaluationRel = λ s a i j. Evaluation place s a i j

  abbrev ValuedBy : ℕ → Rel StmtTree
  ValuedBy i = Then StatementExprRel (λ x. Same (stmt.Expression (place i) x))

  to_evaluation : (s : Text) (a : StmtTree) (i j : ℕ) → ValuedBy i s a i j → Evaluation place s a i j
  to_evaluation s a i j d = g.evaluation (subst (λ (z : ℕ). StatementExpression place s d.part i z) (sym d.rest.at) d.first) d.rest.tree

  from_evaluation : (s : Text) {a : StmtTree} {i j : ℕ} → Evaluation place s a i j → ValuedBy i s a i j
  from_evaluation s {j = j} (g.evaluation {x = x} d e) = record { part = x; at = j; first = d; rest = record { tree = e; at = refl } }

  abbrev TallStmt : Span → StmtTree → Type 0
  TallStmt = StmtHasNode (suc (suc room))

  pub evaluation_laws : Laws most (r.evaluation place most room) EvaluationRel InList TallStmt
  unfolding r.evaluation
  evaluation_laws = renamed EvaluationRel InList
      (start {D = ValuedBy} (λ i. seq statement_expression_laws (λ x. pure_laws most (stmt.Expression (place i) x) InList TallStmt)
      (λ s x m b j d last. same_after (λ y. among list_ends y ≡ true) s (stmt.Expression (place i) x) b m j d last)
      (λ s x m b j d at h. tall.tall_expression_value room (place i) x b d.tree h)))
      to_evaluation (λ s a i j d. from_evaluation s d) (λ a x e. e)

  -- ---- calls of other constructors

  abbrev ValuesRel : Rel (List ExprTree)
  ValuesRel = λ s a i j. MaybeExpressions place s a i j

  abbrev Called : ℕ → Bool → Rel StmtTree
  Called i f = Word t.LeftParen (λ _. Then ValuesRel (λ xs. Word t.RightParen (λ _. Word t.Semicolon (λ _. Same (stmt.ConstructorCall (place i) f xs)))))

  called_laws : (i : ℕ) (f : Bool) → Laws most (r.called place most room i f) (Called i f) Any TallStmt
  unfolding r.called
  called_laws i f = tok t.LeftParen refl (λ _. seq all_values_laws (λ xs. tok t.RightParen refl (λ _. tok t.Semicolon refl (λ _. pure_laws most (stmt.ConstructorCall (place i) f xs) Any TallStmt)))
      (λ s xs m b j d last. d.kind) (λ s xs m b j d at h. tall.tall_constructorcall_args room (place i) f xs b d.rest.rest.tree h))

  to_constructor_call : (s : Text) (a : StmtTree) (i j : ℕ) → Either (Word t.This (λ _. Called i false)) (Word t.Super (λ _. Called i true)) s a i j → ConstructorCall place s a i j
  to_constructor_call s a i j (inl d) = g.of_this d.kind d.rest.kind d.rest.rest.first d.rest.rest.rest.kind d.rest.rest.rest.rest.kind d.rest.rest.rest.rest.rest.tree d.rest.rest.rest.rest.rest.at
  to_constructor_call s a i j (inr d) = g.of_super d.kind d.rest.kind d.rest.rest.first d.rest.rest.rest.kind d.rest.rest.rest.rest.kind d.rest.rest.rest.rest.rest.tree d.rest.rest.rest.rest.rest.at

  from_constructor_call : (s : Text) {a : StmtTree} {i j : ℕ} → ConstructorCall place s a i j → Either (Word t.This (λ _. Called i false)) (Word t.Super (λ _. Called i true)) s a i j
  from_constructor_call s (g.of_this {xs = xs} {m = m} o p d c q e at) = inl (record { kind = o; rest = record { kind = p; rest = record { part = xs; at = m; first = d; rest = record { kind = c; rest = record { kind = q; rest = record { tree = e; at = at } } } } } })
  from_constructor_call s (g.of_super {xs = xs} {m = m} o p d c q e at) = inr (record { kind = o; rest = record { kind = p; rest = record { part = xs; at = m; first = d; rest = record { kind = c; rest = record { kind = q; rest = record { tree = e; at = at } } } } } })

  super_no_this : same_terminal t.Super t.This ≡ false
  unfolding same_terminal
  super_no_this = refl

  pub constructor_call_laws : Laws most (r.constructor_call place most room) (λ s a i j. ConstructorCall place s a i j) Any TallStmt
  unfolding r.constructor_call
  constructor_call_laws = renamed (λ s a i j. ConstructorCall place s a i j) Any
      (start {D = λ i. Either (Word t.This (λ _. Called i false)) (Word t.Super (λ _. Called i true))}
      (λ i. alt (is t.This) (tok t.This refl (λ _. called_laws i false)) (tok t.Super refl (λ _. called_laws i true)) (λ s a m j d last. is_kind _ _ d.kind) (λ s a m j d last. is_not _ t.Super t.This d.kind super_no_this)))
      to_constructor_call (λ s a i j d. from_constructor_call s d) (λ a x e. e)

  -- ---- labels of a switch

  abbrev pub Cased : ℕ → Rel StmtTree
  Cased i = Word t.Case (λ _. Then ExprRel (λ x. Word t.Colon (λ _. Same (stmt.Case (place i) x))))

  abbrev pub Defaulted : ℕ → Rel StmtTree
  Defaulted i = Word t.Default (λ _. Word t.Colon (λ _. Same (stmt.Default (place i))))

  abbrev pub LabelRel : ℕ → Rel StmtTree
  LabelRel i = Either (Cased i) (Defaulted i)

  pub to_label : (s : Text) (a : StmtTree) (i j : ℕ) → LabelRel i s a i j → Label place s a i j
  to_label s a i j (inl d) = g.case d.kind d.rest.first d.rest.rest.kind d.rest.rest.rest.tree d.rest.rest.rest.at
  to_label s a i j (inr d) = g.default d.kind d.rest.kind d.rest.rest.tree d.rest.rest.at

  pub from_label : (s : Text) {a : StmtTree} {i j : ℕ} → Label place s a i j → LabelRel i s a i j
  from_label s (g.case {x = x} {m = m} o d c e at) = inl (record { kind = o; rest = record { part = x; at = m; first = d; rest = record { kind = c; rest = record { tree = e; at = at } } } })
  from_label s (g.default o c e at) = inr (record { kind = o; rest = record { kind = c; rest = record { tree = e; at = at } } })

  pub case_laws : (i : ℕ) (E : StmtTree → Terminal → Type 0) → Laws most (r.case_label place most room i) (Cased i) E TallStmt
  unfolding r.case_label
  case_laws i E = tok t.Case refl (λ _. seq value_laws (λ x. tok t.Colon refl (λ _. pure_laws most (stmt.Case (place i) x) E TallStmt)) (λ s x m b j d last. value_ends x _ t.Colon d.kind sign_facts.5)
      (λ s x m b j d at h. tall.tall_case_value room (place i) x b d.rest.tree h))

  pub default_laws : (i : ℕ) (E : StmtTree → Terminal → Type 0) → Laws most (r.default_label place most room i) (Defaulted i) E TallStmt
  unfolding r.default_label
  default_laws i E = tok t.Default refl (λ _. tok t.Colon refl (λ _. pure_laws most (stmt.Default (place i)) E TallStmt))

  default_no_case : same_terminal t.Default t.Case ≡ false
  unfolding same_terminal
  default_no_case = refl

  pub label_laws : (E : StmtTree → Terminal → Type 0) → Laws most (r.label place most room) (λ s a i j. Label place s a i j) E TallStmt
  unfolding r.label
  label_laws E = renamed (λ s a i j. Label place s a i j) E
      (start {D = LabelRel} (λ i. alt (is t.Case) (case_laws i E) (default_laws i E) (λ s a m j d last. is_kind _ _ d.kind) (λ s a m j d last. is_not _ t.Default t.Case d.kind default_no_case)))
      to_label (λ s a i j d. from_label s d) (λ a x e. e)

-- ---- declarations

module _ (place : ℕ → Span) (most : ℕ) (given : Given place most) where
  abbrev VarsRel : Rel (List VariableTree)
  VarsRel = λ s a i j. Variables place s a i j

  abbrev DeclarationRel : Rel StmtTree
  DeclarationRel = λ s a i j. Declaration place s a i j

  abbrev Typed : ℕ → Bool → Rel StmtTree
  Typed i f = Then (λ s a i j. TypeAt place s a i j) (λ ty. Then VarsRel (λ vs. Same (stmt.Local (place i) f ty vs)))

  abbrev Declared : ℕ → Rel StmtTree
  Declared i = Then (λ s a i j. MaybeFinal s a i j) (Typed i)

  to_declaration : (s : Text) (a : StmtTree) (i j : ℕ) → Declared i s a i j → Declaration place s a i j
  to_declaration s a i j d = g.declaration d.first d.rest.first (subst (λ (z : ℕ). Variables place s d.rest.rest.part d.rest.at z) (sym d.rest.rest.rest.at) d.rest.rest.first) d.rest.rest.rest.tree

  from_declaration : (s : Text) {a : StmtTree} {i j : ℕ} → Declaration place s a i j → Declared i s a i j
  from_declaration s {j = j} (g.declaration {f = f} {ty = ty} {vs = vs} {m = m} {n = n} o d v e) =
      record { part = f; at = m; first = o; rest = record { part = ty; at = n; first = d; rest = record { part = vs; at = j; first = v; rest = record { tree = e; at = refl } } } }

  -- a variable is a node at its name
  variable_front : (s : Text) {a : VariableTree} {i j : ℕ} → Variable place s a i j → VariableHasNode 1 (place i) a
  variable_front s {a = a} (g.variable o d x e) = tall.variable_root _ a (ap (λ (v : VariableTree). v.at) e)

  variables_front : (s : Text) {a : List VariableTree} {i j : ℕ} → Variables place s a i j → SomeVariableHasNode 1 (place i) a
  variables_front s (g.first_variable {x = x} d e) = tall.tall_one variable_nodes 0 x _ e (variable_front s d)
  variables_front s (g.next_variable {b = b} {x = x} d o y e) = tall.tall_before variable_nodes 0 b x _ e (variables_front s d)

  pub variables_below_laws : (room : ℕ) → Laws most (r.variables_below place most room) VarsRel (Before t.Semicolon) (SomeVariableHasNode (suc room))
  unfolding r.variables_below
  variables_below_laws zero = over_laws most place VarsRel (Before t.Semicolon) (SomeVariableHasNode 1) (variables_laws place most given 0).shape (λ s a i j d. inl (variables_front s d))
  variables_below_laws (suc room) = variables_laws place most given room

  -- behind `final`
  typed_laws : (room i : ℕ) (f : Bool) → Laws most (type_at place most >>= λ ty. r.variables_below place most room >>= λ vs. pure (stmt.Local (place i) f ty vs)) (Typed i f) (Before t.Semicolon) (StmtHasNode (suc (suc room)))
  typed_laws room i f = seq given.type_laws (λ ty. seq (variables_below_laws room) (λ vs. pure_laws most (stmt.Local (place i) f ty vs) (Before t.Semicolon) (StmtHasNode (suc (suc room))))
      (λ s vs m b j d last. same_after (λ y. y ≡ t.Semicolon) s (stmt.Local (place i) f ty vs) b m j d last)
      (λ s vs m b j d at h. tall.tall_local_variables room (place i) f ty vs b d.tree h))
      (λ s ty m b j d last. word_bracket place most given 0 _ (variables_word place most given 0 s d.first))
      (λ s ty m b j d at h. absurd h)

  pub declaration_laws : (room : ℕ) → Laws most (r.declaration place most room) DeclarationRel (Before t.Semicolon) (StmtHasNode (suc (suc room)))
  unfolding r.declaration
  declaration_laws room = renamed DeclarationRel (Before t.Semicolon)
      (start {D = Declared} (λ i. seq (final_laws most) (λ f. typed_laws room i f) (λ s f m b j d last. type_no_final place s d.first) (λ s f m b j d at h. absurd h)))
      to_declaration (λ s a i j d. from_declaration s d) (λ a x e. e)
