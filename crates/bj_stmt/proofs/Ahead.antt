-- What the tests on the next tokens look at is looked at by the readers behind them, too.
use Rattle.std.proofs.Common.{◌≡◌, ℕ, zero, suc, ◌<◌, ◌≤◌, Bool, true, false, cond, refl, sym, ap, ◌∙◌, subst, arith, le_refl, List, [], ◌∷◌}
use Rattle.std.specs.Prelude.{◌||◌, ◌&&◌}
use Rattle.bj_base.specs.declared.span.Span.{Span}
use Rattle.bj_token.specs.declared.token.Token.{Token}
use Rattle.bj_expr_tree.specs.declared.expr.ExprTree.{ExprTree}
use Rattle.bj_expr_tree.specs.declared.expr.ExprTree.TheVariants as tree
use Rattle.bj_tree.specs.declared.stmt.StmtTree.{StmtTree}
use Rattle.bj_tree.specs.declared.stmt.StmtTree.TheVariants as stmt
use Rattle.bj_grammar.specs.declared.terminal.Terminal.{Terminal}
use Rattle.bj_grammar.specs.declared.terminal.Terminal.TheVariants as t
use Rattle.bj_grammar.specs.Terminal.{terminal, same_terminal, among}
use Rattle.bj_grammar.specs.Reader.{Text, Answer, Found, Wrong, Over, Parser, and_then, word}
use Rattle.bj_grammar.proofs.Terminals.{is_token}
use Rattle.bj_grammar.proofs.Laws.{Rel, Shape, Laws, Same, Word, reached_stop, stop, pure_laws, word_shape, kind_is, reaches}
use Rattle.bj_expr.specs.declared.part.Part.TheVariants as part
use Rattle.bj_expr.specs.Grammar as ge
use Rattle.bj_expr.specs.Grammar.{primitives, TypeAt, Dims, Expression, Unary}
use Rattle.bj_expr.specs.Reading.{type_at}
use Rattle.bj_stmt.specs.Grammar as g
use Rattle.bj_stmt.specs.Grammar.{is_statement, Declaration, StatementExpression, Evaluation}
use Rattle.bj_stmt.specs.Reading as r
use Rattle.bj_stmt.specs.Reading.{declares, is_labelled, is_class_lock, is_constructor_call}
use Rattle.bj_stmt.proofs.Expressions.{Given, AfterType, Never}
use Rattle.bj_stmt.proofs.Leftmost.{is_not}
use Rattle.bj_stmt.proofs.Small.{list_ends, sign_facts, in_list, in_enders}

-- ---- texts that go on

-- some terminals from a place on
abbrev pub Row : List Terminal → Rel ℕ
Row [] = Same 0
Row (k ∷ ks) = Word k (λ _. Row ks)

abbrev pub Tokens : List Terminal → Type 0
Tokens [] = Unit {0}
Tokens (k ∷ ks) = (is_token k ≡ true) × Tokens ks

row_shape : (ks : List Terminal) → Tokens ks → Shape (Row ks)
row_shape [] real = (pure_laws 0 0 (λ (a : ℕ) (k : Terminal). Unit {0}) (λ (at : Span) (a : ℕ). Unit {0})).shape
row_shape (k ∷ ks) real = word_shape k real.0 (λ _. Row ks) (λ _. row_shape ks real.1)

-- the text up to a place, and then these terminals
pub goes_on : (s : Text) (i : ℕ) (ks : List Terminal) → Tokens ks → (u : Text) × ((x : ℕ) → x < i → u x ≡ s x) × ((j : ℕ) × Row ks u 0 i j)
goes_on s i ks real =
    let c = (row_shape ks real).some s i in
    (c.text, c.same, (c.after, subst (λ (z : ℕ). Row ks c.text z i c.after) (zero_is ks c.text c.tree i c.after c.stands) c.stands))
  where
    zero_is : (ks : List Terminal) (u : Text) (a i j : ℕ) → Row ks u a i j → a ≡ 0
    zero_is [] u a i j d = d.tree
    zero_is (k ∷ ks) u a i j d = zero_is ks u a (suc i) j d.rest

-- ---- how far a reader looks

-- a rule looks at least as far as the part that it begins with
pub stop_then : {A B : Type 0} (x : Answer A) (f : A → ℕ → Answer B) → ((a : A) (m : ℕ) → m ≤ stop (f a m)) → stop x ≤ stop (and_then x f)
stop_then (Found a m) f h = h a m
stop_then (Wrong k) f h = le_refl k
stop_then (Over k at) f h = omega arith

-- a rule looks at least as far as the place that it begins at
pub forth : {A : Type 0} {n : ℕ} {p : Parser A} {D : Rel A} {E : A → Terminal → Type 0} {T : Span → A → Type 0} → Laws n p D E T → (s : Text) (i : ℕ) → i ≤ stop (p s i)
forth {p} u s i = let h = u.onward s i in let k = reached_stop (p s i) in omega arith

pub stop_word : {A : Type 0} (k : Terminal) (q : List ℕ → Parser A) (s : Text) (i n : ℕ) → same_terminal (terminal (s i)) k ≡ true → n ≤ stop (q (s i).text s (suc i)) → n ≤ stop (word k q s i)
stop_word k q s i n e h = subst (λ (b : Bool). n ≤ stop (cond b (q (s i).text s (suc i)) (Wrong i))) (sym e) h

pub lt_trans : (a b c : ℕ) → a < b → b ≤ c → a < c
lt_trans a b c h k = omega arith

-- ---- the tests depend on the tokens that they look at

and_known : (a b c : Bool) → (a ≡ true → b ≡ c) → (a && b) ≡ (a && c)
and_known true b c e = e refl
and_known false b c e = refl

module _ (s u : Text) (i : ℕ) (at0 : u i ≡ s i) where
  pub declares_depends : (same_terminal (terminal (s i)) t.Word ≡ true → u (suc i) ≡ s (suc i)) → (same_terminal (terminal (s i)) t.Word ≡ true → same_terminal (terminal (s (suc i))) t.LeftBracket ≡ true → u (suc (suc i)) ≡ s (suc (suc i)))
      → declares u i ≡ declares s i
  declares_depends at1 at2 =
      ap (λ (v : Token). same_terminal (terminal v) t.Final || (among primitives (terminal v) || (same_terminal (terminal v) t.Word && behind u))) at0
      ∙ ap (λ (b : Bool). same_terminal (terminal (s i)) t.Final || (among primitives (terminal (s i)) || b)) (and_known (same_terminal (terminal (s i)) t.Word) (behind u) (behind s) known)
    where
      behind : Text → Bool
      behind w = same_terminal (terminal (w (suc i))) t.Word || (same_terminal (terminal (w (suc i))) t.LeftBracket && same_terminal (terminal (w (suc (suc i)))) t.RightBracket)

      known : same_terminal (terminal (s i)) t.Word ≡ true → behind u ≡ behind s
      known w =
          ap (λ (v : Token). same_terminal (terminal v) t.Word || (same_terminal (terminal v) t.LeftBracket && same_terminal (terminal (u (suc (suc i)))) t.RightBracket)) (at1 w)
          ∙ ap (λ (b : Bool). same_terminal (terminal (s (suc i))) t.Word || b)
          (and_known (same_terminal (terminal (s (suc i))) t.LeftBracket) (same_terminal (terminal (u (suc (suc i)))) t.RightBracket) (same_terminal (terminal (s (suc (suc i)))) t.RightBracket)
          (λ h. ap (λ (v : Token). same_terminal (terminal v) t.RightBracket) (at2 w h)))

  pub labelled_depends : (same_terminal (terminal (s i)) t.Word ≡ true → u (suc i) ≡ s (suc i)) → is_labelled u i ≡ is_labelled s i
  labelled_depends at1 =
      ap (λ (v : Token). same_terminal (terminal v) t.Word && same_terminal (terminal (u (suc i))) t.Colon) at0
      ∙ and_known (same_terminal (terminal (s i)) t.Word) _ _ (λ w. ap (λ (v : Token). same_terminal (terminal v) t.Colon) (at1 w))

  pub class_depends : (same_terminal (terminal (s i)) t.Word ≡ true → u (suc i) ≡ s (suc i)) → (same_terminal (terminal (s i)) t.Word ≡ true → same_terminal (terminal (s (suc i))) t.Dot ≡ true → u (suc (suc i)) ≡ s (suc (suc i)))
      → is_class_lock u i ≡ is_class_lock s i
  class_depends at1 at2 =
      ap (λ (v : Token). same_terminal (terminal v) t.Word && (same_terminal (terminal (u (suc i))) t.Dot && same_terminal (terminal (u (suc (suc i)))) t.Class)) at0
      ∙ and_known (same_terminal (terminal (s i)) t.Word) _ _ (λ w.
      ap (λ (v : Token). same_terminal (terminal v) t.Dot && same_terminal (terminal (u (suc (suc i)))) t.Class) (at1 w)
      ∙ and_known (same_terminal (terminal (s (suc i))) t.Dot) _ _ (λ h. ap (λ (v : Token). same_terminal (terminal v) t.Class) (at2 w h)))

  pub constructor_depends : (among r.constructors (terminal (s i)) ≡ true → u (suc i) ≡ s (suc i)) → is_constructor_call u i ≡ is_constructor_call s i
  constructor_depends at1 =
      ap (λ (v : Token). among r.constructors (terminal v) && same_terminal (terminal (u (suc i))) t.LeftParen) at0
      ∙ and_known (among r.constructors (terminal (s i))) _ _ (λ w. ap (λ (v : Token). same_terminal (terminal v) t.LeftParen) (at1 w))

-- ---- types, expressions and evaluations behind a name

real_tokens : Tokens (t.Word ∷ t.RightBracket ∷ t.LeftParen ∷ t.RightParen ∷ t.Semicolon ∷ t.Assign ∷ t.Dot ∷ [])
real_tokens = (refl, (refl, (refl, (refl, (refl, (refl, (refl, tt)))))))

word_no_bracket : same_terminal t.Word t.LeftBracket ≡ false
unfolding same_terminal
word_no_bracket = refl

word_type : among ge.type_words t.Word ≡ true
unfolding same_terminal
word_type = refl

is_type_word : (x : Terminal) → x ≡ t.Word → among ge.type_words x ≡ true
is_type_word x e = ap (among ge.type_words) e ∙ word_type

module _ (place : ℕ → Span) (most : ℕ) (given : Given place most) (s : Text) (i : ℕ) (is_word : same_terminal (terminal (s i)) t.Word ≡ true) where
  -- a type that is a name looks at the next token
  pub type_past : i < stop (type_at place most s i)
  type_past =
      let c = goes_on s (suc i) (t.Word ∷ []) (refl, tt) in
      let here : c.0 i ≡ s i = c.1 i (omega arith) in
      let w : terminal (c.0 i) ≡ t.Word = ap terminal here ∙ kind_is _ _ is_word in
      reaches most (type_at place most) (λ s a i j. TypeAt place s a i j) AfterType Never given.type_laws s c.0 i i (ge.type_tree (place i) (c.0 i) 0) (suc i)
      (λ x h. c.1 x (omega arith))
      (ge.named (is_type_word (terminal (c.0 i)) w) (ge.no_pair refl refl) refl)
      (is_not (terminal (c.0 (suc i))) t.Word t.LeftBracket c.2.1.kind word_no_bracket)
      (omega arith) (omega arith)

  -- and behind a bracket, at the one behind it
  pub type_past_bracket : same_terminal (terminal (s (suc i))) t.LeftBracket ≡ true → suc i < stop (type_at place most s i)
  type_past_bracket bracket =
      let c = goes_on s (suc (suc i)) (t.RightBracket ∷ t.Word ∷ []) (refl, (refl, tt)) in
      let here : c.0 i ≡ s i = c.1 i (omega arith) in
      let next : c.0 (suc i) ≡ s (suc i) = c.1 (suc i) (omega arith) in
      let w : terminal (c.0 i) ≡ t.Word = ap terminal here ∙ kind_is _ _ is_word in
      let b : terminal (c.0 (suc i)) ≡ t.LeftBracket = ap terminal next ∙ kind_is _ _ bracket in
      reaches most (type_at place most) (λ s a i j. TypeAt place s a i j) AfterType Never given.type_laws s c.0 i (suc i) (ge.type_tree (place i) (c.0 i) 1) (suc (suc (suc i)))
      (λ x h. c.1 x (omega arith))
      (ge.named (is_type_word (terminal (c.0 i)) w) (ge.pair {b = 0} (ge.no_pair refl refl) b c.2.1.kind refl refl) refl)
      (is_not (terminal (c.0 (suc (suc (suc i))))) t.Word t.LeftBracket c.2.1.rest.kind word_no_bracket)
      (omega arith) (omega arith)

-- ---- expressions of a name

no_new_array : (at : Span) (v : List ℕ) → ge.is_new_array (tree.Name at v) ≡ false
no_new_array at v = refl

module _ (place : ℕ → Span) (s : Text) where
  name_selected : (i : ℕ) → terminal (s i) ≡ t.Word → ge.Selected place s (tree.Name (place i) (s i).text) i (suc i)
  name_selected i w = ge.primary (ge.name w refl refl)

  selected_unary : {a : ExprTree} {i j : ℕ} → ge.Selected place s a i j → Unary place s a i j
  selected_unary d = ge.plain (ge.postfix (ge.selected d))

  unary_level : (h : ℕ) {a : ExprTree} {i j : ℕ} → Unary place s a i j → ge.Level place s h a i j
  unary_level zero d = ge.unary d
  unary_level (suc h) d = ge.tighter (unary_level h d)

  pub unary_expression : {a : ExprTree} {i j : ℕ} → Unary place s a i j → Expression place s a i j
  unary_expression d = ge.value (ge.ranked (unary_level ge.ranks d))

  pub name_expression : (i : ℕ) → terminal (s i) ≡ t.Word → Expression place s (tree.Name (place i) (s i).text) i (suc i)
  name_expression i w = unary_expression (selected_unary (name_selected i w))

  -- `x()`
  call_unary : (i : ℕ) → terminal (s i) ≡ t.Word → terminal (s (suc i)) ≡ t.LeftParen → terminal (s (suc (suc i))) ≡ t.RightParen → Unary place s (tree.Call (place i) (s i).text []) i (suc (suc (suc i)))
  call_unary i w o c = selected_unary (ge.primary (ge.call w o (ge.none refl refl) c refl refl))

  call_is : (at : Span) (v : List ℕ) → is_statement (tree.Call at v []) ≡ true
  call_is at v = refl

  pub call_evaluation : (i : ℕ) → terminal (s i) ≡ t.Word → terminal (s (suc i)) ≡ t.LeftParen → terminal (s (suc (suc i))) ≡ t.RightParen
      → Evaluation place s (stmt.Expression (place i) (tree.Call (place i) (s i).text [])) i (suc (suc (suc i)))
  call_evaluation i w o c = g.evaluation (g.evaluated (call_unary i w o c) (call_is (place i) (s i).text)) refl

  -- `x[y] = z`
  pub assigned_evaluation : (i : ℕ) → terminal (s i) ≡ t.Word → terminal (s (suc i)) ≡ t.LeftBracket → terminal (s (suc (suc i))) ≡ t.Word → terminal (s (suc (suc (suc i)))) ≡ t.RightBracket
      → among ge.assigns (terminal (s (suc (suc (suc (suc i)))))) ≡ true → terminal (s (suc (suc (suc (suc (suc i)))))) ≡ t.Word
      → (a : StmtTree) × Evaluation place s a i (suc (suc (suc (suc (suc (suc i))))))
  assigned_evaluation i w o y c eq z =
      let l : Unary place s (tree.Index (place i) (tree.Name (place i) (s i).text) (tree.Name (place (suc (suc i))) (s (suc (suc i))).text)) i (suc (suc (suc (suc i)))) =
      selected_unary (ge.index (name_selected i w) (no_new_array (place i) (s i).text) o (name_expression (suc (suc i)) y) c refl refl) in (
        stmt.Expression (place i) (tree.Assign (place i) (ge.assign_op (terminal (s (suc (suc (suc (suc i))))))) (tree.Index (place i) (tree.Name (place i) (s i).text) (tree.Name (place (suc (suc i))) (s (suc (suc i))).text)) (tree.Name (place (suc (suc (suc (suc (suc i)))))) (s (suc (suc (suc (suc (suc i)))))).text)),
        g.evaluation (g.assigned l eq (name_expression (suc (suc (suc (suc (suc i))))) z) refl) refl,
      )

  -- `x.y`
  pub field_expression : (i : ℕ) → terminal (s i) ≡ t.Word → terminal (s (suc i)) ≡ t.Dot → terminal (s (suc (suc i))) ≡ t.Word → Expression place s (tree.Field (place i) (tree.Name (place i) (s i).text) (s (suc (suc i))).text) i (suc (suc (suc i)))
  field_expression i w d y = unary_expression (selected_unary (ge.field (name_selected i w) d y refl refl))

assign_is : (x : Terminal) → x ≡ t.Assign → among ge.assigns x ≡ true
unfolding same_terminal
assign_is x e = ap (among ge.assigns) e

module _ (place : ℕ → Span) (most : ℕ) (given : Given place most) (s : Text) (i : ℕ) (is_word : same_terminal (terminal (s i)) t.Word ≡ true) where
  -- a statement that is an expression looks behind a name at its front
  pub evaluation_past : (q : Parser StmtTree) (T : Span → StmtTree → Type 0) → Laws most q (λ s a i j. Evaluation place s a i j) (λ _ k. among list_ends k ≡ true) T → i < stop (q s i)
  evaluation_past q T v =
      let c = goes_on s (suc i) (t.LeftParen ∷ t.RightParen ∷ t.Semicolon ∷ []) (refl, (refl, (refl, tt))) in
      let here : c.0 i ≡ s i = c.1 i (omega arith) in
      let w : terminal (c.0 i) ≡ t.Word = ap terminal here ∙ kind_is _ _ is_word in
      reaches most q (λ s a i j. Evaluation place s a i j) (λ _ k. among list_ends k ≡ true) T v s c.0 i i _ (suc (suc (suc i)))
      (λ x h. c.1 x (omega arith))
      (call_evaluation place c.0 i w c.2.1.kind c.2.1.rest.kind)
      (in_list (terminal (c.0 (suc (suc (suc i))))) t.Semicolon c.2.1.rest.rest.kind sign_facts.0)
      (omega arith) (omega arith)

  pub evaluation_past_bracket : same_terminal (terminal (s (suc i))) t.LeftBracket ≡ true → (q : Parser StmtTree) (T : Span → StmtTree → Type 0) → Laws most q (λ s a i j. Evaluation place s a i j) (λ _ k. among list_ends k ≡ true) T → suc i < stop (q s i)
  evaluation_past_bracket bracket q T v =
      let c = goes_on s (suc (suc i)) (t.Word ∷ t.RightBracket ∷ t.Assign ∷ t.Word ∷ t.Semicolon ∷ []) (refl, (refl, (refl, (refl, (refl, tt))))) in
      let here : c.0 i ≡ s i = c.1 i (omega arith) in
      let next : c.0 (suc i) ≡ s (suc i) = c.1 (suc i) (omega arith) in
      let w : terminal (c.0 i) ≡ t.Word = ap terminal here ∙ kind_is _ _ is_word in
      let b : terminal (c.0 (suc i)) ≡ t.LeftBracket = ap terminal next ∙ kind_is _ _ bracket in
      let d = assigned_evaluation place c.0 i w b c.2.1.kind c.2.1.rest.kind (assign_is (terminal (c.0 (suc (suc (suc (suc i)))))) c.2.1.rest.rest.kind) c.2.1.rest.rest.rest.kind in
      reaches most q (λ s a i j. Evaluation place s a i j) (λ _ k. among list_ends k ≡ true) T v s c.0 i (suc i) d.0 (suc (suc (suc (suc (suc (suc i))))))
      (λ x h. c.1 x (omega arith)) d.1
      (in_list (terminal (c.0 (suc (suc (suc (suc (suc (suc i)))))))) t.Semicolon c.2.1.rest.rest.rest.rest.kind sign_facts.0)
      (omega arith) (omega arith)

  -- an expression looks behind a name at its front
  pub value_past : (room : ℕ) → i < stop (r.value place most room s i)
  unfolding r.value
  value_past room =
      let c = goes_on s (suc i) (t.RightParen ∷ []) (refl, tt) in
      let here : c.0 i ≡ s i = c.1 i (omega arith) in
      let w : terminal (c.0 i) ≡ t.Word = ap terminal here ∙ kind_is _ _ is_word in
      reaches most _ (λ s a i j. Expression place s a i j) (given.After part.Expression) _ (given.part_laws room part.Expression) s c.0 i i _ (suc i)
      (λ x h. c.1 x (omega arith)) (name_expression place c.0 i w)
      (given.ends part.Expression _ (terminal (c.0 (suc i))) (in_enders (terminal (c.0 (suc i))) t.RightParen c.2.1.kind sign_facts.2))
      (omega arith) (omega arith)

  -- and behind a dot
  pub value_past_dot : same_terminal (terminal (s (suc i))) t.Dot ≡ true → (room : ℕ) → suc i < stop (r.value place most room s i)
  unfolding r.value
  value_past_dot dot room =
      let c = goes_on s (suc (suc i)) (t.Word ∷ t.RightParen ∷ []) (refl, (refl, tt)) in
      let here : c.0 i ≡ s i = c.1 i (omega arith) in
      let next : c.0 (suc i) ≡ s (suc i) = c.1 (suc i) (omega arith) in
      let w : terminal (c.0 i) ≡ t.Word = ap terminal here ∙ kind_is _ _ is_word in
      let d : terminal (c.0 (suc i)) ≡ t.Dot = ap terminal next ∙ kind_is _ _ dot in
      reaches most _ (λ s a i j. Expression place s a i j) (given.After part.Expression) _ (given.part_laws room part.Expression) s c.0 i (suc i) _ (suc (suc (suc i)))
      (λ x h. c.1 x (omega arith)) (field_expression place c.0 i w d c.2.1.kind)
      (given.ends part.Expression _ (terminal (c.0 (suc (suc (suc i))))) (in_enders (terminal (c.0 (suc (suc (suc i))))) t.RightParen c.2.1.rest.kind sign_facts.2))
      (omega arith) (omega arith)
