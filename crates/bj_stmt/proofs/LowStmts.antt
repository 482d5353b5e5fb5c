-- What the reader finds is no higher than there is room.
use Rattle.std.proofs.Common.{◌≡◌, ℕ, zero, suc, ◌-◌, ◌≤◌, Bool, true, false, List, [], ◌∷◌, ◌++◌, map, Option, None, Some, refl, arith}
use Rattle.bj_base.specs.declared.span.Span.{Span}
use Rattle.bj_expr_tree.specs.declared.types.NamedPlace.{NamedPlace}
use Rattle.bj_expr_tree.specs.declared.types.TypeTree.{TypeTree}
use Rattle.bj_expr_tree.specs.declared.expr.ExprTree.{ExprTree}
use Rattle.bj_expr_tree.specs.declared.expr.ExprTree.TheVariants as tree
use Rattle.bj_tree.specs.declared.stmt.VariableTree.{VariableTree}
use Rattle.bj_tree.specs.declared.stmt.StmtTree.{StmtTree}
use Rattle.bj_tree.specs.declared.stmt.StmtTree.TheVariants as stmt
use Rattle.bj_expr_tree.specs.Size.{most, height_of}
use Rattle.bj_expr_tree.proofs.Heights.{assign_height}
use Rattle.bj_grammar.specs.declared.terminal.Terminal.{Terminal}
use Rattle.bj_grammar.specs.declared.terminal.Terminal.TheVariants as t
use Rattle.bj_grammar.specs.Terminal.{terminal, among}
use Rattle.bj_grammar.specs.Reader.{Text, Found, Parser, ◌>>=◌, pure, loop}
use Rattle.bj_expr.specs.declared.part.Part.{Part}
use Rattle.bj_expr.specs.declared.part.Part.TheVariants as part
use Rattle.bj_expr.specs.Grammar.{assigns, assign_op}
use Rattle.bj_expr.specs.Reading.{is, dims, type_at}
use Rattle.bj_expr.specs.Reading as expressions
use Rattle.bj_expr.proofs.LowLaws.{Yields, yields_then, yields_pure, yields_over, yields_any, yields_here, yields_cond, yields_ahead, yields_choose, yields_operator, yields_word, yields_sign, yields_loop, Low, LowList, yields_limited, part_low}
use Rattle.bj_stmt.specs.declared.part.StmtPart.{StmtPart}
use Rattle.bj_stmt.specs.declared.part.StmtPart.TheVariants as p
use Rattle.bj_stmt.specs.Grammar.{is_statement, jump, jumps}
use Rattle.bj_stmt.specs.Heights.{variable_height, stmt_height}
use Rattle.bj_stmt.specs.Reading as r
use Rattle.bj_stmt.specs.Reading.{inside, on_line, declares, is_labelled, is_class_lock, is_constructor_call, is_empty, branch_words, loop_words, leave_words, guard_words}
use Rattle.bj_stmt.proofs.StmtHeights as high
use Rattle.bj_stmt.proofs.StmtHeights.{option_height, height_end}

abbrev LowOption : ℕ → Option ExprTree → Type 0
LowOption n x = option_height x ≤ n

abbrev LowVariables : ℕ → List VariableTree → Type 0
LowVariables n xs = most (map variable_height xs) ≤ n

abbrev LowStmt : ℕ → StmtTree → Type 0
LowStmt n a = stmt_height a ≤ n

abbrev LowStmtList : ℕ → List StmtTree → Type 0
LowStmtList n xs = most (map stmt_height xs) ≤ n

-- what stands above parts for which there is so much room
abbrev Fits : ℕ → StmtTree → Type 0
Fits room = LowStmt (suc room)

low_one : {A : Type 0} (f : A → ℕ) (n : ℕ) (x : A) → f x ≤ n → most (map f (x ∷ [])) ≤ n
low_one f n x h = omega arith

low_end : {A : Type 0} (f : A → ℕ) (n : ℕ) (xs : List A) (x : A) → most (map f xs) ≤ n → f x ≤ n → most (map f (xs ++ x ∷ [])) ≤ n
low_end f n xs x h k = let e = height_end f xs x in omega arith

-- one part, and then others like it
yields_some : {A : Type 0} {one : Parser A} {next : List A → Parser (List A)} (f : A → ℕ) (n turns : ℕ) (test : Terminal → Bool)
    → Yields one (λ x. f x ≤ n) → ((b : List A) → most (map f b) ≤ n → Yields (next b) (λ b. most (map f b) ≤ n))
    → Yields ((one >>= λ x. pure (x ∷ [])) >>= loop turns test next) (λ b. most (map f b) ≤ n)
yields_some {next} f n turns test u v = yields_then (yields_then u (λ x h. yields_pure (λ b. most (map f b) ≤ n) (x ∷ []) (low_one f n x h))) (λ b h. yields_loop turns test next v b h)

-- ---- small parts

module _ (place : ℕ → Span) (turns : ℕ) where
  expression_low : (room : ℕ) (x : Part) → Yields (expressions.nested place turns room x) (Low room)
  expression_low room x s i a j e = part_low place turns room x s i a j e

  module _ (room : ℕ) where
    value_low : Yields (r.value place turns room) (Low room)
    unfolding r.value
    value_low = expression_low room part.Expression

    maybe_value_low : Yields (r.maybe_value place turns room) (LowOption room)
    unfolding r.maybe_value
    maybe_value_low = yields_choose (is t.Semicolon) (yields_pure (LowOption room) None (omega arith)) (yields_then value_low (λ x h. yields_pure (LowOption room) (Some x) h))

    next_value_low : (b : List ExprTree) → LowList room b → Yields (r.next_value place turns room b) (LowList room)
    unfolding r.next_value
    next_value_low b h = yields_sign t.Comma (yields_then value_low (λ x k. yields_pure (LowList room) (b ++ x ∷ []) (low_end height_of room b x h k)))

    all_values_low : Yields (r.all_values place turns room) (LowList room)
    unfolding r.all_values
    all_values_low = yields_choose (is t.RightParen) (yields_pure (LowList room) [] (omega arith)) (yields_some height_of room turns (is t.Comma) value_low next_value_low)

    maybe_init_low : Yields (r.maybe_init place turns room) (LowOption room)
    unfolding r.maybe_init
    maybe_init_low = yields_choose (is t.Assign) (yields_sign t.Assign (yields_then (expression_low room part.Initializer) (λ x h. yields_pure (LowOption room) (Some x) h)))
        (yields_pure (LowOption room) None (omega arith))

    abbrev LowVariable : VariableTree → Type 0
    LowVariable x = variable_height x ≤ suc room

    variable_behind_low : (m : ℕ) (v : List ℕ) → Yields (r.variable_behind place turns room m v) LowVariable
    unfolding r.variable_behind
    variable_behind_low m v = yields_then (yields_any (dims place turns)) (λ d k. yields_then maybe_init_low
        (λ x h. yields_pure LowVariable (record { at = place m; name = v; dims = d; init = x }) (omega arith)))

    variable_low : Yields (r.variable place turns room) LowVariable
    unfolding r.variable
    variable_low = yields_here (λ m. yields_word t.Word (r.variable_behind place turns room m) (variable_behind_low m))

    next_variable_low : (b : List VariableTree) → LowVariables (suc room) b → Yields (r.next_variable place turns room b) (LowVariables (suc room))
    unfolding r.next_variable
    next_variable_low b h = yields_sign t.Comma (yields_then variable_low (λ x k. yields_pure (LowVariables (suc room)) (b ++ x ∷ []) (low_end variable_height (suc room) b x h k)))

    all_variables_low : Yields (r.variables place turns room) (LowVariables (suc room))
    unfolding r.variables
    all_variables_low = yields_some variable_height (suc room) turns (is t.Comma) variable_low next_variable_low

    variables_behind_low : (m : ℕ) (v : List ℕ) → Yields (r.variables_behind place turns room m v) (LowVariables (suc room))
    unfolding r.variables_behind
    variables_behind_low m v = yields_some variable_height (suc room) turns (is t.Comma) (variable_behind_low m v) next_variable_low

  -- What is assigned leaves room for the assignment: where there is no room, nothing is found.
  leaves_room : (below room : ℕ) → below ≡ room - 1 → Yields (expressions.nested place turns below part.Expression) (λ x. suc (height_of x) ≤ room)
  unfolding expressions.nested
  leaves_room zero room is s i a j e = yields_over (λ x. suc (height_of x) ≤ room) place s i a j e
  leaves_room (suc below) room is s i a j e = let h = part_low place turns (suc below) part.Expression s i a j e in omega arith

  assigned_low : (room : ℕ) → Yields (r.assigned place turns room) (λ x. suc (height_of x) ≤ room)
  unfolding r.assigned
  assigned_low room = leaves_room (room - 1) room refl

  module _ (room : ℕ) where
    assignment_low : (i : ℕ) (l : ExprTree) → Yields (r.assignment place turns room i l) (Low room)
    unfolding r.assignment
    assignment_low i l = yields_operator (among assigns) _ (λ v. yields_then (yields_limited (room - 1) l) (λ l h. yields_then (assigned_low room)
        (λ x k. yields_pure (Low room) (tree.Assign (place i) (assign_op (terminal v)) l x) (let e = assign_height (place i) (assign_op (terminal v)) l x in omega arith))))

    evaluated_low : (i : ℕ) (l : ExprTree) → Low room l → Yields (r.evaluated place turns room i l) (Low room)
    unfolding r.evaluated
    evaluated_low i l h = yields_cond (is_statement l) (yields_choose (among assigns) (assignment_low i l) (yields_pure (Low room) l h)) (assignment_low i l)

    statement_expression_low : Yields (r.statement_expression place turns room) (Low room)
    unfolding r.statement_expression
    statement_expression_low = yields_here (λ i. yields_then (expression_low room part.Unary) (λ l h. evaluated_low i l h))

    evaluation_low : Yields (r.evaluation place turns room) (Fits room)
    unfolding r.evaluation
    evaluation_low = yields_here (λ i. yields_then statement_expression_low (λ x h. yields_pure (Fits room) (stmt.Expression (place i) x) (let e = high.expression_height (place i) x in omega arith)))

    called_low : (i : ℕ) (of_super : Bool) → Yields (r.called place turns room i of_super) (Fits room)
    unfolding r.called
    called_low i of_super = yields_sign t.LeftParen (yields_then (all_values_low room) (λ xs h. yields_sign t.RightParen (yields_sign t.Semicolon
        (yields_pure (Fits room) (stmt.ConstructorCall (place i) of_super xs) (let e = high.constructorcall_height (place i) of_super xs in omega arith)))))

    constructor_call_low : Yields (r.constructor_call place turns room) (Fits room)
    unfolding r.constructor_call
    constructor_call_low = yields_here (λ i. yields_choose (is t.This) (yields_sign t.This (called_low i false)) (yields_sign t.Super (called_low i true)))

    case_label_low : (i : ℕ) → Yields (r.case_label place turns room i) (Fits room)
    unfolding r.case_label
    case_label_low i = yields_sign t.Case (yields_then (value_low room) (λ x h. yields_sign t.Colon (yields_pure (Fits room) (stmt.Case (place i) x) (let e = high.case_height (place i) x in omega arith))))

    default_label_low : (i : ℕ) → Yields (r.default_label place turns room i) (Fits room)
    unfolding r.default_label
    default_label_low i = yields_sign t.Default (yields_sign t.Colon (yields_pure (Fits room) (stmt.Default (place i)) (let e = high.default_height (place i) in omega arith)))

    label_low : Yields (r.label place turns room) (Fits room)
    unfolding r.label
    label_low = yields_here (λ i. yields_choose (is t.Case) (case_label_low i) (default_label_low i))

  variables_below_low : (room : ℕ) → Yields (r.variables_below place turns room) (LowVariables room)
  unfolding r.variables_below
  variables_below_low zero = yields_over _ place
  variables_below_low (suc room) = all_variables_low room

  declaration_low : (room : ℕ) → Yields (r.declaration place turns room) (Fits room)
  unfolding r.declaration
  declaration_low room = yields_here (λ i. yields_then (yields_any r.maybe_final) (λ f k. yields_then (yields_any (type_at place turns)) (λ ty o. yields_then (variables_below_low room)
      (λ vs h. yields_pure (Fits room) (stmt.Local (place i) f ty vs) (let e = high.local_height (place i) f ty vs in omega arith)))))

-- ---- statements

jump_height : (x : Terminal) (at : Span) (label : Option NamedPlace) → stmt_height (jump x at label) ≡ 1
jump_height t.Break at label = high.break_height at label
jump_height x at label = high.continue_height at label

module _ (place : ℕ → Span) (turns : ℕ) (room : ℕ) (nested : StmtPart → Parser StmtTree) (low : (x : StmtPart) → Yields (nested x) (LowStmt room)) where
  in_parens_low : (f : ExprTree → Parser StmtTree) → ((x : ExprTree) → Low room x → Yields (f x) (Fits room)) → Yields (r.in_parens place turns room nested f) (Fits room)
  unfolding r.in_parens
  in_parens_low f u = yields_sign t.LeftParen (yields_then (value_low place turns room) (λ x h. yields_sign t.RightParen (u x h)))

  choice_tail_low : (i : ℕ) (x : ExprTree) (b : StmtTree) → Low room x → LowStmt room b → Yields (r.choice_tail place turns room nested i x b) (Fits room)
  unfolding r.choice_tail
  choice_tail_low i x b h k = yields_choose (is t.Else)
      (yields_sign t.Else (yields_then (low p.Statement) (λ c o. yields_pure (Fits room) (stmt.IfElse (place i) x b c) (let e = high.ifelse_height (place i) x b c in omega arith))))
      (yields_pure (Fits room) (stmt.If (place i) x b) (let e = high.if_height (place i) x b in omega arith))

  choice_low : (i : ℕ) → Yields (r.choice place turns room nested i) (Fits room)
  unfolding r.choice
  choice_low i = yields_sign t.If (in_parens_low _ (λ x h. yields_then (low p.Statement) (λ b k. choice_tail_low i x b h k)))

  -- one part more behind some
  next_low : (x : StmtPart) (b : List StmtTree) → LowStmtList room b → Yields (nested x >>= λ c. pure (b ++ c ∷ [])) (LowStmtList room)
  next_low x b h = yields_then (low x) (λ c k. yields_pure (LowStmtList room) (b ++ c ∷ []) (low_end stmt_height room b c h k))

  next_member_low : (b : List StmtTree) → LowStmtList room b → Yields (r.next_member place turns room nested b) (LowStmtList room)
  unfolding r.next_member
  next_member_low b h = next_low p.Member b h

  members_low : Yields (r.members place turns room nested) (LowStmtList room)
  unfolding r.members
  members_low = yields_choose (is t.RightBrace) (yields_pure (LowStmtList room) [] (omega arith)) (yields_some stmt_height room turns inside (low p.Label) next_member_low)

  switched_low : (i : ℕ) (x : ExprTree) → Low room x → Yields (r.switched place turns room nested i x) (Fits room)
  unfolding r.switched
  switched_low i x h = yields_sign t.LeftBrace (yields_then members_low (λ ms k. yields_sign t.RightBrace
      (yields_pure (Fits room) (stmt.Switch (place i) x ms) (let e = high.switch_height (place i) x ms in omega arith))))

  switch_low : (i : ℕ) → Yields (r.switch place turns room nested i) (Fits room)
  unfolding r.switch
  switch_low i = yields_sign t.Switch (in_parens_low _ (λ x h. switched_low i x h))

  branching_low : (i : ℕ) → Yields (r.branching place turns room nested i) (Fits room)
  unfolding r.branching
  branching_low i = yields_choose (is t.If) (choice_low i) (switch_low i)

  while_loop_low : (i : ℕ) → Yields (r.while_loop place turns room nested i) (Fits room)
  unfolding r.while_loop
  while_loop_low i = yields_sign t.While (in_parens_low _ (λ x h. yields_then (low p.Statement)
      (λ b k. yields_pure (Fits room) (stmt.While (place i) x b) (let e = high.while_height (place i) x b in omega arith))))

  do_loop_low : (i : ℕ) → Yields (r.do_loop place turns room nested i) (Fits room)
  unfolding r.do_loop
  do_loop_low i = yields_sign t.Do (yields_then (low p.Statement) (λ b k. yields_sign t.While (in_parens_low _ (λ x h. yields_sign t.Semicolon
      (yields_pure (Fits room) (stmt.Do (place i) b x) (let e = high.do_height (place i) b x in omega arith))))))

  for_tail_low : (i : ℕ) (inits : List StmtTree) → LowStmtList room inits → Yields (r.for_tail place turns room nested i inits) (Fits room)
  unfolding r.for_tail
  for_tail_low i inits h = yields_sign t.Semicolon (yields_then (maybe_value_low place turns room) (λ x k. yields_sign t.Semicolon (yields_then (all_values_low place turns room)
      (λ us o. yields_sign t.RightParen (yields_then (low p.Statement)
      (λ b w. yields_pure (Fits room) (stmt.For (place i) inits x us b) (let e = high.for_height (place i) inits x us b in omega arith)))))))

  next_evaluation_low : (b : List StmtTree) → LowStmtList room b → Yields (r.next_evaluation place turns room nested b) (LowStmtList room)
  unfolding r.next_evaluation
  next_evaluation_low b h = yields_sign t.Comma (next_low p.Evaluation b h)

  evaluations_low : Yields (r.evaluations place turns room nested) (LowStmtList room)
  unfolding r.evaluations
  evaluations_low = yields_some stmt_height room turns (is t.Comma) (low p.Evaluation) next_evaluation_low

  for_each_low : (i : ℕ) (f : Bool) (ty : TypeTree) (name : NamedPlace) → Yields (r.for_each place turns room nested i f ty name) (Fits room)
  unfolding r.for_each
  for_each_low i f ty name = yields_sign t.Colon (yields_then (value_low place turns room) (λ x h. yields_sign t.RightParen (yields_then (low p.Statement)
      (λ b k. yields_pure (Fits room) (stmt.ForEach (place i) f ty name x b) (let e = high.foreach_height (place i) f ty name x b in omega arith)))))

  for_evaluated_low : (i : ℕ) → Yields (r.for_evaluated place turns room nested i) (Fits room)
  unfolding r.for_evaluated
  for_evaluated_low i = yields_choose (is t.Semicolon) (for_tail_low i [] (omega arith)) (yields_then evaluations_low (λ inits h. for_tail_low i inits h))

for_variables_low : (place : ℕ → Span) (turns room : ℕ) (nested : StmtPart → Parser StmtTree) → ((x : StmtPart) → Yields (nested x) (LowStmt room))
    → (i d : ℕ) (f : Bool) (ty : TypeTree) (name : NamedPlace) (m : ℕ) → Yields (r.for_variables place turns room nested i d f ty name m) (Fits room)
unfolding r.for_variables
for_variables_low place turns zero nested low i d f ty name m = yields_over _ (λ _. place d)
for_variables_low place turns (suc zero) nested low i d f ty name m = yields_over _ (λ _. place m)
for_variables_low place turns (suc (suc room)) nested low i d f ty name m = yields_then (variables_behind_low place turns room m name.name)
    (λ vs h. for_tail_low place turns (suc (suc room)) nested low i (stmt.Local (place d) f ty vs ∷ []) (let e = high.local_height (place d) f ty vs in omega arith))

module _ (place : ℕ → Span) (turns : ℕ) (room : ℕ) (nested : StmtPart → Parser StmtTree) (low : (x : StmtPart) → Yields (nested x) (LowStmt room)) where
  for_named_low : (i d : ℕ) (f : Bool) (ty : TypeTree) → Yields (r.for_named place turns room nested i d f ty) (Fits room)
  unfolding r.for_named
  for_named_low i d f ty = yields_here (λ m. yields_then (yields_any (r.name_at place turns)) (λ x k. yields_choose (is t.Colon) (for_each_low place turns room nested low i f ty x)
      (for_variables_low place turns room nested low i d f ty x m)))

  for_declared_low : (i : ℕ) → Yields (r.for_declared place turns room nested i) (Fits room)
  unfolding r.for_declared
  for_declared_low i = yields_here (λ d. yields_then (yields_any r.maybe_final) (λ f k. yields_then (yields_any (type_at place turns)) (λ ty o. for_named_low i d f ty)))

  for_loop_low : (i : ℕ) → Yields (r.for_loop place turns room nested i) (Fits room)
  unfolding r.for_loop
  for_loop_low i = yields_sign t.For (yields_sign t.LeftParen (yields_ahead declares (for_declared_low i) (for_evaluated_low place turns room nested low i)))

  looping_low : (i : ℕ) → Yields (r.looping place turns room nested i) (Fits room)
  unfolding r.looping
  looping_low i = yields_choose (is t.While) (while_loop_low place turns room nested low i) (yields_choose (is t.Do) (do_loop_low place turns room nested low i) (for_loop_low i))

  jumped_low : (i : ℕ) → Yields (r.jumped place turns room nested i) (Fits room)
  unfolding r.jumped
  jumped_low i = yields_operator (among jumps) _ (λ v. yields_then (yields_any (r.maybe_name place turns)) (λ l k. yields_sign t.Semicolon
      (yields_pure (Fits room) (jump (terminal v) (place i) l) (let e = jump_height (terminal v) (place i) l in omega arith))))

  returned_low : (i : ℕ) → Yields (r.returned place turns room nested i) (Fits room)
  unfolding r.returned
  returned_low i = yields_sign t.Return (yields_then (maybe_value_low place turns room) (λ x h. yields_sign t.Semicolon
      (yields_pure (Fits room) (stmt.Return (place i) x) (let e = high.return_height (place i) x in omega arith))))

  thrown_low : (i : ℕ) → Yields (r.thrown place turns room nested i) (Fits room)
  unfolding r.thrown
  thrown_low i = yields_sign t.Throw (yields_then (value_low place turns room) (λ x h. yields_sign t.Semicolon
      (yields_pure (Fits room) (stmt.Throw (place i) x) (let e = high.throw_height (place i) x in omega arith))))

  leaving_low : (i : ℕ) → Yields (r.leaving place turns room nested i) (Fits room)
  unfolding r.leaving
  leaving_low i = yields_choose (among jumps) (jumped_low i) (yields_choose (is t.Return) (returned_low i) (thrown_low i))

  class_lock_low : (i : ℕ) → Yields (r.class_lock place turns room nested i) (Fits room)
  unfolding r.class_lock
  class_lock_low i = yields_then (yields_any (r.name_at place turns)) (λ x k. yields_sign t.Dot (yields_sign t.Class (yields_sign t.RightParen (yields_then (low p.Block)
      (λ b h. yields_pure (Fits room) (stmt.SynchronizedClass (place i) x b) (let e = high.synchronizedclass_height (place i) x b in omega arith))))))

  object_lock_low : (i : ℕ) → Yields (r.object_lock place turns room nested i) (Fits room)
  unfolding r.object_lock
  object_lock_low i = yields_then (value_low place turns room) (λ x k. yields_sign t.RightParen (yields_then (low p.Block)
      (λ b h. yields_pure (Fits room) (stmt.Synchronized (place i) x b) (let e = high.synchronized_height (place i) x b in omega arith))))

  locked_low : (i : ℕ) → Yields (r.locked place turns room nested i) (Fits room)
  unfolding r.locked
  locked_low i = yields_sign t.Synchronized (yields_sign t.LeftParen (yields_ahead is_class_lock (class_lock_low i) (object_lock_low i)))

  catch_low : Yields (r.catch place turns room nested) (Fits room)
  unfolding r.catch
  catch_low = yields_here (λ i. yields_sign t.Catch (yields_sign t.LeftParen (yields_then (yields_any r.maybe_final) (λ f k. yields_then (yields_any (type_at place turns))
      (λ ty o. yields_then (yields_any (r.name_at place turns)) (λ x w. yields_sign t.RightParen (yields_then (low p.Block)
      (λ b h. yields_pure (Fits room) (stmt.Catch (place i) f (ty ∷ []) x b) (let e = high.catch_height (place i) f (ty ∷ []) x b in omega arith)))))))))

  next_catch_low : (b : List StmtTree) → LowStmtList room b → Yields (r.next_catch place turns room nested b) (LowStmtList room)
  unfolding r.next_catch
  next_catch_low b h = next_low place turns room nested low p.Catch b h

  catches_low : Yields (r.catches place turns room nested) (LowStmtList room)
  unfolding r.catches
  catches_low = yields_then (yields_pure (LowStmtList room) [] (omega arith)) (λ b h. yields_loop turns (is t.Catch) (r.next_catch place turns room nested) next_catch_low b h)

  finally_low : (i : ℕ) (b : StmtTree) (cs : List StmtTree) → LowStmt room b → LowStmtList room cs → Yields (r.finally place turns room nested i b cs) (Fits room)
  unfolding r.finally
  finally_low i b cs h k = yields_sign t.Finally (yields_then (low p.Block)
      (λ f o. yields_pure (Fits room) (stmt.TryFinally (place i) b cs f) (let e = high.tryfinally_height (place i) b cs f in omega arith)))

  try_tail_low : (i : ℕ) (b : StmtTree) (cs : List StmtTree) → LowStmt room b → LowStmtList room cs → Yields (r.try_tail place turns room nested i b cs) (Fits room)
  unfolding r.try_tail
  try_tail_low i b cs h k = yields_cond (is_empty cs) (finally_low i b cs h k) (yields_choose (is t.Finally) (finally_low i b cs h k)
      (yields_pure (Fits room) (stmt.Try (place i) b cs) (let e = high.try_height (place i) b cs in omega arith)))

  tried_low : (i : ℕ) → Yields (r.tried place turns room nested i) (Fits room)
  unfolding r.tried
  tried_low i = yields_sign t.Try (yields_then (low p.Block) (λ b h. yields_then catches_low (λ cs k. try_tail_low i b cs h k)))

  guarding_low : (i : ℕ) → Yields (r.guarding place turns room nested i) (Fits room)
  unfolding r.guarding
  guarding_low i = yields_choose (is t.Synchronized) (locked_low i) (tried_low i)

  labelled_low : (i : ℕ) → Yields (r.labelled place turns room nested i) (Fits room)
  unfolding r.labelled
  labelled_low i = yields_word t.Word _ (λ v. yields_sign t.Colon (yields_then (low p.Statement)
      (λ b h. yields_pure (Fits room) (stmt.Labelled (place i) v b) (let e = high.labelled_height (place i) v b in omega arith))))

  next_statement_low : (b : List StmtTree) → LowStmtList room b → Yields (r.next_statement place turns room nested b) (LowStmtList room)
  unfolding r.next_statement
  next_statement_low b h = next_low place turns room nested low p.BlockStatement b h

  rest_of_block_low : (i : ℕ) (b : List StmtTree) → LowStmtList room b → Yields (r.rest_of_block place turns room nested i b) (Fits room)
  unfolding r.rest_of_block
  rest_of_block_low i b h = yields_then (yields_loop turns inside (r.next_statement place turns room nested) next_statement_low b h) (λ all k. yields_here (λ m. yields_sign t.RightBrace
      (yields_pure (Fits room) (stmt.Block (place i) all (place m)) (let e = high.block_height (place i) all (place m) in omega arith))))

  block_low : Yields (r.block place turns room nested) (Fits room)
  unfolding r.block
  block_low = yields_here (λ i. yields_sign t.LeftBrace (rest_of_block_low i [] (omega arith)))

  constructor_body_low : Yields (r.constructor_body place turns room nested) (Fits room)
  unfolding r.constructor_body
  constructor_body_low = yields_here (λ i. yields_sign t.LeftBrace (yields_ahead is_constructor_call
      (yields_then (low p.ConstructorCall) (λ c h. rest_of_block_low i (c ∷ []) (low_one stmt_height room c h))) (rest_of_block_low i [] (omega arith))))

  evaluate_low : Yields (r.evaluate place turns room nested) (Fits room)
  unfolding r.evaluate
  evaluate_low = yields_then (evaluation_low place turns room) (λ a h. yields_sign t.Semicolon (yields_pure (Fits room) a h))

  empty_low : (i : ℕ) → Yields (r.empty place turns room nested i) (Fits room)
  unfolding r.empty
  empty_low i = yields_sign t.Semicolon (yields_pure (Fits room) (stmt.Empty (place i)) (let e = high.empty_height (place i) in omega arith))

  statement_low : Yields (r.statement place turns room nested) (Fits room)
  unfolding r.statement
  statement_low = yields_here (λ i. yields_choose (is t.LeftBrace) block_low (yields_choose (is t.Semicolon) (empty_low i)
      (yields_choose (among branch_words) (branching_low place turns room nested low i) (yields_choose (among loop_words) (looping_low i)
      (yields_choose (among leave_words) (leaving_low i) (yields_choose (among guard_words) (guarding_low i) (yields_ahead is_labelled (labelled_low i) evaluate_low)))))))

  local_low : Yields (r.local place turns room nested) (Fits room)
  unfolding r.local
  local_low = yields_then (declaration_low place turns room) (λ a h. yields_sign t.Semicolon (yields_pure (Fits room) a h))

  block_statement_low : Yields (r.block_statement place turns room nested) (Fits room)
  unfolding r.block_statement
  block_statement_low = yields_ahead declares local_low statement_low

  member_low : Yields (r.member place turns room nested) (Fits room)
  unfolding r.member
  member_low = yields_here (λ i. yields_choose (is t.Case) (case_label_low place turns room i) (yields_choose (is t.Default) (default_label_low place turns room i) block_statement_low))

  rule_low : (x : StmtPart) → Yields (r.rule place turns room nested x) (Fits room)
  unfolding r.rule
  rule_low p.Statement = statement_low
  rule_low p.BlockStatement = block_statement_low
  rule_low p.Block = block_low
  rule_low p.Member = member_low
  rule_low p.Label = label_low place turns room
  rule_low p.Catch = catch_low
  rule_low p.Evaluation = evaluation_low place turns room
  rule_low p.ConstructorCall = constructor_call_low place turns room
  rule_low p.ConstructorBody = constructor_body_low

-- ---- every room

nested_low : (place : ℕ → Span) (turns room : ℕ) (x : StmtPart) → Yields (r.nested place turns room x) (LowStmt room)
unfolding r.nested
nested_low place turns zero x = yields_over _ place
nested_low place turns (suc room) x = rule_low place turns room (r.nested place turns room) (λ y. nested_low place turns room y) x

within_low : (place : ℕ → Span) (turns room : ℕ) → Yields (r.statements_within place turns room) (LowStmtList room)
unfolding r.statements_within
within_low place turns room = yields_some stmt_height room turns on_line (nested_low place turns room p.BlockStatement)
    (λ b h. next_low place turns room (r.nested place turns room) (λ y. nested_low place turns room y) p.BlockStatement b h)

pub stmt_low : (place : ℕ → Span) (turns room : ℕ) (x : StmtPart) (s : Text) (i : ℕ) (a : StmtTree) (j : ℕ) → r.nested place turns room x s i ≡ Found a j → stmt_height a ≤ room
stmt_low place turns room x s i a j e = nested_low place turns room x s i a j e

pub statements_low : (place : ℕ → Span) (turns room : ℕ) (s : Text) (i : ℕ) (b : List StmtTree) (j : ℕ) → r.statements_within place turns room s i ≡ Found b j → most (map stmt_height b) ≤ room
statements_low place turns room s i b j e = within_low place turns room s i b j e

pub variables_low : (place : ℕ → Span) (turns room : ℕ) (s : Text) (i : ℕ) (vs : List VariableTree) (j : ℕ) → r.variables place turns room s i ≡ Found vs j → most (map variable_height vs) ≤ suc room
variables_low place turns room s i vs j e = all_variables_low place turns room s i vs j e
