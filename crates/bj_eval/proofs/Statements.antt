-- A typed statement that goes on with allowed answers completes, returns a value of the body's type, or throws.
use Rattle.std.proofs.Common.{◌≡◌, List, [], ◌∷◌, Some, None, Bool, true, false, ◌⊎◌, inl, inr, refl, sym, ap, ◌∙◌, subst}
use Rattle.bj_base.specs.declared.span.Span.{Span}
use Rattle.bj_core.specs.declared.types.Ty.{Ty}
use Rattle.bj_core.specs.declared.types.Ty.TheVariants as types
use Rattle.bj_core.specs.declared.frame.Frame.{Frame}
use Rattle.bj_core.specs.declared.program.Program.{Program}
use Rattle.bj_core.specs.declared.tree.Expr.{Expr}
use Rattle.bj_core.specs.declared.tree.Stmt.{Stmt}
use Rattle.bj_core.specs.declared.tree.Stmt.TheVariants.{Block, Block', Expression, Return}
use Rattle.bj_core.specs.declared.tree.Stmt.TheBlock.{items-the_row-Stmt, items_hidden-the_row-Stmt-0}
use Rattle.bj_eval.specs.declared.activation.Activation.{Activation}
use Rattle.bj_eval.specs.declared.invocation.Invocation.{Invocation}
use Rattle.bj_eval.specs.Entering.{all}
use Rattle.bj_eval.specs.Evaluation.{Context, Way, Fine, Gives, Throws, Returns, Went, Calls, On, on_fine, at_line, line_in}
use Rattle.bj_eval.specs.Expressions.{expr}
use Rattle.bj_eval.specs.Statements.{evaluated, returned, stmt}
use Rattle.bj_eval.specs.Typed.{HasTy, IsOk, block, expression, return_value, return_nothing, AreOk, no_more, and_then, Leaves, return_leaves, block_leaves, OneLeaves, this_leaves, later_leaves, Scope}
use Rattle.bj_eval.proofs.Expressions.{Suits, Stands, on_value_safe, expr_safe}
use Rattle.bj_eval.proofs.Holding.{Holds}
use Rattle.bj_eval.proofs.Rows.{Block_is}
use Rattle.bj_eval.proofs.Safety.{IsSafe, Ways, at_once, then_safe, weaker, point_safe}

-- the statements of a block
abbrev items_of : Stmt → List Stmt
items_of (Block' at shape row) = items-the_row-Stmt _ row
items_of (Expression at x) = []
items_of (Return at value) = []

abbrev is_block : Stmt → Bool
is_block (Block' at shape row) = true
is_block (Expression at x) = false
is_block (Return at value) = false

same_items : (at at' : Span) (body body' : List Stmt) → Block at body ≡ Block at' body' → body ≡ body'
same_items at at' body body' e = sym (items_hidden-the_row-Stmt-0 body) ∙ ap items_of e ∙ items_hidden-the_row-Stmt-0 body'

-- which statements leave
leaves_in : (at : Span) (body : List Stmt) → Leaves (Block at body) → OneLeaves body
leaves_in at body (return_leaves at' value e) = let no : true ≡ false = ap is_block e in absurd (cc)
leaves_in at body (block_leaves {body = body'} at' one e) = subst OneLeaves (sym (same_items at at' body body' e)) one

stays : (at : Span) (x : Expr) → Leaves (Expression at x) → ⊥
stays at x (return_leaves at' value e) = cc
stays at x (block_leaves at' one e) = let no : false ≡ true = ap is_block e in absurd (cc)

none_leaves : OneLeaves [] → ⊥
none_leaves (this_leaves leaves e) = cc
none_leaves (later_leaves one e) = cc

first_or_later : (st : Stmt) (rest : List Stmt) → OneLeaves (st ∷ rest) → Leaves st ⊎ OneLeaves rest
first_or_later st rest (this_leaves {s = s} leaves e) = let same : s ≡ st = cc in inl (subst Leaves same leaves)
first_or_later st rest (later_leaves {rest = rest'} one e) = let same : rest' ≡ rest = cc in inr (subst OneLeaves same one)

module _ (program : Program) where
  -- how a typed statement completes, in a body that gives a type: normally only where this holds
  abbrev pub OfStatement : Scope → Ty → Type 0 → Ways program
  OfStatement scope gives Ends Fine s = Ends × Holds scope s.variables
  OfStatement scope gives Ends (Gives x) s = ⊥
  OfStatement scope gives Ends (Throws r) s = Unit {0}
  OfStatement scope gives Ends (Returns None) s = gives ≡ types.Void
  OfStatement scope gives Ends (Returns (Some x)) s = Suits program scope gives x

  module _ (i : Invocation) (outer : List Frame) (call_of : Calls) (scope : Scope) (stands : Stands program i call_of scope) (gives : Ty) where
    abbrev c : Context
    c = record { program = program; invocation = i; outer = outer; call = call_of }

    abbrev Statement : Type 0 → Ways program
    Statement = OfStatement scope gives

    ends_too : (A B : Type 0) → (A → B) → (w : Way) (s : Activation) → Statement A w s → Statement B w s
    ends_too A B f Fine s good = (f good.0, good.1)
    ends_too A B f (Gives x) s good = good
    ends_too A B f (Throws r) s good = good
    ends_too A B f (Returns None) s good = good
    ends_too A B f (Returns (Some x)) s good = good

    evaluated_safe : (Ends : Type 0) {x : Expr} {ty : Ty} → Ends → HasTy program scope x ty → (s : Activation) → Holds scope s.variables → IsSafe program (Statement Ends) (evaluated c x s)
    evaluated_safe Ends {x = x} {ty = ty} ends h s holds =
        on_value_safe program i outer call_of scope stands (Statement Ends) ty (expr c x s) (λ u. Went Fine) (λ r s. tt) (expr_safe program i outer call_of scope stands h s holds)
        (λ u s suits holds. at_once program (Statement Ends) (Went Fine s) Fine s (ends, holds) (λ zs. refl))

    returned_safe : (Ends : Type 0) {x : Expr} → HasTy program scope x gives → (s : Activation) → Holds scope s.variables → IsSafe program (Statement Ends) (returned c (Some x) s)
    returned_safe Ends {x = x} h s holds =
        on_value_safe program i outer call_of scope stands (Statement Ends) gives (expr c x s) (λ u. Went (Returns (Some u))) (λ r s. tt) (expr_safe program i outer call_of scope stands h s holds)
        (λ u s suits holds. at_once program (Statement Ends) (Went (Returns (Some u)) s) (Returns (Some u)) s suits (λ zs. refl))

    mutual
      pub stmt_safe : {st : Stmt} → IsOk program scope gives st → (s : Activation) → Holds scope s.variables → IsSafe program (Statement (Leaves st → ⊥)) (stmt c st s)
      stmt_safe (block {body = body} at ok e) s holds =
          subst (λ st. IsSafe program (Statement (Leaves st → ⊥)) (stmt c st s)) (sym e)
          (subst (λ (f : On). IsSafe program (Statement (Leaves (Block at body) → ⊥)) (f s)) (sym (Block_is c at body))
          (weaker program (Statement (OneLeaves body → ⊥)) (Statement (Leaves (Block at body) → ⊥)) (all c body s)
          (ends_too (OneLeaves body → ⊥) (Leaves (Block at body) → ⊥) (λ none leaves. none (leaves_in at body leaves))) (all_safe ok s holds)))
      stmt_safe (expression {x = x} at h e) s holds =
          let line = line_in i.class at in
          subst (λ st. IsSafe program (Statement (Leaves st → ⊥)) (stmt c st s)) (sym e)
          (point_safe program (Statement (Leaves (Expression at x) → ⊥)) c line (evaluated c x) s (evaluated_safe (Leaves (Expression at x) → ⊥) (stays at x) h (at_line s line) holds))
      stmt_safe (return_value {x = x} at h e) s holds =
          let line = line_in i.class at in
          subst (λ st. IsSafe program (Statement (Leaves st → ⊥)) (stmt c st s)) (sym e)
          (point_safe program (Statement (Leaves (Return at (Some x)) → ⊥)) c line (returned c (Some x)) s (returned_safe (Leaves (Return at (Some x)) → ⊥) h (at_line s line) holds))
      stmt_safe (return_nothing at void e) s holds =
          let line = line_in i.class at in
          subst (λ st. IsSafe program (Statement (Leaves st → ⊥)) (stmt c st s)) (sym e)
          (point_safe program (Statement (Leaves (Return at None) → ⊥)) c line (returned c None) s
          (at_once program (Statement (Leaves (Return at None) → ⊥)) (returned c None (at_line s line)) (Returns None) (at_line s line) void (λ zs. refl)))

      pub all_safe : {body : List Stmt} → AreOk program scope gives body → (s : Activation) → Holds scope s.variables → IsSafe program (Statement (OneLeaves body → ⊥)) (all c body s)
      all_safe (no_more e) s holds =
          subst (λ (body : List Stmt). IsSafe program (Statement (OneLeaves body → ⊥)) (all c body s)) (sym e)
          (at_once program (Statement (OneLeaves [] → ⊥)) (Went Fine s) Fine s (none_leaves, holds) (λ zs. refl))
      all_safe (and_then {rest = rest} {s = st} ok oks e) s holds =
          subst (λ (body : List Stmt). IsSafe program (Statement (OneLeaves body → ⊥)) (all c body s)) (sym e)
          (then_safe program (Statement (Leaves st → ⊥)) (Statement (OneLeaves (st ∷ rest) → ⊥)) (stmt c st s) (λ r. on_fine r (all c rest)) (λ a fs. refl) (stmt_safe ok s holds)
          (by_way (λ s holds. all_safe oks s holds)))
        where
          E : Type 0
          E = OneLeaves (st ∷ rest) → ⊥

          by_way : ((s : Activation) → Holds scope s.variables → IsSafe program (Statement (OneLeaves rest → ⊥)) (all c rest s))
              → (w : Way) (s : Activation) → Statement (Leaves st → ⊥) w s → IsSafe program (Statement E) (λ zs. on_fine (Went w s zs) (all c rest))
          by_way later Fine s good =
              weaker program (Statement (OneLeaves rest → ⊥)) (Statement E) (all c rest s) (ends_too (OneLeaves rest → ⊥) E (λ none one. by_place none (first_or_later st rest one))) (later s good.1)
            where
              by_place : (OneLeaves rest → ⊥) → Leaves st ⊎ OneLeaves rest → ⊥
              by_place none (inl leaves) = good.0 leaves
              by_place none (inr one) = none one
          by_way later (Gives x) s good = absurd good
          by_way later (Throws r) s good = at_once program (Statement E) (Went (Throws r) s) (Throws r) s tt (λ zs. refl)
          by_way later (Returns None) s good = at_once program (Statement E) (Went (Returns None) s) (Returns None) s good (λ zs. refl)
          by_way later (Returns (Some x)) s good = at_once program (Statement E) (Went (Returns (Some x)) s) (Returns (Some x)) s good (λ zs. refl)
