-- A typed term that is given allowed answers never goes wrong.
use Rattle.std.proofs.Common.{◌≡◌, ◌≤◌, ℕ, suc, ◌-◌, List, [], ◌∷◌, ◌++◌, Some, None, refl, sym, ap, ◌∙◌, subst, append-nil, arith}
use Rattle.bj_core.specs.declared.frame.Frame.{Frame}
use Rattle.bj_core.specs.declared.frame.Term.{Term}
use Rattle.bj_core.specs.declared.program.Program.{Program}
use Rattle.bj_core.specs.declared.action.Action.TheVariants as act
use Rattle.bj_core.specs.declared.action.Answer.{Answer}
use Rattle.bj_core.specs.declared.action.Done.{Done}
use Rattle.bj_core.specs.declared.action.Done.TheVariants as done
use Rattle.bj_eval.specs.declared.activation.Activation.{Activation}
use Rattle.bj_eval.specs.Allowed.{Allows, IsAllowed}
use Rattle.bj_eval.specs.Entering.{enter}
use Rattle.bj_eval.specs.Evaluation.{Way, Fine, Gives, Throws, Returns, Result, Went, Wants, Wrong, Unfit}
use Rattle.bj_eval.specs.Frames.{frame_of, invocation_of_term, start_of}
use Rattle.bj_eval.specs.Next.{Asked, asked, over_in, outcome_of, outermost, next_of}
use Rattle.bj_eval.specs.Statements.{stmt}
use Rattle.bj_eval.specs.Typed.{IsTyped, Leaves, scope_of}
use Rattle.bj_eval.proofs.Answers.{at_each}
use Rattle.bj_eval.proofs.Bodies.{calls_safe}
use Rattle.bj_eval.proofs.Expressions.{AreSafe, Stands}
use Rattle.bj_eval.proofs.Holding.{holds_given}
use Rattle.bj_eval.proofs.Safety.{Uses, Safe}
use Rattle.bj_eval.proofs.Statements.{OfStatement, stmt_safe}

module _ (program : Program) (limit : ℕ) (term : Term) where
  abbrev h : List Answer → Result
  h = stmt (outermost program limit) term.body (start_of term)

  -- the ways in which the term completes
  abbrev Ends : Way → Activation → Type 0
  Ends = OfStatement program (scope_of term) term.gives (Leaves term.body → ⊥)

  -- the answers after the end of a term are not allowed
  no_more_after : (xs used ys : List Answer) (y : Answer) (d : Done) (fs : List Frame) → IsAllowed program limit term xs → xs ≡ used ++ y ∷ ys → next_of program limit term used ≡ Some (record { action = act.End d; frames = fs }) → ⊥
  no_more_after xs used ys y d fs allowed split ends =
      let b = at_each program limit term allowed used ys y split in
      let p : Some b.0 ≡ Some (record { action = act.End d; frames = fs }) = sym b.1 ∙ ends in
      let same : b.0 ≡ record { action = act.End d; frames = fs } = cc in
      subst (λ (a : Asked). Allows program a.action y) same b.2

  ends_at : (used : List Answer) (w : Way) (s : Activation) → h (used ++ []) ≡ Went w s [] → next_of program limit term used ≡ asked (outcome_of (Went w s []))
  ends_at used w s e = ap (λ l. asked (outcome_of (h l))) (sym (append-nil used)) ∙ ap (λ r. asked (outcome_of r)) e

  -- where a way is an end
  over : (xs ys : List Answer) (w : Way) (s : Activation) (d : Done) → IsAllowed program limit term xs → Uses program h xs w s ys
      → ((zs : List Answer) → asked (outcome_of (Went w s zs)) ≡ asked (over_in d s zs)) → (a : Asked) × (asked (outcome_of (Went w s ys)) ≡ Some a)
  over xs [] w s d allowed u is_over = (_, is_over [])
  over xs (y ∷ ys) w s d allowed u is_over =
      absurd (no_more_after xs u.used ys y d (frame_of invocation_of_term s ∷ []) allowed u.split (ends_at u.used w s (u.same []) ∙ is_over []))

  by_result : (xs : List Answer) (r : Result) → IsAllowed program limit term xs → Safe program Ends h xs r → (a : Asked) × (asked (outcome_of r) ≡ Some a)
  by_result xs (Went Fine s ys) allowed safe = over xs ys Fine s done.Nothing allowed safe.0 (λ zs. refl)
  by_result xs (Went (Gives v) s ys) allowed safe = absurd safe.1
  by_result xs (Went (Throws r) s ys) allowed safe = over xs ys (Throws r) s (done.Threw r) allowed safe.0 (λ zs. refl)
  by_result xs (Went (Returns None) s ys) allowed safe = over xs ys (Returns None) s done.Nothing allowed safe.0 (λ zs. refl)
  by_result xs (Went (Returns (Some v)) s ys) allowed safe = over xs ys (Returns (Some v)) s (done.Value v) allowed safe.0 (λ zs. refl)
  by_result xs (Wants a fs) allowed safe = (_, refl)
  by_result xs Wrong allowed safe = absurd safe
  by_result xs Unfit allowed safe = absurd safe

  pub goes_on : (xs : List Answer) → 2 ≤ limit → IsTyped program term → IsAllowed program limit term xs → (a : Asked) × (next_of program limit term xs ≡ Some a)
  goes_on xs room typed allowed =
      let deep : limit - 1 ≡ suc (limit - 2) = omega (arith, room) in
      let calls : AreSafe program (enter (limit - 1) program) = subst (λ n. AreSafe program (enter n program)) (sym deep) (calls_safe program typed.is_program (limit - 2)) in
      let stands : Stands program invocation_of_term (enter (limit - 1) program) (scope_of term) = record { this_is = λ class e. absurd (cc); plain = λ e. absurd (cc); calls = λ e. calls } in
      by_result xs (h xs) allowed
      (stmt_safe program invocation_of_term [] (enter (limit - 1) program) (scope_of term) stands term.gives typed.body (start_of term) (record { each = holds_given term.scope }) xs
      (λ front rest x a fs cut_at wants.
      let b = at_each program limit term allowed front rest x cut_at in
      let p : Some b.0 ≡ Some (record { action = a; frames = fs }) = sym b.1 ∙ ap (λ r. asked (outcome_of r)) wants in
      let same : b.0 ≡ record { action = a; frames = fs } = cc in
      subst (λ (a : Asked). Allows program a.action x) same b.2))
