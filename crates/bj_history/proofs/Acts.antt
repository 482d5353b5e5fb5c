-- How many actions a history has.
use Rattle.std.proofs.Common.{◌≡◌, ◌≤◌, ℕ, suc, List, [], ◌∷◌, length, refl, ap, arith}
use Rattle.bj_core.specs.declared.entry.Entry.{Entry}
use Rattle.bj_core.specs.declared.entry.Entry.TheVariants.{Act, Line}
use Rattle.bj_history.specs.declared.opening.Opening.{Opening}
use Rattle.bj_history.specs.Replies.{After, LineOutcome}
use Rattle.bj_history.specs.History.{after, after_line, started, Legal, action_at, actions}
use Rattle.bj_history.proofs.Outcomes.{of_line, line_case}

-- a line does no action
pub acts_line : (o : Opening) (line text : List ℕ) (s : After) → (after_line o line text s).world.acts ≡ s.world.acts
acts_line o line text s =
    line_case (λ (t : After). t.world.acts ≡ s.world.acts) o line text s refl
    (of_line (λ (x : LineOutcome). (started x.term s.world).acts ≡ s.world.acts) o line s
    (record { text = λ text. refl; read = λ form text. refl; opened = refl; started = λ term free binds. refl; bound = λ name e free untaken. refl }))

-- a legal history has no more actions than the limit
pub few_acts : (o : Opening) (log : List Entry) → Legal o log → (after o log).world.acts ≤ o.limits.acts
few_acts o [] legal = omega arith
few_acts o (Act thread answer ∷ front) legal = let left = legal.0.may.left in omega arith
few_acts o (Line line text ∷ front) legal = let before = few_acts o front legal.1 in let same = acts_line o line text (after o front) in omega arith
few_acts o (e ∷ front) legal = few_acts o front legal.1

-- the last entry's action stands first
pub actions_with : (o : Opening) (e : Entry) (front : List Entry) → actions o (e ∷ front) ≡ action_at o (after o front) e ∷ actions o front
actions_with o e front = refl

-- each entry has its place among the actions
pub as_many_actions : (o : Opening) (log : List Entry) → length (actions o log) ≡ length log
as_many_actions o [] = refl
as_many_actions o (e ∷ front) = ap suc (as_many_actions o front)
