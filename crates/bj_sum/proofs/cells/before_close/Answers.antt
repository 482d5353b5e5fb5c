use Rattle.std.proofs.Common.{◌≡◌, ℕ, true, drop, sym, subst, arith}
use Rattle.bj_sum.specs.Cells.{is_blank}
use Rattle.bj_sum.proofs.CellTurns.{close_found, none_found, none_in_blank}
use Rattle.bj_sum.proofs.cells.before_close.Goals.{then-loop-end-test+else-text-end-eq32, else-loop-end-test, else-end-gt0-via-then-end-gt0+else-text-end-eq41, else-end-gt0-via-else-end-gt0}
use Rattle.bj_sum.proofs.cells.before_close.Goals as goal

pub returns-then-text-end-eq41-clause-value : goal.returns-then-text-end-eq41-clause-value
returns-then-text-end-eq41-clause-value c =
    sym (close_found c.args.text.now c.loop-end.end (omega (arith, c.if-end-gt0.true)) c.loop-end.invariant.within c.if-text-end-eq41.true c.loop-end.invariant.blank)

pub returns-clause-value : goal.returns-clause-value
returns-clause-value c = elim c.else-end-gt0.branch [
  | else-end-gt0-via-then-end-gt0+else-text-end-eq41 w ↦ elim c.loop-end-test.branch [
    | then-loop-end-test+else-text-end-eq32 v ↦ sym (none_found c.args.text.now c.loop-end.end (omega (arith, w.if-end-gt0.true)) c.loop-end.invariant.within
        w.if-text-end-eq41.false v.if-text-end-eq32.false c.loop-end.invariant.blank)
    | else-loop-end-test v ↦ absurd (omega (arith, w.if-end-gt0.true, v.loop-end-test.false))
  ]
  | else-end-gt0-via-else-end-gt0 w ↦
      let nought : c.loop-end.end ≡ 0 = omega (arith, w.if-end-gt0.false) in
      sym (none_in_blank c.args.text.now (subst (λ (n : ℕ). is_blank (drop n c.args.text.now) ≡ true) nought c.loop-end.invariant.blank))
]
