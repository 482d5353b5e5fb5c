use Rattle.std.proofs.Common.{◌≡◌}
use Rattle.bj_code.specs.TermCode.{all_depth, stmt_depth}
use Rattle.bj_gen.proofs.Emits.{more_code, more_depth, block_code, block_depth, on_ok, if_ok}
use Rattle.bj_gen.proofs.statements.+statements.Goals as goal

pub emit_all-loop-stmt-preserved : goal.emit_all-loop-stmt-preserved
emit_all-loop-stmt-preserved t c = (
  more_code c.args.program.now c.args.class c.args.stmts.now c.loop-stmt.stmt-index c.stmt-item.result c.args.steps.now c.loop-stmt.steps c.emit_stmt.new.steps c.stmt-item.is c.loop-stmt-test.true c.loop-stmt.invariant.0 c.in_ok-emit_stmt.ensures.code,
  more_depth c.args.stmts.now c.loop-stmt.stmt-index c.stmt-item.result c.loop-stmt.depth c.in_ok-emit_stmt.field-0 c.larger-depth.result c.stmt-item.is c.loop-stmt-test.true c.loop-stmt.invariant.1 c.in_ok-emit_stmt.ensures.depth c.larger-depth.ensures,
)

pub emit_stmt-returns-in-Block-clause-code : goal.emit_stmt-returns-in-Block-clause-code
emit_stmt-returns-in-Block-clause-code t c =
    on_ok c.emit_all.result (block_code c.args.program.now c.args.class c.args.stmt.now c.in-Block.at c.in-Block.body c.as_slice.result.now c.args.steps.now c.emit_all.new.steps c.in-Block.is c.as_slice.ensures) c.emit_all.ensures.code

pub emit_stmt-returns-in-Block-clause-depth : goal.emit_stmt-returns-in-Block-clause-depth
emit_stmt-returns-in-Block-clause-depth t c =
    if_ok {P = λ d. d ≡ all_depth c.as_slice.result.now} {Q = λ d. d ≡ stmt_depth c.args.stmt.now} c.emit_all.result (λ d. block_depth c.args.stmt.now c.in-Block.at c.in-Block.body c.as_slice.result.now d c.in-Block.is c.as_slice.ensures) c.emit_all.ensures.depth
