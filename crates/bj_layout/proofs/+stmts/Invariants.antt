use Rattle.std.proofs.Common.{take, map}
use Rattle.bj_writer.specs.Pieces.{Wrote}
use Rattle.bj_layout.specs.Exprs.{with_commas}
use Rattle.bj_layout.specs.Stmts.{Pieces, in_line, stmt_parts}
use Rattle.bj_layout.proofs.+stmts.Given as goal

abbrev pub invariant-blocks::write_in_line-loop-tree : goal.invariant-blocks::write_in_line-loop-tree
invariant-blocks::write_in_line-loop-tree l = Wrote l.fn.out l.out (in_line (map stmt_parts (take l.tree-index l.trees)))

abbrev pub invariant-for_loop::write_inits-loop-index : goal.invariant-for_loop::write_inits-loop-index
invariant-for_loop::write_inits-loop-index l = Wrote l.fn.out l.out (with_commas (map (λ (p : Pieces). p.bare) (map stmt_parts (take l.index l.init))))
