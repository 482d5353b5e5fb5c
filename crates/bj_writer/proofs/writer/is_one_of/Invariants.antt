use Rattle.std.proofs.Common.{◌≡◌, drop}
use Rattle.bj_lex.specs.Signs.{is_one_of}
use Rattle.bj_writer.proofs.writer.is_one_of.Given as goal

abbrev pub invariant-loop-one : goal.invariant-loop-one
invariant-loop-one l = is_one_of (drop l.one-index l.units) l.unit ≡ is_one_of l.units l.unit
