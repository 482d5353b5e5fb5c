use Rattle.std.proofs.Common.{ℕ, sym, arith, not}
use Rattle.std.proofs.lemmas.Bool.Decides.{nat_tests}
use Rattle.std.proofs.lemmas.List.Sums.{position_or_len_is}
use Rattle.bj_command.specs.Words.{is_space}
use Rattle.bj_command.proofs.scan.count_spaces.Goals as goal

pub returns-then-byte-ne32-clause-count : goal.returns-then-byte-ne32-clause-count
returns-then-byte-ne32-clause-count c = sym (position_or_len_is (λ (byte : ℕ). not (is_space byte)) c.args.bytes.now c.loop-i.i 0 (omega arith) c.loop-i.invariant (λ lt. grind (arith, nat_tests)))

pub returns-clause-count : goal.returns-clause-count
returns-clause-count c = sym (position_or_len_is (λ (byte : ℕ). not (is_space byte)) c.args.bytes.now _ 0 (omega arith) (λ k lt. c.loop-i.invariant k (omega arith)) (λ lt. absurd (omega arith)))
