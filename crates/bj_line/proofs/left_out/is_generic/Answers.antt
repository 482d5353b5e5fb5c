use Rattle.std.proofs.Common.{sym}
use Rattle.bj_grammar.specs.declared.terminal.Terminal.TheVariants as t
use Rattle.bj_grammar.proofs.TextLemmas.{not_at_end}
use Rattle.bj_stmt.proofs.Leftmost.{and_first}
use Rattle.bj_line.proofs.left_out.is_generic.Goals as goal

pub returns-then-at-tokens : goal.returns-then-at-tokens
returns-then-at-tokens c = sym (and_first _ _ (not_at_end c.args.tokens.now c.args.at t.Less c.if-at-tokens.true (λ e. cc)))
