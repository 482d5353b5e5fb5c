use Rattle.bj_lex.proofs.Sound.{sound}
use Rattle.bj_lex.proofs.Complete.{complete, one_reading}
use Rattle.bj_lex.proofs.grammar.tokens_are_derived.Goals as goal

pub returns-clause-sound : goal.returns-clause-sound
returns-clause-sound c = λ tokens end e. sound c.args.units.now tokens end e

pub returns-clause-complete : goal.returns-clause-complete
returns-clause-complete c = λ tokens l. let f = complete c.args.units.now tokens l in (f.ts, f.end, f.read_is, f.is)

pub returns-clause-unambiguous : goal.returns-clause-unambiguous
returns-clause-unambiguous c = λ left right l r. one_reading c.args.units.now left right l r
