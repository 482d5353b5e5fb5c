use Rattle.std.proofs.Common.{length}
use Rattle.bj_lex.proofs.Faults.{halt, size_of}
use Rattle.bj_lex.proofs.Reported.{reported}
use Rattle.bj_lex.proofs.grammar.faults_are_of_a_rule.Goals as goal

pub returns-clause-sound : goal.returns-clause-sound
returns-clause-sound c = λ at place code e.
    let h = halt c.args.units.now at place code e in
    (h.front, h.rest, h.tokens, h.is, size_of at (length h.front) h.at_is, h.place_is, h.leads, h.faulty)

pub returns-clause-complete : goal.returns-clause-complete
returns-clause-complete c = λ at place code f. reported c.args.units.now f.0 f.1 f.2 at place code f.3 f.4 f.5 f.6 f.7
