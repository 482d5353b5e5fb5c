use Rattle.bj_lex.proofs.Runs.{from_place}
use Rattle.bj_lex.proofs.characters.rest_from.Goals as goal

pub returns : goal.returns
returns c = from_place c.args.units.now c.args.at
