-- The judgement on annotations and modifiers, from the laws of the readers of heads and members.
use Rattle.std.proofs.Common.{suc, List, length}
use Rattle.bj_token.specs.declared.token.Token.{Token}
use Rattle.bj_grammar.specs.Given.{place_of}
use Rattle.bj_stmt.proofs.GivenExpressions.{given}
use Rattle.bj_class.specs.Deep.{DeepMember}
use Rattle.bj_line.specs.Line.{most_nodes}
use Rattle.bj_parse.proofs.EarlyNeeded.{Early}
use Rattle.bj_parse.proofs.EarlyLaws.{Marks}
use Rattle.bj_parse.proofs.EarlyJoin as join
use Rattle.bj_parse.proofs.EarlyJoin.{EveryOwned}
use Rattle.bj_parse.proofs.SameMarks as same
use Rattle.bj_parse.proofs.HeadOwned.{head_owned}
use Rattle.bj_parse.proofs.MemberOwned.{member_owned}
use Rattle.bj_parse.proofs.PartLaws.{parts}

marks : (tokens : List Token) → Marks tokens
marks tokens = record {
  modifiers_behind = same.modifiers_behind tokens;
  annotations_behind = same.annotations_behind tokens;
  found_behind = same.found_behind tokens;
  found_unfit = same.found_unfit tokens;
  unfit_end = λ notes note n i j x d fit stands whole unfit. same.unfit_end tokens n x notes note i j d fit stands whole unfit;
}

owned : (tokens : List Token) → EveryOwned tokens most_nodes
owned tokens = record {
  heads = λ n k wrong. head_owned tokens n k;
  members = λ kind n k wrong no_block. member_owned tokens most_nodes (given (place_of tokens) (suc (length tokens))) kind n k wrong no_block;
}

pub early : (tokens : List Token) → Early tokens (suc (length tokens)) most_nodes
early tokens = join.early tokens most_nodes (marks tokens) (owned tokens) (DeepMember most_nodes) (parts (place_of tokens) (suc (length tokens))).member_laws
