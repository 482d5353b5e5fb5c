-- What the modifiers before a class or an interface that goes wrong may belong to, as the tokens of a file tell.
use Rattle.std.proofs.Common.{ℕ, suc, List, length}
use Rattle.bj_token.specs.declared.token.Token.{Token}
use Rattle.bj_grammar.specs.Given.{text_of, place_of}
use Rattle.bj_parse.specs.Early.{head_places}
use Rattle.bj_parse.specs.Marks.{head_place}
use Rattle.bj_parse.proofs.EarlyNeeded.{HeadRel}
use Rattle.bj_parse.proofs.Owners.{OwnerLaws}
use Rattle.bj_parse.proofs.SameMarks.{same_marks, found_behind}
use Rattle.bj_parse.proofs.HeadOwners as head
use Rattle.bj_class.proofs.NoteLaws.{modifiers_laws}

pub head_owned : (tokens : List Token) (n k : ℕ) → OwnerLaws (HeadRel (place_of tokens)) head_place (place_of tokens) (suc (length tokens)) (text_of tokens) n k (λ q. head_places (text_of tokens) q k)
head_owned tokens n k = record {
  complete = λ i q ms behind read owner may. let w = found_behind tokens n i behind in
      head.complete (place_of tokens) (suc (length tokens)) (text_of tokens) n i q k w.0 ms w.1 ((modifiers_laws (place_of tokens) (suc (length tokens))).sound (text_of tokens) i ms q read) (same_marks tokens n i q k ms behind read) owner may;
  sound = λ i q ms behind read some c owner one. let w = found_behind tokens n i behind in
      head.sound (place_of tokens) (suc (length tokens)) (text_of tokens) n i q k w.0 ms w.1 ((modifiers_laws (place_of tokens) (suc (length tokens))).sound (text_of tokens) i ms q read) (same_marks tokens n i q k ms behind read) c owner one;
}
