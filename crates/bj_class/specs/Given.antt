-- What the functions that read give: the rules over some tokens, and the parts of rules that are functions of their own.
use Rattle.std.specs.Prelude.{◌≡◌, ℕ, suc, true, false, List, Result, Ok, Err}
use Rattle.bj_base.specs.declared.span.Span.{Span}
use Rattle.bj_token.specs.declared.token.Token.{Token}
use Rattle.bj_expr_tree.specs.declared.types.NamedPlace.{NamedPlace}
use Rattle.bj_tree.specs.declared.class.Modifier.{Modifier}
use Rattle.bj_tree.specs.declared.class.AnnotationTree.{AnnotationTree}
use Rattle.bj_tree.specs.declared.member.ParameterTree.{ParameterTree}
use Rattle.bj_grammar.specs.declared.stop.Stop.{Stop}
use Rattle.bj_grammar.specs.declared.stop.Stop.TheVariants as f
use Rattle.bj_grammar.specs.declared.terminal.Terminal.TheVariants as t
use Rattle.bj_grammar.specs.Terminal.{among}
use Rattle.bj_grammar.specs.Given.{place_of}
use Rattle.bj_grammar.specs.Reader.{Text, Parser, loop}
use Rattle.bj_expr.specs.declared.bounds.Bounds.{Bounds}
use Rattle.bj_expr.specs.Reading.{is}
use Rattle.bj_class.specs.Grammar.{modifier_words}
use Rattle.bj_class.specs.Reading.{is_spelled, next_name, next_annotation, next_modifier, next_parameter}

-- a rule in which no node is nested
abbrev pub over_most : {B : Type 0} → ((ℕ → Span) → ℕ → B) → List Token → Bounds → B
over_most rule tokens bounds = rule (place_of tokens) bounds.most

-- a word that is spelled so was taken
abbrev pub TakesSpelled : Result ℕ Stop → Text → ℕ → List ℕ → Type 0
TakesSpelled (Ok next) s at units = (is_spelled units (s at) ≡ true) × (next ≡ suc at)
TakesSpelled (Err e) s at units = (is_spelled units (s at) ≡ false) × (e ≡ f.Syntax at)

-- ---- the loops

-- the names after a first one, each after a comma
abbrev pub names_of : List Token → Bounds → List NamedPlace → Parser (List NamedPlace)
names_of tokens bounds = loop bounds.most (is t.Comma) (over_most next_name tokens bounds)

-- the annotations after some
abbrev pub annotations_of : List Token → Bounds → List AnnotationTree → Parser (List AnnotationTree)
annotations_of tokens bounds = loop bounds.most (is t.At) (over_most next_annotation tokens bounds)

-- the modifiers after some
abbrev pub modifiers_of : List Token → Bounds → List Modifier → Parser (List Modifier)
modifiers_of tokens bounds = loop bounds.most (among modifier_words) (over_most next_modifier tokens bounds)

-- the parameters after a first one, each after a comma
abbrev pub parameters_of : List Token → Bounds → List ParameterTree → Parser (List ParameterTree)
parameters_of tokens bounds = loop bounds.most (is t.Comma) (over_most next_parameter tokens bounds)
