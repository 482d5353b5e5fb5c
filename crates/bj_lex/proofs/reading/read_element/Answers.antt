use Rattle.std.proofs.Common.{sym, ap, ◌∙◌, subst}
use Rattle.bj_lex.specs.Texts.{after_tokens, token_at}
use Rattle.bj_lex.specs.Elements.{IsWithin}
use Rattle.bj_lex.proofs.Steps.{blank_goes_on, token_goes_on, fault_stops}
use Rattle.bj_lex.proofs.reading.read_element.Goals as goal

pub returns-in-Blank-clause-ok : goal.returns-in-Blank-clause-ok
returns-in-Blank-clause-ok c =
    let within = subst (IsWithin c.args.rest.now) c.in-Blank.is c.in_ok-length.ensures.within in
    blank_goes_on c.args.at c.args.place c.args.items.now c.args.rest.now c.in-Blank.length c.requires.some (sym c.in-Blank.is ∙ c.in_ok-length.ensures.value) within.0 within.1

pub returns-in-Fault-clause-err : goal.returns-in-Fault-clause-err
returns-in-Fault-clause-err c =
    ap (after_tokens c.args.items.now) (fault_stops c.args.at c.args.place c.args.rest.now c.in-Fault.code c.requires.some (sym c.in-Fault.is ∙ c.in_ok-length.ensures.value))

pub returns-in_ok-push-in-Token-clause-ok : goal.returns-in_ok-push-in-Token-clause-ok
returns-in_ok-push-in-Token-clause-ok c =
    let within = subst (IsWithin c.args.rest.now) c.in-Token.is c.in_ok-length.ensures.within in
    token_goes_on c.args.at c.args.place c.args.items.now c.push.new.self c.args.rest.now c.in-Token.kind c.in-Token.length c.in_ok-token_at-in-Token.field-0 c.requires.some
    (sym c.in-Token.is ∙ c.in_ok-length.ensures.value) within.0 within.1
    (c.in_ok-token_at-in-Token.ensures ∙ ap (token_at c.in-Token.kind c.args.place) c.front_of.ensures) c.in_ok-push-in-Token.ensures.ok
