use Rattle.std.proofs.Common.{◌≡◌, sym, ◌∙◌, ◌<◌, ◌+◌, ◌-◌, ◌*◌, drop, get_or, arith, length}
use Rattle.std.proofs.lemmas.List.{at_drop_more}
use Rattle.bj_text.proofs.Numerals.{numeral_after, passes}
use Rattle.bj_text.proofs.numeral.numeral_up_to.Goals as goal

pub returns-then-next-most : goal.returns-then-next-most
returns-then-next-most c =
    let digits = c.args.digits.now in
    let i = c.loop-digit.digit-index in
    let step = at_drop_more (numeral_after c.args.most c.loop-digit.value) digits i 0 c.loop-digit-test.true in
    let none = passes c.args.most c.loop-digit.value (get_or digits i 0) (drop (i + 1) digits) (omega arith) in
    sym (step ∙ none) ∙ c.loop-digit.invariant.1
