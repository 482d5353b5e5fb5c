use Rattle.std.proofs.Common.{◌≡◌, ◌∷◌, sym, ap, ◌∙◌}
use Rattle.bj_code.specs.Step.{given_back}
use Rattle.bj_exec.specs.Machine.{left}
use Rattle.bj_exec.proofs.Steps.{given_there}
use Rattle.bj_exec.proofs.leaving.go_back.Goals as goal

pub give_back-requires : goal.give_back-requires
give_back-requires c =
    let e = ap (λ v. left v c.args.caller (c.args.caller ∷ c.args.run.now.below)) (sym c.in-Some.is) ∙ c.requires.1 in
    let f = given_there c.in-Some.value c.args.caller c.args.caller c.args.run.now.below c.requires.0 e in
    let top : c.turn.new.run.top ≡ c.args.caller = ap (λ r. r.top) c.turn.ensures ∙ c.replace.ensures.after in
    (f.0, ap (given_back c.in-Some.value) top ∙ f.1)
