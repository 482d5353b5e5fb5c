use Rattle.std.proofs.Common.{◌≡◌, ◌<◌, Option, None, ap, sym, ◌∙◌, subst, arith}
use Rattle.bj_stream.specs.Reading.{Reader}
use Rattle.bj_session.specs.Desk.{Desk}
use Rattle.bj_session.specs.Session.{Session, Goes, todo}
use Rattle.bj_session.specs.declared.ends.Ending.{Ending}
use Rattle.bj_session.proofs.Steps.{goes_on, none_by}
use Rattle.bj_session.proofs.session.Session.run.Goals as goal

abbrev session : Reader → Desk → Option Ending → Session
session r d e = record { reader = r; desk = d; ending = e }

pub returns-in-NoMemory-clause-goes : goal.returns-in-NoMemory-clause-goes
returns-in-NoMemory-clause-goes g c =
    let same : session c.self.inside.reader c.decide.new.self c.self.inside.ending ≡ c.loop.self = ap (λ (d : Desk). session c.self.inside.reader d c.self.inside.ending) c.decide.ensures.same ∙ c.self.view_is in
    goes_on _ _ _ c.loop.invariant.goes (subst (λ (v : Session). Goes v c.give_up.new.self) same c.give_up.ensures.goes)

pub loop-preserved : goal.loop-preserved
loop-preserved g c =
    let same : session c.self.inside.reader c.decide.new.self c.self.inside.ending ≡ c.loop.self = ap (λ (d : Desk). session c.self.inside.reader d c.self.inside.ending) c.decide.ensures.same ∙ c.self.view_is in
    record {
      goes = goes_on _ _ _ c.loop.invariant.goes (subst (λ (v : Session). Goes v c.act.new.self) same c.act.ensures.goes);
      falls = λ none.
          let live : c.loop.self.ending ≡ None = ap (λ (v : Session). v.ending) (sym c.self.view_is) ∙ none_by c.self.inside.ending c.is_some.result c.is_some.ensures c.if-is_some.false in
          let before = c.loop.invariant.falls live in
          let less : todo c.act.new.self < todo c.loop.self = subst (λ (v : Session). todo c.act.new.self < todo v) same (c.act.ensures.falls none) in
          (before.0, omega arith);
    }
