use Rattle.std.proofs.Common.{◌≡◌, ◌≤◌, None}
use Rattle.bj_session.specs.Session.{Goes, todo}
use Rattle.bj_session.proofs.session.Session.run.Given as goal

abbrev pub invariant-loop : goal.invariant-loop
invariant-loop g l = record {
  goes : Goes l.fn.self l.self;
  falls : l.self.ending ≡ None → (l.fn.self.ending ≡ None) × (todo l.self ≤ todo l.fn.self);
}
