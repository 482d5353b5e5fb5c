use Rattle.std.proofs.Common.{ap, sym, ◌∙◌, Some}
use Rattle.bj_exec.specs.Machine.{loaded}
use Rattle.bj_exec.proofs.Follow.{goes_now, moved, on_both}
use Rattle.bj_exec.proofs.Nearer.{nearer}
use Rattle.bj_exec.proofs.Plain.{are_plain}
use Rattle.bj_exec.proofs.thread.Thread.advance.Goals as goal

pub advance_run-requires : goal.advance_run-requires
advance_run-requires c = let o = c.requires.on in let q = goes_now c.args._program.now c.args.code.now o.limit o.term o.answers c.args.self.now c.requires.moves o.follows in (c.args.self.now.limit, q)

pub returns-clause-follows : goal.returns-clause-follows
returns-clause-follows c =
    on_both c.advance_run.result
    (λ same bound limit term answers f.
    let q = goes_now c.args._program.now c.args.code.now limit term answers c.args.self.now c.requires.moves f in
    moved c.args._program.now c.args.code.now limit term answers c.typed_terms_go_on.ensures c.args.self.now c.advance_run.new.run c.requires.moves (q.1 ∙ ap Some (sym (same c.args.self.now.limit q.0 q.1))) (bound c.args.self.now.limit) f)
    c.advance_run.ensures.ok c.advance_run.ensures.bound

pub returns-clause-nearer : goal.returns-clause-nearer
returns-clause-nearer c =
    let o = c.requires.on in
    let q = goes_now c.args._program.now c.args.code.now o.limit o.term o.answers c.args.self.now c.requires.moves o.follows in
    on_both c.advance_run.result
    (λ same bound. nearer (loaded c.args.code.now c.args.self.now) (are_plain c.args._program.now o.term c.args.code.now c.args.self.now.body c.args.self.now.limit o.follows.is_code o.follows.is_body) c.args.self.now.run c.advance_run.new.run c.requires.moves
    (q.1 ∙ ap Some (sym (same c.args.self.now.limit q.0 q.1))))
    c.advance_run.ensures.ok c.advance_run.ensures.bound
