use Rattle.std.proofs.Common.{[], ◌∷◌, ◌∙◌, rules, ap, arith}
use Rattle.std.proofs.lemmas.Grind.{common_steps}
use Rattle.bj_base.specs.declared.span.Span.{Span}
use Rattle.bj_tree.specs.declared.stmt.StmtTree.TheVariants as stmt
use Rattle.bj_grammar.specs.Given.{text_of, place_of}
use Rattle.bj_stmt.specs.Reading.{nested}
use Rattle.bj_stmt.proofs.StmtCode.{told, for_none, for_one, for_fails, for_gives}
use Rattle.bj_stmt.proofs.reader.Reader.for_variables.Goals as goal

pub returns-then-self-eq0 : goal.returns-then-self-eq0
returns-then-self-eq0 g c = told _ _ _ c.place.ensures (for_none (place_of c.args.tokens.now) c.args.self.now.bounds.most (nested (place_of c.args.tokens.now) c.args.self.now.bounds.most c.args.self.now.bounds.room) c.args.start c.args.head.declared c.args.head.is_final c.args.head.of c.args.head.name c.args.head.named (text_of c.args.tokens.now) c.args.at c.args.self.now.bounds.room c.if-self-eq0.true)

pub returns-then-self-eq1 : goal.returns-then-self-eq1
returns-then-self-eq1 g c = told _ _ _ c.place-then-self-eq1.ensures (for_one (place_of c.args.tokens.now) c.args.self.now.bounds.most (nested (place_of c.args.tokens.now) c.args.self.now.bounds.most c.args.self.now.bounds.room) c.args.start c.args.head.declared c.args.head.is_final c.args.head.of c.args.head.name c.args.head.named (text_of c.args.tokens.now) c.args.at c.args.self.now.bounds.room c.if-self-eq1.true)

pub returns-in_err-variables : goal.returns-in_err-variables
returns-in_err-variables g c =
    let h = for_fails (place_of c.args.tokens.now) c.args.self.now.bounds.most (nested (place_of c.args.tokens.now) c.args.self.now.bounds.most c.args.self.now.bounds.room) c.args.start c.args.head.declared c.args.head.is_final c.args.head.of c.args.head.name c.args.head.named (text_of c.args.tokens.now) c.args.at c.args.self.now.bounds.room (omega arith) _ c.in_err-variables.ensures in
    first_of (search rules, grind (arith, common_steps))

pub returns : goal.returns
returns g c = for_gives (place_of c.args.tokens.now) c.args.self.now.bounds.most (nested (place_of c.args.tokens.now) c.args.self.now.bounds.most c.args.self.now.bounds.room) c.args.start c.args.head.declared c.args.head.is_final c.args.head.of c.args.head.name c.args.head.named (text_of c.args.tokens.now) c.args.at c.args.self.now.bounds.room (omega arith) _ _ c.in_ok-variables.ensures _
    (c.in_ok-init.ensures ∙ ap (λ (q : Span). (stmt.Local q c.args.head.is_final c.args.head.of c.in_ok-variables.variables ∷ [])) c.place-2.ensures) _ c.for_tail.ensures
