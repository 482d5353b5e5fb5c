use Rattle.std.proofs.Common.{◌∙◌, ◌-◌, List, [], rules, sym, ap, arith}
use Rattle.bj_tree.specs.declared.member.MemberTree.{MemberTree}
use Rattle.std.specs.Prelude.{not}
use Rattle.std.proofs.lemmas.Grind.{common_steps}
use Rattle.bj_grammar.specs.Given.{text_of, place_of}
use Rattle.bj_stmt.specs.Reading.{inside}
use Rattle.bj_class.specs.Reading.{member}
use Rattle.bj_parse.specs.Checked.{check_member}
use Rattle.bj_parse.specs.Early.{early_member}
use Rattle.bj_parse.specs.Parts.{members_of}
use Rattle.bj_parse.proofs.CheckedLoops.{stops, goes, fails, overs, run_start, out_halts}
use Rattle.bj_parse.proofs.members.members_from.Goals as goal

pub loop-turn-init : goal.loop-turn-init
loop-turn-init c = run_start (inside) (member (place_of c.args.tokens.now) c.args.bounds.most c.args.bounds.room) (check_member c.args.head.now) (early_member (place_of c.args.tokens.now) c.args.bounds.most (c.args.head.now).kind (text_of c.args.tokens.now)) (text_of c.args.tokens.now) c.args.bounds.most [] c.args.start
    ∙ ap (λ (b : List MemberTree). members_of c.args.tokens.now c.args.bounds c.args.head.now (c.args.bounds.most - 0) b c.args.start) (sym c.new-found.ensures)

pub returns-then-sees : goal.returns-then-sees
returns-then-sees c = stops (inside) (member (place_of c.args.tokens.now) c.args.bounds.most c.args.bounds.room) (check_member c.args.head.now) (early_member (place_of c.args.tokens.now) c.args.bounds.most (c.args.head.now).kind (text_of c.args.tokens.now)) (text_of c.args.tokens.now) _ c.args.bounds.most c.loop-turn._turn c.loop-turn.found c.loop-turn.at c.loop-turn.invariant (ap not (sym c.sees.ensures ∙ c.if-sees.true))

pub returns-in_err-found : goal.returns-in_err-found
returns-in_err-found c =
    let h = fails (inside) (member (place_of c.args.tokens.now) c.args.bounds.most c.args.bounds.room) (check_member c.args.head.now) (early_member (place_of c.args.tokens.now) c.args.bounds.most (c.args.head.now).kind (text_of c.args.tokens.now)) (text_of c.args.tokens.now) _ c.args.bounds.most c.loop-turn._turn c.loop-turn.found c.loop-turn.at c.loop-turn.invariant c.loop-turn-test.true (ap not (sym c.sees.ensures ∙ c.if-sees.false)) _ c.in_err-found.ensures in
    first_of (search rules, grind (arith, common_steps))

pub loop-turn-preserved : goal.loop-turn-preserved
loop-turn-preserved c = goes (inside) (member (place_of c.args.tokens.now) c.args.bounds.most c.args.bounds.room) (check_member c.args.head.now) (early_member (place_of c.args.tokens.now) c.args.bounds.most (c.args.head.now).kind (text_of c.args.tokens.now)) (text_of c.args.tokens.now) _ c.args.bounds.most c.loop-turn._turn c.loop-turn.found c.loop-turn.at c.loop-turn.invariant c.loop-turn-test.true (ap not (sym c.sees.ensures ∙ c.if-sees.false)) _ _ c.in_ok-found.ensures

pub returns-then-not-sees : goal.returns-then-not-sees
returns-then-not-sees c = out_halts _ c.out_of_turns.ensures (overs (inside) (member (place_of c.args.tokens.now) c.args.bounds.most c.args.bounds.room) (check_member c.args.head.now) (early_member (place_of c.args.tokens.now) c.args.bounds.most (c.args.head.now).kind (text_of c.args.tokens.now)) (text_of c.args.tokens.now) _ c.args.bounds.most c.loop-turn._turn c.loop-turn.found c.loop-turn.at c.loop-turn.invariant c.loop-turn-test.false (ap not (sym c.sees-2.ensures ∙ c.if-not-sees.true)))

pub returns : goal.returns
returns c = stops (inside) (member (place_of c.args.tokens.now) c.args.bounds.most c.args.bounds.room) (check_member c.args.head.now) (early_member (place_of c.args.tokens.now) c.args.bounds.most (c.args.head.now).kind (text_of c.args.tokens.now)) (text_of c.args.tokens.now) _ c.args.bounds.most c.loop-turn._turn c.loop-turn.found c.loop-turn.at c.loop-turn.invariant (ap not (sym c.sees-2.ensures ∙ c.if-not-sees.false))
