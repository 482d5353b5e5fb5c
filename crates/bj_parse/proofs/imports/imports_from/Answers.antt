use Rattle.std.proofs.Common.{◌∙◌, ◌-◌, List, [], rules, sym, ap, arith}
use Rattle.bj_tree.specs.declared.class.ImportTree.{ImportTree}
use Rattle.std.proofs.lemmas.Grind.{common_steps}
use Rattle.bj_grammar.specs.declared.terminal.Terminal.TheVariants as t
use Rattle.bj_grammar.specs.Given.{text_of, place_of}
use Rattle.bj_expr.specs.Reading.{is}
use Rattle.bj_class.specs.Reading.{import_at}
use Rattle.bj_parse.specs.Checked.{nothing_early, check_import}
use Rattle.bj_parse.specs.Parts.{imports_of}
use Rattle.bj_parse.proofs.CheckedLoops.{stops, goes, fails, overs, run_start, out_halts}
use Rattle.bj_parse.proofs.imports.imports_from.Goals as goal

pub loop-turn-init : goal.loop-turn-init
loop-turn-init c = run_start (is t.Import) (import_at (place_of c.args.tokens.now) c.args.bounds.most) (check_import) nothing_early (text_of c.args.tokens.now) c.args.bounds.most [] 0
    ∙ ap (λ (b : List ImportTree). imports_of c.args.tokens.now c.args.bounds (c.args.bounds.most - 0) b 0) (sym c.new-found.ensures)

pub returns-then-not-sees : goal.returns-then-not-sees
returns-then-not-sees c = stops (is t.Import) (import_at (place_of c.args.tokens.now) c.args.bounds.most) (check_import) nothing_early (text_of c.args.tokens.now) _ c.args.bounds.most c.loop-turn._turn c.loop-turn.found c.loop-turn.at c.loop-turn.invariant (sym c.sees.ensures ∙ c.if-not-sees.true)

pub returns-in_err-found : goal.returns-in_err-found
returns-in_err-found c =
    let h = fails (is t.Import) (import_at (place_of c.args.tokens.now) c.args.bounds.most) (check_import) nothing_early (text_of c.args.tokens.now) _ c.args.bounds.most c.loop-turn._turn c.loop-turn.found c.loop-turn.at c.loop-turn.invariant c.loop-turn-test.true (sym c.sees.ensures ∙ c.if-not-sees.false) _ c.in_err-found.ensures in
    first_of (search rules, grind (arith, common_steps))

pub loop-turn-preserved : goal.loop-turn-preserved
loop-turn-preserved c = goes (is t.Import) (import_at (place_of c.args.tokens.now) c.args.bounds.most) (check_import) nothing_early (text_of c.args.tokens.now) _ c.args.bounds.most c.loop-turn._turn c.loop-turn.found c.loop-turn.at c.loop-turn.invariant c.loop-turn-test.true (sym c.sees.ensures ∙ c.if-not-sees.false) _ _ c.in_ok-found.ensures

pub returns-then-sees : goal.returns-then-sees
returns-then-sees c = out_halts _ c.out_of_turns.ensures (overs (is t.Import) (import_at (place_of c.args.tokens.now) c.args.bounds.most) (check_import) nothing_early (text_of c.args.tokens.now) _ c.args.bounds.most c.loop-turn._turn c.loop-turn.found c.loop-turn.at c.loop-turn.invariant c.loop-turn-test.false (sym c.sees-2.ensures ∙ c.if-sees.true))

pub returns : goal.returns
returns c = stops (is t.Import) (import_at (place_of c.args.tokens.now) c.args.bounds.most) (check_import) nothing_early (text_of c.args.tokens.now) _ c.args.bounds.most c.loop-turn._turn c.loop-turn.found c.loop-turn.at c.loop-turn.invariant (sym c.sees-2.ensures ∙ c.if-sees.false)
