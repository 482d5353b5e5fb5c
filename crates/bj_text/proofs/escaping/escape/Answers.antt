use Rattle.std.proofs.Common.{◌≡◌, ◌+◌, ◌++◌, ◌<◌, length, sym, ap, ◌∙◌, drop, get_or, arith, append_assoc, get_or-drop, ℕ, List}
use Rattle.std.proofs.lemmas.List.{at_drop_more}
use Rattle.std.proofs.lemmas.Grind.{common_steps}
use Rattle.bj_text.specs.Escape.{escaped_after, escaped_unit}
use Rattle.bj_text.specs.declared.escaping.Quote.{Quote}
use Rattle.bj_text.proofs.escaping.escape.Goals as goal

escape_step : (quote : Quote) (text more units : List ℕ) (at before after : ℕ) (whole : List ℕ) → at < length units → after ≡ get_or units (at + 1) 0
    → more ≡ text ++ escaped_unit quote before (get_or units at 0) after → text ++ escaped_after quote before (drop at units) ≡ whole
    → more ++ escaped_after quote (get_or units at 0) (drop (at + 1) units) ≡ whole
escape_step quote text more units at before after whole lt e m h =
    let u = get_or units at 0 in
    let rest = escaped_after quote u (drop (at + 1) units) in
    let next : get_or (drop (at + 1) units) 0 0 ≡ after = get_or-drop (at + 1) units 0 0 ∙ ap (λ n. get_or units n 0) {x = at + 1 + 0} {y = at + 1} (omega arith) ∙ sym e in
    ap (λ t. t ++ rest) m ∙ append_assoc text (escaped_unit quote before u after) rest
    ∙ ap (λ t. text ++ t) (ap (λ n. escaped_unit quote before u n ++ rest) (sym next) ∙ sym (at_drop_more (escaped_after quote before) units at 0 lt)) ∙ h

pub loop-at-preserved : goal.loop-at-preserved
loop-at-preserved c =
    let units = c.args.units.now in
    let at = c.loop-at.at in
    let u = get_or units at 0 in
    let after : c.unwrap_or-after.result ≡ get_or units (at + 1) 0 = grind (arith, common_steps) in
    escape_step c.args.quote c.loop-at.text c.write_unit.new.text units at c.loop-at.before _ _ c.loop-at-test.true after c.in_ok-write_unit.ensures c.loop-at.invariant
