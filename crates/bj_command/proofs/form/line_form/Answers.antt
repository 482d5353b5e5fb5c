use Rattle.std.proofs.Common.{◌≡◌, ◌==◌, false, length, sym, ◌∙◌, arith}
use Rattle.std.specs.Prelude.{nat_lt}
use Rattle.std.proofs.lemmas.Bool.Decides.{nat_tests}
use Rattle.bj_command.specs.Words.{next_word}
use Rattle.bj_command.proofs.Forms.{form_named}
use Rattle.bj_command.proofs.form.line_form.Goals as goal

pub returns : goal.returns
returns c =
    let short : nat_lt 65536 (length c.args.line.now) ≡ false = grind (arith, nat_tests) in
    let some : (next_word c.args.line.now 0 == length c.args.line.now) ≡ false = grind (arith, nat_tests) in
    rw (form_named c.args.pad c.args.line.now short (sym c.utf8_fault.ensures.fault ∙ c.in-None.is) some, ← c.next_word-start.ensures.next, ← c.word_end-stop.ensures.end) c.named_form.ensures
