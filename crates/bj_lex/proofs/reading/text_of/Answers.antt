use Rattle.std.proofs.Common.{◌≡◌, length, ap, ◌∙◌, arith}
use Rattle.std.proofs.Common.{ℕ, List}
use Rattle.std.proofs.lemmas.Result.{IfOk-weaker}
use Rattle.std.specs.Str.Lossy.{utf8_lossy}
use Rattle.bj_text.specs.Utf16.{units_of}
use Rattle.bj_lex.proofs.Lengths.{text_short}
use Rattle.bj_lex.proofs.reading.text_of.Goals as goal

pub returns-clause-short : goal.returns-clause-short
returns-clause-short c =
    let text : c.as_str.result.now ≡ utf8_lossy c.args.bytes.now = c.as_str.ensures.value ∙ c.in_ok-text.ensures.lossy in
    IfOk-weaker c.utf16.result _ _ (λ (units : List ℕ) (e : units ≡ units_of c.as_str.result.now). omega (arith, ap length e, ap (λ t. length (units_of t)) text, text_short c.args.bytes.now)) c.utf16.ensures
