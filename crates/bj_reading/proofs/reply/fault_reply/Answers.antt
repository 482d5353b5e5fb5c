use Rattle.std.proofs.Common.{ℕ, List, ◌++◌, ap, ◌∙◌}
use Rattle.std.specs.Prelude.{codes, decimal}
use Rattle.bj_reading.proofs.Replies.{of_text}
use Rattle.bj_reading.proofs.reply.fault_reply.Goals as goal

pub returns : goal.returns
returns c =
    let told = ap (λ (word : List ℕ). codes "= fault " ++ (decimal c.args.at.line ++ (codes ":" ++ (decimal c.args.at.column ++ (codes " " ++ word))))) c.code_word-word.ensures in
    of_text c.from_slice.result _ _ (c.as_bytes.ensures.value ∙ (c.in_ok-text.ensures.ok ∙ told)) c.from_slice.ensures
