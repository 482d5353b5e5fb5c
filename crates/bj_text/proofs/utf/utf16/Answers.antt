use Rattle.std.proofs.Common.{◌≡◌, ◌++◌, ◌∷◌, [], ap, sym, ◌∙◌, append-nil}
use Rattle.std.proofs.lemmas.Iterator.{YieldsList-from_chars}
use Rattle.std.proofs.lemmas.Iterator.Consumers.{YieldsList-end}
use Rattle.bj_text.specs.Utf16.{utf16_of}
use Rattle.bj_text.proofs.Lists.{map_same, utf16_of-append}
use Rattle.bj_text.proofs.utf.utf16.Goals as goal

pub loop-c-preserved : goal.loop-c-preserved
loop-c-preserved c =
    let units = utf16_of c.loop-c.yielded in
    c.in_ok-extend.ensures.ok ∙ ap (λ us. us ++ c.encode_utf16.result.now) c.loop-c.invariant
    ∙ ap (λ us. units ++ us) (c.encode_utf16.ensures.value ∙ sym (append-nil _)) ∙ sym (utf16_of-append c.loop-c.yielded (c.in-Some.c ∷ []))

pub returns : goal.returns
returns c =
    let t = YieldsList-end (YieldsList-from_chars c.args.text.now c.utf8.text cc) c.loop-c.yielded _ c.loop-c.yielded_by _ _ c.in-None.is c.next.ensures.steps in
    c.loop-c.invariant ∙ ap utf16_of (sym (map_same c.loop-c.yielded) ∙ t.0)
