use Rattle.std.proofs.Common.{◌≡◌, sym, ap, ◌∙◌, append-nil, encode_utf8_all}
use Rattle.std.proofs.str.Utf16.{utf16_chars-drop_all}
use Rattle.bj_text.proofs.utf.to_utf8.Goals as goal

pub returns : goal.returns
returns c = sym (append-nil _) ∙ rw (utf16_chars-drop_all c.args.units.now c.loop-at.at c.loop-at-test.false) at c.loop-at.invariant
