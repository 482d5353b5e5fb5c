use Rattle.std.proofs.Common.{◌≡◌, take, sym, ap, ◌∙◌, subst}
use Rattle.std.proofs.Common.{IfOk, IfErr}
use Rattle.bj_lex.specs.Texts.{read, before_bad_byte, text_of, front_of, IsStopOf, Read, Reading}
use Rattle.std.specs.Str.Lossy.{utf8_valid_len}
use Rattle.bj_lex.proofs.Bytes.{good_bytes, bad_bytes, front_text}
use Rattle.bj_lex.proofs.reading.read_bytes.Goals as goal

pub returns-in-Ok-clause-ok : goal.returns-in-Ok-clause-ok
returns-in-Ok-clause-ok c =
    let e = good_bytes c.args.bytes.now c.in-Ok.ensures.cases.1 ∙ ap read (sym (c.as_slice.ensures ∙ c.in_ok-units.ensures.value)) in
    subst (λ (reading : Reading). IfOk c.read.result (λ r. reading ≡ Read r.items r.end)) (sym e) c.read.ensures.ok

pub returns-in-Ok-clause-err : goal.returns-in-Ok-clause-err
returns-in-Ok-clause-err c =
    let e = good_bytes c.args.bytes.now c.in-Ok.ensures.cases.1 ∙ ap read (sym (c.as_slice.ensures ∙ c.in_ok-units.ensures.value)) in
    subst (λ (reading : Reading). IfErr c.read.result (λ stop. IsStopOf reading stop)) (sym e) c.read.ensures.err

pub returns-clause-err : goal.returns-clause-err
returns-clause-err c =
    let bytes = c.args.bytes.now in
    let at : c.valid_up_to.result ≡ utf8_valid_len bytes = c.valid_up_to.ensures ∙ c.in-Err.ensures.valid_len in
    let front : c.as_slice-in-Err-2.result.now ≡ front_of bytes =
    c.as_slice-in-Err-2.ensures ∙ c.in_ok-front-in-Err.ensures.value ∙ ap (λ n. text_of (take n bytes)) at ∙ front_text bytes in
    let units : c.as_slice-in-Err.result.now ≡ text_of bytes = c.as_slice-in-Err.ensures ∙ c.in_ok-units.ensures.value in
    let e = bad_bytes bytes c.in-Err.ensures.cases.0 ∙ ap (λ f. before_bad_byte f (read (text_of bytes))) (sym front)
    ∙ ap (λ us. before_bad_byte c.as_slice-in-Err-2.result.now (read us)) (sym units) in
    subst (λ (reading : Reading). IsStopOf reading c.before_bad_byte.result) (sym e) c.before_bad_byte.ensures
