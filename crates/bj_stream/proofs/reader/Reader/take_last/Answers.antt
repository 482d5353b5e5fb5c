use Rattle.std.proofs.Common.{◌≡◌, ◌<◌, [], length, drop, refl, arith, subst, Bool, true, ◌∙◌}
use Rattle.std.proofs.lemmas.Grind.{common_steps}
use Rattle.bj_stream.specs.Reading.{MayStill}
use Rattle.bj_stream.proofs.Readers.{reader_scanned, takes_last}
use Rattle.bj_stream.proofs.reader.Reader.take_last.Goals as goal

pub invariant_of-self : goal.invariant_of-self
invariant_of-self g c =
    let len : c.len-end.result ≡ length c.self.inside.got.items = omega (arith, c.self.inside.got.ok, c.len-end.ensures) in
    rw len (reader_scanned _ _ _ _ _ _ c.self.invariant (rw (← c.self.view_is) at c.requires.none))

pub invariant_of-self-in-Err : goal.invariant_of-self-in-Err
invariant_of-self-in-Err g c =
    let len : c.len-end.result ≡ length c.self.inside.got.items = omega (arith, c.self.inside.got.ok, c.len-end.ensures) in
    rw len (reader_scanned _ _ _ _ _ _ c.self.invariant (rw (← c.self.view_is) at c.requires.none))

pub returns-in-Ok : goal.returns-in-Ok
returns-in-Ok g c =
    let all : c.in-Ok.bytes ≡ drop c.self.inside.cut c.self.inside.got.items = grind (arith, common_steps) in
    let none : drop c.len-end.result c.self.inside.got.items ≡ [] = grind (arith, common_steps) in
    let some : 0 < length (drop c.self.inside.cut c.self.inside.got.items) = grind (arith, common_steps) in
    let ended : g.S.Source.ended c.self.inside.source ≡ true = c.self.invariant.known ∙ c.if-not-self.false in
    rw (← c.self.view_is, all, none) (record { taken = record { same = refl; shorter = some; reads = λ more ended' may. takes_last _ more ended' some (rw (← c.self.view_is) at c.requires.last) (subst (λ (b : Bool). MayStill b more ended') ended may) } })
