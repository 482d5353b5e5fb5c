use Rattle.std.proofs.Common.{◌≡◌, length, refl, sym, ap, ◌∙◌, arith}
use Rattle.bj_heap.specs.Objects.{HeapValue}
use Rattle.bj_heap.proofs.Splits.{can_make_at}
use Rattle.bj_heap.proofs.heap.Heap.reserve.Goals as goal

pub returns-then-not-fit-clause-full : goal.returns-then-not-fit-clause-full
returns-then-not-fit-clause-full c = let e = can_make_at c.self.inside.limits c.self.inside.objects.items c.self.inside.cells.items c.self.invariant.0 c.args.self.now.state (ap (λ (v : HeapValue). v.state) c.self.view_is) c.fits-fit.result c.args.objects c.args.cells c.len.result c.len-2.result
    (let e : c.len.result ≡ length c.self.inside.objects.items = omega (arith, c.len.ensures, c.self.inside.objects.ok.0) in e)
    (let e : c.len-2.result ≡ length c.self.inside.cells.items = omega (arith, c.len-2.ensures, c.self.inside.cells.ok.0) in e) c.fits-fit.ensures in (λ _. e ∙ c.if-not-fit.true, λ _. refl)

pub returns-then-is_err-clause-full : goal.returns-then-is_err-clause-full
returns-then-is_err-clause-full c = let e = can_make_at c.self.inside.limits c.self.inside.objects.items c.self.inside.cells.items c.self.invariant.0 c.args.self.now.state (ap (λ (v : HeapValue). v.state) c.self.view_is) c.fits-fit.result c.args.objects c.args.cells c.len.result c.len-2.result
    (let e : c.len.result ≡ length c.self.inside.objects.items = omega (arith, c.len.ensures, c.self.inside.objects.ok.0) in e)
    (let e : c.len-2.result ≡ length c.self.inside.cells.items = omega (arith, c.len-2.ensures, c.self.inside.cells.ok.0) in e) c.fits-fit.ensures in (λ no. cc, λ no. let two = sym (e ∙ c.if-not-fit.false) ∙ no in cc)

pub returns-then-is_err-2-clause-full : goal.returns-then-is_err-2-clause-full
returns-then-is_err-2-clause-full c = let e = can_make_at c.self.inside.limits c.self.inside.objects.items c.self.inside.cells.items c.self.invariant.0 c.args.self.now.state (ap (λ (v : HeapValue). v.state) c.self.view_is) c.fits-fit.result c.args.objects c.args.cells c.len.result c.len-2.result
    (let e : c.len.result ≡ length c.self.inside.objects.items = omega (arith, c.len.ensures, c.self.inside.objects.ok.0) in e)
    (let e : c.len-2.result ≡ length c.self.inside.cells.items = omega (arith, c.len-2.ensures, c.self.inside.cells.ok.0) in e) c.fits-fit.ensures in (λ no. cc, λ no. let two = sym (e ∙ c.if-not-fit.false) ∙ no in cc)

pub returns-clause-full : goal.returns-clause-full
returns-clause-full c = let e = can_make_at c.self.inside.limits c.self.inside.objects.items c.self.inside.cells.items c.self.invariant.0 c.args.self.now.state (ap (λ (v : HeapValue). v.state) c.self.view_is) c.fits-fit.result c.args.objects c.args.cells c.len.result c.len-2.result
    (let e : c.len.result ≡ length c.self.inside.objects.items = omega (arith, c.len.ensures, c.self.inside.objects.ok.0) in e)
    (let e : c.len-2.result ≡ length c.self.inside.cells.items = omega (arith, c.len-2.ensures, c.self.inside.cells.ok.0) in e) c.fits-fit.ensures in (λ no. cc, λ no. let two = sym (e ∙ c.if-not-fit.false) ∙ no in cc)
