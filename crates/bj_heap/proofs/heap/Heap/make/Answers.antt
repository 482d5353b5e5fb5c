use Rattle.std.proofs.Common.{◌≡◌, length, refl, sym, ap, ◌∙◌, arith}
use Rattle.bj_core.specs.declared.types.Ty.TheVariants as ty
use Rattle.bj_heap.specs.Objects.{HeapValue}
use Rattle.std.proofs.Common.{vec_len, ◌+◌, length-append}
use Rattle.bj_heap.proofs.Splits.{fits_is, can_make_at, made_at, number_at, laid_at}
use Rattle.bj_heap.proofs.heap.Heap.make.Goals as goal

pub returns-then-not-fit-clause-full : goal.returns-then-not-fit-clause-full
returns-then-not-fit-clause-full c = let e = can_make_at c.self.inside.limits c.self.inside.objects.items c.self.inside.cells.items c.self.invariant.0 c.args.self.now.state (ap (λ (v : HeapValue). v.state) c.self.view_is) c.fits-fit.result 1 (length c.args.fields.now) c.len.result c.len-2.result
    (let e : c.len.result ≡ length c.self.inside.objects.items = omega (arith, c.len.ensures, c.self.inside.objects.ok.0) in e)
    (let e : c.len-2.result ≡ length c.self.inside.cells.items = omega (arith, c.len-2.ensures, c.self.inside.cells.ok.0) in e) c.fits-fit.ensures in (λ _. e ∙ c.if-not-fit.true, λ _. refl)

pub returns-in_default-clause-full : goal.returns-in_default-clause-full
returns-in_default-clause-full c = let e = can_make_at c.self.inside.limits c.self.inside.objects.items c.self.inside.cells.items c.self.invariant.0 c.args.self.now.state (ap (λ (v : HeapValue). v.state) c.self.view_is) c.fits-fit.result 1 (length c.args.fields.now) c.len.result c.len-2.result
    (let e : c.len.result ≡ length c.self.inside.objects.items = omega (arith, c.len.ensures, c.self.inside.objects.ok.0) in e)
    (let e : c.len-2.result ≡ length c.self.inside.cells.items = omega (arith, c.len-2.ensures, c.self.inside.cells.ok.0) in e) c.fits-fit.ensures in (λ no. cc, λ no. let two = sym (e ∙ c.if-not-fit.false) ∙ no in cc)

pub returns-clause-full : goal.returns-clause-full
returns-clause-full c = let e = can_make_at c.self.inside.limits c.self.inside.objects.items c.self.inside.cells.items c.self.invariant.0 c.args.self.now.state (ap (λ (v : HeapValue). v.state) c.self.view_is) c.fits-fit.result 1 (length c.args.fields.now) c.len.result c.len-2.result
    (let e : c.len.result ≡ length c.self.inside.objects.items = omega (arith, c.len.ensures, c.self.inside.objects.ok.0) in e)
    (let e : c.len-2.result ≡ length c.self.inside.cells.items = omega (arith, c.len-2.ensures, c.self.inside.cells.ok.0) in e) c.fits-fit.ensures in (λ no. cc, λ no. let two = sym (e ∙ c.if-not-fit.false) ∙ no in cc)

pub returns-clause-made : goal.returns-clause-made
returns-clause-made c =
    let start : vec_len c.self.inside.cells ≡ length c.self.inside.cells.items = c.self.inside.cells.ok.0 in
    let headers = c.in-Ok.ensures.headers in
    let cells = c.in-Ok.ensures.cells in (
      number_at c.self.inside.limits c.self.inside.objects.items c.self.inside.cells.items c.self.invariant.0 c.args.self.now.state (ap (λ (v : HeapValue). v.state) c.self.view_is) c.add-added.new.headers.items _ c.len-3.result headers (let e : c.len-3.result ≡ length c.add-added.new.headers.items = omega (arith, c.len-3.ensures, c.add-added.new.headers.ok.0) in e),
      made_at c.self.inside.limits c.self.inside.objects.items c.self.inside.cells.items c.self.invariant.0 c.args.self.now.state (ap (λ (v : HeapValue). v.state) c.self.view_is) c.add-added.new.headers.items c.add-added.new.cells.items c.args.fields.now (ty.Class c.args.class) (vec_len c.self.inside.cells) start headers cells,
    )

pub invariant_of-self-2 : goal.invariant_of-self-2
invariant_of-self-2 c =
    let start : vec_len c.self.inside.cells ≡ length c.self.inside.cells.items = c.self.inside.cells.ok.0 in
    let headers = c.in-Ok.ensures.headers in
    let cells = c.in-Ok.ensures.cells in
    let within = fits_is c.self.inside.limits c.len.result c.len-2.result 1 (length c.args.fields.now) (sym c.fits-fit.ensures ∙ c.if-not-fit.false) in
    let count : length c.add-added.new.headers.items ≡ length c.self.inside.objects.items + 1 = ap length headers ∙ length-append c.self.inside.objects.items _ in
    let total : length c.add-added.new.cells.items ≡ length c.self.inside.cells.items + length c.args.fields.now = ap length cells ∙ length-append c.self.inside.cells.items c.args.fields.now in (
      laid_at c.self.inside.limits c.self.inside.objects.items c.self.inside.cells.items c.self.invariant.0 c.args.self.now.state (ap (λ (v : HeapValue). v.state) c.self.view_is)
          c.add-added.new.headers.items c.add-added.new.cells.items c.args.fields.now (ty.Class c.args.class) (vec_len c.self.inside.cells) start headers cells,
      omega (arith, count, within.0, c.len.ensures, c.self.inside.objects.ok.0),
      omega (arith, total, within.1, c.len-2.ensures, c.self.inside.cells.ok.0),
    )
