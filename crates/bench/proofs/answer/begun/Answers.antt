-- `bench::answer::begun` meets its contract: the start stands, on zeros. Assumes nothing.
use mathlib.Core.Path.{sym, ap, ◌∙◌}
use native.Mathlib.Omega.{arith}
use lib.ListN.{length, take}
use lib.Seq.{length-take-le}
use borrow.Author.Rules.{rules}
use Rattle.print.proofs.Noughts.{zeros}
use Rattle.bench.proofs.Answering.{few, begins, stands_start, starts, tells_place}
use Rattle.bench.proofs.answer.begun.Goals as goal

pub slice_bounds-store-end : goal.slice_bounds-store-end
slice_bounds-store-end c = omega (arith, few (λ i. omega (arith, c.type_inv.file i)) c.requires)

pub slice_bounds-saved-end : goal.slice_bounds-saved-end
slice_bounds-saved-end c = sym (length-take-le _ _ (omega (arith, few (λ i. omega (arith, c.type_inv.file i)) c.requires)))

pub unwrap-place-requires : goal.unwrap-place-requires
unwrap-place-requires c = begins (λ i. omega (arith, c.type_inv.file i)) c.requires c.start.result c.start.ensures

pub saved-requires : goal.saved-requires
saved-requires c = let n = c.args.cells in
    stands_start (λ i. omega (arith, c.type_inv.file i)) c.requires c.start.ensures c.unwrap-place.ensures
    (ap (take n) c.full-store.ensures.all ∙ zeros n 2048 (few (λ i. omega (arith, c.type_inv.file i)) c.requires))

pub returns : goal.returns
returns c = let n = c.args.cells in
    starts (λ i. omega (arith, c.type_inv.file i)) c.requires c.start.ensures c.unwrap-place.ensures
    (ap (take n) c.full-store.ensures.all ∙ zeros n 2048 (few (λ i. omega (arith, c.type_inv.file i)) c.requires))
    c.saved.ensures (tells_place c.args.text.now c.put_at-n.new.buf c.put_at-n.result c.unwrap-place.result (search rules) (c.put_at-n.ensures.value, c.put_at-n.ensures.buf_after))
