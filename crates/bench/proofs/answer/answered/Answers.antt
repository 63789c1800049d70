-- `bench::answer::answered` meets its contract: the store that is lent has the program's size. Assumes nothing.
use mathlib.Core.Path.{sym, ◌∙◌}
use native.Mathlib.Omega.{arith}
use lib.Seq.{length-take-le}
use Rattle.program.proofs.Few.{counts_few, accepted_counts}
use Rattle.bench.proofs.Answering.{unchecked, lent, answered_room}
use Rattle.bench.proofs.answer.answered.Goals as goal

pub slice_bounds-store-end : goal.slice_bounds-store-end
slice_bounds-store-end c = omega (arith, counts_few _ c.check.result c.check.ensures _ c.in-Ok.is)

pub slice_bounds-opened-end : goal.slice_bounds-opened-end
slice_bounds-opened-end c = sym (length-take-le _ _ (omega (arith, counts_few _ c.check.result c.check.ensures _ c.in-Ok.is)))

pub opened-requires : goal.opened-requires
opened-requires c = lent (λ i. omega (arith, c.type_inv.file i)) (_, _, accepted_counts _ c.check.result c.check.ensures _ c.in-Ok.is) _
    (length-take-le _ _ (omega (arith, counts_few _ c.check.result c.check.ensures _ c.in-Ok.is)))

pub returns-in-Err : goal.returns-in-Err
returns-in-Err c = let x = unchecked (λ i. omega (arith, c.type_inv.file i)) c.in-Err.refusal c.check.ensures c.in-Err.is (c.refused.ensures c.args.buffer.now) in
    record { answers = x; room = answered_room x }

pub returns-in-Ok : goal.returns-in-Ok
returns-in-Ok c = record { answers = c.opened.ensures; room = answered_room c.opened.ensures }
