-- `table::kinds::fill` meets its contract. The invariant: what is left to be filled gives the whole. Assumes nothing.
use native.Mathlib.Omega.{arith}
use Rattle.table.proofs.Loops.{left_first, left_on}
use Rattle.table.proofs.kinds.fill.Goals as goal

pub loop-number-init : goal.loop-number-init
loop-number-init c = (omega arith, (omega arith, left_first _ _))

pub loop-number-preserved : goal.loop-number-preserved
loop-number-preserved c = (
  omega arith,
  (
    omega arith,
    left_on _ _ _ c.loop-number.number c.loop-number.q c.loop-number.at c.kind_at-kind.result c.next_owner-q.result c.next_at-at.result c.note.new.table c.enter.new.table
        (omega arith) (omega arith) c.kind_at-kind.ensures.0 c.note.ensures c.enter.ensures c.next_owner-q.ensures.0 c.next_at-at.ensures c.loop-number.invariant.1.1,
  ),
)
