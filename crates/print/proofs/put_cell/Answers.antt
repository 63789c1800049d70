-- `print::put_cell` meets its contract: 0 has no line. Assumes nothing.
use mathlib.Core.Path.{ap}
use mir.Syntax.{w32}
use mir.Val.{of_z}
use mir.Facts.{to_z-of_z}
use Rattle.print.proofs.Rows.{none, shown_zero, shown_some, zero_bits}
use Rattle.print.proofs.put_cell.Goals as goal

pub returns-then-v-eq-UNSET : goal.returns-then-v-eq-UNSET
returns-then-v-eq-UNSET c = let h = none c.args.buf.now c.args.at in
    rw (shown_zero c.args.i c.args.v (zero_bits c.args.v c.ranges.v c.if-v-eq-UNSET.true)) (record { value = h.0; buf_after = h.1 })

pub returns : goal.returns
returns c = rw (shown_some c.args.i c.args.v (λ e. c.if-v-eq-UNSET.false (ap (of_z w32) e)))
    (rw (to_z-of_z c.ranges.v) at c.put_value.ensures)
