-- `print::put_value` meets its contract: its pieces, one after another. Assumes nothing.
use mathlib.Core.Path.{ap, ◌∙◌}
use lib.IntN.{ℤ}
use mir.Syntax.{w32, w64}
use mir.Val.{of_z, to_z}
use mir.Facts.{to_z-of_z, sfits_widen}
use Rattle.print.specs.Lines.{cell_line}
use Rattle.print.proofs.Rows.{none, piece}
use Rattle.print.proofs.put_value.Goals as goal

pub returns : goal.returns
unfolding cell_line
returns c = let z = c.from.ensures ∙ to_z-of_z c.ranges.v in
    let e = ap (λ (x : ℤ). to_z w64 (of_z w64 x)) z ∙ to_z-of_z {w = w64} (sfits_widen {w = w32} {w' = w64} (tt {0}) c.ranges.v) in
    let m = rw e at c.put_signed-m.ensures in
    let h = piece _ _ _ _ _ _ _ _ (c.put_bytes-j.ensures.value, c.put_bytes-j.ensures.buf_after)
    (piece _ _ _ _ _ _ _ _ (c.put_decimal-k.ensures.value, c.put_decimal-k.ensures.buf_after)
    (piece _ _ _ _ _ _ _ _ (c.put_bytes-l.ensures.value, c.put_bytes-l.ensures.buf_after)
    (piece _ _ _ _ _ _ _ _ (m.value, m.buf_after)
    (piece _ _ _ _ _ _ _ _ (c.put_bytes.ensures.value, c.put_bytes.ensures.buf_after) (none _ _))))) in
    record { value = h.0; buf_after = h.1 }
