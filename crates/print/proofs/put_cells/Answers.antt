-- `print::put_cells` meets its contract: what finishes from here finishes the whole. Assumes nothing.
use native.Mathlib.Omega.{arith}
use lib.IntN.{pos}
use lib.ListN.{get_or}
use mir.Syntax.{w32}
use mir.Facts.{to_z-of_z}
use borrow.Author.Rules.{rules}
use Rattle.print.proofs.Rows.{cells-again, cells_end}
use Rattle.print.proofs.put_cells.Goals as goal

pub loop-i-preserved : goal.loop-i-preserved
loop-i-preserved c = let e = rw (to_z-of_z {w = w32} {z = get_or c.args.store.now c.loop-i.i (pos 0)} (search rules)) at c.put_cell-next.ensures in
    cells-again _ _ _ _ _ _ _ _ (omega arith) (e.value, e.buf_after) c.loop-i.invariant

pub returns : goal.returns
returns c = let h = cells_end _ _ _ _ _ _ (omega arith) c.loop-i.invariant in
    record { value = h.0; buf_after = h.1 }
