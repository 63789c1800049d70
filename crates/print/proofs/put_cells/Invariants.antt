-- `print::put_cells` meets its contract: what finishes from here finishes the whole. Assumes nothing.
use lib.ListN.{drop}
use Rattle.print.specs.Lines.{cell_lines}
use Rattle.print.proofs.Rows.{Finishes}
use Rattle.print.proofs.put_cells.Given as goal

abbrev pub invariant-loop-i : goal.invariant-loop-i
invariant-loop-i l = Finishes l.initial.buf l.at (cell_lines 0 l.store) l.buf l.next (cell_lines l.i (drop l.i l.store))
