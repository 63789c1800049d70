-- `program::cells` meets its contract: the total and what is left of the lengths are the cells.
use Rattle.std.proofs.Common.{◌≡◌, ◌+◌, ◌*◌, ◌<◌}
use Rattle.program.specs.Check.{cells_of}
use Rattle.program.proofs.CellSums.{left}
use Rattle.program.proofs.cells.Given as goal

abbrev pub invariant-loop-i : goal.invariant-loop-i
invariant-loop-i l = record { small : l.total < 65536 * (l.i + 1); same : cells_of l.file ≡ l.total + left l.file l.arrays l.i }
