-- `program::cells` meets its contract: the total and what is left of the lengths are the cells.
use Rattle.std.proofs.Common.{arith}
use Rattle.program.proofs.CellSums.{start, one_more, done}
use Rattle.program.proofs.cells.Goals as goal

pub loop-i-init : goal.loop-i-init
loop-i-init c = record { small = omega arith; same = search start }

pub loop-i-preserved : goal.loop-i-preserved
loop-i-preserved c = record { small = omega arith; same = search one_more }

pub returns : goal.returns
returns c = search done
