-- `decide::set::put` meets its contract: the cases of `SetCases`. Assumes nothing.
use Rattle.decide.proofs.SetCases.{puts}
use Rattle.decide.proofs.set.put.Goals as goal

pub returns-then-cell-store : goal.returns-then-cell-store
returns-then-cell-store c = search puts

pub returns-else-cell-store : goal.returns-else-cell-store
returns-else-cell-store c = search puts
