-- `desk::over` meets its contract. Assumes nothing.
use Rattle.desk.specs.Desk.{program}
use Rattle.desk.proofs.Cases.{over_accepted}
use Rattle.desk.proofs.over.Goals as goal

pub returns-in-Ok : goal.returns-in-Ok
returns-in-Ok c = rw c.at.ensures (over_accepted _ _ c.in-Ok.ensures)

pub returns-in-Err : goal.returns-in-Err
returns-in-Err c = program c.in-Err.ensures
