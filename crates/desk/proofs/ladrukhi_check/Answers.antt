-- `desk::ladrukhi_check` meets its contract. Assumes nothing.
use mathlib.Core.Path.{refl, ap}
use Rattle.desk.specs.Desk.{said}
use Rattle.desk.proofs.ladrukhi_check.Goals as goal

pub returns-in-Ok : goal.returns-in-Ok
returns-in-Ok c = said c.in-Ok.ensures refl

pub returns-in-Err : goal.returns-in-Err
returns-in-Err c = rw c.number.ensures (said c.in-Err.ensures refl)
