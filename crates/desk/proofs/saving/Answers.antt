-- `desk::saving` meets its contract: the cells in use are lent. Assumes nothing.
use mathlib.Core.Path.{refl}
use Rattle.std.specs.Prelude.{Ok, Err}
use Rattle.desk.specs.Desk.{over, within}
use Rattle.desk.proofs.saving.Goals as goal

pub returns-then-count-gt-CELLS : goal.returns-then-count-gt-CELLS
returns-then-count-gt-CELLS c = over c.if-count-gt-CELLS.true c.over.ensures c.of.ensures refl

pub returns-in-Ok : goal.returns-in-Ok
returns-in-Ok c = within (Ok c.in-Ok.written) c.if-count-gt-CELLS.false c.in-Ok.ensures c.of-in-Ok.ensures

pub returns-in-Err : goal.returns-in-Err
returns-in-Err c = within (Err c.in-Err.refusal) c.if-count-gt-CELLS.false c.in-Err.ensures c.of-in-Err.ensures
