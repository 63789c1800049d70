-- `machine::run` meets its contract: Whole. Assumes nothing.
use Rattle.machine.proofs.Whole.{checked_says, refused_says}
use Rattle.machine.proofs.run.Goals as goal

pub returns-in-Err : goal.returns-in-Err
returns-in-Err c = refused_says c.args.file.now _ _ _ _ c.in-Err.ensures _ c.stays.ensures

pub returns-in-Ok : goal.returns-in-Ok
returns-in-Ok c = checked_says c.args.file.now _ _ _ _ c.in-Ok.ensures _ _ c.checked.ensures
