-- `machine::run_back` meets its contract: the run forward of the place turned round. Assumes nothing.
use Rattle.machine.proofs.Whole.{back_says}
use Rattle.machine.proofs.run_back.Goals as goal

pub returns : goal.returns
returns c = back_says _ _ _ _ _ _ _ _ _ (rw c.turned.ensures at c.run-ran.ensures) c.turned-2.ensures
