-- `desk::ladrukhi_run` meets its contract. Assumes nothing.
use Rattle.desk.proofs.ladrukhi_run.Goals as goal

pub returns : goal.returns
returns c = rw c.stored.ensures c.ran.ensures
