-- `desk::ladrukhi_start` meets its contract. Assumes nothing.
use Rattle.desk.proofs.ladrukhi_start.Goals as goal

pub returns : goal.returns
returns c = rw c.stored.ensures c.started.ensures
