-- `desk::ladrukhi_step` meets its contract. Assumes nothing.
use Rattle.desk.proofs.ladrukhi_step.Goals as goal

pub returns : goal.returns
returns c = rw c.stored.ensures c.stepped.ensures
