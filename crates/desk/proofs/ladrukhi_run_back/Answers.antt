-- `desk::ladrukhi_run_back` meets its contract. Assumes nothing.
use Rattle.desk.proofs.ladrukhi_run_back.Goals as goal

pub returns : goal.returns
returns c = rw c.stored.ensures c.ran_back.ensures
