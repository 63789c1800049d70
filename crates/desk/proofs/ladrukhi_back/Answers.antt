-- `desk::ladrukhi_back` meets its contract. Assumes nothing.
use Rattle.desk.proofs.ladrukhi_back.Goals as goal

pub returns : goal.returns
returns c = rw c.stored.ensures c.stepped_back.ensures
