-- `desk::ladrukhi_open` meets its contract. Assumes nothing.
use Rattle.desk.proofs.ladrukhi_open.Goals as goal

pub returns : goal.returns
returns c = rw c.stored.ensures c.opened.ensures
