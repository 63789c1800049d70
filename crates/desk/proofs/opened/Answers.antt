-- `desk::opened` meets its contract. Assumes nothing.
use Rattle.desk.proofs.opened.Goals as goal

pub returns : goal.returns
returns c = rw c.settled.ensures c.found.ensures
