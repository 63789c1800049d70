-- `desk::started` meets its contract. Assumes nothing.
use Rattle.desk.proofs.started.Goals as goal

pub returns : goal.returns
returns c = rw c.settled.ensures c.begun.ensures
