-- `desk::ran` meets its contract. Assumes nothing.
use Rattle.moves.specs.Runs.{run}
use Rattle.desk.specs.Whole.{Runs}
use Rattle.desk.proofs.Cases.{moves}
use Rattle.desk.proofs.ran.Goals as goal

pub returns : goal.returns
returns c = moves (Runs run _ _ _) (λ lent back r h. h) c.moved.ensures
