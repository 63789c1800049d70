-- `desk::ran_back` meets its contract. Assumes nothing.
use Rattle.moves.specs.Runs.{run_back}
use Rattle.desk.specs.Whole.{Runs}
use Rattle.desk.proofs.Cases.{moves}
use Rattle.desk.proofs.ran_back.Goals as goal

pub returns : goal.returns
returns c = moves (Runs run_back _ _ _) (λ lent back r h. h) c.moved.ensures
