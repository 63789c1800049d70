-- `desk::stepped_back` meets its contract. Assumes nothing.
use Rattle.moves.specs.Step.{step_back}
use Rattle.desk.specs.Whole.{Steps}
use Rattle.desk.proofs.Cases.{moves}
use Rattle.desk.proofs.stepped_back.Goals as goal

pub returns : goal.returns
returns c = moves (Steps step_back _ _) (λ lent back r h. h) c.moved.ensures
