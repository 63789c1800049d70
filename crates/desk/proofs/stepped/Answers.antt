-- `desk::stepped` meets its contract. Assumes nothing.
use Rattle.moves.specs.Step.{step}
use Rattle.desk.specs.Whole.{Steps}
use Rattle.desk.proofs.Cases.{moves}
use Rattle.desk.proofs.stepped.Goals as goal

pub returns : goal.returns
returns c = moves (Steps step _ _) (λ lent back r h. h) c.moved.ensures
