-- `machine::back` meets its contract: a run of one is a step. Assumes nothing.
use Rattle.moves.specs.Step.{step_back}
use Rattle.machine.proofs.Whole.{step_says}
use Rattle.machine.proofs.back.Goals as goal

pub returns : goal.returns
returns c = step_says step_back _ _ _ _ _ _ _ c.run_back-told.ensures
