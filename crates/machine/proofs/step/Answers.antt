-- `machine::step` meets its contract: a run of one is a step. Assumes nothing.
use Rattle.moves.specs.Step.{step}
use Rattle.machine.proofs.Whole.{step_says}
use Rattle.machine.proofs.step.Goals as goal

pub returns : goal.returns
returns c = step_says step _ _ _ _ _ _ _ c.run-told.ensures
