-- `decide::Spot::again` meets its contract: the cases of `DecideCases`. Assumes nothing.
use Rattle.decide.proofs.DecideCases.{acts}
use Rattle.decide.proofs.Spot.again.Goals as goal

pub returns-then-kind-eq-IN_SECOND : goal.returns-then-kind-eq-IN_SECOND
returns-then-kind-eq-IN_SECOND c = search acts

pub returns-else-kind-eq-IN_SECOND : goal.returns-else-kind-eq-IN_SECOND
returns-else-kind-eq-IN_SECOND c = search acts
