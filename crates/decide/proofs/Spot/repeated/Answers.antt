-- `decide::Spot::repeated` meets its contract: the cases of `DecideCases`. Assumes nothing.
use Rattle.decide.proofs.DecideCases.{acts}
use Rattle.decide.proofs.Spot.repeated.Goals as goal

pub returns-then-not-v : goal.returns-then-not-v
returns-then-not-v c = search acts

pub returns : goal.returns
returns c = search acts
