-- `decide::Spot::entered` meets its contract: the cases of `DecideCases`. Assumes nothing.
use Rattle.decide.proofs.DecideCases.{calls}
use Rattle.decide.proofs.Spot.entered.Goals as goal

pub returns-then-self-ge-FULL : goal.returns-then-self-ge-FULL
returns-then-self-ge-FULL c = search calls

pub returns : goal.returns
returns c = search calls
