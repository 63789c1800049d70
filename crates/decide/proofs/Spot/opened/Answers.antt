-- `decide::Spot::opened` meets its contract: the cases of `DecideCases`. Assumes nothing.
use Rattle.decide.proofs.DecideCases.{acts}
use Rattle.decide.proofs.Spot.opened.Goals as goal

pub returns-then-v : goal.returns-then-v
returns-then-v c = search acts

pub returns-then-again : goal.returns-then-again
returns-then-again c = search acts

pub returns-then-not-v : goal.returns-then-not-v
returns-then-not-v c = search acts

pub returns : goal.returns
returns c = search acts
