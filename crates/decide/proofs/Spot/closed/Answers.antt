-- `decide::Spot::closed` meets its contract: the cases of `DecideCases`. Assumes nothing.
use Rattle.decide.proofs.DecideCases.{acts}
use Rattle.decide.proofs.Spot.closed.Goals as goal

pub returns-then-v-kind : goal.returns-then-v-kind
returns-then-v-kind c = search acts

pub returns : goal.returns
returns c = search acts
