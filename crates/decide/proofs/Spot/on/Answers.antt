-- `decide::Spot::on` meets its contract: the cases of `DecideCases`. Assumes nothing.
use Rattle.decide.proofs.DecideCases.{moves}
use Rattle.decide.proofs.Spot.on.Goals as goal

pub returns : goal.returns
returns c = search moves
