-- `decide::Spot::back_to` meets its contract: the cases of `DecideCases`. Assumes nothing.
use Rattle.decide.proofs.DecideCases.{calls}
use Rattle.decide.proofs.Spot.back_to.Goals as goal

pub returns : goal.returns
returns c = search calls
