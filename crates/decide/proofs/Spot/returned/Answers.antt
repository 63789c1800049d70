-- `decide::Spot::returned` meets its contract: the cases of `DecideCases`. Assumes nothing.
use Rattle.decide.proofs.DecideCases.{calls}
use Rattle.decide.proofs.Spot.returned.Goals as goal

pub returns-then-self-lt-CALL : goal.returns-then-self-lt-CALL
returns-then-self-lt-CALL c = search calls

pub returns-then-label-ge1024 : goal.returns-then-label-ge1024
returns-then-label-ge1024 c = search calls

pub returns : goal.returns
returns c = search calls
