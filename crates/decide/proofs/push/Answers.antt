-- `decide::push` meets its contract: the cases of `DecideCases`. Assumes nothing.
use Rattle.decide.proofs.DecideCases.{depths, slots}
use Rattle.decide.proofs.push.Goals as goal

pub returns-then-n-lt-SLOTS : goal.returns-then-n-lt-SLOTS
returns-then-n-lt-SLOTS c = (search depths, (search slots, search slots))

pub returns : goal.returns
returns c = (search depths, (search slots, search slots))
