-- `decide::change` meets its contract: the cases of `DecideCases`. Assumes nothing.
use Rattle.decide.proofs.DecideCases.{slots}
use Rattle.decide.proofs.change.Goals as goal

pub returns-then-n-eq0 : goal.returns-then-n-eq0
returns-then-n-eq0 c = search slots

pub returns-then-n-le-SLOTS : goal.returns-then-n-le-SLOTS
returns-then-n-le-SLOTS c = search slots

pub returns-else-n-le-SLOTS : goal.returns-else-n-le-SLOTS
returns-else-n-le-SLOTS c = search slots
