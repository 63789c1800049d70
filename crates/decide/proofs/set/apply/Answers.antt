-- `decide::set::apply` meets its contract: the cases of `SetCases`. Assumes nothing.
use Rattle.decide.proofs.SetCases.{applies}
use Rattle.decide.proofs.set.apply.Goals as goal

pub returns-in-0 : goal.returns-in-0
returns-in-0 c = search applies

pub returns-in-1 : goal.returns-in-1
returns-in-1 c = search applies

pub returns-in_default : goal.returns-in_default
returns-in_default c = search applies
