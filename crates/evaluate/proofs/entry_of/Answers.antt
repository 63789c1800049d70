-- `evaluate::entry_of` meets its contract: the cases of `Values`. Assumes nothing.
use Rattle.evaluate.proofs.Values.{entries}
use Rattle.evaluate.proofs.entry_of.Goals as goal

pub returns-then-i-arrays : goal.returns-then-i-arrays
returns-then-i-arrays c = search entries

pub returns : goal.returns
returns c = search entries
