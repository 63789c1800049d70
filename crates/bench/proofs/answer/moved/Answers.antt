-- `bench::answer::moved` meets its contract: where the run ended is saved. Assumes nothing.
use Rattle.bench.proofs.Answering.{keeps}
use Rattle.bench.proofs.answer.moved.Goals as goal

pub returns : goal.returns
returns c = keeps c.saved.ensures (rw c.reason.ensures at c.put_moved-said.ensures)
