-- `bench::answer::opened` meets its contract: what was read is sound. Assumes nothing.
use mathlib.Core.Path.{refl}
use borrow.Author.Rules.{rules}
use Rattle.bench.specs.Answers as answers
use Rattle.bench.proofs.Answering.{read}
use Rattle.bench.proofs.answer.opened.Goals as goal

pub done-requires : goal.done-requires
done-requires c = read (rw c.in-Ok.is at c.read.ensures)

pub returns-in-Err : goal.returns-in-Err
returns-in-Err c = answers.unread c.in-Err.refusal c.requires (rw c.in-Err.is at c.read.ensures) refl (c.refused.ensures c.args.buffer.now)

pub returns-in-Ok : goal.returns-in-Ok
returns-in-Ok c = answers.found c.in-Ok.place c.requires (rw c.in-Ok.is at c.read.ensures) c.done.ensures
