-- `bench::answer::put_moved` meets its contract: two lines. Assumes nothing.
use borrow.Author.Rules.{rules}
use Rattle.print.proofs.Rows.{joined}
use Rattle.bench.proofs.Answering.{tells_moved}
use Rattle.bench.proofs.answer.put_moved.Goals as goal

pub returns : goal.returns
returns c = tells_moved c.args.text.now c.put_at.new.buf _ _ _ c.args.place (search rules) (joined _ _ _ _ _ _ _ _ (c.put_steps-i.ensures.value, c.put_steps-i.ensures.buf_after) (c.put_at.ensures.value, c.put_at.ensures.buf_after))
