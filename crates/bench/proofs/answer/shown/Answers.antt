-- `bench::answer::shown` meets its contract: the place, its frames and the cells. Assumes nothing.
use mathlib.Core.Path.{refl}
use borrow.Author.Rules.{rules}
use Rattle.print.proofs.Rows.{joined}
use Rattle.bench.proofs.Answering.{tells_shown}
use Rattle.bench.proofs.answer.shown.Goals as goal

pub returns : goal.returns
returns c = λ b. record {
  none = refl;
  kept = refl;
  lines = tells_shown c.args.text.now c.put_cells.new.buf _ c.args.place c.args.store.now (search rules) c.requires (joined _ _ _ _ _ _ _ _ (c.put_at-i.ensures.value, c.put_at-i.ensures.buf_after) (joined _ _ _ _ _ _ _ _ (c.put_frames-j.ensures.value, c.put_frames-j.ensures.buf_after) (c.put_cells.ensures.value, c.put_cells.ensures.buf_after)));
}
