-- `saved::put` meets its contract: the cases of `SaveCases`. Assumes nothing.
use Rattle.saved.proofs.SaveCases.{save_20, save_21, save_done}
use Rattle.saved.proofs.put.Goals as goal

pub returns-then-store-counts : goal.returns-then-store-counts
returns-then-store-counts c = save_20 c.args.file.now c.args.place _ c.args.buffer.now c.args.counts c.requires c.if-store-counts.true _ c.at.ensures

pub returns-then-not-fits : goal.returns-then-not-fits
returns-then-not-fits c =
    save_21 c.args.file.now c.args.place _ c.args.buffer.now c.args.counts c.requires c.if-store-counts.false _ c.table-table.ensures c.if-not-fits.ensures _ c.at-then-not-fits.ensures

pub returns : goal.returns
returns c =
    rw c.ok_or.ensures.value
    (save_done c.args.file.now c.args.place _ c.args.buffer.now c.args.counts c.requires c.if-store-counts.false _ c.table-table.ensures c.if-not-fits.ensures _ c.at-2.ensures _ _ c.put_session.ensures.0 c.put_session.ensures.1)
