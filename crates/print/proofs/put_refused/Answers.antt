-- `print::put_refused` meets its contract: with the record or without. Assumes nothing.
use borrow.Author.Tests.{lt-ltb, le-ltb}
use Rattle.print.proofs.Rows.{none, piece}
use Rattle.print.proofs.put_refused.Goals as goal

pub returns-then-number-lt-NO_RECORD : goal.returns-then-number-lt-NO_RECORD
returns-then-number-lt-NO_RECORD c = rw (lt-ltb c.args.number 9 c.if-number-lt-NO_RECORD.true) c.put_pair.ensures

pub returns : goal.returns
returns c = let h = piece _ _ _ _ _ _ _ _ (c.put_bytes-i.ensures.value, c.put_bytes-i.ensures.buf_after)
    (piece _ _ _ _ _ _ _ _ (c.put_decimal-j.ensures.value, c.put_decimal-j.ensures.buf_after)
    (piece _ _ _ _ _ _ _ _ (c.put_bytes.ensures.value, c.put_bytes.ensures.buf_after) (none _ _))) in
    rw (le-ltb c.args.number 9 c.if-number-lt-NO_RECORD.false) (record { value = h.0; buf_after = h.1 })
