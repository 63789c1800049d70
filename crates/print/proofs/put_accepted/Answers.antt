-- `print::put_accepted` meets its contract: a pair, and one number more. Assumes nothing.
use Rattle.print.specs.Lines.{accepted_line}
use Rattle.print.proofs.Rows.{none, piece, joined}
use Rattle.print.proofs.put_accepted.Goals as goal

pub returns : goal.returns
unfolding accepted_line
returns c = let h = joined _ _ _ _ _ _ _ _ (c.put_pair-i.ensures.value, c.put_pair-i.ensures.buf_after)
    (piece _ _ _ _ _ _ _ _ (c.put_decimal-j.ensures.value, c.put_decimal-j.ensures.buf_after)
    (piece _ _ _ _ _ _ _ _ (c.put_bytes.ensures.value, c.put_bytes.ensures.buf_after) (none _ _))) in
    record { value = h.0; buf_after = h.1 }
