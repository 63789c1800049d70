-- `print::put_pair` meets its contract: its pieces, one after another. Assumes nothing.
use Rattle.print.specs.Lines.{pair}
use Rattle.print.proofs.Rows.{none, piece}
use Rattle.print.proofs.put_pair.Goals as goal

pub returns : goal.returns
unfolding pair
returns c = let h = piece _ _ _ _ _ _ _ _ (c.put_bytes-i.ensures.value, c.put_bytes-i.ensures.buf_after)
    (piece _ _ _ _ _ _ _ _ (c.put_decimal-j.ensures.value, c.put_decimal-j.ensures.buf_after)
    (piece _ _ _ _ _ _ _ _ (c.put_bytes-k.ensures.value, c.put_bytes-k.ensures.buf_after)
    (piece _ _ _ _ _ _ _ _ (c.put_decimal-l.ensures.value, c.put_decimal-l.ensures.buf_after) (piece _ _ _ _ _ _ _ _ (c.put_bytes.ensures.value, c.put_bytes.ensures.buf_after) (none _ _))))) in
    record { value = h.0; buf_after = h.1 }
