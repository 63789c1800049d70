-- `words::put_decimal` meets its contract: the digits stand at the front of `text`. Assumes nothing.
use mathlib.Core.Path.{sym, ap, ◌∙◌}
use native.Mathlib.Omega.{arith}
use lib.ListN.{take}
use lib.Seq.{length-take-le}
use Rattle.words.specs.Words.{decimal}
use Rattle.words.proofs.Writing.{said, front, length_digits}
use Rattle.words.proofs.put_decimal.Goals as goal

pub slice_bounds-text-end : goal.slice_bounds-text-end
slice_bounds-text-end c = omega (arith, c.digits-end.ensures.value, length_digits 19 c.args.n)

pub slice_bounds-put_bytes-end : goal.slice_bounds-put_bytes-end
slice_bounds-put_bytes-end c = sym (length-take-le _ _ (omega (arith, c.digits-end.ensures.value, length_digits 19 c.args.n)))

pub returns : goal.returns
returns c = let h = said c.args.buf.now c.put_bytes.new.buf _ (decimal c.args.n) c.args.at c.put_bytes.result
    (ap (take c.digits-end.result) c.digits-end.ensures.text_after ∙ front _ (decimal c.args.n) c.digits-end.result (omega (arith, length_digits 19 c.args.n)) c.digits-end.ensures.value)
    (c.put_bytes.ensures.value, c.put_bytes.ensures.buf_after) in
    record { value = h.0; buf_after = h.1 }
