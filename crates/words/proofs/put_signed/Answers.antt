-- `words::put_signed` meets its contract: a minus and the digits, or the digits. Assumes nothing.
use mathlib.Core.Path.{sym, ap, ◌∙◌}
use mathlib.Core.List.{◌∷◌}
use Prim.Native.Nat.{ℕ}
use native.Mathlib.Omega.{arith}
use lib.ListN.{take, replicate}
use lib.Seq.{length-take-le}
use mir.Facts.{to_z-of_z}
use Rattle.words.specs.Words.{decimal, signed_decimal}
use Rattle.words.proofs.Writing.{said, front, length_digits, above_is, below_is}
use Rattle.words.proofs.put_signed.Goals as goal

pub returns-then-z-ge0 : goal.returns-then-z-ge0
returns-then-z-ge0 c = let h = said c.args.buf.now c.put_decimal.new.buf _ (signed_decimal c.args.z) c.args.at c.put_decimal.result
    (ap decimal c.unsigned_abs.ensures.value ∙ rw (to_z-of_z c.ranges.z) (above_is c.args.z (rw (to_z-of_z c.ranges.z) at c.if-z-ge0.true)))
    (c.put_decimal.ensures.value, c.put_decimal.ensures.buf_after) in
    record { value = h.0; buf_after = h.1 }

pub slice_bounds-text-end : goal.slice_bounds-text-end
slice_bounds-text-end c = omega (arith, c.digits-end.ensures.value, length_digits 19 c.unsigned_abs-2.result)

pub slice_bounds-put_bytes-end : goal.slice_bounds-put_bytes-end
slice_bounds-put_bytes-end c = sym (length-take-le _ _ (omega (arith, c.digits-end.ensures.value, length_digits 19 c.unsigned_abs-2.result)))

pub returns : goal.returns
returns c = let n = c.unsigned_abs-2.result in
    let h = said c.args.buf.now c.put_bytes.new.buf _ (signed_decimal c.args.z) c.args.at c.put_bytes.result
    (ap (take c.digits-end.result) c.digits-end.ensures.text_after
    ∙ front (replicate 21 0) (45 ∷ decimal n) c.digits-end.result (omega (arith, length_digits 19 n)) (omega (arith, c.digits-end.ensures.value))
    ∙ ap (λ (k : ℕ). 45 ∷ decimal k) c.unsigned_abs-2.ensures.value
    ∙ rw (to_z-of_z c.ranges.z) (below_is c.args.z (rw (to_z-of_z c.ranges.z) at c.if-z-ge0.false)))
    (c.put_bytes.ensures.value, c.put_bytes.ensures.buf_after) in
    record { value = h.0; buf_after = h.1 }
