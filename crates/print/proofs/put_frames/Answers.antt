-- `print::put_frames` meets its contract: what finishes from here finishes the whole. Assumes nothing.
use native.Mathlib.Omega.{arith}
use Rattle.print.proofs.Rows.{frames-again, frames_end}
use Rattle.print.proofs.put_frames.Goals as goal

pub loop-i-preserved : goal.loop-i-preserved
loop-i-preserved c = frames-again _ _ _ _ _ _ _ _ _ _ (omega arith) (c.put_frame-next.ensures.value, c.put_frame-next.ensures.buf_after) c.loop-i.invariant

pub returns : goal.returns
returns c = let h = frames_end _ _ _ _ _ _ _ _ (omega arith) c.loop-i.invariant in
    record { value = h.0; buf_after = h.1 }
