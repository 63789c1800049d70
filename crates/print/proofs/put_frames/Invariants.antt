-- `print::put_frames` meets its contract: what finishes from here finishes the whole. Assumes nothing.
use Prim.Native.Nat.{min}
use Rattle.print.specs.Lines.{frame_lines}
use Rattle.print.proofs.Rows.{Finishes}
use Rattle.print.proofs.put_frames.Given as goal

abbrev pub invariant-loop-i : goal.invariant-loop-i
invariant-loop-i l = Finishes l.initial.buf l.at (frame_lines (min l.count 1104) l.kinds l.labels) l.buf l.next (frame_lines l.i l.kinds l.labels)
