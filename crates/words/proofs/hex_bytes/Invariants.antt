-- `words::hex_bytes` meets its contract: what is still to be read is what was to be read from the start. Assumes nothing.
use Rattle.words.proofs.Lines.{Midway}
use Rattle.words.proofs.hex_bytes.Given as goal

abbrev pub invariant-loop-n : goal.invariant-loop-n
invariant-loop-n l = Midway l.s l.at l.initial.buf l.buf l.n l.i
