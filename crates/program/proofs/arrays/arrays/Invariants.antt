-- `program::arrays::arrays` meets its contract: what is left to put gives the whole.
use Rattle.std.proofs.Common.{◌≡◌, ◌+◌, ◌*◌, ◌<◌}
use Rattle.program.specs.Arrays.{arrays_at}
use Rattle.program.proofs.ArrayLoops.{filled}
use Rattle.program.proofs.arrays.arrays.Given as goal

abbrev pub invariant-loop-i : goal.invariant-loop-i
invariant-loop-i l = record { small : l.start < 65536 * (l.i + 1); same : arrays_at l.file ≡ filled l.file l.n l.table l.start l.i }
