-- `values_lines::answers` meets its contract: the position stays within. Assumes nothing.
use Rattle.std.proofs.Common.{◌≤◌, length}
use Rattle.values_lines.proofs.answers.Given as goal

abbrev pub invariant-loop-at : goal.invariant-loop-at
invariant-loop-at l = l.end ≤ length l.out
