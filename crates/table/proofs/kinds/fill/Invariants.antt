-- `table::kinds::fill` meets its contract. The invariant: what is left to be filled gives the whole. Assumes nothing.
use Prim.Native.Nat.{◌≤◌}
use lib.ListN.{length}
use Rattle.table.proofs.Loops.{Left}
use Rattle.table.proofs.kinds.fill.Given as goal

abbrev pub invariant-loop-number : goal.invariant-loop-number
invariant-loop-number l = (l.q ≤ l.number) × ((l.at ≤ length l.file) × Left l.file l.initial.table l.table l.number l.q l.at)
