-- `table::join_all` meets its contract. The invariant: what is left to be done gives the whole. Assumes nothing.
use mathlib.Core.Path.{◌≡◌}
use Prim.Native.Nat.{◌-◌, pred}
use Rattle.table.specs.Table.{joined}
use Rattle.table.proofs.join_all.Given as goal

abbrev pub invariant-loop-number : goal.invariant-loop-number
invariant-loop-number l = joined (pred l.n) 0 l.initial.table ≡ joined (l.n - l.number) (pred l.number) l.table
