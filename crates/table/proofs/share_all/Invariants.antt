-- `table::share_all` meets its contract. The invariant: what is left to be done gives the whole. Assumes nothing.
use mathlib.Core.Path.{◌≡◌}
use Prim.Native.Nat.{◌-◌}
use Rattle.table.specs.Table.{shared}
use Rattle.table.proofs.share_all.Given as goal

abbrev pub invariant-loop-number : goal.invariant-loop-number
invariant-loop-number l = shared l.n 0 l.initial.table ≡ shared (l.n - l.number) l.number l.table
