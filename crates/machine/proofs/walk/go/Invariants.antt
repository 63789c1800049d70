-- The loop's invariant of `machine::walk::go`: what is left to run is the run's. Assumes nothing.
use mathlib.Core.Path.{◌≡◌}
use Prim.Native.Nat.{◌-◌}
use Rattle.decide.specs.Ways.{calls_in, rule_in}
use Rattle.machine.specs.Walk.{stand_of, stand_at, go_of}
use Rattle.machine.proofs.walk.go.Given as goal

abbrev pub invariant-loop-made : goal.invariant-loop-made
invariant-loop-made l =
    go_of (rule_in l.bytes l.map l.arrays) l.n (stand_of l.fn.place) l.calls l.fn.cells 0
    ≡ go_of (rule_in l.bytes l.map l.arrays) (l.n - l.made) (stand_at l.at l.kinds l.labels) (calls_in l.at.depth) l.cells l.made
