-- `machine::walk::go` meets its contract: a turn, and the end, by `WalkCases`. Assumes nothing.
use mathlib.Core.Path.{refl, ◌∙◌}
use native.Mathlib.Omega.{arith}
use Rattle.decide.specs.Ways.{rule_in, sight}
use Rattle.machine.specs.Walk.{stand_of}
use Rattle.machine.proofs.WalkCases.{go_start, goes_refused, goes_on, goes_done}
use Rattle.machine.proofs.walk.go.Goals as goal

pub loop-made-init : goal.loop-made-init
loop-made-init c = go_start (rule_in c.args.bytes.now c.args.map.now c.args.arrays.now) c.args.n c.args.place c.args.calls c.from.result c.args.cells.now c.requires.0 (c.from.ensures ∙ c.way_to.ensures)

pub returns-in-Err : goal.returns-in-Err
unfolding sight
returns-in-Err c =
    let l = c.loop-made in
    rw (c.placed.ensures, c.at.ensures)
    (goes_refused (rule_in c.args.bytes.now c.args.map.now c.args.arrays.now) c.args.n (stand_of c.args.place) c.args.calls c.args.cells.now l.made l.at l.kinds l.labels l.cells l.invariant _ c.decide.new.kinds c.decide.new.labels c.decide.new.cells (rw c.spot-here.ensures at c.in-Err.ensures) c.loop-made-test.true _ refl)

pub loop-made-preserved : goal.loop-made-preserved
unfolding sight
loop-made-preserved c =
    let l = c.loop-made in
    goes_on (rule_in c.args.bytes.now c.args.map.now c.args.arrays.now) c.args.n (stand_of c.args.place) c.args.calls c.args.cells.now l.made l.at l.kinds l.labels l.cells l.invariant _ c.decide.new.kinds c.decide.new.labels c.decide.new.cells (rw c.spot-here.ensures at c.in-Ok.ensures) c.loop-made-test.true _ refl

pub returns : goal.returns
returns c =
    let l = c.loop-made in
    rw c.placed-2.ensures (goes_done (rule_in c.args.bytes.now c.args.map.now c.args.arrays.now) c.args.n (stand_of c.args.place) c.args.calls c.args.cells.now l.made l.at l.kinds l.labels l.cells l.invariant (omega arith))
