-- `desk::moved` meets its contract: the cells in use are lent, the others stay. Assumes nothing.
use mathlib.Core.Path.{refl, ap}
use Rattle.desk.specs.declared.Answer.{Answer}
use Rattle.desk.specs.Desk.{made, over}
use Rattle.desk.proofs.Cases.{move_within}
use Rattle.desk.proofs.moved.Goals as goal

pub returns-then-count-gt-CELLS : goal.returns-then-count-gt-CELLS
returns-then-count-gt-CELLS g c = over c.if-count-gt-CELLS.true c.over.ensures (ap (λ (a : Answer). made a c.args.session.now) c.of.ensures)

pub returns : goal.returns
returns g c = move_within _ _ _ _ _ c.if-count-gt-CELLS.false (record { lent = _; back = _; shows = refl; leaves = refl; met = c.go-told.ensures }) c.of-2.ensures
