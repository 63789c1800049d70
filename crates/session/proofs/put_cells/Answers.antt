-- `session::put_cells` meets its contract. Assumes nothing.
use Rattle.std.proofs.Common.{arith, rules}
use mir.Syntax.{w32}
use mir.Facts.{to_z-of_z}
use Rattle.session.proofs.Writing.{cells_go, cells_end}
use Rattle.session.proofs.put_cells.Goals as goal

pub loop-i-preserved : goal.loop-i-preserved
loop-i-preserved c =
    cells_go c.args.store.now _ c.loop-i.buf c.loop-i.i _ c.loop-i.invariant c.loop-i-test.true (omega arith) _ (to_z-of_z {w = w32} (record { sfits = search rules })) _ _ c.put_long.ensures (omega arith)

pub returns : goal.returns
returns c = cells_end c.args.store.now _ _ c.loop-i.i _ c.loop-i.invariant (omega arith)
