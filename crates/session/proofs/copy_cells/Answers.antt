-- `session::copy_cells` meets its contract. Assumes nothing.
use Rattle.std.proofs.Common.{arith, length, ◌∙◌}
use mir.Syntax.{w32}
use mir.Facts.{to_z-of_z}
use Rattle.session.proofs.Writing.{copy_go, copy_end}
use Rattle.session.proofs.copy_cells.Goals as goal

pub loop-i-preserved : goal.loop-i-preserved
loop-i-preserved c =
    copy_go c.args.b.now _ c.loop-i.out (length c.args.out.now) c.loop-i.i _ c.loop-i.invariant (omega arith) _ _ (to_z-of_z {w = w32} (record { sfits = c.long.type_inv }) ∙ c.long.ensures) (omega arith)

pub returns : goal.returns
returns c = copy_end c.args.b.now _ _ (length c.args.out.now) c.loop-i.i _ c.loop-i.invariant (omega arith)
