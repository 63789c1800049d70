-- `session::column_at` meets its contract. Assumes nothing.
use Rattle.std.proofs.Common.{arith, ◌∙◌}
use Rattle.session.proofs.Rows.{fill_slots, fill_go, fill_end}
use Rattle.session.proofs.column_at.Goals as goal

pub loop-i-preserved : goal.loop-i-preserved
loop-i-preserved c = fill_go c.args.b.now c.loop-i.s _ c.args.n c.loop-i.i _ c.loop-i.invariant c.loop-i-test.true _ _ c.short.ensures.0 (omega arith)

pub returns : goal.returns
returns c = fill_end c.args.b.now _ _ c.args.n c.loop-i.i _ c.loop-i.invariant c.loop-i-test.false ∙ fill_slots _ _ (omega arith)
