-- `order::open::Open::turned` meets its contract: the cases of `Stacks`.
use Rattle.std.proofs.Common.{arith}
use Rattle.order.proofs.Stacks.{turned_yes}
use Rattle.order.proofs.open.Open.turned.Goals as goal

pub returns : goal.returns
returns c = turned_yes _ _ _ _ c.self.view_is _ c.if-not-meets.ensures _ _ (omega arith) (rw c.from.ensures at c.at-2.ensures)
