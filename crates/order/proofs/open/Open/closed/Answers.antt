-- `order::open::Open::closed` meets its contract: the cases of `Stacks`.
use Rattle.order.proofs.Stacks.{closed_yes}
use Rattle.order.proofs.open.Open.closed.Goals as goal

pub returns : goal.returns
returns c = closed_yes _ _ _ _ c.self.view_is _ c.if-not-meets.ensures _ c.at-2.ensures
