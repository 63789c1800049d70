-- `order::open::Open::opened` meets its contract: the cases of `Stacks`.
use Rattle.std.proofs.Common.{arith}
use Rattle.order.proofs.Stacks.{opened_yes, opened_full, opened_out}
use Rattle.order.proofs.open.Open.opened.Goals as goal
use Rattle.order.proofs.open.Open.opened.Goals.{in_default-via-in-Opened+else-from-lt-DEEP, in_default-via-in_default}

pub returns-in-Opened : goal.returns-in-Opened
returns-in-Opened c = opened_yes _ _ _ _ c.self.view_is _ _ c.in-Opened.is (rw c.from.ensures at c.if-from-lt-DEEP.true) (omega arith) (rw c.from-in-Opened.ensures at c.at.ensures)

pub returns-in_default : goal.returns-in_default
returns-in_default c =
    elim c.in_default.branch [
      | in_default-via-in-Opened+else-from-lt-DEEP w ↦ opened_full _ _ _ _ c.self.view_is _ _ w.in-Opened.is (rw w.from.ensures at w.if-from-lt-DEEP.false) c.at-in_default.ensures
      | in_default-via-in_default w ↦ opened_out _ _ _ _ c.self.view_is _ _ w.in_default.not-Opened w.in_default.not-Stated c.at-in_default.ensures
    ]
