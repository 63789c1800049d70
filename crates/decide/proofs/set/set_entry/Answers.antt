-- `decide::set::set_entry` meets its contract: the cases of `SetCases`. Assumes nothing.
use Rattle.std.proofs.lemmas.Result.{err_from_is_err_and}
use Rattle.decide.proofs.SetCases.{entry_stop, entry_none, entry_done}
use Rattle.decide.proofs.set.set_entry.Goals as goal

pub returns-in_err-i : goal.returns-in_err-i
returns-in_err-i c =
    let p = err_from_is_err_and c.from_residual.result c.from_residual.ensures.1 in
    rw (p.1, p.2) (entry_stop _ _ _ _ _ _ _ _ c.amount.ensures _ c.in_err-i.was)

pub returns-in-Some : goal.returns-in-Some
returns-in-Some c = entry_done _ _ _ _ _ _ _ _ c.amount.ensures _ c.in_ok-i.was _ c.entry_of.ensures _ _ _ c.in-Some.is c.set_cell.ensures

pub returns-in-None : goal.returns-in-None
returns-in-None c = entry_none _ _ _ _ _ _ _ _ c.amount.ensures _ c.in_ok-i.was _ c.entry_of.ensures c.in-None.is
