-- `decide::set::set_cell` meets its contract: the cases of `SetCases`. Assumes nothing.
use Rattle.std.proofs.lemmas.Result.{err_from_is_err_and}
use Rattle.decide.proofs.SetCases.{cell_stop, cell_done}
use Rattle.decide.proofs.set.set_cell.Goals as goal

pub returns-in_err-v : goal.returns-in_err-v
returns-in_err-v c =
    let p = err_from_is_err_and c.from_residual.result c.from_residual.ensures.1 in
    rw (p.1, p.2) (cell_stop _ _ _ _ _ _ _ _ c.amount.ensures _ c.in_err-v.was)

pub returns : goal.returns
returns c = cell_done _ _ _ _ _ _ _ _ c.amount.ensures _ _ c.in_ok-v.was c.put.ensures
