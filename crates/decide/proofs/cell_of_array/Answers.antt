-- `decide::cell_of_array` meets its contract: the cases of `DecideCases`. Assumes nothing.
use mathlib.Core.Path.{◌≡◌, ap, ◌∙◌}
use Rattle.std.specs.Prelude.{Ok, Err}
use Rattle.std.proofs.lemmas.Result.{err_from_is_err_and}
use Rattle.decide.proofs.DecideCases.{sets}
use Rattle.decide.proofs.cell_of_array.Goals as goal

pub returns-in_err-set_entry : goal.returns-in_err-set_entry
returns-in_err-set_entry c =
    let p = err_from_is_err_and c.from_residual.result c.from_residual.ensures.1 in
    let k : c.set_entry.result ≡ Err c.in_err-set_entry.field-0.0 = c.in_err-set_entry.was in
    let h : c.from_residual.result ≡ Err c.in_err-set_entry.field-0.0 = p.1 ∙ ap Err p.2 in
    search sets

pub returns : goal.returns
returns c =
    let k : c.set_entry.result ≡ Ok tt = c.in_ok-set_entry.was in
    search sets
