-- `machine::start` meets its contract. Assumes nothing.
use mathlib.Core.Path.{◌∙◌, ap}
use Rattle.std.specs.Prelude.{Err}
use Rattle.std.proofs.lemmas.Result.{err_from_is_err_and}
use Rattle.machine.specs.Answers.{refused}
use Rattle.machine.proofs.Starts.{started_says}
use Rattle.machine.proofs.start.Goals as goal

pub returns-in_err-check : goal.returns-in_err-check
returns-in_err-check c = let p = err_from_is_err_and c.from_residual.result c.from_residual.ensures.1 in refused c.in_err-check.ensures (p.1 ∙ ap Err p.2)

pub returns : goal.returns
returns c = started_says c.args.file.now c.args.up _ c.in_ok-check.ensures _ c.begun.ensures
