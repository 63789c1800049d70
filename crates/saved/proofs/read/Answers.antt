-- `saved::read` meets its contract: what the check refuses is refused. Assumes nothing.
use Rattle.std.proofs.Common.{refl}
use Rattle.std.proofs.lemmas.Result.{err_from_is_err_and}
use Rattle.saved.specs.Answers.{program}
use Rattle.saved.proofs.read.Goals as goal

pub returns-in_err-counts : goal.returns-in_err-counts
returns-in_err-counts c = let p = err_from_is_err_and c.from_residual.result c.from_residual.ensures.1 in rw (p.1, p.2) (program c.in_err-counts.ensures, refl)
