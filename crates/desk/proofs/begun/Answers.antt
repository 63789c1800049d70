-- `desk::begun` meets its contract. Assumes nothing.
use mathlib.Core.Path.{refl}
use native.Mathlib.Omega.{arith}
use Rattle.std.proofs.lemmas.Result.{err_from_is_err_and}
use Rattle.desk.specs.Desk.{refused}
use Rattle.desk.proofs.Cases.{cells_limit, begin_refused, begin_begun}
use Rattle.desk.proofs.begun.Goals as goal

pub laid_out-requires : goal.laid_out-requires
laid_out-requires c = cells_limit _ _ c.in_ok-counts.ensures

pub returns-in_err-counts : goal.returns-in_err-counts
returns-in_err-counts c = let p = err_from_is_err_and c.from_residual.result c.from_residual.ensures.1 in rw (p.1, p.2) (refused c.in_err-counts.ensures refl)

pub returns-in_err-place : goal.returns-in_err-place
returns-in_err-place c = let p = err_from_is_err_and c.from_residual-in_err-place.result c.from_residual-in_err-place.ensures.1 in rw (p.1, p.2) (begin_refused _ c.in_err-place.ensures)

pub returns : goal.returns
returns c = begin_begun _ _ c.in_ok-counts.ensures (λ i. omega (arith, c.type_inv.file i)) _ _ _ c.in_ok-place.ensures _ c.laid_out.ensures
