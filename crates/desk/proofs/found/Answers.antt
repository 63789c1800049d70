-- `desk::found` meets its contract: a store of the program's size is lent to the reading. Assumes nothing.
use mathlib.Core.Path.{◌≡◌, refl, sym}
use native.Mathlib.Omega.{arith}
use lib.ListN.{length}
use lib.Seq.{length-take-le}
use borrow.Author.Rules.{rules}
use Rattle.std.proofs.lemmas.Result.{err_from_is_err_and}
use Rattle.desk.specs.Desk.{refused, program}
use Rattle.desk.proofs.Cases.{cells_limit, open_refused, open_found}
use Rattle.desk.proofs.found.Goals as goal

pub returns-in_err-count : goal.returns-in_err-count
returns-in_err-count c = let p = err_from_is_err_and c.from_residual.result c.from_residual.ensures.1 in rw (p.1, p.2) (refused (program c.in_err-count.ensures) refl)

pub slice_bounds-cells-end : goal.slice_bounds-cells-end
slice_bounds-cells-end c = let e : length c.args.session.cells ≡ 2048 = search rules in omega (arith, e, cells_limit _ _ c.in_ok-count.ensures)

pub slice_bounds-read-end : goal.slice_bounds-read-end
slice_bounds-read-end c = let e : length c.args.session.cells ≡ 2048 = search rules in sym (length-take-le _ _ (omega (arith, e, cells_limit _ _ c.in_ok-count.ensures)))

pub returns-in_err-place : goal.returns-in_err-place
returns-in_err-place c =
    let e : length c.args.session.cells ≡ 2048 = search rules in let p = err_from_is_err_and c.from_residual-in_err-place.result c.from_residual-in_err-place.ensures.1 in
    rw (p.1, p.2) (open_refused _ _ c.in_ok-count.ensures (λ i. omega (arith, c.type_inv.file i)) _ _ (length-take-le _ _ (omega (arith, e, cells_limit _ _ c.in_ok-count.ensures))) _ c.in_err-place.ensures.0)

pub returns : goal.returns
returns c =
    let e : length c.args.session.cells ≡ 2048 = search rules in
    open_found _ _ c.in_ok-count.ensures (λ i. omega (arith, c.type_inv.file i)) _ _ (length-take-le _ _ (omega (arith, e, cells_limit _ _ c.in_ok-count.ensures))) _ _ c.in_ok-place.ensures
