-- `machine::checked` meets its contract: the cases of `WholeCases`. Assumes nothing.
use Rattle.machine.proofs.WholeCases.{fits_count, checked_size, checked_place, checked_went}
use Rattle.machine.proofs.checked.Goals as goal

pub returns-then-store-counts : goal.returns-then-store-counts
returns-then-store-counts c = checked_size _ _ _ _ _ _ c.if-store-counts.true (rw c.at.ensures at c.stays.ensures)

pub returns-then-not-fits : goal.returns-then-not-fits
returns-then-not-fits c = checked_place _ _ _ _ _ c.if-store-counts.false _ c.table-table.ensures _ c.fits.ensures _ c.if-not-fits.true (rw c.at-then-not-fits.ensures at c.stays-then-not-fits.ensures)

pub went-requires : goal.went-requires
went-requires c = fits_count _ _ _ _ _ c.fits.ensures c.if-not-fits.false

pub returns : goal.returns
returns c = checked_went _ _ _ _ _ c.if-store-counts.false _ c.table-table.ensures _ c.fits.ensures c.if-not-fits.false _ _ c.went.ensures
