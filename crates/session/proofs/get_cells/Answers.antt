-- `session::get_cells` meets its contract. Assumes nothing.
use Rattle.std.proofs.Common.{arith}
use Rattle.session.proofs.Saving.{cells_start_few, fill_is}
use Rattle.session.proofs.get_cells.Goals as goal

pub copy_cells-requires : goal.copy_cells-requires
copy_cells-requires c = omega (arith, cells_start_few c.args.saved.now _ c.in-Some.ensures)

pub returns-then-n-store : goal.returns-then-n-store
returns-then-n-store c = fill_is c.args.saved.now _ c.in-Some.ensures _ c.if-n-store.true _ c.short.ensures.0 _ c.copy_cells.ensures
