-- `session::cells_in` meets its contract. Assumes nothing.
use Rattle.std.proofs.Common.{arith}
use Rattle.session.proofs.Saving.{cells_within, count_is}
use Rattle.session.proofs.cells_in.Goals as goal

pub overflow_sub-result : goal.overflow_sub-result
overflow_sub-result c = omega (arith, cells_within c.args.saved.now c.if-not-well_formed.ensures)

pub returns : goal.returns
returns c = grind (arith, count_is c.args.saved.now c.if-not-well_formed.ensures)
