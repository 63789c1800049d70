-- `machine::copies::lay` meets its contract. Assumes nothing.
use Rattle.machine.proofs.CopyCases.{over_is}
use Rattle.machine.proofs.copies.lay.Goals as goal

pub returns : goal.returns
returns g c = over_is c.args.from.now c.args.to.now _ c.min-n.result c.min-n.ensures c.copy_from_slice.ensures.after
