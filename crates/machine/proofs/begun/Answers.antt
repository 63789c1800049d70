-- `machine::begun` meets its contract. Assumes nothing.
use Rattle.machine.proofs.WholeCases.{begun_is}
use Rattle.machine.proofs.begun.Goals as goal

pub returns : goal.returns
returns c = begun_is c.args.file.now c.args.up c.table-table.result c.from-d.result c.gate-a.result c.along-b.result c.blank.result c.moved.result
    c.table-table.ensures c.from-d.ensures c.gate-a.ensures c.along-b.ensures c.blank.ensures c.moved.ensures
