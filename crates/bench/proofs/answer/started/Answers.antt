-- `bench::answer::started` meets its contract. Assumes nothing.
use Rattle.program.proofs.CheckSays.{refused_of_lem}
use Rattle.program.proofs.Few.{accepted_counts}
use Rattle.bench.specs.Answers as answers
use Rattle.bench.proofs.Answering.{started_room}
use Rattle.bench.proofs.answer.started.Goals as goal

pub begun-requires : goal.begun-requires
begun-requires c = (_, _, accepted_counts _ c.check.result c.check.ensures _ c.in-Ok.is)

pub returns-in-Err : goal.returns-in-Err
returns-in-Err c = let x = answers.Starts.refused (refused_of_lem _ c.check.result _ c.check.ensures c.in-Err.is) (c.refused.ensures c.args.buffer.now) in
    record { starts = x; room = started_room x }

pub returns-in-Ok : goal.returns-in-Ok
returns-in-Ok c = record { starts = c.begun.ensures; room = started_room c.begun.ensures }
