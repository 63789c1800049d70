-- `reading::walk` meets its contract: the walk over the records left is the walk of the whole file.
use Rattle.std.proofs.Common.{◌≡◌, ◌+◌, ◌≤◌, length}
use Rattle.records.specs.Reading.{walk_over, walk_of}
use Rattle.records.specs.Left.{offsets_left}
use Rattle.records.proofs.reading.walk.Given as goal

abbrev pub invariant-loop-at : goal.invariant-loop-at
invariant-loop-at l =
    let left = offsets_left l.at-iterator in
    record {
      room : l.walked.records + length left ≤ length l.file;
      begun : l.walked.procedures ≤ l.walked.records;
      same : walk_over l.file left l.walked.records l.walked.procedures ≡ walk_of l.file;
    }
