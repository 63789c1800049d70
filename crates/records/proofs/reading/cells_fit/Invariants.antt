-- `reading::cells_fit` meets its contract: what is left to ask stays the same question.
use Rattle.std.proofs.Common.{◌≡◌, ◌+◌, ◌*◌, ◌-◌, ◌≤◌}
use Rattle.records.specs.Reading.{cells_fit, shorts_at}
use Rattle.records.proofs.reading.cells_fit.Given as goal

abbrev pub invariant-loop-i : goal.invariant-loop-i
invariant-loop-i l =
    record { most : l.total ≤ 64 + 1024 * l.i; left : cells_fit l.total (shorts_at l.file (l.at + 2 * l.i) (l.n - l.i)) ≡ cells_fit l.v (shorts_at l.file l.at l.n) }
