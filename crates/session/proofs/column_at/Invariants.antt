-- `session::column_at` meets its contract. The loop's invariant: filling the slots left gives what filling all gives. Assumes nothing.
use Rattle.std.proofs.Common.{◌≡◌, ◌+◌, ◌-◌, ◌*◌, drop}
use Rattle.place.specs.Methods.{zeros}
use Rattle.session.proofs.Rows.{fill}
use Rattle.session.proofs.column_at.Given as goal

abbrev pub invariant-loop-i : goal.invariant-loop-i
invariant-loop-i l = fill l.n (drop l.at l.b) zeros ≡ fill (l.n - l.i) (drop (l.at + 4 * l.i) l.b) l.s
