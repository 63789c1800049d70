-- `session::copy_cells` meets its contract. The loop's invariant: the cells left, put from i on, give what all put from 0 give. Assumes nothing.
use Rattle.std.proofs.Common.{◌≡◌, ◌+◌, ◌-◌, ◌*◌, length, drop}
use Rattle.std.proofs.lemmas.List.Edits.{sets}
use Rattle.session.specs.Reader.{cells_from}
use Rattle.session.proofs.copy_cells.Given as goal

abbrev pub invariant-loop-i : goal.invariant-loop-i
invariant-loop-i l =
    sets l.initial.out 0 (cells_from (length l.initial.out) (drop l.at l.b)) ≡ sets l.out l.i (cells_from (length l.initial.out - l.i) (drop (l.at + 4 * l.i) l.b))
