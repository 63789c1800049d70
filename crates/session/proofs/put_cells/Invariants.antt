-- `session::put_cells` meets its contract. The loop's invariant: the cells left, written from where the loop is, give what all written from `at` give. Assumes nothing.
use Rattle.std.proofs.Common.{◌≡◌, ◌+◌, ◌*◌, drop}
use Rattle.std.proofs.lemmas.List.Edits.{sets}
use Rattle.session.specs.Parts.{encode_cells}
use Rattle.session.proofs.put_cells.Given as goal

abbrev pub invariant-loop-i : goal.invariant-loop-i
invariant-loop-i l = sets l.initial.buf l.at (encode_cells l.store) ≡ sets l.buf (l.at + 4 * l.i) (encode_cells (drop l.i l.store))
