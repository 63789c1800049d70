-- `session::put_place` meets its contract. The loop's invariant: the frames left, written from where the loop is, give what all written behind the head give. Assumes nothing.
use Rattle.std.proofs.Common.{◌≡◌, ◌+◌, ◌-◌, ◌*◌}
use Rattle.std.proofs.lemmas.List.Edits.{sets}
use Rattle.session.specs.Answers.{slot_bytes}
use Rattle.session.proofs.put_place.Given as goal

abbrev pub invariant-loop-i : goal.invariant-loop-i
invariant-loop-i l =
    sets l.initial.buf 12 (slot_bytes l.n l.h.kinds l.h.labels) ≡ sets l.buf (12 + 4 * l.i) (slot_bytes (l.n - l.i) l.h.kinds l.h.labels)
