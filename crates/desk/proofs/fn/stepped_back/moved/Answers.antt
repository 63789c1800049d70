-- The step that `desk::stepped_back` passes on meets its contract. Assumes nothing.
use mathlib.Core.Path.{refl}
use Rattle.desk.proofs.fn.stepped_back.moved.Goals as goal

pub returns : goal.returns
returns c = rw c.counted.ensures (c.back.ensures, refl)
