-- The step that `desk::stepped` passes on meets its contract. Assumes nothing.
use mathlib.Core.Path.{refl}
use Rattle.desk.proofs.fn.stepped.moved.Goals as goal

pub returns : goal.returns
returns c = rw c.counted.ensures (c.step.ensures, refl)
