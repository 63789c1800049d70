-- The open constructs as the code keeps them, outermost first in an array with a count; innermost first as a list.
use Rattle.std.specs.Prelude.{ℕ, zero, suc, List, [], ◌∷◌, get_or}
use Rattle.order.specs.declared.open.Frame.{Frame}
use Rattle.order.specs.declared.open.Frame.TheVariants.{If}

unfoldable pub stack : List Frame → ℕ → List Frame
stack fs zero = []
stack fs (suc n) = get_or fs n If ∷ stack fs n
