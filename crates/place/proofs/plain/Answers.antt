-- `place::plain` meets its contract: its tests together say what is so of each struct that holds a place. Assumes nothing.
use Rattle.std.proofs.Common.{rules, arith}
use Rattle.std.proofs.lemmas.Grind.{common_steps}
use Rattle.place.proofs.Held.{decides_slotted}
use Rattle.place.proofs.plain.Goals as goal

pub returns-then-are_unused : goal.returns-then-are_unused
returns-then-are_unused c = decides_slotted c.args.p _ (search rules) (search rules) (grind (arith, common_steps))

pub returns-else-are_unused : goal.returns-else-are_unused
returns-else-are_unused c = decides_slotted c.args.p _ (search rules) (search rules) (grind (arith, common_steps))
