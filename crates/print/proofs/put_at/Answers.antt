-- `print::put_at` meets its contract: the word is the direction's. Assumes nothing.
use borrow.Author.Tests.{eq-eqb}
use Rattle.print.proofs.put_at.Goals as goal

pub returns-then-direction-eq-DOWN : goal.returns-then-direction-eq-DOWN
returns-then-direction-eq-DOWN c = rw (eq-eqb c.args.direction 0 c.if-direction-eq-DOWN.true) c.put_pair.ensures
