-- The measure of `end_at` is the depth that is left.
use Rattle.expr.proofs.+end_at.Given as goal

abbrev pub decreases-end_at : goal.decreases-end_at
decreases-end_at l = l.left
