-- The measure of `mentions` is the bytes that are left.
use Rattle.std.proofs.Common.{◌-◌, length}
use Rattle.expr.proofs.+mentions.Given as goal

abbrev pub decreases-mentions : goal.decreases-mentions
decreases-mentions l = length l.s.now - l.at
