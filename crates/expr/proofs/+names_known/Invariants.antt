-- The measure of `names_known` is the bytes that are left.
use Rattle.std.proofs.Common.{◌-◌, length}
use Rattle.expr.proofs.+names_known.Given as goal

abbrev pub decreases-names_known : goal.decreases-names_known
decreases-names_known l = length l.s.now - l.at
