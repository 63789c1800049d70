-- `expr::names_known` meets its contract: the right side starts no earlier than the left one. Assumes nothing.
use Rattle.std.proofs.Common.{arith}
use Rattle.expr.proofs.Knowns.{known_after}
use Rattle.expr.proofs.+names_known.Goals as goal

pub names_known-right-requires : goal.names_known-right-requires
names_known-right-requires t c = (omega (arith, known_after _ _ _ _ _ c.names_known-left.ensures), tt)
