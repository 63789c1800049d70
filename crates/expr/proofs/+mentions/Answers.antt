-- `expr::mentions` meets its contract: the right side starts no earlier than the left one. Assumes nothing.
use Rattle.std.proofs.Common.{arith}
use Rattle.expr.proofs.Names.{seen_after}
use Rattle.expr.proofs.+mentions.Goals as goal

pub mentions-right-requires : goal.mentions-right-requires
mentions-right-requires t c = (omega (arith, seen_after _ _ _ _ c.mentions-left.ensures), tt)
