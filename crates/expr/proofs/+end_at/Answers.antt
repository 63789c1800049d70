-- `expr::end_at` meets its contract: the case of an operator on two sides. Assumes nothing.
use Rattle.std.proofs.Common.{arith, ◌<◌, ◌+◌, get_or}
use Rattle.expr.proofs.Ends.{end_bin}
use Rattle.expr.proofs.+end_at.Goals as goal

pub returns-in_ok-end_at-in-3 : goal.returns-in_ok-end_at-in-3
returns-in_ok-end_at-in-3 t c =
    let small : get_or c.args.s.now (c.args.at + 1) 0 < 16 = omega arith in
    end_bin _ _ _ c.if-left-eq0.false c.if-s-at.false _ c.byte.ensures.0 c.in-3.is small _ c.end_at-in-3.ensures _ _ c.in_ok-end_at-in-3.was c.end_at-in-3-2.ensures
