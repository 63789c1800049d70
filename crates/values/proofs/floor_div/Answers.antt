-- `values::floor_div` meets its contract, a case for each return: the laws of Floor, with every local read from its bits. Assumes nothing.
use Rattle.std.proofs.Common.{◌∙◌, to_z-of_z, w32}
use Rattle.values.proofs.Bits.{not_reads}
use Rattle.values.proofs.Floor.{under, over, asks_down, down_div, asks_up, up_div, asks_less, asks_over, over_div, over_fits, asks_same, same_div}
use Rattle.values.proofs.floor_div.Goals as goal

pub nonzero_div-result : goal.nonzero_div-result
nonzero_div-result c = asks_down c.ranges.x c.ranges.y c.if-x-lt0.true c.if-y-gt0.true

pub returns-then-x-lt0 : goal.returns-then-x-lt0
returns-then-x-lt0 c = not_reads w32 _ (nonzero_div-result c).1
    ∙ rw (not_reads w32 c.args.x c.ranges.x, to_z-of_z c.ranges.y)
    (down_div c.args.x c.args.y (under c.ranges.x c.if-x-lt0.true) (over c.ranges.y c.if-y-gt0.true))

pub nonzero_div-result-then-y-gt0 : goal.nonzero_div-result-then-y-gt0
nonzero_div-result-then-y-gt0 c = asks_up c.ranges.x c.ranges.y c.if-x-lt0.false c.if-y-gt0.true

pub returns-then-y-gt0 : goal.returns-then-y-gt0
returns-then-y-gt0 c = to_z-of_z (nonzero_div-result-then-y-gt0 c).1
    ∙ rw (to_z-of_z c.ranges.x, to_z-of_z c.ranges.y)
    (up_div c.args.x c.args.y (under c.ranges.x c.if-x-lt0.false) (over c.ranges.y c.if-y-gt0.true))

pub overflow_sub-result : goal.overflow_sub-result
overflow_sub-result c = asks_less c.ranges.x c.ranges.y c.if-x-gt0.true

pub nonzero_div-result-then-x-gt0 : goal.nonzero_div-result-then-x-gt0
nonzero_div-result-then-x-gt0 c = asks_over c.ranges.x c.ranges.y c.if-x-gt0.true c.if-y-gt0.false c.requires.0

pub overflow_sub-result-then-x-gt0 : goal.overflow_sub-result-then-x-gt0
overflow_sub-result-then-x-gt0 c = rw (to_z-of_z (nonzero_div-result-then-x-gt0 c).1, to_z-of_z (overflow_sub-result c), to_z-of_z c.ranges.x, to_z-of_z c.ranges.y)
    (over_fits c.args.x c.args.y c.ranges.x (over c.ranges.x c.if-x-gt0.true) (over c.ranges.y c.if-y-gt0.false) c.requires.0)

pub returns-then-x-gt0 : goal.returns-then-x-gt0
returns-then-x-gt0 c = to_z-of_z (overflow_sub-result-then-x-gt0 c)
    ∙ rw (to_z-of_z (nonzero_div-result-then-x-gt0 c).1, to_z-of_z (overflow_sub-result c), to_z-of_z c.ranges.x, to_z-of_z c.ranges.y)
    (over_div c.args.x c.args.y (over c.ranges.x c.if-x-gt0.true) (over c.ranges.y c.if-y-gt0.false) c.requires.0)

pub nonzero_div-result-2 : goal.nonzero_div-result-2
nonzero_div-result-2 c = asks_same c.ranges.x c.ranges.y c.if-x-gt0.false c.if-y-gt0.false c.requires

pub returns : goal.returns
returns c = to_z-of_z (nonzero_div-result-2 c).1
    ∙ rw (to_z-of_z c.ranges.x, to_z-of_z c.ranges.y)
    (same_div c.args.x c.args.y (over c.ranges.x c.if-x-gt0.false) (over c.ranges.y c.if-y-gt0.false) c.requires.0)
