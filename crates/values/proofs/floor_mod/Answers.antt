-- `values::floor_mod` meets its contract, a case for each return: the laws of Floor, with every local read from its bits. Assumes nothing.
use Rattle.std.proofs.Common.{◌∙◌, to_z-of_z, w32}
use Rattle.values.proofs.Bits.{not_reads}
use Rattle.values.proofs.Division.{mod_fits}
use Rattle.values.proofs.Floor.{under, over, asks_down, not_fits, down_mod, asks_up, up_mod, rest_fits, less_fits, asks_less, asks_over, over_more, over_mod, asks_same, same_mod}
use Rattle.values.proofs.floor_mod.Goals as goal

pub nonzero_rem-result : goal.nonzero_rem-result
nonzero_rem-result c = asks_down c.ranges.x c.ranges.y c.if-x-lt0.true c.if-y-gt0.true

pub overflow_add-result : goal.overflow_add-result
overflow_add-result c = let p = under c.ranges.x c.if-x-lt0.true in
    let q = over c.ranges.y c.if-y-gt0.true in
    rw (not_reads w32 c.args.x c.ranges.x, to_z-of_z c.ranges.y, not_reads w32 _ (rest_fits _ c.args.y (not_fits c.args.x c.ranges.x)), down_mod c.args.x c.args.y p q)
    (mod_fits c.args.x c.args.y c.ranges.y c.requires.0)

pub returns-then-x-lt0 : goal.returns-then-x-lt0
returns-then-x-lt0 c = let p = under c.ranges.x c.if-x-lt0.true in
    let q = over c.ranges.y c.if-y-gt0.true in
    to_z-of_z (overflow_add-result c)
    ∙ rw (not_reads w32 c.args.x c.ranges.x, to_z-of_z c.ranges.y, not_reads w32 _ (rest_fits _ c.args.y (not_fits c.args.x c.ranges.x))) (down_mod c.args.x c.args.y p q)

pub nonzero_rem-result-then-y-gt0 : goal.nonzero_rem-result-then-y-gt0
nonzero_rem-result-then-y-gt0 c = asks_up c.ranges.x c.ranges.y c.if-x-lt0.false c.if-y-gt0.true

pub returns-then-y-gt0 : goal.returns-then-y-gt0
returns-then-y-gt0 c = rw (to_z-of_z c.ranges.x, to_z-of_z c.ranges.y)
    (to_z-of_z (rest_fits c.args.x c.args.y c.ranges.x)
    ∙ up_mod c.args.x c.args.y (under c.ranges.x c.if-x-lt0.false) (over c.ranges.y c.if-y-gt0.true))

pub overflow_sub-result : goal.overflow_sub-result
overflow_sub-result c = asks_less c.ranges.x c.ranges.y c.if-x-gt0.true

pub nonzero_rem-result-then-x-gt0 : goal.nonzero_rem-result-then-x-gt0
nonzero_rem-result-then-x-gt0 c = asks_over c.ranges.x c.ranges.y c.if-x-gt0.true c.if-y-gt0.false c.requires.0

pub overflow_add-result-then-x-gt0 : goal.overflow_add-result-then-x-gt0
overflow_add-result-then-x-gt0 c = let p = over c.ranges.x c.if-x-gt0.true in
    let l = less_fits c.args.x c.ranges.x p in
    rw (to_z-of_z c.ranges.x, to_z-of_z c.ranges.y, to_z-of_z l, to_z-of_z (rest_fits _ c.args.y l)) (over_more c.args.x c.args.y c.ranges.x p)

pub overflow_add-result-then-x-gt0-2 : goal.overflow_add-result-then-x-gt0-2
overflow_add-result-then-x-gt0-2 c = let p = over c.ranges.x c.if-x-gt0.true in
    let l = less_fits c.args.x c.ranges.x p in
    rw (to_z-of_z c.ranges.x, to_z-of_z c.ranges.y, to_z-of_z l, to_z-of_z (rest_fits _ c.args.y l), to_z-of_z (over_more c.args.x c.args.y c.ranges.x p), over_mod c.args.x c.args.y p (over c.ranges.y c.if-y-gt0.false) c.requires.0)
    (mod_fits c.args.x c.args.y c.ranges.y c.requires.0)

pub returns-then-x-gt0 : goal.returns-then-x-gt0
returns-then-x-gt0 c = let p = over c.ranges.x c.if-x-gt0.true in
    let l = less_fits c.args.x c.ranges.x p in
    to_z-of_z (overflow_add-result-then-x-gt0-2 c)
    ∙ rw (to_z-of_z c.ranges.x, to_z-of_z c.ranges.y, to_z-of_z l, to_z-of_z (rest_fits _ c.args.y l), to_z-of_z (over_more c.args.x c.args.y c.ranges.x p))
    (over_mod c.args.x c.args.y p (over c.ranges.y c.if-y-gt0.false) c.requires.0)

pub nonzero_rem-result-2 : goal.nonzero_rem-result-2
nonzero_rem-result-2 c = asks_same c.ranges.x c.ranges.y c.if-x-gt0.false c.if-y-gt0.false c.requires

pub returns : goal.returns
returns c = rw (to_z-of_z c.ranges.x, to_z-of_z c.ranges.y)
    (to_z-of_z (rest_fits c.args.x c.args.y c.ranges.x)
    ∙ same_mod c.args.x c.args.y (over c.ranges.x c.if-x-gt0.false) (over c.ranges.y c.if-y-gt0.false) c.requires.0)
