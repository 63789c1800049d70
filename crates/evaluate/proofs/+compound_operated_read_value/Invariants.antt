-- `value` at depth d calls `compound` at d, that `read` and `operated` at d - 1, and they `value` at their own d: the measures are 3d + 1,
-- 3d, and 3d + 2 for the two.
use Rattle.std.proofs.Common.{◌+◌, ◌*◌}
use Rattle.evaluate.proofs.+compound_operated_read_value.Given as goal

abbrev pub decreases-compound : goal.decreases-compound
decreases-compound l = 3 * l.depth

abbrev pub decreases-operated : goal.decreases-operated
decreases-operated l = 3 * l.depth + 2

abbrev pub decreases-read : goal.decreases-read
decreases-read l = 3 * l.depth + 2

abbrev pub decreases-value : goal.decreases-value
decreases-value l = 3 * l.depth + 1
