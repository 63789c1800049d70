-- `check_speed::recheck` is safe: at most as many answers are accepted as there were turns. Assumes nothing.
use Rattle.std.proofs.Common.{◌≤◌}
use Rattle.check_speed.proofs.recheck.Given as goal

abbrev pub invariant-loop-turn : goal.invariant-loop-turn
invariant-loop-turn g l = l.accepted ≤ l.turn
