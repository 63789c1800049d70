-- `words::read_digits` meets its contract: what is read from `at` on is what is read from i on, after the digits so far. Assumes nothing.
use mathlib.Core.Path.{◌≡◌}
use Prim.Native.Nat.{◌+◌, ◌≤◌}
use lib.ListN.{drop}
use Rattle.words.specs.Words.{digit_count, digit_value, limit}
use Rattle.words.proofs.read_digits.Given as goal

abbrev pub invariant-loop-i : goal.invariant-loop-i
invariant-loop-i l = record {
  next : l.n.next ≡ l.i;
  count : l.at + digit_count (drop l.at l.s) ≡ l.i + digit_count (drop l.i l.s);
  value : digit_value 0 (drop l.at l.s) ≡ digit_value l.n.value (drop l.i l.s);
  within_limit : l.n.value ≤ limit;
}
