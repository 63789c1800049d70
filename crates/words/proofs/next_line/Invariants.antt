-- `words::next_line` meets its contract: the next line is the same from every byte of a line. Assumes nothing.
use mathlib.Core.Path.{◌≡◌}
use Rattle.words.specs.Words.{next_line}
use Rattle.words.proofs.next_line.Given as goal

abbrev pub invariant-loop-i : goal.invariant-loop-i
invariant-loop-i l = next_line l.s l.at ≡ next_line l.s l.i
