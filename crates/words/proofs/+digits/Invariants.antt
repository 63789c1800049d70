-- `words::digits` ends: the measure is the number of digits still allowed.
use Rattle.words.proofs.+digits.Given as goal

abbrev pub decreases-digits : goal.decreases-digits
decreases-digits l = l.left
