-- The number that a move's end is printed as.
use Rattle.std.specs.Prelude.{ℕ, Result, Ok, Err}
use Rattle.refusals.specs.Numbers.{number_of}
use Rattle.refusals.specs.declared.Refusal.{Refusal}

-- 0 where nothing is refused.
abbrev pub reason_of : Result Unit Refusal → ℕ
reason_of (Ok _) = 0
reason_of (Err r) = number_of r.reason
