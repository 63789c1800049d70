-- What contracts and proofs say besides Values: the low bits, and the answer of the code. Nothing here has to be believed:
-- proofs/Laws `given_only` tells the answer from it.
use Rattle.std.specs.Prelude.{ℕ, ◌^◌, Option, None, Some, ℤ, FitsSigned}
use Rattle.std.specs.Int.{w32}
use Rattle.values.specs.Values.{Value, is, zero_divisor, mod_by}

-- The low 32 bits.
abbrev pub low32 : ℤ → ℕ
low32 z = mod_by z (2 ^ 32)

-- The value, or nothing by a zero divisor.
abbrev pub given : Value → Option ℤ
given (is v) = Some v
given zero_divisor = None

-- The value is an i32; a zero divisor holds none.
abbrev pub InRange : Value → Type 0
InRange (is v) = FitsSigned w32 v
InRange zero_divisor = Unit {0}
