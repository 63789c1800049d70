-- The numbers of a command line: what fits is what the definitions take.
use Prim.Native.Nat.{ℕ, ◌<◌}
use mathlib.Core.Path.{◌≡◌, ap}
use mathlib.Core.Bool.{Bool, true, false, cond, not, ◌&&◌}
use native.Mathlib.Omega.{arith}
use lib.Dec.{leb}
use lib.IntN.{ℤ, pos, negsuc}
use mir.Syntax.{w32}
use mir.Val.{SFits}
use borrow.Author.Tests.{le-leb, lt-leb, le-ltb, lt-ltb}
use Rattle.std.specs.Result.{result_ok, OkIff}
use Rattle.std.specs.Prelude.{Option, Some, None, Result, Ok, Err}
use Rattle.bench.specs.Numbers.{narrowed}

pub fits_natural : {E : Type 0} (r : Result ℕ E) (v : ℕ) → OkIff r (v < 4294967296) v → result_ok r ≡ cond (leb v 4294967295) (Some v) None
fits_natural (Ok x) v h = rw (le-leb v 4294967295 (omega (arith, h.0))) (ap Some h.1)
fits_natural (Err e) v h = rw (lt-leb v 4294967295 (omega (arith, h)))

outside : (n : ℕ) → (n < 2147483648 → ⊥) → 2147483647 < n
outside n h = omega (arith, h)

pub fits_integer : {E : Type 0} (r : Result ℤ E) (z : ℤ) → OkIff r (SFits w32 z) z → result_ok r ≡ narrowed z
unfolding narrowed
fits_integer (Ok x) (pos n) h = rw (le-ltb 2147483647 n (omega (arith, h.0))) (ap Some h.1)
fits_integer (Ok x) (negsuc n) h = rw (le-ltb 2147483647 n (omega (arith, h.0))) (ap Some h.1)
fits_integer (Err e) (pos n) h = rw (lt-ltb 2147483647 n (outside n (λ k. h (omega arith))))
fits_integer (Err e) (negsuc n) h = rw (lt-ltb 2147483647 n (outside n (λ k. h (omega arith))))
