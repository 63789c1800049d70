-- The first of many zeros are zeros.
use Prim.Native.Nat.{ℕ, zero, suc, ◌≤◌}
use mathlib.Core.Path.{◌≡◌, refl, ap}
use mathlib.Core.List.{◌∷◌}
use native.Mathlib.Omega.{arith}
use lib.IntN.{pos}
use lib.ListN.{take, replicate}
use Rattle.words.specs.Zeros.{copies}
use Rattle.print.specs.Zeros.{noughts}

first_zeros : (n m : ℕ) → n ≤ m → take n (replicate m (pos 0)) ≡ replicate n (pos 0)
first_zeros zero m h = refl
first_zeros (suc n) zero h = absurd (omega arith)
first_zeros (suc n) (suc m) h = ap (◌∷◌ (pos 0)) (first_zeros n m (omega arith))

pub zeros : (n m : ℕ) → n ≤ m → take n (noughts m) ≡ noughts n
unfolding copies
zeros n m h = first_zeros n m h
