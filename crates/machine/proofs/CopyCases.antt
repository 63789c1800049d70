-- What a run needs of the copies. Assumes nothing.
use Prim.Native.Nat.{ℕ, ◌-◌, ◌≤◌, min}
use mathlib.Core.Path.{◌≡◌}
use mathlib.Core.List.{List, ◌++◌}
use lib.ListN.{length, take, drop, replicate, length-append, length-drop, drop_of_length-le, length-replicate}
use native.Mathlib.Omega.{arith}
use Rattle.std.proofs.lemmas.List.{drop-replicate, drop_min, take_min, take_all, take_at, append-nil, length-take}
use Rattle.machine.specs.Copies.{filled, over}

module _ {A : Type 0} where
  -- laid over an array of nothing but z: a copy, with z behind
  pub filled_over : (n : ℕ) (s : List A) (z : A) → over s (replicate n z) ≡ filled n s z
  unfolding filled over
  filled_over n s z = rw (length-replicate n z, drop-replicate (length s) n z)

  pub over_is : (s d c : List A) (m : ℕ) → m ≡ min (length d) (length s) → c ≡ take m s → c ++ drop m d ≡ over s d
  unfolding over
  over_is s d c m e h =
      let t : m ≡ min (length s) (length d) = omega arith in
      let a : take m s ≡ take (length d) s = rw (e, take_min (length d) s) in
      let b : drop m d ≡ drop (length s) d = rw (t, drop_min (length s) d) in
      rw (h, a, b)

  -- what is not too long: itself, with the filling behind
  pub filled_short : (n : ℕ) (s : List A) (z : A) → length s ≤ n → filled n s z ≡ s ++ replicate (n - length s) z
  unfolding filled
  filled_short n s z h = rw (take_all n s h)

  pub length_filled : (n : ℕ) (s : List A) (z : A) → length (filled n s z) ≡ n
  unfolding filled
  length_filled n s z = omega (arith, length-append (take n s) (replicate (n - length s) z), length-take n s, length-replicate (n - length s) z)

  pub length_over : (s d : List A) → length (over s d) ≡ length d
  unfolding over
  length_over s d = omega (arith, length-append (take (length d) s) (drop (length s) d), length-take (length d) s, length-drop (length s) d)

  -- what is copied back is as much as there was
  pub over_same : (s zs d : List A) → length s ≡ length d → over (s ++ zs) d ≡ s
  unfolding over
  over_same s zs d e =
      let k : length d ≤ length (s ++ zs) = omega (arith, length-append s zs) in
      rw (take_at s zs (length d) e, drop_of_length-le d k) (append-nil s)
