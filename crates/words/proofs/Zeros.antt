-- An array that is made full of one value is so long: by a law, since counting would take long.
use Prim.Native.Nat.{ℕ}
use mathlib.Core.Path.{◌≡◌, sym, ap, ◌∙◌}
use mathlib.Core.List.{List}
use lib.ListN.{length, length-replicate}
use Rattle.words.specs.Zeros.{copies, Filled}

pub length_copies : {A : Type 0} (n : ℕ) (x : A) → length (copies n x) ≡ n
unfolding copies
length_copies n x = length-replicate n x

pub filled : {A : Type 0} (x : A) (n : ℕ) (r : List A) → r ≡ copies n x → Filled x n r
filled x n r e = record { all = e; size = sym (ap length e ∙ length_copies n x) }
