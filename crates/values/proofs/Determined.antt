-- Any two outcomes that a public function's contract permits are equal. `Post` is the contract as src/lib.rt has it: arguments, answer, exit.
use Rattle.std.proofs.Common.{◌≡◌, ℕ, Option, ℤ, sym, ◌∙◌}
use Rattle.values.proofs.to_bits.Reads as to_bits
use Rattle.values.proofs.from_bits.Reads as from_bits
use Rattle.values.proofs.sum.Reads as sum
use Rattle.values.proofs.difference.Reads as difference
use Rattle.values.proofs.exclusive.Reads as exclusive
use Rattle.values.proofs.apply.Reads as apply

pub determined : {A : Type 0} {f r q : A} → r ≡ f → q ≡ f → r ≡ q
determined p k = p ∙ sym k

pub to_bits_determined : (x : ℤ) (r q : ℕ) (s t : _) → to_bits.Post tt (x, tt) r s → to_bits.Post tt (x, tt) q t → r ≡ q
to_bits_determined x r q s t = determined

pub from_bits_determined : (u : ℕ) (r q : ℤ) (s t : _) → from_bits.Post tt (u, tt) r s → from_bits.Post tt (u, tt) q t → r ≡ q
from_bits_determined u r q s t = determined

pub sum_determined : (x y r q : ℤ) (s t : _) → sum.Post tt (x, (y, tt)) r s → sum.Post tt (x, (y, tt)) q t → r ≡ q
sum_determined x y r q s t = determined

pub difference_determined : (x y r q : ℤ) (s t : _) → difference.Post tt (x, (y, tt)) r s → difference.Post tt (x, (y, tt)) q t → r ≡ q
difference_determined x y r q s t = determined

pub exclusive_determined : (x y r q : ℤ) (s t : _) → exclusive.Post tt (x, (y, tt)) r s → exclusive.Post tt (x, (y, tt)) q t → r ≡ q
exclusive_determined x y r q s t = determined

pub apply_determined : (op : ℕ) (x y : ℤ) (r q : Option ℤ) (s t : _) → apply.Post tt (op, (x, (y, tt))) r s → apply.Post tt (op, (x, (y, tt))) q t → r ≡ q
apply_determined op x y r q s t = determined
