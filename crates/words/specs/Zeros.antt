-- Arrays that are made full of one value. The list stays shut, so that no goal counts its elements one by one.
use Rattle.std.specs.Prelude.{ℕ, ◌+◌, ◌≡◌, List, length, replicate}

unfoldable pub copies : {A : Type 0} → ℕ → A → List A
copies n x = replicate n x

-- r is n times x, and so long.
pub record Filled {A : Type 0} (x : A) (n : ℕ) (r : List A) : Type 0 where
  pub all : r ≡ copies n x
  pub size : n ≡ length r
