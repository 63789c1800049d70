-- The copies that a run works on, of a file and of a store, and the cells written back. Nothing here has to be believed: proofs/CopyCases has what a run needs of them.
use Rattle.std.specs.Prelude.{ℕ, ◌-◌, List, ◌++◌, length, take, drop, replicate}

-- The first n elements of a list, with z behind: under a name that stays shut, so that no goal counts them one by one.
unfoldable pub filled : {A : Type 0} → ℕ → List A → A → List A
filled n s z = take n s ++ replicate (n - length s) z

-- The first list laid over the second, as far as both go.
unfoldable pub over : {A : Type 0} → List A → List A → List A
over s d = take (length d) s ++ drop (length s) d
