-- Names, and what proofs say of stores that agree at them; the two ways on of an evaluation by name.
-- Nothing here has to be believed: the names of a tree are told by Tree's `any_name`.
use Rattle.std.specs.Prelude.{ℕ, ◌+◌, ◌<◌, ◌≡◌, List, Bool, false, eqb, ℤ, pos, get_or}
use Rattle.values.specs.Values.{apply_op}
use Rattle.expr.specs.Tree.{Expr, Arrays, Worth, worth_of, and_then, element, any_name}
pub use Rattle.expr.specs.declared.Name.{Name}
pub use Rattle.expr.specs.declared.Name.TheVariants.{Scalar, Array}

-- both sides, left first
abbrev pub both : ℕ → Worth → Worth → Worth
both o l r = and_then l (λ x. and_then r (λ y. worth_of (apply_op o x y)))

-- an array at its index
abbrev pub indexed : Arrays → List ℤ → ℕ → Worth → Worth
indexed arrays cells a w = and_then w (element arrays cells a)

-- a name is a scalar or an array, by its number. Scalar 0 and array 0 are two names.
abbrev pub is_scalar : Name → ℕ → Bool
is_scalar (Scalar n) x = eqb x n
is_scalar (Array n) x = false

abbrev pub is_array : Name → ℕ → Bool
is_array (Scalar n) a = false
is_array (Array n) a = eqb a n

-- the name stands somewhere in the tree
unfoldable pub occurs : Name → Expr → Bool
occurs n e = any_name (is_scalar n) (is_array n) e

-- the name is one of so many scalars and arrays
abbrev pub There : ℕ → ℕ → Name → Type 0
There scalars arrays (Scalar x) = x < scalars
There scalars arrays (Array a) = a < arrays

-- two stores are the same at the cells of a name: those of an array are the ones that an index can reach
abbrev pub Same : Name → Arrays → List ℤ → List ℤ → Type 0
Same (Scalar x) arrays σ τ = get_or σ x (pos 0) ≡ get_or τ x (pos 0)
Same (Array a) arrays σ τ = (i : ℕ) → i < get_or arrays.lengths a 0 → get_or σ (get_or arrays.starts a 0 + i) (pos 0) ≡ get_or τ (get_or arrays.starts a 0 + i) (pos 0)

-- a cell that is none of the name's
abbrev pub Apart : Name → Arrays → ℕ → Type 0
Apart (Scalar x) arrays cell = x ≡ cell → ⊥
Apart (Array a) arrays cell = (i : ℕ) → i < get_or arrays.lengths a 0 → get_or arrays.starts a 0 + i ≡ cell → ⊥
