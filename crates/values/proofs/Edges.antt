-- The edges that document 01, 'Values', names, as one table. Its starred lines stand in program/proofs/Starred.
use Rattle.std.proofs.Common.{◌≡◌, ℕ, [], ◌∷◌, ℤ, pos, neg_ℤ, refl}
use Rattle.values.specs.Values.{is, zero_divisor, apply_op, wrap, floor_div, floor_mod}

abbrev - : ℕ → ℤ
- n = neg_ℤ (pos n)

-- -2147483648 / -1, -2147483648 % -1, 1 / 0, 1 % 0
pub edges :
    apply_op 4 (- 2147483648) (- 1)
    ∷ apply_op 5 (- 2147483648) (- 1)
    ∷ apply_op 4 (pos 1) (pos 0)
    ∷ apply_op 5 (pos 1) (pos 0)
    ∷ []
    ≡ is (- 2147483648)
    ∷ is (pos 0)
    ∷ zero_divisor
    ∷ zero_divisor
    ∷ []
unfolding apply_op wrap floor_div floor_mod
edges = refl
