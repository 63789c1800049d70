-- The loop that counts the cells: what is left of the arrays' lengths gives the count of all.
use mathlib.Core.Path.{◌≡◌, sym, ◌∙◌}
use mathlib.Core.List.{List}
use Prim.Native.Nat.{ℕ, suc, ◌+◌, ◌*◌, ◌-◌, ◌≤◌, ◌<◌}
use native.Mathlib.Nat.{add-zero, add_assoc}
use native.Mathlib.Omega.{arith}
use Rattle.records.specs.Records.{sum}
use Rattle.records.specs.Faults.{word}
use Rattle.records.specs.Reading.{shorts_at}
use Rattle.program.specs.Check.{cells_of}

module _ (f : List ℕ) (n : ℕ) where
  -- what is left, i of the n lengths being counted
  abbrev pub left : ℕ → ℕ
  left i = sum (shorts_at f (8 + 2 * i) (n - i))

  pub start : (t : ℕ) → n ≡ word f 6 → t ≡ word f 4 → cells_of f ≡ t + left 0
  unfolding cells_of
  start t e p =
      let z : n - 0 ≡ word f 6 = omega arith in
      rw (z, p)

  pub one_more : (i t x : ℕ) → i < n → x ≡ word f (8 + 2 * i) → cells_of f ≡ t + left i → cells_of f ≡ t + x + left (i + 1)
  unfolding sum shorts_at
  one_more i t x h e p =
      let z : n - i ≡ suc (n - (i + 1)) = omega arith in
      let a : 8 + 2 * i + 2 ≡ 8 + 2 * (i + 1) = omega arith in
      p ∙ rw (z, a, e, ← add_assoc)

  pub done : (i t : ℕ) → n ≤ i → cells_of f ≡ t + left i → t ≡ cells_of f
  unfolding sum shorts_at
  done i t h p =
      let z : n - i ≡ 0 = omega arith in
      sym (p ∙ rw (z, add-zero))
