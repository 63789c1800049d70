-- The table of the arrays of an accepted file holds where each array of the tree starts and how long it is, and zeros beyond.
use mathlib.Core.Path.{◌≡◌, refl, sym, ap, ◌∙◌}
use mathlib.Core.List.{List, [], ◌∷◌, ◌++◌, append_assoc}
use Prim.Native.Nat.{ℕ, zero, suc, ◌+◌, ◌-◌, ◌%◌, ◌≤◌, min}
use native.Mathlib.Omega.{arith}
use lib.ListN.{length, get_or, take, drop, replicate, length-append, length-replicate, replicate-append-replicate}
use lib.Seq.{sets, sets-eq, take_at, drop_at, drop-drop}
use Rattle.records.specs.Records.{sum}
use Rattle.order.specs.Trees.{Tree, records_of}
use Rattle.program.specs.Says.{Accepts}
use Rattle.program.specs.Arrays.{starts_from, arrays_at}
use Rattle.program.proofs.Declared.{Declares, declares}

-- the exact starts, with no bound on the numbers
unfoldable pub starting : ℕ → List ℕ → List ℕ
starting n [] = []
starting n (l ∷ ls) = n ∷ starting (n + l) ls

starts_small : (n : ℕ) (ls : List ℕ) → n + sum ls ≤ 2048 → starts_from n ls ≡ starting n ls
unfolding starts_from starting sum
starts_small n [] h = refl
starts_small n (l ∷ ls) h =
    let e : n % 65536 ≡ n = omega arith in
    rw (e, starts_small (n + l) ls (omega arith))

abbrev zeroes : ℕ → List ℕ
zeroes n = replicate n 0

-- ---- the list that the two runs of stores leave
drop_zeroes : (k n : ℕ) → k ≤ n → drop k (zeroes n) ≡ zeroes (n - k)
drop_zeroes zero n h = let z : n - 0 ≡ n = omega arith in rw z
drop_zeroes (suc k) zero h = absurd (omega arith)
drop_zeroes (suc k) (suc n) h =
    let z : suc n - suc k ≡ n - k = omega arith in
    rw z (drop_zeroes k n (omega arith))

abbrev padded : List ℕ → List ℕ
padded xs = xs ++ zeroes (16 - length xs)

module _ (xs ls : List ℕ) (e : length xs ≡ length ls) (h : length ls ≤ 16) where
  length_padded : length (padded xs) ≡ 16
  length_padded = omega (arith, length-append xs (zeroes (16 - length xs)), length-replicate {A = ℕ} (16 - length xs) 0)

  first_is : sets (zeroes 32) 0 xs ≡ padded xs ++ zeroes 16
  first_is =
      let n : 0 + length xs ≡ length xs = omega arith in
      let s : 16 - length xs + 16 ≡ 32 - length xs = omega arith in
      let l = length-replicate {A = ℕ} 32 0 in
      sets-eq xs (zeroes 32) 0 (omega arith)
      ∙ rw (n, drop_zeroes (length xs) 32 (omega arith), ← s, ← replicate-append-replicate {A = ℕ} (16 - length xs) 16 0, append_assoc xs)

  rest_is : drop (16 + length ls) (padded xs ++ zeroes 16) ≡ zeroes (16 - length ls)
  rest_is =
      sym (drop-drop (length ls) 16 (padded xs ++ zeroes 16))
      ∙ rw (drop_at (padded xs) (zeroes 16) 16 length_padded, drop_zeroes (length ls) 16 h)

  table_is : sets (sets (zeroes 32) 0 xs) 16 ls ≡ padded xs ++ padded ls
  table_is =
      let l = length-append (padded xs) (zeroes 16) in
      let m = length_padded in
      let r = length-replicate {A = ℕ} 16 0 in
      rw first_is (sets-eq ls (padded xs ++ zeroes 16) 16 (omega arith)
      ∙ rw (take_at (padded xs) (zeroes 16) 16 length_padded, rest_is, append_assoc (padded xs)))

  starts_part : take 16 (sets (sets (zeroes 32) 0 xs) 16 ls) ≡ padded xs
  starts_part = rw table_is (take_at (padded xs) (padded ls) 16 length_padded)

  lengths_part : drop 16 (sets (sets (zeroes 32) 0 xs) 16 ls) ≡ padded ls
  lengths_part = rw table_is (drop_at (padded xs) (padded ls) 16 length_padded)

zero_at : (n a : ℕ) → get_or (zeroes n) a 0 ≡ get_or {A = ℕ} [] a 0
zero_at zero a = refl
zero_at (suc n) zero = refl
zero_at (suc n) (suc a) = zero_at n a

padded_at : (xs : List ℕ) (n a : ℕ) → get_or (xs ++ zeroes n) a 0 ≡ get_or xs a 0
padded_at [] n a = zero_at n a
padded_at (x ∷ xs) n zero = refl
padded_at (x ∷ xs) n (suc a) = padded_at xs n a

length_starting : (n : ℕ) (ls : List ℕ) → length (starting n ls) ≡ length ls
unfolding starting
length_starting n [] = refl
length_starting n (l ∷ ls) = ap suc (length_starting (n + l) ls)

-- ---- an accepted file
module _ (f : List ℕ) (t : Tree) (A : Accepts f t) where
  D : Declares f t
  D = declares f (records_of t) A.rows t A.ordered

  few : length t.lengths ≤ 16
  few = (D.sized.cells _ _ refl).1.0

  fits : t.scalars + sum t.lengths ≤ 2048
  fits = (D.sized.cells _ _ refl).1.1.1

  arrays_are : arrays_at f ≡ sets (sets (zeroes 32) 0 (starting t.scalars t.lengths)) 16 t.lengths
  unfolding arrays_at
  arrays_are =
      let k : min 16 (length t.lengths) ≡ length t.lengths = omega (arith, few) in
      rw (D.arrays_are, k, D.lengths_are, D.scalars_are, starts_small t.scalars t.lengths fits)

  -- "scalars in order, then arrays in order"
  pub arrays_start : (a : ℕ) → get_or (take 16 (arrays_at f)) a 0 ≡ get_or (starting t.scalars t.lengths) a 0
  arrays_start a =
      rw (arrays_are, starts_part (starting t.scalars t.lengths) t.lengths (length_starting t.scalars t.lengths) few)
      (padded_at (starting t.scalars t.lengths) (16 - length (starting t.scalars t.lengths)) a)

  pub arrays_length : (a : ℕ) → get_or (drop 16 (arrays_at f)) a 0 ≡ get_or t.lengths a 0
  arrays_length a =
      rw (arrays_are, lengths_part (starting t.scalars t.lengths) t.lengths (length_starting t.scalars t.lengths) few)
      (padded_at t.lengths (16 - length t.lengths) a)
