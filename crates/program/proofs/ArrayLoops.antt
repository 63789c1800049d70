-- The loop that fills the table of the arrays: what is left to put gives the whole. Assumes nothing.
use Rattle.std.proofs.Common.{ℕ, suc, ◌+◌, ◌*◌, ◌-◌, ◌%◌, ◌≤◌, ◌<◌, ◌≢◌, ◌≡◌, refl, sym, ap, ◌∙◌, List, [], ◌∷◌, length, set, arith, add-one}
use Rattle.std.proofs.Math.ListN.{replicate}
use Rattle.std.proofs.lemmas.List.{set_comm}
use Rattle.std.proofs.lemmas.List.Edits.{sets}
use Rattle.records.specs.Faults.{word}
use Rattle.records.specs.Reading.{shorts_at}
use Rattle.records.proofs.Bytes.{length_shorts}
use Rattle.program.specs.Arrays.{array_count, starts_from, arrays_at}

length_starts : (n : ℕ) (ls : List ℕ) → length (starts_from n ls) ≡ length ls
unfolding starts_from
length_starts n [] = refl
length_starts n (l ∷ ls) = ap suc (length_starts (n + l) ls)

-- A store behind others may as well come first.
apart : (vs t : List ℕ) (k j x : ℕ) → k + length vs ≤ j → set (sets t k vs) j x ≡ sets (set t j x) k vs
apart [] t k j x h = refl
apart (v ∷ vs) t k j x h =
    let other : k ≢ j = omega arith in
    apart vs (set t k v) (suc k) j x (omega arith) ∙ ap (λ u. sets u (suc k) vs) (set_comm t k j v x other)

-- One array is put, its start and its length.
one_put : (t : List ℕ) (i a x : ℕ) (ss ls : List ℕ) → suc i + length ss ≤ 16 + i
    → sets (sets t i (a ∷ ss)) (16 + i) (x ∷ ls) ≡ sets (sets (set (set t i a) (16 + i) x) (i + 1) ss) (16 + (i + 1)) ls
one_put t i a x ss ls h =
    let z : suc (16 + i) ≡ 16 + (i + 1) = omega arith in
    ap (λ u. sets u (suc (16 + i)) ls) (apart ss (set t i a) (suc i) (16 + i) x h) ∙ rw (z, add-one i)

module _ (f : List ℕ) (n : ℕ) where
  -- the lengths that are left, i being put
  abbrev pub left : ℕ → List ℕ
  left i = shorts_at f (8 + 2 * i) (n - i)

  left_all : left 0 ≡ shorts_at f 8 n
  left_all = let z : n - 0 ≡ n = omega arith in rw z

  left_more : (i : ℕ) → i < n → left i ≡ word f (8 + 2 * i) ∷ left (i + 1)
  unfolding shorts_at
  left_more i h =
      let z : n - i ≡ suc (n - (i + 1)) = omega arith in
      let a : 8 + 2 * i + 2 ≡ 8 + 2 * (i + 1) = omega arith in
      rw (z, a)

  left_none : (i : ℕ) → n ≤ i → left i ≡ []
  unfolding shorts_at
  left_none i h = let z : n - i ≡ 0 = omega arith in rw z

  -- all put into the table t, the next start being s
  abbrev pub filled : List ℕ → ℕ → ℕ → List ℕ
  filled t s i = sets (sets t i (starts_from s (left i))) (16 + i) (left i)

  pub fill_first : (s : ℕ) → n ≡ array_count f → s ≡ word f 4 → arrays_at f ≡ filled (replicate 32 0) s 0
  unfolding arrays_at
  fill_first s e d = rw (left_all, e, d)

  module _ (t : List ℕ) (s i : ℕ) where
    pub fill_more : (x : ℕ) → n ≤ 16 → i < n → x ≡ word f (8 + 2 * i) → arrays_at f ≡ filled t s i
        → arrays_at f ≡ filled (set (set t i (s % 65536)) (16 + i) x) (s + x) (i + 1)
    unfolding starts_from
    fill_more x m h e p =
        let on = left (i + 1) in
        let room : suc i + length (starts_from (s + x) on) ≤ 16 + i = omega (arith, length_starts (s + x) on, length_shorts f (n - (i + 1)) (8 + 2 * (i + 1))) in
        p ∙ (rw (left_more i h, ← e) (one_put t i (s % 65536) x (starts_from (s + x) on) on room))

    pub fill_done : n ≤ i → arrays_at f ≡ filled t s i → t ≡ arrays_at f
    unfolding starts_from
    fill_done h p = sym (p ∙ rw (left_none i h))
