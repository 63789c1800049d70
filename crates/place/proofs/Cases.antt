-- What the methods answer, case by case, over plain numbers and lists. Assumes nothing.
use mathlib.Core.Path.{◌≡◌}
use mathlib.Core.Bool.{true, false}
use mathlib.Core.List.{List}
use Prim.Native.Nat.{ℕ, ◌+◌, ◌-◌, ◌≤◌, ◌<◌}
use native.Mathlib.Omega.{arith}
use lib.ListN.{get_or, set}
use borrow.Author.Tests.{le-leb, lt-leb, eq-eqb, ne_eqb}
use Rattle.place.specs.declared.Place.{Place as Held}
use Rattle.place.specs.Methods.{some, with_frames, pushed_of, popped_of, changed_of, top_at}

-- ---- whether there is an innermost frame
pub some_none : (n : ℕ) → n ≡ 0 → some n ≡ false
unfolding some
some_none n h = rw (eq-eqb n 0 h)

pub some_over : (n : ℕ) → 1104 < n → some n ≡ false
unfolding some
some_over n h = let z : n ≡ 0 → ⊥ = λ e. omega arith in rw (ne_eqb n 0 z, lt-leb n 1104 h)

pub some_here : (n : ℕ) → (n ≡ 0 → ⊥) → n ≤ 1104 → some n ≡ true
unfolding some
some_here n z h = rw (ne_eqb n 0 z, le-leb n 1104 h)

-- ---- the methods
module _ (h : Held) where
  pub pushed_room : (k l : ℕ) → h.count < 1104 → with_frames h (h.count + 1) (set h.kinds h.count k) (set h.labels h.count l) ≡ pushed_of h k l
  unfolding pushed_of
  pushed_room k l r = rw (lt-leb 1104 h.count r)

  module _ (z : h.count ≡ 0 → ⊥) (r : h.count ≤ 1104) where
    pub changed_here : (k : ℕ) → with_frames h h.count (set h.kinds (h.count - 1) k) h.labels ≡ changed_of h k
    unfolding changed_of
    changed_here k = rw (some_here h.count z r)

    pub popped_here : with_frames h (h.count - 1) (set h.kinds (h.count - 1) 0) (set h.labels (h.count - 1) 0) ≡ popped_of h
    unfolding popped_of
    popped_here = rw (some_here h.count z r)

module _ (s : List ℕ) (n none : ℕ) where
  pub top_none : n ≡ 0 → none ≡ top_at s n none
  unfolding top_at
  top_none z = rw (some_none n z)

  pub top_here : (n ≡ 0 → ⊥) → n ≤ 1104 → get_or s (n - 1) 0 ≡ top_at s n none
  unfolding top_at
  top_here z r = rw (some_here n z r)
