-- What the functions of `codes` answer, case by case, over plain numbers and lists. Assumes nothing.
use mathlib.Core.Path.{◌≡◌, sym, ap, ◌∙◌}
use mathlib.Core.List.{List, [], ◌∷◌, ◌++◌, append_assoc}
use Prim.Native.Nat.{ℕ, suc, ◌+◌, ◌-◌, ◌≤◌, ◌<◌}
use native.Mathlib.Nat.{add-zero}
use native.Mathlib.Omega.{arith}
use borrow.Author.Tests.{le-leb, lt-leb}
use borrow.Rule.Slice.PartMut.{put_mid}
use lib.ListN.{length, take, drop, set}
use lib.Seq.{sets, sets-eq, drop-drop}
use Rattle.codes.specs.Numbers.{written}

-- ---- writing: a slice with a part written is the run of stores, and where it does not fit there is none
pub written_in : (s : List ℕ) (at : ℕ) (b : List ℕ) → at + length b ≤ length s → written s at b ≡ sets s at b
unfolding written
written_in s at b h = rw (le-leb (at + length b) (length s) h)

pub written_out : (s : List ℕ) (at : ℕ) (b : List ℕ) → length s < at + length b → written s at b ≡ s
unfolding written
written_out s at b h = rw (lt-leb (at + length b) (length s) h)

module _ (s : List ℕ) (at : ℕ) (b : List ℕ) where
  pub put_in : (part : List ℕ) → at + length b ≤ length s → part ≡ b → put_mid at (at + length b - at) s part ≡ written s at b
  put_in part h e =
      let k : at + length b - at ≡ length b = omega arith in
      rw (e, k, written_in s at b (omega arith), sets-eq b s at (omega arith), drop-drop (length b) at s) (sym (append_assoc (take at s) b (drop (at + length b) s)))

  pub put_out : length s < at + length b → s ≡ written s at b
  put_out h = sym (written_out s at b h)

pub ruleset putting = (put_in, put_out)

-- a run of stores, and then another from where it ended
pub sets_append : {A : Type 0} (l : List A) (i : ℕ) (xs ys : List A) → sets l i (xs ++ ys) ≡ sets (sets l i xs) (i + length xs) ys
sets_append l i [] ys = ap (λ (k : ℕ). sets l k ys) (sym (add-zero i))
sets_append l i (x ∷ xs) ys =
    let e : suc i + length xs ≡ i + suc (length xs) = omega arith in
    sets_append (set l i x) (suc i) xs ys ∙ ap (λ (k : ℕ). sets (sets (set l i x) (suc i) xs) k ys) e
