-- Rows of four bytes: what a turn of each loop over them adds, and where it ends. Assumes nothing.
--     word_at, word_after, cell_at_lem     the numbers of a row, from its first byte
--     kinds_all                        the test of all kinds
--     fill_go, fill_end                the loop that puts a column into slots, from the innermost frame out
use mathlib.Core.Path.{◌≡◌, refl, sym, ap, ◌∙◌}
use mathlib.Core.Bool.{Bool, true, false, cond, ◌&&◌}
use mathlib.Core.List.{List, [], ◌∷◌, ◌++◌, reverse, reverse-cons}
use Prim.Native.Nat.{ℕ, zero, suc, ◌+◌, ◌*◌, ◌-◌, ◌≤◌, ◌<◌}
use native.Mathlib.Nat.{add-zero}
use native.Mathlib.Omega.{arith}
use lib.Dec.{leb}
use lib.ListN.{length, get_or, set, drop, replicate, length-replicate, replicate-append-replicate}
use lib.Seq.{get_or-drop, drop-drop, set_at, append_snoc}
use Rattle.std.specs.List.{list_all, range_with_len}
use Rattle.codes.specs.Codes.{word16}
use Rattle.codes.specs.Numbers.{cell_at}
use Rattle.place.specs.Slots.{slots}
use Rattle.place.specs.Methods.{zeros}
use Rattle.session.specs.Reader.{kinds_ok}
use Rattle.session.specs.Answers.{column}

-- ---- the numbers of a row
module _ (s : List ℕ) (p : ℕ) where
  byte_at : get_or (drop p s) 0 0 ≡ get_or s p 0
  byte_at = get_or-drop p s 0 0 ∙ ap (λ (i : ℕ). get_or s i 0) (add-zero p)

  pub word_at : word16 (drop p s) 0 ≡ word16 s p
  word_at = rw (byte_at, get_or-drop p s 1 0)

  pub word_after : word16 (drop p s) 2 ≡ word16 s (p + 2)
  word_after = let e : p + 3 ≡ p + 2 + 1 = omega arith in rw (get_or-drop p s 2 0, get_or-drop p s 3 0, e)

  pub cell_at_lem : cell_at (drop p s) 0 ≡ cell_at s p
  cell_at_lem = rw (byte_at, get_or-drop p s 1 0, get_or-drop p s 2 0, get_or-drop p s 3 0)

both_are : (b x : Bool) → (b && x) ≡ cond b x false
both_are true x = refl
both_are false x = refl

-- ---- the kinds of n frames, the first of number a and at p
pub kinds_all : (s : List ℕ) (n a p : ℕ) → p ≡ 12 + 4 * a → list_all (λ i. leb (word16 s (12 + 4 * i)) 4) (range_with_len a n) ≡ kinds_ok n (drop p s)
unfolding kinds_ok
kinds_all s zero a p e = refl
kinds_all s (suc n) a p e =
    let d : p + 4 ≡ 12 + 4 * (a + 1) = omega arith in
    rw (kinds_all s n (a + 1) (p + 4) d, word_at s p, drop-drop 4 p s, e) (both_are (leb (word16 s (12 + 4 * a)) 4) _)

-- ---- the loop that fills slots, m of them left
unfoldable pub fill : ℕ → List ℕ → List ℕ → List ℕ
fill zero s acc = acc
fill (suc m) s acc = fill m (drop 4 s) (set acc m (word16 s 0))

pub length_column : (n : ℕ) (s : List ℕ) → length (column n s) ≡ n
unfolding column
length_column zero s = refl
length_column (suc n) s = ap suc (length_column n (drop 4 s))

fill_row : (m : ℕ) (s t : List ℕ) → fill m s (replicate m 0 ++ t) ≡ reverse (column m s) ++ t
unfolding fill column
fill_row zero s t = refl
fill_row (suc m) s t =
    ap (λ (l : List ℕ). fill m (drop 4 s) (set l m (word16 s 0))) (last ∙ append_snoc (replicate m 0) 0 t)
    ∙ ap (fill m (drop 4 s)) (set_at (replicate m 0) 0 t (word16 s 0) m (length-replicate m 0))
    ∙ fill_row m (drop 4 s) (word16 s 0 ∷ t)
    ∙ sym (ap (λ (l : List ℕ). l ++ t) (reverse-cons (word16 s 0) (column m (drop 4 s))) ∙ append_snoc (reverse (column m (drop 4 s))) (word16 s 0) t)
  where
    last : replicate (suc m) 0 ++ t ≡ replicate m 0 ++ (0 ∷ []) ++ t
    last = let e : m + 1 ≡ suc m = omega arith in ap (λ (l : List ℕ). l ++ t) (ap (λ (k : ℕ). replicate k 0) (sym e) ∙ sym (replicate-append-replicate m 1 0))

pub fill_slots : (n : ℕ) (s : List ℕ) → n ≤ 1104 → fill n s zeros ≡ slots (column n s)
unfolding zeros
fill_slots n s h =
    ap (fill n s) (let e : n + (1104 - n) ≡ 1104 = omega arith in ap (λ (k : ℕ). replicate k 0) (sym e) ∙ sym (replicate-append-replicate n (1104 - n) 0))
    ∙ fill_row n s (replicate (1104 - n) 0)
    ∙ ap (λ (k : ℕ). reverse (column n s) ++ replicate (1104 - k) 0) (sym (length_column n s))

one_fill : (m : ℕ) (s acc : List ℕ) → fill (suc m) s acc ≡ fill m (drop 4 s) (set acc m (word16 s 0))
unfolding fill
one_fill m s acc = refl

module _ (b acc goal : List ℕ) (n i p : ℕ) (e : goal ≡ fill (n - i) (drop p b) acc) where
  pub fill_go : i < n → (v q : ℕ) → v ≡ word16 b p → q ≡ p + 4 → goal ≡ fill (n - (i + 1)) (drop q b) (set acc (n - 1 - i) v)
  fill_go h v q x y =
      let k : n - i ≡ suc (n - (i + 1)) = omega arith in
      let j : n - 1 - i ≡ n - (i + 1) = omega arith in
      e ∙ ap (λ (m : ℕ). fill m (drop p b) acc) k ∙ one_fill (n - (i + 1)) (drop p b) acc ∙ rw (word_at b p, drop-drop 4 p b, ← x, y, j)

  pub fill_end : n ≤ i → acc ≡ goal
  unfolding fill
  fill_end h = let k : n - i ≡ 0 = omega arith in sym (e ∙ ap (λ (m : ℕ). fill m (drop p b) acc) k)
