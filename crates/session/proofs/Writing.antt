-- Bytes written one after the other, and the loops that write frames and cells. Assumes nothing.
--     on                     a run of stores, and then another from where it ended
--     pair, headed           two numbers; what stands before the frames
--     frames_go, frames_end  the loop over the frames, the innermost first
--     cells_go, cells_end    the loop over the cells
--     copy_go, copy_end      the loop that reads them back
use mathlib.Core.Path.{◌≡◌, refl, sym, ap, ◌∙◌}
use mathlib.Core.List.{List, ◌∷◌, ◌++◌, flat_map}
use Prim.Native.Nat.{ℕ, suc, ◌+◌, ◌*◌, ◌-◌, ◌/◌, ◌%◌, ◌≤◌, ◌<◌}
use native.Mathlib.Numerals.{add-one}
use native.Mathlib.Omega.{arith}
use lib.IntN.{ℤ, pos}
use lib.ListN.{length, get_or, set, drop, drop_of_length-le}
use lib.Seq.{sets, length-sets, drop-cons, drop-drop}
use Rattle.codes.specs.Codes.{bytes16, cell_bytes}
use Rattle.codes.specs.Numbers.{cell_at, written}
use Rattle.codes.proofs.Cases.{written_in, sets_append}
use Rattle.codes.proofs.Rows.{length_written}
use Rattle.session.specs.Parts.{encode_head, encode_cells}
use Rattle.session.specs.Reader.{cells_from}
use Rattle.session.specs.Answers.{slot_bytes}
use Rattle.session.proofs.Rows.{cell_at_lem}

-- ---- runs of stores
pub on : {A : Type 0} (l m n : List A) (at k : ℕ) (xs ys : List A) → k ≡ at + length xs → m ≡ sets l at xs → n ≡ sets m k ys → n ≡ sets l at (xs ++ ys)
on l m n at k xs ys e p q = q ∙ (λ i. sets (p i) (e i) ys) ∙ sym (sets_append l at xs ys)

pub kept : {A : Type 0} (l m : List A) (at : ℕ) (xs : List A) → m ≡ sets l at xs → length m ≡ length l
kept l m at xs e = ap length e ∙ length-sets l at xs

pub kept_written : (l m : List ℕ) (at : ℕ) (b : List ℕ) → m ≡ written l at b → length m ≡ length l
kept_written l m at b e = ap length e ∙ length_written l at b

pub pair : (l m n : List ℕ) (at x y : ℕ) → at + 4 ≤ length l → m ≡ written l at (bytes16 x) → n ≡ written m (at + 2) (bytes16 y) → n ≡ sets l at (bytes16 x ++ bytes16 y)
pair l m n at x y h p q =
    let e : length m ≡ length l = kept_written l m at (bytes16 x) p in
    on l m n at (at + 2) (bytes16 x) (bytes16 y) refl (p ∙ written_in l at (bytes16 x) (omega arith)) (q ∙ written_in m (at + 2) (bytes16 y) (omega arith))

-- three pairs; a direction is a byte, and the spare byte is the 0 above it
pub headed : (l m n o : List ℕ) (d x a b k : ℕ) → d < 256 → x ≡ d → m ≡ sets l 0 (bytes16 (12 + 4 * k) ++ bytes16 32) → n ≡ sets m 4 (bytes16 x ++ bytes16 a)
    → o ≡ sets n 8 (bytes16 b ++ bytes16 k) → o ≡ sets l 0 (encode_head d a b k)
headed l m n o d x a b k h e p q r =
    let low : d % 256 ≡ d = omega arith in
    let high : d / 256 % 256 ≡ 0 = omega arith in
    on l n o 0 8 (bytes16 (12 + 4 * k) ++ bytes16 32 ++ (bytes16 d ++ bytes16 a)) (bytes16 b ++ bytes16 k) refl
    (on l m n 0 4 (bytes16 (12 + 4 * k) ++ bytes16 32) (bytes16 d ++ bytes16 a) refl p (q ∙ rw e)) r
    ∙ rw (low, high)

-- ---- the loop over the frames, n - i of them left from p
one_frame : (i : ℕ) (ks ls : List ℕ) → slot_bytes (suc i) ks ls ≡ bytes16 (get_or ks i 0) ++ bytes16 (get_or ls i 0) ++ slot_bytes i ks ls
unfolding slot_bytes
one_frame i ks ls = refl

module _ (ks ls goal l : List ℕ) (n i p : ℕ) (e : goal ≡ sets l p (slot_bytes (n - i) ks ls)) where
  pub frames_go : i < n → (m : List ℕ) (q : ℕ) → m ≡ sets l p (bytes16 (get_or ks (n - 1 - i) 0) ++ bytes16 (get_or ls (n - 1 - i) 0)) → q ≡ p + 4
      → goal ≡ sets m q (slot_bytes (n - (i + 1)) ks ls)
  frames_go h m q x y =
      let k : n - i ≡ suc (n - 1 - i) = omega arith in
      let j : n - (i + 1) ≡ n - 1 - i = omega arith in
      e ∙ ap (λ (m : ℕ). sets l p (slot_bytes m ks ls)) k ∙ ap (sets l p) (one_frame (n - 1 - i) ks ls)
      ∙ sets_append l p (bytes16 (get_or ks (n - 1 - i) 0) ++ bytes16 (get_or ls (n - 1 - i) 0)) (slot_bytes (n - 1 - i) ks ls) ∙ rw (← x, y, j)

  pub frames_end : n ≤ i → l ≡ goal
  unfolding slot_bytes
  frames_end h = let k : n - i ≡ 0 = omega arith in sym (e ∙ ap (λ (m : ℕ). sets l p (slot_bytes m ks ls)) k)

-- ---- the loop over the cells, from i on
one_cell : (z : ℤ) (zs : List ℤ) → encode_cells (z ∷ zs) ≡ cell_bytes z ++ encode_cells zs
unfolding flat_map
one_cell z zs = refl

module _ (zs : List ℤ) (goal l : List ℕ) (i p : ℕ) (e : goal ≡ sets l p (encode_cells (drop i zs))) where
  pub cells_go : i < length zs → p + 4 ≤ length l → (z : ℤ) → z ≡ get_or zs i (pos 0) → (m : List ℕ) (q : ℕ) → m ≡ written l p (cell_bytes z) → q ≡ p + 4 → goal ≡ sets m q (encode_cells (drop (i + 1) zs))
  cells_go h r z f m q x y =
      e ∙ ap (λ (q : List ℤ). sets l p (encode_cells q)) (drop-cons zs i (pos 0) h ∙ ap (λ (j : ℕ). get_or zs i (pos 0) ∷ drop j zs) (sym (add-one i)))
      ∙ ap (sets l p) (one_cell (get_or zs i (pos 0)) (drop (i + 1) zs)) ∙ sets_append l p (cell_bytes (get_or zs i (pos 0))) (encode_cells (drop (i + 1) zs))
      ∙ rw (← f, x, written_in l p (cell_bytes z) r, y)

  pub cells_end : length zs ≤ i → l ≡ goal
  unfolding flat_map
  cells_end h = sym (e ∙ ap (λ (q : List ℤ). sets l p (encode_cells q)) (drop_of_length-le zs h))

-- ---- the loop that reads cells, n - i of them left from p
one_read : (b : List ℕ) (p m : ℕ) → cells_from (suc m) (drop p b) ≡ cell_at b p ∷ cells_from m (drop (p + 4) b)
unfolding cells_from
one_read b p m = rw (cell_at_lem b p, drop-drop 4 p b)

module _ (b : List ℕ) (goal st : List ℤ) (n i p : ℕ) (e : goal ≡ sets st i (cells_from (n - i) (drop p b))) where
  pub copy_go : i < n → (z : ℤ) (q : ℕ) → z ≡ cell_at b p → q ≡ p + 4 → goal ≡ sets (set st i z) (i + 1) (cells_from (n - (i + 1)) (drop q b))
  copy_go h z q x y =
      let k : n - i ≡ suc (n - (i + 1)) = omega arith in
      e ∙ ap (λ (m : ℕ). sets st i (cells_from m (drop p b))) k ∙ ap (sets st i) (one_read b p (n - (i + 1)))
      ∙ rw (add-one i, ← x, y)

  pub copy_end : n ≤ i → st ≡ goal
  unfolding cells_from
  copy_end h = let k : n - i ≡ 0 = omega arith in sym (e ∙ ap (λ (m : ℕ). sets st i (cells_from m (drop p b))) k)
