-- Numbers in a row of bytes. Assumes nothing.
--     short_bytes, cell_bytes_lem    the bytes that stand where a number is read are that number's
--     short_back, cell_back      where a number's bytes stand, that number is read
use mathlib.Core.Path.{◌≡◌, refl, sym, ap, ◌∙◌}
use mathlib.Core.List.{List, ◌∷◌, ◌++◌}
use Prim.Native.Nat.{ℕ, suc, ◌+◌, ◌^◌, ◌≤◌, ◌<◌}
use native.Mathlib.Nat.{add-zero}
use native.Mathlib.Numerals.{add-one}
use native.Mathlib.Omega.{arith}
use mathlib.Core.Bool.{Bool, true, false, cond}
use lib.Dec.{leb}
use lib.IntN.{ℤ}
use lib.ListN.{length, get_or, drop}
use lib.Seq.{sets, length-sets, drop-cons, get_or-drop}
use mir.Syntax.{w32}
use mir.Val.{SFits, of_z, to_z}
use mir.Facts.{to_z-of_z, of_z-to_z, sfits_to_z, Fits-of_z}
use Rattle.codes.specs.Codes.{bytes16, cell_bytes, word16, AllBytes}
use Rattle.codes.specs.Numbers.{bytes32, word32, cell_at, written}
use Rattle.codes.proofs.Digits.{number16, number32, digits16, digits32}

-- ---- the bytes at a position, one by one
module _ (s : List ℕ) (at : ℕ) where
  pub one_byte : at < length s → drop at s ≡ get_or s at 0 ∷ drop (at + 1) s
  one_byte h = rw (drop-cons s at 0 h, add-one)

  next_byte : (k : ℕ) → at + k < length s → drop (at + k) s ≡ get_or s (at + k) 0 ∷ drop (at + (k + 1)) s
  next_byte k h = let e : suc (at + k) ≡ at + (k + 1) = omega arith in rw (drop-cons s (at + k) 0 h, e)

  pub two_bytes : at + 2 ≤ length s → drop at s ≡ get_or s at 0 ∷ get_or s (at + 1) 0 ∷ drop (at + 2) s
  two_bytes h = rw (one_byte (omega arith), next_byte 1 (omega arith))

  pub four_bytes : at + 4 ≤ length s → drop at s ≡ get_or s at 0 ∷ get_or s (at + 1) 0 ∷ get_or s (at + 2) 0 ∷ get_or s (at + 3) 0 ∷ drop (at + 4) s
  four_bytes h = rw (two_bytes (omega arith), next_byte 2 (omega arith), next_byte 3 (omega arith))

  -- a byte of what stands there
  pub byte_of : (k : ℕ) (l : List ℕ) → drop at s ≡ l → get_or s (at + k) 0 ≡ get_or l k 0
  byte_of k l D = sym (get_or-drop at s k 0) ∙ ap (λ (l : List ℕ). get_or l k 0) D

  pub head_of : (a : ℕ) (l : List ℕ) → drop at s ≡ a ∷ l → get_or s at 0 ≡ a
  head_of a l D = rw add-zero at (byte_of 0 (a ∷ l) D)

-- ---- read
module _ (s : List ℕ) (B : AllBytes s) (at : ℕ) where
  pub short_lt : word16 s at < 2 ^ 16
  short_lt = omega (arith, B at, B (at + 1))

  pub word_lt : word32 s at < 2 ^ 32
  word_lt = omega (arith, B at, B (at + 1), B (at + 2), B (at + 3))

  pub cell_fits : SFits w32 (cell_at s at)
  cell_fits = sfits_to_z (record { fits = word_lt })

  pub short_bytes : at + 2 ≤ length s → drop at s ≡ bytes16 (word16 s at) ++ drop (at + 2) s
  short_bytes h = two_bytes s at h ∙ ap (λ (b : List ℕ). b ++ drop (at + 2) s) (sym (digits16 _ _ (B at) (B (at + 1))))

  pub cell_bytes_lem : at + 4 ≤ length s → drop at s ≡ cell_bytes (cell_at s at) ++ drop (at + 4) s
  cell_bytes_lem h =
      four_bytes s at h
      ∙ ap (λ (b : List ℕ). b ++ drop (at + 4) s) (sym (digits32 _ _ _ _ (B at) (B (at + 1)) (B (at + 2)) (B (at + 3))) ∙ ap bytes32 (sym (of_z-to_z {w = w32} (record { fits = word_lt }))))

module _ (s : List ℕ) (at : ℕ) (rest : List ℕ) where
  pub short_back : (v : ℕ) → v < 2 ^ 16 → drop at s ≡ bytes16 v ++ rest → word16 s at ≡ v
  short_back v h D = rw (head_of s at _ _ D, byte_of s at 1 _ D) (number16 v h)

  pub word_back : (v : ℕ) → v < 2 ^ 32 → drop at s ≡ bytes32 v ++ rest → word32 s at ≡ v
  word_back v h D = rw (head_of s at _ _ D, byte_of s at 1 _ D, byte_of s at 2 _ D, byte_of s at 3 _ D) (number32 v h)

  pub cell_back : (z : ℤ) → SFits w32 z → drop at s ≡ cell_bytes z ++ rest → cell_at s at ≡ z
  cell_back z f D = ap (to_z w32) (word_back (of_z w32 z) (Fits-of_z {z = z} f).fits D) ∙ to_z-of_z f

-- ---- written
pub length_written : (s : List ℕ) (at : ℕ) (b : List ℕ) → length (written s at b) ≡ length s
unfolding written
length_written s at b = go (leb (at + length b) (length s))
  where
    go : (c : Bool) → length (cond c (sets s at b) s) ≡ length s
    go true = length-sets s at b
    go false = refl
