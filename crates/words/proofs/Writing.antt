-- Bytes put into a buffer: those that fit, the digits of a number, its sign.
use mathlib.Core.Path.{◌≡◌, refl, sym, ap, ◌∙◌}
use mathlib.Core.Bool.{Bool, true, false, cond}
use mathlib.Core.List.{List, [], ◌∷◌, ◌++◌}
use Prim.Native.Nat.{ℕ, zero, suc, ◌+◌, ◌-◌, ◌/◌, ◌≤◌, ◌<◌}
use native.Mathlib.Omega.{arith}
use lib.Dec.{leb, ltb}
use lib.ListN.{length, set, take, drop, length-append}
use lib.Seq.{sets, sets-eq, take_at}
use borrow.Author.Tests.{le-leb, leb-true, lt-ltb, le-ltb}
use borrow.Rule.Slice.PartMut.{put_mid}
use lib.IntN.{ℤ, pos, negsuc}
use lib.Signed.{le_z}
use Rattle.std.specs.Prelude.{unsigned_abs}
use Rattle.std.proofs.Common.{append_assoc}
use Rattle.std.proofs.lemmas.Slice.{put_mid-paste}
use Rattle.std.proofs.lemmas.List.Edits.{paste_all}
use Rattle.codes.proofs.Cases.{sets_append}
use Rattle.words.specs.Words.{fits, put, after, last_digit, decimal_by, decimal, signed_decimal}

-- ---- bytes that fit
pub written : (b c w : List ℕ) (at : ℕ) → fits b at w ≡ true → c ≡ w → put_mid at (at + length w - at) b c ≡ put b at w
written b c w at p e =
    rw p
    (put_mid-paste at (at + length w - at) b c w (length w) e (omega arith) refl ∙ paste_all b at w (length w) refl ∙ sym (sets-eq w b at (leb-true (at + length w) (length b) p) ∙ append_assoc (take at b) w (drop (at + length w) b)))

-- the position stays within the buffer
pub after_within : (b w : List ℕ) (at : ℕ) → at ≤ length b → after b at w ≤ length b
after_within b w at h = go (fits b at w) refl
  where
    go : (t : Bool) → fits b at w ≡ t → cond t (at + length w) at ≤ length b
    go true p = leb-true (at + length w) (length b) p
    go false p = h

-- and so it does of the buffer afterwards, which is as long
pub stays : (b c w : List ℕ) (at r : ℕ) → at ≤ length b → r ≡ after b at w → length c ≡ length b → r ≤ length c
stays b c w at r h e k = rw (k, e) (after_within b w at h)

-- the same said of other bytes that are equal
pub said : (b now w v : List ℕ) (at r : ℕ) → w ≡ v → (r ≡ after b at w) × (now ≡ put b at w) → (r ≡ after b at v) × (now ≡ put b at v)
said b now w v at r e h = (h.0 ∙ ap (after b at) e, h.1 ∙ ap (put b at) e)

-- ---- runs of stores
-- what was stored from the front on is what stands there
pub front : (l ds : List ℕ) (r : ℕ) → length ds ≤ length l → r ≡ 0 + length ds → take r (sets l 0 ds) ≡ ds
front l ds r h e = ap (λ (b : List ℕ). take r b) (sets-eq ds l 0 (omega arith)) ∙ take_at ds (drop (0 + length ds) l) r (omega arith)

-- ---- the digits of a number
pub short : (k n : ℕ) → n < 10 → decimal_by k n ≡ last_digit n ∷ []
unfolding decimal_by
short zero n h = refl
short (suc k) n h = ap (λ (t : Bool). cond t (last_digit n ∷ []) (decimal_by k (n / 10) ++ (last_digit n ∷ []))) (lt-ltb n 10 h)

pub longer : (k n : ℕ) → 10 ≤ n → decimal_by (suc k) n ≡ decimal_by k (n / 10) ++ (last_digit n ∷ [])
unfolding decimal_by
longer k n h = ap (λ (t : Bool). cond t (last_digit n ∷ []) (decimal_by k (n / 10) ++ (last_digit n ∷ []))) (le-ltb n 10 h)

pub long : (k n : ℕ) → (k ≡ 0 → ⊥) → 10 ≤ n → decimal_by k n ≡ decimal_by (k - 1) (n / 10) ++ (last_digit n ∷ [])
long zero n f h = absurd (f refl)
long (suc k) n f h = longer k n h ∙ ap (λ (j : ℕ). decimal_by j (n / 10) ++ (last_digit n ∷ [])) (less k)
  where
    less : (k : ℕ) → k ≡ suc k - 1
    less k = omega arith

pub length_digits : (k n : ℕ) → length (decimal_by k n) ≤ k + 1
unfolding decimal_by
length_digits zero n = omega arith
length_digits (suc k) n = go (ltb n 10) (length_digits k (n / 10))
  where
    go : (t : Bool) → length (decimal_by k (n / 10)) ≤ k + 1 → length (cond t (last_digit n ∷ []) (decimal_by k (n / 10) ++ (last_digit n ∷ []))) ≤ suc k + 1
    go true h = omega arith
    go false h = omega (arith, length-append (decimal_by k (n / 10)) (last_digit n ∷ []))

-- one digit stored
pub stored : (l now : List ℕ) (at r k n : ℕ) → decimal_by k n ≡ last_digit n ∷ [] → r ≡ at + 1 → now ≡ set l at (last_digit n)
    → (r ≡ at + length (decimal_by k n)) × (now ≡ sets l at (decimal_by k n))
stored l now at r k n d e m = rw d (e, m)

-- one digit stored after the others
pub stored_after : (l mid now : List ℕ) (at p r k n : ℕ) → (k ≡ 0 → ⊥) → 10 ≤ n
    → p ≡ at + length (decimal_by (k - 1) (n / 10)) → mid ≡ sets l at (decimal_by (k - 1) (n / 10)) → r ≡ p + 1 → now ≡ set mid p (last_digit n)
    → (r ≡ at + length (decimal_by k n)) × (now ≡ sets l at (decimal_by k n))
stored_after l mid now at p r k n f h ep em er en =
    rw (long k n f h) (
      omega (arith, length-append (decimal_by (k - 1) (n / 10)) (last_digit n ∷ [])),
      en ∙ (λ i. set (em i) (ep i) (last_digit n)) ∙ sym (sets_append l at (decimal_by (k - 1) (n / 10)) (last_digit n ∷ [])),
    )

-- ---- the sign
pub above_is : (z : ℤ) → le_z (pos 0) z ≡ true → decimal (unsigned_abs z) ≡ signed_decimal z
above_is (pos n) p = refl
above_is (negsuc n) p = cc

pub below_is : (z : ℤ) → le_z (pos 0) z ≡ false → 45 ∷ decimal (unsigned_abs z) ≡ signed_decimal z
below_is (pos n) p = let e : leb 0 n ≡ true = le-leb 0 n (omega arith) in cc
below_is (negsuc n) p = refl
