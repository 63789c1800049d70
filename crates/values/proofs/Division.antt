-- The quotient and the remainder are what document 01 says. C-12 will change the rounding: nothing above this crate may cite this file.
use Rattle.std.proofs.Common.{◌≡◌, ℕ, zero, suc, ◌+◌, ◌-◌, ◌*◌, ◌/◌, ◌%◌, ◌^◌, ◌<◌, ◌≤◌, ℤ, pos, negsuc, ◌+ℤ◌, ◌-ℤ◌, ◌*ℤ◌, neg_ℤ, ◌≤ℤ◌, ◌<ℤ◌, sym, refl, ap, ◌∙◌, ap₂, mod-lt, div-add-mod', arith, le→leb, ltb→lt, lt→ltb, leb→le, w32, SFits}
use lib.IntN.{sub_ℕ, +ℤ_comm, -ℤ-+ℤ_cancel, *ℤ-negsuc, neg_ℤ-+ℤ, neg_ℤ-neg_ℤ}
use lib.Signed.{shr_z as floor_by, le_z_yes, lt_z_yes}
use lib.Arith.{digits_div}
use mir.Facts.{sfits_lit}
use Rattle.values.specs.Values.{mod_by, floor_div, floor_mod}
use Rattle.values.proofs.Bits.{sub_ind}

-- ---- the remainder goes with the exact quotient
pub remainder_is : (x y : ℤ) → floor_mod x y ≡ x -ℤ floor_div x y *ℤ y
unfolding floor_mod
remainder_is x y = refl

-- ---- it lies from 0 up to the divisor, or down to it
abbrev pub Between : ℤ → ℤ → Type 0
Between (pos b) r = (pos 0 ≤ℤ r) × (r <ℤ pos b)
Between (negsuc b) r = (negsuc b <ℤ r) × (r ≤ℤ pos 0)

pub nat_sub : (m n : ℕ) → n ≤ m → pos m -ℤ pos n ≡ pos (m - n)
nat_sub m zero h = ap pos (omega arith)
nat_sub m (suc n) h = sub_ind m (suc n) (λ z. z ≡ pos (m - suc n)) (λ l. absurd (omega arith)) (λ l. refl)

pub mod_pos : (x : ℤ) (b : ℕ) → 0 < b → floor_mod x (pos b) ≡ pos (mod_by x b)
unfolding floor_mod floor_div
mod_pos (pos a) b h =
    let e : a - a / b * b ≡ a % b = omega (arith, div-add-mod' a b) in
    nat_sub a (a / b * b) (omega (arith, div-add-mod' a b)) ∙ ap pos e
mod_pos (negsuc a) b h =
    let e : suc (a / b) * b - suc a ≡ b - suc (a % b) = omega (arith, div-add-mod' a b, mod-lt a h) in
    ap (λ z. negsuc a +ℤ z) (neg_ℤ-neg_ℤ (pos (suc (a / b) * b)))
    ∙ sub_ind (suc (a / b) * b) (suc a) (λ z. z ≡ pos (b - suc (a % b))) (λ l. absurd (omega (arith, div-add-mod' a b, mod-lt a h))) (λ l. ap pos e)

mod_turned : (x : ℤ) (b : ℕ) → floor_mod x (negsuc b) ≡ neg_ℤ (floor_mod (neg_ℤ x) (pos (suc b)))
unfolding floor_mod floor_div
mod_turned x b =
    let r = floor_by (neg_ℤ x) (suc b) *ℤ pos (suc b) in
    ap (λ z. x -ℤ z) (*ℤ-negsuc (floor_by (neg_ℤ x) (suc b)) b)
    ∙ sym (neg_ℤ-+ℤ (neg_ℤ x) (neg_ℤ r) ∙ ap (λ z. z +ℤ neg_ℤ (neg_ℤ r)) (neg_ℤ-neg_ℤ x))

pub mod_neg : (x : ℤ) (b : ℕ) → floor_mod x (negsuc b) ≡ neg_ℤ (pos (mod_by (neg_ℤ x) (suc b)))
mod_neg x b = mod_turned x b ∙ ap neg_ℤ (mod_pos (neg_ℤ x) (suc b) (omega arith))

pub mod_by_lt : (x : ℤ) (b : ℕ) → 0 < b → mod_by x b < b
mod_by_lt (pos a) b h = mod-lt a h
mod_by_lt (negsuc a) b h = omega (arith, mod-lt a h)

above : (n b : ℕ) → n < b → Between (pos b) (pos n)
above n b h = (le_z_yes (le→leb 0 n (omega arith)), lt_z_yes (lt→ltb n b h))

below : (n b : ℕ) → n < suc b → Between (negsuc b) (neg_ℤ (pos n))
below zero b h = (lt_z_yes tt, le_z_yes tt)
below (suc n) b h = (lt_z_yes (lt→ltb n b (omega arith)), le_z_yes tt)

pub remainder_range : (x y : ℤ) → (y ≡ pos 0 → ⊥) → Between y (floor_mod x y)
remainder_range x (pos zero) k = absurd (k refl)
remainder_range x (pos (suc b)) k = rw (mod_pos x (suc b) (omega arith)) (above (mod_by x (suc b)) (suc b) (mod_by_lt x (suc b) (omega arith)))
remainder_range x (negsuc b) k = rw (mod_neg x b) (below (mod_by (neg_ℤ x) (suc b)) b (mod_by_lt (neg_ℤ x) (suc b) (omega arith)))

-- ---- no other quotient leaves such a remainder
neg_add : (m n : ℕ) → 0 < m → neg_ℤ (pos m) +ℤ pos n ≡ sub_ℕ n m
neg_add zero n h = absurd (omega arith)
neg_add (suc m) n h = refl

by_only : (q : ℤ) (b n : ℕ) → n < b → floor_by (q *ℤ pos b +ℤ pos n) b ≡ q
by_only (pos k) b n h = ap pos (digits_div k h)
by_only (negsuc k) (suc b) n h =
    let e : suc k * suc b - suc n ≡ k * suc b + (b - n) = omega arith in
    ap (λ z. floor_by z (suc b)) (neg_add (suc k * suc b) n (omega arith))
    ∙ sub_ind n (suc k * suc b) (λ z. floor_by z (suc b) ≡ negsuc k)
    (λ l. ap negsuc (ap (λ (m : ℕ). m / suc b) e ∙ digits_div k (omega arith)))
    (λ l. absurd (omega arith))
by_only (negsuc k) zero n h = absurd (omega arith)

only_above : (q : ℤ) (b n : ℕ) → n < b → floor_div (q *ℤ pos b +ℤ pos n) (pos b) ≡ q
unfolding floor_div
only_above q b n h = by_only q b n h

only_below : (q : ℤ) (b n : ℕ) → n < suc b → floor_div (q *ℤ negsuc b +ℤ neg_ℤ (pos n)) (negsuc b) ≡ q
unfolding floor_div
only_below q b n h =
    ap (λ z. floor_by z (suc b))
    (neg_ℤ-+ℤ (q *ℤ negsuc b) (neg_ℤ (pos n))
    ∙ ap₂ ◌+ℤ◌ (ap neg_ℤ (*ℤ-negsuc q b) ∙ neg_ℤ-neg_ℤ (q *ℤ pos (suc b))) (neg_ℤ-neg_ℤ (pos n)))
    ∙ by_only q (suc b) n h

only : (q y r : ℤ) → Between y r → floor_div (q *ℤ y +ℤ r) y ≡ q
only q (pos b) (pos n) h = only_above q b n (ltb→lt n b h.1.lt)
only q (pos b) (negsuc n) h = absurd h.0.le
only q (negsuc b) (pos zero) h = only_below q b 0 (omega arith)
only q (negsuc b) (pos (suc n)) h =
    let l : suc n ≤ 0 = leb→le (suc n) 0 h.1.le in
    absurd (omega arith)
only q (negsuc b) (negsuc n) h =
    let l : n < b = ltb→lt n b h.0.lt in
    only_below q b (suc n) (omega arith)

pub floor_only : (x y q : ℤ) → Between y (x -ℤ q *ℤ y) → q ≡ floor_div x y
floor_only x y q h =
    sym (only q y (x -ℤ q *ℤ y) h)
    ∙ ap (λ z. floor_div z y) (+ℤ_comm (q *ℤ y) (x -ℤ q *ℤ y) ∙ -ℤ-+ℤ_cancel x (q *ℤ y))

-- ---- the remainder by an i32 is an i32
neg_small : (r b : ℕ) → r < suc b → b < 2 ^ 31 → SFits w32 (neg_ℤ (pos r))
neg_small zero b h k = sfits_lit tt
neg_small (suc r) b h k = omega arith

pub mod_fits : (x y : ℤ) → SFits w32 y → (y ≡ pos 0 → ⊥) → SFits w32 (floor_mod x y)
mod_fits x (pos zero) h k = absurd (k refl)
mod_fits x (pos (suc b)) h k = rw (mod_pos x (suc b) (omega arith)) (omega (arith, mod_by_lt x (suc b) (omega arith)))
mod_fits x (negsuc b) h k = rw (mod_neg x b) (neg_small (mod_by (neg_ℤ x) (suc b)) b (mod_by_lt (neg_ℤ x) (suc b) (omega arith)) h.sfits)
