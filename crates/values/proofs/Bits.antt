-- Working laws: the complement of a number, exclusive or twice, tests of signed numbers.
use Rattle.std.proofs.Common.{◌≡◌, ℕ, zero, suc, ◌+◌, ◌-◌, ◌*◌, ◌/◌, ◌%◌, ◌^◌, ◌<◌, ◌≤◌, Bool, true, false, cond, not, ◌&&◌, T, eqb, ltb, leb, ℤ, pos, negsuc, sym, refl, ap, ◌∙◌, subst, ap₂, div-add-mod', arith, lit<, ltb→lt, nltb→le, w32, SFits, to_z, of_z, ltb-true, eq-eqb, ne_eqb, leb-false, leb-true}
use native.Mathlib.Decide.{ℕ_discrete}
use lib.IntN.{sub_ℕ}
use lib.Arith.{bin_ind, digits_div, digits_mod}
use lib.Bits.{bit_xor, differ, xor_step, xor_self}
use mir.Syntax.{Width}
use mir.Val.{bits, hbits, bool_byte}
use mir.Facts.{to_z_pos, to_z-neg, Fits-of_z}
use Rattle.values.specs.Values.{truth, is_true, eq_z}

-- ---- cases

cond_ind : (c : Bool) (x y : ℤ) (P : ℤ → Type 0) → (T c → P x) → (T (not c) → P y) → P (cond c x y)
cond_ind true x y P f g = f tt
cond_ind false x y P f g = g tt

-- a - b, by its two cases
pub sub_ind : (a b : ℕ) (P : ℤ → Type 0) → (a < b → P (negsuc (b - suc a))) → (b ≤ a → P (pos (a - b))) → P (sub_ℕ a b)
sub_ind a b P f g = cond_ind (ltb a b) (negsuc (b - suc a)) (pos (a - b)) P (λ t. f (ltb→lt a b t)) (λ t. g (nltb→le a b t))

pub clash : {X : Type 0} → true ≡ false → X
clash e = absurd (subst T e tt)

no_below : (n : ℕ) → n < 0 → ⊥
no_below n h = omega arith

pub not_below : {X : Type 0} (n : ℕ) → ltb n 0 ≡ true → X
not_below n e = absurd (no_below n (ltb-true n 0 e))

-- ---- the complement, of any width
abbrev pub not_z : ℤ → ℤ
not_z (pos n) = negsuc n
not_z (negsuc n) = pos n

pub not_reads : (w : Width) (z : ℤ) → SFits w z → to_z w (2 ^ bits w - 1 - of_z w z) ≡ not_z z
not_reads w (pos n) h =
    let e : 2 ^ bits w - 1 - n ≡ 2 ^ bits w - suc n = omega arith in
    ap (to_z w) e ∙ to_z-neg w n h.sfits
not_reads w (negsuc n) h =
    let e : 2 ^ bits w - 1 - (2 ^ bits w - suc n) ≡ n = less (2 ^ bits w) n (below w n h.sfits) in
    ap (to_z w) e ∙ to_z_pos w h.sfits
  where
    less : (m n : ℕ) → n < m → m - 1 - (m - suc n) ≡ n
    less m n l = omega arith

    below : (w : Width) (n : ℕ) → n < 2 ^ hbits w → n < 2 ^ bits w
    below w n l = (Fits-of_z {w = w} {z = pos n} (record { sfits = l })).fits

-- ---- xor twice
over : {X : Type 0} (y : ℕ) → suc (suc y) < 2 → X
over y k = absurd (no_such y k)
  where
    no_such : (y : ℕ) → suc (suc y) < 2 → ⊥
    no_such y k = omega arith

differ_lt : (x y : ℕ) → x < 2 → y < 2 → differ x y < 2
differ_lt zero y h k = k
differ_lt (suc zero) zero h k = h
differ_lt (suc zero) (suc zero) h k = lit< tt
differ_lt (suc zero) (suc (suc y)) h k = over y k
differ_lt (suc (suc x)) y h k = over x h

differ_twice : (x y : ℕ) → x < 2 → y < 2 → differ (differ x y) y ≡ x
differ_twice zero zero h k = refl
differ_twice zero (suc zero) h k = refl
differ_twice zero (suc (suc y)) h k = over y k
differ_twice (suc zero) zero h k = refl
differ_twice (suc zero) (suc zero) h k = refl
differ_twice (suc zero) (suc (suc y)) h k = over y k
differ_twice (suc (suc x)) y h k = over x h

digit : (n : ℕ) → n % 2 < 2
digit n = omega arith

pub xor_twice : (a b : ℕ) → bit_xor (bit_xor a b) b ≡ a
xor_twice a =
    bin_ind (λ (n : ℕ). (b : ℕ) → bit_xor (bit_xor n b) b ≡ n) (λ b. xor_self b)
    (λ n ih b.
    let d : ℕ = differ (n % 2) (b % 2) in
    let q : ℕ = bit_xor (n / 2) (b / 2) in
    let l : d < 2 = differ_lt (n % 2) (b % 2) (digit n) (digit b) in
    xor_step (bit_xor n b) b
    ∙ ap (λ (x : ℕ). bit_xor (x / 2) (b / 2) * 2 + differ (x % 2) (b % 2)) (xor_step n b)
    ∙ ap₂ (λ (x y : ℕ). bit_xor x (b / 2) * 2 + differ y (b % 2)) (digits_div q l) (digits_mod q l)
    ∙ ap₂ (λ (x y : ℕ). x * 2 + y) (ih (b / 2)) (differ_twice (n % 2) (b % 2) (digit n) (digit b))
    ∙ div-add-mod' n 2) a

-- ---- tests of signed numbers, from their bits

bool_reads : (b : Bool) → to_z w32 (bool_byte b) ≡ truth b
bool_reads true = refl
bool_reads false = refl

pub bool_is : {t u : Bool} → t ≡ u → to_z w32 (bool_byte t) ≡ truth u
bool_is {t} p = bool_reads t ∙ ap truth p

pub bits_true : (x : ℤ) → SFits w32 x → not (eqb (of_z w32 x) 0) ≡ is_true x
bits_true (pos zero) h = refl
bits_true (pos (suc n)) h = ap not (ne_eqb (suc n) 0 (λ e. omega arith))
bits_true (negsuc n) h = ap not (ne_eqb (4294967296 - suc n) 0 (λ e. omega arith))

pub is_some : {x : ℤ} → SFits w32 x → (of_z w32 x ≡ 0 → ⊥) → is_true x ≡ true
is_some {x} h f = sym (bits_true x h) ∙ ap not (ne_eqb (of_z w32 x) 0 f)

pub is_none : {x : ℤ} → SFits w32 x → of_z w32 x ≡ 0 → is_true x ≡ false
is_none {x} h e = sym (bits_true x h) ∙ ap not (eq-eqb (of_z w32 x) 0 e)

-- equal is at most, both ways
eq_le : (a b : ℕ) → eqb a b ≡ leb a b && leb b a
eq_le a b = go (leb a b) (leb b a) refl refl
  where
    go : (t u : Bool) → leb a b ≡ t → leb b a ≡ u → eqb a b ≡ t && u
    go true true p q = eq-eqb a b (omega (arith, leb-true a b p, leb-true b a q))
    go true false p q = ne_eqb a b (λ e. omega (arith, leb-false b a q))
    go false u p q = ne_eqb a b (λ e. omega (arith, leb-false a b p))

pub bits_eq : (x y : ℤ) → SFits w32 x → SFits w32 y → eqb (of_z w32 x) (of_z w32 y) ≡ eq_z x y
bits_eq (pos a) (pos b) h k = eq_le a b
bits_eq (pos a) (negsuc b) h k = ne_eqb a (4294967296 - suc b) (λ e. omega arith)
bits_eq (negsuc a) (pos b) h k = ne_eqb (4294967296 - suc a) b (λ e. omega arith)
bits_eq (negsuc a) (negsuc b) h k = both (ℕ_discrete a b) ∙ eq_le b a
  where
    both : Dec (a ≡ b) → eqb (4294967296 - suc a) (4294967296 - suc b) ≡ eqb b a
    both (yes p) = eq-eqb (4294967296 - suc a) (4294967296 - suc b) (omega arith) ∙ sym (eq-eqb b a (sym p))
    both (no f) = ne_eqb (4294967296 - suc a) (4294967296 - suc b) (λ e. f (omega arith)) ∙ sym (ne_eqb b a (λ e. f (sym e)))
