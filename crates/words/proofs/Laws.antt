-- What is written in decimal reads back as the same number.
use mathlib.Core.Path.{◌≡◌, refl, ap, ap₂, ◌∙◌}
use mathlib.Core.Bool.{Bool, true, false, cond, ◌&&◌}
use mathlib.Core.List.{List, [], ◌∷◌, ◌++◌}
use Prim.Native.Nat.{ℕ, zero, suc, ◌+◌, ◌-◌, ◌*◌, ◌/◌, ◌^◌, ◌≤◌, ◌<◌, min}
use native.Mathlib.Omega.{arith}
use native.Mathlib.Decide.{dec_lt}
use native.Mathlib.Nat.{div-lt_iff_lt-mul, pow-suc}
use lib.Dec.{ltb}
use lib.ListN.{length}
use borrow.Author.Tests.{le-leb}
use Rattle.words.specs.Words.{is_digit, last_digit, decimal_by, decimal, digit_count, digit_value, limit}
use Rattle.words.proofs.Writing.{short, longer}

abbrev Digits : List ℕ → Type 0
Digits [] = Unit {0}
Digits (b ∷ s) = (is_digit b ≡ true) × Digits s

last_is : (n : ℕ) → is_digit (last_digit n) ≡ true
last_is n = ap₂ ◌&&◌ (le-leb 48 (last_digit n) (omega arith)) (le-leb (last_digit n) 57 (omega arith))

one_more : (s : List ℕ) (d : ℕ) → Digits s → is_digit d ≡ true → Digits (s ++ (d ∷ []))
one_more [] d h p = (p, tt)
one_more (b ∷ s) d h p = (h.0, one_more s d h.1 p)

all_digits : (k n : ℕ) → Digits (decimal_by k n)
unfolding decimal_by
all_digits zero n = (last_is n, tt)
all_digits (suc k) n = go (all_digits k (n / 10)) (ltb n 10)
  where
    go : Digits (decimal_by k (n / 10)) → (t : Bool) → Digits (cond t (last_digit n ∷ []) (decimal_by k (n / 10) ++ (last_digit n ∷ [])))
    go h true = (last_is n, tt)
    go h false = one_more (decimal_by k (n / 10)) (last_digit n) h (last_is n)

count_all : (s : List ℕ) → Digits s → digit_count s ≡ length s
count_all [] h = refl
count_all (b ∷ s) h = ap (λ (t : Bool). cond t (suc (digit_count s)) 0) h.0 ∙ ap suc (count_all s h.1)

after_all_lem : (v : ℕ) (s : List ℕ) (d : ℕ) → Digits s → is_digit d ≡ true → digit_value v (s ++ (d ∷ [])) ≡ min (10 * digit_value v s + (d - 48)) limit
after_all_lem v [] d h p = ap (λ (t : Bool). cond t (min (10 * v + (d - 48)) limit) v) p
after_all_lem v (b ∷ s) d h p = rw h.0 (after_all_lem (min (10 * v + (b - 48)) limit) s d h.1 p)

-- n has at most k + 1 digits
abbrev Within : ℕ → ℕ → Type 0
Within zero n = n < 10
Within (suc k) n = Within k (n / 10)

last_back : (n v : ℕ) → n ≤ limit → v ≡ n / 10 → min (10 * v + (last_digit n - 48)) limit ≡ n
last_back n v h e = omega arith

one_back : (k n : ℕ) → n ≤ limit → n < 10 → digit_value 0 (decimal_by k n) ≡ n
one_back k n h l = rw (short k n l) (ap (λ (t : Bool). cond t (min (10 * 0 + (last_digit n - 48)) limit) 0) (last_is n) ∙ last_back n 0 h (omega arith))

back : (k n : ℕ) → n ≤ limit → Within k n → digit_value 0 (decimal_by k n) ≡ n
back zero n h w = one_back zero n h w
back (suc k) n h w = go (dec_lt n 10) (back k (n / 10) (omega arith) w)
  where
    go : Dec (n < 10) → digit_value 0 (decimal_by k (n / 10)) ≡ n / 10 → digit_value 0 (decimal_by (suc k) n) ≡ n
    go (yes l) e = one_back (suc k) n h l
    go (no l) e =
        rw (longer k n (omega arith))
        (after_all_lem 0 (decimal_by k (n / 10)) (last_digit n) (all_digits k (n / 10)) (last_is n) ∙ last_back n (digit_value 0 (decimal_by k (n / 10))) h e)

within : (k n : ℕ) → n < 10 ^ suc k → Within k n
within zero n h = omega arith
within (suc k) n h = within k (n / 10) ((div-lt_iff_lt-mul (omega arith)).1 (rw (pow-suc 10 (suc k)) at h))

pub reads_back : (n : ℕ) → n ≤ limit → digit_value 0 (decimal n) ≡ n
reads_back n h = back 19 n h (within 19 n (omega arith))

pub digits_only : (n : ℕ) → digit_count (decimal n) ≡ length (decimal n)
digits_only n = count_all (decimal n) (all_digits 19 n)
