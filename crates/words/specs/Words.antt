-- Numbers as text, in bytes: how they are written into a buffer, and what is read at a position; bytes in hexadecimal; lines.
use Rattle.std.specs.Prelude.{ℕ, zero, suc, ◌+◌, ◌-◌, ◌*◌, ◌/◌, ◌%◌, ◌^◌, ◌≤◌, min, ◌≡◌, Bool, cond, ◌&&◌, List, [], ◌∷◌, ◌++◌, Option, Some, None, ℤ, pos, negsuc, neg_ℤ, leb, ltb, eqb, length, take, drop, get_or}
use Rattle.std.specs.Int.Signed.{lt_z}
use Rattle.std.proofs.lemmas.List.Edits.{sets}

-- ---- writing

-- Whether the bytes w lie within the buffer b from position `at` on.
abbrev pub fits : List ℕ → ℕ → List ℕ → Bool
fits b at w = leb (at + length w) (length b)

-- The buffer afterwards: w at its place, all else as it was; where w does not fit, nothing is written.
abbrev pub put : List ℕ → ℕ → List ℕ → List ℕ
put b at w = cond (fits b at w) (sets b at w) b

-- The position after what was written.
abbrev pub after : List ℕ → ℕ → List ℕ → ℕ
after b at w = cond (fits b at w) (at + length w) at

-- The last digit of n; 48 is `0`.
abbrev pub last_digit : ℕ → ℕ
last_digit n = 48 + n % 10

-- The digits of n, the most significant first and no zero before it: of at most k + 1 digits, the last ones.
unfoldable pub decimal_by : ℕ → ℕ → List ℕ
decimal_by zero n = last_digit n ∷ []
decimal_by (suc k) n = cond (ltb n 10) (last_digit n ∷ []) (decimal_by k (n / 10) ++ (last_digit n ∷ []))

-- A u64 has at most 20 digits.
abbrev pub decimal : ℕ → List ℕ
decimal n = decimal_by 19 n

-- With a minus (45) before a number below 0.
abbrev pub signed_decimal : ℤ → List ℕ
signed_decimal (pos n) = decimal n
signed_decimal (negsuc n) = 45 ∷ decimal (suc n)

-- ---- reading

abbrev pub is_digit : ℕ → Bool
is_digit b = leb 48 b && leb b 57

-- How many digits s begins with.
abbrev pub digit_count : List ℕ → ℕ
digit_count [] = 0
digit_count (b ∷ s) = cond (is_digit b) (suc (digit_count s)) 0

-- A larger number reads as this one, so that every number read is an i64.
abbrev pub limit : ℕ
limit = 10 ^ 18

-- The number that these digits make after those of v.
abbrev pub digit_value : ℕ → List ℕ → ℕ
digit_value v [] = v
digit_value v (b ∷ s) = cond (is_digit b) (digit_value (min (10 * v + (b - 48)) limit) s) v

-- A minus and digits, or digits; the position after them, or `at` where there is no such number, which reads as 0.
abbrev pub has_minus : List ℕ → ℕ → Bool
has_minus s at = eqb (get_or s at 0) 45

abbrev pub signed_next : List ℕ → ℕ → ℕ
signed_next s at = cond (has_minus s at) (cond (eqb (digit_count (drop (at + 1) s)) 0) at (at + 1 + digit_count (drop (at + 1) s))) (at + digit_count (drop at s))

abbrev pub signed_value : List ℕ → ℕ → ℤ
signed_value s at = cond (has_minus s at) (neg_ℤ (pos (digit_value 0 (drop (at + 1) s)))) (pos (digit_value 0 (drop at s)))

-- A lowercase hexadecimal digit's value; none for another byte.
abbrev pub hex_digit : ℕ → Option ℕ
hex_digit b = cond (is_digit b) (Some (b - 48)) (cond (leb 97 b && leb b 102) (Some (b - 87)) None)

-- The byte that two such digits make.
abbrev pub hex_pair : Option ℕ → Option ℕ → Option ℕ
hex_pair (Some h) (Some l) = Some (16 * h + l)
hex_pair (Some h) None = None
hex_pair None l = None

abbrev pub hex_byte : List ℕ → ℕ → Option ℕ
hex_byte s at = hex_pair (hex_digit (get_or s at 0)) (hex_digit (get_or s (at + 1) 0))

abbrev pub before : Option ℕ → List ℕ → List ℕ
before (Some b) bs = b ∷ bs
before None bs = []

-- The bytes whose digits stand from `at` on, n at most.
unfoldable pub hex_bytes : ℕ → List ℕ → ℕ → List ℕ
hex_bytes zero s at = []
hex_bytes (suc n) s at = before (hex_byte s at) (hex_bytes n s (at + 2))

-- n bytes at the front of b: both parts, so that lending them asks no proof file of a caller.
abbrev pub Counts : ℕ → List ℕ → Type 0
Counts n b = (n ≤ length b) × (n ≡ length (take n b))

-- The i32 that is nearest to z.
abbrev pub nearest : ℤ → ℤ
nearest z = cond (lt_z z (negsuc 2147483647)) (negsuc 2147483647) (cond (lt_z (pos 2147483647) z) (pos 2147483647) z)

-- ---- lines

-- How many bytes the first line of s has, its end (10) among them.
unfoldable pub line_length : List ℕ → ℕ
line_length [] = 0
line_length (b ∷ s) = suc (cond (eqb b 10) 0 (line_length s))

-- Where the line after that at `at` stands.
abbrev pub next_line : List ℕ → ℕ → ℕ
next_line s at = at + line_length (drop at s)
