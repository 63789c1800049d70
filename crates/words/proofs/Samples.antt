-- The definitions tried on texts: numbers written, and what is read from them again.
use mathlib.Core.Path.{◌≡◌, refl}
use mathlib.Core.List.{List, [], ◌∷◌}
use Prim.Native.Nat.{ℕ}
use lib.IntN.{pos, neg_ℤ}
use Rattle.std.specs.Prelude.{Some, None}
use Rattle.words.specs.Words.{decimal_by, decimal, signed_decimal, signed_next, signed_value, hex_byte}

-- "0", "10", "18446744073709551615", "-2147483648"
pub written :
    decimal 0 ∷ decimal 10 ∷ decimal 18446744073709551615 ∷ signed_decimal (neg_ℤ (pos 2147483648)) ∷ []
    ≡ (48 ∷ [])
    ∷ (49 ∷ 48 ∷ [])
    ∷ (49 ∷ 56 ∷ 52 ∷ 52 ∷ 54 ∷ 55 ∷ 52 ∷ 52 ∷ 48 ∷ 55 ∷ 51 ∷ 55 ∷ 48 ∷ 57 ∷ 53 ∷ 53 ∷ 49 ∷ 54 ∷ 49 ∷ 53 ∷ [])
    ∷ (45 ∷ 50 ∷ 49 ∷ 52 ∷ 55 ∷ 52 ∷ 56 ∷ 51 ∷ 54 ∷ 52 ∷ 56 ∷ [])
    ∷ []
unfolding decimal_by
written = refl

-- "-12 7": -12 up to position 3; from the blank there nothing; then 7. "-" alone is no number.
abbrev text : List ℕ
text = 45 ∷ 49 ∷ 50 ∷ 32 ∷ 55 ∷ []

pub read_values : signed_value text 0 ∷ signed_value text 3 ∷ signed_value text 4 ∷ signed_value (45 ∷ []) 0 ∷ [] ≡ neg_ℤ (pos 12) ∷ pos 0 ∷ pos 7 ∷ pos 0 ∷ []
read_values = refl

pub read_ends : signed_next text 0 ∷ signed_next text 3 ∷ signed_next text 4 ∷ signed_next (45 ∷ []) 0 ∷ [] ≡ 3 ∷ 3 ∷ 5 ∷ 0 ∷ []
read_ends = refl

-- "0a", "ff", "F0", "9"
pub hex_bytes_lem : hex_byte (48 ∷ 97 ∷ []) 0 ∷ hex_byte (102 ∷ 102 ∷ []) 0 ∷ hex_byte (70 ∷ 48 ∷ []) 0 ∷ hex_byte (57 ∷ []) 0 ∷ [] ≡ Some 10 ∷ Some 255 ∷ None ∷ None ∷ []
hex_bytes_lem = refl
