-- The numbers of a command line: 1 to 10 digits, a minus before them only in a value, nothing else.
use Rattle.std.specs.Prelude.{ℕ, Option, Some, None, Bool, cond, not, ◌&&◌, List, ltb, leb, eqb, ℤ, pos, negsuc, length}
use Rattle.std.specs.Int.Signed.{lt_z}
use Rattle.words.specs.Words.{digit_count, digit_value, has_minus, signed_next, signed_value}

-- All of w is n bytes at most, up to the position `end`.
abbrev pub whole : List ℕ → ℕ → ℕ → Bool
whole w n end = ltb 0 (length w) && (leb (length w) n && eqb end (length w))

-- A u32.
unfoldable pub natural_of : List ℕ → Option ℕ
natural_of w = cond (whole w 10 (digit_count w) && leb (digit_value 0 w) 4294967295) (Some (digit_value 0 w)) None

-- An i32, or none.
unfoldable pub narrowed : ℤ → Option ℤ
narrowed z = cond (not (lt_z z (negsuc 2147483647)) && not (lt_z (pos 2147483647) z)) (Some z) None

abbrev pub longest : List ℕ → ℕ
longest w = cond (has_minus w 0) 11 10

unfoldable pub integer_of : List ℕ → Option ℤ
integer_of w = cond (whole w (longest w) (signed_next w 0)) (narrowed (signed_value w 0)) None
