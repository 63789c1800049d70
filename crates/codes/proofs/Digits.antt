-- Two and four digits of base 256: from a number to its bytes and back. Assumes nothing.
--     number16, number32    the number of a number's bytes is that number
--     digits16, digits32    the bytes of a number made of bytes are those bytes
use mathlib.Core.Path.{◌≡◌}
use mathlib.Core.List.{[], ◌∷◌}
use Prim.Native.Nat.{ℕ, ◌+◌, ◌*◌, ◌/◌, ◌%◌, ◌^◌, ◌<◌}
use native.Mathlib.Omega.{arith}
use Rattle.codes.specs.Codes.{bytes16}
use Rattle.codes.specs.Numbers.{bytes32}

pub number16 : (v : ℕ) → v < 2 ^ 16 → v % 256 + 256 * (v / 256 % 256) ≡ v
number16 v h = omega arith

pub number32 : (v : ℕ) → v < 2 ^ 32 → v % 256 + 256 * (v / 256 % 256) + 65536 * (v / 65536 % 256) + 16777216 * (v / 16777216 % 256) ≡ v
number32 v h =
    let t : v / 16777216 % 256 ≡ v / 16777216 = omega arith in
    rw t (four v)
  where
    four : (v : ℕ) → v % 256 + 256 * (v / 256 % 256) + 65536 * (v / 65536 % 256) + 16777216 * (v / 16777216) ≡ v
    four v = omega arith

module _ (a b : ℕ) (ha : a < 256) (hb : b < 256) where
  low : (a + 256 * b) % 256 ≡ a
  low = omega arith

  high : (a + 256 * b) / 256 % 256 ≡ b
  high = omega arith

  pub digits16 : bytes16 (a + 256 * b) ≡ a ∷ b ∷ []
  digits16 = rw (low, high)

module _ (a b c d : ℕ) (ha : a < 256) (hb : b < 256) (hc : c < 256) (hd : d < 256) where
  digit0 : (a + 256 * b + 65536 * c + 16777216 * d) % 256 ≡ a
  digit0 = omega arith

  digit1 : (a + 256 * b + 65536 * c + 16777216 * d) / 256 % 256 ≡ b
  digit1 = omega arith

  digit2 : (a + 256 * b + 65536 * c + 16777216 * d) / 65536 % 256 ≡ c
  digit2 = omega arith

  digit3 : (a + 256 * b + 65536 * c + 16777216 * d) / 16777216 % 256 ≡ d
  digit3 = omega arith

  pub digits32 : bytes32 (a + 256 * b + 65536 * c + 16777216 * d) ≡ a ∷ b ∷ c ∷ d ∷ []
  digits32 = rw (digit0, digit1, digit2, digit3)
