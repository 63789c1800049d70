-- Numbers as bytes: u16 and i32, little-endian, in program files and sessions.
-- A list of bytes is a list of numbers below 256. Assumes nothing: these are definitions.
use Rattle.std.specs.Prelude.{ℕ, ◌+◌, ◌*◌, ◌/◌, ◌%◌, ◌<◌, List, [], ◌∷◌, ℤ, get_or}
use Rattle.std.specs.Int.{w32}
use Rattle.std.proofs.Common.{of_z}

-- two bytes, the low one first
abbrev pub bytes16 : ℕ → List ℕ
bytes16 v = v % 256 ∷ v / 256 % 256 ∷ []

-- an i32: the four bytes of its 32 two's complement bits
abbrev pub cell_bytes : ℤ → List ℕ
cell_bytes z = let v : ℕ = of_z w32 z in v % 256 ∷ v / 256 % 256 ∷ v / 65536 % 256 ∷ v / 16777216 % 256 ∷ []

-- the u16 at i; past the end there are zeros
abbrev pub word16 : List ℕ → ℕ → ℕ
word16 s i = get_or s i 0 + 256 * get_or s (i + 1) 0

-- a list of bytes
abbrev pub AllBytes : List ℕ → Type 0
AllBytes s = (i : ℕ) → get_or s i 0 < 256
