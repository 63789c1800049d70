-- Numbers at a position, as the code reads and writes them. Nothing here has to be believed: proofs/Rows joins it to Codes.
use Rattle.std.specs.Prelude.{ℕ, ◌+◌, ◌*◌, ◌/◌, ◌%◌, cond, List, [], ◌∷◌, leb, ℤ, length, get_or}
use Rattle.std.proofs.lemmas.List.Edits.{sets}
use Rattle.std.specs.Int.{w32}
use Rattle.std.proofs.Common.{to_z}

-- four bytes, the low one first
abbrev pub bytes32 : ℕ → List ℕ
bytes32 v = v % 256 ∷ v / 256 % 256 ∷ v / 65536 % 256 ∷ v / 16777216 % 256 ∷ []

-- the number at i; past the end there are zeros
abbrev pub word32 : List ℕ → ℕ → ℕ
word32 s i = get_or s i 0 + 256 * get_or s (i + 1) 0 + 65536 * get_or s (i + 2) 0 + 16777216 * get_or s (i + 3) 0

abbrev pub cell_at : List ℕ → ℕ → ℤ
cell_at s i = to_z w32 (word32 s i)

-- s with the bytes b from i on, all else as it was; s itself where they do not fit
unfoldable pub written : List ℕ → ℕ → List ℕ → List ℕ
written s i b = cond (leb (i + length b) (length s)) (sets s i b) s
