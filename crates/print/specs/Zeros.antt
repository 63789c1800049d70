-- The store that a program starts on.
use Rattle.std.specs.Prelude.{ℕ, List, ℤ, pos}
use Rattle.words.specs.Zeros.{copies}

-- So many zeros.
abbrev pub noughts : ℕ → List ℤ
noughts n = copies n (pos 0)
