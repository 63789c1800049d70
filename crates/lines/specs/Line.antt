-- How many lines a stream has.
use Rattle.std.specs.Prelude.{ℕ, suc, cond, ◌||◌, List, [], ◌∷◌, eqb, length}

-- Each line ends with a newline (10), the last where s ends.
unfoldable pub line_count : List ℕ → ℕ
line_count [] = 0
line_count (b ∷ s) = cond (eqb b 10 || eqb (length s) 0) (suc (line_count s)) (line_count s)
