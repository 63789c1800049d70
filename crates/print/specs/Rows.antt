-- What writing a row of pieces leaves in any buffer, one piece after another; a piece that does not fit is left out.
-- Nothing here has to be believed: proofs/Rows `whole` joins it to Lines, where all of it fits.
use Rattle.std.specs.Prelude.{ℕ, List, [], ◌∷◌}
use Rattle.words.specs.Words.{put, after}

unfoldable pub put_all : List ℕ → ℕ → List (List ℕ) → List ℕ
put_all b at [] = b
put_all b at (w ∷ ws) = put_all (put b at w) (after b at w) ws

-- The position after them.
unfoldable pub after_all : List ℕ → ℕ → List (List ℕ) → ℕ
after_all b at [] = at
after_all b at (w ∷ ws) = after_all (put b at w) (after b at w) ws
