-- The lines that `run` and `bench` print, each a row of pieces, and the text that they make.
use Rattle.std.specs.Prelude.{ℕ, zero, suc, ◌≡◌, cond, eqb, ltb, ℤ, pos, negsuc, length, drop, get_or}
use mathlib.Core.List.{List, [], ◌∷◌, ◌++◌, flatten}
use Rattle.words.specs.Words.{decimal, signed_decimal}

-- The text of the lines ws stands whole at the start of a buffer, which was b and is c afterwards, all else as it was; n is its length.
pub record Text (b : List ℕ) (ws : List (List ℕ)) (c : List ℕ) (n : ℕ) : Type 0 where
  pub size : n ≡ length (flatten ws)
  pub bytes : c ≡ flatten ws ++ drop n b

-- ---- the lines

-- Two numbers with words before, between and after them.
unfoldable pub pair : List ℕ → ℕ → List ℕ → ℕ → List ℕ → List (List ℕ)
pair first m second n end = first ∷ decimal m ∷ second ∷ decimal n ∷ end ∷ []

abbrev pub refused : List ℕ
refused = 114 ∷ 101 ∷ 102 ∷ 117 ∷ 115 ∷ 101 ∷ 100 ∷ 32 ∷ []

-- "1 to 8 carry their record in every call": `refused N record R`; the other numbers have none: `refused N`
abbrev pub refused_line : ℕ → ℕ → List (List ℕ)
refused_line n k =
    cond (ltb n 9) (pair refused n (32 ∷ 114 ∷ 101 ∷ 99 ∷ 111 ∷ 114 ∷ 100 ∷ 32 ∷ []) k (10 ∷ [])) (refused ∷ decimal n ∷ (10 ∷ []) ∷ [])

-- `steps N stop R`
abbrev pub steps_line : ℕ → ℕ → List (List ℕ)
steps_line n r = pair (115 ∷ 116 ∷ 101 ∷ 112 ∷ 115 ∷ 32 ∷ []) n (32 ∷ 115 ∷ 116 ∷ 111 ∷ 112 ∷ 32 ∷ []) r (10 ∷ [])

-- ` down` for the direction 0, else ` up`, and the line's end
abbrev pub way : ℕ → List ℕ
way d = cond (eqb d 0) (32 ∷ 100 ∷ 111 ∷ 119 ∷ 110 ∷ 10 ∷ []) (32 ∷ 117 ∷ 112 ∷ 10 ∷ [])

-- `at A B down`
abbrev pub at_line : ℕ → ℕ → ℕ → List (List ℕ)
at_line a b d = pair (97 ∷ 116 ∷ 32 ∷ []) a (32 ∷ []) b (way d)

-- `frame KIND LABEL`
abbrev pub frame_line : ℕ → ℕ → List (List ℕ)
frame_line k l = pair (102 ∷ 114 ∷ 97 ∷ 109 ∷ 101 ∷ 32 ∷ []) k (32 ∷ []) l (10 ∷ [])

-- The frames of the first n slots, the last first: slots are kept outermost first, lines are innermost first.
unfoldable pub frame_lines : ℕ → List ℕ → List ℕ → List (List ℕ)
frame_lines zero ks ls = []
frame_lines (suc n) ks ls = frame_line (get_or ks n 0) (get_or ls n 0) ++ frame_lines n ks ls

-- `cell I V`
unfoldable pub cell_line : ℕ → ℤ → List (List ℕ)
cell_line i v = (99 ∷ 101 ∷ 108 ∷ 108 ∷ 32 ∷ []) ∷ decimal i ∷ (32 ∷ []) ∷ signed_decimal v ∷ (10 ∷ []) ∷ []

-- no line for a cell that is 0
unfoldable pub shown : ℕ → ℤ → List (List ℕ)
shown i (pos zero) = []
shown i (pos (suc n)) = cell_line i (pos (suc n))
shown i (negsuc n) = cell_line i (negsuc n)

-- "each nonzero cell, number and value, ascending", the first one's number being i
unfoldable pub cell_lines : ℕ → List ℤ → List (List ℕ)
cell_lines i [] = []
cell_lines i (v ∷ vs) = shown i v ++ cell_lines (suc i) vs

-- `accepted records R procedures P cells C`
unfoldable pub accepted_line : ℕ → ℕ → ℕ → List (List ℕ)
accepted_line r p c =
    pair (97 ∷ 99 ∷ 99 ∷ 101 ∷ 112 ∷ 116 ∷ 101 ∷ 100 ∷ 32 ∷ 114 ∷ 101 ∷ 99 ∷ 111 ∷ 114 ∷ 100 ∷ 115 ∷ 32 ∷ []) r
    (32 ∷ 112 ∷ 114 ∷ 111 ∷ 99 ∷ 101 ∷ 100 ∷ 117 ∷ 114 ∷ 101 ∷ 115 ∷ 32 ∷ []) p (32 ∷ 99 ∷ 101 ∷ 108 ∷ 108 ∷ 115 ∷ 32 ∷ [])
    ++ (decimal c ∷ (10 ∷ []) ∷ [])
