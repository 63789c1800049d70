-- What reading the bytes alone answers, computed. `reading_sound` and `reading_complete` (proofs/Reading) show that it is what the file says.
-- Assumes nothing: these are definitions.
use Rattle.std.specs.Prelude.{ℕ, zero, suc, ◌+◌, ◌*◌, ◌-◌, ◌/◌, ◌%◌, Bool, true, false, cond, List, [], ◌∷◌, eqb, leb, ℤ, length, get_or, drop}
use Rattle.codes.specs.Codes.{word16}
use Rattle.codes.specs.Numbers.{cell_at}
use Rattle.place.specs.Places.{Frame, Place}
use Rattle.place.specs.Slots.{dir_of, frame_of}

pub data Reading : Type 0 where
  malformed : Reading
  found : Place → List ℤ → Reading

-- kind 32, a direction, the spare byte, a count, the length that goes with it, and room for the frames and a record's head more
unfoldable pub head_ok : List ℕ → Bool
head_ok s =
    cond (eqb (word16 s 2) 32)
    (cond (leb (get_or s 4 0) 1)
    (cond (eqb (get_or s 5 0) 0)
    (cond (leb (word16 s 10) 1104)
    (cond (eqb (word16 s 0) (12 + 4 * word16 s 10)) (leb (16 + 4 * word16 s 10) (length s)) false) false) false) false) false

-- each of n frames has a kind of at most 4
unfoldable pub kinds_ok : ℕ → List ℕ → Bool
kinds_ok zero s = true
kinds_ok (suc n) s = cond (leb (word16 s 0) 4) (kinds_ok n (drop 4 s)) false

-- kind 33, and from `at` to the end whole cells and nothing else
unfoldable pub store_ok : List ℕ → ℕ → Bool
store_ok s at = cond (eqb (word16 s (at + 2)) 33) (cond (eqb (word16 s at) (length s - at)) (eqb (word16 s at % 4) 0) false) false

unfoldable pub frames_at : ℕ → List ℕ → List Frame
frames_at zero s = []
frames_at (suc n) s = frame_of (word16 s 0) (word16 s 2) ∷ frames_at n (drop 4 s)

unfoldable pub cells_from : ℕ → List ℕ → List ℤ
cells_from zero s = []
cells_from (suc n) s = cell_at s 0 ∷ cells_from n (drop 4 s)

abbrev pub place_at : List ℕ → Place
place_at s = record { a = word16 s 6; b = word16 s 8; d = dir_of (get_or s 4 0); frames = frames_at (word16 s 10) (drop 12 s) }

-- where the cells begin, and how many there are
abbrev pub cells_start : List ℕ → ℕ
cells_start s = 16 + 4 * word16 s 10

abbrev pub cell_count : List ℕ → ℕ
cell_count s = (length s - cells_start s) / 4

abbrev pub cells_at : List ℕ → List ℤ
cells_at s = cells_from (cell_count s) (drop (cells_start s) s)

unfoldable pub reading : List ℕ → Reading
reading s =
    cond (head_ok s)
    (cond (kinds_ok (word16 s 10) (drop 12 s))
    (cond (store_ok s (12 + 4 * word16 s 10)) (found (place_at s) (cells_at s)) malformed) malformed) malformed
