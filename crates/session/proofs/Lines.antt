-- The definitions, tried on files written out by hand. Assumes nothing.
use mathlib.Core.Path.{◌≡◌, refl}
use mathlib.Core.List.{List, [], ◌∷◌, ◌++◌, flat_map}
use Prim.Native.Nat.{ℕ}
use lib.IntN.{ℤ, pos, negsuc}
use Rattle.place.specs.Places.{up, in_loop, called, Place}
use Rattle.session.specs.Session.{encode}
use Rattle.session.specs.Reader.{malformed, found, head_ok, kinds_ok, store_ok, frames_at, cells_from, reading}

-- up from 5 to 258, in s2 of the loop at 3 in the call at 700
abbrev pub place : Place
place = record { a = 5; b = 258; d = up; frames = in_loop 3 ∷ called 700 ∷ [] }

abbrev pub store : List ℤ
store = pos 3 ∷ negsuc 0 ∷ []

-- the PLACE record up to its frames, with this direction, spare byte and length's low byte; then the frames; then the STORE record
abbrev pub head : ℕ → ℕ → ℕ → List ℕ
head d z l = l ∷ 0 ∷ 32 ∷ 0 ∷ d ∷ z ∷ 5 ∷ 0 ∷ 2 ∷ 1 ∷ 2 ∷ 0 ∷ []

abbrev pub frames : ℕ → List ℕ
frames k = k ∷ 0 ∷ 3 ∷ 0 ∷ 4 ∷ 0 ∷ 188 ∷ 2 ∷ []

abbrev pub cells : List ℕ
cells = 12 ∷ 0 ∷ 33 ∷ 0 ∷ 3 ∷ 0 ∷ 0 ∷ 0 ∷ 255 ∷ 255 ∷ 255 ∷ 255 ∷ []

pub line_file : encode place store ≡ head 1 0 20 ++ frames 3 ++ cells
unfolding flat_map
line_file = refl

pub line_read : reading (head 1 0 20 ++ frames 3 ++ cells) ≡ found place store
unfolding reading head_ok kinds_ok store_ok frames_at cells_from
line_read = refl

-- direction 2, a spare byte, another length, frame kind 5, a byte after, a broken cell, a file cut short
pub lines_malformed : (reading (head 2 0 20 ++ frames 3 ++ cells) ≡ malformed)
    × ((reading (head 1 7 20 ++ frames 3 ++ cells) ≡ malformed)
    × ((reading (head 1 0 24 ++ frames 3 ++ cells) ≡ malformed)
    × ((reading (head 1 0 20 ++ frames 5 ++ cells) ≡ malformed)
    × ((reading (head 1 0 20 ++ frames 3 ++ cells ++ (0 ∷ [])) ≡ malformed)
    × ((reading (head 1 0 20 ++ frames 3 ++ (6 ∷ 0 ∷ 33 ∷ 0 ∷ 1 ∷ 2 ∷ [])) ≡ malformed)
    × (reading (head 1 0 20 ++ frames 3) ≡ malformed))))))
unfolding reading head_ok kinds_ok store_ok
lines_malformed = (refl, (refl, (refl, (refl, (refl, (refl, refl))))))
