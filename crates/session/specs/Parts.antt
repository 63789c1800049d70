-- Parts of a session file, and what of it fits, under names that the inner functions and the proofs go by.
-- Assumes nothing: these are definitions.
use Rattle.std.specs.Prelude.{ℕ, ◌+◌, ◌*◌, ◌^◌, ◌<◌, ℤ, pos, get_or}
use mathlib.Core.List.{List, [], ◌∷◌, ◌++◌, map, flat_map}
use Rattle.std.specs.Int.{w32}
use Rattle.std.proofs.Common.{SFits}
use Rattle.codes.specs.Codes.{bytes16, cell_bytes}
use Rattle.place.specs.Places.{Frame, frame_kind, frame_label}

-- the PLACE record up to its frames
abbrev pub encode_head : ℕ → ℕ → ℕ → ℕ → List ℕ
encode_head d a b n = bytes16 (12 + 4 * n) ++ bytes16 32 ++ (d ∷ 0 ∷ []) ++ bytes16 a ++ bytes16 b ++ bytes16 n

abbrev pub encode_frames : List Frame → List ℕ
encode_frames fs = flat_map (λ f. bytes16 (frame_kind f) ++ bytes16 (frame_label f)) fs

abbrev pub encode_cells : List ℤ → List ℕ
encode_cells zs = flat_map cell_bytes zs

abbrev pub LabelsFit : List Frame → Type 0
LabelsFit fs = (i : ℕ) → get_or (map frame_label fs) i 0 < 2 ^ 16

abbrev pub CellsFit : List ℤ → Type 0
CellsFit zs = (i : ℕ) → SFits w32 (get_or zs i (pos 0))
