-- Document 01, 'Sessions': the file of a place and a store. A list of bytes is a list of numbers below 256.
-- Assumes nothing: these are definitions.
use Rattle.std.specs.Prelude.{ℕ, ◌+◌, ◌*◌, ◌^◌, ◌≤◌, ◌<◌, ◌≡◌, ℤ, pos, length, get_or}
use mathlib.Core.List.{List, [], ◌∷◌, ◌++◌, map, flat_map}
use Rattle.std.specs.Int.{w32}
use Rattle.std.proofs.Common.{SFits}
use Rattle.codes.specs.Codes.{bytes16, cell_bytes}
use Rattle.place.specs.Places.{frame_kind, frame_label, Place}
use Rattle.place.specs.Held.{dir_number}

-- "kind 32: u8 direction, 0 down, 1 up; u8 0; u16 a; u16 b; u16 frame count; each frame u16 kind, u16 label", after the length of the whole record
abbrev pub encode_place : Place → List ℕ
encode_place p =
    bytes16 (12 + 4 * length p.frames) ++ bytes16 32 ++ (dir_number p.d ∷ 0 ∷ []) ++ bytes16 p.a ++ bytes16 p.b ++ bytes16 (length p.frames)
    ++ flat_map (λ f. bytes16 (frame_kind f) ++ bytes16 (frame_label f)) p.frames

-- "kind 33: the cells, i32"
abbrev pub encode_store : List ℤ → List ℕ
encode_store zs = bytes16 (4 + 4 * length zs) ++ bytes16 33 ++ flat_map cell_bytes zs

-- "One PLACE record (..), then one STORE record (..), nothing after."
abbrev pub encode : Place → List ℤ → List ℕ
encode p zs = encode_place p ++ encode_store zs

-- a place and cells that a file has room for: "Frame count at most 1,104", labels u16, cells i32, and lengths u16
pub record Fit (p : Place) (zs : List ℤ) : Type 0 where
  pub a : p.a < 2 ^ 16
  pub b : p.b < 2 ^ 16
  pub frames : length p.frames ≤ 1104
  pub labels : (i : ℕ) → get_or (map frame_label p.frames) i 0 < 2 ^ 16
  pub count : length zs ≤ 16382
  pub cells : (i : ℕ) → SFits w32 (get_or zs i (pos 0))

-- what a file says: it is the file of p and zs. A file that says nothing is malformed (22).
pub record Reads (saved : List ℕ) (p : Place) (zs : List ℤ) : Type 0 where
  pub fit : Fit p zs
  pub file : saved ≡ encode p zs
