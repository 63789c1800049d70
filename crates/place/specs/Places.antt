-- Document 01, 'Labels, places, moves': directions, frames and places.
use Rattle.std.specs.Prelude.{ℕ, List}

pub data Dir : Type 0 where
  down up : Dir

-- The first going down, the second going up.
abbrev pub going : {A : Type 0} → Dir → A → A → A
going down x y = x
going up x y = y

abbrev pub opp : Dir → Dir
opp d = going d up down

-- "0 true branch, 1 false branch (label of IF); 2 in s1, 3 in s2 (label of FROM); 4 call (label of the CALL or UNCALL)"
pub data Frame : Type 0 where
  in_then in_else in_do in_loop called : ℕ → Frame

-- The number of a frame's kind, and its label.
abbrev pub frame_numbers : Frame → ℕ × ℕ
frame_numbers (in_then l) = (0, l)
frame_numbers (in_else l) = (1, l)
frame_numbers (in_do l) = (2, l)
frame_numbers (in_loop l) = (3, l)
frame_numbers (called l) = (4, l)

abbrev pub frame_kind : Frame → ℕ
frame_kind f = (frame_numbers f).0

abbrev pub frame_label : Frame → ℕ
frame_label f = (frame_numbers f).1

-- "A place is an edge (a, b) in direction d, with frames, innermost first."
pub record Place : Type 0 where
  pub a : ℕ
  pub b : ℕ
  pub d : Dir
  pub frames : List Frame

-- (b, a, opposite d), frames the same.
abbrev pub turn : Place → Place
turn p = record { a = p.b; b = p.a; d = opp p.d; frames = p.frames }
