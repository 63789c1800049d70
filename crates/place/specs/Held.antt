-- How the struct holds a place of the document's: the one definition that ties slots to the list of frames.
-- Assumes nothing: these are definitions.
use Rattle.std.specs.Prelude.{ℕ, ◌-◌, List, ◌++◌, map, reverse, length, replicate}
use Rattle.place.specs.declared.Place.{Place as Held}
use Rattle.place.specs.Places.{Dir, going, frame_kind, frame_label, Place}

-- "u8 direction, 0 down, 1 up"
abbrev pub dir_number : Dir → ℕ
dir_number d = going d 0 1

-- the outermost frame in slot 0, and "unused slots hold 0"
abbrev pub slots : List ℕ → List ℕ
slots xs = reverse xs ++ replicate (1104 - length xs) 0

abbrev pub held : Place → Held
held p = record {
  direction = dir_number p.d;
  a = p.a;
  b = p.b;
  count = length p.frames;
  kinds = slots (map frame_kind p.frames);
  labels = slots (map frame_label p.frames);
}
