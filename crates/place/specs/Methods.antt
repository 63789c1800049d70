-- What the methods of the struct answer, for every value that it can have. Assumes nothing: these are definitions.
use Rattle.std.specs.Prelude.{ℕ, ◌+◌, ◌-◌, Bool, false, cond, List, eqb, leb, ltb, get_or, set, replicate, Option, Some, None}
use Rattle.place.specs.declared.Place.{Place as Held}
use Rattle.place.specs.declared.Top.{Top}

unfoldable pub zeros : List ℕ
zeros = replicate 1104 0

abbrev pub blank_of : Held
blank_of = record { direction = 0; a = 0; b = 0; count = 0; kinds = zeros; labels = zeros }

-- 0 and 1 change places; no other number is a direction, and it stays
abbrev pub flipped : ℕ → ℕ
flipped d = cond (ltb 1 d) d (1 - d)

abbrev pub turned_of : Held → Held
turned_of h = record { direction = flipped h.direction; a = h.b; b = h.a; count = h.count; kinds = h.kinds; labels = h.labels }

abbrev pub moved_of : Held → ℕ → ℕ → ℕ → Held
moved_of h d a b = record { direction = d; a = a; b = b; count = h.count; kinds = h.kinds; labels = h.labels }

-- the same edge with other frames
abbrev pub with_frames : Held → ℕ → List ℕ → List ℕ → Held
with_frames h n ks ls = record { direction = h.direction; a = h.a; b = h.b; count = n; kinds = ks; labels = ls }

-- n counts slots that are there, and at least one
unfoldable pub some : ℕ → Bool
some n = cond (eqb n 0) false (leb n 1104)

unfoldable pub pushed_of : Held → ℕ → ℕ → Held
pushed_of h k l = cond (leb 1104 h.count) h (with_frames h (h.count + 1) (set h.kinds h.count k) (set h.labels h.count l))

unfoldable pub popped_of : Held → Held
popped_of h = cond (some h.count) (with_frames h (h.count - 1) (set h.kinds (h.count - 1) 0) (set h.labels (h.count - 1) 0)) h

unfoldable pub changed_of : Held → ℕ → Held
changed_of h k = cond (some h.count) (with_frames h h.count (set h.kinds (h.count - 1) k) h.labels) h

unfoldable pub innermost_at : List ℕ → ℕ → Option ℕ
innermost_at s n = cond (some n) (Some (get_or s (n - 1) 0)) None

unfoldable pub top_at : List ℕ → ℕ → ℕ → ℕ
top_at s n none = cond (some n) (get_or s (n - 1) 0) none

unfoldable pub top_in : Held → Option Top
top_in h = cond (some h.count) (Some (record { kind = get_or h.kinds (h.count - 1) 0; label = get_or h.labels (h.count - 1) 0 })) None
