-- Which structs hold a place, and the way back: the place that a struct holds.
-- Assumes nothing: these are definitions.
use Rattle.std.specs.Prelude.{ℕ, zero, suc, ◌≤◌, ◌≡◌, Bool, true, false, cond, eqb, leb, List, [], ◌∷◌, length, get_or}
use Rattle.place.specs.declared.Place.{Place as Held}
use Rattle.place.specs.Places.{Dir, down, up, Frame, in_then, in_else, in_do, in_loop, called, Place}
pub use Rattle.place.specs.Held.{dir_number, slots, held}

-- the struct holds some place of at most 1,104 frames
pub record Plain (h : Held) : Type 0 where
  pub place : Place
  pub room : length place.frames ≤ 1104
  pub holds : h ≡ held place

-- an answer of yes or no to a question: yes gives what is asked, no refutes it
abbrev pub Decides : Bool → Type 0 → Type 0
Decides true X = X
Decides false X = X → ⊥

-- ---- the way back: the place that a struct holds, its frames innermost first
abbrev pub dir_of : ℕ → Dir
dir_of zero = down
dir_of (suc n) = up

abbrev pub frame_of : ℕ → ℕ → Frame
frame_of zero l = in_then l
frame_of (suc zero) l = in_else l
frame_of (suc (suc zero)) l = in_do l
frame_of (suc (suc (suc zero))) l = in_loop l
frame_of (suc (suc (suc (suc k)))) l = called l

-- the frames in the first n slots
unfoldable pub frames_in : ℕ → List ℕ → List ℕ → List Frame
frames_in zero ks ls = []
frames_in (suc n) ks ls = frame_of (get_or ks n 0) (get_or ls n 0) ∷ frames_in n ks ls

abbrev pub seen : Held → Place
seen h = record { a = h.a; b = h.b; d = dir_of h.direction; frames = frames_in h.count h.kinds h.labels }

-- ---- a test for `Plain` (`plain_of_lem`): the struct holds the place seen in it, of at most 1,104 frames
unfoldable pub same_list : List ℕ → List ℕ → Bool
same_list [] [] = true
same_list [] (y ∷ ys) = false
same_list (x ∷ xs) [] = false
same_list (x ∷ xs) (y ∷ ys) = cond (eqb x y) (same_list xs ys) false

unfoldable pub plain_of : Held → Bool
plain_of h =
    cond (leb h.count 1104)
    (cond (eqb h.direction (held (seen h)).direction)
    (cond (same_list h.kinds (held (seen h)).kinds) (same_list h.labels (held (seen h)).labels) false) false) false
