-- The methods of the struct are the document's operations on the place that it holds. Assumes nothing.
--     blank_held, turned_held, moved_held     all zeros; the same edge the other way; the same frames at another edge
--     pushed_held, popped_held, changed_held  a frame more; the innermost less; the innermost with another kind
--     top_held, top_held_none                 the innermost frame; top_of_slots: its number in one list of slots
--     turned_twice                            a turn undone
use mathlib.Core.Path.{◌≡◌, refl, sym, ◌∙◌}
use mathlib.Core.List.{List, [], ◌∷◌, map, reverse, reverse-cons, append_assoc}
use Prim.Native.Nat.{ℕ, zero, suc, ◌-◌, ◌<◌}
use native.Mathlib.Numerals.{add-one}
use native.Mathlib.Omega.{arith}
use mathlib.Core.Bool.{true}
use lib.Dec.{ltb}
use borrow.Author.Tests.{lt-ltb}
use lib.ListN.{length, length-map, get_or, set, replicate, length-reverse}
use lib.Seq.{set_at, get_or_at}
use Rattle.std.specs.Prelude.{Some, None}
use Rattle.place.specs.declared.Place.{Place as Held}
use Rattle.place.specs.Places.{Dir, down, up, Frame, frame_kind, frame_label, Place, turn}
use Rattle.place.specs.Slots.{dir_number, slots, held}
use Rattle.place.specs.Methods.{zeros, blank_of, flipped, turned_of, moved_of, pushed_of, popped_of, changed_of, top_at, top_in}
use Rattle.place.proofs.Cases.{some_none, some_here, pushed_room, popped_here, changed_here, top_here}

-- the place p with other frames
abbrev pub framed : Place → List Frame → Place
framed p fs = record { a = p.a; b = p.b; d = p.d; frames = fs }

-- ---- one list of slots: a number more, one less, another one at the end
module _ (x : ℕ) (xs : List ℕ) (n : ℕ) (e : length xs ≡ n) where
  pub top_slots : get_or (slots (x ∷ xs)) n 0 ≡ x
  top_slots = rw (reverse-cons x xs, append_assoc) (get_or_at (reverse xs) x _ 0 n (length-reverse xs ∙ e))

  pub change_slots : (y : ℕ) → set (slots (x ∷ xs)) n y ≡ slots (y ∷ xs)
  change_slots y = rw (reverse-cons x xs, append_assoc, set_at (reverse xs) x (replicate (1104 - suc (length xs)) 0) y n (length-reverse xs ∙ e), reverse-cons y xs, append_assoc)

  module _ (room : n < 1104) where
    -- the first unused slot stands by itself
    first : replicate {A = ℕ} (1104 - length xs) 0 ≡ 0 ∷ replicate (1104 - suc (length xs)) 0
    first = let r : 1104 - length xs ≡ suc (1104 - suc (length xs)) = omega arith in rw r

    pub push_slots : set (slots xs) n x ≡ slots (x ∷ xs)
    push_slots = rw (first, set_at (reverse xs) 0 (replicate (1104 - suc (length xs)) 0) x n (length-reverse xs ∙ e), reverse-cons x xs, append_assoc)

    pub pop_slots : set (slots (x ∷ xs)) n 0 ≡ slots xs
    pop_slots = rw (reverse-cons x xs, append_assoc, set_at (reverse xs) x (replicate (1104 - suc (length xs)) 0) 0 n (length-reverse xs ∙ e), first)

-- ---- the edge
pub blank_held : blank_of ≡ held (record { a = 0; b = 0; d = down; frames = [] })
unfolding zeros
blank_held = refl

turn_dir : (p : Place) (d : Dir) → d ≡ p.d → turned_of (held p) ≡ held (turn p)
turn_dir p down e = rw (← e)
turn_dir p up e = rw (← e)

pub turned_held : (p : Place) → turned_of (held p) ≡ held (turn p)
turned_held p = turn_dir p p.d refl

flip_twice : (d : ℕ) → flipped (flipped d) ≡ d
flip_twice zero = refl
flip_twice (suc zero) = refl
flip_twice (suc (suc d)) = let t : ltb 1 (suc (suc d)) ≡ true = lt-ltb 1 (suc (suc d)) (omega arith) in rw (t, t)

-- of any struct, whatever it holds
pub turned_twice : (h : Held) → turned_of (turned_of h) ≡ h
turned_twice h = rw (flip_twice h.direction)

pub moved_held : (p : Place) (d : Dir) (a b : ℕ) → moved_of (held p) (dir_number d) a b ≡ held (record { a = a; b = b; d = d; frames = p.frames })
moved_held p d a b = refl

-- ---- the frames
less : (n : ℕ) → suc n - 1 ≡ n
less n = omega arith

module _ (p : Place) (f : Frame) (fs : List Frame) where
  pub pushed_held : length fs < 1104 → pushed_of (held (framed p fs)) (frame_kind f) (frame_label f) ≡ held (framed p (f ∷ fs))
  pushed_held h =
      sym (pushed_room (held (framed p fs)) (frame_kind f) (frame_label f) h)
      ∙ rw (push_slots (frame_kind f) (map frame_kind fs) (length fs) (length-map fs frame_kind) h, push_slots (frame_label f) (map frame_label fs) (length fs) (length-map fs frame_label) h, add-one (length fs))

  module _ (h : length fs < 1104) where
    there : suc (length fs) ≡ 0 → ⊥
    there e = omega arith

    pub popped_held : popped_of (held (framed p (f ∷ fs))) ≡ held (framed p fs)
    popped_held =
        sym (popped_here (held (framed p (f ∷ fs))) there (omega arith))
        ∙ rw (less (length fs), pop_slots (frame_kind f) (map frame_kind fs) (length fs) (length-map fs frame_kind) h, pop_slots (frame_label f) (map frame_label fs) (length fs) (length-map fs frame_label) h)

    pub changed_held : (g : Frame) → frame_label g ≡ frame_label f → changed_of (held (framed p (f ∷ fs))) (frame_kind g) ≡ held (framed p (g ∷ fs))
    changed_held g e =
        sym (changed_here (held (framed p (f ∷ fs))) there (omega arith) (frame_kind g))
        ∙ rw (less (length fs), change_slots (frame_kind f) (map frame_kind fs) (length fs) (length-map fs frame_kind) (frame_kind g), e)

    pub top_of_slots : (g : Frame → ℕ) (none : ℕ) → top_at (slots (map g (f ∷ fs))) (suc (length fs)) none ≡ g f
    top_of_slots g none = sym (top_here (slots (map g (f ∷ fs))) (suc (length fs)) none there (omega arith)) ∙ rw (less (length fs)) (top_slots (g f) (map g fs) (length fs) (length-map fs g))

    pub top_held : top_in (held (framed p (f ∷ fs))) ≡ Some (record { kind = frame_kind f; label = frame_label f })
    unfolding top_in
    top_held =
        rw (
          some_here (suc (length fs)) there (omega arith),
          less (length fs),
          top_slots (frame_kind f) (map frame_kind fs) (length fs) (length-map fs frame_kind),
          top_slots (frame_label f) (map frame_label fs) (length fs) (length-map fs frame_label),
        )

pub top_held_none : (p : Place) → top_in (held (framed p [])) ≡ None
unfolding top_in
top_held_none p = rw (some_none 0 refl)
