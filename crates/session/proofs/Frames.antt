-- Frames in a file and frames in slots. Assumes nothing.
--     held_at_lem        the struct that a file's bytes give holds the place that they give
--     encode_seen    the file of the place seen in a struct, from the struct's own fields
--     length_encode  how long a file is
use mathlib.Core.Path.{◌≡◌, refl, sym, ap}
use mathlib.Core.Bool.{true}
use mathlib.Core.List.{List, [], ◌∷◌, ◌++◌, map, flat_map}
use Prim.Native.Nat.{ℕ, zero, suc, ◌+◌, ◌*◌, ◌≤◌, ◌<◌}
use native.Mathlib.Omega.{arith}
use lib.Dec.{leb}
use lib.IntN.{ℤ}
use lib.ListN.{length, get_or, drop, length-append}
use lib.Seq.{drop-drop}
use borrow.Author.Tests.{leb-true}
use Rattle.codes.specs.Codes.{word16}
use Rattle.place.specs.declared.Place.{Place as Held}
use Rattle.place.specs.Places.{Frame, frame_kind, frame_label, Place}
use Rattle.place.specs.Slots.{held, Plain, frames_in, seen}
use Rattle.place.proofs.Held.{kind_of_lem, label_of, dir_of_lem, length_frames, plain_kind, plain_direction}
use Rattle.session.specs.Session.{encode_store, encode}
use Rattle.session.specs.Parts.{encode_frames, encode_head, encode_cells}
use Rattle.session.specs.Reader.{kinds_ok, frames_at, place_at}
use Rattle.session.specs.Answers.{slot_bytes, column, held_at}
use Rattle.session.proofs.Rows.{word_at}
use Rattle.session.proofs.Cases.{both, Right}

-- ---- from the bytes of a file
pub length_frames_at : (n : ℕ) (s : List ℕ) → length (frames_at n s) ≡ n
unfolding frames_at
length_frames_at zero s = refl
length_frames_at (suc n) s = ap suc (length_frames_at n (drop 4 s))

kinds_column : (n : ℕ) (s : List ℕ) → kinds_ok n s ≡ true → map frame_kind (frames_at n s) ≡ column n s
unfolding kinds_ok frames_at column
kinds_column zero s e = refl
kinds_column (suc n) s e =
    let t = both (leb (word16 s 0) 4) (kinds_ok n (drop 4 s)) e in
    rw (kind_of_lem (word16 s 0) (word16 s 2) (leb-true (word16 s 0) 4 t.0), kinds_column n (drop 4 s) t.1)

labels_column : (n : ℕ) (s : List ℕ) → map frame_label (frames_at n s) ≡ column n (drop 2 s)
unfolding frames_at column
labels_column zero s = refl
labels_column (suc n) s = rw (label_of (word16 s 0) (word16 s 2), word_at s 2, labels_column n (drop 4 s), drop-drop 2 4 s, drop-drop 4 2 s)

pub held_at_lem : (s : List ℕ) → Right s → held_at s ≡ held (place_at s)
unfolding held_at
held_at_lem s y =
    sym (rw (dir_of_lem (get_or s 4 0) y.head.direction, kinds_column (word16 s 10) (drop 12 s) y.kinds, labels_column (word16 s 10) (drop 12 s), drop-drop 2 12 s, length_frames_at (word16 s 10) (drop 12 s)))

-- ---- from the slots of a struct
slots_frames : (n : ℕ) (ks ls : List ℕ) → ((k : ℕ) → k < n → get_or ks k 0 ≤ 4) → encode_frames (frames_in n ks ls) ≡ slot_bytes n ks ls
unfolding frames_in slot_bytes flat_map
slots_frames zero ks ls small = refl
slots_frames (suc n) ks ls small =
    rw (kind_of_lem (get_or ks n 0) (get_or ls n 0) (small n (omega arith)), label_of (get_or ks n 0) (get_or ls n 0), slots_frames n ks ls (λ k h. small k (omega arith)))

pub length_slot_bytes : (n : ℕ) (ks ls : List ℕ) → length (slot_bytes n ks ls) ≡ 4 * n
unfolding slot_bytes
length_slot_bytes zero ks ls = refl
length_slot_bytes (suc n) ks ls = omega (arith, length_slot_bytes n ks ls)

abbrev pub place_bytes : Held → List ℕ
place_bytes h = encode_head h.direction h.a h.b h.count ++ slot_bytes h.count h.kinds h.labels

pub encode_seen : (h : Held) (zs : List ℤ) → Plain h → encode (seen h) zs ≡ place_bytes h ++ encode_store zs
encode_seen h zs y =
    rw (dir_of_lem h.direction (plain_direction h y), length_frames h.count h.kinds h.labels, slots_frames h.count h.kinds h.labels (plain_kind h y))

-- ---- lengths
pub length_encode_frames : (fs : List Frame) → length (encode_frames fs) ≡ 4 * length fs
unfolding flat_map
length_encode_frames [] = refl
length_encode_frames (f ∷ fs) = omega (arith, length_encode_frames fs)

pub length_encode_cells : (zs : List ℤ) → length (encode_cells zs) ≡ 4 * length zs
unfolding flat_map
length_encode_cells [] = refl
length_encode_cells (z ∷ zs) = omega (arith, length_encode_cells zs)

pub length_encode : (p : Place) (zs : List ℤ) → length (encode p zs) ≡ 16 + 4 * length p.frames + 4 * length zs
length_encode p zs = omega (arith, length-append (encode_frames p.frames) (encode_store zs), length_encode_frames p.frames, length_encode_cells zs)
