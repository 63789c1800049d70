-- The computed reader answers what the file says, and each place and store has one file. Assumes nothing.
--     reading_sound     what is found in a file of bytes is what the file says
--     reading_complete  what a file says is found in it
--     malformed_reads   a malformed file says nothing; reads_nothing: and a file of bytes that says nothing is malformed
--     encode_injective  two different places or stores have different files
use mathlib.Core.Path.{◌≡◌, refl, sym, ap, ◌∙◌, subst}
use mathlib.Core.Bool.{true}
use mathlib.Core.List.{List, [], ◌∷◌, ◌++◌, flat_map}
use Prim.Native.Nat.{ℕ, zero, suc, ◌+◌, ◌*◌, ◌-◌, ◌/◌, ◌^◌, ◌≤◌, ◌<◌}
use native.Mathlib.Omega.{arith}
use lib.Dec.{leb}
use lib.IntN.{ℤ}
use lib.ListN.{length, get_or, drop, length-drop}
use lib.Seq.{drop-drop, drop_at, get_or-drop}
use borrow.Author.Tests.{le-leb, leb-true}
use Rattle.codes.specs.Codes.{bytes16, cell_bytes, word16, AllBytes}
use Rattle.codes.specs.Numbers.{cell_at}
use Rattle.codes.proofs.Digits.{number16}
use Rattle.codes.proofs.Rows.{short_lt, short_bytes, cell_fits, cell_bytes_lem, cell_back, two_bytes}
use Rattle.place.specs.Places.{Frame, frame_kind, frame_label, Place}
use Rattle.place.proofs.Held.{kind_of_lem, label_of, dir_of_lem, dir_back, frame_back, dir_small, kind_small}
use Rattle.session.specs.Session.{encode_store, encode, Fit, Reads}
use Rattle.session.specs.Parts.{encode_frames, encode_head, encode_cells, LabelsFit, CellsFit}
use Rattle.session.specs.Reader.{Reading, malformed, found, kinds_ok, frames_at, cells_from, place_at, cells_start, cell_count, cells_at, reading}
use Rattle.session.specs.Answers.{is_found}
use Rattle.session.proofs.Rows.{word_at, word_after}
use Rattle.session.proofs.Cases.{both, HeadRight, StoreRight, Right, all_found, found_is}
use Rattle.session.proofs.Saving.{length_cells}
use Rattle.session.proofs.Frames.{length_frames_at, length_encode_frames, length_encode}

-- ---- from the bytes to what they say
bytes_drop : (s : List ℕ) → AllBytes s → (k : ℕ) → AllBytes (drop k s)
bytes_drop s B k i = rw (get_or-drop k s i 0) (B (k + i))

room_left : (k n : ℕ) (s : List ℕ) → k + n ≤ length s → n ≤ length (drop k s)
room_left k n s h = rw (length-drop k s) (omega arith)

frames_say : (n : ℕ) (s : List ℕ) → AllBytes s → 4 * n ≤ length s → kinds_ok n s ≡ true → s ≡ encode_frames (frames_at n s) ++ drop (4 * n) s
unfolding kinds_ok frames_at flat_map
frames_say zero s B h e = refl
frames_say (suc n) s B h e =
    let t = both (leb (word16 s 0) 4) (kinds_ok n (drop 4 s)) e in
    let k : 4 + 4 * n ≡ 4 * suc n = omega arith in
    row s B (omega arith)
    ∙ ap (λ (l : List ℕ). bytes16 (word16 s 0) ++ bytes16 (word16 s 2) ++ l)
    (frames_say n (drop 4 s) (bytes_drop s B 4) (room_left 4 (4 * n) s (omega arith)) t.1 ∙ ap (λ (l : List ℕ). encode_frames (frames_at n (drop 4 s)) ++ l) (drop-drop (4 * n) 4 s ∙ ap (λ (m : ℕ). drop m s) k))
    ∙ rw (kind_of_lem (word16 s 0) (word16 s 2) (leb-true (word16 s 0) 4 t.0), label_of (word16 s 0) (word16 s 2))
  where
    row : (s : List ℕ) → AllBytes s → 4 ≤ length s → s ≡ bytes16 (word16 s 0) ++ bytes16 (word16 s 2) ++ drop 4 s
    row s B h = short_bytes s B 0 (omega arith) ∙ ap (λ (l : List ℕ). bytes16 (word16 s 0) ++ l) (short_bytes s B 2 (omega arith))

labels_fit : (n : ℕ) (s : List ℕ) → AllBytes s → LabelsFit (frames_at n s)
unfolding frames_at
labels_fit zero s B i = omega arith
labels_fit (suc n) s B zero = rw (label_of (word16 s 0) (word16 s 2)) (short_lt s B 2)
labels_fit (suc n) s B (suc i) = labels_fit n (drop 4 s) (bytes_drop s B 4) i

cells_say : (n : ℕ) (s : List ℕ) → AllBytes s → length s ≡ 4 * n → s ≡ encode_cells (cells_from n s)
unfolding cells_from flat_map
cells_say zero [] B h = refl
cells_say zero (x ∷ s) B h = absurd (omega arith)
cells_say (suc n) s B h =
    cell_bytes_lem s B 0 (omega arith) ∙ ap (λ (l : List ℕ). cell_bytes (cell_at s 0) ++ l) (cells_say n (drop 4 s) (bytes_drop s B 4) (length-drop 4 s ∙ omega arith))

cells_fit : (n : ℕ) (s : List ℕ) → AllBytes s → CellsFit (cells_from n s)
unfolding cells_from
cells_fit zero s B i = omega arith
cells_fit (suc n) s B zero = cell_fits s B 0
cells_fit (suc n) s B (suc i) = cells_fit n (drop 4 s) (bytes_drop s B 4) i

module _ (s : List ℕ) (B : AllBytes s) (y : Right s) where
  abbrev n : ℕ
  n = word16 s 10

  abbrev at : ℕ
  at = 12 + 4 * n

  head_says : s ≡ encode_head (get_or s 4 0) (word16 s 6) (word16 s 8) n ++ drop 12 s
  head_says =
      let h = y.head in
      short_bytes s B 0 (omega arith)
      ∙ ap (λ (l : List ℕ). bytes16 (word16 s 0) ++ l) (short_bytes s B 2 (omega arith))
      ∙ ap (λ (l : List ℕ). bytes16 (word16 s 0) ++ (bytes16 (word16 s 2) ++ l)) (two_bytes s 4 (omega arith))
      ∙ ap (λ (l : List ℕ). bytes16 (word16 s 0) ++ (bytes16 (word16 s 2) ++ (get_or s 4 0 ∷ get_or s 5 0 ∷ l)))
      (short_bytes s B 6 (omega arith) ∙ ap (λ (l : List ℕ). bytes16 (word16 s 6) ++ l) (short_bytes s B 8 (omega arith) ∙ ap (λ (l : List ℕ). bytes16 (word16 s 8) ++ l) (short_bytes s B 10 (omega arith))))
      ∙ (λ i. bytes16 (h.whole i) ++ (bytes16 (h.kind i) ++ (get_or s 4 0 ∷ h.spare i ∷ (bytes16 (word16 s 6) ++ (bytes16 (word16 s 8) ++ (bytes16 n ++ drop 12 s))))))

  count_fits : length s - cells_start s ≡ 4 * cell_count s
  count_fits = let k = y.store in let h = y.head in omega arith

  store_says : drop at s ≡ encode_store (cells_at s)
  store_says =
      let k = y.store in
      let h = y.head in
      let e : word16 s at ≡ 4 + 4 * length (cells_at s) = omega (arith, length_cells (cell_count s) (drop (cells_start s) s), count_fits) in
      short_bytes s B at (omega arith)
      ∙ ap (λ (l : List ℕ). bytes16 (word16 s at) ++ l) (short_bytes s B (at + 2) (omega arith))
      ∙ (λ i. bytes16 (e i) ++ (bytes16 (k.kind i) ++ drop (at + 2 + 2) s))
      ∙ ap (λ (l : List ℕ). bytes16 (4 + 4 * length (cells_at s)) ++ (bytes16 33 ++ l)) (rest ∙ cells_say (cell_count s) (drop (cells_start s) s) (bytes_drop s B (cells_start s)) (length-drop (cells_start s) s ∙ count_fits))
    where
      rest : drop (at + 2 + 2) s ≡ drop (cells_start s) s
      rest = let j : at + 2 + 2 ≡ cells_start s = omega arith in ap (λ (m : ℕ). drop m s) j

  file_says : s ≡ encode (place_at s) (cells_at s)
  file_says =
      let h = y.head in
      head_says
      ∙ ap (λ (l : List ℕ). encode_head (get_or s 4 0) (word16 s 6) (word16 s 8) n ++ l)
      (frames_say n (drop 12 s) (bytes_drop s B 12) (room_left 12 (4 * n) s (omega arith)) y.kinds ∙ ap (λ (l : List ℕ). encode_frames (frames_at n (drop 12 s)) ++ l) (drop-drop (4 * n) 12 s ∙ store_says))
      ∙ (λ i. encode_head (sym (dir_of_lem (get_or s 4 0) h.direction) i) (word16 s 6) (word16 s 8) (sym (length_frames_at n (drop 12 s)) i) ++ (encode_frames (frames_at n (drop 12 s)) ++ encode_store (cells_at s)))

  says : Reads s (place_at s) (cells_at s)
  says =
      let h = y.head in
      let k = y.store in
      record {
        fit = record {
          a = short_lt s B 6;
          b = short_lt s B 8;
          frames = omega (arith, length_frames_at n (drop 12 s));
          labels = labels_fit n (drop 12 s) (bytes_drop s B 12);
          count = omega (arith, length_cells (cell_count s) (drop (cells_start s) s), short_lt s B at);
          cells = cells_fit (cell_count s) (drop (cells_start s) s) (bytes_drop s B (cells_start s));
        };
        file = file_says;
      }

-- the parts of what is found
found_place : (p q : Place) (zs ys : List ℤ) → found p zs ≡ found q ys → p ≡ q
found_place p q zs ys e = cc

found_cells : (p q : Place) (zs ys : List ℤ) → found p zs ≡ found q ys → zs ≡ ys
found_cells p q zs ys e = cc

pub reading_sound : (s : List ℕ) → AllBytes s → (p : Place) (zs : List ℤ) → reading s ≡ found p zs → Reads s p zs
reading_sound s B p zs e =
    let it = found_is s (sym (ap is_found e)) in
    let x : found (place_at s) (cells_at s) ≡ found p zs = sym it.0 ∙ e in
    subst (λ (q : Place). Reads s q zs) (found_place (place_at s) p (cells_at s) zs x) (subst (λ (ys : List ℤ). Reads s (place_at s) ys) (found_cells (place_at s) p (cells_at s) zs x) (says s B it.1))

-- ---- from what a file says to the bytes
frames_found : (fs : List Frame) (rest : List ℕ) → LabelsFit fs → frames_at (length fs) (encode_frames fs ++ rest) ≡ fs
unfolding frames_at flat_map
frames_found [] rest f = refl
frames_found (g ∷ fs) rest f =
    let k : frame_kind g < 2 ^ 16 = omega (arith, kind_small g) in
    rw (number16 (frame_kind g) k, number16 (frame_label g) (f 0), frame_back g, frames_found fs rest (λ i. f (suc i)))

kinds_found : (fs : List Frame) (rest : List ℕ) → kinds_ok (length fs) (encode_frames fs ++ rest) ≡ true
unfolding kinds_ok flat_map
kinds_found [] rest = refl
kinds_found (g ∷ fs) rest =
    let k : frame_kind g < 2 ^ 16 = omega (arith, kind_small g) in
    rw (number16 (frame_kind g) k, le-leb (frame_kind g) 4 (kind_small g)) (kinds_found fs rest)

cells_found : (zs : List ℤ) → CellsFit zs → cells_from (length zs) (encode_cells zs) ≡ zs
unfolding cells_from flat_map
cells_found [] f = refl
cells_found (z ∷ zs) f = rw (cell_back (encode_cells (z ∷ zs)) 0 (encode_cells zs) z (f 0) refl, cells_found zs (λ i. f (suc i)))

module _ (p : Place) (zs : List ℤ) (y : Fit p zs) where
  abbrev file : List ℕ
  file = encode p zs

  abbrev m : ℕ
  m = length p.frames

  count_is : word16 file 10 ≡ m
  count_is = let x : m < 2 ^ 16 = omega (arith, y.frames) in number16 m x

  length_is : word16 file 0 ≡ 12 + 4 * m
  length_is = let x : 12 + 4 * m < 2 ^ 16 = omega (arith, y.frames) in number16 (12 + 4 * m) x

  tail_is : drop (12 + 4 * m) file ≡ encode_store zs
  tail_is = sym (drop-drop (4 * m) 12 file) ∙ drop_at (encode_frames p.frames) (encode_store zs) (4 * m) (length_encode_frames p.frames)

  cells_length : word16 file (12 + 4 * m) ≡ 4 + 4 * length zs
  cells_length = let x : 4 + 4 * length zs < 2 ^ 16 = omega (arith, y.count) in sym (word_at file (12 + 4 * m)) ∙ ap (λ (l : List ℕ). word16 l 0) tail_is ∙ number16 (4 + 4 * length zs) x

  kinds_there : kinds_ok (word16 file 10) (drop 12 file) ≡ true
  kinds_there = rw count_is (kinds_found p.frames (encode_store zs))

  head_there : HeadRight file
  head_there = let e = length_encode p zs in record { kind = refl; direction = dir_small p.d; spare = refl; count = omega (arith, count_is, y.frames); whole = omega (arith, count_is, length_is); room = omega (arith, count_is, e) }

  store_there : StoreRight file (12 + 4 * m)
  store_there =
      let e = length_encode p zs in
      record { kind = sym (word_after file (12 + 4 * m)) ∙ ap (λ (l : List ℕ). word16 l 2) tail_is; whole = omega (arith, e, cells_length); cells = omega (arith, cells_length) }

  place_found : place_at file ≡ p
  place_found = rw (count_is, number16 p.a y.a, number16 p.b y.b, dir_back p.d, frames_found p.frames (encode_store zs) y.labels)

  cells_there : cells_at file ≡ zs
  cells_there =
      let e = length_encode p zs in
      let k : (length file - (16 + 4 * m)) / 4 ≡ length zs = omega (arith, e) in
      ap (λ (j : ℕ). cells_from ((length file - (16 + 4 * j)) / 4) (drop (16 + 4 * j) file)) count_is
      ∙ (λ i. cells_from (k i) (start i)) ∙ cells_found zs y.cells
    where
      start : drop (16 + 4 * m) file ≡ encode_cells zs
      start = let j : 12 + 4 * m + 4 ≡ 16 + 4 * m = omega arith in ap (λ (i : ℕ). drop i file) (sym j) ∙ sym (drop-drop 4 (12 + 4 * m) file) ∙ ap (drop 4) tail_is

  pub reading_encode : reading (encode p zs) ≡ found p zs
  reading_encode =
      all_found file (record { head = head_there; kinds = kinds_there; store = rw count_is store_there })
      ∙ (λ i. found (place_found i) (cells_there i))

pub reading_complete : (s : List ℕ) (p : Place) (zs : List ℤ) → Reads s p zs → reading s ≡ found p zs
reading_complete s p zs y = ap reading y.file ∙ reading_encode p zs y.fit

-- ---- malformed
pub malformed_reads : (s : List ℕ) (p : Place) (zs : List ℤ) → reading s ≡ malformed → Reads s p zs → ⊥
malformed_reads s p zs e y = let x = reading_complete s p zs y in cc

pub reads_nothing : (s : List ℕ) → AllBytes s → ((p : Place) (zs : List ℤ) → Reads s p zs → ⊥) → reading s ≡ malformed
reads_nothing s B none = go (reading s) refl
  where
    go : (r : Reading) → reading s ≡ r → reading s ≡ malformed
    go malformed e = e
    go (found p zs) e = absurd (none p zs (reading_sound s B p zs e))

-- ---- one place and store for a file
pub encode_injective : (p q : Place) (zs ys : List ℤ) → Fit p zs → Fit q ys → encode p zs ≡ encode q ys → (p ≡ q) × (zs ≡ ys)
encode_injective p q zs ys f g e =
    let x : found p zs ≡ found q ys = sym (reading_encode p zs f) ∙ ap reading e ∙ reading_encode q ys g in
    (found_place p q zs ys x, found_cells p q zs ys x)
