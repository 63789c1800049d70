-- What reading and saving answer, in the terms that the code has in hand. Assumes nothing.
use mathlib.Core.Path.{◌≡◌, refl, sym, ap, ◌∙◌}
use mathlib.Core.Bool.{Bool, true, false}
use mathlib.Core.List.{List, ◌++◌, append-nil}
use Prim.Native.Nat.{ℕ, zero, suc, ◌+◌, ◌*◌, ◌≤◌, ◌<◌}
use native.Mathlib.Omega.{arith}
use lib.Dec.{leb}
use lib.IntN.{ℤ}
use lib.ListN.{length, drop}
use lib.Seq.{sets, sets-eq, drop-length}
use borrow.Author.Tests.{le-leb, lt-leb, eq-eqb, ne_eqb, leb-true, leb-false}
use Rattle.std.proofs.Common.{Option, Some, None}
use Rattle.codes.specs.Codes.{word16}
use Rattle.place.specs.declared.Place.{Place as Held}
use Rattle.place.specs.Slots.{Plain, seen, plain_of}
use Rattle.place.proofs.Held.{decided, plain_of_lem, plain_count, length_frames}
use Rattle.session.specs.Session.{encode, encode_store}
use Rattle.session.specs.Reader.{Reading, malformed, found, place_at, cells_at, cell_count, cells_from, reading}
use Rattle.session.specs.Answers.{is_found, place_of, count_of, filled, size_of, saved_of, written_of, laid, held_at}
use Rattle.session.proofs.Writing.{on}
use Rattle.session.proofs.Cases.{Right, found_is}
use Rattle.session.proofs.Frames.{held_at_lem, place_bytes, encode_seen, length_encode, length_slot_bytes}

-- ---- reading
pub length_cells : (n : ℕ) (s : List ℕ) → length (cells_from n s) ≡ n
unfolding cells_from
length_cells zero s = refl
length_cells (suc n) s = ap suc (length_cells n (drop 4 s))

-- all of a list replaced
all_of : (st zs : List ℤ) → length zs ≡ length st → sets st 0 zs ≡ zs
all_of st zs e =
    let at : 0 + length zs ≡ length st = omega arith in
    sets-eq zs st 0 (omega arith) ∙ ap (λ (k : ℕ). zs ++ drop k st) at ∙ ap (λ (r : List ℤ). zs ++ r) (drop-length st) ∙ append-nil zs

-- of no file
pub not_found : (r : Reading) → false ≡ is_found r → r ≡ malformed
not_found malformed e = refl
not_found (found p zs) e = absurd cc

pub not_counted : (r : Reading) → None ≡ count_of r → r ≡ malformed
not_counted malformed e = refl
not_counted (found p zs) e = absurd cc

counted : (r : Reading) (n : ℕ) → Some n ≡ count_of r → true ≡ is_found r
counted malformed n e = absurd cc
counted (found p zs) n e = refl

module _ (s : List ℕ) where
  module _ (e : false ≡ is_found (reading s)) where
    pub place_none : None ≡ place_of (reading s)
    place_none = ap place_of (sym (not_found (reading s) e))

    pub count_none : None ≡ count_of (reading s)
    count_none = ap count_of (sym (not_found (reading s) e))

  module _ (e : true ≡ is_found (reading s)) where
    it : (reading s ≡ found (place_at s) (cells_at s)) × Right s
    it = found_is s e

    pub few_frames : word16 s 10 ≤ 1104
    few_frames = it.1.head.count

    pub cells_within : 16 + 4 * word16 s 10 ≤ length s
    cells_within = it.1.head.room

    pub place_is : Some (held_at s) ≡ place_of (reading s)
    place_is = ap Some (held_at_lem s it.1) ∙ ap place_of (sym it.0)

    pub count_is : Some (cell_count s) ≡ count_of (reading s)
    count_is = ap Some (sym (length_cells (cell_count s) _)) ∙ ap count_of (sym it.0)

  pub fill_none : None ≡ count_of (reading s) → (st : List ℤ) → st ≡ filled (reading s) st
  fill_none e st = ap (λ (r : Reading). filled r st) (sym (not_counted (reading s) e))

  module _ (n : ℕ) (e : Some n ≡ count_of (reading s)) where
    there : true ≡ is_found (reading s)
    there = counted (reading s) n e

    pub cells_start_few : 16 + 4 * word16 s 10 ≤ 65536
    cells_start_few = omega (arith, few_frames there)

    n_is : n ≡ cell_count s
    n_is = let x : ◌≡◌ {A = Option ℕ} (Some n) (Some (cell_count s)) = e ∙ sym (count_is there) in cc

    cells_are : length (cells_at s) ≡ n
    cells_are = length_cells (cell_count s) _ ∙ sym n_is

    module _ (st : List ℤ) where
      pub fill_other : (n ≡ length st → ⊥) → st ≡ filled (reading s) st
      fill_other h = sym (ap (λ (r : Reading). filled r st) (it there).0 ∙ rw (ne_eqb _ _ (λ y. h (sym cells_are ∙ y))))

      pub fill_is : n ≡ length st → (m : ℕ) → m ≡ word16 s 10 → (out : List ℤ) → out ≡ sets st 0 (cells_from (length st) (drop (16 + 4 * m) s)) → out ≡ filled (reading s) st
      fill_is h m x out y =
          y ∙ ap (λ (m : ℕ). sets st 0 (cells_from (length st) (drop (16 + 4 * m) s))) x ∙ ap (λ (k : ℕ). sets st 0 (cells_from k (drop (16 + 4 * word16 s 10) s))) (sym h ∙ n_is) ∙ all_of st (cells_at s) (cells_are ∙ h)
          ∙ sym (ap (λ (r : Reading). filled r st) (it there).0 ∙ rw (eq-eqb _ _ (cells_are ∙ h)))

-- ---- saving
-- what `put_session` answers and leaves
abbrev pub Puts : Option ℕ → List ℕ → List ℕ → Option (List ℕ) → Type 0
Puts r out buf f = (r ≡ written_of f) × (out ≡ laid buf f)

module _ (h : Held) (zs : List ℤ) (buf : List ℕ) where
  pub puts_unplain : (Plain h → ⊥) → Puts None buf buf (saved_of h zs buf)
  unfolding saved_of
  puts_unplain n = rw (decided (Plain h) (plain_of h) false (plain_of_lem h) n) (refl, refl)

  module _ (y : Plain h) where
    is_plain : plain_of h ≡ true
    is_plain = decided (Plain h) (plain_of h) true (plain_of_lem h) y

    pub plain_room : h.count ≤ 1104
    plain_room = plain_count h y

    few : length zs ≤ 16382 → size_of h.count (length zs) ≡ Some (16 + 4 * h.count + 4 * length zs)
    unfolding size_of
    few k = rw (le-leb _ _ plain_room, le-leb _ _ k)

    many : 16382 < length zs → size_of h.count (length zs) ≡ None
    unfolding size_of
    many k = rw (le-leb _ _ plain_room, lt-leb _ _ k)

    pub puts_no_size : None ≡ size_of h.count (length zs) → Puts None buf buf (saved_of h zs buf)
    unfolding saved_of
    puts_no_size e = go (leb (length zs) 16382) refl
      where
        go : (b : Bool) → leb (length zs) 16382 ≡ b → Puts None buf buf (saved_of h zs buf)
        go false x = rw (is_plain, x) (refl, refl)
        go true x = let z = few (leb-true _ _ x) in absurd cc

    module _ (size : ℕ) (e : Some size ≡ size_of h.count (length zs)) where
      pub few_cells : length zs ≤ 16382
      few_cells = go (leb (length zs) 16382) refl
        where
          go : (b : Bool) → leb (length zs) 16382 ≡ b → length zs ≤ 16382
          go true x = leb-true _ _ x
          go false x = let z = many (leb-false _ _ x) in absurd cc

      pub size_is : size ≡ 16 + 4 * h.count + 4 * length zs
      size_is = let z = few few_cells in cc

      length_is : length (encode (seen h) zs) ≡ size
      length_is = length_encode (seen h) zs ∙ ap (λ (n : ℕ). 16 + 4 * n + 4 * length zs) (length_frames h.count h.kinds h.labels) ∙ sym size_is

      pub puts_no_room : length buf < size → Puts None buf buf (saved_of h zs buf)
      unfolding saved_of
      puts_no_room r = rw (is_plain, le-leb _ _ few_cells, length_is, lt-leb _ _ r) (refl, refl)

      pub puts_file : size ≤ length buf → (m out : List ℕ) → m ≡ sets buf 0 (place_bytes h) → out ≡ sets m (12 + 4 * h.count) (encode_store zs) → Puts (Some size) out buf (saved_of h zs buf)
      unfolding saved_of
      puts_file r m out p q =
          let x : length (encode (seen h) zs) ≤ length buf = omega (arith, length_is) in
          let at : 12 + 4 * h.count ≡ 0 + length (place_bytes h) = omega (arith, length_slot_bytes h.count h.kinds h.labels) in
          rw (is_plain, le-leb _ _ few_cells, le-leb _ _ x)
          (ap Some (sym length_is), on buf m out 0 (12 + 4 * h.count) (place_bytes h) (encode_store zs) at p q ∙ ap (sets buf 0) (sym (encode_seen h zs y)))
