-- What each function of `session` answers, and what it leaves in the lent slice. Assumes nothing: these are definitions.
use Rattle.std.specs.Prelude.{ℕ, zero, suc, ◌+◌, ◌*◌, Bool, true, false, cond, List, [], ◌∷◌, ◌++◌, eqb, leb, ℤ, length, get_or, drop, Option, Some, None}
use Rattle.std.proofs.lemmas.List.Edits.{sets}
use Rattle.codes.specs.Codes.{bytes16, word16}
use Rattle.place.specs.declared.Place.{Place as Held}
use Rattle.place.specs.Slots.{slots, held, seen, plain_of}
use Rattle.session.specs.Session.{encode}
use Rattle.session.specs.Reader.{Reading, malformed, found}

-- ---- reading
abbrev pub is_found : Reading → Bool
is_found malformed = false
is_found (found p zs) = true

-- "a refused reading returns no place"
abbrev pub place_of : Reading → Option Held
place_of malformed = None
place_of (found p zs) = Some (held p)

-- how many cells there are
abbrev pub count_of : Reading → Option ℕ
count_of malformed = None
count_of (found p zs) = Some (length zs)

-- the cells of the file where it has as many as the store lent, else the store as it was
abbrev pub filled : Reading → List ℤ → List ℤ
filled malformed st = st
filled (found p zs) st = cond (eqb (length zs) (length st)) zs st

-- ---- saving
-- the bytes of a file with so many frames and cells, where there is one such
unfoldable pub size_of : ℕ → ℕ → Option ℕ
size_of n m = cond (leb n 1104) (cond (leb m 16382) (Some (16 + 4 * n + 4 * m)) None) None

-- the bytes that are saved: the file of the place held and the store, where there is one and the buffer has room
unfoldable pub saved_of : Held → List ℤ → List ℕ → Option (List ℕ)
saved_of h zs buf =
    cond (plain_of h)
    (cond (leb (length zs) 16382)
    (cond (leb (length (encode (seen h) zs)) (length buf)) (Some (encode (seen h) zs)) None) None) None

-- how many they are, and the buffer with them at its front
abbrev pub written_of : Option (List ℕ) → Option ℕ
written_of None = None
written_of (Some file) = Some (length file)

abbrev pub laid : List ℕ → Option (List ℕ) → List ℕ
laid buf None = buf
laid buf (Some file) = sets buf 0 file

-- ---- of use inside
-- the bytes of the first n slots, innermost frame first
unfoldable pub slot_bytes : ℕ → List ℕ → List ℕ → List ℕ
slot_bytes zero ks ls = []
slot_bytes (suc n) ks ls = bytes16 (get_or ks n 0) ++ bytes16 (get_or ls n 0) ++ slot_bytes n ks ls

-- the first u16 of each of n rows of four bytes
unfoldable pub column : ℕ → List ℕ → List ℕ
column zero s = []
column (suc n) s = word16 s 0 ∷ column n (drop 4 s)

-- the struct that the bytes of a file give
unfoldable pub held_at : List ℕ → Held
held_at s = record {
  direction = get_or s 4 0;
  a = word16 s 6;
  b = word16 s 8;
  count = word16 s 10;
  kinds = slots (column (word16 s 10) (drop 12 s));
  labels = slots (column (word16 s 10) (drop 14 s));
}
