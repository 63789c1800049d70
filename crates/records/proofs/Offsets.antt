-- The walk over a row of records finds where each record starts and of which kind it is: framing alone, whatever the bodies.
--     offsets_past, offsets_more, offsets_capped     of any file, position by position
--     offsets_of     one offset for each record
--     record_at_lem      at the offset of record k stands record k, then the others
--     kinds_of       the kinds at the offsets are the records' kinds
use mathlib.Core.Path.{◌≡◌, refl, sym, ap, ◌∙◌}
use mathlib.Core.List.{List, [], ◌∷◌, ◌++◌, map}
use Prim.Native.Nat.{ℕ, zero, suc, ◌+◌, ◌-◌, ◌^◌, ◌≤◌, ◌<◌, min}
use native.Mathlib.Omega.{arith}
use borrow.Author.Tests.{lt-ltb, le-ltb, ltb-true, ltb-false}
use lib.ListN.{length, drop, get_or, length-append, length-drop}
use lib.Seq.{drop-cons}
use lib.Dec.{ltb}
use mathlib.Core.Bool.{Bool, true, false, cond}
use Rattle.records.specs.Records.{Every, Record, names, begin, end, assign, if, else, fi, from, loop, until, call, uncall, skip, kind, body, encode_record, bytes_of}
use Rattle.records.specs.Faults.{word}
use Rattle.records.specs.Walk.{stride, kind_at, offsets, offsets_from, kinds_at}
use Rattle.codes.proofs.Rows.{short_back}
use Rattle.records.proofs.Bytes.{front_rest, after, room}

-- ---- any file: the offsets from a position on
pub offsets_past : (m : ℕ) (f : List ℕ) (at : ℕ) → length f ≤ at → offsets_from m f at ≡ []
unfolding offsets_from
offsets_past zero f at h = refl
offsets_past (suc m) f at h = rw (le-ltb at (length f) h)

pub offsets_more : (m : ℕ) (f : List ℕ) (at : ℕ) → at < length f → offsets_from (suc m) f at ≡ at ∷ offsets_from m f (at + stride f at)
unfolding offsets_from
offsets_more m f at h = rw (lt-ltb at (length f) h)

-- The next position may as well stop at the end of the file, as the code's does.
pub offsets_capped : (m : ℕ) (f : List ℕ) (at : ℕ) → at < length f → offsets_from (suc m) f at ≡ at ∷ offsets_from m f (min (length f) (at + stride f at))
offsets_capped m f at h = offsets_more m f at h ∙ ap (◌∷◌ at) (go (at + stride f at) (ltb (at + stride f at) (length f)) refl)
  where
    go : (i : ℕ) (b : Bool) → ltb i (length f) ≡ b → offsets_from m f i ≡ offsets_from m f (min (length f) i)
    go i true e = let k = ltb-true i (length f) e in ap (λ j. offsets_from m f j) (omega arith)
    go i false e = let k = ltb-false i (length f) e in offsets_past m f i k ∙ sym (offsets_past m f (min (length f) i) (omega arith))

-- There are no more records than turns.
pub offsets_few : (m : ℕ) (f : List ℕ) (at : ℕ) → length (offsets_from m f at) ≤ m
unfolding offsets_from
offsets_few zero f at = omega arith
offsets_few (suc m) f at = go (ltb at (length f)) (offsets_few m f (at + stride f at))
  where
    go : (b : Bool) → length (offsets_from m f (at + stride f at)) ≤ m → length (cond b (at ∷ offsets_from m f (at + stride f at)) []) ≤ suc m
    go true i = omega arith
    go false i = omega arith

-- Each stands before the end.
pub offsets_inside : (m : ℕ) (f : List ℕ) (at : ℕ) → Every (λ o. o < length f) (offsets_from m f at)
unfolding offsets_from
offsets_inside zero f at = tt
offsets_inside (suc m) f at = go (ltb at (length f)) refl (offsets_inside m f (at + stride f at))
  where
    go : (b : Bool) → ltb at (length f) ≡ b → Every (λ o. o < length f) (offsets_from m f (at + stride f at))
        → Every (λ o. o < length f) (cond b (at ∷ offsets_from m f (at + stride f at)) [])
    go true e i = (ltb-true at (length f) e, i)
    go false e i = tt

-- As many turns as there are bytes are enough.
same : (n m : ℕ) (f : List ℕ) (at : ℕ) → length f ≤ at + n → length f ≤ at + m → offsets_from n f at ≡ offsets_from m f at
unfolding offsets_from
same zero m f at h k = sym (offsets_past m f at (omega arith))
same (suc n) zero f at h k = offsets_past (suc n) f at (omega arith)
same (suc n) (suc m) f at h k = rw (same n m f (at + stride f at) (omega arith) (omega arith))

abbrev pub offsets_at : List ℕ → ℕ → List ℕ
offsets_at f at = offsets_from (length f - at) f at

module _ (f : List ℕ) where
  pub offsets_all : offsets f ≡ offsets_at f 0
  unfolding offsets
  offsets_all = same (length f) (length f - 0) f 0 (omega arith) (omega arith)

  pub offsets_step : (at : ℕ) → at < length f → offsets_at f at ≡ at ∷ offsets_at f (at + stride f at)
  offsets_step at h =
      same (length f - at) (suc (length f - at)) f at (omega arith) (omega arith)
      ∙ (offsets_more (length f - at) f at h ∙ ap (◌∷◌ at) (same (length f - at) (length f - (at + stride f at)) f (at + stride f at) (omega arith) (omega arith)))

-- ---- what the walk of `Offsets` has left
module _ (f : List ℕ) (at : ℕ) where
  pub left_none : length f ≤ at → offsets_from (length f) f at ≡ []
  left_none h = offsets_past (length f) f at h

  pub left_next : at < length f → offsets_from (length f) f at ≡ at ∷ offsets_from (length f) f (at + stride f at)
  left_next h = same (length f) (suc (length f)) f at (omega arith) (omega arith) ∙ offsets_more (length f) f at h

  pub left_less : at < length f → length (offsets_from (length f) f (at + stride f at)) < length (offsets_from (length f) f at)
  left_less h = omega (arith, ap length (left_next h))

-- the cases, for `Offsets`
pub ruleset leaving = (left_none, left_next, left_less)

-- ---- a row of records: where each starts
unfoldable starts_from : ℕ → List Record → List ℕ
starts_from at [] = []
starts_from at (r ∷ rs) = at ∷ starts_from (at + length (encode_record r)) rs

pub kind_small : (r : Record) → (1 ≤ kind r) × (kind r ≤ 13)
unfolding kind
kind_small (names v ls) = omega arith
kind_small begin = omega arith
kind_small end = omega arith
kind_small (assign o t e) = omega arith
kind_small (if e) = omega arith
kind_small else = omega arith
kind_small (fi e) = omega arith
kind_small (from e) = omega arith
kind_small loop = omega arith
kind_small (until e) = omega arith
kind_small (call q) = omega arith
kind_small (uncall q) = omega arith
kind_small skip = omega arith

pub size_of : (r : Record) → length (encode_record r) ≡ 4 + length (body r)
unfolding encode_record
size_of r = omega arith

-- the head of a record that two bytes can tell the length of
module _ (f : List ℕ) (at : ℕ) (r : Record) (x : List ℕ) (short : length (encode_record r) < 2 ^ 16) (D : drop at f ≡ encode_record r ++ x) where
  pub word_is : word f at ≡ length (encode_record r)
  unfolding encode_record
  word_is = short_back f at _ (4 + length (body r)) (omega (arith, size_of r)) D ∙ sym (size_of r)

  pub stride_is : stride f at ≡ length (encode_record r)
  stride_is = omega (arith, word_is, size_of r)

  pub kind_is : kind_at f at ≡ kind r
  unfolding encode_record
  kind_is = short_back f (at + 2) _ (kind r) (omega (arith, kind_small r)) (front_rest f at 2 _ D)

  pub next_is : drop (at + stride f at) f ≡ x
  next_is = rw stride_is (after f at (encode_record r) x D)

  pub room_is : at + length (encode_record r) + length x ≤ length f
  room_is = omega (arith, simp length-append at (room f at (encode_record r ++ x) D (simp length-append (omega (arith, size_of r)))))

module _ (f : List ℕ) (short : length f < 2 ^ 16) where
  module _ (at : ℕ) (r : Record) (x : List ℕ) (D : drop at f ≡ encode_record r ++ x) where
    pub short_is : length (encode_record r) < 2 ^ 16
    short_is = omega (arith, room f at (encode_record r ++ x) D (simp length-append (omega (arith, size_of r))), length-append (encode_record r) x)

  starts_are : (rs : List Record) (at : ℕ) → drop at f ≡ bytes_of rs → offsets_at f at ≡ starts_from at rs
  unfolding bytes_of starts_from
  starts_are [] at D = offsets_past (length f - at) f at (omega (arith, simp length-drop at (ap length D)))
  starts_are (r ∷ rs) at D =
      let s = short_is at r _ D in
      let h : at < length f = omega (arith, room_is f at r _ s D, size_of r) in
      offsets_step f at h ∙ ap (◌∷◌ at) (starts_are rs (at + stride f at) (next_is f at r _ s D) ∙ rw (stride_is f at r _ s D))

  -- at the start of record k, the others follow
  drop_starts : (rs : List Record) (at k : ℕ) → k < length rs → drop at f ≡ bytes_of rs → drop (get_or (starts_from at rs) k 0) f ≡ bytes_of (drop k rs)
  unfolding bytes_of starts_from
  drop_starts [] at k h D = absurd (omega arith)
  drop_starts (r ∷ rs) at zero h D = D
  drop_starts (r ∷ rs) at (suc k) h D = drop_starts rs (at + length (encode_record r)) k (omega arith) (after f at (encode_record r) (bytes_of rs) D)

  kinds_at_lem : (rs : List Record) (at : ℕ) → drop at f ≡ bytes_of rs → kinds_at f (starts_from at rs) ≡ map kind rs
  unfolding bytes_of starts_from kinds_at
  kinds_at_lem [] at D = refl
  kinds_at_lem (r ∷ rs) at D =
      rw (kind_is f at r (bytes_of rs) (short_is at r _ D) D, kinds_at_lem rs (at + length (encode_record r)) (after f at (encode_record r) (bytes_of rs) D))

length_starts : (rs : List Record) (at : ℕ) → length (starts_from at rs) ≡ length rs
unfolding starts_from
length_starts [] at = refl
length_starts (r ∷ rs) at = ap suc (length_starts rs (at + length (encode_record r)))

module _ (f : List ℕ) (rs : List Record) (short : length f < 2 ^ 16) (row : f ≡ bytes_of rs) where
  all_starts : offsets f ≡ starts_from 0 rs
  all_starts = offsets_all f ∙ starts_are f short rs 0 row

  pub offsets_of : length (offsets f) ≡ length rs
  offsets_of = ap length all_starts ∙ length_starts rs 0

  pub kinds_of : kinds_at f (offsets f) ≡ map kind rs
  kinds_of = rw all_starts (kinds_at_lem f short rs 0 row)

  pub rest_at : (k : ℕ) → k < length rs → drop (get_or (offsets f) k 0) f ≡ bytes_of (drop k rs)
  rest_at k h = rw all_starts (drop_starts f short rs 0 k h row)

  pub record_at_lem : (k : ℕ) → k < length rs → drop (get_or (offsets f) k 0) f ≡ encode_record (get_or rs k skip) ++ bytes_of (drop (suc k) rs)
  unfolding bytes_of
  record_at_lem k h = rest_at k h ∙ ap bytes_of (drop-cons rs k skip h)
