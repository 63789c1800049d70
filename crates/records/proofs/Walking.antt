-- The walk over the records in turn: `walk_of` answers what Faults says of refusals 2 to 5.
--     walk_fine, fine_walk      every record is fine: the file is a row of records
--     walk_wrong, wrong_walk    the first record that is wrong, behind a row of fine ones
--     rows_unique               bytes are those of one row at most
use mathlib.Core.Path.{◌≡◌, refl, sym, ap, ◌∙◌}
use mathlib.Core.List.{List, [], ◌∷◌, ◌++◌, append_assoc, append-nil}
use mathlib.Core.Bool.{Bool, true, false, cond}
use Prim.Native.Nat.{ℕ, zero, suc, ◌+◌, ◌-◌, ◌^◌, ◌≤◌, ◌<◌}
use native.Mathlib.Nat.{add-zero, zero-add}
use native.Mathlib.Omega.{arith}
use borrow.Author.Tests.{ltb-true, ltb-false}
use lib.Dec.{ltb}
use lib.ListN.{length, drop, length-append, drop_of_length-le}
use Rattle.std.proofs.Common.{Option, Some, None, Result, Ok, Err}
use Rattle.refusals.specs.declared.Reason.{Reason}
use Rattle.refusals.specs.declared.Refusal.{Refusal}
use Rattle.codes.specs.Codes.{AllBytes}
use Rattle.records.specs.Records.{Record, kind, encode_record, bytes_of, FineFrom, begins, is_begin}
use Rattle.records.specs.Faults.{Wrong, cut, unknown, malformed, oversize}
use Rattle.records.specs.Walk.{stride, kind_at, offsets, offsets_from}
use Rattle.records.specs.Reading.{record_at, wrong_at, fine, faulty, walked, walk_over, walk_of}
use Rattle.records.specs.declared.Walked.{Walked}
use Rattle.records.proofs.Bytes.{after, room}
use Rattle.records.proofs.Offsets.{offsets_at, offsets_past, offsets_all, offsets_step, offsets_few, size_of, stride_is, kind_is, next_is, room_is, short_is}
use Rattle.records.proofs.Asked.{Good, fine_record, record_fine, asked_wrong, wrong_asked, encode_unique}

-- ---- any file: one turn of the walk
abbrev pub walk_at : List ℕ → ℕ → ℕ → ℕ → Result Walked Refusal
walk_at f at k b = walk_over f (offsets_at f at) k b

module _ (f : List ℕ) where
  pub walk_all : walk_of f ≡ walk_at f 0 0 0
  unfolding walk_of
  walk_all = ap (λ os. walk_over f os 0 0) (offsets_all f)

  pub walk_end : (at k b : ℕ) → length f ≤ at → walk_at f at k b ≡ fine k b
  unfolding walk_over
  walk_end at k b h = rw (offsets_past (length f - at) f at h)

  module _ (at k b : ℕ) (h : at < length f) where
    abbrev on : Result Walked Refusal
    on = walk_at f (at + stride f at) (suc k) (b + is_begin (kind_at f at))

    walk_turn : walk_at f at k b ≡ walked (wrong_at f at k b) k on
    unfolding walk_over
    walk_turn = rw (offsets_step f at h)

    pub walk_on : wrong_at f at k b ≡ None → walk_at f at k b ≡ on
    walk_on e = walk_turn ∙ rw e

    pub walk_stop : (r : Reason) → wrong_at f at k b ≡ Some r → walk_at f at k b ≡ faulty r k
    walk_stop r e = walk_turn ∙ rw e

-- ---- the walk over positions in hand, for the code's loop
module _ (f ats : List ℕ) (k b : ℕ) where
  pub over_none : ats ≡ [] → walk_over f ats k b ≡ fine k b
  unfolding walk_over
  over_none e = rw e

  module _ (at : ℕ) (on : List ℕ) (e : ats ≡ at ∷ on) where
    pub over_on : wrong_at f at k b ≡ None → walk_over f ats k b ≡ walk_over f on (suc k) (b + is_begin (kind_at f at))
    unfolding walk_over
    over_on w = rw (e, w)

    pub over_stop : (r : Reason) → wrong_at f at k b ≡ Some r → walk_over f ats k b ≡ faulty r k
    unfolding walk_over
    over_stop r w = rw (e, w)

pub ruleset walking = (over_none, over_on, over_stop, offsets_few)

-- ---- what the walk finds
pub record AllFine (f : List ℕ) (at k b k' b' : ℕ) : Type 0 where
  pub rows : List Record
  pub bytes : drop at f ≡ bytes_of rows
  pub fine : FineFrom k b rows
  pub count : k' ≡ k + length rows
  pub begun : b' ≡ b + begins rows

pub record FirstWrong (f : List ℕ) (at k b : ℕ) (r : Reason) (k' : ℕ) : Type 0 where
  pub rows : List Record
  pub rest : List ℕ
  pub bytes : drop at f ≡ bytes_of rows ++ rest
  pub fine : FineFrom k b rows
  pub count : k' ≡ k + length rows
  pub wrong : Wrong (k + length rows) (b + begins rows) rest r

abbrev Outcome : List ℕ → ℕ → ℕ → ℕ → Result Walked Refusal → Type 0
Outcome f at k b (Ok w) = AllFine f at k b w.records w.procedures
Outcome f at k b (Err w) = FirstWrong f at k b w.reason w.label

module _ (f : List ℕ) (B : AllBytes f) where
  -- a fine record before
  before : (at k b : ℕ) (r : Record) → Good f at k b r → (w : Result Walked Refusal) → Outcome f (at + stride f at) (suc k) (b + is_begin (kind_at f at)) w → Outcome f at k b w
  unfolding bytes_of FineFrom begins
  before at k b r g (Ok w) o =
      let e = ap is_begin g.kinds in
      record {
        rows = r ∷ o.rows;
        bytes = g.there ∙ ap (◌++◌ (encode_record r)) o.bytes;
        fine = (g.formed, (g.sized, rw e at o.fine));
        count = omega (arith, o.count);
        begun = omega (arith, o.begun, e);
      }
  before at k b r g (Err w) o =
      let e = ap is_begin g.kinds in
      let c : suc k + length o.rows ≡ k + length (r ∷ o.rows) = omega arith in
      let d : b + is_begin (kind_at f at) + begins o.rows ≡ b + (is_begin (kind r) + begins o.rows) = omega (arith, e) in
      record {
        rows = r ∷ o.rows;
        rest = o.rest;
        bytes = g.there ∙ ap (◌++◌ (encode_record r)) o.bytes ∙ sym (append_assoc (encode_record r) (bytes_of o.rows) o.rest);
        fine = (g.formed, (g.sized, rw e at o.fine));
        count = o.count ∙ c;
        wrong = rw (c, d) at o.wrong;
      }

  -- nothing before
  ended : (at k b : ℕ) → length f ≤ at → AllFine f at k b k b
  unfolding bytes_of FineFrom begins
  ended at k b h =
      record { rows = []; bytes = drop_of_length-le f h; fine = tt; count = sym (add-zero k); begun = sym (add-zero b) }

  stopped : (at k b : ℕ) (r : Reason) → Wrong k b (drop at f) r → FirstWrong f at k b r k
  unfolding bytes_of FineFrom begins
  stopped at k b r w =
      record { rows = []; rest = drop at f; bytes = refl; fine = tt; count = sym (add-zero k); wrong = rw (add-zero k, add-zero b) w }

  module _ (at k b : ℕ) (w : Result Walked Refusal) (o : Outcome f (at + stride f at) (suc k) (b + is_begin (kind_at f at)) w) where
    asked : at < length f → (r : Option Reason) → wrong_at f at k b ≡ r → Outcome f at k b (walked r k w)
    asked l None e = before at k b (record_at f at) (fine_record f B at k b e) w o
    asked l (Some r) e = stopped at k b r (asked_wrong f B at k b l r e)

  turned : (at k b : ℕ) (ats : List ℕ) → Outcome f (at + stride f at) (suc k) (b + is_begin (kind_at f at)) (walk_over f ats (suc k) (b + is_begin (kind_at f at)))
      → (t : Bool) → ltb at (length f) ≡ t → Outcome f at k b (walk_over f (cond t (at ∷ ats) []) k b)
  unfolding walk_over
  turned at k b ats o true e = asked at k b (walk_over f ats (suc k) (b + is_begin (kind_at f at))) o (ltb-true at (length f) e) (wrong_at f at k b) refl
  turned at k b ats o false e = ended at k b (ltb-false at (length f) e)

  walk_finds : (n at k b : ℕ) → length f ≤ at + n → Outcome f at k b (walk_over f (offsets_from n f at) k b)
  unfolding walk_over offsets_from
  walk_finds zero at k b h = ended at k b (omega arith)
  walk_finds (suc n) at k b h =
      turned at k b (offsets_from n f (at + stride f at))
      (walk_finds n (at + stride f at) (suc k) (b + is_begin (kind_at f at)) (omega arith))
      (ltb at (length f))
      refl

  -- the file is a row of fine records
  pub walk_fine : (k b : ℕ) → walk_of f ≡ fine k b
      → (rs : List Record) × (f ≡ bytes_of rs) × FineFrom 0 0 rs × (k ≡ length rs) × (b ≡ begins rs)
  unfolding walk_of offsets
  walk_fine k b e =
      let z : AllFine f 0 0 0 k b = rw e at (walk_finds (length f) 0 0 0 (omega arith)) in
      (z.rows, z.bytes, z.fine, z.count ∙ zero-add (length z.rows), z.begun ∙ zero-add (begins z.rows))

  -- or a record is wrong, behind a row of fine ones
  pub walk_wrong : (r : Reason) (k : ℕ) → walk_of f ≡ faulty r k
      → (rs : List Record) × (rest : List ℕ) × (f ≡ bytes_of rs ++ rest) × FineFrom 0 0 rs × (k ≡ length rs) × Wrong (length rs) (begins rs) rest r
  unfolding walk_of offsets
  walk_wrong r k e =
      let z : FirstWrong f 0 0 0 r k = rw e at (walk_finds (length f) 0 0 0 (omega arith)) in
      (z.rows, z.rest, z.bytes, z.fine, z.count ∙ zero-add (length z.rows), rw (zero-add (length z.rows), zero-add (begins z.rows)) at z.wrong)

-- ---- and the other way
some_rest : {k b : ℕ} {r : Reason} {rest : List ℕ} → Wrong k b rest r → 0 < length rest
some_rest (cut c) = c.0
some_rest (unknown h c u) = h
some_rest (malformed h c u g) = h
some_rest (oversize r h c g s i) = h

module _ (f : List ℕ) (B : AllBytes f) (short : length f < 2 ^ 16) where
  -- over a row of fine records
  rows_walk : (rs : List Record) (rest : List ℕ) (at k b : ℕ) → drop at f ≡ bytes_of rs ++ rest → FineFrom k b rs
      → walk_at f at k b ≡ walk_at f (at + length (bytes_of rs)) (k + length rs) (b + begins rs)
  unfolding bytes_of FineFrom begins
  rows_walk [] rest at k b D h = rw (add-zero at, add-zero k, add-zero b)
  rows_walk (r ∷ rs) rest at k b D h =
      let x = bytes_of rs ++ rest in
      let D1 : drop at f ≡ encode_record r ++ x = D ∙ append_assoc (encode_record r) (bytes_of rs) rest in
      let s = short_is f short at r x D1 in
      let l : at < length f = omega (arith, room_is f at r x s D1, size_of r) in
      let g = record_fine f B at k b r x h.0 s D1 h.1.0 in
      let e : kind_at f at ≡ kind r = kind_is f at r x s D1 in
      let i = rows_walk rs rest (at + stride f at) (suc k) (b + is_begin (kind_at f at)) (next_is f at r x s D1) (rw e h.1.1) in
      let p : at + stride f at + length (bytes_of rs) ≡ at + length (encode_record r ++ bytes_of rs) = omega (arith, stride_is f at r x s D1, length-append (encode_record r) (bytes_of rs)) in
      let q : suc k + length rs ≡ k + length (r ∷ rs) = omega arith in
      let u : b + is_begin (kind_at f at) + begins rs ≡ b + (is_begin (kind r) + begins rs) = omega (arith, ap is_begin e) in
      walk_on f at k b l g ∙ i ∙ rw (p, q, u)

  pub fine_walk : (rs : List Record) → f ≡ bytes_of rs → FineFrom 0 0 rs → walk_of f ≡ fine (length rs) (begins rs)
  fine_walk rs e h =
      let n : 0 + length (bytes_of rs) ≡ length f = omega (arith, ap length e) in
      walk_all f
      ∙ rows_walk rs [] 0 0 0 (e ∙ sym (append-nil (bytes_of rs))) h
      ∙ walk_end f (0 + length (bytes_of rs)) (0 + length rs) (0 + begins rs) (omega arith)
      ∙ rw (zero-add (length rs), zero-add (begins rs))

  pub wrong_walk : (r : Reason) (rs : List Record) (rest : List ℕ) → f ≡ bytes_of rs ++ rest → FineFrom 0 0 rs → Wrong (length rs) (begins rs) rest r → walk_of f ≡ faulty r (length rs)
  wrong_walk r rs rest e h w =
      let at = length (bytes_of rs) in
      let D : drop at f ≡ rest = rw zero-add at (after f 0 (bytes_of rs) rest e) in
      let l : at < length f = omega (arith, some_rest w, room f at rest D (some_rest w)) in
      walk_all f
      ∙ rows_walk rs rest 0 0 0 e h
      ∙ rw (zero-add at, zero-add (length rs), zero-add (begins rs))
      (walk_stop f at (length rs) (begins rs) l r (wrong_asked f B at (length rs) (begins rs) (rw D w)))

-- ---- one row at most
pub rows_unique : (rs rs' : List Record) (k b k' b' : ℕ) → length (bytes_of rs) < 2 ^ 16 → FineFrom k b rs → FineFrom k' b' rs' → bytes_of rs ≡ bytes_of rs' → rs ≡ rs'
unfolding bytes_of FineFrom
rows_unique [] [] k b k' b' s h h' e = refl
rows_unique [] (r ∷ rs) k b k' b' s h h' e = absurd (omega (arith, simp length-append at (ap length e), size_of r))
rows_unique (r ∷ rs) [] k b k' b' s h h' e = absurd (omega (arith, simp length-append at (ap length e), size_of r))
rows_unique (r ∷ rs) (r' ∷ rs') k b k' b' s h h' e =
    let l = length-append (encode_record r) (bytes_of rs) in
    let l' = length-append (encode_record r') (bytes_of rs') in
    let u = encode_unique r r' (bytes_of rs) (bytes_of rs') h.0 h'.0 (omega arith) (omega (arith, ap length e)) e in
    let i = rows_unique rs rs' (suc k) (b + is_begin (kind r)) (suc k') (b' + is_begin (kind r')) (omega arith) h.1.1 h'.1.1 u.1 in
    rw (u.0, i)
