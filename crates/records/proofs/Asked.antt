-- One record: what `wrong_at` answers is what `Wrong` says, and none where the record is formed and within the sizes.
--     fine_record, record_fine    none: the bytes start with such a record, and the other way
--     asked_wrong, wrong_asked    a reason: `Wrong` says it, and the other way
--     encode_unique               bytes start with one formed record at most
use mathlib.Core.Path.{◌≡◌, refl, sym, ap, ◌∙◌}
use mathlib.Core.List.{List, ◌++◌}
use mathlib.Core.Bool.{Bool, true, false, ◌||◌, true≢false}
use mathlib.Core.Logic.{◌⊎◌, inl, inr, ⊎_elim}
use Prim.Native.Nat.{ℕ, ◌+◌, ◌^◌, ◌≤◌, ◌<◌}
use native.Mathlib.Nat.{add-zero, add_assoc}
use native.Mathlib.Omega.{arith}
use borrow.Author.Tests.{ltb-true, ltb-false, le-ltb, eqb-true, eqb-false, ne_eqb}
use lib.Dec.{ltb, eqb}
use lib.ListN.{length, drop, length-drop, length-take, take-append-drop}
use lib.Seq.{get_or-drop, take-append_seam}
use Rattle.codes.specs.Codes.{bytes16, AllBytes}
use Rattle.codes.proofs.Rows.{short_lt}
use Rattle.std.proofs.lemmas.Bool.{cond_both, or_parts, true_from_ne_false, false_from_ne_true}
use Rattle.std.proofs.Common.{Option, Some, None}
use Rattle.refusals.specs.declared.Reason.{Reason}
use Rattle.refusals.specs.declared.Reason.TheVariants as reason
use Rattle.records.specs.Records.{Record, kind, body, encode_record, Formed, InSize}
use Rattle.records.specs.Faults.{word, Cut, Unknown, Starts, Wrong, cut, unknown, malformed, oversize}
use Rattle.records.specs.Walk.{stride, kind_at}
use Rattle.records.specs.Reading.{stop, record_at, formed_at, sized_at, cut_at, unknown_at, wrong_at}
use Rattle.records.proofs.Bytes.{Lies, lies_short, lies_join, front_rest}
use Rattle.records.proofs.Offsets.{kind_small, size_of, word_is, kind_is, next_is, room_is}
use Rattle.records.proofs.Sound.{sound_body}
use Rattle.records.proofs.Complete.{complete_body}
use Rattle.records.proofs.Sizes.{in_size, size_in}

-- ---- the reason by the four questions
module _ (f : List ℕ) (at k b : ℕ) (P : Option Reason → Type 0) where
  pub asked_cases : (cut_at f at ≡ true → P (Some reason.Cut))
      → (cut_at f at ≡ false → unknown_at f at ≡ true → P (Some reason.UnknownKind))
      → (cut_at f at ≡ false → unknown_at f at ≡ false → formed_at f at ≡ false → P (Some reason.Malformed))
      → (cut_at f at ≡ false → unknown_at f at ≡ false → formed_at f at ≡ true → sized_at f at k b ≡ false → P (Some reason.Oversize))
      → (cut_at f at ≡ false → unknown_at f at ≡ false → formed_at f at ≡ true → sized_at f at k b ≡ true → P None)
      → P (wrong_at f at k b)
  unfolding wrong_at
  asked_cases two three four five fine =
      cond_both _ _ _ P two (λ c. cond_both _ _ _ P (three c) (λ u. cond_both _ _ _ P (λ g. cond_both _ _ _ P (fine c u g) (five c u g)) (four c u)))

-- ---- 2 and 3 as tests and as facts, at the bytes from a position on
pub word_drop : (f : List ℕ) (at k : ℕ) → word (drop at f) k ≡ word f (at + k)
word_drop f at k = rw (get_or-drop at f k 0, get_or-drop at f (k + 1) 0, add_assoc at k 1)

module _ (f : List ℕ) (at : ℕ) where
  abbrev Framed : Type 0
  Framed = (4 ≤ word f at) × (stop f at ≤ length f)

  word_first : word (drop at f) 0 ≡ word f at
  word_first = rw add-zero at (word_drop f at 0)

  framed : cut_at f at ≡ false → Framed
  unfolding cut_at
  framed e =
      let x = or_parts (ltb (length f) (at + 4)) _ e in
      let y = or_parts (ltb (word f at) 4) _ x.1 in
      (ltb-false (word f at) 4 y.0, ltb-false (length f) (stop f at) y.1)

  not_cut : Framed → cut_at f at ≡ false
  unfolding cut_at
  not_cut h = rw (le-ltb (length f) (at + 4) (omega arith), le-ltb (word f at) 4 h.0, le-ltb (length f) (stop f at) h.1)

  framed_cut : Framed → Cut (drop at f) → ⊥
  framed_cut h c =
      let l = length-drop at f in
      let w = word_first in
      ⊎_elim (λ a. omega arith) (λ z. ⊎_elim (λ b. omega arith) (λ c. omega arith) z) c.1

  is_cut : at < length f → cut_at f at ≡ true → Cut (drop at f)
  unfolding cut_at
  is_cut h e =
      let l = length-drop at f in
      (omega arith, go (ltb (length f) (at + 4)) (ltb (word f at) 4) refl refl e)
    where
      go : (a b : Bool) → ltb (length f) (at + 4) ≡ a → ltb (word f at) 4 ≡ b → a || (b || ltb (length f) (stop f at)) ≡ true
          → (length (drop at f) < 4) ⊎ ((word (drop at f) 0 < 4) ⊎ (length (drop at f) < word (drop at f) 0))
      go true b p q e = let l = length-drop at f in let x = ltb-true (length f) (at + 4) p in inl (omega arith)
      go false true p q e = let x = ltb-true (word f at) 4 q in inr (inl (omega (arith, word_first)))
      go false false p q e = let l = length-drop at f in let x = ltb-true (length f) (stop f at) e in inr (inr (omega (arith, word_first)))

  word_second : word (drop at f) 2 ≡ kind_at f at
  word_second = word_drop f at 2

  abbrev Known : Type 0
  Known = (1 ≤ kind_at f at) × (kind_at f at ≤ 13)

  known : unknown_at f at ≡ false → Known
  unfolding unknown_at
  known e =
      let x = or_parts (eqb (kind_at f at) 0) _ e in
      let z = eqb-false (kind_at f at) 0 x.0 in
      (omega arith, ltb-false 13 (kind_at f at) x.1)

  not_unknown : Known → unknown_at f at ≡ false
  unfolding unknown_at
  not_unknown h = rw (ne_eqb (kind_at f at) 0 (λ e. omega arith), le-ltb 13 (kind_at f at) h.1)

  known_unknown : Known → Unknown (drop at f) → ⊥
  known_unknown h u = ⊎_elim (λ e. omega (arith, word_second)) (λ e. omega (arith, word_second)) u

  is_unknown : unknown_at f at ≡ true → Unknown (drop at f)
  unfolding unknown_at
  is_unknown e = go (eqb (kind_at f at) 0) refl e
    where
      go : (a : Bool) → eqb (kind_at f at) 0 ≡ a → a || ltb 13 (kind_at f at) ≡ true → Unknown (drop at f)
      go true p e = inl (word_second ∙ eqb-true (kind_at f at) 0 p)
      go false p e = let x = ltb-true 13 (kind_at f at) e in inr (omega (arith, word_second))

-- ---- 4 as a test and as a fact: what is found formed is a record's bytes
head_is : (r : Record) (w k : ℕ) → 4 + length (body r) ≡ w → kind r ≡ k → encode_record r ≡ bytes16 w ++ (bytes16 k ++ body r)
unfolding encode_record
head_is r w k p q = rw (p, q)

module _ (f : List ℕ) (B : AllBytes f) (at : ℕ) where
  whole_record : Framed f at → Known f at → formed_at f at ≡ true → Formed (record_at f at) × ((kind_at f at ≡ kind (record_at f at)) × Lies f at (encode_record (record_at f at)) (stop f at))
  whole_record fr kn e =
      let z = sound_body f B at fr.1 (kind_at f at) kn.0 kn.1 e in
      let n : 4 + length (body (record_at f at)) ≡ word f at = omega (arith, z.lies.ends) in
      let four : at + 2 + 2 ≡ at + 4 = omega arith in (
        z.formed,
        (
          sym z.kinds,
          rw (head_is (record_at f at) (word f at) (kind_at f at) n z.kinds)
              (lies_join f at (at + 2) (stop f at) (bytes16 (word f at)) _ (lies_short f B at (omega arith))
              (lies_join f (at + 2) (at + 4) (stop f at) (bytes16 (kind_at f at)) _ (rw four at (lies_short f B (at + 2) (omega arith))) z.lies)),
        ),
      )

-- where a formed record stands, it is found formed and read as that record
module _ (f : List ℕ) (at : ℕ) (r : Record) (x : List ℕ) (h : Formed r) (short : length (encode_record r) < 2 ^ 16) (D : drop at f ≡ encode_record r ++ x) where
  found : (formed_at f at ≡ true) × (record_at f at ≡ r)
  unfolding encode_record
  found =
      let w = word_is f at r x short D in
      let s = size_of r in
      rw (kind_is f at r x short D) (complete_body f at x r h (front_rest f at 4 _ D) (omega arith))

  pub read_back : record_at f at ≡ r
  read_back = found.1

  frames : Framed f at
  frames = omega (arith, word_is f at r x short D, size_of r, room_is f at r x short D)

  knows : Known f at
  knows = omega (arith, kind_is f at r x short D, kind_small r)

-- ---- `Starts` and what stands there
module _ (f : List ℕ) (at : ℕ) (r : Record) where
  starts_short : AllBytes f → Starts (drop at f) r → length (encode_record r) < 2 ^ 16
  starts_short B s = omega (arith, ap length s, length-take (word (drop at f) 0) (drop at f), word_first f at, short_lt f B at)

  starts_front : Starts (drop at f) r → drop at f ≡ encode_record r ++ drop (word (drop at f) 0) (drop at f)
  starts_front s = sym (take-append-drop (word (drop at f) 0) (drop at f)) ∙ ap (λ (l : List ℕ). l ++ drop (word (drop at f) 0) (drop at f)) s

  front_starts : (x : List ℕ) → length (encode_record r) < 2 ^ 16 → drop at f ≡ encode_record r ++ x → Starts (drop at f) r
  front_starts x short D =
      let w : word (drop at f) 0 ≡ length (encode_record r) = word_first f at ∙ word_is f at r x short D in
      rw (w, D) (take-append_seam (encode_record r) x)

-- ---- one record at most
pub encode_unique : (r r' : Record) (x y : List ℕ) → Formed r → Formed r' → length (encode_record r) < 2 ^ 16 → length (encode_record r') < 2 ^ 16
    → encode_record r ++ x ≡ encode_record r' ++ y → (r ≡ r') × (x ≡ y)
encode_unique r r' x y h h' s s' e =
    let f = encode_record r ++ x in
    (sym (read_back f 0 r x h s refl) ∙ read_back f 0 r' y h' s' e, sym (next_is f 0 r x s refl) ∙ next_is f 0 r' y s' e)

-- ---- none: a formed record within the sizes
pub record Good (f : List ℕ) (at k b : ℕ) (r : Record) : Type 0 where
  pub formed : Formed r
  pub sized : InSize k b r
  pub there : drop at f ≡ encode_record r ++ drop (at + stride f at) f
  pub kinds : kind_at f at ≡ kind r

module _ (f : List ℕ) (B : AllBytes f) (at k b : ℕ) where
  pub fine_record : wrong_at f at k b ≡ None → Good f at k b (record_at f at)
  fine_record =
      asked_cases f at k b (λ n. n ≡ None → Good f at k b (record_at f at)) (λ c e. cc) (λ c u e. cc) (λ c u g e. cc) (λ c u g s e. cc)
      (λ c u g s e. fine (framed f at c) (known f at u) g s)
    where
      fine : Framed f at → Known f at → formed_at f at ≡ true → sized_at f at k b ≡ true → Good f at k b (record_at f at)
      fine fr kn g s =
          let z = whole_record f B at fr kn g in
          let n : stop f at ≡ at + stride f at = omega arith in
          record { formed = z.0; sized = in_size f at k b (kind_at f at) kn.0 kn.1 s; there = rw n at z.1.1.there; kinds = z.1.0 }

  module _ (r : Record) (x : List ℕ) (h : Formed r) (short : length (encode_record r) < 2 ^ 16) (D : drop at f ≡ encode_record r ++ x) where
    size_back : InSize k b r → sized_at f at k b ≡ true
    size_back s =
        let kn = knows f at r x h short D in
        size_in f at k b (kind_at f at) kn.0 kn.1 (rw (read_back f at r x h short D) s)

    back_size : sized_at f at k b ≡ true → InSize k b r
    back_size s =
        let kn = knows f at r x h short D in
        rw (read_back f at r x h short D) at (in_size f at k b (kind_at f at) kn.0 kn.1 s)

    pub record_fine : InSize k b r → wrong_at f at k b ≡ None
    unfolding wrong_at
    record_fine s =
        rw (not_cut f at (frames f at r x h short D), not_unknown f at (knows f at r x h short D), (found f at r x h short D).0, size_back s)

  -- ---- a reason
  record Found : Type 0 where
    formed : Formed (record_at f at)
    short : length (encode_record (record_at f at)) < 2 ^ 16
    there : drop at f ≡ encode_record (record_at f at) ++ drop (stop f at) f
    starts : Starts (drop at f) (record_at f at)

  starts_record : Framed f at → Known f at → formed_at f at ≡ true → Found
  starts_record fr kn g =
      let z = whole_record f B at fr kn g in
      let l : length (encode_record (record_at f at)) < 2 ^ 16 = omega (arith, z.1.1.ends, short_lt f B at) in
      record { formed = z.0; short = l; there = z.1.1.there; starts = front_starts f at (record_at f at) _ l z.1.1.there }

  pub asked_wrong : at < length f → (r : Reason) → wrong_at f at k b ≡ Some r → Wrong k b (drop at f) r
  asked_wrong h r =
      asked_cases f at k b (λ w. w ≡ Some r → Wrong k b (drop at f) r) (λ c e. is e (cut (is_cut f at h c)))
      (λ c u e. is e (unknown some (framed_cut f at (framed f at c)) (is_unknown f at u)))
      (λ c u g e. is e (malformed some (framed_cut f at (framed f at c)) (known_unknown f at (known f at u)) (none g)))
      (λ c u g s e. is e (over (framed f at c) (known f at u) g s))
      (λ c u g s e. cc)
    where
      is : {q : Reason} → ◌≡◌ {A = Option Reason} (Some q) (Some r) → Wrong k b (drop at f) q → Wrong k b (drop at f) r
      is {q} e w = let same : q ≡ r = cc in rw same at w

      some : 0 < length (drop at f)
      some = omega (arith, length-drop at f)

      none : formed_at f at ≡ false → (r : Record) → Formed r → Starts (drop at f) r → ⊥
      none g r h s = true≢false (sym (found f at r _ h (starts_short f at r B s) (starts_front f at r s)).0 ∙ g)

      over : Framed f at → Known f at → formed_at f at ≡ true → sized_at f at k b ≡ false → Wrong k b (drop at f) reason.Oversize
      over fr kn g s =
          let z = starts_record fr kn g in
          oversize (record_at f at) some (framed_cut f at fr) z.formed z.starts
          (λ i. true≢false (sym (size_back (record_at f at) _ z.formed z.short z.there i) ∙ s))

  pub wrong_asked : {r : Reason} → Wrong k b (drop at f) r → wrong_at f at k b ≡ Some r
  unfolding wrong_at
  wrong_asked (cut c) = rw (true_from_ne_false (cut_at f at) (λ e. framed_cut f at (framed f at e) c))
  wrong_asked (unknown h c u) =
      let l : at < length f = omega (arith, length-drop at f) in
      rw (false_from_ne_true (cut_at f at) (λ e. c (is_cut f at l e)), true_from_ne_false (unknown_at f at) (λ e. known_unknown f at (known f at e) u))
  wrong_asked (malformed h c u none) =
      let l : at < length f = omega (arith, length-drop at f) in
      let x = false_from_ne_true (cut_at f at) (λ e. c (is_cut f at l e)) in
      let y = false_from_ne_true (unknown_at f at) (λ e. u (is_unknown f at e)) in
      let z = false_from_ne_true (formed_at f at) (λ e. let g = starts_record (framed f at x) (known f at y) e in none (record_at f at) g.formed g.starts) in
      rw (x, y, z)
  wrong_asked (oversize r h c g s big) =
      let D = starts_front f at r s in
      let l = starts_short f at r B s in
      let z = false_from_ne_true (sized_at f at k b) (λ e. big (back_size r _ g l D e)) in
      rw (not_cut f at (frames f at r _ g l D), not_unknown f at (knows f at r _ g l D), (found f at r _ g l D).0, z)
