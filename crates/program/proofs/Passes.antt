-- A pass over the records of a row finds what the document says: the first record of which a test says no, or none.
use Rattle.std.proofs.Common.{ℕ, zero, suc, ◌^◌, ◌<◌, ◌≡◌, refl, sym, ap, ◌∙◌, List, [], ◌∷◌, Bool, true, false, cond, not, Some, None, length, get_or, arith}
use Rattle.std.specs.List.{position_or_len}
use Rattle.std.proofs.lemmas.Bool.{not-false, not-true}
use Rattle.std.proofs.lemmas.List.Quantifiers.{position-Some}
use Rattle.std.proofs.lemmas.List.Sums.{position_or_len_is, fails_before_first}
use borrow.Author.Tests.{lt-ltb, le-ltb, ltb-false}
use lib.Dec.{ltb}
use Rattle.records.specs.Records.{Record, skip, Formed, FineFrom}
use Rattle.records.specs.Reading.{free, there}
use Rattle.program.specs.Says.{FirstNot, All}
use Rattle.records.specs.Faults.{Rows}
use Rattle.records.specs.Walk.{offsets}
use Rattle.names.specs.Names.{there_at, free_at, first_not}
use Rattle.records.proofs.Offsets.{offsets_of, record_at_lem, short_is}
use Rattle.program.proofs.Named.{there_at_lem, free_at_lem}

-- ---- over positions alone
module _ (test : ℕ → Bool) (os : List ℕ) where
  abbrev fails : ℕ → Bool
  fails o = not (test o)

  abbrev where_first : ℕ
  where_first = position_or_len fails os

  -- test is true of the positions before k
  abbrev Before : ℕ → Type 0
  Before k = (i : ℕ) → i < k → test (get_or os i 0) ≡ true

  first_is : (k : ℕ) → k < length os → Before k → test (get_or os k 0) ≡ false → first_not test os ≡ Some k
  first_is k h b n =
      let w : where_first ≡ k = position_or_len_is fails os k 0 (omega arith) (λ i l. ap not (b i l)) (λ l. ap not n) in
      rw (w, lt-ltb k (length os) h)

  none_is : Before (length os) → first_not test os ≡ None
  none_is b =
      let w : where_first ≡ length os = position_or_len_is fails os (length os) 0 (omega arith) (λ i l. ap not (b i l)) (λ l. absurd (omega arith)) in
      rw (w, le-ltb (length os) (length os) (omega arith))

  is_first : (k : ℕ) → first_not test os ≡ Some k → (k < length os) × Before k × (test (get_or os k 0) ≡ false)
  is_first k e = let s = position-Some fails os k 0 e in (s.0, λ i h. not-false (test (get_or os i 0)) (s.2 i h), not-true (test (get_or os k 0)) s.1)

  is_none : first_not test os ≡ None → Before (length os)
  is_none e i h = not-false (test (get_or os i 0)) (fails_before_first fails os i 0 (go (ltb where_first (length os)) refl e))
    where
      go : (b : Bool) → ltb where_first (length os) ≡ b → cond b (Some where_first) None ≡ None → i < where_first
      go true l e = cc
      go false l e = let k = ltb-false where_first (length os) l in omega arith

-- ---- over a row of records
pub formed_at_lem : (rs : List Record) (k b j : ℕ) → FineFrom k b rs → j < length rs → Formed (get_or rs j skip)
unfolding FineFrom
formed_at_lem [] k b j F h = absurd (omega arith)
formed_at_lem (r ∷ rs) k b zero F h = F.0
formed_at_lem (r ∷ rs) k b (suc j) F h = formed_at_lem rs (suc k) _ j F.1.1 (omega arith)

module _ (f : List ℕ) (rs : List Record) (R : Rows f rs) where
  small : length f < 2 ^ 16
  small = omega (arith, R.short)

  count : length (offsets f) ≡ length rs
  count = offsets_of f rs small R.bytes

  module _ (j : ℕ) (h : j < length rs) where
    pub there_is : (v a p : ℕ) → there_at f (get_or (offsets f) j 0) v a p ≡ there v a p (get_or rs j skip)
    there_is v a p =
        let D = record_at_lem f rs small R.bytes j h in
        there_at_lem f _ _ v a p (get_or rs j skip) (formed_at_lem rs 0 0 j R.fine h) (short_is f small (get_or (offsets f) j 0) _ _ D) D

    pub free_is : free_at f (get_or (offsets f) j 0) ≡ free (get_or rs j skip)
    free_is =
        let D = record_at_lem f rs small R.bytes j h in
        free_at_lem f _ _ (get_or rs j skip) (formed_at_lem rs 0 0 j R.fine h) (short_is f small (get_or (offsets f) j 0) _ _ D) D

  -- a test of positions that agrees with a test of records
  module _ (test : ℕ → Bool) (q : Record → Bool) (same : (j : ℕ) → j < length rs → test (get_or (offsets f) j 0) ≡ q (get_or rs j skip)) where
    pub first_at_lem : (k : ℕ) → FirstNot q rs k → first_not test (offsets f) ≡ Some k
    first_at_lem k F =
        let w = F.within in
        first_is test (offsets f) k (omega (arith, count)) (λ i h. same i (omega arith) ∙ F.before i h) (same k w ∙ F.here)

    pub first_none : All q rs → first_not test (offsets f) ≡ None
    first_none A = none_is test (offsets f) (λ i h. let l : i < length rs = omega (arith, count) in same i l ∙ A i l)

    pub at_first : (k : ℕ) → first_not test (offsets f) ≡ Some k → FirstNot q rs k
    at_first k e =
        let s = is_first test (offsets f) k e in
        let w : k < length rs = omega (arith, s.0, count) in
        record { within = w; before = λ j h. sym (same j (omega arith)) ∙ s.1 j h; here = sym (same k w) ∙ s.2 }

    pub none_first : first_not test (offsets f) ≡ None → All q rs
    none_first e j h = sym (same j h) ∙ is_none test (offsets f) e j (omega (arith, count))
