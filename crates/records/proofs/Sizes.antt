-- The sizes as tests and as facts: the two agree.
use mathlib.Core.Path.{◌≡◌, refl, ap}
use mathlib.Core.List.{List, [], ◌∷◌}
use mathlib.Core.Bool.{Bool, true, ◌&&◌}
use Prim.Native.Nat.{ℕ, ◌+◌, ◌≤◌, ◌<◌}
use native.Mathlib.Omega.{arith}
use borrow.Author.Tests.{ltb-true, lt-ltb, leb-true, le-leb}
use lib.Dec.{leb, ltb}
use lib.ListN.{length}
use Rattle.std.proofs.lemmas.Bool.{and_parts}
use Rattle.records.specs.Records.{Record, names, begin, kind, Every, InSize, sum}
use Rattle.records.specs.Reading.{lengths_fit, names_fit, sized_as, record_as}
use Rattle.records.proofs.Thirteen.{kind_cases}

pub and_both : (a b : Bool) → a ≡ true → b ≡ true → a && b ≡ true
and_both a b p q = rw p q

abbrev Lengths : List ℕ → Type 0
Lengths ls = Every (λ n. (1 ≤ n) × (n ≤ 1024)) ls

lengths_fit_lem : (ls : List ℕ) → lengths_fit ls ≡ true → Lengths ls
unfolding lengths_fit
lengths_fit_lem [] e = tt
lengths_fit_lem (n ∷ ns) e =
    let x = and_parts (leb 1 n && leb n 1024) (lengths_fit ns) e in
    let y = and_parts (leb 1 n) (leb n 1024) x.0 in
    ((leb-true 1 n y.0, leb-true n 1024 y.1), lengths_fit_lem ns x.1)

fit_lengths : (ls : List ℕ) → Lengths ls → lengths_fit ls ≡ true
unfolding lengths_fit
fit_lengths [] h = refl
fit_lengths (n ∷ ns) h = and_both _ _ (and_both _ _ (le-leb 1 n h.0.0) (le-leb n 1024 h.0.1)) (fit_lengths ns h.1)

module _ (v : ℕ) (ls : List ℕ) where
  abbrev Sizes : Type 0
  Sizes = (v ≤ 64) × ((length ls ≤ 16) × (Lengths ls × (v + sum ls ≤ 2048)))

  names_fit_lem : names_fit v ls ≡ true → Sizes
  unfolding names_fit
  names_fit_lem e =
      let x = and_parts (leb v 64) _ e in
      let y = and_parts (leb (length ls) 16) _ x.1 in
      let z = and_parts (lengths_fit ls) _ y.1 in
      (leb-true v 64 x.0, (leb-true (length ls) 16 y.0, (lengths_fit_lem ls z.0, leb-true (v + sum ls) 2048 z.1)))

  fit_names : Sizes → names_fit v ls ≡ true
  unfolding names_fit
  fit_names h =
      and_both _ _ (le-leb v 64 h.0)
      (and_both _ _ (le-leb (length ls) 16 h.1.0) (and_both _ _ (fit_lengths ls h.1.1.0) (le-leb (v + sum ls) 2048 h.1.1.1)))

same_sizes : (v w : ℕ) (ls ms : List ℕ) → Sizes v ls → names v ls ≡ names w ms → Sizes w ms
same_sizes v w ls ms h e =
    let p : v ≡ w = cc in
    let q : ls ≡ ms = cc in
    rw (← p, ← q) h

module _ (k b : ℕ) where
  -- NAMES, BEGIN, and the eleven others
  names_size : (v : ℕ) (ls : List ℕ) → k < 1024 → Sizes v ls → InSize k b (names v ls)
  names_size v ls h s = record {
    records = h;
    procedures = λ e. let z : ◌≡◌ {A = ℕ} 0 1 = cc in absurd (omega arith);
    cells = λ w ms e. same_sizes v w ls ms s e;
  }

  begin_size : k < 1024 → b < 64 → InSize k b begin
  begin_size h s = record { records = h; procedures = λ e. s; cells = λ v ls e. let z : ◌≡◌ {A = ℕ} 0 1 = cc in absurd (omega arith) }

  other_size : (r : Record) → ltb 2 (kind r) ≡ true → k < 1024 → InSize k b r
  unfolding kind
  other_size r o h =
      let l : 2 < kind r = ltb-true 2 (kind r) o in
      record {
        records = h;
        procedures = λ e. let z : kind r ≡ 2 = ap kind e in absurd (omega arith);
        cells = λ v ls e. let z : kind r ≡ 1 = ap kind e in absurd (omega arith);
      }

module _ (f : List ℕ) (at k b : ℕ) where
  plain_size : (r : Record) → ltb 2 (kind r) ≡ true → ltb k 1024 && true ≡ true → InSize k b r
  plain_size r o e = other_size k b r o (ltb-true k 1024 (and_parts (ltb k 1024) true e).0)

  size_plain : (r : Record) → InSize k b r → ltb k 1024 && true ≡ true
  size_plain r h = and_both _ _ (lt-ltb k 1024 h.records) refl

  pub in_size : (n : ℕ) → 1 ≤ n → n ≤ 13 → sized_as n f at k b ≡ true → InSize k b (record_as n f at)
  unfolding sized_as record_as kind
  in_size =
      kind_cases (λ n. sized_as n f at k b ≡ true → InSize k b (record_as n f at))
      (λ e. let x = and_parts (ltb k 1024) _ e in names_size k b _ _ (ltb-true k 1024 x.0) (names_fit_lem _ _ x.1))
      (λ e. let x = and_parts (ltb k 1024) _ e in begin_size k b (ltb-true k 1024 x.0) (ltb-true b 64 x.1))
      (plain_size _ refl) (plain_size _ refl) (plain_size _ refl) (plain_size _ refl) (plain_size _ refl) (plain_size _ refl)
      (plain_size _ refl) (plain_size _ refl) (plain_size _ refl) (plain_size _ refl) (plain_size _ refl)

  pub size_in : (n : ℕ) → 1 ≤ n → n ≤ 13 → InSize k b (record_as n f at) → sized_as n f at k b ≡ true
  unfolding sized_as record_as
  size_in =
      kind_cases (λ n. InSize k b (record_as n f at) → sized_as n f at k b ≡ true)
      (λ h. and_both _ _ (lt-ltb k 1024 h.records) (fit_names _ _ (h.cells _ _ refl)))
      (λ h. and_both _ _ (lt-ltb k 1024 h.records) (lt-ltb b 64 (h.procedures refl)))
      (size_plain _) (size_plain _) (size_plain _) (size_plain _) (size_plain _) (size_plain _) (size_plain _) (size_plain _) (size_plain _) (size_plain _) (size_plain _)
