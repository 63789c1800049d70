-- The thirteen kinds, for proofs that go by the number of a kind.
use mathlib.Core.Path.{◌≡◌, refl, ap, ◌∙◌}
use mathlib.Core.List.{List}
use mathlib.Core.Bool.{Bool, true, false}
use Prim.Native.Nat.{ℕ, zero, suc, ◌+◌, ◌≤◌, ◌<◌}
use native.Mathlib.Omega.{arith}
use borrow.Author.Tests.{ltb-true, ltb-false, le-ltb, lt-ltb, ne_eqb}
use lib.Dec.{ltb}
use Rattle.std.proofs.Common.{Some, None}
use Rattle.records.specs.Faults.{word}
use Rattle.records.specs.Kinds.{kind_number, kind_of, tests, calls}
use Rattle.records.specs.Reading.{unknown_at}
use Rattle.records.specs.declared.kind.Kind.{Kind}
use Rattle.records.specs.declared.kind.Kind.TheVariants.{Names, Begin, End, Set, If, Else, Fi, From, Loop, Until, Call, Uncall, Skip}

module _
    (P : ℕ → Type 0)
    (names : P 1)
    (begin : P 2)
    (end : P 3)
    (set : P 4)
    (if : P 5)
    (else : P 6)
    (fi : P 7)
    (from : P 8)
    (loop : P 9)
    (until : P 10)
    (call : P 11)
    (uncall : P 12)
    (skip : P 13)
  where
    pub kind_cases : (k : ℕ) → 1 ≤ k → k ≤ 13 → P k
    kind_cases zero h t = absurd (omega arith)
    kind_cases (suc zero) h t = names
    kind_cases (suc (suc zero)) h t = begin
    kind_cases (suc (suc (suc zero))) h t = end
    kind_cases (suc (suc (suc (suc zero)))) h t = set
    kind_cases (suc (suc (suc (suc (suc zero))))) h t = if
    kind_cases (suc (suc (suc (suc (suc (suc zero)))))) h t = else
    kind_cases (suc (suc (suc (suc (suc (suc (suc zero))))))) h t = fi
    kind_cases (suc (suc (suc (suc (suc (suc (suc (suc zero)))))))) h t = from
    kind_cases (suc (suc (suc (suc (suc (suc (suc (suc (suc zero))))))))) h t = loop
    kind_cases (suc (suc (suc (suc (suc (suc (suc (suc (suc (suc zero)))))))))) h t = until
    kind_cases (suc (suc (suc (suc (suc (suc (suc (suc (suc (suc (suc zero))))))))))) h t = call
    kind_cases (suc (suc (suc (suc (suc (suc (suc (suc (suc (suc (suc (suc zero)))))))))))) h t = uncall
    kind_cases (suc (suc (suc (suc (suc (suc (suc (suc (suc (suc (suc (suc (suc zero))))))))))))) h t = skip
    kind_cases (suc (suc (suc (suc (suc (suc (suc (suc (suc (suc (suc (suc (suc (suc n)))))))))))))) h t = absurd (omega arith)

-- ---- the kind of a number
abbrev Named : ℕ → Type 0
Named n = (k : Kind) × ((kind_of n ≡ Some k) × (kind_number k ≡ n))

one_of : (n : ℕ) → 1 ≤ n → n ≤ 13 → Named n
unfolding kind_of
one_of =
    kind_cases Named (Names, (refl, refl)) (Begin, (refl, refl)) (End, (refl, refl)) (Set, (refl, refl)) (If, (refl, refl)) (Else, (refl, refl))
    (Fi, (refl, refl))
    (From, (refl, refl))
    (Loop, (refl, refl))
    (Until, (refl, refl))
    (Call, (refl, refl))
    (Uncall, (refl, refl))
    (Skip, (refl, refl))

none_over : (n : ℕ) → 13 < n → kind_of n ≡ None
unfolding kind_of
none_over n h =
    rw (
      ne_eqb n 1 (λ e. omega arith),
      ne_eqb n 2 (λ e. omega arith),
      ne_eqb n 3 (λ e. omega arith),
      ne_eqb n 4 (λ e. omega arith),
      ne_eqb n 5 (λ e. omega arith),
      ne_eqb n 6 (λ e. omega arith),
      ne_eqb n 7 (λ e. omega arith),
      ne_eqb n 8 (λ e. omega arith),
      ne_eqb n 9 (λ e. omega arith),
      ne_eqb n 10 (λ e. omega arith),
      ne_eqb n 11 (λ e. omega arith),
      ne_eqb n 12 (λ e. omega arith),
      ne_eqb n 13 (λ e. omega arith),
    )

none_zero : kind_of 0 ≡ None
unfolding kind_of
none_zero = refl

-- a number that has a kind is the kind's, 1 to 13
pub kind_named : (n : ℕ) (k : Kind) → kind_of n ≡ Some k → (kind_number k ≡ n) × ((1 ≤ n) × (n ≤ 13))
kind_named zero k e = let x = none_zero in cc
kind_named (suc n) k e = go (ltb 13 (suc n)) refl
  where
    go : (b : Bool) → ltb 13 (suc n) ≡ b → (kind_number k ≡ suc n) × ((1 ≤ suc n) × (suc n ≤ 13))
    go true p = let x = none_over (suc n) (ltb-true 13 (suc n) p) in cc
    go false p =
        let most = ltb-false 13 (suc n) p in
        let z = one_of (suc n) (omega arith) most in
        let same : z.0 ≡ k = cc in
        (rw same at z.1.1, (omega arith, most))

-- and one that has none is 0 or above 13
pub kind_unnamed : (n : ℕ) → kind_of n ≡ None → 1 ≤ n → 13 < n
kind_unnamed n e some = go (ltb 13 n) refl
  where
    go : (b : Bool) → ltb 13 n ≡ b → 13 < n
    go true p = ltb-true 13 n p
    go false p = let z = one_of n some (ltb-false 13 n p) in cc

-- a number that has no kind neither tests nor calls; one that has a kind does what the kind does
module _ (n : ℕ) where
  module _ (e : kind_of n ≡ None) where
    far : (m : ℕ) → 1 ≤ m → m ≤ 13 → n ≡ m → ⊥
    far m h t p =
        let z = one_of m h t in
        let q : kind_of m ≡ None = rw (← p) e in
        let r = z.1.0 in
        cc

    pub tests_none : false ≡ tests n
    tests_none = rw (ne_eqb n 5 (far 5 (omega arith) (omega arith)), ne_eqb n 7 (far 7 (omega arith) (omega arith)), ne_eqb n 8 (far 8 (omega arith) (omega arith)), ne_eqb n 10 (far 10 (omega arith) (omega arith)))

    pub calls_none : false ≡ calls n
    calls_none = rw (ne_eqb n 11 (far 11 (omega arith) (omega arith)), ne_eqb n 12 (far 12 (omega arith) (omega arith)))

  module _ (k : Kind) (e : kind_of n ≡ Some k) (b : Bool) where
    pub tests_some : b ≡ tests (kind_number k) → b ≡ tests n
    tests_some h = h ∙ ap tests (kind_named n k e).0

    pub calls_some : b ≡ calls (kind_number k) → b ≡ calls n
    calls_some h = h ∙ ap calls (kind_named n k e).0

pub ruleset testing = (tests_none)

pub ruleset calling = (calls_none)

module _ (f : List ℕ) (at : ℕ) where
  pub named : (k : Kind) → kind_of (word f (at + 2)) ≡ Some k → (unknown_at f at ≡ false) × (kind_number k ≡ word f (at + 2))
  unfolding unknown_at
  named k e =
      let z = kind_named (word f (at + 2)) k e in
      (rw (ne_eqb (word f (at + 2)) 0 (λ e. omega arith), le-ltb 13 (word f (at + 2)) z.1.1), z.0)

  pub unnamed : kind_of (word f (at + 2)) ≡ None → unknown_at f at ≡ true
  unfolding unknown_at
  unnamed e = go (word f (at + 2)) refl
    where
      go : (n : ℕ) → word f (at + 2) ≡ n → unknown_at f at ≡ true
      go zero p = rw p
      go (suc n) p = rw (p, lt-ltb 13 (suc n) (kind_unnamed (suc n) (rw p at e) (omega arith)), ne_eqb (suc n) 0 (λ e. omega arith))
