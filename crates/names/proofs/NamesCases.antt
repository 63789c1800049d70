-- What a record names, by its kind: the answers of `there`, case by case. Assumes nothing.
use Rattle.std.proofs.Common.{ℕ, ◌+◌, ◌≤◌, ◌<◌, ◌≡◌, refl, List, Bool, true, false, Some, None, eqb, length, arith}
use borrow.Author.Tests.{lt-ltb, ne_eqb, ltb-true, ltb-false}
use lib.Dec.{ltb}
use Rattle.expr.specs.Tree.{known}
use Rattle.records.specs.Faults.{word}
use Rattle.records.specs.Walk.{kind_at}
use Rattle.records.specs.Kinds.{kind_number, kind_of, tests, calls}
use Rattle.records.specs.declared.kind.Kind.{Kind}
use Rattle.records.specs.declared.kind.Kind.TheVariants.{Set}
use Rattle.records.proofs.Cases.{kind_out}
use Rattle.records.proofs.Thirteen.{kind_named, kind_unnamed}
use Rattle.names.specs.Names.{expr_at, there_set, there_call, there_at}

not_set : (k : Kind) → (k ≡ Set → ⊥) → eqb (kind_number k) 4 ≡ false
not_set Set h = absurd (h refl)
not_set _ h = refl

module _ (f : List ℕ) (at v a p n : ℕ) (e : n ≡ kind_at f at) where
  pub no_kind : kind_of n ≡ None → true ≡ there_at f at v a p
  unfolding there_at
  no_kind h =
      let far : 1 ≤ n → 13 < n = kind_unnamed n h in
      rw (← e, ne_eqb n 4 (λ z. omega arith), ne_eqb n 5 (λ z. omega arith), ne_eqb n 7 (λ z. omega arith), ne_eqb n 8 (λ z. omega arith), ne_eqb n 10 (λ z. omega arith), ne_eqb n 11 (λ z. omega arith), ne_eqb n 12 (λ z. omega arith))

  module _ (k : Kind) (m : kind_of n ≡ Some k) where
    -- Past the end of the file there is no kind.
    pub inside : at < length f
    inside = go (ltb at (length f)) refl
      where
        go : (b : Bool) → ltb at (length f) ≡ b → at < length f
        go true h = ltb-true at (length f) h
        go false h =
            let none = kind_out f at (ltb-false at (length f) h) in
            let some = kind_named n k m in
            absurd (omega (arith, none.0, some.1))

    is : kind_number k ≡ kind_at f at
    is = rw (← e) (kind_named n k m).0

    pub a_set : k ≡ Set → there_set f at v a ≡ there_at f at v a p
    unfolding there_at
    a_set h = let q = is in rw (← q, h)

    module _ (o : k ≡ Set → ⊥) where
      pub a_test : tests (kind_number k) ≡ true → known v a (expr_at f (at + 4)) ≡ there_at f at v a p
      unfolding there_at
      a_test t = let q = is in rw (← q, not_set k o, t)

      module _ (t : tests (kind_number k) ≡ false) where
        module _ (c : calls (kind_number k) ≡ true) (q : ℕ) (w : q ≡ word f (at + 4)) where
          pub a_call : (q ≡ 0 → ⊥) → ltb q p ≡ there_at f at v a p
          unfolding there_at there_call
          a_call h = let z = is in rw (← z, not_set k o, t, c, ← w, lt-ltb 0 q (omega arith))

          pub a_main : q ≡ 0 → false ≡ there_at f at v a p
          unfolding there_at there_call
          a_main h = let z = is in rw (← z, not_set k o, t, c, ← w, h)

        pub another : calls (kind_number k) ≡ false → true ≡ there_at f at v a p
        unfolding there_at
        another c = let q = is in rw (← q, not_set k o, t, c)

pub ruleset cases = (no_kind, inside, a_set, a_test, a_call, a_main, another)
