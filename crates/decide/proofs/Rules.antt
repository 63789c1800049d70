-- The decision by the table, by the kind of the record met: what machine/proofs joins to the document's step. Assumes nothing.
use mathlib.Core.Path.{◌≡◌, refl, ap, ◌∙◌}
use mathlib.Core.List.{List}
use Prim.Native.Nat.{ℕ, ◌+◌, ◌≤◌, ◌<◌}
use borrow.Author.Tests.{eq-eqb, ne_eqb, lt-ltb, le-leb, lt-leb}
use Rattle.expr.specs.Bytes.{up_to}
use Rattle.evaluate.specs.Answers.{worth_at, truth_of}
use Rattle.moves.specs.Stores.{Answer, ok, no, Store}
use Rattle.decide.specs.Sets.{Leaves, set_at}
use Rattle.ways.specs.Looks.{look_in, other_of, along_of, proc_at}
use Rattle.decide.specs.Decide.{Seen, Moved, behind_of, kept_of, entered_of, returned_of, tested_of, assigned_of, after_set, Rules, rule_of}

module _ (f tab arr : List ℕ) (s : Seen) (σ : Store) (k at : ℕ) (kk : k ≡ look_in tab (1024 + s.b)) (aa : at ≡ look_in tab s.b) (m : Moved) (nb : s.b < 1024) where
  abbrev Says : Store → Type 0
  Says τ = Rules (rule_of f tab arr s σ) m τ

  pub rule_set : (n : ℕ) (τ : Store) → k ≡ 4 → m ≡ assigned_of s n tab → Leaves (set_at f at s.direction arr σ) σ n τ → Says τ
  unfolding rule_of
  rule_set n τ e h l = rw (lt-ltb s.b 1024 nb, ← kk, eq-eqb k 4 e, ← aa) (go (set_at f at s.direction arr σ) l)
    where
      go : (x : Answer Store) → Leaves x σ n τ → Rules (after_set s tab σ x) m τ
      go (ok σ') l = record { made = h ∙ ap (λ n. assigned_of s n tab) l.0; left = l.1 }
      go (no q) l = record { made = h ∙ ap (λ n. assigned_of s n tab) l.0; left = l.1 }

  module _ (n4 : k ≡ 4 → ⊥) where
    pub rule_skip : (next : ℕ) → k ≡ 13 → m ≡ kept_of s next → next ≡ along_of tab s.direction s.b → Says σ
    unfolding rule_of
    rule_skip next e h n = rw (lt-ltb s.b 1024 nb, ← kk, ne_eqb k 4 n4, eq-eqb k 13 e, ← n) (record { made = h; left = refl })

    module _ (n13 : k ≡ 13 → ⊥) where
      pub rule_call : k ≡ 11 → m ≡ entered_of s (proc_at f tab s.b) s.direction tab → Says σ
      unfolding rule_of
      rule_call e h = rw (lt-ltb s.b 1024 nb, ← kk, ne_eqb k 4 n4, ne_eqb k 13 n13, eq-eqb k 11 e) (record { made = h; left = refl })

      module _ (n11 : k ≡ 11 → ⊥) where
        pub rule_uncall : (d : ℕ) → k ≡ 12 → m ≡ entered_of s (proc_at f tab s.b) d tab → d ≡ other_of s.direction → Says σ
        unfolding rule_of
        rule_uncall d e h dd = rw (lt-ltb s.b 1024 nb, ← kk, ne_eqb k 4 n4, ne_eqb k 13 n13, ne_eqb k 11 n11, eq-eqb k 12 e, ← dd) (record { made = h; left = refl })

        module _ (n12 : k ≡ 12 → ⊥) where
          pub rule_return : k ≤ 3 → m ≡ returned_of s tab → Says σ
          unfolding rule_of
          rule_return e h = rw (lt-ltb s.b 1024 nb, ← kk, ne_eqb k 4 n4, ne_eqb k 13 n13, ne_eqb k 11 n11, ne_eqb k 12 n12, le-leb k 3 e) (record { made = h; left = refl })

          pub rule_test : (v : ℕ) → 3 < k → m ≡ tested_of s k v tab → v ≡ truth_of (worth_at arr σ (up_to 32768 16 f (at + 4))) → Says σ
          unfolding rule_of
          rule_test v e h n = rw (lt-ltb s.b 1024 nb, ← kk, ne_eqb k 4 n4, ne_eqb k 13 n13, ne_eqb k 11 n11, ne_eqb k 12 n12, lt-leb k 3 e, ← aa, ← n) (record { made = h; left = refl })

-- one comes back to a call, and leaves that
module _ (tab : List ℕ) (l d : ℕ) where
  pub behind_call : look_in tab (1024 + l) ≡ 11 → behind_of tab l d ≡ l
  behind_call e = rw e

  pub behind_uncall : look_in tab (1024 + l) ≡ 12 → behind_of tab l d ≡ l
  behind_uncall e = rw e
