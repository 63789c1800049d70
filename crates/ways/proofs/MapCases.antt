-- The map's entries by the half section, and the loop that fills them. Assumes nothing.
use mathlib.Core.Path.{◌≡◌, refl, sym, ◌∙◌}
use mathlib.Core.List.{List}
use mathlib.Core.Bool.{Bool, true, false, cond}
use Prim.Native.Nat.{ℕ, ◌+◌, ◌*◌, ◌/◌, ◌%◌, ◌≤◌, ◌<◌, min}
use native.Mathlib.Omega.{arith}
use borrow.Author.Tests.{lt-ltb, le-ltb, eqb-true, eqb-false, ltb-true, ltb-false}
use lib.Dec.{eqb, ltb}
use lib.ListN.{length, get_or, set, length-set, length-replicate, get_or-replicate}
use lib.Seq.{ext_get_or, get_or-set_same, get_or-set_other}
use Rattle.ways.specs.Looks.{look_in}
use Rattle.ways.specs.Map.{no_entries, act_at, onward_at, first_at, second_at, expr_at, entry_at, Maps}

-- ---- `entry_at`: by the half section
module _ (f tab : List ℕ) (j b r : ℕ) where
  pub entry_0 : j < 2 → r ≡ act_at f tab b (j % 2) → r ≡ entry_at f tab j b
  unfolding entry_at
  entry_0 h e = rw (lt-ltb j 2 h) e

  module _ (g2 : 2 ≤ j) where
    pub entry_2 : j < 4 → r ≡ onward_at tab b (j % 2) false → r ≡ entry_at f tab j b
    unfolding entry_at
    entry_2 h e = rw (le-ltb j 2 g2, lt-ltb j 4 h) e

    module _ (g4 : 4 ≤ j) where
      pub entry_4 : j < 6 → r ≡ onward_at tab b (j % 2) true → r ≡ entry_at f tab j b
      unfolding entry_at
      entry_4 h e = rw (le-ltb j 2 g2, le-ltb j 4 g4, lt-ltb j 6 h) e

      module _ (g6 : 6 ≤ j) where
        pub entry_6 : j < 8 → r ≡ first_at f tab b (j % 2) → r ≡ entry_at f tab j b
        unfolding entry_at
        entry_6 h e = rw (le-ltb j 2 g2, le-ltb j 4 g4, le-ltb j 6 g6, lt-ltb j 8 h) e

        module _ (g8 : 8 ≤ j) where
          pub entry_8 : j < 10 → r ≡ second_at f tab b (j % 2) → r ≡ entry_at f tab j b
          unfolding entry_at
          entry_8 h e = rw (le-ltb j 2 g2, le-ltb j 4 g4, le-ltb j 6 g6, le-ltb j 8 g8, lt-ltb j 10 h) e

          module _ (g10 : 10 ≤ j) where
            pub entry_10 : j < 12 → r ≡ expr_at tab b → r ≡ entry_at f tab j b
            unfolding entry_at
            entry_10 h e = rw (le-ltb j 2 g2, le-ltb j 4 g4, le-ltb j 6 g6, le-ltb j 8 g8, le-ltb j 10 g10, lt-ltb j 12 h) e

            pub entry_12 : 12 ≤ j → r ≡ look_in tab (2048 + b) → r ≡ entry_at f tab j b
            unfolding entry_at
            entry_12 h e = rw (le-ltb j 2 g2, le-ltb j 4 g4, le-ltb j 6 g6, le-ltb j 8 g8, le-ltb j 10 g10, le-ltb j 12 h) e

-- ---- `map`: the entries that i turns have filled
pub record Filled (f tab : List ℕ) (i : ℕ) (m : List ℕ) : Type 0 where
  pub size : length m ≡ 14336
  pub entry : (j b : ℕ) → j < 14 → b < 1024 → get_or m (1024 * j + b) 0 ≡ cond (ltb (14 * b + j) i) (entry_at f tab j b) 0

module _ (f tab : List ℕ) where
  pub filled_none : (m : List ℕ) → m ≡ no_entries → Filled f tab 0 m
  unfolding no_entries
  filled_none m e =
      let z : ℕ = 0 in
      rw e (record { size = length-replicate 14336 z; entry = λ j b hj hb. rw (le-ltb (14 * b + j) 0 (omega arith)) (get_or-replicate 14336 (1024 * j + b) z z (omega arith)) })

  -- one turn more
  module _ (m : List ℕ) (i v : ℕ) (h : i < 14336) (I : Filled f tab i m) (vv : v ≡ entry_at f tab (i % 14) (i / 14)) where
    abbrev G : List ℕ
    G = set m (1024 * (i % 14) + i / 14) v

    module _ (j b : ℕ) (hj : j < 14) (hb : b < 1024) where
      there : 14 * b + j ≡ i → get_or G (1024 * j + b) 0 ≡ cond (ltb (14 * b + j) (i + 1)) (entry_at f tab j b) 0
      there e =
          let p : i % 14 ≡ j = omega arith in
          let q : i / 14 ≡ b = omega arith in
          rw (lt-ltb (14 * b + j) (i + 1) (omega arith), ← p, ← q) (get_or-set_same m (1024 * (i % 14) + i / 14) v 0 (omega (arith, I.size)) ∙ vv)

      more : (14 * b + j ≡ i → ⊥) → ltb (14 * b + j) i ≡ ltb (14 * b + j) (i + 1)
      more n = go (ltb (14 * b + j) i) refl
        where
          go : (t : Bool) → ltb (14 * b + j) i ≡ t → t ≡ ltb (14 * b + j) (i + 1)
          go true e = sym (lt-ltb (14 * b + j) (i + 1) (omega (arith, ltb-true (14 * b + j) i e)))
          go false e = let k : (14 * b + j ≡ i → ⊥) = n in sym (le-ltb (14 * b + j) (i + 1) (omega (arith, ltb-false (14 * b + j) i e)))

      elsewhere : (14 * b + j ≡ i → ⊥) → get_or G (1024 * j + b) 0 ≡ cond (ltb (14 * b + j) (i + 1)) (entry_at f tab j b) 0
      elsewhere n =
          get_or-set_other m (1024 * (i % 14) + i / 14) (1024 * j + b) v 0 (λ e. n (omega arith)) ∙ rw (← more n) (I.entry j b hj hb)

      now_at : get_or G (1024 * j + b) 0 ≡ cond (ltb (14 * b + j) (i + 1)) (entry_at f tab j b) 0
      now_at = go (eqb (14 * b + j) i) refl
        where
          go : (t : Bool) → eqb (14 * b + j) i ≡ t → get_or G (1024 * j + b) 0 ≡ cond (ltb (14 * b + j) (i + 1)) (entry_at f tab j b) 0
          go true e = there (eqb-true (14 * b + j) i e)
          go false e = elsewhere (eqb-false (14 * b + j) i e)

    pub filled_more : Filled f tab (i + 1) G
    filled_more = record { size = simp length-set I.size; entry = now_at }

  -- all labels are passed, or the first 1,024
  pub filled_all : (m : List ℕ) (n i most : ℕ) → most ≤ i → i ≤ most → most ≡ 14 * min 1024 n → Filled f tab i m → Maps f tab n m
  filled_all m n i most h g e I = record { size = I.size; entry = λ j b hj hb. rw (← test j b hj hb (ltb b n) refl) (I.entry j b hj hb) }
    where
      test : (j b : ℕ) → j < 14 → b < 1024 → (t : Bool) → ltb b n ≡ t → ltb (14 * b + j) i ≡ ltb b n
      test j b hj hb true t = lt-ltb (14 * b + j) i (omega (arith, ltb-true b n t)) ∙ sym t
      test j b hj hb false t = le-ltb (14 * b + j) i (omega (arith, ltb-false b n t)) ∙ sym t

  -- there is one such map
  pub maps_one : (n : ℕ) (m m' : List ℕ) → Maps f tab n m → Maps f tab n m' → m ≡ m'
  maps_one n m m' I J = ext_get_or 0 m m' (I.size ∙ sym J.size) (λ x h. go x (omega (arith, I.size)))
    where
      go : (x : ℕ) → x < 14336 → get_or m x 0 ≡ get_or m' x 0
      go x h =
          let y : 1024 * (x / 1024) + x % 1024 ≡ x = omega arith in
          rw y at (I.entry (x / 1024) (x % 1024) (omega arith) (omega arith) ∙ sym (J.entry (x / 1024) (x % 1024) (omega arith) (omega arith)))
