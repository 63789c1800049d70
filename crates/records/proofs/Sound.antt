-- A body that is found right is that of a record: it is formed, and its bytes fill the body. One law for each form of a body.
use mathlib.Core.Path.{◌≡◌, refl}
use mathlib.Core.List.{List, [], ◌∷◌, ◌++◌, flat_map}
use mathlib.Core.Bool.{Bool, true, false, ◌||◌}
use Prim.Native.Nat.{ℕ, ◌+◌, ◌*◌, ◌^◌, ◌≤◌, ◌<◌}
use native.Mathlib.Omega.{arith}
use borrow.Author.Tests.{eqb-true, ltb-true}
use lib.Dec.{eqb, ltb}
use lib.ListN.{length, get_or}
use Rattle.codes.specs.Codes.{bytes16, AllBytes}
use Rattle.codes.proofs.Rows.{short_lt}
use Rattle.expr.specs.Tree.{encode}
use Rattle.expr.specs.Bytes.{Stands}
use Rattle.std.proofs.lemmas.Bool.{and_parts}
use Rattle.expr.proofs.Format.{sound}
use Rattle.records.specs.Records.{Record, names, assign, kind, body, Formed, Plain}
use Rattle.records.specs.Faults.{word}
use Rattle.records.specs.Reading.{stop, expr_at, fills, shorts_at, target_at, value_at, indexed, record_as, set_body, formed_as}
use Rattle.records.proofs.Bytes.{words, Lies, lies_none, lies_of, lies_join, lies_byte, lies_short, lies_shorts, shorts_small, length_shorts}
use Rattle.records.proofs.Thirteen.{kind_cases}

pub or_cases : (a b : Bool) → a || b ≡ true → (a ≡ false → b ≡ true)
or_cases true b e f = cc
or_cases false b e f = e

-- a record of a kind, whose bytes fill the body
pub record Body (f : List ℕ) (at k : ℕ) (r : Record) : Type 0 where
  pub formed : Formed r
  pub lies : Lies f (at + 4) (body r) (stop f at)
  pub kinds : kind r ≡ k

module _ (f : List ℕ) (B : AllBytes f) where
  pub sound_ok : (i : ℕ) → (expr_at f i).ok ≡ true → Plain (expr_at f i).tree × Lies f i (encode (expr_at f i).tree) (expr_at f i).next
  unfolding Stands
  sound_ok i o =
      let g = sound f B 16 i o in
      ((g.0, g.1.0), lies_of f i (encode (expr_at f i).tree) g.1.1.0 (expr_at f i).next g.1.1.1 g.1.1.2)

  pub sound_fills : (i n : ℕ) → fills (expr_at f i) n ≡ true → Plain (expr_at f i).tree × Lies f i (encode (expr_at f i).tree) n
  sound_fills i n o =
      let p = and_parts (expr_at f i).ok (eqb (expr_at f i).next n) o in
      let g = sound_ok i p.0 in
      (g.0, rw (eqb-true (expr_at f i).next n p.1) at g.1)

  module _ (at : ℕ) (fits : stop f at ≤ length f) where
    sound_names : word f at ≡ 8 + 2 * word f (at + 6) → Body f at 1 (names (word f (at + 4)) (shorts_at f (at + 8) (word f (at + 6))))
    unfolding Formed body kind flat_map
    sound_names e =
        let n = word f (at + 6) in
        let l = length_shorts f n (at + 8) in
        let six : at + 4 + 2 ≡ at + 6 = omega arith in
        let eight : at + 6 + 2 ≡ at + 8 = omega arith in
        let last : at + 8 + 2 * n ≡ stop f at = omega arith in
        record {
          formed = (short_lt f B (at + 4), (rw l (short_lt f B (at + 6)), shorts_small f B n (at + 8)));
          lies = rw l (lies_join f (at + 4) (at + 6) (stop f at) (bytes16 (word f (at + 4))) _ (rw six at (lies_short f B (at + 4) (omega arith)))
              (lies_join f (at + 6) (at + 8) (stop f at) (bytes16 n) (words (shorts_at f (at + 8) n)) (rw eight at (lies_short f B (at + 6) (omega arith)))
              (rw last at (lies_shorts f B n (at + 8) (omega arith)))));
          kinds = refl;
        }

    -- an operator, a target's form and its number, then what is left
    sound_head : (rest : List ℕ) → at + 8 ≤ length f → Lies f (at + 8) rest (stop f at)
        → Lies f (at + 4) (get_or f (at + 4) 0 ∷ get_or f (at + 5) 0 ∷ bytes16 (word f (at + 6)) ++ rest) (stop f at)
    sound_head rest h p =
        let five : at + 4 + 1 ≡ at + 5 = omega arith in
        let six : at + 5 + 1 ≡ at + 6 = omega arith in
        let eight : at + 6 + 2 ≡ at + 8 = omega arith in
        lies_join f (at + 4) (at + 5) (stop f at) (get_or f (at + 4) 0 ∷ []) _ (rw five at (lies_byte f (at + 4) (omega arith)))
        (lies_join f (at + 5) (at + 6) (stop f at) (get_or f (at + 5) 0 ∷ []) _ (rw six at (lies_byte f (at + 5) (omega arith)))
        (lies_join f (at + 6) (at + 8) (stop f at) (bytes16 (word f (at + 6))) rest (rw eight at (lies_short f B (at + 6) (omega arith))) p))

    -- a SET of a scalar, and of an array at an index
    abbrev written : Record
    written = assign (get_or f (at + 4) 0) (target_at f at) (expr_at f (value_at f at)).tree

    sound_cell : get_or f (at + 5) 0 ≡ 0 → get_or f (at + 4) 0 < 3 → fills (expr_at f (value_at f at)) (stop f at) ≡ true → Body f at 4 written
    unfolding Formed body kind
    sound_cell e o p =
        let g = sound_fills (at + 8) (stop f at) (rw e at p) in
        let h : at + 8 ≤ length f = omega (arith, g.1.ends) in
        let l = sound_head (encode (expr_at f (at + 8)).tree) h g.1 in
        rw e record { formed = (o, (short_lt f B (at + 6), g.0)); lies = rw e at l; kinds = refl }

    sound_entry : get_or f (at + 5) 0 ≡ 1 → get_or f (at + 4) 0 < 3 → (expr_at f (at + 8)).ok ≡ true → fills (expr_at f (value_at f at)) (stop f at) ≡ true → Body f at 4 written
    unfolding Formed body kind
    sound_entry e o k p =
        let i = sound_ok (at + 8) k in
        let n = (expr_at f (at + 8)).next in
        let g = sound_fills n (stop f at) (rw e at p) in
        let j = lies_join f (at + 8) n (stop f at) (encode (expr_at f (at + 8)).tree) (encode (expr_at f n).tree) i.1 g.1 in
        let h : at + 8 ≤ length f = omega (arith, j.ends) in
        let l = sound_head (encode (expr_at f (at + 8)).tree ++ encode (expr_at f n).tree) h j in
        rw e record { formed = (o, ((short_lt f B (at + 6), i.0), g.0)); lies = rw e at l; kinds = refl }

    sound_set : set_body f at ≡ true → Body f at 4 written
    unfolding set_body
    sound_set p =
        let x = and_parts (ltb (get_or f (at + 4) 0) 3) _ p in
        let y = and_parts (indexed f at) _ x.1 in
        let o = ltb-true _ 3 x.0 in
        go o y.0 y.1 (eqb (get_or f (at + 5) 0) 0) refl
      where
        go : get_or f (at + 4) 0 < 3 → indexed f at ≡ true → fills (expr_at f (value_at f at)) (stop f at) ≡ true → (b : Bool) → eqb (get_or f (at + 5) 0) 0 ≡ b → Body f at 4 written
        go o i p true e = sound_cell (eqb-true _ 0 e) o p
        go o i p false e =
            let j = and_parts (eqb (get_or f (at + 5) 0) 1) _ (or_cases _ _ i e) in
            sound_entry (eqb-true _ 1 j.0) o j.1 p

    -- an expression, a number, nothing
    sound_number : eqb (word f at) 6 ≡ true → (word f (at + 4) < 2 ^ 16) × Lies f (at + 4) (bytes16 (word f (at + 4))) (stop f at)
    sound_number p =
        let e = eqb-true (word f at) 6 p in
        let n : at + 4 + 2 ≡ stop f at = omega arith in
        (short_lt f B (at + 4), rw n at (lies_short f B (at + 4) (omega arith)))

    sound_nothing : eqb (word f at) 4 ≡ true → Lies f (at + 4) [] (stop f at)
    sound_nothing p =
        let e = eqb-true (word f at) 4 p in
        let n : at + 4 ≡ stop f at = omega arith in
        rw n (lies_none f (stop f at))

    sound_test : fills (expr_at f (at + 4)) (stop f at) ≡ true → Plain (expr_at f (at + 4)).tree × Lies f (at + 4) (encode (expr_at f (at + 4)).tree) (stop f at)
    sound_test = sound_fills (at + 4) (stop f at)

    pub sound_body : (k : ℕ) → 1 ≤ k → k ≤ 13 → formed_as k f at ≡ true → Body f at k (record_as k f at)
    unfolding formed_as record_as Formed body kind
    sound_body =
        kind_cases (λ k. formed_as k f at ≡ true → Body f at k (record_as k f at))
        (λ p. sound_names (eqb-true _ _ p))
        (λ p. record { formed = tt; lies = sound_nothing p; kinds = refl })
        (λ p. record { formed = tt; lies = sound_nothing p; kinds = refl })
        sound_set
        (λ p. record { formed = (sound_test p).0; lies = (sound_test p).1; kinds = refl })
        (λ p. record { formed = tt; lies = sound_nothing p; kinds = refl })
        (λ p. record { formed = (sound_test p).0; lies = (sound_test p).1; kinds = refl })
        (λ p. record { formed = (sound_test p).0; lies = (sound_test p).1; kinds = refl })
        (λ p. record { formed = tt; lies = sound_nothing p; kinds = refl })
        (λ p. record { formed = (sound_test p).0; lies = (sound_test p).1; kinds = refl })
        (λ p. record { formed = (sound_number p).0; lies = (sound_number p).1; kinds = refl })
        (λ p. record { formed = (sound_number p).0; lies = (sound_number p).1; kinds = refl })
        (λ p. record { formed = tt; lies = sound_nothing p; kinds = refl })
