-- The bytes of a formed record are found right, and read as that record. One law for each form of a body.
use mathlib.Core.Path.{◌≡◌, refl, ap, ◌∙◌}
use mathlib.Core.List.{List, ◌∷◌, ◌++◌, flat_map, append_assoc}
use mathlib.Core.Bool.{true}
use Prim.Native.Nat.{ℕ, ◌+◌, ◌*◌, ◌^◌, ◌<◌}
use native.Mathlib.Omega.{arith}
use borrow.Author.Tests.{eq-eqb, lt-ltb}
use lib.ListN.{length, drop, get_or, length-append}
use Rattle.codes.specs.Codes.{bytes16}
use Rattle.codes.proofs.Rows.{short_back, head_of, byte_of}
use Rattle.expr.specs.Tree.{Expr, encode}
use Rattle.expr.proofs.Format.{complete}
use Rattle.records.specs.Records.{Record, Target, cell, entry, names, begin, end, assign, if, else, fi, from, loop, until, call, uncall, skip, kind, body, Formed, Plain}
use Rattle.records.specs.Faults.{word}
use Rattle.records.specs.Reading.{stop, expr_at, test_body, names_body, set_body, formed_as, record_as, shorts_at, target_at, value_at}
use Rattle.records.proofs.Bytes.{front_rest, after, length_words, shorts_back}

module _ (f : List ℕ) where
  pub complete_expr : (i : ℕ) (e : Expr) (y : List ℕ) → Plain e → drop i f ≡ encode e ++ y → expr_at f i ≡ record { ok = true; tree = e; next = i + length (encode e) }
  complete_expr i e y p D = complete f e 16 i y p.0 p.1 D

  module _ (at : ℕ) (x : List ℕ) where
    complete_test : (e : Expr) → Plain e → drop (at + 4) f ≡ encode e ++ x → word f at ≡ 4 + length (encode e)
        → (test_body f at ≡ true) × ((expr_at f (at + 4)).tree ≡ e)
    complete_test e p D w =
        let n : at + 4 + length (encode e) ≡ stop f at = omega arith in
        rw (complete_expr (at + 4) e x p D) (eq-eqb _ _ n, refl)

    complete_number : (q : ℕ) → q < 2 ^ 16 → drop (at + 4) f ≡ bytes16 q ++ x → word f (at + 4) ≡ q
    complete_number q h D = short_back f (at + 4) x q h D

    complete_names : (v : ℕ) (ls : List ℕ) → Formed (names v ls) → drop (at + 4) f ≡ body (names v ls) ++ x → word f at ≡ 4 + length (body (names v ls))
        → (names_body f at ≡ true) × (names (word f (at + 4)) (shorts_at f (at + 8) (word f (at + 6))) ≡ names v ls)
    unfolding Formed body flat_map
    complete_names v ls h D w =
        let six : at + 4 + 2 ≡ at + 6 = omega arith in
        let eight : at + 6 + 2 ≡ at + 8 = omega arith in
        let D6 = rw six at (front_rest f (at + 4) 2 _ D) in
        let D8 = rw eight at (front_rest f (at + 6) 2 _ D6) in
        let n : word f (at + 6) ≡ length ls = short_back f (at + 6) _ (length ls) h.1.0 D6 in
        let l = length_words ls in
        (eq-eqb (word f at) (8 + 2 * word f (at + 6)) (omega arith), rw (n, short_back f (at + 4) _ v h.0 D, shorts_back f ls (at + 8) x h.1.1 D8))

    -- what stands behind a SET's operator, its target's form and its number
    complete_head : (o t n : ℕ) (y : List ℕ) → n < 2 ^ 16 → drop (at + 4) f ≡ o ∷ t ∷ bytes16 n ++ y
        → (get_or f (at + 4) 0 ≡ o) × ((get_or f (at + 5) 0 ≡ t) × ((word f (at + 6) ≡ n) × (drop (at + 8) f ≡ y)))
    complete_head o t n y h D =
        let five : at + 4 + 1 ≡ at + 5 = omega arith in
        let six : at + 4 + 2 ≡ at + 6 = omega arith in
        let eight : at + 4 + 4 ≡ at + 8 = omega arith in (
          head_of f (at + 4) o _ D,
          (
            rw five at (byte_of f (at + 4) 1 _ D),
            (
              short_back f (at + 6) y n h (rw six at (front_rest f (at + 4) 2 _ D)),
              rw eight at (front_rest f (at + 4) 4 _ D),
            ),
          ),
        )

    complete_set : (o : ℕ) (t : Target) (e : Expr) → Formed (assign o t e) → drop (at + 4) f ≡ body (assign o t e) ++ x → word f at ≡ 4 + length (body (assign o t e))
        → (set_body f at ≡ true) × (assign (get_or f (at + 4) 0) (target_at f at) (expr_at f (value_at f at)).tree ≡ assign o t e)
    unfolding Formed body set_body
    complete_set o (cell n) e h D w =
        let z = complete_head o 0 n (encode e ++ x) h.1.0 D in
        let m : at + 8 + length (encode e) ≡ stop f at = omega arith in
        rw (z.1.0, z.0, z.1.1.0, complete_expr (at + 8) e x h.1.1 z.1.1.1, lt-ltb o 3 h.0) (eq-eqb _ _ m, refl)
    complete_set o (entry a i) e h D w =
        let z = complete_head o 1 a (encode i ++ (encode e ++ x)) h.1.0.0 (D ∙ rw (append_assoc (encode i) (encode e) x)) in
        let D2 = after f (at + 8) (encode i) (encode e ++ x) z.1.1.1 in
        let m : at + 8 + length (encode i) + length (encode e) ≡ stop f at = omega (arith, length-append (encode i) (encode e)) in
        rw (
          z.1.0,
          z.0,
          z.1.1.0,
          complete_expr (at + 8) i (encode e ++ x) h.1.0.1 z.1.1.1,
          complete_expr (at + 8 + length (encode i)) e x h.1.1 D2,
          lt-ltb o 3 h.0,
        ) (eq-eqb _ _ m, refl)

    pub complete_body : (r : Record) → Formed r → drop (at + 4) f ≡ body r ++ x → word f at ≡ 4 + length (body r)
        → (formed_as (kind r) f at ≡ true) × (record_as (kind r) f at ≡ r)
    unfolding Formed body kind formed_as record_as
    complete_body (names v ls) h D w = complete_names v ls h D w
    complete_body begin h D w = (eq-eqb _ _ w, refl)
    complete_body end h D w = (eq-eqb _ _ w, refl)
    complete_body (assign o t e) h D w = complete_set o t e h D w
    complete_body (if e) h D w = let z = complete_test e h D w in (z.0, ap if z.1)
    complete_body else h D w = (eq-eqb _ _ w, refl)
    complete_body (fi e) h D w = let z = complete_test e h D w in (z.0, ap fi z.1)
    complete_body (from e) h D w = let z = complete_test e h D w in (z.0, ap from z.1)
    complete_body loop h D w = (eq-eqb _ _ w, refl)
    complete_body (until e) h D w = let z = complete_test e h D w in (z.0, ap until z.1)
    complete_body (call q) h D w = (eq-eqb _ _ w, ap call (complete_number q h D))
    complete_body (uncall q) h D w = (eq-eqb _ _ w, ap uncall (complete_number q h D))
    complete_body skip h D w = (eq-eqb _ _ w, refl)
