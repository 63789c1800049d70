-- The answers of `truth`, case by case, over plain numbers and lists. Assumes nothing.
use mathlib.Core.Path.{◌≡◌, sym, ap, ◌∙◌}
use mathlib.Core.List.{List}
use mathlib.Core.Bool.{Bool, true, false, not, cond}
use Prim.Native.Nat.{ℕ, ◌+◌, ◌≤◌, ◌<◌}
use native.Mathlib.Omega.{arith}
use lib.Dec.{eqb}
use lib.IntN.{ℤ}
use lib.ListN.{get_or}
use mir.Syntax.{w32}
use mir.Val.{SFits, of_z}
use mir.Facts.{to_z-of_z}
use Rattle.std.specs.Prelude.{Option, None, Some, Result, Ok, Err}
use Rattle.refusals.specs.declared.Reason.{Reason}
use Rattle.refusals.specs.declared.Reason.TheVariants.{ZeroDivisor}
use Rattle.values.specs.Values.{apply_op}
use Rattle.values.specs.Given.{given}
use Rattle.values.proofs.Bits.{bits_true}
use Rattle.values.proofs.Laws.{apply_fits, given_some, given_none}
use Rattle.expr.specs.Tree.{Worth, worth_of, eval, value, stop}
use Rattle.expr.specs.Bytes.{up_to}
use Rattle.expr.proofs.Layer.{upto_bin}
use Rattle.evaluate.specs.Answers.{worth_at, OnTheWay, leaf_end, LeafSays, judged, Simple, reason_of}
use Rattle.evaluate.proofs.Values.{again, leaf_read, told_value}

leaf_near : (s : List ℕ) (at : ℕ) → leaf_end s at ≤ at + 5
leaf_near s at = go (eqb (get_or s at 0) 0)
  where
    go : (b : Bool) → cond b (at + 5) (at + 3) ≤ at + 5
    go true = omega arith
    go false = omega arith

-- by the evaluator
pub verdict_of : (w : Worth) (next after : ℕ) (r : Result ℤ Reason) (v : ℤ) → OnTheWay w next r after → r ≡ Ok v → Ok (not (eqb (of_z w32 v) 0)) ≡ judged w
verdict_of w next after r v o e = let s = told_value w next after r v o e in rw s.0 (ap Ok (bits_true v s.1.0))

-- and what a stop says of it
pub verdict_stops : (w : Worth) (next after : ℕ) (r : Result ℤ Reason) (e : Reason) → OnTheWay w next r after → r ≡ Err e → Err e ≡ judged w
verdict_stops (value v) next after r e o q = let a : r ≡ Ok v = o.answer in cc
verdict_stops (stop f) next after r e o q =
    let a : r ≡ Err (reason_of f) = o.answer in
    let s : e ≡ reason_of f = cc in
    ap (λ (x : Reason). Err x) s

-- an operator on two constants or scalars
module _ (A : List ℕ) (C : List ℤ) (s : List ℕ) (at : ℕ) (b : Bool) (k : Simple s at b) (y : b ≡ true) (x z : ℤ) (fx : SFits w32 x) (fz : SFits w32 z)
    (mid after : ℕ) (lo : LeafSays s (at + 2) C x mid) where
  pub mid_near : mid < 32768
  mid_near = omega (arith, k.near y, leaf_near s (at + 2), lo.place)

  module _ (ro : LeafSays s mid C z after) (small : get_or s mid 0 < 2) where
    pub truth_compares : worth_at A C (up_to 32768 16 s at) ≡ worth_of (apply_op (get_or s (at + 1) 0) x z)
    unfolding eval
    truth_compares =
        let g = upto_bin 32768 s at (omega (arith, k.near y)) 3 (sym (k.stands y)) 16 (λ e. omega arith) (λ e. omega arith) (λ e. omega arith) (λ e. omega arith) in
        let l = leaf_read A C s (at + 2) 15 (λ e. omega arith) (omega (arith, k.near y)) (k.left y) in
        let n : (up_to 32768 15 s (at + 2)).next ≡ mid = l.1 ∙ sym lo.place in
        let q = leaf_read A C s mid 15 (λ e. omega arith) mid_near small in
        rw (g, n, l.0, q.0, ← lo.answer, ← ro.answer)

    module _ (o : ℕ) (oo : o ≡ get_or s (at + 1) 0) (r : Option ℤ) (e : r ≡ given (apply_op o (again x) (again z))) where
      told : given (apply_op (get_or s (at + 1) 0) x z) ≡ r
      told = sym (rw (to_z-of_z fx, to_z-of_z fz, oo) at e)

      pub simple_holds : (v : ℤ) → r ≡ Some v → Ok (not (eqb (of_z w32 v) 0)) ≡ judged (worth_at A C (up_to 32768 16 s at))
      simple_holds v q =
          let is_v = given_some (apply_op (get_or s (at + 1) 0) x z) v (told ∙ q) in
          let f : SFits w32 v = rw is_v at (apply_fits (get_or s (at + 1) 0) x z fx fz) in
          ap Ok (bits_true v f) ∙ ap judged (sym (truth_compares ∙ ap worth_of is_v))

      pub simple_stops : r ≡ None → Err ZeroDivisor ≡ judged (worth_at A C (up_to 32768 16 s at))
      simple_stops q = ap judged (sym (truth_compares ∙ ap worth_of (given_none _ (told ∙ q))))
