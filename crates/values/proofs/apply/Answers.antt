-- `values::apply` meets its contract, an arm for each operator. Assumes nothing.
use Rattle.std.proofs.Common.{◌≡◌, ℕ, ◌≤◌, Option, Some, not, get_or, ℤ, ◌+ℤ◌, ◌-ℤ◌, ◌*ℤ◌, refl, ap, ◌∙◌, ap₂, to_z-of_z, w32, SFits, to_z, of_z, arith}
use lib.ListN.{get_or-eq_default}
use lib.Signed.{lt_z, le_z}
use Rattle.values.specs.Values.{is, wrap, xor_z, floor_div, floor_mod, divided, truth, entries, apply_op}
use Rattle.values.specs.Given.{given}
use Rattle.values.proofs.Bits.{bool_is, bits_true, is_some, is_none, bits_eq}
use Rattle.values.proofs.Floor.{in32}
use Rattle.values.proofs.apply.Goals as goal
use Rattle.values.proofs.apply.Goals.{then-left-ne0, else-left-ne0, then-left-ne0-2, else-left-ne0-2}

-- an arm, and the one from 15 on
arm : {op k : ℕ} {r : Option ℤ} (x y : ℤ) → op ≡ k → r ≡ given (get_or (entries x y) k (is (truth (le_z y x)))) → r ≡ given (apply_op op x y)
unfolding apply_op
arm x y e h = rw e h

other : {op : ℕ} {r : Option ℤ} (x y : ℤ) → 15 ≤ op → r ≡ given (is (truth (le_z y x))) → r ≡ given (apply_op op x y)
unfolding apply_op
other x y h e = rw (get_or-eq_default (entries x y) (is (truth (le_z y x))) h) e

-- what a function of two numbers answered
module _ {x y : ℤ} (hx : SFits w32 x) (hy : SFits w32 y) where
  called : {A : Type 0} {r : A} (f : ℤ → ℤ → A) → r ≡ f (to_z w32 (of_z w32 x)) (to_z w32 (of_z w32 y)) → r ≡ f x y
  called f p = p ∙ ap₂ f (to_z-of_z hx) (to_z-of_z hy)

pub returns-in-0 : goal.returns-in-0
returns-in-0 c = arm c.args.left c.args.right c.in-0.is (ap Some (to_z-of_z (in32 _ c.sum-value.type_inv) ∙ called c.ranges.left c.ranges.right (λ x y. wrap (x +ℤ y)) c.sum-value.ensures))

pub returns-in-1 : goal.returns-in-1
returns-in-1 c = arm c.args.left c.args.right c.in-1.is (ap Some (to_z-of_z (in32 _ c.difference-value.type_inv) ∙ called c.ranges.left c.ranges.right (λ x y. wrap (x -ℤ y)) c.difference-value.ensures))

pub returns-in-2 : goal.returns-in-2
returns-in-2 c = arm c.args.left c.args.right c.in-2.is (ap Some (to_z-of_z (in32 _ c.exclusive-value.type_inv) ∙ called c.ranges.left c.ranges.right xor_z c.exclusive-value.ensures))

pub returns-in-3 : goal.returns-in-3
returns-in-3 c = arm c.args.left c.args.right c.in-3.is (ap Some (to_z-of_z (in32 _ c.product-value.type_inv) ∙ called c.ranges.left c.ranges.right (λ x y. wrap (x *ℤ y)) c.product-value.ensures))

pub returns-in-4 : goal.returns-in-4
returns-in-4 c = arm c.args.left c.args.right c.in-4.is (called c.ranges.left c.ranges.right (λ x y. given (divided y (wrap (floor_div x y)))) c.quotient.ensures)

pub returns-in-5 : goal.returns-in-5
returns-in-5 c = arm c.args.left c.args.right c.in-5.is (called c.ranges.left c.ranges.right (λ x y. given (divided y (floor_mod x y))) c.remainder.ensures)

pub returns-in-6 : goal.returns-in-6
returns-in-6 c = arm c.args.left c.args.right c.in-6.is refl

pub returns-in-7 : goal.returns-in-7
returns-in-7 c = arm c.args.left c.args.right c.in-7.is refl

pub returns-after-left-ne0 : goal.returns-after-left-ne0
returns-after-left-ne0 c =
    arm c.args.left c.args.right c.in-8.is
    (ap Some
    (bool_is
    (elim c.if-left-ne0.branch [
      | then-left-ne0 w ↦ rw (is_some c.ranges.left w.if-left-ne0.true) (w.value-is ∙ bits_true _ c.ranges.right)
      | else-left-ne0 w ↦ rw (is_none c.ranges.left w.if-left-ne0.false) (w.value-is ∙ bits_true _ c.ranges.left ∙ is_none c.ranges.left w.if-left-ne0.false)
    ])))

pub returns-after-left-ne0-2 : goal.returns-after-left-ne0-2
returns-after-left-ne0-2 c =
    arm c.args.left c.args.right c.in-9.is
    (ap Some
    (bool_is
    (elim c.if-left-ne0-2.branch [
      | then-left-ne0-2 w ↦ rw (is_some c.ranges.left w.if-left-ne0-2.true) (w.value-is ∙ bits_true _ c.ranges.left ∙ is_some c.ranges.left w.if-left-ne0-2.true)
      | else-left-ne0-2 w ↦ rw (is_none c.ranges.left w.if-left-ne0-2.false) (w.value-is ∙ bits_true _ c.ranges.right)
    ])))

pub returns-in-10 : goal.returns-in-10
returns-in-10 c = arm c.args.left c.args.right c.in-10.is (ap Some (bool_is (ap₂ lt_z (to_z-of_z c.ranges.left) (to_z-of_z c.ranges.right))))

pub returns-in-11 : goal.returns-in-11
returns-in-11 c = arm c.args.left c.args.right c.in-11.is (ap Some (bool_is (ap₂ lt_z (to_z-of_z c.ranges.right) (to_z-of_z c.ranges.left))))

pub returns-in-12 : goal.returns-in-12
returns-in-12 c = arm c.args.left c.args.right c.in-12.is (ap Some (bool_is (bits_eq c.args.left c.args.right c.ranges.left c.ranges.right)))

pub returns-in-13 : goal.returns-in-13
returns-in-13 c = arm c.args.left c.args.right c.in-13.is (ap Some (bool_is (ap not (bits_eq c.args.left c.args.right c.ranges.left c.ranges.right))))

pub returns-in-14 : goal.returns-in-14
returns-in-14 c = arm c.args.left c.args.right c.in-14.is (ap Some (bool_is (ap₂ le_z (to_z-of_z c.ranges.left) (to_z-of_z c.ranges.right))))

pub returns-in_default : goal.returns-in_default
returns-in_default c = other c.args.left c.args.right (omega arith) (ap Some (bool_is (ap₂ le_z (to_z-of_z c.ranges.right) (to_z-of_z c.ranges.left))))
