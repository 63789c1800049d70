-- `evaluate::truth` meets its contract: the cases of `Truths`. Assumes nothing.
use mathlib.Core.Path.{refl}
use Rattle.evaluate.proofs.Truths.{verdict_of, simple_holds, simple_stops}
use Rattle.evaluate.proofs.truth.Goals as goal

pub returns-in-Some : goal.returns-in-Some
returns-in-Some c =
    simple_holds _ _ _ _ _ c.is_simple.ensures c.if-is_simple.true _ _ (record { sfits = c.leaf-l.type_inv }) (record { sfits = c.leaf-r.type_inv }) _ _ c.leaf-l.ensures c.leaf-r.ensures (rw c.one.ensures.0 at c.if-one-lt-READ.true) _ refl _ c.apply.ensures _ c.in-Some.is

pub returns-in-None : goal.returns-in-None
returns-in-None c =
    simple_stops _ _ _ _ _ c.is_simple.ensures c.if-is_simple.true _ _ (record { sfits = c.leaf-l.type_inv }) (record { sfits = c.leaf-r.type_inv }) _ _ c.leaf-l.ensures c.leaf-r.ensures (rw c.one.ensures.0 at c.if-one-lt-READ.true) _ refl _ c.apply.ensures c.in-None.is

pub returns : goal.returns
returns c = verdict_of _ _ _ _ _ c.value.ensures c.in_ok-worth.was
