-- `evaluate::value`, `compound`, `read` and `operated` meet their contracts: the cases of `Values`. Assumes nothing.
use mathlib.Core.Path.{refl}
use Prim.Native.Nat.{◌+◌}
use Rattle.expr.specs.Bytes.{up_to}
use Rattle.evaluate.proofs.Values.{compounds, read_in, read_outside, both_value, both_none, value_none, value_out, value_leaf}
use Rattle.evaluate.proofs.+compound_operated_read_value.Goals as goal
use Rattle.evaluate.proofs.+compound_operated_read_value.Goals.{value-then-depth-eq0-via-then-depth-eq0, value-then-depth-eq0-via-else-depth-eq0+then-at-ge-ROOM}

pub compound-returns-then-one-eq-READ : goal.compound-returns-then-one-eq-READ
compound-returns-then-one-eq-READ t c = search compounds

pub compound-returns : goal.compound-returns
compound-returns t c = search compounds

pub operated-returns-in-Some : goal.operated-returns-in-Some
operated-returns-in-Some t c = both_value _ _ _ _ _ _ _ _ _ c.value.ensures c.in_ok-l.was _ _ _ c.value-2.ensures c.in_ok-r.was _ _ c.apply.ensures refl _ c.in-Some.is

pub operated-returns-in-None : goal.operated-returns-in-None
operated-returns-in-None t c = both_none _ _ _ _ _ _ _ _ _ c.value.ensures c.in_ok-l.was _ _ _ c.value-2.ensures c.in_ok-r.was _ _ c.apply.ensures refl c.in-None.is

pub read-returns-in-Some : goal.read-returns-in-Some
read-returns-in-Some t c = read_in _ _ _ (up_to 32768 c.args.depth c.args.bytes.now (c.args.at.now + 3)) _ _ _ c.value.ensures c.in_ok-i.was _ _ c.entry_of.ensures c.two-a.ensures.0 _ _ c.in-Some.is (record { sfits = c.cell.type_inv }) c.cell.ensures

pub read-returns-in-None : goal.read-returns-in-None
read-returns-in-None t c = read_outside _ _ _ (up_to 32768 c.args.depth c.args.bytes.now (c.args.at.now + 3)) _ _ _ c.value.ensures c.in_ok-i.was _ _ c.entry_of.ensures c.two-a.ensures.0 c.in-None.is

pub value-returns-then-depth-eq0 : goal.value-returns-then-depth-eq0
value-returns-then-depth-eq0 t c =
    elim c.then-depth-eq0.branch [
      | value-then-depth-eq0-via-then-depth-eq0 w ↦ value_none _ _ _ _ _ w.if-depth-eq0.true
      | value-then-depth-eq0-via-else-depth-eq0+then-at-ge-ROOM w ↦ value_out _ _ _ _ _ w.if-at-ge-ROOM.true
    ]

pub value-returns-then-one-lt-READ : goal.value-returns-then-one-lt-READ
value-returns-then-one-lt-READ t c = search (value_leaf)
