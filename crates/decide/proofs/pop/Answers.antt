-- `decide::pop` meets its contract: the cases of `DecideCases`. Assumes nothing.
use mathlib.Core.Path.{◌∙◌}
use Rattle.decide.proofs.DecideCases.{depths, slots, depth_fewer, slot_near, slot_far}
use Rattle.decide.proofs.pop.Goals as goal
use Rattle.decide.proofs.pop.Goals.{then-n-le-SLOTS, else-n-le-SLOTS}

pub returns-then-n-eq0 : goal.returns-then-n-eq0
returns-then-n-eq0 c = (search depths, (search slots, search slots))

pub returns : goal.returns
returns c =
    let deep = depth_fewer _ c.if-n-eq0.false in
    elim c.if-n-le-SLOTS.branch [
      | then-n-le-SLOTS w ↦ (deep, (w.kinds-is ∙ slot_near _ _ 0 c.if-n-eq0.false w.if-n-le-SLOTS.true, w.labels-is ∙ slot_near _ _ 0 c.if-n-eq0.false w.if-n-le-SLOTS.true))
      | else-n-le-SLOTS w ↦ (deep, (w.kinds-is ∙ slot_far _ _ 0 c.if-n-eq0.false w.if-n-le-SLOTS.false, w.labels-is ∙ slot_far _ _ 0 c.if-n-eq0.false w.if-n-le-SLOTS.false))
    ]
