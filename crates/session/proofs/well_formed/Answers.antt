-- `session::well_formed` meets its contract. Assumes nothing.
use Rattle.std.proofs.Common.{arith, sym, ◌∙◌}
use Rattle.session.proofs.Cases.{HeadRight, head_right}
use Rattle.session.proofs.well_formed.Goals as goal
use Rattle.session.proofs.well_formed.Goals.{then-head_right, else-head_right}

pub store_right-requires : goal.store_right-requires
store_right-requires c =
    elim c.if-head_right.branch [
      | then-head_right w ↦ let h : HeadRight c.args.saved.now = head_right _ (sym c.head_right.ensures ∙ w.if-head_right.true) in omega arith
      | else-head_right w ↦ absurd cc
    ]
