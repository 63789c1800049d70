-- `session::place_in` meets its contract. Assumes nothing.
use Rattle.std.proofs.Common.{arith}
use Rattle.session.specs.Answers.{held_at}
use Rattle.session.proofs.Saving.{few_frames, place_is}
use Rattle.session.proofs.place_in.Goals as goal

pub column_at-requires : goal.column_at-requires
column_at-requires c = omega (arith, few_frames c.args.saved.now c.if-not-well_formed.ensures)

pub column_at-requires-2 : goal.column_at-requires-2
column_at-requires-2 c = omega (arith, few_frames c.args.saved.now c.if-not-well_formed.ensures)

pub returns : goal.returns
unfolding held_at
returns c = cc (place_is c.args.saved.now c.if-not-well_formed.ensures)
