-- `names::first_unknown` meets its contract: no more records than bytes, and each is asked in turn.
use Rattle.std.proofs.Common.{ap, arith, length, inl, not, rules}
use Rattle.std.proofs.lemmas.Iterator.Consumers.{YieldsList-from_first}
use Rattle.std.proofs.lemmas.Iterator.Search.{position_from_yields_List}
use Rattle.records.proofs.Offsets.{offsets_few}
use Rattle.records.specs.Walk.{offsets}
use Rattle.records.specs.Left.{offsets_left}
use Rattle.names.specs.Names.{there_at}
use Rattle.names.proofs.first_unknown.Goals as goal

pub position-requires-clause-fits : goal.position-requires-clause-fits
unfolding offsets
position-requires-clause-fits c = let file = c.args.file.now in inl (omega (arith, ap length c.of.ensures, offsets_few (length file) file 0))

pub returns : goal.returns
returns c =
    position_from_yields_List (λ at. not (there_at c.args.file.now at c.args.scalars c.args.arrays c.args.procedures)) c.position.new.self _ _ c.position.ensures.ran (YieldsList-from_first (λ x. x) offsets_left _ c.of.ensures) (λ x r q k. search rules)
