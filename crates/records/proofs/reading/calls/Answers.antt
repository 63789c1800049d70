-- `records::reading::calls` meets its contract: a number that has a kind does what the kind does. Assumes nothing.
use mathlib.Core.Path.{sym}
use Rattle.records.proofs.Thirteen.{calls_some}
use Rattle.records.proofs.reading.calls.Goals as goal

pub returns : goal.returns
returns c = calls_some c.args.kind c.in-Some.kind (sym c.in-Some.ensures) c.is_call.result c.is_call.ensures
