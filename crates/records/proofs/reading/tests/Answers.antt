-- `records::reading::tests` meets its contract: a number that has a kind does what the kind does. Assumes nothing.
use mathlib.Core.Path.{sym}
use Rattle.records.proofs.Thirteen.{tests_some}
use Rattle.records.proofs.reading.tests.Goals as goal

pub returns : goal.returns
returns c = tests_some c.args.kind c.in-Some.kind (sym c.in-Some.ensures) c.is_test.result c.is_test.ensures
