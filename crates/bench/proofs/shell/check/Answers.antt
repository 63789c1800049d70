-- `bench::shell::check` is safe: what is said lies within the text. Assumes nothing.
use mathlib.Core.Path.{sym}
use lib.Seq.{length-take-le}
use borrow.Author.Rules.{rules}
use Rattle.bench.proofs.Answering.{checks_room}
use Rattle.bench.proofs.shell.check.Goals as goal

pub slice_bounds-text-end : goal.slice_bounds-text-end
slice_bounds-text-end c = checks_room c.checked-n.ensures

pub slice_bounds-say-end : goal.slice_bounds-say-end
slice_bounds-say-end c = sym (length-take-le _ _ (checks_room c.checked-n.ensures))
