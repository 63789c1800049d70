-- `run::answer` is safe: what is printed lies within the text. Assumes nothing.
use mathlib.Core.Path.{sym}
use native.Mathlib.Omega.{arith}
use lib.Seq.{length-take-le}
use borrow.Author.Rules.{rules}
use Rattle.run.proofs.Running.{reported}
use Rattle.run.proofs.answer.Goals as goal

pub slice_bounds-text-end : goal.slice_bounds-text-end
slice_bounds-text-end c = reported c.report-n.ensures

pub slice_bounds-say-end-2 : goal.slice_bounds-say-end-2
slice_bounds-say-end-2 c = sym (length-take-le _ _ (reported c.report-n.ensures))
