-- `run::report` meets its contract. Assumes nothing.
use borrow.Author.Rules.{rules}
use Rattle.program.proofs.Few.{accepted_counts}
use Rattle.run.proofs.Running.{refusal}
use Rattle.run.proofs.report.Goals as goal

pub ran-requires : goal.ran-requires
ran-requires c = (_, _, accepted_counts _ c.check.result c.check.ensures _ c.in-Ok.is)

pub returns-in-Err : goal.returns-in-Err
returns-in-Err c = let h = rw c.number.ensures at c.put_refused.ensures in refusal c.args.file.now c.check.result c.check.ensures _ _ _ c.in-Err.refusal (search rules) c.in-Err.is (h.value, h.buf_after)
