-- `run::put_report` meets its contract: its lines, one after another. Assumes nothing.
use borrow.Author.Rules.{rules}
use Rattle.print.proofs.Rows.{joined}
use Rattle.run.specs.Report.{report_lines}
use Rattle.run.proofs.put_report.Goals as goal

pub returns : goal.returns
unfolding report_lines
returns c = let h = joined _ _ _ _ _ _ _ _ (c.put_steps-i.ensures.value, c.put_steps-i.ensures.buf_after) (joined _ _ _ _ _ _ _ _ (c.put_at-j.ensures.value, c.put_at-j.ensures.buf_after) (c.put_cells.ensures.value, c.put_cells.ensures.buf_after)) in
    record { value = h.0; text_after = h.1 }
