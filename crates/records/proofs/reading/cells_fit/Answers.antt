-- `reading::cells_fit` meets its contract: what is left to ask stays the same question.
use Rattle.std.proofs.Common.{◌≡◌, ◌+◌, ◌*◌, ◌-◌, ◌∙◌, arith}
use Rattle.records.proofs.Cases.{cells_step}
use Rattle.records.proofs.reading.cells_fit.Goals as goal

pub loop-i-preserved : goal.loop-i-preserved
loop-i-preserved c =
    let l = c.loop-i in
    let a = c.args in
    let next : a.at + 2 * (l.i + 1) ≡ a.at + 2 * l.i + 2 = omega arith in
    let left : a.n - (l.i + 1) ≡ a.n - l.i - 1 = omega arith in
    record {
      most = omega arith;
      left = rw (next, left, c.short-length.ensures.0) (cells_step a.file.now _ _ l.total (omega arith) (omega arith) (omega arith) ∙ l.invariant.left);
    }
