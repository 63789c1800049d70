-- `lines::answers` meets its contract and ends: each turn goes past a line. Assumes nothing.
use native.Mathlib.Omega.{arith}
use Rattle.words.proofs.Lines.{falls}
use Rattle.lines.proofs.Counting.{none, one_more, all}
use Rattle.lines.proofs.answers.Goals as goal

pub loop-at-init : goal.loop-at-init
loop-at-init g c = none _

pub overflow_add-count : goal.overflow_add-count
overflow_add-count g c = omega (arith, c.loop-at.invariant.few, c.loop-at-test.true)

pub loop-at-smaller : goal.loop-at-smaller
loop-at-smaller g c = falls _ c.loop-at.at c.next_line-at.result c.loop-at-test.true c.next_line-at.ensures

pub loop-at-preserved : goal.loop-at-preserved
loop-at-preserved g c = one_more _ c.loop-at.at c.loop-at.count c.next_line-at.result c.loop-at-test.true c.next_line-at.ensures c.loop-at.invariant

pub returns : goal.returns
returns g c = all _ _ _ c.loop-at-test.false c.loop-at.invariant
