-- `words::next_line` meets its contract: the next line is the same from every byte of a line. Assumes nothing.
use native.Mathlib.Omega.{arith}
use Rattle.words.proofs.Lines.{ends, goes_on, nothing}
use Rattle.words.proofs.next_line.Goals as goal

pub returns-then-s-i-eq10 : goal.returns-then-s-i-eq10
returns-then-s-i-eq10 c = omega (arith, ends c.args.s.now c.loop-i.i (omega arith) c.if-s-i-eq10.true)

pub loop-i-preserved : goal.loop-i-preserved
loop-i-preserved c = omega (arith, goes_on c.args.s.now c.loop-i.i (omega arith) c.if-s-i-eq10.false)

pub returns : goal.returns
returns c = grind (arith, nothing c.args.s.now c.loop-i.i (omega arith), nothing c.args.s.now c.args.at)
