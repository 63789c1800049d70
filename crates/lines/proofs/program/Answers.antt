-- `lines::program` meets its contract: a line has a byte at least. Assumes nothing.
use native.Mathlib.Omega.{arith}
use lib.ListN.{take}
use lib.Seq.{length-take-le}
use Rattle.lines.proofs.Counting.{lines_few}
use Rattle.lines.proofs.program.Goals as goal

pub returns-in-Ok : goal.returns-in-Ok
returns-in-Ok c =
    let b = c.read_open.new.buf in omega (arith, c.answers.ensures, lines_few (take c.in-Ok.n b), length-take-le c.in-Ok.n b c.in-Ok.ensures, c.in-Ok.ensures)
