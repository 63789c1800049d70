-- `program::arrays::arrays` meets its contract: what is left to put gives the whole.
use Rattle.std.proofs.Common.{◌≡◌, arith}
use Rattle.program.specs.Arrays.{array_count}
use Rattle.program.proofs.ArrayLoops.{fill_first, fill_more, fill_done}
use Rattle.program.proofs.arrays.arrays.Goals as goal

pub loop-i-init : goal.loop-i-init
loop-i-init c =
    let n : c.min-n.result ≡ array_count c.args.file.now = omega (arith, c.short.ensures.0) in
    record { small = omega arith; same = fill_first c.args.file.now _ _ n c.short-start.ensures.0 }

pub loop-i-preserved : goal.loop-i-preserved
loop-i-preserved c =
    record {
      small = omega arith;
      same = fill_more c.args.file.now _ _ _ _ _ (omega arith) (omega arith) c.short-length.ensures.0 c.loop-i.invariant.same;
    }

pub returns : goal.returns
returns c = fill_done c.args.file.now _ _ _ _ (omega arith) c.loop-i.invariant.same
