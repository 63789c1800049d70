-- `words::full` meets its contract. Assumes nothing.
use mathlib.Core.Path.{refl}
use Rattle.words.specs.Zeros.{copies}
use Rattle.words.proofs.Zeros.{filled}
use Rattle.words.proofs.full.Goals as goal

pub returns : goal.returns
unfolding copies
returns g c = filled c.args.x _ _ refl
