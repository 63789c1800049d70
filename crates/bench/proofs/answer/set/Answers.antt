-- `bench::answer::set` meets its contract: what stands with one cell set is saved. Assumes nothing.
use mathlib.Core.Path.{refl}
use native.Mathlib.Omega.{arith}
use mir.Facts.{to_z-of_z}
use Rattle.bench.specs.Answers as answers
use Rattle.bench.proofs.Answering.{keeps, nothing, put_cell}
use Rattle.bench.proofs.answer.set.Goals as goal

pub returns-then-i-store : goal.returns-then-i-store
returns-then-i-store c = λ text. answers.not_there {i = c.args.cell} (omega arith) refl refl refl

pub saved-requires : goal.saved-requires
saved-requires c = put_cell _ _ c.requires

pub returns : goal.returns
returns c = λ text. answers.sets {i = c.args.cell} (omega arith) refl (keeps (rw (to_z-of_z c.ranges.value) at c.saved.ensures) (nothing text))
