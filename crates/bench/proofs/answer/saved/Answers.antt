-- `bench::answer::saved` meets its contract: what stands is saved. Assumes nothing.
use native.Mathlib.Omega.{arith}
use borrow.Author.Rules.{rules}
use Rattle.bench.proofs.Answering.{saves_done}
use Rattle.bench.proofs.answer.saved.Goals as goal

pub returns : goal.returns
returns c = saves_done (λ i. omega (arith, c.type_inv.file i)) _ _ _ _ _ (search rules) c.requires c.save.ensures c.ok.ensures.value
