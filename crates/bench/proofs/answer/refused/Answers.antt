-- `bench::answer::refused` meets its contract. Assumes nothing.
use mathlib.Core.Path.{refl}
use borrow.Author.Rules.{rules}
use Rattle.bench.proofs.Answering.{tells_refused}
use Rattle.bench.proofs.answer.refused.Goals as goal

pub returns : goal.returns
returns c = let h = rw c.number.ensures at c.put_refused.ensures in
    λ b. record { none = refl; kept = refl; lines = tells_refused c.args.text.now c.put_refused.new.buf c.put_refused.result _ c.args.refusal.label (search rules) (h.value, h.buf_after) }
