-- `run::walked` meets its contract. Assumes nothing.
use native.Mathlib.Omega.{arith}
use borrow.Author.Rules.{rules}
use Rattle.run.proofs.Running.{began, begins, reports}
use Rattle.run.proofs.walked.Goals as goal

pub unwrap-first-requires : goal.unwrap-first-requires
unwrap-first-requires c = begins c.args.file.now (λ i. omega (arith, c.type_inv.file i)) c.requires.0 c.requires.2 c.start.result c.start.ensures

pub returns : goal.returns
returns c = let h = rw c.reason.ensures at c.put_report.ensures in
    reports c.args.file.now (λ i. omega (arith, c.type_inv.file i)) c.requires.0 c.requires.2 c.args.text.now c.put_report.new.text c.put_report.result c.args.store.now
    c.unwrap-first.result c.run-ran.result.told c.run-ran.result.steps c.run-ran.result.place _ (search rules) c.run-ran.auto.store c.requires.1
    (began c.args.file.now (λ i. omega (arith, c.type_inv.file i)) c.requires.0 c.requires.2 c.start.ensures c.unwrap-first.ensures) c.run-ran.ensures (h.value, h.text_after)
