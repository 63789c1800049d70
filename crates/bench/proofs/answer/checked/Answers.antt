-- `bench::answer::checked` meets its contract. Assumes nothing.
use borrow.Author.Rules.{rules}
use Rattle.program.proofs.CheckSays.{refused_of_lem}
use Rattle.program.proofs.Few.{accepted_counts}
use Rattle.bench.specs.Answers as answers
use Rattle.bench.proofs.Answering.{tells_refused, tells_accepted}
use Rattle.bench.proofs.answer.checked.Goals as goal

pub returns-in-Err : goal.returns-in-Err
returns-in-Err c = let h = rw c.number.ensures at c.put_refused.ensures in
    answers.Checks.refused (refused_of_lem _ c.check.result c.in-Err.refusal c.check.ensures c.in-Err.is)
    (tells_refused c.args.text.now c.put_refused.new.buf c.put_refused.result _ c.in-Err.refusal.label (search rules) (h.value, h.buf_after))

pub returns-in-Ok : goal.returns-in-Ok
returns-in-Ok c = answers.accepted (accepted_counts _ c.check.result c.check.ensures _ c.in-Ok.is)
    (tells_accepted c.args.text.now c.put_accepted.new.buf _ _ _ _ (search rules) (c.put_accepted.ensures.value, c.put_accepted.ensures.buf_after))
