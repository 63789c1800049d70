-- For each public function: any two outcomes that its contract permits are equal, the answer, the place and the store together.
-- `Post κs a r s` is the contract as the check reads it: of the arguments a, the answer r and what each argument holds afterwards, s.
-- A file's elements are bytes, as its type says.
use mathlib.Core.Path.{◌≡◌}
use contract.Lifetimes.{Lfts}
use Rattle.codes.specs.Codes.{AllBytes}
use Rattle.moves.specs.Step.{step as forward, step_back}
use Rattle.moves.specs.Runs.{run as running, run_back}
use Rattle.machine.proofs.OneAnswer.{run_one, step_one, start_one}
use Rattle.machine.proofs.run.Reads as run
use Rattle.machine.proofs.run_back.Reads as run-back
use Rattle.machine.proofs.step.Reads as step
use Rattle.machine.proofs.back.Reads as back
use Rattle.machine.proofs.start.Reads as start

pub start_determined : (κs : Lfts 1) (a : _) (r r' : _) (s s' : _) → start.Post κs a r s → start.Post κs a r' s' → AllBytes a.0.now → r ≡ r'
start_determined κs a r r' s s' p q B = start_one B p q

module _ (κs : Lfts 2) where
  pub step_determined : (a : _) (r r' : _) (s s' : _) → step.Post κs a r s → step.Post κs a r' s' → AllBytes a.0.now → (r ≡ r') × (s.1.1.0.now ≡ s'.1.1.0.now)
  step_determined a r r' s s' p q B = let z = step_one B forward p q in (λ i. record { told = z.0 i; place = z.1 i }, z.2)

  pub back_determined : (a : _) (r r' : _) (s s' : _) → back.Post κs a r s → back.Post κs a r' s' → AllBytes a.0.now → (r ≡ r') × (s.1.1.0.now ≡ s'.1.1.0.now)
  back_determined a r r' s s' p q B = let z = step_one B step_back p q in (λ i. record { told = z.0 i; place = z.1 i }, z.2)

  pub run_determined : (a : _) (r r' : _) (s s' : _) → run.Post κs a r s → run.Post κs a r' s' → AllBytes a.0.now → (r ≡ r') × (s.1.1.0.now ≡ s'.1.1.0.now)
  run_determined a r r' s s' p q B = let z = run_one B running _ p q in (λ i. record { told = z.0 i; steps = z.1 i; place = z.2 i }, z.3)

  pub run_back_determined : (a : _) (r r' : _) (s s' : _) → run-back.Post κs a r s → run-back.Post κs a r' s' → AllBytes a.0.now → (r ≡ r') × (s.1.1.0.now ≡ s'.1.1.0.now)
  run_back_determined a r r' s s' p q B = let z = run_one B run_back _ p q in (λ i. record { told = z.0 i; steps = z.1 i; place = z.2 i }, z.3)
