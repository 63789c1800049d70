-- What the inner functions go by. Nothing here has to be believed: proofs/Cases joins it to Desk.
use Rattle.std.specs.Prelude.{ℕ, ◌≡◌, List, Result, Ok, Err}
use denote.Ref.{MutBor}
use Rattle.refusals.specs.declared.Refusal.{Refusal}
use Rattle.refusals.specs.Numbers.{number_of}
use Rattle.place.specs.declared.Place.{Place as Held}
use Rattle.order.specs.Trees.{Tree}
use Rattle.moves.specs.Places.{Place}
use Rattle.moves.specs.Stores.{Answer as Arrival, Store}
use Rattle.moves.specs.Runs as runs
use Rattle.machine.specs.Answers.{StepSays, RunSays}
use Rattle.machine.specs.declared.Ran.{Ran}
use Rattle.desk.specs.declared.Session.{Session}
use Rattle.desk.specs.declared.Answer.{Answer}
use Rattle.desk.specs.declared.Outcome.{Outcome}
use Rattle.desk.specs.Desk.{numbers, made, store_of, steps_of}

-- what was told in numbers, with this count
abbrev pub in_numbers : Result (Unit {0}) Refusal → ℕ → Answer
in_numbers (Ok u) n = numbers 0 0 n
in_numbers (Err r) n = numbers (number_of r.reason) r.label n

-- the next session, or else the one that was lent
abbrev pub left : Session → Result Session Refusal → Outcome
left s (Ok z) = made (numbers 0 0 0) z
left s (Err r) = made (numbers (number_of r.reason) r.label 0) s

-- a call that is lent the session's store may answer so, and leave this store
pub record By (post : MutBor Store → Ran → MutBor Store → Type 0) (s : Session) (told : Result (Unit {0}) Refusal) (steps : ℕ) (q : Held) (σ : Store) : Type 0 where
  pub lent : MutBor Store
  pub back : MutBor Store
  pub shows : lent.now ≡ store_of s
  pub leaves : back.now ≡ σ
  pub met : post lent (record { told = told; steps = steps; place = q }) back

-- what a step of the machine answers, counted as a run
abbrev pub Steps : (Tree → Place → Store → Arrival (Place × Store)) → List ℕ → Held → Store → Ran → Store → Type 0
Steps move f q σ r σ' = StepSays move f q σ r.told r.place σ' × (r.steps ≡ steps_of r.told)

-- what a run of the machine answers
abbrev pub Runs : (Tree → ℕ → Place → Store → runs.Ran) → List ℕ → Held → ℕ → Store → Ran → Store → Type 0
Runs run f q n σ r σ' = RunSays run f q σ n r.told r.steps r.place σ'
