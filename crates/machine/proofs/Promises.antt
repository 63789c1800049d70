-- Demand 3 of the code's own answers: `StepSays` and `RunSays` are what the contracts of `step`, `back`, `run` and `run_back` say.
--     step_undone, back_undone          a step back after a step that was done answers the former place and store; and the other way round
--     run_undone                        as many steps back as a run made answer the former place and store
use Prim.Native.Nat.{ℕ}
use mathlib.Core.Path.{◌≡◌, refl, sym, ap, ap₂, ◌∙◌, subst}
use mathlib.Core.List.{List}
use lib.ListN.{length}
use Rattle.std.specs.Prelude.{Ok}
use Rattle.codes.specs.Codes.{AllBytes}
use Rattle.place.specs.declared.Place.{Place as Held}
use Rattle.place.specs.Places.{Place}
use Rattle.place.specs.Slots.{held}
use Rattle.order.specs.Trees.{Tree}
use Rattle.program.specs.Says.{Accepts}
use Rattle.moves.specs.Places.{Fits}
use Rattle.moves.specs.Stores.{ok, Store, Sized}
use Rattle.moves.specs.Step.{step, step_back}
use Rattle.moves.specs.Runs.{stop_number, run as running, run_back}
use Rattle.moves.specs.Runs as runs
use Rattle.moves.proofs.Theorems as theorems
use Rattle.machine.specs.Answers.{Gives, done, Before, StepSays, refused, stopped, arrived, RunSays, ran}
use Rattle.machine.proofs.Giving.{Told, gives_done, not_none, before_some, reason_some}
use Rattle.machine.proofs.OneAnswer.{run_one, step_one}
use Rattle.machine.proofs.Walks.{Range, Move}

-- ---- steps
module _ {f : List ℕ} (B : AllBytes f) {q : Held} {σ : Store} (range : Range σ) where
  undone : (move back : Move)
      → ((t : Tree) → Accepts f t → (p : Place) → Fits t p → (σ : Store) → Sized t σ → (p' : Place) (σ' : Store) → move t p σ ≡ ok (p', σ')
      → Fits t p' × Sized t σ' × (back t p' σ' ≡ ok (p, σ)))
      → {q' q'' : Held} {σ' σ'' : Store} {a a' : Told} → StepSays move f q σ a q' σ' → Gives a 0 0 → StepSays back f q' σ' a' q'' σ''
      → Gives a' 0 0 × (q'' ≡ q) × (σ'' ≡ σ)
  undone move back undoes (refused b e₁ e₂ e₃) g s = not_none (before_some b) e₁ g
  undone move back undoes (stopped {r = r} R m e₁ e₂ e₃) g s = not_none (reason_some r) e₁ g
  undone move back undoes {q'} {σ' = σ'} (arrived {t} {p} {p'} {τ} R m e₁ e₂ e₃) g s =
      let u = undoes t R.accepts p R.fits σ (record { size = R.sized; range = range }) p' τ m in
      let y : StepSays back f q' σ' (Ok tt) q σ = arrived (record { accepts = R.accepts; sized = ap length e₃ ∙ u.1.size; holds = e₂; fits = u.0 }) (ap (back t p') e₃ ∙ u.2) done R.holds refl in
      let z = step_one B back s y in (gives_done z.0, z.1, z.2)

  pub step_undone : {q' q'' : Held} {σ' σ'' : Store} {a a' : Told} → StepSays step f q σ a q' σ' → Gives a 0 0 → StepSays step_back f q' σ' a' q'' σ''
      → Gives a' 0 0 × (q'' ≡ q) × (σ'' ≡ σ)
  step_undone = undone step step_back (λ t A. theorems.back_undoes_forward A)

  pub back_undone : {q' q'' : Held} {σ' σ'' : Store} {a a' : Told} → StepSays step_back f q σ a q' σ' → Gives a 0 0 → StepSays step f q' σ' a' q'' σ''
      → Gives a' 0 0 × (q'' ≡ q) × (σ'' ≡ σ)
  back_undone = undone step_back step (λ t A. theorems.forward_undoes_back A)

-- ---- runs, of what `run` and `run_back` answer where nothing refuses them before their first step
module _ {f : List ℕ} (B : AllBytes f) {q : Held} {σ : Store} (range : Range σ) (free : (m k : ℕ) → Before f q σ m k → ⊥) where
  pub run_undone : (n : ℕ) {a a' : Told} {k k' : ℕ} {q' q'' : Held} {σ' σ'' : Store} → RunSays running f q σ n a k q' σ' → RunSays run_back f q' σ' k a' k' q'' σ''
      → Gives a' 0 0 × (k' ≡ k) × (q'' ≡ q) × (σ'' ≡ σ)
  run_undone n (refused b e₁ e₂ e₃ e₄) s = absurd (free _ _ b)
  run_undone n {k = k} {q' = q'} {σ' = σ'} (ran {t} {p} R e₁ e₂ e₃ e₄) s =
      let so : Sized t σ = record { size = R.sized; range = range } in
      let z = theorems.run_fits R.accepts n p σ R.fits so in
      let v = ap₂ (λ k τ. run_back t k (running t n p σ).place τ) e₂ e₄ ∙ theorems.run_undone R.accepts n p σ R.fits so in
      let y : RunSays run_back f q' σ' k (Ok tt) k q σ =
      ran (record { accepts = R.accepts; sized = ap length e₄ ∙ z.1.size; holds = e₃; fits = z.0 })
      (subst (λ (r : runs.Ran). Gives (Ok tt) (stop_number r.stop) 0) (sym v) done) (e₂ ∙ sym (ap (λ (r : runs.Ran). r.steps) v)) (R.holds ∙ sym (ap (λ (r : runs.Ran). held r.place) v)) (sym (ap (λ (r : runs.Ran). r.store) v)) in
      let w = run_one B run_back k s y in (gives_done w.0, w.1, w.2, w.3)
