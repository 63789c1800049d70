-- Document 01: runs of n steps, and walks.
use Rattle.std.specs.Prelude.{ℕ, zero, suc, ◌⊎◌, ◌≡◌}
use Rattle.order.specs.Trees.{Tree}
use Rattle.moves.specs.Places.{Place}
use Rattle.moves.specs.Stores.{Reason, number, Answer, ok, no, Store}
use Rattle.moves.specs.Step.{step, step_back}

-- Why a run stopped: all n steps were made, or a reason. "the reason, 0 where all n were made"
pub data Stop : Type 0 where
  made : Stop
  because : Reason → Stop

abbrev pub stop_number : Stop → ℕ
stop_number made = 0
stop_number (because r) = number r

-- "answers the steps made, the last place and the reason ..; the store is the one at that place"
pub record Ran : Type 0 where
  pub steps : ℕ
  pub place : Place
  pub store : Store
  pub stop : Stop

-- "A run of n steps .. stops at n or the first refusal", with steps that s makes.
abbrev pub onward : Answer (Place × Store) → (Place → Store → Ran) → Place → Store → Ran
onward (no r) k p σ = record { steps = 0; place = p; store = σ; stop = because r }
onward (ok x) k p σ = let r = k x.0 x.1 in record { steps = suc r.steps; place = r.place; store = r.store; stop = r.stop }

unfoldable pub run_by : (Place → Store → Answer (Place × Store)) → ℕ → Place → Store → Ran
run_by s zero p σ = record { steps = 0; place = p; store = σ; stop = made }
run_by s (suc n) p σ = onward (s p σ) (λ p σ. run_by s n p σ) p σ

abbrev pub run : Tree → ℕ → Place → Store → Ran
run t = run_by (step t)

abbrev pub run_back : Tree → ℕ → Place → Store → Ran
run_back t = run_by (step_back t)

-- A walk: steps forward and back that arrive, in any order. (A refused one stays.)
pub data Walk (t : Tree) : Place → Store → Place → Store → Type 0 where
  stay : {p : Place} {σ : Store} → Walk t p σ p σ
  on : {p p₁ p' : Place} {σ σ₁ σ' : Store} → (step t p σ ≡ ok (p₁, σ₁)) ⊎ (step_back t p σ ≡ ok (p₁, σ₁)) → Walk t p₁ σ₁ p' σ' → Walk t p σ p' σ'
