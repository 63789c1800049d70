-- Demands 2 and 3: what is proved of every accepted file, every store of its size and every place that fits.
use Prim.Native.Nat.{ℕ, ◌+◌}
use mathlib.Core.Path.{◌≡◌, ap, ap₂}
use mathlib.Core.List.{List}
use mathlib.Core.Logic.{◌↔◌}
use Rattle.records.specs.Records.{names, begin, end, else, loop}
use Rattle.order.specs.Trees.{Tree}
use Rattle.program.specs.Says.{Accepts}
use Rattle.moves.specs.Labels.{at}
use Rattle.moves.specs.Places.{Dir, down, up, Place, turn, Fits}
use Rattle.moves.specs.Stores.{Reason, at_end, Answer, ok, no, bind, Store, Sized}
use Rattle.moves.specs.Step.{step, step_back, start}
use Rattle.moves.specs.Reasons.{Condition}
use Rattle.moves.specs.Runs.{Walk, made, Ran, run, run_back}
use Rattle.moves.proofs.Cuts.{Cut, Sits}
use Rattle.moves.proofs.Rows.{prog}
use Rattle.moves.proofs.Acts.{act}
use Rattle.moves.proofs.View.{view}
use Rattle.moves.proofs.Match.{Placed}
use Rattle.moves.proofs.Match as match
use Rattle.moves.proofs.Undo as undo
use Rattle.moves.proofs.Refusals as refusals
use Rattle.moves.proofs.Walks as walks
use Rattle.moves.proofs.Runs as runs
use Rattle.moves.proofs.Runs.{IsRun}
use Rattle.moves.proofs.Accepted.{accepted_wf}

-- A refused step back is a refused step forward from the place turned round.
back_no : (t : Tree) (p : Place) (σ : Store) (r : Reason) → step_back t p σ ≡ no r ↔ step t (turn p) σ ≡ no r
unfolding step_back bind
back_no t p σ r = go' (step t (turn p) σ)
  where
    go' : (a : Answer (Place × Store)) → bind {B = Place × Store} a (λ s. ok (turn s.0, s.1)) ≡ no r ↔ a ≡ no r
    go' (ok x) = (λ e. cc, λ e. cc)
    go' (no n) = (λ e. cc, λ e. cc)

module _ {f : List ℕ} {t : Tree} (accepts : Accepts f t) where
  -- 1. The step answers r exactly if r's condition holds; it arrives exactly if none does, and then at a place that fits with a store of the same size.
  pub refused : (p : Place) → Fits t p → (σ : Store) (r : Reason) → step t p σ ≡ no r ↔ Condition t p σ r
  refused = refusals.refused t (accepted_wf accepts)

  pub refused_back : (p : Place) → Fits t p → (σ : Store) (r : Reason) → step_back t p σ ≡ no r ↔ Condition t (turn p) σ r
  refused_back p h σ r =
      let a = back_no t p σ r in let b = refused (turn p) (undo.turn_fits t (accepted_wf accepts) p h) σ r in
      (λ e. b.0 (a.0 e), λ c. a.1 (b.1 c))

  pub arrives : (p : Place) → Fits t p → (σ : Store) → ((x : Place × Store) × (step t p σ ≡ ok x)) ↔ ((r : Reason) → Condition t p σ r → ⊥)
  arrives = refusals.arrived t (accepted_wf accepts)

  pub one_reason : (p : Place) → Fits t p → (σ : Store) (r r' : Reason) → Condition t p σ r → Condition t p σ r' → r ≡ r'
  one_reason = refusals.one_reason t (accepted_wf accepts)

  -- No place that fits comes to a record that leaves all as it is: NAMES, ELSE, LOOP, BEGIN down and END up.
  pub acts : (p : Place) → Fits t p → ((v : ℕ) (ls : List ℕ) → at t p.b ≡ names v ls → ⊥) × (at t p.b ≡ else → ⊥) × (at t p.b ≡ loop → ⊥)
      × (at t p.b ≡ begin → p.d ≡ down → ⊥) × (at t p.b ≡ end → p.d ≡ up → ⊥)
  unfolding act
  acts p f =
      let no = refusals.acts t (accepted_wf accepts) p f in (
        λ v ls e. no (ap (λ ρ. act ρ p.d) e),
        λ e. no (ap (λ ρ. act ρ p.d) e),
        λ e. no (ap (λ ρ. act ρ p.d) e),
        λ e k. no (ap₂ act e k),
        λ e k. no (ap₂ act e k),
      )

  -- 1, 2. Where a step forward arrives, the place fits, the store has its size, and the step back arrives at the former store, labels, direction and frames.
  pub back_undoes_forward : (p : Place) → Fits t p → (σ : Store) → Sized t σ → (p' : Place) (σ' : Store) → step t p σ ≡ ok (p', σ')
      → Fits t p' × Sized t σ' × (step_back t p' σ' ≡ ok (p, σ))
  back_undoes_forward = undo.back_undoes t (accepted_wf accepts)

  pub forward_undoes_back : (p : Place) → Fits t p → (σ : Store) → Sized t σ → (p' : Place) (σ' : Store) → step_back t p σ ≡ ok (p', σ')
      → Fits t p' × Sized t σ' × (step t p' σ' ≡ ok (p, σ))
  forward_undoes_back = undo.forward_undoes t (accepted_wf accepts)

  -- 3. Both starts fit; there a step back is refused with 30; after any walk from a start it is refused only at the start itself, with 30.
  pub start_fits : (d : Dir) → Fits t (start t d)
  start_fits = undo.start_fits t (accepted_wf accepts)

  pub start_refused : (d : Dir) (σ : Store) → step_back t (start t d) σ ≡ no at_end
  start_refused = undo.start_refused t (accepted_wf accepts)

  pub walk_refused : (d : Dir) (σ₀ : Store) → Sized t σ₀ → {p : Place} {σ : Store} (r : Reason) → Walk t (start t d) σ₀ p σ → step_back t p σ ≡ no r
      → (p ≡ start t d) × (σ ≡ σ₀) × (r ≡ at_end)
  walk_refused d σ₀ so = walks.walk_back t (accepted_wf accepts) d σ₀ so

  pub walk_fits : (d : Dir) (σ₀ : Store) → Sized t σ₀ → {p : Place} {σ : Store} → Walk t (start t d) σ₀ p σ → Fits t p × Sized t σ
  walk_fits d σ₀ so = walks.walk_fits t (accepted_wf accepts) d σ₀ so

  -- 4. As many steps back as a run made undo it, and the other way round; its last place fits. (That it is that many single steps needs no accepted file.)
  pub run_undone : (n : ℕ) (p : Place) (σ : Store) → Fits t p → Sized t σ
      → let r = run t n p σ in run_back t r.steps r.place r.store ≡ record { steps = r.steps; place = p; store = σ; stop = made }
  run_undone = runs.run_undone t (accepted_wf accepts)

  pub run_back_undone : (n : ℕ) (p : Place) (σ : Store) → Fits t p → Sized t σ
      → let r = run_back t n p σ in run t r.steps r.place r.store ≡ record { steps = r.steps; place = p; store = σ; stop = made }
  run_back_undone = runs.run_back-undone t (accepted_wf accepts)

  pub run_fits : (n : ℕ) (p : Place) (σ : Store) → Fits t p → Sized t σ → Fits t (run t n p σ).place × Sized t (run t n p σ).store
  run_fits = runs.run_fits t (accepted_wf accepts)

  pub run_back_fits : (n : ℕ) (p : Place) (σ : Store) → Fits t p → Sized t σ → Fits t (run_back t n p σ).place × Sized t (run_back t n p σ).store
  run_back_fits = runs.run_back_fits t (accepted_wf accepts)

  -- No two inputs to one output.
  pub injective : (d : Dir) (n m : ℕ) (σ σ' : Store) → Sized t σ → Sized t σ' → (run t n (start t d) σ).place ≡ (run t m (start t d) σ').place
      → (run t n (start t d) σ).store ≡ (run t m (start t d) σ').store → ((run t n (start t d) σ).steps ≡ (run t m (start t d) σ').steps) × (σ ≡ σ')
  injective = runs.injective t (accepted_wf accepts)

  -- 5. The places that fit and the gap places match one to one; and what follows a on the edge is told by a, the direction and the frames.
  pub place_of_cut : (s : Cut) → Sits (prog t) s → Fits t (view (prog t) s)
  place_of_cut = match.cut_fits t (accepted_wf accepts)

  pub cut_of_place : (p : Place) → Fits t p → Placed t p
  cut_of_place = match.fits_placed t (accepted_wf accepts)

  pub one_cut : (s s' : Cut) → view (prog t) s ≡ view (prog t) s' → s ≡ s'
  one_cut = match.one_cut t (accepted_wf accepts)

  pub follows_unique : (p p' : Place) → Fits t p → Fits t p' → p.a ≡ p'.a → p.d ≡ p'.d → p.frames ≡ p'.frames → p ≡ p'
  follows_unique = match.follows_unique t (accepted_wf accepts)

-- 4. A run is that many single steps, and nothing else is; n then m is n + m where n were made; forward and back.
module _ (t : Tree) where
  pub run_is : (n : ℕ) (p : Place) (σ : Store) → IsRun (step t) n p σ (run t n p σ)
  run_is = runs.run_is (step t)

  pub run_only : (n : ℕ) (p : Place) (σ : Store) (r : Ran) → IsRun (step t) n p σ r → r ≡ run t n p σ
  run_only = runs.run_only (step t)

  pub run_more : (n m : ℕ) (p : Place) (σ : Store) → (run t n p σ).stop ≡ made
      → let r = run t m (run t n p σ).place (run t n p σ).store in
      run t (n + m) p σ ≡ record { steps = n + r.steps; place = r.place; store = r.store; stop = r.stop }
  run_more = runs.run_more (step t)

  pub run_back_is : (n : ℕ) (p : Place) (σ : Store) → IsRun (step_back t) n p σ (run_back t n p σ)
  run_back_is = runs.run_is (step_back t)

  pub run_back_only : (n : ℕ) (p : Place) (σ : Store) (r : Ran) → IsRun (step_back t) n p σ r → r ≡ run_back t n p σ
  run_back_only = runs.run_only (step_back t)

  pub run_back_more : (n m : ℕ) (p : Place) (σ : Store) → (run_back t n p σ).stop ≡ made
      → let r = run_back t m (run_back t n p σ).place (run_back t n p σ).store in
      run_back t (n + m) p σ ≡ record { steps = n + r.steps; place = r.place; store = r.store; stop = r.stop }
  run_back_more = runs.run_more (step_back t)
