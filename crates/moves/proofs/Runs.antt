-- A run is that many single steps; n then m is n + m where n were made; and what a run did, as many steps back undo.
use Prim.Native.Nat.{ℕ, zero, suc, ◌+◌, ◌≤◌, ◌<◌}
use mathlib.Core.Path.{◌≡◌, refl, ap, sym, ◌∙◌, subst, subst⁻¹}
use native.Mathlib.Omega.{arith}
use Rattle.order.specs.Trees.{Tree}
use Rattle.moves.specs.Places.{Dir, Place, Fits}
use Rattle.moves.specs.Stores.{Answer, ok, no, Store, Sized, Reason, at_end}
use Rattle.moves.specs.Step.{step, step_back, start}
use Rattle.moves.specs.Runs.{made, because, Ran, onward, run_by, run, run_back}
use Rattle.moves.proofs.Cuts.{Wf}
use Rattle.moves.proofs.Rows.{prog}
use Rattle.moves.proofs.Undo.{back_undoes, forward_undoes, start_fits, start_refused}

abbrev Step : Type 0
Step = Place → Store → Answer (Place × Store)

-- One step more.
abbrev pub counted : Ran → Ran
counted r = record { steps = suc r.steps; place = r.place; store = r.store; stop = r.stop }

-- k single steps lead from p and σ to p' and σ'.
pub data Steps (s : Step) : ℕ → Place → Store → Place → Store → Type 0 where
  none : {p : Place} {σ : Store} → Steps s 0 p σ p σ
  then : {k : ℕ} {p p₁ p' : Place} {σ σ₁ σ' : Store} → s p σ ≡ ok (p₁, σ₁) → Steps s k p₁ σ₁ p' σ' → Steps s (suc k) p σ p' σ'

-- What a run of n steps answers: all n were made; or fewer, and the next is refused.
pub data IsRun (s : Step) (n : ℕ) (p : Place) (σ : Store) : Ran → Type 0 where
  all : {p' : Place} {σ' : Store} → Steps s n p σ p' σ' → IsRun s n p σ (record { steps = n; place = p'; store = σ'; stop = made })
  fewer : {k : ℕ} {p' : Place} {σ' : Store} {r : Reason} → k < n → Steps s k p σ p' σ' → s p' σ' ≡ no r
      → IsRun s n p σ (record { steps = k; place = p'; store = σ'; stop = because r })

module _ (s : Step) where
  run_first : (n : ℕ) (p : Place) (σ : Store) (p₁ : Place) (σ₁ : Store) → s p σ ≡ ok (p₁, σ₁) → run_by s (suc n) p σ ≡ counted (run_by s n p₁ σ₁)
  unfolding run_by
  run_first n p σ p₁ σ₁ e = ap (λ x. onward x (λ p σ. run_by s n p σ) p σ) e

  run_none : (n : ℕ) (p : Place) (σ : Store) (r : Reason) → s p σ ≡ no r → run_by s (suc n) p σ ≡ record { steps = 0; place = p; store = σ; stop = because r }
  unfolding run_by
  run_none n p σ r e = ap (λ x. onward x (λ p σ. run_by s n p σ) p σ) e

  is_more : (n : ℕ) (p : Place) (σ : Store) (x : Place × Store) (r : Ran) → s p σ ≡ ok x → IsRun s n x.0 x.1 r → IsRun s (suc n) p σ (counted r)
  is_more n p σ x r e (all h) = all (then e h)
  is_more n p σ x r e (fewer {k = k} a h b) = fewer {k = suc k} (omega arith) (then e h) b

  -- Every run is that many single steps ..
  pub run_is : (n : ℕ) (p : Place) (σ : Store) → IsRun s n p σ (run_by s n p σ)
  unfolding run_by
  run_is zero p σ = all none
  run_is (suc n) p σ = go' (s p σ) refl (λ p σ. run_is n p σ)
    where
      go' : (x : Answer (Place × Store)) → s p σ ≡ x → ((p : Place) (σ : Store) → IsRun s n p σ (run_by s n p σ))
          → IsRun s (suc n) p σ (onward x (λ p σ. run_by s n p σ) p σ)
      go' (ok x) e ih = is_more n p σ x _ e (ih x.0 x.1)
      go' (no r) e ih = fewer {k = 0} (omega arith) none e

  all_is : (n : ℕ) {p p' : Place} {σ σ' : Store} → Steps s n p σ p' σ' → run_by s n p σ ≡ record { steps = n; place = p'; store = σ'; stop = made }
  unfolding run_by
  all_is zero none = refl
  all_is (suc n) (then {p = p} {p₁ = p₁} {σ = σ} {σ₁ = σ₁} e h) = run_first n p σ p₁ σ₁ e ∙ ap counted (all_is n h)

  fewer_is : (n k : ℕ) {p p' : Place} {σ σ' : Store} (r : Reason) → k < n → Steps s k p σ p' σ' → s p' σ' ≡ no r
      → run_by s n p σ ≡ record { steps = k; place = p'; store = σ'; stop = because r }
  fewer_is zero k r a h e = absurd (let z : ⊥ = omega arith in z)
  fewer_is (suc n) zero r a (none {p = p} {σ = σ}) e = run_none n p σ r e
  fewer_is (suc n) (suc k) r a (then {p = p} {p₁ = p₁} {σ = σ} {σ₁ = σ₁} f h) e = run_first n p σ p₁ σ₁ f ∙ ap counted (fewer_is n k r (omega arith) h e)

  pub is_steps : (n : ℕ) (p : Place) (σ : Store) (r : Ran) → IsRun s n p σ r → Steps s r.steps p σ r.place r.store
  is_steps n p σ r (all h) = h
  is_steps n p σ r (fewer a h e) = h

  -- .. and nothing else is.
  pub run_only : (n : ℕ) (p : Place) (σ : Store) (r : Ran) → IsRun s n p σ r → r ≡ run_by s n p σ
  run_only n p σ r (all h) = sym (all_is n h)
  run_only n p σ r (fewer {k = k} {r = c} a h e) = sym (fewer_is n k c a h e)

  -- A run that a reason stopped is the same where more steps are allowed.
  longer : (n m : ℕ) (p : Place) (σ : Store) (r : Ran) (c : Reason) → n ≤ m → IsRun s n p σ r → r.stop ≡ because c → run_by s m p σ ≡ r
  longer n m p σ r c h (all g) e = absurd (let z : ◌≡◌ {A = ℕ} 0 1 = cc in let y : ⊥ = omega arith in y)
  longer n m p σ r c h (fewer {k = k} {r = c'} a g b) e = fewer_is m k c' (omega arith) g b

  pub run_longer : (n m : ℕ) (p : Place) (σ : Store) (r : Ran) (c : Reason) → n ≤ m → run_by s n p σ ≡ r → r.stop ≡ because c → run_by s m p σ ≡ r
  run_longer n m p σ r c h e = longer n m p σ r c h (subst (IsRun s n p σ) e (run_is n p σ))

  -- n steps were made: then m more are n + m.
  join : {n m : ℕ} {p p₁ p₂ : Place} {σ σ₁ σ₂ : Store} → Steps s n p σ p₁ σ₁ → Steps s m p₁ σ₁ p₂ σ₂ → Steps s (n + m) p σ p₂ σ₂
  join {m = m} {p₂ = p₂} {σ₂ = σ₂} (none {p = p} {σ = σ}) h = subst (λ k. Steps s k p σ p₂ σ₂) (let z : m ≡ 0 + m = omega arith in z) h
  join {m = m} {p₂ = p₂} {σ₂ = σ₂} (then {k = k} {p = p} {σ = σ} e g) h =
      subst (λ k. Steps s k p σ p₂ σ₂) (let z : suc (k + m) ≡ suc k + m = omega arith in z) (then e (join g h))

  is_join : (n m : ℕ) {p p₁ : Place} {σ σ₁ : Store} → Steps s n p σ p₁ σ₁ → (r : Ran) → IsRun s m p₁ σ₁ r
      → IsRun s (n + m) p σ (record { steps = n + r.steps; place = r.place; store = r.store; stop = r.stop })
  is_join n m h r (all g) = all (join h g)
  is_join n m h r (fewer {k = k} a g e) = fewer {k = n + k} (omega arith) (join h g) e

  made_steps : (n : ℕ) (p : Place) (σ : Store) (r : Ran) → IsRun s n p σ r → r.stop ≡ made → Steps s n p σ r.place r.store × (r.steps ≡ n)
  made_steps n p σ r (all h) e = (h, refl)
  made_steps n p σ r (fewer a h b) e = absurd (let z : ◌≡◌ {A = ℕ} 0 1 = cc in let y : ⊥ = omega arith in y)

  pub run_more : (n m : ℕ) (p : Place) (σ : Store) → (run_by s n p σ).stop ≡ made
      → let r = run_by s m (run_by s n p σ).place (run_by s n p σ).store in
      run_by s (n + m) p σ ≡ record { steps = n + r.steps; place = r.place; store = r.store; stop = r.stop }
  run_more n m p σ e =
      let h = (made_steps n p σ (run_by s n p σ) (run_is n p σ) e).0 in
      let p₁ = (run_by s n p σ).place in let σ₁ = (run_by s n p σ).store in
      sym (run_only (n + m) p σ _ (is_join n m h (run_by s m p₁ σ₁) (run_is m p₁ σ₁)))

  snoc : {n : ℕ} {p p₁ p' : Place} {σ σ₁ σ' : Store} → Steps s n p σ p₁ σ₁ → s p₁ σ₁ ≡ ok (p', σ') → Steps s (suc n) p σ p' σ'
  snoc none e = then e none
  snoc (then h r) e = then h (snoc r e)

  -- Two rows of steps from one place to places where the next is refused are one row.
  pub same_end : {n m : ℕ} {p p₁ p₂ : Place} {σ σ₁ σ₂ : Store} → Steps s n p σ p₁ σ₁ → Steps s m p σ p₂ σ₂ → (c c' : Reason)
      → s p₁ σ₁ ≡ no c → s p₂ σ₂ ≡ no c' → (n ≡ m) × (σ₁ ≡ σ₂)
  same_end none none c c' h k = (refl, refl)
  same_end none (then e g) c c' h k = absurd (let z : ◌≡◌ {A = ℕ} 0 1 = cc in let y : ⊥ = omega arith in y)
  same_end (then e r) none c c' h k = absurd (let z : ◌≡◌ {A = ℕ} 0 1 = cc in let y : ⊥ = omega arith in y)
  same_end (then {p₁ = p₁} {σ₁ = σ₁} e r) (then {k = j} {p₁ = p₂} {p' = p'} {σ₁ = σ₂} {σ' = σ'} f g) c c' h k =
      let t : ◌≡◌ {A = Place × Store} (p₂, σ₂) (p₁, σ₁) = cc in
      let z = same_end r (subst (λ x. Steps s j x.0 x.1 p' σ') t g) c c' h k in
      (ap suc z.0, z.1)

module _ (τ : Tree) (w : Wf τ (prog τ)) where
  -- Steps of one kind and as many of the other the opposite way.
  steps_back : {n : ℕ} {p p' : Place} {σ σ' : Store} → Fits τ p → Sized τ σ → Steps (step τ) n p σ p' σ' → Steps (step_back τ) n p' σ' p σ
  steps_back f so none = none
  steps_back f so (then {p = p} {p₁ = p₁} {σ = σ} {σ₁ = σ₁} e r) =
      let u = back_undoes τ w p f σ so p₁ σ₁ e in snoc (step_back τ) (steps_back u.0 u.1 r) u.2

  back_steps : {n : ℕ} {p p' : Place} {σ σ' : Store} → Fits τ p → Sized τ σ → Steps (step_back τ) n p σ p' σ' → Steps (step τ) n p' σ' p σ
  back_steps f so none = none
  back_steps f so (then {p = p} {p₁ = p₁} {σ = σ} {σ₁ = σ₁} e r) =
      let u = forward_undoes τ w p f σ so p₁ σ₁ e in snoc (step τ) (back_steps u.0 u.1 r) u.2

  both_made : {s s' : Step} (n : ℕ) (p : Place) (σ : Store) (r : Ran) → IsRun s n p σ r
      → ((k : ℕ) (p' : Place) (σ' : Store) → Steps s k p σ p' σ' → Steps s' k p' σ' p σ)
      → run_by s' r.steps r.place r.store ≡ record { steps = r.steps; place = p; store = σ; stop = made }
  both_made {s} {s'} n p σ r (all {p' = p'} {σ' = σ'} h) f = all_is s' n (f n p' σ' h)
  both_made {s} {s'} n p σ r (fewer {k = k} {p' = p'} {σ' = σ'} a h e) f = all_is s' k (f k p' σ' h)

  -- As many steps back as a run made reach the place and the store that it began with; and the other way round.
  pub run_undone : (n : ℕ) (p : Place) (σ : Store) → Fits τ p → Sized τ σ
      → let r = run τ n p σ in run_back τ r.steps r.place r.store ≡ record { steps = r.steps; place = p; store = σ; stop = made }
  run_undone n p σ f so = both_made n p σ (run τ n p σ) (run_is (step τ) n p σ) (λ k p' σ' h. steps_back f so h)

  pub run_back-undone : (n : ℕ) (p : Place) (σ : Store) → Fits τ p → Sized τ σ
      → let r = run_back τ n p σ in run τ r.steps r.place r.store ≡ record { steps = r.steps; place = p; store = σ; stop = made }
  run_back-undone n p σ f so = both_made n p σ (run_back τ n p σ) (run_is (step_back τ) n p σ) (λ k p' σ' h. back_steps f so h)

  -- The last place of a run fits, and its store has its size; so has that of a run back.
  module _ (s : Step) (keeps : (p : Place) → Fits τ p → (σ : Store) → Sized τ σ → (p' : Place) (σ' : Store) → s p σ ≡ ok (p', σ') → Fits τ p' × Sized τ σ') where
    steps_fit : {n : ℕ} {p p' : Place} {σ σ' : Store} → Fits τ p → Sized τ σ → Steps s n p σ p' σ' → Fits τ p' × Sized τ σ'
    steps_fit f so none = (f, so)
    steps_fit f so (then {p = p} {p₁ = p₁} {σ = σ} {σ₁ = σ₁} e r) = let u = keeps p f σ so p₁ σ₁ e in steps_fit u.0 u.1 r

    runs_fit : (n : ℕ) (p : Place) (σ : Store) → Fits τ p → Sized τ σ → Fits τ (run_by s n p σ).place × Sized τ (run_by s n p σ).store
    runs_fit n p σ f so = steps_fit f so (is_steps s n p σ _ (run_is s n p σ))

  pub step_keeps : (p : Place) → Fits τ p → (σ : Store) → Sized τ σ → (p' : Place) (σ' : Store) → step τ p σ ≡ ok (p', σ') → Fits τ p' × Sized τ σ'
  step_keeps p f σ so p' σ' e = let u = back_undoes τ w p f σ so p' σ' e in (u.0, u.1)

  pub back_keeps : (p : Place) → Fits τ p → (σ : Store) → Sized τ σ → (p' : Place) (σ' : Store) → step_back τ p σ ≡ ok (p', σ') → Fits τ p' × Sized τ σ'
  back_keeps p f σ so p' σ' e = let u = forward_undoes τ w p f σ so p' σ' e in (u.0, u.1)

  pub run_fits : (n : ℕ) (p : Place) (σ : Store) → Fits τ p → Sized τ σ → Fits τ (run τ n p σ).place × Sized τ (run τ n p σ).store
  run_fits = runs_fit (step τ) step_keeps

  pub run_back_fits : (n : ℕ) (p : Place) (σ : Store) → Fits τ p → Sized τ σ → Fits τ (run_back τ n p σ).place × Sized τ (run_back τ n p σ).store
  run_back_fits = runs_fit (step_back τ) back_keeps

  -- No two inputs to one output: runs from one start that come to one place and store began with one store, and made as many steps.
  pub injective : (d : Dir) (n m : ℕ) (σ σ' : Store) → Sized τ σ → Sized τ σ' → (run τ n (start τ d) σ).place ≡ (run τ m (start τ d) σ').place
      → (run τ n (start τ d) σ).store ≡ (run τ m (start τ d) σ').store → ((run τ n (start τ d) σ).steps ≡ (run τ m (start τ d) σ').steps) × (σ ≡ σ')
  injective d n m σ σ' so so' ep es =
      let a = back_of_lem n σ so in
      let b = back_of_lem m σ' so' in
      let b' = subst⁻¹ (λ q. Steps (step_back τ) (run τ m (start τ d) σ').steps q (run τ n (start τ d) σ).store (start τ d) σ') ep
      (subst⁻¹ (λ q. Steps (step_back τ) (run τ m (start τ d) σ').steps (run τ m (start τ d) σ').place q (start τ d) σ') es b) in
      same_end (step_back τ) a b' at_end at_end (start_refused τ w d σ) (start_refused τ w d σ')
    where
      back_of_lem : (n : ℕ) (σ : Store) → Sized τ σ
          → Steps (step_back τ) (run τ n (start τ d) σ).steps (run τ n (start τ d) σ).place (run τ n (start τ d) σ).store (start τ d) σ
      back_of_lem n σ so = steps_back (start_fits τ w d) so (is_steps (step τ) n (start τ d) σ _ (run_is (step τ) n (start τ d) σ))
