-- Answers says one answer, one place and one store for every file, struct and store.
--     run_one, step_one, start_one     any two answers that are said are equal
use Prim.Native.Nat.{ℕ}
use mathlib.Core.Path.{◌≡◌, refl, sym, ap, ap₂, ◌∙◌, subst}
use mathlib.Core.List.{List}
use lib.ListN.{length}
use native.Mathlib.Omega.{arith}
use Rattle.std.specs.Prelude.{Result, Ok, Err}
use Rattle.refusals.specs.declared.Refusal.{Refusal}
use Rattle.codes.specs.Codes.{AllBytes}
use Rattle.place.specs.declared.Place.{Place as Held}
use Rattle.place.specs.Places.{Dir, Place}
use Rattle.place.specs.Slots.{held}
use Rattle.place.proofs.Held.{held_injective}
use Rattle.order.specs.Trees.{Tree, cells, records_of}
use Rattle.program.specs.Says.{Given, fault, Accepts, Says, accepted}
use Rattle.program.proofs.CheckSays.{determined, accepts_unique}
use Rattle.moves.specs.Places.{Fits}
use Rattle.moves.specs.Stores.{number, Answer, ok, no, Store}
use Rattle.moves.specs.Step.{start}
use Rattle.moves.specs.Runs.{stop_number}
use Rattle.moves.specs.Runs as runs
use Rattle.machine.specs.Answers.{Before, program, size, place, Ready, StepSays, refused, stopped, arrived, RunSays, ran, StartSays, started}
use Rattle.machine.proofs.Giving.{Told, refusal_one, gives_one}

pub no_way : {X : Type 0} → ⊥ → X
no_way h = absurd h

module _ {f : List ℕ} (B : AllBytes f) where
  pub not_both : {t : Tree} {n k : ℕ} → Accepts f t → Says f (fault n k) → ⊥
  unfolding records_of
  not_both {t} A s =
      let e : length (records_of t) ≡ 0 = ap (λ (g : Given). g.records) (determined f B _ _ (accepted t A) s) in
      omega arith

  pub faults_one : {n k n' k' : ℕ} → Says f (fault n k) → Says f (fault n' k') → (n ≡ n') × (k ≡ k')
  faults_one s s' = let e = determined f B _ _ s s' in (ap (λ (g : Given). g.number) e, ap (λ (g : Given). g.label) e)

  module _ {q : Held} {σ : Store} where
    pub before_one : {m k m' k' : ℕ} → Before f q σ m k → Before f q σ m' k' → (m ≡ m') × (k ≡ k')
    before_one (program s) (program s') = faults_one s s'
    before_one (program s) (size A h) = no_way (not_both A s)
    before_one (program s) (place A e h) = no_way (not_both A s)
    before_one (size A h) (program s) = no_way (not_both A s)
    before_one (size A h) (size A' h') = (refl, refl)
    before_one (size {t} A h) (place {t = t'} A' e h') = no_way (h (e ∙ ap cells (accepts_unique f B t' t A' A)))
    before_one (place A e h) (program s) = no_way (not_both A s)
    before_one (place {t} A e h) (size {t = t'} A' h') = no_way (h' (e ∙ ap cells (accepts_unique f B t t' A A')))
    before_one (place A e h) (place A' e' h') = (refl, refl)

    pub before_ready : {m k : ℕ} {t : Tree} {p : Place} → Before f q σ m k → Ready f q σ t p → ⊥
    before_ready (program s) R = not_both R.accepts s
    before_ready {t = t} (size {t = t'} A h) R = h (R.sized ∙ ap cells (accepts_unique f B t t' R.accepts A))
    before_ready {t = t} {p = p} (place {t = t'} A e h) R = h p R.holds (subst (λ x. Fits x p) (accepts_unique f B t t' R.accepts A) R.fits)

    pub ready_one : {t t' : Tree} {p p' : Place} → Ready f q σ t p → Ready f q σ t' p' → (t ≡ t') × (p ≡ p')
    ready_one {t} {t'} {p} {p'} R R' = (accepts_unique f B t t' R.accepts R'.accepts, held_injective p p' (sym R.holds ∙ R'.holds))

    pub run_one : (run : Tree → ℕ → Place → Store → runs.Ran) (n : ℕ) {a a' : Told} {k k' : ℕ} {x x' : Held} {τ τ' : Store}
        → RunSays run f q σ n a k x τ → RunSays run f q σ n a' k' x' τ' → (a ≡ a') × (k ≡ k') × (x ≡ x') × (τ ≡ τ')
    run_one run n (refused {m} {k} b e₁ e₂ e₃ e₄) (refused {m = m'} {k = k'} b' e₁' e₂' e₃' e₄') =
        let z = before_one b b' in (gives_one e₁ e₁' z.0 z.1, e₂ ∙ sym e₂', e₃ ∙ sym e₃', e₄ ∙ sym e₄')
    run_one run n (refused b e₁ e₂ e₃ e₄) (ran R e₁' e₂' e₃' e₄') = no_way (before_ready b R)
    run_one run n (ran R e₁ e₂ e₃ e₄) (refused b e₁' e₂' e₃' e₄') = no_way (before_ready b R)
    run_one run n (ran {t} {p} R e₁ e₂ e₃ e₄) (ran {t = t'} {p = p'} R' e₁' e₂' e₃' e₄') =
        let z = ready_one R R' in let e : run t n p σ ≡ run t' n p' σ = ap₂ (λ t p. run t n p σ) z.0 z.1 in (
          gives_one e₁ e₁' (ap (λ (r : runs.Ran). stop_number r.stop) e) refl,
          e₂ ∙ (ap (λ (r : runs.Ran). r.steps) e ∙ sym e₂'),
          e₃ ∙ (ap (λ (r : runs.Ran). held r.place) e ∙ sym e₃'),
          e₄ ∙ (ap (λ (r : runs.Ran). r.store) e ∙ sym e₄'),
        )

    module _ (move : Tree → Place → Store → Answer (Place × Store)) where
      same_move : {t t' : Tree} {p p' : Place} {a a' : Answer (Place × Store)} → Ready f q σ t p → Ready f q σ t' p' → move t p σ ≡ a → move t' p' σ ≡ a' → a ≡ a'
      same_move R R' e e' = let z = ready_one R R' in sym e ∙ (ap₂ (λ t p. move t p σ) z.0 z.1 ∙ e')

      pub step_one : {a a' : Told} {x x' : Held} {τ τ' : Store} → StepSays move f q σ a x τ → StepSays move f q σ a' x' τ' → (a ≡ a') × (x ≡ x') × (τ ≡ τ')
      step_one (refused b e₁ e₂ e₃) (refused b' e₁' e₂' e₃') =
          let z = before_one b b' in (gives_one e₁ e₁' z.0 z.1, e₂ ∙ sym e₂', e₃ ∙ sym e₃')
      step_one (refused b e₁ e₂ e₃) (stopped R m e₁' e₂' e₃') = no_way (before_ready b R)
      step_one (refused b e₁ e₂ e₃) (arrived R m e₁' e₂' e₃') = no_way (before_ready b R)
      step_one (stopped R m e₁ e₂ e₃) (refused b e₁' e₂' e₃') = no_way (before_ready b R)
      step_one (stopped {r = r} R m e₁ e₂ e₃) (stopped {r = r'} R' m' e₁' e₂' e₃') =
          let z : ◌≡◌ {A = Answer (Place × Store)} (no r) (no r') = same_move R R' m m' in let y : r ≡ r' = cc in
          (gives_one e₁ e₁' (ap number y) refl, e₂ ∙ sym e₂', e₃ ∙ sym e₃')
      step_one (stopped {r = r} R m e₁ e₂ e₃) (arrived {p' = p} {τ = τ} R' m' e₁' e₂' e₃') =
          let z : ◌≡◌ {A = Answer (Place × Store)} (no r) (ok (p, τ)) = same_move R R' m m' in let y : ◌≡◌ {A = ℕ} 0 1 = cc in no_way (omega arith)
      step_one (arrived R m e₁ e₂ e₃) (refused b e₁' e₂' e₃') = no_way (before_ready b R)
      step_one (arrived {p' = p} {τ = τ} R m e₁ e₂ e₃) (stopped {r = r} R' m' e₁' e₂' e₃') =
          let z : ◌≡◌ {A = Answer (Place × Store)} (ok (p, τ)) (no r) = same_move R R' m m' in let y : ◌≡◌ {A = ℕ} 0 1 = cc in no_way (omega arith)
      step_one (arrived {p' = p} {τ = τ} R m e₁ e₂ e₃) (arrived {p' = p'} {τ = τ'} R' m' e₁' e₂' e₃') =
          let z : ◌≡◌ {A = Answer (Place × Store)} (ok (p, τ)) (ok (p', τ')) = same_move R R' m m' in let y : ◌≡◌ {A = Place × Store} (p, τ) (p', τ') = cc in
          (gives_one e₁ e₁' refl refl, e₂ ∙ (ap (λ (s : Place × Store). held s.0) y ∙ sym e₂'), e₃ ∙ (ap (λ (s : Place × Store). s.1) y ∙ sym e₃'))

  pub start_one : {d : Dir} {r r' : Result Held Refusal} → StartSays f d r → StartSays f d r' → r ≡ r'
  start_one (refused {e} s h) (refused {e = e'} s' h') = let z = faults_one s s' in h ∙ (ap Err (refusal_one e e' z.0 z.1) ∙ sym h')
  start_one (refused s h) (started A h') = no_way (not_both A s)
  start_one (started A h) (refused s h') = no_way (not_both A s)
  start_one {d} (started {t} A h) (started {t = t'} A' h') = h ∙ (ap (λ t. Ok (held (start t d))) (accepts_unique f B t t' A A') ∙ sym h')
