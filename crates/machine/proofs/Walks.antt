-- Demands 2 and 3 of the code's own answers, one after another.
--     step_reason, back_reason      a step answers r's number exactly if r's condition holds
--     walk_refused                  from a start, after any walk, a step back is refused only at the start itself, with 30
--     run_steps, run_back_steps     a run is that many single steps
--     run_then, run_back_then       n steps made and then m are n + m
use Prim.Native.Nat.{ℕ, suc, ◌+◌, ◌<◌}
use mathlib.Core.Path.{◌≡◌, refl, sym, ap, ap₂, ◌∙◌, subst}
use mathlib.Core.List.{List}
use mathlib.Core.Logic.{◌↔◌, inl, inr}
use mathlib.Core.Bool.{cond}
use lib.ListN.{length, get_or}
use lib.Dec.{eqb}
use lib.IntN.{pos}
use native.Mathlib.Omega.{arith}
use Rattle.std.specs.Prelude.{Result, Ok, Err}
use Rattle.refusals.specs.declared.Refusal.{Refusal}
use mir.Syntax.{w32}
use mir.Val.{SFits}
use Rattle.codes.specs.Codes.{AllBytes}
use Rattle.place.specs.declared.Place.{Place as Held}
use Rattle.place.specs.Places.{Dir, Place, turn}
use Rattle.place.specs.Slots.{held}
use Rattle.order.specs.Trees.{Tree, cells}
use Rattle.program.specs.Says.{Accepts}
use Rattle.moves.specs.Places.{Fits}
use Rattle.moves.specs.Stores.{Reason, at_end, wrong_value, zero_divisor, bad_index, too_deep, number, Answer, ok, no, Store, Sized}
use Rattle.moves.specs.Step.{step, step_back, start}
use Rattle.moves.specs.Reasons.{Condition}
use Rattle.moves.specs.Runs.{Walk, stay, on, Stop, made, because, stop_number, run_by, run, run_back}
use Rattle.moves.specs.Runs as runs
use Rattle.moves.proofs.Runs.{Steps, none, then, IsRun, all, fewer}
use Rattle.moves.proofs.Runs as moving
use Rattle.moves.proofs.Theorems as theorems
use Rattle.machine.specs.Answers.{Gives, done, Before, Ready, StepSays, refused, stopped, arrived, RunSays, ran, StartSays, started}
use Rattle.machine.proofs.Giving.{Told, by_gives, numbers_one, not_none, reason_some}
use Rattle.machine.proofs.OneAnswer.{no_way, before_ready, ready_one, step_one}

-- ---- the number tells the reason
abbrev reason_of : ℕ → Reason
reason_of n = cond (eqb n 30) at_end (cond (eqb n 31) wrong_value (cond (eqb n 32) zero_divisor (cond (eqb n 33) bad_index too_deep)))

reason_number : (r : Reason) → reason_of (number r) ≡ r
reason_number at_end = refl
reason_number wrong_value = refl
reason_number zero_divisor = refl
reason_number bad_index = refl
reason_number too_deep = refl

pub number_one : (r r' : Reason) → number r ≡ number r' → r ≡ r'
number_one r r' e = sym (reason_number r) ∙ (ap reason_of e ∙ reason_number r')

abbrev pub Range : Store → Type 0
Range σ = (i : ℕ) → SFits w32 (get_or σ i (pos 0))

abbrev pub Move : Type 0
Move = Tree → Place → Store → Answer (Place × Store)

-- ---- a step's number
module _ {f : List ℕ} (B : AllBytes f) {q : Held} {σ : Store} {t : Tree} {p : Place} (R : Ready f q σ t p) where
  answers : (move : Move) {a : Told} {q' : Held} {σ' : Store} → StepSays move f q σ a q' σ' → (r : Reason) → Gives a (number r) 0 ↔ move t p σ ≡ no r
  answers move {a} {q'} {σ'} s r = (λ e. there s e, λ e. subst (λ (a : Told). Gives a (number r) 0) (sym (step_one B move s (stopped R e (by_gives (because r)) refl refl)).0) (by_gives (because r)))
    where
      there : StepSays move f q σ a q' σ' → Gives a (number r) 0 → move t p σ ≡ no r
      there (refused b e₁ e₂ e₃) e = no_way (before_ready B b R)
      there (stopped {r = r'} R' m e₁ e₂ e₃) e =
          let z = ready_one B R R' in let y : number r' ≡ number r = (numbers_one e₁ e).0 in
          ap₂ (λ t p. move t p σ) z.0 z.1 ∙ (m ∙ ap no (number_one r' r y))
      there (arrived R' m e₁ e₂ e₃) e = not_none (reason_some r) e e₁

  pub step_reason : {a : Told} {q' : Held} {σ' : Store} → StepSays step f q σ a q' σ' → (r : Reason) → Gives a (number r) 0 ↔ Condition t p σ r
  step_reason s r =
      let x = answers step s r in let y = theorems.refused R.accepts p R.fits σ r in
      (λ e. y.0 (x.0 e), λ c. x.1 (y.1 c))

  pub back_reason : {a : Told} {q' : Held} {σ' : Store} → StepSays step_back f q σ a q' σ' → (r : Reason) → Gives a (number r) 0 ↔ Condition t (turn p) σ r
  back_reason s r =
      let x = answers step_back s r in let y = theorems.refused_back R.accepts p R.fits σ r in
      (λ e. y.0 (x.0 e), λ c. x.1 (y.1 c))

-- ---- walks
pub data Wish : Type 0 where
  forward back : Wish

abbrev pub wished : Wish → Move
wished forward t p σ = step t p σ
wished back t p σ = step_back t p σ

-- A walk by the code: each step, forward or back, is asked of the place and the store that the former one answered.
pub data Walked (f : List ℕ) : Held → Store → Held → Store → Type 0 where
  here : {q : Held} {σ : Store} → Walked f q σ q σ
  onward : (w : Wish) {a : Told} {q q₁ q' : Held} {σ σ₁ σ' : Store} → StepSays (wished w) f q σ a q₁ σ₁ → Walked f q₁ σ₁ q' σ' → Walked f q σ q' σ'

-- A step that arrives is one of a walk.
arrives : (t : Tree) (w : Wish) {p p₁ p' : Place} {σ σ₁ σ' : Store} → wished w t p σ ≡ ok (p₁, σ₁) → Walk t p₁ σ₁ p' σ' → Walk t p σ p' σ'
arrives t forward e r = on (inl e) r
arrives t back e r = on (inr e) r

module _ {f : List ℕ} (B : AllBytes f) {t : Tree} where
  keeps : Accepts f t → (w : Wish) (p : Place) → Fits t p → (σ : Store) → Sized t σ → (p' : Place) (σ' : Store) → wished w t p σ ≡ ok (p', σ') → Fits t p' × Sized t σ'
  keeps A forward p h σ so p' σ' e = let u = theorems.back_undoes_forward A p h σ so p' σ' e in (u.0, u.1)
  keeps A back p h σ so p' σ' e = let u = theorems.forward_undoes_back A p h σ so p' σ' e in (u.0, u.1)

  -- What a step leads to: a walk of no steps or one.
  after : (w : Wish) {q q₁ : Held} {σ σ₁ : Store} {p : Place} {a : Told} → Ready f q σ t p → Range σ → StepSays (wished w) f q σ a q₁ σ₁
      → (p₁ : Place) × Ready f q₁ σ₁ t p₁ × Range σ₁ × ((p' : Place) (σ' : Store) → Walk t p₁ σ₁ p' σ' → Walk t p σ p' σ')
  after w R g (refused b e₁ e₂ e₃) = no_way (before_ready B b R)
  after w {q} {q₁} {σ} {σ₁} {p} R g (stopped {r = r} R' m e₁ e₂ e₃) = (
    p,
    record { accepts = R.accepts; sized = ap length e₃ ∙ R.sized; holds = e₂ ∙ R.holds; fits = R.fits },
    subst Range (sym e₃) g,
    λ p' σ'. subst (λ τ. Walk t p τ p' σ') e₃,
  )
  after w {q} {q₁} {σ} {σ₁} {p} R g (arrived {p' = p₁} {τ = τ} R' m e₁ e₂ e₃) =
      let z = ready_one B R R' in
      let e : wished w t p σ ≡ ok (p₁, τ) = ap₂ (λ t p. wished w t p σ) z.0 z.1 ∙ m in
      let u = keeps R.accepts w p R.fits σ (record { size = R.sized; range = g }) p₁ τ e in (
        p₁,
        record { accepts = R.accepts; sized = ap length e₃ ∙ u.1.size; holds = e₂; fits = u.0 },
        subst Range (sym e₃) u.1.range,
        λ p' σ' r. arrives t w e (subst (λ τ. Walk t p₁ τ p' σ') e₃ r),
      )

  walked : {q q' : Held} {σ σ' : Store} {p : Place} → Ready f q σ t p → Range σ → Walked f q σ q' σ' → (p' : Place) × (q' ≡ held p') × Walk t p σ p' σ'
  walked {p = p} R g here = (p, R.holds, stay)
  walked R g (onward w s r) = let x = after w R g s in let z = walked x.1 x.2 r in (z.0, z.1, x.3 z.0 _ z.2)

-- "So from a start, however one walks, going back is refused only at the start itself."
module _ {f : List ℕ} (B : AllBytes f) {d : Dir} {q₀ : Held} {σ₀ : Store} (range : Range σ₀) (size : (t : Tree) → Accepts f t → length σ₀ ≡ cells t) where
  pub walk_refused : {q q' : Held} {σ σ' : Store} {a : Told} {n k : ℕ} → StartSays f d (Ok q₀) → Walked f q₀ σ₀ q σ → StepSays step_back f q σ a q' σ' → Gives a n k → 0 < n
      → (q ≡ q₀) × (σ ≡ σ₀) × (n ≡ 30) × (k ≡ 0)
  walk_refused (refused {e = r} s e) w b g h = let z : ◌≡◌ {A = Result Held Refusal} (Ok q₀) (Err r) = e in let y : ◌≡◌ {A = ℕ} 0 1 = cc in no_way (omega arith)
  walk_refused {q} {q'} {σ} {σ'} {a} {n} {k} (started {t} A e) w b g h = go' b
    where
      e₂ : q₀ ≡ held (start t d)
      e₂ = let z : ◌≡◌ {A = Result Held Refusal} (Ok q₀) (Ok (held (start t d))) = e in cc

      so : Sized t σ₀
      so = record { size = size t A; range = range }

      z : (p : Place) × (q ≡ held p) × Walk t (start t d) σ₀ p σ
      z = walked B (record { accepts = A; sized = size t A; holds = e₂; fits = theorems.start_fits A d }) range w

      last : Ready f q σ t z.0
      last = let u = theorems.walk_fits A d σ₀ so z.2 in record { accepts = A; sized = u.1.size; holds = z.1; fits = u.0 }

      go' : StepSays step_back f q σ a q' σ' → (q ≡ q₀) × (σ ≡ σ₀) × (n ≡ 30) × (k ≡ 0)
      go' (refused b x₁ x₂ x₃) = no_way (before_ready B b last)
      go' (stopped {r = r} R m x₁ x₂ x₃) =
          let y = ready_one B last R in
          let e : step_back t z.0 σ ≡ no r = ap₂ (λ t p. step_back t p σ) y.0 y.1 ∙ m in
          let v = theorems.walk_refused A d σ₀ so r z.2 e in
          let i = numbers_one g x₁ in
          (z.1 ∙ (ap held v.0 ∙ sym e₂), v.1, i.0 ∙ ap number v.2, i.1)
      go' (arrived R m x₁ x₂ x₃) = not_none h g x₁

-- ---- runs
-- k single steps that the code answers as done, one after another.
pub data Single (move : Move) (f : List ℕ) : ℕ → Held → Store → Held → Store → Type 0 where
  zero_made : {q : Held} {σ : Store} → Single move f 0 q σ q σ
  one_more : {k : ℕ} {a : Told} {q q₁ q' : Held} {σ σ₁ σ' : Store} → StepSays move f q σ a q₁ σ₁ → Gives a 0 0 → Single move f k q₁ σ₁ q' σ' → Single move f (suc k) q σ q' σ'

-- All n steps were done; or fewer, and the next one is refused with the number that the run gives.
pub data SingleRun (move : Move) (f : List ℕ) (n : ℕ) (q : Held) (σ : Store) (a : Told) (k : ℕ) (q' : Held) (σ' : Store) : Type 0 where
  all_made : Gives a 0 0 → k ≡ n → Single move f k q σ q' σ' → SingleRun move f n q σ a k q' σ'
  stopped_at : k < n → Single move f k q σ q' σ' → StepSays move f q' σ' a q' σ' → (Gives a 0 0 → ⊥) → SingleRun move f n q σ a k q' σ'

module _ {f : List ℕ} (B : AllBytes f) (move : Move)
    (keeps : (t : Tree) → Accepts f t → (p : Place) → Fits t p → (σ : Store) → Sized t σ → (p' : Place) (σ' : Store) → move t p σ ≡ ok (p', σ') → Fits t p' × Sized t σ') where
  single : {t : Tree} (A : Accepts f t) {k : ℕ} {p p' : Place} {σ σ' : Store} → Fits t p → Sized t σ → Steps (move t) k p σ p' σ'
      → Single move f k (held p) σ (held p') σ' × Fits t p' × Sized t σ'
  single A h so none = (zero_made, h, so)
  single {t} A h so (then {p = p} {p₁ = p₁} {σ = σ} {σ₁ = σ₁} e r) =
      let u = keeps t A p h σ so p₁ σ₁ e in let z = single A u.0 u.1 r in
      (one_more (arrived (record { accepts = A; sized = so.size; holds = refl; fits = h }) e done refl refl) done z.0, z.1, z.2)

  module _ {q : Held} {σ : Store} (range : Range σ) (free : (m k : ℕ) → Before f q σ m k → ⊥) where
    steps : (n : ℕ) {a : Told} {k : ℕ} {q' : Held} {σ' : Store} → RunSays (λ t. run_by (move t)) f q σ n a k q' σ' → SingleRun move f n q σ a k q' σ'
    steps n (refused b e₁ e₂ e₃ e₄) = no_way (free _ _ b)
    steps n {a} {k} {q'} {σ'} (ran {t} {p} R e₁ e₂ e₃ e₄) = go' (run_by (move t) n p σ) (moving.run_is (move t) n p σ) e₁ e₂ e₃ e₄
      where
        so : Sized t σ
        so = record { size = R.sized; range = range }

        row : {j : ℕ} (p' : Place) {τ : Store} → Single move f j (held p) σ (held p') τ → k ≡ j → q' ≡ held p' → σ' ≡ τ → Single move f k q σ q' σ'
        row {j} p' {τ} s x y z = subst (λ h. Single move f k h σ q' σ') (sym R.holds)
            (subst (λ τ. Single move f k (held p) σ q' τ) (sym z) (subst (λ h. Single move f k (held p) σ h τ) (sym y) (subst (λ j. Single move f j (held p) σ (held p') τ) (sym x) s)))

        go' : (r : runs.Ran) → IsRun (move t) n p σ r → Gives a (stop_number r.stop) 0 → k ≡ r.steps → q' ≡ held r.place → σ' ≡ r.store → SingleRun move f n q σ a k q' σ'
        go' r (all s) x₁ x₂ x₃ x₄ = all_made x₁ x₂ (row r.place (single R.accepts R.fits so s).0 x₂ x₃ x₄)
        go' r (fewer {k = j} {p' = p'} {σ' = τ} {r = c} l s e) x₁ x₂ x₃ x₄ =
            let z = single R.accepts R.fits so s in
            let m : move t p' σ' ≡ no c = ap (move t p') x₄ ∙ e in
            stopped_at (subst (λ i. i < n) (sym x₂) l) (row p' z.0 x₂ x₃ x₄)
            (stopped (record { accepts = R.accepts; sized = ap length x₄ ∙ z.2.size; holds = x₃; fits = z.1 }) m x₁ refl refl)
            (λ d. not_none (reason_some c) x₁ d)

    made_of : (s : Stop) {a : Told} → Gives a (stop_number s) 0 → Gives a 0 0 → s ≡ made
    made_of made g g₀ = refl
    made_of (because r) g g₀ = not_none (reason_some r) g g₀

    then_more : (n m : ℕ) {a₁ a : Told} {j k : ℕ} {q₁ q₂ : Held} {σ₁ σ₂ : Store} → RunSays (λ t. run_by (move t)) f q σ n a₁ j q₁ σ₁ → Gives a₁ 0 0 → RunSays (λ t. run_by (move t)) f q₁ σ₁ m a k q₂ σ₂
        → RunSays (λ t. run_by (move t)) f q σ (n + m) a (n + k) q₂ σ₂
    then_more n m (refused b e₁ e₂ e₃ e₄) g s = no_way (free _ _ b)
    then_more n m {a₁} {a} {j} {k} {q₁} {q₂} {σ₁} {σ₂} (ran {t} {p} R e₁ e₂ e₃ e₄) g s = go' s
      where
        r : runs.Ran
        r = run_by (move t) n p σ

        so : Sized t σ
        so = record { size = R.sized; range = range }

        fit : Fits t r.place × Sized t r.store
        fit = let z = single R.accepts R.fits so (moving.is_steps (move t) n p σ r (moving.run_is (move t) n p σ)) in (z.1, z.2)

        ready : Ready f q₁ σ₁ t r.place
        ready = record { accepts = R.accepts; sized = ap length e₄ ∙ fit.1.size; holds = e₃; fits = fit.0 }

        go' : RunSays (λ t. run_by (move t)) f q₁ σ₁ m a k q₂ σ₂ → RunSays (λ t. run_by (move t)) f q σ (n + m) a (n + k) q₂ σ₂
        go' (refused b x₁ x₂ x₃ x₄) = no_way (before_ready B b ready)
        go' (ran {t = t'} {p = p'} R' x₁ x₂ x₃ x₄) =
            let y = ready_one B ready R' in
            let v : run_by (move t') m p' σ₁ ≡ run_by (move t) m r.place r.store = ap₂ (λ t p. run_by (move t) m p σ₁) (sym y.0) (sym y.1) ∙ ap (run_by (move t) m r.place) e₄ in
            let w = moving.run_more (move t) n m p σ (made_of r.stop e₁ g) in
            ran R (subst (λ (i : ℕ). Gives a i 0) (ap (λ (r : runs.Ran). stop_number r.stop) v ∙ sym (ap (λ (r : runs.Ran). stop_number r.stop) w)) x₁)
            (ap (λ i. n + i) (x₂ ∙ ap (λ (r : runs.Ran). r.steps) v) ∙ sym (ap (λ (r : runs.Ran). r.steps) w))
            (x₃ ∙ (ap (λ (r : runs.Ran). held r.place) v ∙ sym (ap (λ (r : runs.Ran). held r.place) w)))
            (x₄ ∙ (ap (λ (r : runs.Ran). r.store) v ∙ sym (ap (λ (r : runs.Ran). r.store) w)))

module _ {f : List ℕ} (B : AllBytes f) {q : Held} {σ : Store} (range : Range σ) (free : (m k : ℕ) → Before f q σ m k → ⊥) where
  pub run_steps : (n : ℕ) {a : Told} {k : ℕ} {q' : Held} {σ' : Store} → RunSays run f q σ n a k q' σ' → SingleRun step f n q σ a k q' σ'
  run_steps = steps B step (λ t A. keeps B A forward) range free

  pub run_back_steps : (n : ℕ) {a : Told} {k : ℕ} {q' : Held} {σ' : Store} → RunSays run_back f q σ n a k q' σ' → SingleRun step_back f n q σ a k q' σ'
  run_back_steps = steps B step_back (λ t A. keeps B A back) range free

  pub run_then : (n m : ℕ) {a₁ a : Told} {j k : ℕ} {q₁ q₂ : Held} {σ₁ σ₂ : Store} → RunSays run f q σ n a₁ j q₁ σ₁ → Gives a₁ 0 0 → RunSays run f q₁ σ₁ m a k q₂ σ₂ → RunSays run f q σ (n + m) a (n + k) q₂ σ₂
  run_then = then_more B step (λ t A. keeps B A forward) range free

  pub run_back_then : (n m : ℕ) {a₁ a : Told} {j k : ℕ} {q₁ q₂ : Held} {σ₁ σ₂ : Store} → RunSays run_back f q σ n a₁ j q₁ σ₁ → Gives a₁ 0 0 → RunSays run_back f q₁ σ₁ m a k q₂ σ₂
      → RunSays run_back f q σ (n + m) a (n + k) q₂ σ₂
  run_back_then = then_more B step_back (λ t A. keeps B A back) range free
