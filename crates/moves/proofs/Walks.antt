-- However one walks forth and back from a start, going back is refused only at the start itself, and there as the end.
use Prim.Native.Nat.{ℕ}
use mathlib.Core.Path.{◌≡◌, refl, subst}
use mathlib.Core.Logic.{inl, inr}
use native.Mathlib.Omega.{arith}
use Rattle.order.specs.Trees.{Tree}
use Rattle.moves.specs.Places.{Dir, Place, Fits}
use Rattle.moves.specs.Stores.{Answer, ok, no, Store, Sized, Reason, at_end}
use Rattle.moves.specs.Step.{step, step_back, start}
use Rattle.moves.specs.Runs.{Walk, stay, on}
use Rattle.moves.proofs.Cuts.{Wf}
use Rattle.moves.proofs.Rows.{prog}
use Rattle.moves.proofs.Undo.{back_undoes, start_fits, start_refused}

-- Forward steps only.
data Line (τ : Tree) (p₀ : Place) (σ₀ : Store) : Place → Store → Type 0 where
  none : Line τ p₀ σ₀ p₀ σ₀
  more : {p p' : Place} {σ σ' : Store} → Line τ p₀ σ₀ p σ → step τ p σ ≡ ok (p', σ') → Line τ p₀ σ₀ p' σ'

ok_no : {A X : Type 0} {r : Answer A} (a : A) (n : Reason) → r ≡ ok a → r ≡ no n → X
ok_no a n h k = absurd (let z : ◌≡◌ {A = ℕ} 0 1 = cc in let y : ⊥ = omega arith in y)

module _ (τ : Tree) (w : Wf τ (prog τ)) (d : Dir) (σ₀ : Store) (so : Sized τ σ₀) where
  line_fits : {p : Place} {σ : Store} → Line τ (start τ d) σ₀ p σ → Fits τ p × Sized τ σ
  line_fits none = (start_fits τ w d, so)
  line_fits (more {p = p} {p' = p'} {σ = σ} {σ' = σ'} l e) = let f = line_fits l in let u = back_undoes τ w p f.0 σ f.1 p' σ' e in (u.0, u.1)

  back_line : {p p' : Place} {σ σ' : Store} → Line τ (start τ d) σ₀ p σ → step_back τ p σ ≡ ok (p', σ') → Line τ (start τ d) σ₀ p' σ'
  back_line {p' = p'} {σ' = σ'} none e = ok_no (p', σ') at_end e (start_refused τ w d σ₀)
  back_line {p' = p₂} {σ' = σ₂} (more {p = p₁} {p' = p} {σ = σ₁} {σ' = σ} l e) h =
      let f = line_fits l in
      let r = (back_undoes τ w p₁ f.0 σ₁ f.1 p σ e).2 in
      let t : ◌≡◌ {A = Place × Store} (p₁, σ₁) (p₂, σ₂) = cc in
      subst (λ k. Line τ (start τ d) σ₀ k.0 k.1) t l

  on_line : {p p' : Place} {σ σ' : Store} → Line τ (start τ d) σ₀ p σ → Walk τ p σ p' σ' → Line τ (start τ d) σ₀ p' σ'
  on_line l stay = l
  on_line l (on (inl e) r) = on_line (more l e) r
  on_line l (on (inr e) r) = on_line (back_line l e) r

  refused_line_lem : {p : Place} {σ : Store} (n : Reason) → Line τ (start τ d) σ₀ p σ → step_back τ p σ ≡ no n → (p ≡ start τ d) × (σ ≡ σ₀) × (n ≡ at_end)
  refused_line_lem n none e = (refl, refl, let r = start_refused τ w d σ₀ in cc)
  refused_line_lem n (more {p = p₁} {p' = p} {σ = σ₁} {σ' = σ} l h) e =
      let f = line_fits l in ok_no (p₁, σ₁) n (back_undoes τ w p₁ f.0 σ₁ f.1 p σ h).2 e

  -- After any walk the place fits and the store has its size.
  pub walk_fits : {p : Place} {σ : Store} → Walk τ (start τ d) σ₀ p σ → Fits τ p × Sized τ σ
  walk_fits r = line_fits (on_line none r)

  pub walk_back : {p : Place} {σ : Store} (n : Reason) → Walk τ (start τ d) σ₀ p σ → step_back τ p σ ≡ no n → (p ≡ start τ d) × (σ ≡ σ₀) × (n ≡ at_end)
  walk_back n r e = refused_line_lem n (on_line none r) e
