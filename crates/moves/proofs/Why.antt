-- A step is refused for a reason exactly where the reason's condition holds.
use Prim.Native.Nat.{ℕ, ◌≤◌}
use mathlib.Core.Path.{◌≡◌, refl, sym}
use mathlib.Core.Bool.{Bool, true, false, not, cond, beq as same}
use mathlib.Core.List.{List, [], ◌∷◌}
use mathlib.Core.Logic.{◌⊎◌, inl, inr, ◌↔◌, ⊎_elim}
use lib.Dec.{ltb}
use native.Mathlib.Omega.{arith}
use borrow.Author.Tests.{ltb-false, le-ltb}
use Rattle.order.specs.Trees.{Tree}
use Rattle.moves.specs.Edges.{Frame}
use Rattle.moves.specs.Places.{Dir, Place, head, calls}
use Rattle.moves.specs.Stores.{Reason, at_end, wrong_value, too_deep, Answer, ok, no, bind, Store, holds, assigned}
use Rattle.moves.specs.Step.{again, must, executes}
use Rattle.moves.specs.Step as does
use Rattle.moves.proofs.Acts.{Act, assigns, moves, chooses, closes, opens, tests, enters, enters_back, returns, nothing, wanted, perform}

pub ok_no : {A X : Type 0} (a : A) (r : Reason) → ◌≡◌ {A = Answer A} (ok a) (no r) → X
ok_no a r e = absurd (let z : ◌≡◌ {A = ℕ} 0 1 = cc in let y : ⊥ = omega arith in y)

pub no_no : {A : Type 0} {r r' : Reason} → ◌≡◌ {A = Answer A} (no r) (no r') → r ≡ r'
no_no e = cc

-- ---- by what the step executes; `h` is the construct that is entered there
abbrev pub Refuses : Tree → (h : ℕ) → Act → Dir → List Frame → Store → Reason → Type 0
Refuses τ h (assigns o x e) d fs σ r = assigned τ o x e d σ ≡ no r
Refuses τ h moves d fs σ r = ⊥
Refuses τ h (chooses e) d fs σ r = holds τ σ e ≡ no r
Refuses τ h (closes e) d fs σ r = (holds τ σ e ≡ no r) ⊎ ((holds τ σ e ≡ ok (not (wanted fs))) × (r ≡ wrong_value))
Refuses τ h (opens e) d fs σ r = (holds τ σ e ≡ no r) ⊎ ((holds τ σ e ≡ ok (again h fs)) × (r ≡ wrong_value))
Refuses τ h (tests e) d fs σ r = holds τ σ e ≡ no r
Refuses τ h (enters q) d fs σ r = (64 ≤ calls fs) × (r ≡ too_deep)
Refuses τ h (enters_back q) d fs σ r = (64 ≤ calls fs) × (r ≡ too_deep)
Refuses τ h returns d fs σ r = (fs ≡ []) × (r ≡ at_end)
Refuses τ h nothing d fs σ r = ⊥

bind_no : {A B : Type 0} (a : Answer A) (k : A → B) (r : Reason) → bind a (λ v. ok (k v)) ≡ no r ↔ a ≡ no r
unfolding bind
bind_no (ok a) k r = (λ e. ok_no (k a) r e, λ e. ok_no a r e)
bind_no (no m) k r = (λ e. cc, λ e. cc)

-- A value that must be w.
must_no : {B : Type 0} (a : Answer Bool) (w : Bool) (x : B) (r : Reason)
    → bind a (λ v. must (same v w) x) ≡ no r ↔ (a ≡ no r) ⊎ ((a ≡ ok (not w)) × (r ≡ wrong_value))
unfolding bind
must_no (ok true) true x r = (λ e. ok_no x r e, ⊎_elim (λ e. ok_no true r e) (λ e. let h = e.0 in cc))
must_no (ok true) false x r = (λ e. inr (refl, cc), ⊎_elim (λ e. ok_no true r e) (λ e. let h = e.1 in cc))
must_no (ok false) true x r = (λ e. inr (refl, cc), ⊎_elim (λ e. ok_no false r e) (λ e. let h = e.1 in cc))
must_no (ok false) false x r = (λ e. ok_no x r e, ⊎_elim (λ e. ok_no false r e) (λ e. let h = e.0 in cc))
must_no (no m) w x r = (λ e. inl (cc), ⊎_elim (λ e. cc) (λ e. ok_no (not w) m (sym e.0)))

open_no : {B : Type 0} (a : Answer Bool) (k : Bool) (x y : B) (r : Reason)
    → bind a (λ v. cond k (must (not v) x) (must v y)) ≡ no r ↔ (a ≡ no r) ⊎ ((a ≡ ok k) × (r ≡ wrong_value))
unfolding bind
open_no (ok true) true x y r = (λ e. inr (refl, cc), ⊎_elim (λ e. ok_no true r e) (λ e. let h = e.1 in cc))
open_no (ok true) false x y r = (λ e. ok_no y r e, ⊎_elim (λ e. ok_no true r e) (λ e. let h = e.0 in cc))
open_no (ok false) true x y r = (λ e. ok_no x r e, ⊎_elim (λ e. ok_no false r e) (λ e. let h = e.0 in cc))
open_no (ok false) false x y r = (λ e. inr (refl, cc), ⊎_elim (λ e. ok_no false r e) (λ e. let h = e.1 in cc))
open_no (no m) k x y r = (λ e. inl (cc), ⊎_elim (λ e. cc) (λ e. ok_no k m (sym e.0)))

deep_no : {A : Type 0} (fs : List Frame) (x : A) (r : Reason) → cond (ltb (calls fs) 64) (ok x) (no too_deep) ≡ no r ↔ (64 ≤ calls fs) × (r ≡ too_deep)
deep_no fs x r = (λ e. go (ltb (calls fs) 64) refl e, λ h. rw (le-ltb (calls fs) 64 h.0) (let k = h.1 in cc))
  where
    go : (b : Bool) → ltb (calls fs) 64 ≡ b → cond b (ok x) (no too_deep) ≡ no r → (64 ≤ calls fs) × (r ≡ too_deep)
    go true h e = ok_no x r e
    go false h e = (ltb-false (calls fs) 64 h, cc)

return_no : (τ : Tree) (p : Place) (fs : List Frame) (σ : Store) (r : Reason) → does.returns τ p σ fs ≡ no r ↔ (fs ≡ []) × (r ≡ at_end)
return_no τ p [] σ r = (λ e. (refl, cc), λ h. let k = h.1 in cc)
return_no τ p (f ∷ F) σ r = (λ e. ok_no _ r e, λ h. let k = h.0 in cc)

pub perform_no : (τ : Tree) (α : Act) (p : Place) (σ : Store) (r : Reason) → perform τ α p σ ≡ no r ↔ Refuses τ (head τ p.b p.d) α p.d p.frames σ r
unfolding perform executes
perform_no τ (assigns o x e) p σ r = bind_no (assigned τ o x e p.d σ) _ r
perform_no τ moves p σ r = (λ e. ok_no _ r e, λ h. absurd h)
perform_no τ (chooses e) p σ r = bind_no (holds τ σ e) _ r
perform_no τ (closes e) p σ r = must_no (holds τ σ e) (wanted p.frames) _ r
perform_no τ (opens e) p σ r = open_no (holds τ σ e) (again (head τ p.b p.d) p.frames) _ _ r
perform_no τ (tests e) p σ r = bind_no (holds τ σ e) _ r
perform_no τ (enters q) p σ r = deep_no p.frames _ r
perform_no τ (enters_back q) p σ r = deep_no p.frames _ r
perform_no τ returns p σ r = return_no τ p p.frames σ r
perform_no τ nothing p σ r = (λ e. ok_no _ r e, λ h. absurd h)
