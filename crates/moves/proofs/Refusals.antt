-- At a place that fits: the step answers a reason exactly if the reason's condition holds, and arrives exactly if none does.
use Prim.Native.Nat.{ℕ, suc, pred}
use mathlib.Core.Path.{◌≡◌, refl, ap, sym, ◌∙◌, subst, subst⁻¹}
use mathlib.Core.List.{List, [], ◌∷◌, ◌++◌}
use mathlib.Core.Logic.{inl, inr, ◌↔◌}
use Rattle.order.specs.Trees.{Tree}
use Rattle.moves.specs.Labels.{at}
use Rattle.moves.specs.Edges.{Frame, in_then, in_else}
use Rattle.moves.specs.Places.{Dir, down, up, Place, head, Fits}
use Rattle.moves.specs.Stores.{Reason, Answer, ok, no, Store}
use Rattle.moves.specs.Step.{step}
use Rattle.moves.specs.Reasons.{Condition}
use Rattle.moves.proofs.Linked.{Rec, name_l, begin_l, end_l, set_l, skip_l, if_l, else_l, fi_l, from_l, loop_l, until_l, call_l, uncall_l, Prog, forget, side}
use Rattle.moves.proofs.Cuts.{met, Local, Wf, Sits}
use Rattle.moves.proofs.Loop.{lo_met, hi_met, not_begin, not_end}
use Rattle.moves.proofs.Rows.{prog}
use Rattle.moves.proofs.Links.{at_is}
use Rattle.moves.proofs.Acts.{act, nothing, step_is}
use Rattle.moves.proofs.Gaps.{tip}
use Rattle.moves.proofs.View.{stack}
use Rattle.moves.proofs.Match.{fits_placed}
use Rattle.moves.proofs.Why.{ok_no, perform_no}
use Rattle.moves.proofs.Conditions.{Branch, Top, Shape, refuses_meets, meets_refuses}

module _ (τ : Tree) (w : Wf τ (prog τ)) where
  abbrev P : Prog
  P = prog τ

  top_stack : (F : List Frame) (cs : List ℕ) → F ≡ [] → Top (F ++ stack P cs)
  top_stack F [] e = rw e tt
  top_stack F (c ∷ cs) e = rw e tt

  in_then_lem : (l : ℕ) (F G : List Frame) (cs : List ℕ) → F ≡ in_then l ∷ G → Branch (F ++ stack P cs)
  in_then_lem l F G cs e = (l, G ++ stack P cs, inl (ap (λ x. x ++ stack P cs) e))

  in_else_lem : (l : ℕ) (F G : List Frame) (cs : List ℕ) → F ≡ in_else l ∷ G → Branch (F ++ stack P cs)
  in_else_lem l F G cs e = (l, G ++ stack P cs, inr (ap (λ x. x ++ stack P cs) e))

  shape_with : (g : ℕ) (d : Dir) (b : ℕ) (fs : List Frame) {ρ ρb : Rec} → P.at (met g d) ≡ ρ → side ρ (met g d) d ≡ b → P.at b ≡ ρb
      → Shape (act (forget ρb) d) fs → Shape (act (at τ (tip P g d)) d) fs
  shape_with g d b fs {ρ} {ρb} e s h k =
      let i : tip P g d ≡ b = rw e s in
      subst⁻¹ (λ x. Shape (act (at τ x) d) fs) i (subst⁻¹ (λ r. Shape (act r d) fs) (at_is τ b ∙ ap forget h) k)

  shape : (g : ℕ) (d : Dir) (cs : List ℕ) (ρ : Rec) → P.at (met g d) ≡ ρ → Local τ P ρ (met g d) → (F : Sits P (record { g = g; d = d; cs = cs }))
      → Shape (act (at τ (tip P g d)) d) (P.encl g ++ stack P cs)
  unfolding act
  shape g d cs (name_l v ls) e h F = absurd (h F.q (lo_met τ P g d cs F) (hi_met τ P g d cs F))
  shape g down cs (begin_l q) e h F = absurd (not_begin τ P g cs q h F)
  shape g up cs (begin_l q) e (h, k, u) F = shape_with g up g _ e refl e (top_stack (P.encl g) cs (cc))
  shape g down cs (end_l q) e (h, k, u) F = shape_with g down (suc g) _ e refl e (top_stack (P.encl g) cs (cc))
  shape g up cs (end_l q) e h F = absurd (not_end τ P g cs q h F)
  shape g down cs (set_l o t ε) e k F = shape_with g down (suc g) _ e refl e tt
  shape g up cs (set_l o t ε) e k F = shape_with g up g _ e refl e tt
  shape g down cs skip_l e k F = shape_with g down (suc g) _ e refl e tt
  shape g up cs skip_l e k F = shape_with g up g _ e refl e tt
  shape g down cs (if_l c) e (h, k) F = shape_with g down (suc g) _ e refl e tt
  shape g up cs (if_l c) e (h, k) F = shape_with g up g _ e refl e (in_then_lem c.l (P.encl g) (P.encl (pred c.l)) cs (cc))
  shape g down cs (else_l c) e (h, k) F = shape_with g down c.r _ e refl k.at_r (in_then_lem c.l (P.encl g) (P.encl (pred c.l)) cs (cc))
  shape g up cs (else_l c) e (h, k) F = shape_with g up c.l _ e refl k.at_l (in_else_lem c.l (P.encl g) (P.encl (pred c.l)) cs (cc))
  shape g down cs (fi_l c) e (h, k) F = shape_with g down (suc g) _ e refl e (in_else_lem c.l (P.encl g) (P.encl (pred c.l)) cs (cc))
  shape g up cs (fi_l c) e (h, k) F = shape_with g up g _ e refl e tt
  shape g down cs (from_l c) e (h, k) F = shape_with g down (suc g) _ e refl e tt
  shape g up cs (from_l c) e (h, k) F = shape_with g up g _ e refl e tt
  shape g down cs (loop_l c) e (h, k) F = shape_with g down c.r _ e refl k.at_r tt
  shape g up cs (loop_l c) e (h, k) F = shape_with g up c.r _ e refl k.at_r tt
  shape g down cs (until_l c) e (h, k) F = shape_with g down c.l _ e refl k.at_l tt
  shape g up cs (until_l c) e (h, k) F = shape_with g up g _ e refl e tt
  shape g down cs (call_l q) e k F = shape_with g down (suc g) _ e refl e tt
  shape g up cs (call_l q) e k F = shape_with g up g _ e refl e tt
  shape g down cs (uncall_l q) e k F = shape_with g down (suc g) _ e refl e tt
  shape g up cs (uncall_l q) e k F = shape_with g up g _ e refl e tt

  -- Where a place fits, its record does something, and the frames are the ones that this takes for granted.
  pub shape_fits : (p : Place) → Fits τ p → Shape (act (at τ p.b) p.d) p.frames
  shape_fits p f =
      let k = fits_placed τ w p f in let s = k.cut in
      subst⁻¹ (λ k. Shape (act (at τ k.b) k.d) k.frames) k.is
      (shape s.g s.d s.cs _ refl (w.here (met s.g s.d)) k.sits)

  pub acts : (p : Place) → Fits τ p → act (at τ p.b) p.d ≡ nothing → ⊥
  acts p f e = subst (λ α. Shape α p.frames) e (shape_fits p f)

  -- The step answers r exactly if r's condition holds.
  pub refused : (p : Place) → Fits τ p → (σ : Store) (r : Reason) → step τ p σ ≡ no r ↔ Condition τ p σ r
  refused p f σ r =
      let ρ = at τ p.b in let h = head τ p.b p.d in
      let k = perform_no τ (act ρ p.d) p σ r in
      let s = shape_fits p f in let i = step_is τ p σ in
      (λ e. refuses_meets τ σ h p.frames ρ p.d r s f.few (k.0 (sym i ∙ e)), λ c. i ∙ k.1 (meets_refuses τ σ h p.frames ρ p.d r s c))

  -- It arrives exactly if no condition holds.
  pub arrived : (p : Place) → Fits τ p → (σ : Store) → ((x : Place × Store) × (step τ p σ ≡ ok x)) ↔ ((r : Reason) → Condition τ p σ r → ⊥)
  arrived p f σ = (λ a r c. ok_no a.0 r (sym a.1 ∙ (refused p f σ r).1 c), λ n. go' n (step τ p σ) refl)
    where
      go' : ((r : Reason) → Condition τ p σ r → ⊥) → (x : Answer (Place × Store)) → step τ p σ ≡ x → (x : Place × Store) × (step τ p σ ≡ ok x)
      go' n (ok x) e = (x, e)
      go' n (no r) e = absurd (n r ((refused p f σ r).0 e))

  -- At most one reason's condition holds.
  pub one_reason : (p : Place) → Fits τ p → (σ : Store) (r r' : Reason) → Condition τ p σ r → Condition τ p σ r' → r ≡ r'
  one_reason p f σ r r' c c' = let e = (refused p f σ r).1 c in let e' = (refused p f σ r').1 c' in cc
