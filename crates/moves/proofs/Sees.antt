-- The step on places is the step on cuts: one case for each kind of record and direction.
use Prim.Native.Nat.{ℕ, suc, ◌≤◌, ◌<◌, pred}
use mathlib.Core.Path.{◌≡◌, refl, ap, sym, ◌∙◌}
use mathlib.Core.Bool.{Bool, true, false}
use mathlib.Core.List.{List, [], ◌∷◌, ◌++◌, tail as pop}
use native.Mathlib.Omega.{arith}
use borrow.Author.Tests.{eq-eqb}
use Rattle.expr.specs.Tree.{Expr}
use Rattle.order.specs.Trees.{Tree}
use Rattle.moves.specs.Edges.{Frame, in_do, in_loop}
use Rattle.moves.specs.Places.{Dir, down, up, opp, head}
use Rattle.moves.specs.Stores.{ok, Store, holds, assigned}
use Rattle.moves.specs.Step.{after, again, executes, step}
use Rattle.moves.proofs.Linked.{Con, Rec, name_l, begin_l, end_l, set_l, skip_l, if_l, else_l, fi_l, from_l, loop_l, until_l, call_l, uncall_l, Prog}
use Rattle.moves.proofs.Cuts.{Cut, met, leave, arm, port, through, cstep, Span, Local, Wf, by_call, by_uncall, Sits}
use Rattle.moves.proofs.Loop.{lo_met, hi_met, fit_gate, not_begin, not_end}
use Rattle.moves.proofs.Rows.{prog}
use Rattle.moves.proofs.Acts.{act, closes, opens, wanted, perform}
use Rattle.moves.proofs.Follow.{head_if, head_fi, head_from, head_until}
use Rattle.moves.proofs.View.{stack, view, seen, fresh_stack, must_sim, opens_sim, either_sim, choose_sim, assign_sim, side_call, side_uncall, arrive3, arrive1, encl_left, sim_with, spot, ret_sim, enter_sim}

module _ (τ : Tree) (w : Wf τ (prog τ)) where
  abbrev P : Prog
  P = prog τ

  -- What the four ways through a construct ask of the places where they arrive.
  close_sim : (e : Expr) (v : Bool) (g : ℕ) (d : Dir) (cs : List ℕ) (b x : ℕ) (σ : Store) → wanted (P.encl g ++ stack P cs) ≡ v
      → after τ b d (pop (P.encl g ++ stack P cs)) ≡ view P (leave b d cs)
      → perform τ (closes e) (spot τ w g d cs b) σ ≡ seen P (through τ P (arm e v b) x d cs σ)
  unfolding perform through
  close_sim e v g d cs b x σ hw h = rw hw (must_sim P (holds τ σ e) v _ _ σ h)

  open_out : (e : Expr) (i y : ℕ) (g : ℕ) (d : Dir) (cs : List ℕ) (b x : ℕ) (σ : Store) → head τ b d ≡ i → again i (P.encl g ++ stack P cs) ≡ false
      → after τ b d (in_do i ∷ (P.encl g ++ stack P cs)) ≡ view P (leave y d cs)
      → perform τ (opens e) (spot τ w g d cs b) σ ≡ seen P (through τ P (arm e true y) x d cs σ)
  unfolding perform through
  open_out e i y g d cs b x σ hi hw h = rw (hi, hw) (opens_sim P (holds τ σ e) false (spot τ w g d cs b) _ _ σ h)

  open_in : (e : Expr) (i y : ℕ) (g : ℕ) (d : Dir) (cs : List ℕ) (b x : ℕ) (σ : Store) → head τ b d ≡ i → again i (P.encl g ++ stack P cs) ≡ true
      → after τ b d (in_do i ∷ pop (P.encl g ++ stack P cs)) ≡ view P (leave y d cs)
      → perform τ (opens e) (spot τ w g d cs b) σ ≡ seen P (through τ P (arm e false y) x d cs σ)
  unfolding perform through
  open_in e i y g d cs b x σ hi hw h = rw (hi, hw) (opens_sim P (holds τ σ e) true _ (spot τ w g d cs b) _ σ h)

  again_top : (i g : ℕ) (cs : List ℕ) (F : List Frame) → P.encl g ≡ in_loop i ∷ F → again i (P.encl g ++ stack P cs) ≡ true
  again_top i g cs F e = rw e (eq-eqb i i refl)

  -- The construct that is entered from x: the one whose record is met.
  into : (g : ℕ) (d : Dir) (cs : List ℕ) (F : Sits P (record { g = g; d = d; cs = cs })) (c : Con) → Span P c → c.l ≤ met g d → met g d ≤ c.r
      → (d' : Dir) {x y : ℕ} → x ≡ y → (P.first F.q < c.l → c.r < P.last F.q → head τ y d' ≡ c.l) → head τ x d' ≡ c.l
  into g d cs F c s lo hi d' e h =
      let n = s.near F.q (met g d) lo hi (lo_met τ P g d cs F) (hi_met τ P g d cs F) in
      ap (λ z. head τ z d') e ∙ h n.0 n.1

  sim : (g : ℕ) (d : Dir) (cs : List ℕ) (σ : Store) (ρ : Rec) → P.at (met g d) ≡ ρ → Local τ P ρ (met g d) → (F : Sits P (record { g = g; d = d; cs = cs }))
      → step τ (view P (record { g = g; d = d; cs = cs })) σ ≡ seen P (cstep τ P (record { g = g; d = d; cs = cs }) σ)
  unfolding port act perform executes through seen
  sim g d cs σ (name_l v ls) e h F = absurd (h F.q (lo_met τ P g d cs F) (hi_met τ P g d cs F))
  sim g down cs σ (begin_l q) e h F = absurd (not_begin τ P g cs q h F)
  sim g up cs σ (begin_l q) e (h, k, u) F =
      sim_with τ w g up cs σ g e refl e (rw (let z : P.encl g ≡ [] = cc in z) (ret_sim τ w g (spot τ w g up cs g) F.q cs σ F.good F.few))
  sim g down cs σ (end_l q) e (h, k, u) F =
      sim_with τ w g down cs σ (suc g) e refl e
      (rw (let z : P.encl g ≡ [] = cc in z) (ret_sim τ w (suc g) (spot τ w g down cs (suc g)) F.q cs σ F.good F.few))
  sim g up cs σ (end_l q) e h F = absurd (not_end τ P g cs q h F)
  sim g down cs σ (set_l o t ε) e (i, k) F =
      sim_with τ w g down cs σ (suc g) e refl e (assign_sim P (assigned τ o t ε down σ) _ _ (arrive1 τ w g down cs F k (rw e) (encl_left τ w g down k)))
  sim g up cs σ (set_l o t ε) e (i, k) F =
      sim_with τ w g up cs σ g e refl e (assign_sim P (assigned τ o t ε up σ) _ _ (arrive1 τ w g up cs F k (rw e) (encl_left τ w g up k)))
  sim g down cs σ skip_l e k F =
      sim_with τ w g down cs σ (suc g) e refl e (ap (λ p. ok (p, σ)) (arrive1 τ w g down cs F k (rw e) (encl_left τ w g down k)))
  sim g up cs σ skip_l e k F =
      sim_with τ w g up cs σ g e refl e (ap (λ p. ok (p, σ)) (arrive1 τ w g up cs F k (rw e) (encl_left τ w g up k)))
  sim g down cs σ (if_l c) e (h, k) F =
      let to = arrive3 τ w g down cs F c k.span (omega arith) (omega arith) in
      let i = into g down cs F c k.span (omega arith) (omega arith) down h (head_if τ w F.q c k) in
      sim_with τ w g down cs σ (suc g) e refl e (choose_sim P (holds τ σ c.e₁) _ _ (after τ (suc g) down) (suc g) c.m down cs σ
      (to (suc g) (suc g) _ (omega arith) (omega arith) (rw e) (cc)) (to (suc g) c.m _ (omega arith) (omega arith) (rw k.at_m (sym h)) (cc)))
  sim g up cs σ (if_l c) e (h, k) F =
      let to = arrive3 τ w g up cs F c k.span (omega arith) (omega arith) in
      sim_with τ w g up cs σ g e refl e (close_sim c.e₁ true g up cs g g σ (cc) (to g g _ (omega arith) (omega arith) (rw e) (cc)))
  sim g down cs σ (else_l c) e (h, k) F =
      let to = arrive3 τ w g down cs F c k.span (omega arith) (omega arith) in
      sim_with τ w g down cs σ c.r e refl k.at_r
      (close_sim c.e₂ true g down cs c.r (suc g) σ (cc) (to c.r c.r _ (omega arith) (omega arith) (rw k.at_r) (cc)))
  sim g up cs σ (else_l c) e (h, k) F =
      let to = arrive3 τ w g up cs F c k.span (omega arith) (omega arith) in
      sim_with τ w g up cs σ c.l e refl k.at_l
      (close_sim c.e₁ false g up cs c.l g σ (cc) (to c.l c.l _ (omega arith) (omega arith) (rw k.at_l) (cc)))
  sim g down cs σ (fi_l c) e (h, k) F =
      let to = arrive3 τ w g down cs F c k.span (omega arith) (omega arith) in
      sim_with τ w g down cs σ (suc g) e refl e
      (close_sim c.e₂ false g down cs (suc g) (suc g) σ (cc) (to (suc g) (suc g) _ (omega arith) (omega arith) (rw e) (cc)))
  sim g up cs σ (fi_l c) e (h, k) F =
      let to = arrive3 τ w g up cs F c k.span (omega arith) (omega arith) in
      let i = into g up cs F c k.span (omega arith) (omega arith) up h (head_fi τ w F.q c k) in
      sim_with τ w g up cs σ g e refl e (choose_sim P (holds τ σ c.e₂) _ _ (after τ g up) c.m g up cs σ
      (to g c.m _ (omega arith) (omega arith) (rw k.at_m (sym h)) (cc)) (to g g _ (omega arith) (omega arith) (rw e) (cc)))
  sim g down cs σ (from_l c) e (h, k) F =
      let to = arrive3 τ w g down cs F c k.span (omega arith) (omega arith) in
      let i = into g down cs F c k.span (omega arith) (omega arith) down h (head_from τ w F.q c k) in
      sim_with τ w g down cs σ (suc g) e refl e
      (open_out c.e₁ c.l (suc g) g down cs (suc g) (suc g) σ i (fresh_stack P c.l (P.encl g) cs (let f = k.fresh c.l (omega arith) in cc))
      (to (suc g) (suc g) _ (omega arith) (omega arith) (rw e) (cc)))
  sim g up cs σ (from_l c) e (h, k) F =
      let to = arrive3 τ w g up cs F c k.span (omega arith) (omega arith) in
      sim_with τ w g up cs σ g e refl e (either_sim P (holds τ σ c.e₁) _ _ (after τ g up) g c.r up cs σ
      (to g g _ (omega arith) (omega arith) (rw e) (cc)) (to g c.r _ (omega arith) (omega arith) (rw k.at_r (sym h)) (cc)))
  sim g down cs σ (loop_l c) e (h, k) F =
      let to = arrive3 τ w g down cs F c k.span (omega arith) (omega arith) in
      sim_with τ w g down cs σ c.r e refl k.at_r (either_sim P (holds τ σ c.e₂) _ _ (after τ c.r down) c.r c.m down cs σ
      (to c.r c.r _ (omega arith) (omega arith) (rw k.at_r) (cc)) (to c.r c.m _ (omega arith) (omega arith) (rw k.at_m) (cc)))
  sim g up cs σ (loop_l c) e (h, k) F =
      let to = arrive3 τ w g up cs F c k.span (omega arith) (omega arith) in
      let i = into g up cs F c k.span (omega arith) (omega arith) up refl (head_until τ w F.q c k) in
      sim_with τ w g up cs σ c.r e refl k.at_r
      (open_in c.e₂ c.l c.m g up cs c.r g σ i (again_top c.l g cs (P.encl (pred c.l)) (cc)) (to c.r c.m _ (omega arith) (omega arith) (rw k.at_m) (cc)))
  sim g down cs σ (until_l c) e (h, k) F =
      let to = arrive3 τ w g down cs F c k.span (omega arith) (omega arith) in
      let i = into g down cs F c k.span (omega arith) (omega arith) down refl (head_from τ w F.q c k) in
      sim_with τ w g down cs σ c.l e refl k.at_l
      (open_in c.e₁ c.l c.l g down cs c.l (suc g) σ i (again_top c.l g cs (P.encl (pred c.l)) (cc)) (to c.l c.l _ (omega arith) (omega arith) (rw k.at_l) (cc)))
  sim g up cs σ (until_l c) e (h, k) F =
      let to = arrive3 τ w g up cs F c k.span (omega arith) (omega arith) in
      let i = into g up cs F c k.span (omega arith) (omega arith) up h (head_until τ w F.q c k) in
      sim_with τ w g up cs σ g e refl e
      (open_out c.e₂ c.l c.m g up cs g g σ i (fresh_stack P c.l (P.encl g) cs (let f = k.fresh c.l (omega arith) in cc))
      (to g c.m _ (omega arith) (omega arith) (rw k.at_m (sym h)) (cc)))
  sim g d cs σ (call_l q) e (k, o) F =
      let n = o.near F.q (lo_met τ P g d cs F) (hi_met τ P g d cs F) in
      sim_with τ w g d cs σ (met g d) e (side_call q (met g d) d) e
      (enter_sim τ w g d cs σ q d k o (λ h. fit_gate τ P q k (met g d ∷ cs) (by_call e n.0 n.1 F.good) h d))
  sim g d cs σ (uncall_l q) e (k, o) F =
      let n = o.near F.q (lo_met τ P g d cs F) (hi_met τ P g d cs F) in
      sim_with τ w g d cs σ (met g d) e (side_uncall q (met g d) d) e
      (enter_sim τ w g d cs σ q (opp d) k o (λ h. fit_gate τ P q k (met g d ∷ cs) (by_uncall e n.0 n.1 F.good) h (opp d)))

  pub sees : (s : Cut) → Sits P s → (σ : Store) → step τ (view P s) σ ≡ seen P (cstep τ P s σ)
  sees s F σ = sim s.g s.d s.cs σ (P.at (met s.g s.d)) refl (w.here (met s.g s.d)) F
