-- The loop lemma on cuts: where a step arrives, the opposite step from there arrives where it came from.
use Prim.Native.Nat.{ℕ, suc, ◌≤◌, ◌<◌, pred}
use mathlib.Core.Path.{◌≡◌, refl, ap, sym, ◌∙◌, subst}
use mathlib.Core.Bool.{Bool, true, false, cond, beq as same}
use mathlib.Core.List.{List, ◌∷◌}
use lib.ListN.{length}
use lib.Dec.{ltb}
use native.Mathlib.Omega.{arith}
use native.Mathlib.Nat.{suc-pred-eq_of_pos}
use borrow.Author.Tests.{ltb-true, lt-ltb}
use Rattle.expr.specs.Tree.{Expr}
use Rattle.records.specs.Records.{Target}
use Rattle.order.specs.Trees.{Tree}
use Rattle.moves.specs.Places.{Dir, down, up, opp}
use Rattle.moves.specs.Stores.{Answer, ok, no, bind, Store, Sized, holds, assigned, too_deep}
use Rattle.moves.specs.Step.{must}
use Rattle.moves.proofs.Linked.{Con, Rec, name_l, begin_l, end_l, set_l, skip_l, if_l, else_l, fi_l, from_l, loop_l, until_l, call_l, uncall_l, Prog, gate_l, resume}
use Rattle.moves.proofs.Cuts.{Cut, turned, met, gap, leave, Port, hub, arm, assign', pass', enter', return', port, through, cstep, Span, Undoes, SimpleOk, ProcOk, Local, Wf, Good, in_main, by_call, by_uncall, Sits}

pub met_gap : (y : ℕ) (d : Dir) → 0 < y → met (gap y d) (opp d) ≡ y
met_gap y down h = refl
met_gap y up h = suc-pred-eq_of_pos h

gap_met : (g : ℕ) (d : Dir) → gap (met g d) (opp d) ≡ g
gap_met g down = refl
gap_met g up = refl

pub opp_opp : (d : Dir) → opp (opp d) ≡ d
opp_opp down = refl
opp_opp up = refl

module _ (τ : Tree) (P : Prog) where
  -- What the outcome of a step from s is to be: where it arrives, the place fits and the opposite step arrives at s again.
  abbrev pub Undone : Cut → Store → Answer (Cut × Store) → Type 0
  Undone s σ (ok t) = Sits P t.0 × (Sized τ t.1) × (cstep τ P (turned t.0) t.1 ≡ ok (turned s, σ))
  Undone s σ (no n) = Unit {0}

  -- The opposite step meets the record that was left.
  from_left : (y : ℕ) (d : Dir) (cs : List ℕ) (σ : Store) (π : Port) → 0 < y → port (P.at y) y (opp d) ≡ π
      → cstep τ P (turned (leave y d cs)) σ ≡ through τ P π y (opp d) cs σ
  unfolding cstep
  from_left y d cs σ π h e = rw (met_gap y d h) (ap (λ k. through τ P k y (opp d) cs σ) e)

  hub_case : (g : ℕ) (d : Dir) (cs : List ℕ) (σ : Store) (so : Sized τ σ) (e : Expr) (t f : ℕ) → port (P.at (met g d)) (met g d) d ≡ hub e t f
      → 0 < t → 0 < f → port (P.at t) t (opp d) ≡ arm e true (met g d) → port (P.at f) f (opp d) ≡ arm e false (met g d)
      → Sits P (leave t d cs) → Sits P (leave f d cs)
      → Undone (record { g = g; d = d; cs = cs }) σ (cstep τ P (record { g = g; d = d; cs = cs }) σ)
  unfolding cstep through bind
  hub_case g d cs σ so e t f π ht hf pt pf ft ff = rw π (go' (holds τ σ e) refl)
    where
      go' : (v : Answer Bool) → holds τ σ e ≡ v → Undone (record { g = g; d = d; cs = cs }) σ (bind v (λ v. ok (leave (cond v t f) d cs, σ)))
      go' (ok true) h = (ft, so, from_left t d cs σ _ ht pt ∙ rw (h, gap_met g d))
      go' (ok false) h = (ff, so, from_left f d cs σ _ hf pf ∙ rw (h, gap_met g d))
      go' (no n) h = tt

  arm_case : (g : ℕ) (d : Dir) (cs : List ℕ) (σ : Store) (so : Sized τ σ) (e : Expr) (w : Bool) (y t f : ℕ) → port (P.at (met g d)) (met g d) d ≡ arm e w y
      → 0 < y → port (P.at y) y (opp d) ≡ hub e t f → cond w t f ≡ met g d → Sits P (leave y d cs)
      → Undone (record { g = g; d = d; cs = cs }) σ (cstep τ P (record { g = g; d = d; cs = cs }) σ)
  unfolding cstep through bind
  arm_case g d cs σ so e w y t f π hy py pick fy = rw π (go' (holds τ σ e) refl w pick)
    where
      s : Cut
      s = record { g = g; d = d; cs = cs }

      go' : (v : Answer Bool) → holds τ σ e ≡ v → (w : Bool) → cond w t f ≡ met g d → Undone s σ (bind v (λ v. must (same v w) (leave y d cs, σ)))
      go' (ok true) h true k = (fy, so, from_left y d cs σ _ hy py ∙ rw (h, k, gap_met g d))
      go' (ok true) h false k = tt
      go' (ok false) h true k = tt
      go' (ok false) h false k = (fy, so, from_left y d cs σ _ hy py ∙ rw (h, k, gap_met g d))
      go' (no n) h w k = tt

  assign_case : (g : ℕ) (d : Dir) (cs : List ℕ) (σ : Store) (so : Sized τ σ) (o : ℕ) (t : Target) (ε : Expr) → Undoes τ o t ε
      → port (P.at (met g d)) (met g d) d ≡ assign' o t ε → 0 < met g d → port (P.at (met g d)) (met g d) (opp d) ≡ assign' o t ε
      → Sits P (leave (met g d) d cs) → Undone (record { g = g; d = d; cs = cs }) σ (cstep τ P (record { g = g; d = d; cs = cs }) σ)
  unfolding cstep through bind
  assign_case g d cs σ so o t ε inv π hy py fy = rw π (go' (assigned τ o t ε d σ) refl)
    where
      go' : (v : Answer Store) → assigned τ o t ε d σ ≡ v → Undone (record { g = g; d = d; cs = cs }) σ (bind v (λ σ'. ok (leave (met g d) d cs, σ')))
      go' (ok σ') h = let i = inv d σ σ' so h in (fy, i.0, from_left (met g d) d cs σ' _ hy py ∙ rw (i.1, gap_met g d))
      go' (no n) h = tt

  pass_case : (g : ℕ) (d : Dir) (cs : List ℕ) (σ : Store) (so : Sized τ σ) → port (P.at (met g d)) (met g d) d ≡ pass'
      → 0 < met g d → port (P.at (met g d)) (met g d) (opp d) ≡ pass' → Sits P (leave (met g d) d cs)
      → Undone (record { g = g; d = d; cs = cs }) σ (cstep τ P (record { g = g; d = d; cs = cs }) σ)
  unfolding cstep through
  pass_case g d cs σ so π hy py fy = rw π (fy, so, from_left (met g d) d cs σ _ hy py ∙ rw (gap_met g d))

  -- A call enters q in direction d'; there the opposite step returns to it in the opposite direction.
  enter_case : (g : ℕ) (d : Dir) (cs : List ℕ) (σ : Store) (so : Sized τ σ) (q : ℕ) (d' : Dir) → port (P.at (met g d)) (met g d) d ≡ enter' q d'
      → 0 < gate_l P q d' → port (P.at (gate_l P q d')) (gate_l P q d') (opp d') ≡ return' → resume (P.at (met g d)) (opp d') ≡ opp d
      → (length cs < 64 → Sits P (leave (gate_l P q d') d' (met g d ∷ cs)))
      → Undone (record { g = g; d = d; cs = cs }) σ (cstep τ P (record { g = g; d = d; cs = cs }) σ)
  unfolding cstep through
  enter_case g d cs σ so q d' π hy py back fy = rw π (go' (ltb (length cs) 64) refl)
    where
      go' : (b : Bool) → ltb (length cs) 64 ≡ b
          → Undone (record { g = g; d = d; cs = cs }) σ (cond b (ok (leave (gate_l P q d') d' (met g d ∷ cs), σ)) (no too_deep))
      go' true h = (fy (ltb-true _ _ h), so, from_left (gate_l P q d') d' _ σ _ hy py ∙ rw (back, gap_met g d))
      go' false h = tt

  return_case : (g : ℕ) (d : Dir) (c : ℕ) (cs : List ℕ) (σ : Store) (so : Sized τ σ) (q : ℕ) (d' : Dir) → port (P.at (met g d)) (met g d) d ≡ return'
      → resume (P.at c) d ≡ d' → 0 < c → port (P.at c) c (opp d') ≡ enter' q (opp d) → gate_l P q (opp d) ≡ met g d
      → length cs < 64 → Sits P (leave c d' cs)
      → Undone (record { g = g; d = d; cs = c ∷ cs }) σ (cstep τ P (record { g = g; d = d; cs = c ∷ cs }) σ)
  unfolding cstep through
  return_case g d c cs σ so q d' π r hy py gt few fy = rw (π, r) (fy, so, from_left c d' cs σ _ hy py ∙ rw (lt-ltb _ _ few, gt, gap_met g d))

  -- Where a record strictly inside its procedure is left, the cut fits.
  pub fit : (q : ℕ) (cs : List ℕ) → Good P q cs → length cs ≤ 64 → (y : ℕ) (d : Dir) → P.first q < y → y < P.last q → Sits P (leave y d cs)
  fit q cs o n y down a b = record { q = q; lo = omega arith; hi = b; good = o; few = n }
  fit q cs o n y up a b =
      let a' : P.first q ≤ pred y = omega arith in
      let b' : pred y < P.last q = omega arith in
      record { q = q; lo = a'; hi = b'; good = o; few = n }

  pub lo_met : (g : ℕ) (d : Dir) (cs : List ℕ) → (F : Sits P (record { g = g; d = d; cs = cs })) → P.first F.q ≤ met g d
  lo_met g down cs F = omega arith
  lo_met g up cs F = F.lo

  pub hi_met : (g : ℕ) (d : Dir) (cs : List ℕ) → (F : Sits P (record { g = g; d = d; cs = cs })) → met g d ≤ P.last F.q
  hi_met g down cs F = F.hi
  hi_met g up cs F = omega arith

  -- The three records of a construct, one of which is met, lie strictly inside the procedure.
  pub fit3 : (g : ℕ) (d : Dir) (cs : List ℕ) → (F : Sits P (record { g = g; d = d; cs = cs })) → (c : Con) → Span P c
      → c.l ≤ met g d → met g d ≤ c.r → (y : ℕ) → c.l ≤ y → y ≤ c.r → Sits P (leave y d cs)
  fit3 g d cs F c k a b y a' b' =
      let n = k.near F.q (met g d) a b (lo_met g d cs F) (hi_met g d cs F) in
      fit F.q cs F.good F.few y d (omega arith) (omega arith)

  pub fit1 : (g : ℕ) (d : Dir) (cs : List ℕ) → (F : Sits P (record { g = g; d = d; cs = cs })) → SimpleOk P (met g d) → Sits P (leave (met g d) d cs)
  fit1 g d cs F k =
      let n = k.near F.q (lo_met g d cs F) (hi_met g d cs F) in
      fit F.q cs F.good F.few (met g d) d n.0 n.1

  pub pos1 : (g : ℕ) (d : Dir) (cs : List ℕ) → (F : Sits P (record { g = g; d = d; cs = cs })) → SimpleOk P (met g d) → 0 < met g d
  pos1 g d cs F k =
      let n = k.near F.q (lo_met g d cs F) (hi_met g d cs F) in omega arith

  pub not_begin : (g : ℕ) (cs : List ℕ) (q : ℕ) → Local τ P (begin_l q) (suc g) → Sits P (record { g = g; d = down; cs = cs }) → ⊥
  not_begin g cs q (h, k, u) F =
      let w = ap P.first (u F.q (lo_met g down cs F) (hi_met g down cs F)) in omega (arith, w, h, F.lo)

  pub not_end : (g : ℕ) (cs : List ℕ) (q : ℕ) → Local τ P (end_l q) g → Sits P (record { g = g; d = up; cs = cs }) → ⊥
  not_end g cs q (h, k, u) F =
      let w = ap P.last (u F.q (lo_met g up cs F) (hi_met g up cs F)) in omega (arith, w, h, F.hi)

  ret : (g : ℕ) (d : Dir) (q : ℕ) (cs : List ℕ) (σ : Store) (so : Sized τ σ) → port (P.at (met g d)) (met g d) d ≡ return' → gate_l P q (opp d) ≡ met g d
      → Good P q cs → length cs ≤ 64
      → Undone (record { g = g; d = d; cs = cs }) σ (cstep τ P (record { g = g; d = d; cs = cs }) σ)
  unfolding cstep through port
  ret g d q cs σ so π gt in_main n = rw π tt
  ret g d q cs σ so π gt (by_call {q' = q'} {c = c} {cs = cs'} ac lo hi o) n =
      return_case g d c cs' σ so q d π (rw ac) (omega arith) (rw ac) gt n (fit q' cs' o (omega arith) c d lo hi)
  ret g d q cs σ so π gt (by_uncall {q' = q'} {c = c} {cs = cs'} ac lo hi o) n =
      return_case g d c cs' σ so q (opp d) π (rw ac) (omega arith) (rw (ac, opp_opp)) gt n (fit q' cs' o (omega arith) c (opp d) lo hi)

  pub gate_pos : (q : ℕ) → ProcOk P q → (d : Dir) → 0 < gate_l P q d
  gate_pos q k down = k.pos
  gate_pos q k up = omega arith

  pub gate_back : (q : ℕ) → ProcOk P q → (d : Dir) → port (P.at (gate_l P q d)) (gate_l P q d) (opp d) ≡ return'
  unfolding port
  gate_back q k down = rw k.at_first
  gate_back q k up = rw k.at_last

  pub fit_gate : (q : ℕ) → ProcOk P q → (cs : List ℕ) → Good P q cs → length cs ≤ 64 → (d : Dir) → Sits P (leave (gate_l P q d) d cs)
  fit_gate q k cs o n down = record { q = q; lo = omega arith; hi = k.lt; good = o; few = n }
  fit_gate q k cs o n up =
      let a' : P.first q ≤ pred (P.last q) = omega arith in
      let b' : pred (P.last q) < P.last q = omega arith in
      record { q = q; lo = a'; hi = b'; good = o; few = n }

  by_record : (g : ℕ) (d : Dir) (cs : List ℕ) (σ : Store) (so : Sized τ σ) (ρ : Rec) → P.at (met g d) ≡ ρ → Local τ P ρ (met g d)
      → (F : Sits P (record { g = g; d = d; cs = cs }))
      → Undone (record { g = g; d = d; cs = cs }) σ (cstep τ P (record { g = g; d = d; cs = cs }) σ)
  unfolding port
  by_record g d cs σ so (name_l v ls) e h F = absurd (h F.q (lo_met g d cs F) (hi_met g d cs F))
  by_record g down cs σ so (begin_l q) e h F = absurd (not_begin g cs q h F)
  by_record g up cs σ so (begin_l q) e (h, k, u) F =
      ret g up q cs σ so (rw e) (sym h) (subst (λ x. Good P x cs) (u F.q (lo_met g up cs F) (hi_met g up cs F)) F.good) F.few
  by_record g down cs σ so (end_l q) e (h, k, u) F =
      ret g down q cs σ so (rw e) (sym h) (subst (λ x. Good P x cs) (u F.q (lo_met g down cs F) (hi_met g down cs F)) F.good) F.few
  by_record g up cs σ so (end_l q) e h F = absurd (not_end g cs q h F)
  by_record g d cs σ so (set_l o t ε) e (i, k) F = assign_case g d cs σ so o t ε i (rw e) (pos1 g d cs F k) (rw e) (fit1 g d cs F k)
  by_record g d cs σ so skip_l e k F = pass_case g d cs σ so (rw e) (pos1 g d cs F k) (rw e) (fit1 g d cs F k)
  by_record g down cs σ so (if_l c) e (h, k) F =
      hub_case g down cs σ so c.e₁ (suc g) c.m (rw e) (omega arith) (omega arith) (rw e) (rw (k.at_m, h))
      (fit3 g down cs F c k.span (omega arith) (omega arith) (suc g) (omega arith) (omega arith))
      (fit3 g down cs F c k.span (omega arith) (omega arith) c.m (omega arith) (omega arith))
  by_record g up cs σ so (if_l c) e (h, k) F =
      arm_case g up cs σ so c.e₁ true g g c.m (rw e) (omega arith) (rw e) refl
      (fit3 g up cs F c k.span (omega arith) (omega arith) g (omega arith) (omega arith))
  by_record g down cs σ so (else_l c) e (h, k) F =
      arm_case g down cs σ so c.e₂ true c.r c.m c.r (rw e) (omega arith) (rw k.at_r) (sym h)
      (fit3 g down cs F c k.span (omega arith) (omega arith) c.r (omega arith) (omega arith))
  by_record g up cs σ so (else_l c) e (h, k) F =
      arm_case g up cs σ so c.e₁ false c.l c.l c.m (rw e) (omega arith) (rw k.at_l) (sym h)
      (fit3 g up cs F c k.span (omega arith) (omega arith) c.l (omega arith) (omega arith))
  by_record g down cs σ so (fi_l c) e (h, k) F =
      arm_case g down cs σ so c.e₂ false (suc g) c.m (suc g) (rw e) (omega arith) (rw e) refl
      (fit3 g down cs F c k.span (omega arith) (omega arith) (suc g) (omega arith) (omega arith))
  by_record g up cs σ so (fi_l c) e (h, k) F =
      hub_case g up cs σ so c.e₂ c.m g (rw e) (omega arith) (omega arith) (rw (k.at_m, h)) (rw e)
      (fit3 g up cs F c k.span (omega arith) (omega arith) c.m (omega arith) (omega arith))
      (fit3 g up cs F c k.span (omega arith) (omega arith) g (omega arith) (omega arith))
  by_record g down cs σ so (from_l c) e (h, k) F =
      arm_case g down cs σ so c.e₁ true (suc g) (suc g) c.r (rw e) (omega arith) (rw e) refl
      (fit3 g down cs F c k.span (omega arith) (omega arith) (suc g) (omega arith) (omega arith))
  by_record g up cs σ so (from_l c) e (h, k) F =
      hub_case g up cs σ so c.e₁ g c.r (rw e) (omega arith) (omega arith) (rw e) (rw (k.at_r, h))
      (fit3 g up cs F c k.span (omega arith) (omega arith) g (omega arith) (omega arith))
      (fit3 g up cs F c k.span (omega arith) (omega arith) c.r (omega arith) (omega arith))
  by_record g down cs σ so (loop_l c) e (h, k) F =
      hub_case g down cs σ so c.e₂ c.r c.m (rw e) (omega arith) (omega arith) (rw (k.at_r, h)) (rw (k.at_m, h))
      (fit3 g down cs F c k.span (omega arith) (omega arith) c.r (omega arith) (omega arith))
      (fit3 g down cs F c k.span (omega arith) (omega arith) c.m (omega arith) (omega arith))
  by_record g up cs σ so (loop_l c) e (h, k) F =
      arm_case g up cs σ so c.e₂ false c.m c.r c.m (rw e) (omega arith) (rw k.at_m) (sym h)
      (fit3 g up cs F c k.span (omega arith) (omega arith) c.m (omega arith) (omega arith))
  by_record g down cs σ so (until_l c) e (h, k) F =
      arm_case g down cs σ so c.e₁ false c.l c.l c.r (rw e) (omega arith) (rw k.at_l) (sym h)
      (fit3 g down cs F c k.span (omega arith) (omega arith) c.l (omega arith) (omega arith))
  by_record g up cs σ so (until_l c) e (h, k) F =
      arm_case g up cs σ so c.e₂ true c.m c.r c.m (rw e) (omega arith) (rw k.at_m) (sym h)
      (fit3 g up cs F c k.span (omega arith) (omega arith) c.m (omega arith) (omega arith))
  by_record g d cs σ so (call_l q) e (k, o) F =
      let n = o.near F.q (lo_met g d cs F) (hi_met g d cs F) in
      enter_case g d cs σ so q d (rw e) (gate_pos q k d) (gate_back q k d) (rw e)
      (λ h. fit_gate q k (met g d ∷ cs) (by_call e n.0 n.1 F.good) h d)
  by_record g d cs σ so (uncall_l q) e (k, o) F =
      let n = o.near F.q (lo_met g d cs F) (hi_met g d cs F) in
      enter_case g d cs σ so q (opp d) (rw e) (gate_pos q k (opp d)) (gate_back q k (opp d)) (rw (e, opp_opp))
      (λ h. fit_gate q k (met g d ∷ cs) (by_uncall e n.0 n.1 F.good) h (opp d))

  pub undone : Wf τ P → (s : Cut) → Sits P s → (σ : Store) → Sized τ σ → Undone s σ (cstep τ P s σ)
  undone w s F σ so = by_record s.g s.d s.cs σ so (P.at (met s.g s.d)) refl (w.here (met s.g s.d)) F
