-- The places that fit, in document 01's words, and the cuts that sit in the program match one to one.
use Prim.Native.Nat.{ℕ, suc, ◌<◌, pred}
use mathlib.Core.Path.{◌≡◌, refl, ap, ap₂, sym, ◌∙◌, subst, subst⁻¹}
use mathlib.Core.List.{List, [], ◌∷◌, ◌++◌, Memᴰ}
use mathlib.Core.Logic.{◌⊎◌, inl, inr}
use native.Mathlib.Omega.{arith}
use Rattle.records.specs.Records.{call, uncall}
use Rattle.order.specs.Trees.{Tree}
use Rattle.moves.specs.Labels.{at}
use Rattle.moves.specs.Edges.{Frame, in_then, in_else, in_do, in_loop, called, edge, edges}
use Rattle.moves.specs.Places.{Dir, down, up, opp, Place, near, far, calls, Outer, in_main, entered, Fits}
use Rattle.moves.specs.Step.{after}
use Rattle.moves.proofs.Linked.{Rec, name_l, begin_l, end_l, set_l, skip_l, if_l, else_l, fi_l, from_l, loop_l, until_l, call_l, uncall_l, Prog, forget, onto}
use Rattle.moves.proofs.Cuts.{Cut, SimpleOk, Local, Wf, Good, in_main as no-calls, by_call, by_uncall, Sits}
use Rattle.moves.proofs.Rows.{prog}
use Rattle.moves.proofs.Links.{at_is}
use Rattle.moves.proofs.Gaps.{tip, gap_at, on_edge, edge_on}
use Rattle.moves.proofs.Follow.{one_gap, ahead, ahead_gap}
use Rattle.moves.proofs.View.{stack, view, inner, stack_outside, inner_stack, calls_stack}

-- A record that is a CALL or an UNCALL without its links is one with them.
forget_call : (q : ℕ) (ρ : Rec) → (forget ρ ≡ call q → ρ ≡ call_l q) × (forget ρ ≡ uncall q → ρ ≡ uncall_l q)
forget_call q (name_l v ls) = (λ e. cc, λ e. cc)
forget_call q (begin_l p) = (λ e. cc, λ e. cc)
forget_call q (end_l p) = (λ e. cc, λ e. cc)
forget_call q (set_l o t ε) = (λ e. cc, λ e. cc)
forget_call q skip_l = (λ e. cc, λ e. cc)
forget_call q (if_l c) = (λ e. cc, λ e. cc)
forget_call q (else_l c) = (λ e. cc, λ e. cc)
forget_call q (fi_l c) = (λ e. cc, λ e. cc)
forget_call q (from_l c) = (λ e. cc, λ e. cc)
forget_call q (loop_l c) = (λ e. cc, λ e. cc)
forget_call q (until_l c) = (λ e. cc, λ e. cc)
forget_call q (call_l p) = (λ e. cc, λ e. cc)
forget_call q (uncall_l p) = (λ e. cc, λ e. cc)

-- The labels of the calls among the frames.
abbrev calls_in : List Frame → List ℕ
calls_in [] = []
calls_in (in_then l ∷ F) = calls_in F
calls_in (in_else l ∷ F) = calls_in F
calls_in (in_do l ∷ F) = calls_in F
calls_in (in_loop l ∷ F) = calls_in F
calls_in (called l ∷ F) = l ∷ calls_in F

-- A place that is a cut, seen through labels and frames.
pub record Placed (τ : Tree) (p : Place) : Type 0 where
  pub cut : Cut
  pub sits : Sits (prog τ) cut
  pub is : p ≡ view (prog τ) cut

module _ (τ : Tree) (P : Prog) where
  -- An edge that ends at a calling record comes from the gap before it.
  site : (g q c : ℕ) (ρ : Rec) → P.at (suc g) ≡ ρ → Local τ P ρ (suc g) → onto ρ (suc g) ≡ c → (P.at c ≡ call_l q) ⊎ (P.at c ≡ uncall_l q) → suc g ≡ c
  site g q c (name_l v ls) e l h k = h
  site g q c (begin_l q') e l h k = h
  site g q c (end_l q') e l h k = h
  site g q c (set_l o t ε) e l h k = h
  site g q c skip_l e l h k = h
  site g q c (if_l o) e l h k = h
  site g q c (else_l o) e (x, l) h (inl k) = cc
  site g q c (else_l o) e (x, l) h (inr k) = cc
  site g q c (fi_l o) e l h k = h
  site g q c (from_l o) e l h k = h
  site g q c (loop_l o) e (x, l) h (inl k) = cc
  site g q c (loop_l o) e (x, l) h (inr k) = cc
  site g q c (until_l o) e (x, l) h (inl k) = cc
  site g q c (until_l o) e (x, l) h (inr k) = cc
  site g q c (call_l q') e l h k = h
  site g q c (uncall_l q') e l h k = h

  simple_at : (c q : ℕ) → Wf τ P → (P.at c ≡ call_l q) ⊎ (P.at c ≡ uncall_l q) → SimpleOk P c
  simple_at c q w (inl e) = (rw e at (w.here c)).1
  simple_at c q w (inr e) = (rw e at (w.here c)).1

  good_at : {q q' c : ℕ} {cs : List ℕ} → (P.at c ≡ call_l q) ⊎ (P.at c ≡ uncall_l q) → P.first q' < c → c < P.last q' → Good P q' cs → Good P q (c ∷ cs)
  good_at (inl e) a b g = by_call e a b g
  good_at (inr e) a b g = by_uncall e a b g

module _ (τ : Tree) (w : Wf τ (prog τ)) where
  abbrev P : Prog
  P = prog τ

  linked : (c q : ℕ) → (at τ c ≡ call q) ⊎ (at τ c ≡ uncall q) → (P.at c ≡ call_l q) ⊎ (P.at c ≡ uncall_l q)
  linked c q (inl e) = inl ((forget_call q (P.at c)).0 (sym (at_is τ c) ∙ e))
  linked c q (inr e) = inr ((forget_call q (P.at c)).1 (sym (at_is τ c) ∙ e))

  -- Frames outside a procedure, from the calls and back.
  calls_of_lem : {q : ℕ} {G : List Frame} → Outer τ q G → (cs : List ℕ) × Good P q cs × (G ≡ stack P cs)
  calls_of_lem in_main = ([], no-calls, refl)
  calls_of_lem (entered {q = q} {e = e} h k o) =
      let r = calls_of_lem o in
      let t = on_edge τ e h in
      let l = linked e.b q k in
      let b = ap (λ x. x.b) t.is in
      let z = site τ P t.g q e.b _ refl (w.here (suc t.g)) (sym b) l in
      let s = simple_at τ P e.b q w l in
      let n = s.near e.proc (omega (arith, t.lo, z)) (omega (arith, t.hi, z)) in
      let y : P.encl e.b ≡ e.within = s.en ∙ (ap (λ x. P.encl (pred x)) (sym z) ∙ ap (λ x. x.within) (sym t.is)) in
      (e.b ∷ r.0, good_at τ P l n.0 n.1 r.1, ap₂ (λ x g. called e.b ∷ (x ++ g)) (sym y) r.2)

  entered_at : (q q' c : ℕ) (G : List Frame) → (P.at c ≡ call_l q) ⊎ (P.at c ≡ uncall_l q) → (at τ c ≡ call q) ⊎ (at τ c ≡ uncall q)
      → onto (P.at c) c ≡ c → P.first q' < c → c < P.last q' → Outer τ q' G → Outer τ q (called c ∷ (P.encl c ++ G))
  entered_at q q' c G k k' h a b o =
      let s = simple_at τ P c q w k in
      let i : suc (pred c) ≡ c = omega arith in
      let z : gap_at P q' (pred c) ≡ edge q' (P.encl c) (tip P (pred c) up) c = ap₂ (λ F b. edge q' F (tip P (pred c) up) b) (sym s.en) (rw i h) in
      entered {e = edge q' (P.encl c) (tip P (pred c) up) c} (subst (λ x. Memᴰ x (edges τ)) z (edge_on τ q' (pred c) (omega arith) (omega arith))) k' o

  outer_of : {q : ℕ} {cs : List ℕ} → Good P q cs → Outer τ q (stack P cs)
  outer_of no-calls = in_main
  outer_of (by_call {q = q} {q' = q'} {c = c} e a b g) = entered_at q q' c _ (inl e) (inl (at_is τ c ∙ ap forget e)) (rw e) a b (outer_of g)
  outer_of (by_uncall {q = q} {q' = q'} {c = c} e a b g) = entered_at q q' c _ (inr e) (inr (at_is τ c ∙ ap forget e)) (rw e) a b (outer_of g)

  near_is : (q g : ℕ) (d : Dir) → near (gap_at P q g) d ≡ tip P g (opp d)
  near_is q g down = refl
  near_is q g up = refl

  far_is : (q g : ℕ) (d : Dir) → far (gap_at P q g) d ≡ tip P g d
  far_is q g down = refl
  far_is q g up = refl

  -- Every cut that sits in the program is a place that fits.
  pub cut_fits : (s : Cut) → Sits P s → Fits τ (view P s)
  cut_fits s F = record {
    edge = gap_at P F.q s.g;
    outside = stack P s.cs;
    on = edge_on τ F.q s.g F.lo F.hi;
    from = near_is F.q s.g s.d;
    to = far_is F.q s.g s.d;
    framed = refl;
    outer = outer_of F.good;
    few = omega (arith, calls_stack τ w s.g s.cs, F.few);
  }

  pub placed_fits : (p : Place) → Placed τ p → Fits τ p
  placed_fits p f = subst⁻¹ (Fits τ) f.is (cut_fits f.cut f.sits)

  -- Every place that fits is a cut that sits in the program.
  pub fits_placed : (p : Place) → Fits τ p → Placed τ p
  fits_placed p f =
      let t = on_edge τ f.edge f.on in
      let r = calls_of_lem f.outer in
      let a : p.a ≡ tip P t.g (opp p.d) = sym f.from ∙ (ap (λ x. near x p.d) t.is ∙ near_is f.edge.proc t.g p.d) in
      let b : p.b ≡ tip P t.g p.d = sym f.to ∙ (ap (λ x. far x p.d) t.is ∙ far_is f.edge.proc t.g p.d) in
      let z : p.frames ≡ P.encl t.g ++ stack P r.0 = f.framed ∙ ap₂ ◌++◌ (ap (λ x. x.within) t.is) r.2 in
      record {
        cut = record { g = t.g; d = p.d; cs = r.0 };
        sits = record { q = f.edge.proc; lo = t.lo; hi = t.hi; good = r.1; few = omega (arith, calls_stack τ w t.g r.0, ap calls z, f.few) };
        is = λ i. record { a = a i; b = b i; d = p.d; frames = z i };
      }

  -- What follows a on the edge of a fitting place is b, and nothing else: the definition finds it, and no other label could stand there.
  pub follows : (p : Place) → Fits τ p → after τ p.a p.d p.frames ≡ p
  unfolding after
  follows p f =
      let k = fits_placed p f in let s = k.cut in
      let b : ahead τ (tip P s.g (opp s.d)) s.d (P.encl s.g ++ stack P s.cs) ≡ tip P s.g s.d =
      ahead_gap τ w k.sits.q s.g s.d (stack P s.cs) (stack_outside P s.cs) k.sits.lo k.sits.hi in
      subst⁻¹ (λ p. after τ p.a p.d p.frames ≡ p) k.is (λ i. record { a = (view P s).a; b = b i; d = s.d; frames = (view P s).frames })

  pub follows_unique : (p p' : Place) → Fits τ p → Fits τ p' → p.a ≡ p'.a → p.d ≡ p'.d → p.frames ≡ p'.frames → p ≡ p'
  follows_unique p p' f f' ea ed ef = sym (follows p f) ∙ ((λ i. after τ (ea i) (ed i) (ef i)) ∙ follows p' f')

  -- Two cuts that are seen as one place are one cut.
  calls_in_append : (F G : List Frame) → calls F ≡ 0 → calls_in (F ++ G) ≡ calls_in G
  calls_in_append [] G h = refl
  calls_in_append (in_then l ∷ F) G h = calls_in_append F G h
  calls_in_append (in_else l ∷ F) G h = calls_in_append F G h
  calls_in_append (in_do l ∷ F) G h = calls_in_append F G h
  calls_in_append (in_loop l ∷ F) G h = calls_in_append F G h
  calls_in_append (called l ∷ F) G h = absurd (let z : ⊥ = omega arith in z)

  calls_in_stack : (cs : List ℕ) → calls_in (stack P cs) ≡ cs
  calls_in_stack [] = refl
  calls_in_stack (c ∷ cs) = ap (λ x. c ∷ x) (calls_in_append (P.encl c) _ (w.plain c) ∙ calls_in_stack cs)

  cut_calls : (s : Cut) → calls_in (view P s).frames ≡ s.cs
  cut_calls s = calls_in_append (P.encl s.g) _ (w.plain s.g) ∙ calls_in_stack s.cs

  cut_encl : (s : Cut) → inner (view P s).frames ≡ P.encl s.g
  cut_encl s = inner_stack P (P.encl s.g) s.cs (w.plain s.g)

  pub one_cut : (s s' : Cut) → view P s ≡ view P s' → s ≡ s'
  one_cut s s' e =
      let ed : s.d ≡ s'.d = ap (λ p. p.d) e in
      let ea : tip P s.g (opp s.d) ≡ tip P s'.g (opp s.d) = ap (λ p. p.a) e ∙ ap (λ d. tip P s'.g (opp d)) (sym ed) in
      let eg : s.g ≡ s'.g = one_gap τ P w s.d s.g s'.g ea (sym (cut_encl s) ∙ (ap (λ p. inner p.frames) e ∙ cut_encl s')) in
      let ec : s.cs ≡ s'.cs = sym (cut_calls s) ∙ (ap (λ p. calls_in p.frames) e ∙ cut_calls s') in
      λ i. record { g = eg i; d = ed i; cs = ec i }
