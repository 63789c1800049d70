-- A place is a cut seen through the document's labels and frames; the step on places is the step on cuts.
use Prim.Native.Nat.{ℕ, ◌+◌, ◌≤◌, ◌<◌}
use mathlib.Core.Path.{◌≡◌, refl, ap, ap₂, sym, ◌∙◌}
use mathlib.Core.Bool.{Bool, true, false, not, cond, beq as same}
use mathlib.Core.List.{List, [], ◌∷◌, ◌++◌}
use lib.ListN.{length}
use lib.Dec.{ltb, eqb}
use native.Mathlib.Omega.{arith}
use borrow.Author.Tests.{ltb-true}
use Rattle.records.specs.Records.{kind}
use Rattle.order.specs.Trees.{Tree}
use Rattle.moves.specs.Labels.{at}
use Rattle.moves.specs.Edges.{Frame, in_then, in_else, in_do, in_loop, called, frame_kind}
use Rattle.moves.specs.Places.{Dir, down, up, opp, Place, calls, gate}
use Rattle.moves.specs.Stores.{Answer, ok, no, bind, Store, too_deep}
use Rattle.moves.specs.Step.{after, again, inside, must, step}
use Rattle.moves.specs.Step as does
use Rattle.moves.proofs.Linked.{Con, Rec, call_l, uncall_l, Prog, forget, side, gate_l}
use Rattle.moves.proofs.Cuts.{Cut, met, gap, leave, enter', return', port, through, cstep, Span, SimpleOk, ProcOk, Wf, Good, in_main, by_call, by_uncall, Sits}
use Rattle.moves.proofs.Loop.{met_gap, pos1, gate_pos, fit, fit1, fit3}
use Rattle.moves.proofs.Rows.{prog}
use Rattle.moves.proofs.Links.{at_is}
use Rattle.moves.proofs.Acts.{act, perform, step_is}
use Rattle.moves.proofs.Gaps.{tip}
use Rattle.moves.proofs.Follow.{ahead, ahead_gap, gate_is}

abbrev pub stack : Prog → List ℕ → List Frame
stack P [] = []
stack P (c ∷ cs) = called c ∷ (P.encl c ++ stack P cs)

abbrev pub view : Prog → Cut → Place
view P s = record { a = tip P s.g (opp s.d); b = tip P s.g s.d; d = s.d; frames = P.encl s.g ++ stack P s.cs }

unfoldable pub seen : Prog → Answer (Cut × Store) → Answer (Place × Store)
seen P (ok t) = ok (view P t.0, t.1)
seen P (no n) = no n

-- ---- frames of a cut
pub calls_append : (F G : List Frame) → calls (F ++ G) ≡ calls F + calls G
calls_append [] G = omega arith
calls_append (in_then l ∷ F) G = calls_append F G
calls_append (in_else l ∷ F) G = calls_append F G
calls_append (in_do l ∷ F) G = calls_append F G
calls_append (in_loop l ∷ F) G = calls_append F G
calls_append (called l ∷ F) G = omega (arith, calls_append F G)

-- The frames down to the first call.
abbrev pub inner : List Frame → List Frame
inner [] = []
inner (f ∷ F) = cond (eqb (frame_kind f) 4) [] (f ∷ inner F)

pub stack_outside : (P : Prog) (cs : List ℕ) → inside [] (stack P cs) ≡ true
stack_outside P [] = refl
stack_outside P (c ∷ cs) = refl

pub inner_stack : (P : Prog) (F : List Frame) (cs : List ℕ) → calls F ≡ 0 → inner (F ++ stack P cs) ≡ F
inner_stack P [] [] h = refl
inner_stack P [] (c ∷ cs) h = refl
inner_stack P (in_then l ∷ F) cs h = ap (λ k. in_then l ∷ k) (inner_stack P F cs h)
inner_stack P (in_else l ∷ F) cs h = ap (λ k. in_else l ∷ k) (inner_stack P F cs h)
inner_stack P (in_do l ∷ F) cs h = ap (λ k. in_do l ∷ k) (inner_stack P F cs h)
inner_stack P (in_loop l ∷ F) cs h = ap (λ k. in_loop l ∷ k) (inner_stack P F cs h)
inner_stack P (called l ∷ F) cs h = absurd (let z : ⊥ = omega arith in z)

-- The frame on top is no part of this loop when one comes from outside.
pub fresh_stack : (P : Prog) (i : ℕ) (F : List Frame) (cs : List ℕ) → again i F ≡ false → again i (F ++ stack P cs) ≡ false
fresh_stack P i [] [] h = refl
fresh_stack P i [] (c ∷ cs) h = refl
fresh_stack P i (f ∷ F) cs h = h

-- ---- an answer through what follows it
module _ (P : Prog) where
  pub must_sim : (r : Answer Bool) (w : Bool) (p : Place) (s : Cut) (σ : Store) → p ≡ view P s
      → bind r (λ v. must (same v w) (p, σ)) ≡ seen P (bind r (λ v. must (same v w) (s, σ)))
  unfolding bind seen
  must_sim (ok true) true p s σ h = ap (λ p. ok (p, σ)) h
  must_sim (ok true) false p s σ h = refl
  must_sim (ok false) true p s σ h = refl
  must_sim (ok false) false p s σ h = ap (λ p. ok (p, σ)) h
  must_sim (no n) w p s σ h = refl

  pub opens_sim : (r : Answer Bool) (k : Bool) (p q : Place) (s : Cut) (σ : Store) → cond k p q ≡ view P s
      → bind r (λ v. cond k (must (not v) (p, σ)) (must v (q, σ))) ≡ seen P (bind r (λ v. must (same v (not k)) (s, σ)))
  unfolding bind seen
  opens_sim (ok true) true p q s σ h = refl
  opens_sim (ok true) false p q s σ h = ap (λ p. ok (p, σ)) h
  opens_sim (ok false) true p q s σ h = ap (λ p. ok (p, σ)) h
  opens_sim (ok false) false p q s σ h = refl
  opens_sim (no n) k p q s σ h = refl

  pub either_sim : (r : Answer Bool) (G H : List Frame) (put : List Frame → Place) (t f : ℕ) (d : Dir) (cs : List ℕ) (σ : Store)
      → put G ≡ view P (leave t d cs) → put H ≡ view P (leave f d cs)
      → bind r (λ v. ok (put (cond v G H), σ)) ≡ seen P (bind r (λ v. ok (leave (cond v t f) d cs, σ)))
  unfolding bind seen
  either_sim (ok true) G H put t f d cs σ h k = ap (λ p. ok (p, σ)) h
  either_sim (ok false) G H put t f d cs σ h k = ap (λ p. ok (p, σ)) k
  either_sim (no n) G H put t f d cs σ h k = refl

  pub choose_sim : (r : Answer Bool) (i : ℕ) (F : List Frame) (put : List Frame → Place) (t f : ℕ) (d : Dir) (cs : List ℕ) (σ : Store)
      → put (in_then i ∷ F) ≡ view P (leave t d cs) → put (in_else i ∷ F) ≡ view P (leave f d cs)
      → bind r (λ v. ok (put (cond v (in_then i) (in_else i) ∷ F), σ)) ≡ seen P (bind r (λ v. ok (leave (cond v t f) d cs, σ)))
  unfolding bind seen
  choose_sim (ok true) i F put t f d cs σ h k = ap (λ p. ok (p, σ)) h
  choose_sim (ok false) i F put t f d cs σ h k = ap (λ p. ok (p, σ)) k
  choose_sim (no n) i F put t f d cs σ h k = refl

  pub assign_sim : (r : Answer Store) (p : Place) (s : Cut) → p ≡ view P s → bind r (λ σ. ok (p, σ)) ≡ seen P (bind r (λ σ. ok (s, σ)))
  unfolding bind seen
  assign_sim (ok σ) p s h = ap (λ p. ok (p, σ)) h
  assign_sim (no n) p s h = refl

pub side_call : (q x : ℕ) (d : Dir) → side (call_l q) x d ≡ x
side_call q x down = refl
side_call q x up = refl

pub side_uncall : (q x : ℕ) (d : Dir) → side (uncall_l q) x d ≡ x
side_uncall q x down = refl
side_uncall q x up = refl

module _ (τ : Tree) (w : Wf τ (prog τ)) where
  abbrev P : Prog
  P = prog τ

  pub calls_stack : (g : ℕ) (cs : List ℕ) → calls (P.encl g ++ stack P cs) ≡ length cs
  calls_stack g [] = calls_append (P.encl g) [] ∙ rw (w.plain g)
  calls_stack g (c ∷ cs) = calls_append (P.encl g) _ ∙ omega (arith, w.plain g, calls_stack c cs)

  -- Where record y is left, and y's own label or its partner's was executed.
  pub arrive : (b y : ℕ) (d : Dir) (cs : List ℕ) (fs : List Frame) → Sits P (leave y d cs) → 0 < y → side (P.at y) y (opp d) ≡ b
      → fs ≡ P.encl (gap y d) ++ stack P cs → after τ b d fs ≡ view P (leave y d cs)
  unfolding after
  arrive b y d cs fs F h e k =
      let g = gap y d in
      let a : b ≡ tip P g (opp d) = sym e ∙ ap (λ x. side (P.at x) x (opp d)) (sym (met_gap y d h)) in
      let n : ahead τ b d fs ≡ tip P g d = ap₂ (λ x F. ahead τ x d F) a k ∙ ahead_gap τ w F.q g d (stack P cs) (stack_outside P cs) F.lo F.hi in
      λ j. record { a = a j; b = n j; d = d; frames = k j }

  -- The same at a record of a construct, of which another was met.
  pub arrive3 : (g : ℕ) (d : Dir) (cs : List ℕ) → Sits P (record { g = g; d = d; cs = cs }) → (c : Con) → Span P c → c.l ≤ met g d → met g d ≤ c.r
      → (b y : ℕ) (fs : List Frame) → c.l ≤ y → y ≤ c.r → side (P.at y) y (opp d) ≡ b → fs ≡ P.encl (gap y d) ++ stack P cs
      → after τ b d fs ≡ view P (leave y d cs)
  arrive3 g d cs F c k lo hi b y fs a z e h = arrive b y d cs fs (fit3 τ P g d cs F c k lo hi y a z) (let p = k.pos in omega arith) e h

  pub arrive1 : (g : ℕ) (d : Dir) (cs : List ℕ) (F : Sits P (record { g = g; d = d; cs = cs })) (k : SimpleOk P (met g d)) → side (P.at (met g d)) (met g d) (opp d) ≡ met g d
      → P.encl g ≡ P.encl (gap (met g d) d) → after τ (met g d) d (P.encl g ++ stack P cs) ≡ view P (leave (met g d) d cs)
  arrive1 g d cs F k e h = arrive (met g d) (met g d) d cs _ (fit1 τ P g d cs F k) (pos1 τ P g d cs F k) e (ap (λ x. x ++ stack P cs) h)

  -- The place before the cut's record, with the label b that it shows.
  abbrev pub spot : ℕ → Dir → List ℕ → ℕ → Place
  spot g d cs b = record { a = tip P g (opp d); b = b; d = d; frames = P.encl g ++ stack P cs }

  pub sim_with : (g : ℕ) (d : Dir) (cs : List ℕ) (σ : Store) (b : ℕ) {ρ ρb : Rec} → P.at (met g d) ≡ ρ → side ρ (met g d) d ≡ b → P.at b ≡ ρb
      → perform τ (act (forget ρb) d) (spot g d cs b) σ ≡ seen P (through τ P (port ρ (met g d) d) (met g d) d cs σ)
      → step τ (view P (record { g = g; d = d; cs = cs })) σ ≡ seen P (cstep τ P (record { g = g; d = d; cs = cs }) σ)
  unfolding cstep
  sim_with g d cs σ b {ρ} {ρb} e tb eb h =
      step_is τ (view P (record { g = g; d = d; cs = cs })) σ
      ∙ (ap (λ x. perform τ (act (at τ x) d) (spot g d cs x) σ) (rw e tb)
      ∙ (ap (λ r. perform τ (act r d) (spot g d cs b) σ) (at_is τ b ∙ ap forget eb)
      ∙ (h ∙ ap (λ k. seen P (through τ P (port k (met g d) d) (met g d) d cs σ)) (sym e))))

  pub encl_gap : (c : ℕ) (d : Dir) → SimpleOk P c → P.encl c ≡ P.encl (gap c d)
  encl_gap c down k = refl
  encl_gap c up k = k.en

  pub encl_met : (g : ℕ) (d : Dir) → SimpleOk P (met g d) → P.encl (met g d) ≡ P.encl g
  encl_met g down k = k.en
  encl_met g up k = refl

  pub encl_left : (g : ℕ) (d : Dir) → SimpleOk P (met g d) → P.encl g ≡ P.encl (gap (met g d) d)
  encl_left g d k = sym (encl_met g d k) ∙ encl_gap (met g d) d k

  at_call : (c q : ℕ) → P.at c ≡ call_l q → SimpleOk P c
  at_call c q e = (rw e at (w.here c)).1

  at_uncall : (c q : ℕ) → P.at c ≡ uncall_l q → SimpleOk P c
  at_uncall c q e = (rw e at (w.here c)).1

  pub ret_sim : (x : ℕ) (p : Place) (q : ℕ) (cs : List ℕ) (σ : Store) → Good P q cs → length cs ≤ 64
      → does.returns τ p σ (stack P cs) ≡ seen P (through τ P return' x p.d cs σ)
  unfolding through seen kind
  ret_sim x p q cs σ in_main n = refl
  ret_sim x p q cs σ (by_call {q' = q'} {c = c} {cs = cs'} ac lo hi o) n =
      let d = p.d in
      let r : cond (eqb (kind (at τ c)) 12) (opp d) d ≡ d = rw (at_is τ c, ac) in
      ap (λ p. ok (p, σ)) (rw (r, ac) (arrive c c d cs' _ (fit τ P q' cs' o (omega arith) c d lo hi) (omega arith) (rw ac (side_call q c (opp d)))
      (ap (λ k. k ++ stack P cs') (encl_gap c d (at_call c q ac)))))
  ret_sim x p q cs σ (by_uncall {q' = q'} {c = c} {cs = cs'} ac lo hi o) n =
      let d = p.d in let d' = opp d in
      let r : cond (eqb (kind (at τ c)) 12) (opp d) d ≡ opp d = rw (at_is τ c, ac) in
      ap (λ p. ok (p, σ)) (rw (r, ac) (arrive c c d' cs' _ (fit τ P q' cs' o (omega arith) c d' lo hi) (omega arith) (rw ac (side_uncall q c (opp d')))
      (ap (λ k. k ++ stack P cs') (encl_gap c d' (at_uncall c q ac)))))

  pub gate_side : (q : ℕ) (d : Dir) → ProcOk P q → side (P.at (gate_l P q d)) (gate_l P q d) (opp d) ≡ gate_l P q d
  gate_side q down k = rw k.at_first
  gate_side q up k = rw k.at_last

  pub gate_encl : (q : ℕ) (d : Dir) → ProcOk P q → P.encl (gap (gate_l P q d) d) ≡ []
  gate_encl q down k = k.en_first
  gate_encl q up k = k.en_last

  -- A procedure is entered.
  pub enter_is : (q : ℕ) (d : Dir) → ProcOk P q → (cs : List ℕ) → Sits P (leave (gate_l P q d) d cs) → after τ (gate τ q d) d (stack P cs) ≡ view P (leave (gate_l P q d) d cs)
  enter_is q d k cs F =
      ap (λ x. after τ x d (stack P cs)) (gate_is τ w q d k)
      ∙ arrive (gate_l P q d) (gate_l P q d) d cs _ F (gate_pos τ P q k d) (gate_side q d k) (rw (gate_encl q d k))

  pub enter_sim : (g : ℕ) (d : Dir) (cs : List ℕ) (σ : Store) (q : ℕ) (d' : Dir) → ProcOk P q → SimpleOk P (met g d)
      → (length cs < 64 → Sits P (leave (gate_l P q d') d' (met g d ∷ cs)))
      → does.enters τ (spot g d cs (met g d)) σ q d' ≡ seen P (through τ P (enter' q d') (met g d) d cs σ)
  unfolding through seen
  enter_sim g d cs σ q d' k o f = rw (calls_stack g cs) (go' (ltb (length cs) 64) refl)
    where
      go' : (b : Bool) → ltb (length cs) 64 ≡ b
          → cond b (ok (after τ (gate τ q d') d' (called (met g d) ∷ (P.encl g ++ stack P cs)), σ)) (no too_deep)
          ≡ seen P (cond b (ok (leave (gate_l P q d') d' (met g d ∷ cs), σ)) (no too_deep))
      go' true h =
          ap (λ p. ok (p, σ)) (ap (λ x. after τ (gate τ q d') d' (called (met g d) ∷ (x ++ stack P cs))) (sym (encl_met g d o))
          ∙ enter_is q d' k (met g d ∷ cs) (f (ltb-true _ _ h)))
      go' false h = refl
