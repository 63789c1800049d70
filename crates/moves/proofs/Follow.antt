-- What follows on an edge: a label, a direction and the enclosing constructs tell the gap, so at most one label follows.
use Prim.Native.Nat.{ℕ, zero, suc, ◌≤◌, ◌<◌, pred}
use mathlib.Core.Path.{◌≡◌, refl, ap, ap₂, sym, ◌∙◌, subst}
use mathlib.Core.Bool.{Bool, true, false, cond, ◌&&◌}
use mathlib.Core.List.Memᴰ
use mathlib.Core.List.{List, [], ◌∷◌, ◌++◌, Memᴰ}
use lib.Dec.{eqb}
use native.Mathlib.Omega.{arith}
use borrow.Author.Tests.{eq-eqb, eqb-true, eqb-false}
use Rattle.expr.proofs.Layer.{and_true}
use Rattle.records.specs.Records.{kind}
use Rattle.order.specs.Trees.{Tree}
use Rattle.moves.specs.Labels.{at}
use Rattle.moves.specs.Edges.{Frame, in_then, in_else, in_do, in_loop, called, frame_kind, frame_label, Edge, edges}
use Rattle.moves.specs.Places.{Dir, down, up, going, opp, near, far, find, top, head, calls, gate}
use Rattle.moves.specs.Step.{inside}
use Rattle.moves.proofs.Linked.{Con, Rec, name_l, begin_l, end_l, set_l, skip_l, if_l, else_l, fi_l, from_l, loop_l, until_l, call_l, uncall_l, Prog, forget, onto, off, gate_l}
use Rattle.moves.proofs.Cuts.{CondOk, LoopOk, ProcOk, Local, Wf}
use Rattle.moves.proofs.Rows.{prog}
use Rattle.moves.proofs.Links.{at_is}
use Rattle.moves.proofs.Gaps.{tip, gap_at, on_edge, edge_on}

-- ---- frames are told by their kinds and labels
frame : ℕ → ℕ → Frame
frame zero l = in_then l
frame (suc zero) l = in_else l
frame (suc (suc zero)) l = in_do l
frame (suc (suc (suc zero))) l = in_loop l
frame (suc (suc (suc (suc k)))) l = called l

frame_is : (f : Frame) → frame (frame_kind f) (frame_label f) ≡ f
unfolding frame
frame_is (in_then l) = refl
frame_is (in_else l) = refl
frame_is (in_do l) = refl
frame_is (in_loop l) = refl
frame_is (called l) = refl

same_frame : (f g : Frame) → eqb (frame_kind f) (frame_kind g) ≡ true → eqb (frame_label f) (frame_label g) ≡ true → f ≡ g
same_frame f g h k = sym (frame_is f) ∙ (ap₂ frame (eqb-true _ _ h) (eqb-true _ _ k) ∙ frame_is g)

-- ---- the frames down to the first call
pub clash : {X : Type 0} {b : Bool} → b ≡ true → b ≡ false → X
clash h k = absurd (let z : ◌≡◌ {A = ℕ} 0 1 = cc in let y : ⊥ = omega arith in y)

no_call : (f : Frame) (F : List Frame) → calls (f ∷ F) ≡ 0 → (eqb (frame_kind f) 4 ≡ false) × (calls F ≡ 0)
no_call f F h = go' (eqb (frame_kind f) 4) h
  where
    go' : (b : Bool) → cond b (suc (calls F)) (calls F) ≡ 0 → (b ≡ false) × (calls F ≡ 0)
    go' true h = absurd (let z : ⊥ = omega arith in z)
    go' false h = (refl, h)

pub inside_is : (F S : List Frame) → inside [] S ≡ true → inside F (F ++ S) ≡ true
inside_is [] S h = h
inside_is (f ∷ F) S h = rw (eq-eqb (frame_kind f) (frame_kind f) refl, eq-eqb (frame_label f) (frame_label f) refl) (inside_is F S h)

pub inside_only : (G F S : List Frame) → inside [] S ≡ true → calls G ≡ 0 → calls F ≡ 0 → inside G (F ++ S) ≡ true → G ≡ F
inside_only [] [] S s g h k = refl
inside_only [] (f ∷ F) S s g h k = clash k (no_call f F h).0
inside_only (x ∷ G) [] [] s g h k = clash {b = false} k refl
inside_only (x ∷ G) [] (y ∷ S) s g h k =
    let e = eqb-true (frame_kind x) (frame_kind y) (and_true _ _ k).0 in
    clash (ap (λ n. eqb n 4) e ∙ s) (no_call x G g).0
inside_only (x ∷ G) (f ∷ F) S s g h k =
    let y = and_true _ _ k in let z = and_true _ _ y.1 in
    ap₂ ◌∷◌ (same_frame x f y.0 z.0) (inside_only G F S s (no_call x G g).1 (no_call f F h).1 z.1)

-- ---- what is found among the edges: what is the same of every edge that is looked for is so of the one that is found
pub find_is : {X : Type 0} (f : Edge → Bool) (x : Edge → X) (es : List Edge) (e₀ : Edge) → Memᴰ e₀ es → f e₀ ≡ true
    → ((e : Edge) → Memᴰ e es → f e ≡ true → x e ≡ x e₀) → x (find f es) ≡ x e₀
unfolding find
find_is f x [] e₀ m h u = absurd (Memᴰ.not-nil m)
find_is {X} f x (e ∷ es) e₀ m h u = go' (f e) refl m (λ k. find_is f x es e₀ k h (λ e k. u e (Memᴰ.tail k)))
  where
    go' : (b : Bool) → f e ≡ b → Memᴰ e₀ (e ∷ es) → (Memᴰ e₀ es → x (find f es) ≡ x e₀) → x (cond b e (find f es)) ≡ x e₀
    go' true k m ih = u e (Memᴰ.head refl) k
    go' false k (Memᴰ.tail m) ih = ih m
    go' false k (Memᴰ.head q) ih = clash h (ap f q ∙ k)

-- ---- how a label stands at the upper end and at the lower end of a gap
data Upper (P : Prog) (g a : ℕ) : Type 0 where
  plain : a ≡ g → Upper P g a
  of_else : (c : Con) → CondOk P c → g ≡ c.m → a ≡ c.l → Upper P g a
  of_loop : (c : Con) → LoopOk P c → g ≡ c.m → a ≡ c.r → Upper P g a

data Lower (P : Prog) (g b : ℕ) : Type 0 where
  plain : b ≡ suc g → onto (P.at (suc g)) (suc g) ≡ suc g → Lower P g b
  of_else : (c : Con) → CondOk P c → suc g ≡ c.m → b ≡ c.r → Lower P g b
  of_loop : (c : Con) → LoopOk P c → suc g ≡ c.m → b ≡ c.r → Lower P g b
  of_until : (c : Con) → LoopOk P c → suc g ≡ c.r → b ≡ c.l → Lower P g b

module _ (τ : Tree) (P : Prog) where
  upper_at : (g : ℕ) (ρ : Rec) → P.at g ≡ ρ → Local τ P ρ g → Upper P g (off ρ g)
  upper_at g (name_l v ls) e l = plain refl
  upper_at g (begin_l q) e l = plain refl
  upper_at g (end_l q) e l = plain refl
  upper_at g (set_l o t ε) e l = plain refl
  upper_at g skip_l e l = plain refl
  upper_at g (if_l c) e l = plain refl
  upper_at g (fi_l c) e l = plain refl
  upper_at g (from_l c) e l = plain refl
  upper_at g (call_l q) e l = plain refl
  upper_at g (uncall_l q) e l = plain refl
  upper_at g (until_l c) e l = plain refl
  upper_at g (else_l c) e l = of_else c l.1 l.0 refl
  upper_at g (loop_l c) e l = of_loop c l.1 l.0 refl

  lower_at : (g : ℕ) (ρ : Rec) → P.at (suc g) ≡ ρ → Local τ P ρ (suc g) → Lower P g (onto ρ (suc g))
  lower_at g (name_l v ls) e l = plain refl (rw e)
  lower_at g (begin_l q) e l = plain refl (rw e)
  lower_at g (end_l q) e l = plain refl (rw e)
  lower_at g (set_l o t ε) e l = plain refl (rw e)
  lower_at g skip_l e l = plain refl (rw e)
  lower_at g (if_l c) e l = plain refl (rw e)
  lower_at g (fi_l c) e l = plain refl (rw e)
  lower_at g (from_l c) e l = plain refl (rw e)
  lower_at g (call_l q) e l = plain refl (rw e)
  lower_at g (uncall_l q) e l = plain refl (rw e)
  lower_at g (until_l c) e l = of_until c l.1 l.0 refl
  lower_at g (else_l c) e l = of_else c l.1 l.0 refl
  lower_at g (loop_l c) e l = of_loop c l.1 l.0 refl

  -- Outside a loop one is not in its s2.
  not_again : {X : Type 0} (c : Con) → LoopOk P c → P.encl (pred c.l) ≡ in_loop c.l ∷ P.encl (pred c.l) → X
  not_again c k e =
      let f = k.fresh c.l (omega arith) in let t = eq-eqb c.l c.l refl in
      absurd (let z : ◌≡◌ {A = ℕ} 0 1 = cc in let y : ⊥ = omega arith in y)

  then_else : {X : Type 0} {l : ℕ} {F : List Frame} → in_then l ∷ F ≡ in_else l ∷ F → X
  then_else e = absurd (let z : ◌≡◌ {A = ℕ} 0 1 = cc in let y : ⊥ = omega arith in y)

  one_upper : (g g' a : ℕ) → Upper P g a → Upper P g' a → P.encl g ≡ P.encl g' → g ≡ g'
  one_upper g g' a (plain h) (plain k) e = cc
  one_upper g g' a (plain h) (of_else c k i j) e = then_else {l = c.l} {F = P.encl (pred c.l)} (cc)
  one_upper g g' a (plain h) (of_loop c k i j) e = not_again c k (cc)
  one_upper g g' a (of_else c k i j) (plain h) e = then_else {l = c.l} {F = P.encl (pred c.l)} (cc)
  one_upper g g' a (of_else c k i j) (of_else c' k' i' j') e = cc
  one_upper g g' a (of_else c k i j) (of_loop c' k' i' j') e = cc
  one_upper g g' a (of_loop c k i j) (plain h) e = not_again c k (cc)
  one_upper g g' a (of_loop c k i j) (of_else c' k' i' j') e = cc
  one_upper g g' a (of_loop c k i j) (of_loop c' k' i' j') e = cc

  -- The label of an UNTIL is no record's that an edge comes down to from the record before.
  not_until : {X : Type 0} (g : ℕ) (c : Con) → LoopOk P c → suc g ≡ c.r → onto (P.at (suc g)) (suc g) ≡ suc g → X
  not_until g c k e p = let z : c.l ≡ c.r = cc in absurd (let y : ⊥ = omega arith in y)

  one_lower : (g g' b : ℕ) → Lower P g b → Lower P g' b → P.encl g ≡ P.encl g' → suc g ≡ suc g'
  one_lower g g' b (plain h p) (plain k q) e = cc
  one_lower g g' b (plain h p) (of_else c k i j) e = then_else {l = c.l} {F = P.encl (pred c.l)} (cc)
  one_lower g g' b (plain h p) (of_loop c k i j) e = not_until g c k (cc) p
  one_lower g g' b (plain h p) (of_until c k i j) e = not_again c k (cc)
  one_lower g g' b (of_else c k i j) (plain h p) e = then_else {l = c.l} {F = P.encl (pred c.l)} (cc)
  one_lower g g' b (of_else c k i j) (of_else c' k' i' j') e = cc
  one_lower g g' b (of_else c k i j) (of_loop c' k' i' j') e = cc
  one_lower g g' b (of_else c k i j) (of_until c' k' i' j') e = cc
  one_lower g g' b (of_loop c k i j) (plain h p) e = not_until g' c k (cc) p
  one_lower g g' b (of_loop c k i j) (of_else c' k' i' j') e = cc
  one_lower g g' b (of_loop c k i j) (of_loop c' k' i' j') e = cc
  one_lower g g' b (of_loop c k i j) (of_until c' k' i' j') e = cc
  one_lower g g' b (of_until c k i j) (plain h p) e = not_again c k (cc)
  one_lower g g' b (of_until c k i j) (of_else c' k' i' j') e = cc
  one_lower g g' b (of_until c k i j) (of_loop c' k' i' j') e = cc
  one_lower g g' b (of_until c k i j) (of_until c' k' i' j') e = cc

  -- One label and the constructs around it tell the gap.
  pub one_gap : Wf τ P → (d : Dir) (g g' : ℕ) → tip P g (opp d) ≡ tip P g' (opp d) → P.encl g ≡ P.encl g' → g ≡ g'
  one_gap w down g g' h e =
      one_upper g g' (tip P g up) (upper_at g _ refl (w.here g)) (subst (Upper P g') (sym h) (upper_at g' _ refl (w.here g'))) e
  one_gap w up g g' h e =
      ap pred (one_lower g g' (tip P g down) (lower_at g _ refl (w.here (suc g))) (subst (Lower P g') (sym h) (lower_at g' _ refl (w.here (suc g')))) e)

  -- Every edge that leaves the record of a construct into it has the construct as its innermost.
  if_down : (g x : ℕ) (c : Con) → CondOk P c → x ≡ c.l → Upper P g x → frame_label (top (P.encl g)) ≡ c.l
  if_down g x c k e (plain h) = cc
  if_down g x c k e (of_else c' k' i j) = cc
  if_down g x c k e (of_loop c' k' i j) = cc

  from_down : (g x : ℕ) (c : Con) → LoopOk P c → x ≡ c.l → Upper P g x → frame_label (top (P.encl g)) ≡ c.l
  from_down g x c k e (plain h) = cc
  from_down g x c k e (of_else c' k' i j) = cc
  from_down g x c k e (of_loop c' k' i j) = cc

  fi_up : (g x : ℕ) (c : Con) → CondOk P c → x ≡ c.r → Lower P g x → frame_label (top (P.encl g)) ≡ c.l
  fi_up g x c k e (plain h p) = let z : g ≡ pred c.r = omega arith in cc
  fi_up g x c k e (of_else c' k' i j) = let z : g ≡ pred c'.m = omega arith in cc
  fi_up g x c k e (of_loop c' k' i j) = cc
  fi_up g x c k e (of_until c' k' i j) = cc

  until_up : (g x : ℕ) (c : Con) → LoopOk P c → x ≡ c.r → Lower P g x → frame_label (top (P.encl g)) ≡ c.l
  until_up g x c k e (plain h p) = not_until g c k (cc) p
  until_up g x c k e (of_else c' k' i j) = cc
  until_up g x c k e (of_loop c' k' i j) = let z : g ≡ pred c'.m = omega arith in cc
  until_up g x c k e (of_until c' k' i j) = cc

near_gap : (P : Prog) (q g : ℕ) (d : Dir) → near (gap_at P q g) d ≡ tip P g (opp d)
near_gap P q g down = refl
near_gap P q g up = refl

far_gap : (P : Prog) (q g : ℕ) (d : Dir) → far (gap_at P q g) d ≡ tip P g d
far_gap P q g down = refl
far_gap P q g up = refl

-- The label that follows a.
abbrev pub ahead : Tree → ℕ → Dir → List Frame → ℕ
ahead τ a d fs = far (find (λ e. eqb (near e d) a && inside e.within fs) (edges τ)) d

-- What the definition finds behind the gap g is its far end; S are the frames outside its procedure.
pub ahead_gap : (τ : Tree) → Wf τ (prog τ) → (q g : ℕ) (d : Dir) (S : List Frame) → inside [] S ≡ true → (prog τ).first q ≤ g → g < (prog τ).last q
    → ahead τ (tip (prog τ) g (opp d)) d ((prog τ).encl g ++ S) ≡ tip (prog τ) g d
ahead_gap τ w q g d S s lo hi = find_is f (λ e. far e d) (edges τ) (gap_at P q g) (edge_on τ q g lo hi) here only ∙ far_gap P q g d
  where
    P : Prog
    P = prog τ

    f : Edge → Bool
    f e = eqb (near e d) (tip P g (opp d)) && inside e.within (P.encl g ++ S)

    here : f (gap_at P q g) ≡ true
    here = rw (eq-eqb (near (gap_at P q g) d) (tip P g (opp d)) (near_gap P q g d)) (inside_is (P.encl g) S s)

    only : (e : Edge) → Memᴰ e (edges τ) → f e ≡ true → far e d ≡ far (gap_at P q g) d
    only e m k =
        let r = on_edge τ e m in let y = and_true _ _ k in
        let in_r : e.within ≡ P.encl r.g = ap (λ x. x.within) r.is in
        let z : r.g ≡ g = one_gap τ P w d r.g g
        (sym (near_gap P e.proc r.g d) ∙ (ap (λ x. near x d) (sym r.is) ∙ eqb-true _ _ y.0))
        (sym in_r ∙ inside_only e.within (P.encl g) S s (ap calls in_r ∙ w.plain r.g) (w.plain g) y.1) in
        ap (λ x. far x d) r.is ∙ (far_gap P e.proc r.g d ∙ (ap (λ x. tip P x d) z ∙ sym (far_gap P q g d)))

-- The construct that is entered from x: x stands at the gap g of a procedure, and at no gap that is not that construct's.
module _ (τ : Tree) (w : Wf τ (prog τ)) where
  abbrev P : Prog
  P = prog τ

  entered : (q g : ℕ) (d : Dir) (l : ℕ) → P.first q ≤ g → g < P.last q
      → ((g' : ℕ) → tip P g' (opp d) ≡ tip P g (opp d) → frame_label (top (P.encl g')) ≡ l) → head τ (tip P g (opp d)) d ≡ l
  entered q g d l lo hi u =
      find_is (λ e. eqb (near e d) (tip P g (opp d))) (λ e. frame_label (top e.within)) (edges τ) (gap_at P q g) (edge_on τ q g lo hi)
      (eq-eqb _ _ (near_gap P q g d)) only ∙ u g refl
    where
      only : (e : Edge) → Memᴰ e (edges τ) → eqb (near e d) (tip P g (opp d)) ≡ true → frame_label (top e.within) ≡ frame_label (top (P.encl g))
      only e m k =
          let r = on_edge τ e m in
          ap (λ x. frame_label (top x.within)) r.is
          ∙ (u r.g (sym (near_gap P e.proc r.g d) ∙ (ap (λ x. near x d) (sym r.is) ∙ eqb-true _ _ k)) ∙ sym (u g refl))

  pub head_if : (q : ℕ) (c : Con) → CondOk P c → P.first q < c.l → c.r < P.last q → head τ c.l down ≡ c.l
  head_if q c k lo hi =
      let t : tip P c.l up ≡ c.l = rw k.at_l in
      rw t at (entered q c.l down c.l (omega arith) (omega arith) (λ g e. if_down τ P g c.l c k refl (subst (Upper P g) (e ∙ t) (upper_at τ P g _ refl (w.here g)))))

  pub head_from : (q : ℕ) (c : Con) → LoopOk P c → P.first q < c.l → c.r < P.last q → head τ c.l down ≡ c.l
  head_from q c k lo hi =
      let t : tip P c.l up ≡ c.l = rw k.at_l in
      rw t at (entered q c.l down c.l (omega arith) (omega arith) (λ g e. from_down τ P g c.l c k refl (subst (Upper P g) (e ∙ t) (upper_at τ P g _ refl (w.here g)))))

  pub head_fi : (q : ℕ) (c : Con) → CondOk P c → P.first q < c.l → c.r < P.last q → head τ c.r up ≡ c.l
  head_fi q c k lo hi =
      let i : suc (pred c.r) ≡ c.r = omega arith in
      let t : tip P (pred c.r) down ≡ c.r = rw (i, k.at_r) in
      rw t at (entered q (pred c.r) up c.l (omega arith) (omega arith) (λ g e. fi_up τ P g c.r c k refl (subst (Lower P g) (e ∙ t) (lower_at τ P g _ refl (w.here (suc g))))))

  pub head_until : (q : ℕ) (c : Con) → LoopOk P c → P.first q < c.l → c.r < P.last q → head τ c.r up ≡ c.l
  head_until q c k lo hi =
      let i : suc (pred c.m) ≡ c.m = omega arith in
      let t : tip P (pred c.m) down ≡ c.r = rw (i, k.at_m) in
      rw t at (entered q (pred c.m) up c.l (omega arith) (omega arith) (λ g e. until_up τ P g c.r c k refl (subst (Lower P g) (e ∙ t) (lower_at τ P g _ refl (w.here (suc g))))))

  -- BEGIN and END, of which every procedure has one.
  no_gate : {A B : Type 0} (k : ℕ) → eqb k 2 ≡ false → eqb k 3 ≡ false → (k ≡ 2 → A) × (k ≡ 3 → B)
  no_gate k a b = (λ e. absurd (eqb-false k 2 a e), λ e. absurd (eqb-false k 3 b e))

  gate_of_lem : (ρ : Rec) → (kind (forget ρ) ≡ 2 → (q : ℕ) × (ρ ≡ begin_l q)) × (kind (forget ρ) ≡ 3 → (q : ℕ) × (ρ ≡ end_l q))
  unfolding kind
  gate_of_lem (name_l v ls) = no_gate _ refl refl
  gate_of_lem (begin_l q) = (λ e. (q, refl), λ e. absurd (let z : ⊥ = omega arith in z))
  gate_of_lem (end_l q) = (λ e. absurd (let z : ⊥ = omega arith in z), λ e. (q, refl))
  gate_of_lem (set_l o t ε) = no_gate _ refl refl
  gate_of_lem skip_l = no_gate _ refl refl
  gate_of_lem (if_l c) = no_gate _ refl refl
  gate_of_lem (else_l c) = no_gate _ refl refl
  gate_of_lem (fi_l c) = no_gate _ refl refl
  gate_of_lem (from_l c) = no_gate _ refl refl
  gate_of_lem (loop_l c) = no_gate _ refl refl
  gate_of_lem (until_l c) = no_gate _ refl refl
  gate_of_lem (call_l q) = no_gate _ refl refl
  gate_of_lem (uncall_l q) = no_gate _ refl refl

  first_only : (q g x : ℕ) → P.first q ≤ g → g < P.last q → Upper P g x → kind (forget (P.at x)) ≡ 2 → x ≡ P.first q
  first_only q g x lo hi (plain h) k =
      let b = (gate_of_lem (P.at x)).0 k in let l = rw b.1 at (w.here x) in
      l.0 ∙ ap P.first (sym (l.2 q (omega arith) (omega arith)))
  first_only q g x lo hi (of_else c o i j) k = let b = (gate_of_lem (P.at x)).0 k in let e = b.1 in cc
  first_only q g x lo hi (of_loop c o i j) k = let b = (gate_of_lem (P.at x)).0 k in let e = b.1 in cc

  last_only : (q g x : ℕ) → P.first q ≤ g → g < P.last q → Lower P g x → kind (forget (P.at x)) ≡ 3 → x ≡ P.last q
  last_only q g x lo hi (plain h p) k =
      let b = (gate_of_lem (P.at x)).1 k in let l = rw b.1 at (w.here x) in
      l.0 ∙ ap P.last (sym (l.2 q (omega arith) (omega arith)))
  last_only q g x lo hi (of_else c o i j) k = let b = (gate_of_lem (P.at x)).1 k in let e = b.1 in cc
  last_only q g x lo hi (of_loop c o i j) k = let b = (gate_of_lem (P.at x)).1 k in let e = b.1 in cc
  last_only q g x lo hi (of_until c o i j) k = let b = (gate_of_lem (P.at x)).1 k in let e = b.1 in cc

  -- The gap next to a procedure's gate, and the labels of its other gaps.
  gate_with : (q g : ℕ) (d : Dir) → P.first q ≤ g → g < P.last q → tip P g (opp d) ≡ gate_l P q d → kind (at τ (gate_l P q d)) ≡ going d 2 3
      → ((g' : ℕ) → P.first q ≤ g' → g' < P.last q → kind (forget (P.at (tip P g' (opp d)))) ≡ going d 2 3 → tip P g' (opp d) ≡ gate_l P q d)
      → gate τ q d ≡ gate_l P q d
  gate_with q g d lo hi t k u =
      find_is (λ e. eqb e.proc q && eqb (kind (at τ (near e d))) (going d 2 3)) (λ e. near e d) (edges τ) (gap_at P q g) (edge_on τ q g lo hi) here only ∙ at_gate
    where
      at_gate : near (gap_at P q g) d ≡ gate_l P q d
      at_gate = near_gap P q g d ∙ t

      here : (eqb q q && eqb (kind (at τ (near (gap_at P q g) d))) (going d 2 3)) ≡ true
      here = rw (eq-eqb q q refl) (eq-eqb _ _ (ap (λ x. kind (at τ x)) at_gate ∙ k))

      only : (e : Edge) → Memᴰ e (edges τ) → (eqb e.proc q && eqb (kind (at τ (near e d))) (going d 2 3)) ≡ true → near e d ≡ near (gap_at P q g) d
      only e m h =
          let r = on_edge τ e m in let y = and_true _ _ h in
          let p : e.proc ≡ q = eqb-true _ _ y.0 in
          let n : near e d ≡ tip P r.g (opp d) = ap (λ x. near x d) r.is ∙ near_gap P e.proc r.g d in
          let f = ap P.first p in let l = ap P.last p in
          n ∙ (u r.g (omega (arith, r.lo)) (omega (arith, r.hi)) (ap kind (sym (at_is τ _)) ∙ (ap (λ x. kind (at τ x)) (sym n) ∙ eqb-true _ _ y.1)) ∙ sym at_gate)

  pub gate_is : (q : ℕ) (d : Dir) → ProcOk P q → gate τ q d ≡ gate_l P q d
  unfolding kind
  gate_is q down k =
      gate_with q (P.first q) down (omega arith) k.lt (rw k.at_first) (rw (at_is τ (P.first q), k.at_first))
      (λ g lo hi h. first_only q g _ lo hi (upper_at τ P g _ refl (w.here g)) h)
  gate_is q up k =
      let i : suc (pred (P.last q)) ≡ P.last q = let l = k.lt in omega arith in
      gate_with q (pred (P.last q)) up (let l = k.lt in omega arith) (omega arith) (rw (i, k.at_last)) (rw (at_is τ (P.last q), k.at_last))
      (λ g lo hi h. last_only q g _ lo hi (lower_at τ P g _ refl (w.here (suc g))) h)
