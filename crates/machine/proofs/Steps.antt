-- The decision does what the document's step says of every fitting place; and a run by decisions is the document's run.
use Prim.Native.Nat.{ℕ, zero, suc, ◌+◌, ◌≤◌, ◌<◌}
use mathlib.Core.Path.{◌≡◌, refl, sym, ap, ◌∙◌, subst}
use mathlib.Core.Bool.{Bool, cond}
use mathlib.Core.List.{List, [], ◌∷◌, ◌++◌, map}
use lib.ListN.{length}
use lib.Dec.{eqb}
use native.Mathlib.Omega.{arith}
use borrow.Author.Tests.{eq-eqb, ne_eqb, lt-ltb, le-ltb}
use Rattle.place.specs.declared.Place.{Place as Held}
use Rattle.place.specs.Places.{Dir, down, up, opp, Frame, frame_kind, frame_label, Place}
use Rattle.place.specs.Slots.{dir_number, slots, held}
use Rattle.place.specs.Methods.{top_at}
use Rattle.place.proofs.Cases.{top_none}
use Rattle.place.proofs.Laws.{top_of_slots}
use Rattle.records.specs.Records.{call, uncall, kind}
use Rattle.order.specs.Trees.{Tree, records_of}
use Rattle.program.specs.Says.{Accepts}
use Rattle.records.specs.Faults.{word}
use Rattle.records.specs.Reading.{record_as}
use Rattle.moves.specs.Places.{calls, Fits}
use Rattle.moves.specs.Stores.{number, Answer, ok, no, Store}
use Rattle.moves.specs.Step.{step}
use Rattle.moves.specs.Runs.{Ran, stop_number, onward, run_by, run}
use Rattle.moves.proofs.Linked.{Rec, name_l, begin_l, end_l, set_l, skip_l, if_l, else_l, fi_l, from_l, loop_l, until_l, call_l, uncall_l, Prog, side}
use Rattle.moves.proofs.Cuts.{Cut, met, leave, enter', return', port, through, cstep, Local, by_call, by_uncall, Sits}
use Rattle.moves.proofs.Loop.{fit_gate, lo_met, hi_met, not_begin, not_end}
use Rattle.moves.proofs.Rows.{prog}
use Rattle.moves.proofs.Gaps.{tip}
use Rattle.moves.proofs.View.{stack, view, seen, side_call, side_uncall, calls_stack}
use Rattle.moves.proofs.Sees.{sees}
use Rattle.moves.proofs.Match.{placed_fits, fits_placed}
use Rattle.table.proofs.Tabled.{Tabled}
use Rattle.ways.specs.Looks.{look_in, proc_at, way_to, label_in, side_in}
use Rattle.decide.specs.Decide.{Seen, entered_of, returned_of, Ruled, rule_of}
use Rattle.decide.specs.Ways.{Sight, packed, rule_in}
use Rattle.decide.specs.Ways as ways
use Rattle.ways.specs.Map.{Maps}
use Rattle.decide.proofs.Rules.{rule_call, rule_uncall, rule_return}
use Rattle.decide.proofs.Mapped.{mapped}
use Rattle.machine.specs.Walk.{spot_of, after_of, stand_of, held_by, sight_in, moved_to, Gone, gone, go_of}
use Rattle.fits.proofs.Few.{room}
use Rattle.machine.proofs.Labels.{small, inside, offset_is}
use Rattle.machine.proofs.Landing.{top_kind, top_label, spot_at, Fate}
use Rattle.machine.proofs.There.{tip_there, label_there}
use Rattle.machine.proofs.Sets.{Stands, Agrees}
use Rattle.machine.proofs.Giving.{reason_some}
use Rattle.machine.proofs.Decided.{w, fate_of, kind_at_lem, record_is}
use Rattle.machine.proofs.Fates.{skip_fate, set_fate, if_down, if_up, else_down, else_up, fi_down, fi_up, from_down, from_up, loop_down, loop_up, until_down, until_up}
use Rattle.machine.proofs.Calls.{other_is, call_there, uncall_there, enter_fate, return_fate}

nowhere : Place
nowhere = record { a = 0; b = 0; d = down; frames = [] }

module _ {f : List ℕ} {t : Tree} (A : Accepts f t) {tab : List ℕ} (T : Tabled t f tab) {bytes arr : List ℕ} (G : Agrees t f bytes arr) where
  abbrev P : Prog
  P = prog t

  abbrev frames : ℕ → List ℕ → List Frame
  frames g cs = P.encl g ++ stack P cs

  abbrev Does : (g : ℕ) (d : Dir) (cs : List ℕ) (b : ℕ) → Store → Answer (Cut × Store) → Type 0
  Does g d cs b σ a = Fate P (frames g cs) σ (rule_of bytes tab arr (spot_at (frames g cs) d cs b) σ) a

  with_b : (g : ℕ) (d : Dir) (cs : List ℕ) (σ : Store) (b : ℕ) (ρ : Rec) (a : Answer (Cut × Store)) → P.at (met g d) ≡ ρ → side ρ (met g d) d ≡ b
      → Does g d cs b σ a → Does g d cs (tip P g d) σ a
  with_b g d cs σ b ρ a e s h =
      let z : b ≡ tip P g d = sym s ∙ ap (λ r. side r (met g d) d) (sym e) in subst (λ x. Does g d cs x σ a) z h

  call_number : (o q : ℕ) → Stands 11 bytes o (call q) → q ≡ word bytes (o + 4)
  unfolding record_as
  call_number o q e = let z = e.is in cc

  uncall_number : (o q : ℕ) → Stands 12 bytes o (uncall q) → q ≡ word bytes (o + 4)
  unfolding record_as
  uncall_number o q e = let z = e.is in cc

  module _ (g : ℕ) (d : Dir) (cs : List ℕ) (σ : Store) (F : Sits P (record { g = g; d = d; cs = cs })) where
    abbrev S : Seen
    S = spot_at (frames g cs) d cs (met g d)

    here : met g d < length (records_of t)
    here = inside A F.q (met g d) (lo_met t P g d cs F) (hi_met t P g d cs F)

    low : met g d < 1024
    low = let s = small A in let h = here in omega arith

    -- a return
    returning : (k : ℕ) → look_in tab (1024 + met g d) ≡ k → k ≤ 3 → P.encl g ≡ [] → Does g d cs (met g d) σ (through t P return' (met g d) d cs σ)
    returning k e h en =
        fate_of P (frames g cs) σ (rule_of bytes tab arr S σ) (returned_of S tab) σ (through t P return' (met g d) d cs σ)
        (rule_return bytes tab arr S σ k (look_in tab (met g d)) (sym e) refl (returned_of S tab) low (λ z. omega arith) (λ z. omega arith) (λ z. omega arith) (λ z. omega arith) h refl)
        (return_fate A T G g d (met g d) σ en F.q cs F.good F.few)

    -- the procedure that the record names
    into : (q : ℕ) (e : Dir) → q ≡ proc_at bytes tab (met g d) → entered_of S q (dir_number e) tab ≡ entered_of S (proc_at bytes tab (met g d)) (dir_number e) tab
    into q e h = ap (λ (x : ℕ). entered_of S x (dir_number e) tab) h

    -- a call
    calling : (q : ℕ) → P.at (met g d) ≡ call_l q → Local t P (call_l q) (met g d) → Does g d cs (met g d) σ (through t P (enter' q d) (met g d) d cs σ)
    unfolding through kind
    calling q e (k, o) =
        let n = o.near F.q (lo_met t P g d cs F) (hi_met t P g d cs F) in
        fate_of P (frames g cs) σ (rule_of bytes tab arr S σ) (entered_of S q (dir_number d) tab) σ (through t P (enter' q d) (met g d) d cs σ)
        (rule_call bytes tab arr S σ 11 (look_in tab (met g d)) (sym (kind_at_lem A T G (met g d) here (call_l q) e)) refl (entered_of S q (dir_number d) tab) low (λ z. omega arith) (λ z. omega arith) refl
        (into q d (call_number (look_in tab (met g d)) q (record_is A T G (met g d) here (call_l q) e))))
        (enter_fate A T G g d cs σ F q d k o (call_there A T G (met g d) q here e) (λ h. fit_gate t P q k (met g d ∷ cs) (by_call e n.0 n.1 F.good) h d))

    uncalling : (q : ℕ) → P.at (met g d) ≡ uncall_l q → Local t P (uncall_l q) (met g d) → Does g d cs (met g d) σ (through t P (enter' q (opp d)) (met g d) d cs σ)
    unfolding through kind
    uncalling q e (k, o) =
        let n = o.near F.q (lo_met t P g d cs F) (hi_met t P g d cs F) in
        fate_of P (frames g cs) σ (rule_of bytes tab arr S σ) (entered_of S q (dir_number (opp d)) tab) σ (through t P (enter' q (opp d)) (met g d) d cs σ)
        (rule_uncall bytes tab arr S σ 12 (look_in tab (met g d)) (sym (kind_at_lem A T G (met g d) here (uncall_l q) e)) refl (entered_of S q (dir_number (opp d)) tab) low (λ z. omega arith) (λ z. omega arith) (λ z. omega arith) (dir_number (opp d)) refl
        (into q (opp d) (uncall_number (look_in tab (met g d)) q (record_is A T G (met g d) here (uncall_l q) e))) (sym (other_is d)))
        (enter_fate A T G g d cs σ F q (opp d) k o (uncall_there A T G (met g d) q here e) (λ h. fit_gate t P q k (met g d ∷ cs) (by_uncall e n.0 n.1 F.good) h (opp d)))

  fate : (g : ℕ) (d : Dir) (cs : List ℕ) (σ : Store) (ρ : Rec) → P.at (met g d) ≡ ρ → Local t P ρ (met g d) → (F : Sits P (record { g = g; d = d; cs = cs }))
      → Does g d cs (tip P g d) σ (through t P (port ρ (met g d) d) (met g d) d cs σ)
  unfolding port through kind
  fate g d cs σ (name_l v ls) e h F = absurd (h F.q (lo_met t P g d cs F) (hi_met t P g d cs F))
  fate g down cs σ (begin_l q) e h F = absurd (not_begin t P g cs q h F)
  fate g up cs σ (begin_l q) e (h, k, u) F =
      with_b g up cs σ g (begin_l q) (through t P return' g up cs σ) e refl (returning g up cs σ F 2 (kind_at_lem A T G g (here g up cs σ F) (begin_l q) e) (omega arith) (let z : P.encl g ≡ [] = cc in z))
  fate g down cs σ (end_l q) e (h, k, u) F =
      with_b g down cs σ (suc g) (end_l q) (through t P return' (suc g) down cs σ) e refl (returning g down cs σ F 3 (kind_at_lem A T G (suc g) (here g down cs σ F) (end_l q) e) (omega arith) (let z : P.encl g ≡ [] = cc in z))
  fate g up cs σ (end_l q) e h F = absurd (not_end t P g cs q h F)
  fate g down cs σ (set_l o x ε) e (i, k) F = with_b g down cs σ (suc g) (set_l o x ε) (through t P (port (set_l o x ε) (suc g) down) (suc g) down cs σ) e refl (set_fate A T G g down cs σ F k o x ε e (rw e))
  fate g up cs σ (set_l o x ε) e (i, k) F = with_b g up cs σ g (set_l o x ε) (through t P (port (set_l o x ε) g up) g up cs σ) e refl (set_fate A T G g up cs σ F k o x ε e (rw e))
  fate g down cs σ skip_l e k F = with_b g down cs σ (suc g) skip_l (ok (leave (suc g) down cs, σ)) e refl (skip_fate A T G g down cs σ F k e (rw e))
  fate g up cs σ skip_l e k F = with_b g up cs σ g skip_l (ok (leave g up cs, σ)) e refl (skip_fate A T G g up cs σ F k e (rw e))
  fate g down cs σ (if_l c) e (h, k) F = with_b g down cs σ (suc g) (if_l c) (through t P (port (if_l c) (suc g) down) (suc g) down cs σ) e refl (if_down A T G g cs σ F c h k)
  fate g up cs σ (if_l c) e (h, k) F = with_b g up cs σ (g) (if_l c) (through t P (port (if_l c) (g) up) (g) up cs σ) e refl (if_up A T G g cs σ F c h k)
  fate g down cs σ (else_l c) e (h, k) F = with_b g down cs σ c.r (else_l c) (through t P (port (else_l c) (suc g) down) (suc g) down cs σ) e refl (else_down A T G g cs σ F c h k)
  fate g up cs σ (else_l c) e (h, k) F = with_b g up cs σ c.l (else_l c) (through t P (port (else_l c) (g) up) (g) up cs σ) e refl (else_up A T G g cs σ F c h k)
  fate g down cs σ (fi_l c) e (h, k) F = with_b g down cs σ (suc g) (fi_l c) (through t P (port (fi_l c) (suc g) down) (suc g) down cs σ) e refl (fi_down A T G g cs σ F c h k)
  fate g up cs σ (fi_l c) e (h, k) F = with_b g up cs σ (g) (fi_l c) (through t P (port (fi_l c) (g) up) (g) up cs σ) e refl (fi_up A T G g cs σ F c h k)
  fate g down cs σ (from_l c) e (h, k) F = with_b g down cs σ (suc g) (from_l c) (through t P (port (from_l c) (suc g) down) (suc g) down cs σ) e refl (from_down A T G g cs σ F c h k)
  fate g up cs σ (from_l c) e (h, k) F = with_b g up cs σ (g) (from_l c) (through t P (port (from_l c) (g) up) (g) up cs σ) e refl (from_up A T G g cs σ F c h k)
  fate g down cs σ (loop_l c) e (h, k) F = with_b g down cs σ c.r (loop_l c) (through t P (port (loop_l c) (suc g) down) (suc g) down cs σ) e refl (loop_down A T G g cs σ F c h k)
  fate g up cs σ (loop_l c) e (h, k) F = with_b g up cs σ c.r (loop_l c) (through t P (port (loop_l c) (g) up) (g) up cs σ) e refl (loop_up A T G g cs σ F c h k)
  fate g down cs σ (until_l c) e (h, k) F = with_b g down cs σ c.l (until_l c) (through t P (port (until_l c) (suc g) down) (suc g) down cs σ) e refl (until_down A T G g cs σ F c h k)
  fate g up cs σ (until_l c) e (h, k) F = with_b g up cs σ (g) (until_l c) (through t P (port (until_l c) (g) up) (g) up cs σ) e refl (until_up A T G g cs σ F c h k)
  fate g d cs σ (call_l q) e k F = with_b g d cs σ (met g d) (call_l q) (through t P (enter' q d) (met g d) d cs σ) e (side_call q (met g d) d) (calling g d cs σ F q e k)
  fate g d cs σ (uncall_l q) e k F = with_b g d cs σ (met g d) (uncall_l q) (through t P (enter' q (opp d)) (met g d) d cs σ) e (side_uncall q (met g d) d) (uncalling g d cs σ F q e k)

  cut_fate : (s : Cut) → Sits P s → (σ : Store) → Does s.g s.d s.cs (tip P s.g s.d) σ (cstep t P s σ)
  unfolding cstep
  cut_fate s F σ = fate s.g s.d s.cs σ (P.at (met s.g s.d)) refl ((w A T G).here (met s.g s.d)) F

  -- ---- of places: the decision x at the place p does what the step answers
  abbrev pub Follows : Held → Store → Ruled → Answer (Place × Store) → Type 0
  Follows h σ x (no r) = (x.move.reason ≡ number r) × (x.store ≡ σ)
  Follows h σ x (ok s) = (x.move.reason ≡ 0) × (after_of h x.move ≡ held s.0) × (x.move.calls ≡ calls s.0.frames) × (x.store ≡ s.1) × Fits t s.0

  follows : (s : Cut) (σ : Store) (x : Ruled) (a : Answer (Cut × Store)) → Fate P (view P s).frames σ x a → Follows (held (view P s)) σ x (seen P a)
  unfolding seen
  follows s σ x (no r) h = h
  follows s σ x (ok c) h = (h.0, h.1, h.2 ∙ sym (calls_stack t (w A T G) c.0.g c.0.cs), h.3, placed_fits t (w A T G) (view P c.0) (record { cut = c.0; sits = h.4; is = refl }))

  -- what the code sees of the frames
  top_kind_lem : (fs : List Frame) → length fs ≤ 1104 → top_at (slots (map frame_kind fs)) (length fs) 9 ≡ top_kind fs
  top_kind_lem [] h = sym (top_none (slots []) 0 9 refl)
  top_kind_lem (i ∷ F) h = top_of_slots nowhere i F (omega arith) frame_kind 9

  top_label_lem : (fs : List Frame) → length fs ≤ 1104 → top_at (slots (map frame_label fs)) (length fs) 0 ≡ top_label fs
  top_label_lem [] h = sym (top_none (slots []) 0 0 refl)
  top_label_lem (i ∷ F) h = top_of_slots nowhere i F (omega arith) frame_label 0

  pub decided : (p : Place) → Fits t p → (σ : Store) → Follows (held p) σ (rule_of bytes tab arr (spot_of (held p) (calls p.frames)) σ) (step t p σ)
  decided p fit σ =
      let k = fits_placed t (w A T G) p fit in
      subst (λ p. Follows (held p) σ (rule_of bytes tab arr (spot_of (held p) (calls p.frames)) σ) (step t p σ)) (sym k.is) (at_cut k.cut k.sits)
    where
      at_cut : (s : Cut) → Sits P s → Follows (held (view P s)) σ (rule_of bytes tab arr (spot_of (held (view P s)) (calls (view P s).frames)) σ) (step t (view P s) σ)
      at_cut s F =
          let r = room A s F in
          rw (sees t (w A T G) s F σ, calls_stack t (w A T G) s.g s.cs, top_kind_lem (view P s).frames r, top_label_lem (view P s).frames r)
          (follows s σ _ (cstep t P s σ) (cut_fate s F σ))

  -- ---- a run, by the map
  abbrev Ends : Gone → ℕ → Ran → Type 0
  Ends x k r = x ≡ gone (stop_number r.stop) (k + r.steps) (held r.place) r.store

  -- the labels that a fitting place shows
  shows : (p : Place) → Fits t p → (p.b < length (records_of t)) × (top_label p.frames < length (records_of t))
  shows p fit =
      let k = fits_placed t (w A T G) p fit in
      subst (λ (p : Place). (p.b < length (records_of t)) × (top_label p.frames < length (records_of t))) (sym k.is) (tip_there A k.cut k.sits, label_there A k.cut k.sits)

  fits_room : (p : Place) → Fits t p → length p.frames ≤ 1104
  fits_room p fit = let k = fits_placed t (w A T G) p fit in subst (λ (p : Place). length p.frames ≤ 1104) (sym k.is) (room A k.cut k.sits)

  -- put together again, the place is the same
  together : (b : ℕ) (d : Dir) → b < 1024 → (side_in (way_to b (dir_number d)) ≡ dir_number d) × (label_in (way_to b (dir_number d)) ≡ b)
  unfolding way_to
  together b down h = (rw (lt-ltb b 1024 h), omega arith)
  together b up h = rw (lt-ltb b 1024 h) (rw (le-ltb (b + 1024) 1024 (omega arith)), omega arith)

  held_back : (p : Place) → Fits t p → held_by (stand_of (held p)) ≡ held p
  held_back p fit =
      let z = together p.b p.d (omega (arith, (shows p fit).0, small A)) in
      λ i. record { direction = z.0 i; a = p.a; b = z.1 i; count = (held p).count; kinds = (held p).kinds; labels = (held p).labels }

  module _ {m : List ℕ} (L : Maps bytes tab (length (records_of t)) m) where
    abbrev rule : Sight → Store → ways.Ruled
    rule = rule_in bytes m arr

    -- the decision by the map is the one by the table
    by_map : (p : Place) → Fits t p → (σ : Store) → rule (sight_in (stand_of (held p)) (calls p.frames)) σ ≡ packed (rule_of bytes tab arr (spot_of (held p) (calls p.frames)) σ)
    by_map p fit σ =
        let s = shows p fit in
        mapped bytes tab arr m (length (records_of t)) L (small A) (spot_of (held p) (calls p.frames)) s.0 (dir_small p.d) (rw (top_label_lem p.frames (fits_room p fit)) s.1) (rw (offset_is A T p.b s.0) (G.reads p.b s.0).low) σ
      where
        dir_small : (d : Dir) → dir_number d < 2
        dir_small down = omega arith
        dir_small up = omega arith

    pub walked : (n : ℕ) (p : Place) → Fits t p → (σ : Store) (k : ℕ)
        → go_of rule n (stand_of (held p)) (calls p.frames) σ k ≡ gone (stop_number (run t n p σ).stop) (k + (run t n p σ).steps) (held (run t n p σ).place) (run t n p σ).store
    unfolding go_of run_by
    walked zero p fit σ k = let z : k ≡ k + 0 = omega arith in λ i. gone 0 (z i) (held_back p fit i) σ
    walked (suc n) p fit σ k =
        ap (λ (x : ways.Ruled). cond (eqb x.move.reason 0) (go_of rule n (moved_to (stand_of (held p)) x.move) x.move.calls x.store (k + 1)) (gone x.move.reason k (held_by (stand_of (held p))) x.store)) (by_map p fit σ)
        ∙ go (step t p σ) refl (rule_of bytes tab arr (spot_of (held p) (calls p.frames)) σ) (decided p fit σ) (walked n)
      where
        go : (a : Answer (Place × Store)) → step t p σ ≡ a → (x : Ruled) → Follows (held p) σ x a
            → ((p : Place) → Fits t p → (σ : Store) (k : ℕ) → Ends (go_of rule n (stand_of (held p)) (calls p.frames) σ k) k (run t n p σ))
            → Ends (cond (eqb x.move.reason 0) (go_of rule n (stand_of (after_of (held p) x.move)) x.move.calls x.store (k + 1)) (gone x.move.reason k (held_by (stand_of (held p))) x.store)) k (onward a (λ p σ. run_by (step t) n p σ) p σ)
        go (no r) e x h ih =
            let z : k ≡ k + 0 = omega arith in
            ap (λ (b : Bool). cond b (go_of rule n (stand_of (after_of (held p) x.move)) x.move.calls x.store (k + 1)) (gone x.move.reason k (held_by (stand_of (held p))) x.store)) (ne_eqb x.move.reason 0 (λ y. omega (arith, reason_some r, h.0, y)))
            ∙ (λ i. gone (h.0 i) (z i) (held_back p fit i) (h.1 i))
        go (ok s) e x h ih =
            let r = run t n s.0 s.1 in
            let z : k + 1 + r.steps ≡ k + suc r.steps = omega arith in
            ap (λ (b : Bool). cond b (go_of rule n (stand_of (after_of (held p) x.move)) x.move.calls x.store (k + 1)) (gone x.move.reason k (held_by (stand_of (held p))) x.store)) (eq-eqb x.move.reason 0 h.0)
            ∙ ((λ i. go_of rule n (stand_of (h.1 i)) (h.2 i) (h.3 i) (k + 1))
            ∙ (ih s.0 h.4 s.1 (k + 1) ∙ ap (λ j. gone (stop_number r.stop) j (held r.place) r.store) z))
