-- The decision does what the step on cuts says, for calls and returns; and so for every record.
use Prim.Native.Nat.{ℕ, suc, ◌+◌, ◌-◌, ◌≤◌, ◌<◌}
use mathlib.Core.Path.{◌≡◌, refl, sym, ap, ◌∙◌, subst}
use mathlib.Core.Bool.{Bool, true, false, cond}
use mathlib.Core.List.{List, [], ◌∷◌, ◌++◌}
use lib.ListN.{length, length-append}
use lib.Dec.{ltb, leb, eqb}
use native.Mathlib.Omega.{arith}
use native.Mathlib.Numerals.{add-one}
use borrow.Author.Tests.{ne_eqb, lt-ltb, ltb-true, ltb-false, le-leb, lt-leb}
use Rattle.place.specs.Places.{Dir, down, up, opp, Frame, called}
use Rattle.place.specs.Slots.{dir_number}
use Rattle.records.specs.Records.{Record, call, uncall, kind}
use Rattle.order.specs.Trees.{Tree, procedures, records_of}
use Rattle.program.specs.Says.{Accepts, there_in}
use Rattle.moves.specs.Labels.{at}
use Rattle.moves.specs.Stores.{too_deep, Answer, ok, no, Store}
use Rattle.moves.proofs.Linked.{Rec, call_l, uncall_l, Prog, forget, side, gate_l}
use Rattle.moves.proofs.Cuts.{Cut, met, gap, leave, return', through, SimpleOk, ProcOk, Good, in_main, by_call, by_uncall, Sits}
use Rattle.moves.proofs.Loop.{fit, gate_pos}
use Rattle.moves.proofs.Rows.{prog}
use Rattle.moves.proofs.Links.{at_is, at_skip}
use Rattle.moves.proofs.Accepted.{accepted_wf}
use Rattle.moves.proofs.View.{stack, side_call, side_uncall, encl_met, encl_gap}
use Rattle.moves.proofs.View as seen
use Rattle.expr.proofs.Layer.{and_true}
use Rattle.table.proofs.Facts.{facts}
use Rattle.table.proofs.Tabled.{Tabled}
use Rattle.ways.specs.Looks.{look_in, other_of, along_of, gate_of, resumed_of}
use Rattle.decide.specs.Decide.{Seen, Moved, more_of, behind_of, refused_of, entered_to, entered_of, returned_of, moving, ruled, rule_of, slot_of}
use Rattle.decide.proofs.Rules.{behind_call, behind_uncall}
use Rattle.fits.proofs.Few.{encl_room, stack_room, room}
use Rattle.machine.proofs.Labels.{inside}
use Rattle.machine.proofs.Landing.{top_label, spot_at, Fate, Acts, lands, acts_push, acts_pop, slot_top}
use Rattle.machine.proofs.Sets.{Agrees}
use Rattle.machine.proofs.Decided.{w, kind_at_lem}

pub other_is : (d : Dir) → other_of (dir_number d) ≡ dir_number (opp d)
other_is down = refl
other_is up = refl

-- ---- the gates of a procedure
module _ {f : List ℕ} {t : Tree} (A : Accepts f t) {tab : List ℕ} (T : Tabled t f tab) where
  few_procs : length (procedures t) ≤ 64
  few_procs = (facts f t A).few_procs

  pub gate_is : (q : ℕ) (d : Dir) → q < length (procedures t) → gate_of tab q (dir_number d) ≡ gate_l (prog t) q d
  unfolding look_in
  gate_is q down h = rw (lt-ltb (9216 + q) 9344 (omega (arith, few_procs))) (T.firsts q h)
  gate_is q up h = rw (lt-ltb (9280 + q) 9344 (omega (arith, few_procs))) (T.lasts q h)

  pub gate_side : (q : ℕ) (d : Dir) → ProcOk (prog t) q → side ((prog t).at (gate_l (prog t) q d)) (gate_l (prog t) q d) (opp d) ≡ gate_l (prog t) q d
  gate_side = seen.gate_side t (accepted_wf A)

  pub gate_encl : (q : ℕ) (d : Dir) → ProcOk (prog t) q → (prog t).encl (gap (gate_l (prog t) q d) d) ≡ []
  gate_encl = seen.gate_encl t (accepted_wf A)

module _ {f : List ℕ} {t : Tree} (A : Accepts f t) {tab : List ℕ} (T : Tabled t f tab) {bytes arr : List ℕ} (G : Agrees t f bytes arr) where
  abbrev P : Prog
  P = prog t

  abbrev frames : ℕ → List ℕ → List Frame
  frames g cs = P.encl g ++ stack P cs

  abbrev Does : (g : ℕ) (d : Dir) (cs : List ℕ) (b : ℕ) → Store → Answer (Cut × Store) → Type 0
  Does g d cs b σ a = Fate P (frames g cs) σ (rule_of bytes tab arr (spot_at (frames g cs) d cs b) σ) a

  -- a call's number is a procedure's
  numbered : (x : ℕ) → x < length (records_of t) → (r : Record) → at t x ≡ r → there_in t r ≡ true
  numbered x h r e = subst (λ r. there_in t r ≡ true) (at_skip t x h ∙ e) (A.numbers x h)

  pub call_there : (x q : ℕ) → x < length (records_of t) → P.at x ≡ call_l q → q < length (procedures t)
  call_there x q h e = ltb-true q _ (and_true (ltb 0 q) (ltb q (length (procedures t))) (numbered x h (call q) (at_is t x ∙ ap forget e))).1

  pub uncall_there : (x q : ℕ) → x < length (records_of t) → P.at x ≡ uncall_l q → q < length (procedures t)
  uncall_there x q h e = ltb-true q _ (and_true (ltb 0 q) (ltb q (length (procedures t))) (numbered x h (uncall q) (at_is t x ∙ ap forget e))).1

  module _ (g : ℕ) (d : Dir) (cs : List ℕ) (σ : Store) (F : Sits P (record { g = g; d = d; cs = cs })) (q : ℕ) (d' : Dir) (k : ProcOk P q) (o : SimpleOk P (met g d))
      (hq : q < length (procedures t)) (good : length cs < 64 → Sits P (leave (gate_l P q d') d' (met g d ∷ cs))) where
    abbrev b : ℕ
    b = met g d

    abbrev S : Seen
    S = spot_at (frames g cs) d cs (met g d)

    pub enter_fate : Fate P (frames g cs) σ (ruled (entered_of S q (dir_number d') tab) σ) (cond (ltb (length cs) 64) (ok (leave (gate_l P q d') d' (met g d ∷ cs), σ)) (no too_deep))
    unfolding entered_of entered_to
    enter_fate = go (ltb (length cs) 64) refl
      where
        deep : length cs < 64 → Moved
        deep h = moving 0 (dir_number d') (gate_of tab q (dir_number d')) (along_of tab (dir_number d') (gate_of tab q (dir_number d'))) (length cs + 1) (more_of (length (frames g cs))) (length (frames g cs)) 4 (met g d)

        go : (x : Bool) → ltb (length cs) 64 ≡ x
            → Fate P (frames g cs) σ (ruled (cond (leb 64 (length cs)) (refused_of S 34)
            (moving 0 (dir_number d') (gate_of tab q (dir_number d')) (along_of tab (dir_number d') (gate_of tab q (dir_number d'))) (length cs + 1) (more_of (length (frames g cs))) (length (frames g cs)) 4 (met g d))) σ)
            (cond x (ok (leave (gate_l P q d') d' (met g d ∷ cs), σ)) (no too_deep))
        go true e =
            let h : length cs < 64 = ltb-true _ _ e in
            let F' = good h in
            let new : called (met g d) ∷ frames g cs ≡ P.encl (gap (gate_l P q d') d') ++ stack P (met g d ∷ cs) = rw (gate_encl A T q d' k, encl_met t (accepted_wf A) g d o) in
            let r : length (frames g cs) < 1104 = omega (arith, room A (leave (gate_l P q d') d' (met g d ∷ cs)) F', ap length new) in
            rw (lt-leb 64 (length cs) h) (
              refl,
              lands A T (frames g cs) (deep h) (gate_l P q d') d' (met g d ∷ cs) F' (gate_pos t P q k d') refl (gate_is A T q d' hq ∙ sym (gate_side A T q d' k)) (ap (along_of tab (dir_number d')) (gate_is A T q d' hq))
                  (subst (λ H. Acts A T (frames g cs) (deep h) H) new (acts_push A T (frames g cs) r (called (met g d)) (deep h) refl refl refl refl)),
              add-one (length cs),
              refl,
              F',
            )
        go false e = rw (le-leb 64 (length cs) (ltb-false _ _ e)) (refl, refl)

  -- ---- a return
  module _ (g : ℕ) (d : Dir) (x : ℕ) (σ : Store) (en : P.encl g ≡ []) where
    abbrev Returns : List ℕ → Type 0
    Returns cs = Fate P (frames g cs) σ (ruled (returned_of (spot_at (frames g cs) d cs x) tab) σ) (through t P return' x d cs σ)

    -- to the calling record c, in direction d'
    back : (q c : ℕ) (cs : List ℕ) (d' : Dir) (ρ : Rec) → P.at c ≡ ρ → SimpleOk P c → P.first q < c → c < P.last q → Good P q cs → length (c ∷ cs) ≤ 64
        → side (P.at c) c (opp d') ≡ c → resumed_of tab c (dir_number d) ≡ dir_number d' → behind_of tab c (dir_number d) ≡ c → Fate P (frames g (c ∷ cs)) σ (ruled (returned_of (spot_at (frames g (c ∷ cs)) d (c ∷ cs) x) tab) σ) (ok (leave c d' cs, σ))
    unfolding returned_of
    back q c cs d' ρ ac o lo hi good n sc rs bh =
        let F' = fit t P q cs good (omega arith) c d' lo hi in
        let old : frames g (c ∷ cs) ≡ called c ∷ (P.encl c ++ stack P cs) = rw en in
        let new : P.encl c ++ stack P cs ≡ P.encl (gap c d') ++ stack P cs = ap (λ H. H ++ stack P cs) (encl_gap t (accepted_wf A) c d' o) in
        let r : length (P.encl c ++ stack P cs) < 1104 = omega (arith, deeper, ap length new) in
        let z : eqb (suc (length cs)) 0 ≡ false = ne_eqb (suc (length cs)) 0 (λ e. omega arith) in
        let tl : top_label (frames g (c ∷ cs)) ≡ c = ap top_label old in
        rw (z, tl, rs, bh) (
          refl,
          lands A T (frames g (c ∷ cs)) m c d' cs F' (omega arith) refl (sym sc) refl
              (subst (λ H. Acts A T (frames g (c ∷ cs)) m H) new (subst (λ H. Acts A T H m (P.encl c ++ stack P cs)) (sym old) (acts_pop A T (P.encl c ++ stack P cs) r (called c) m cnt (slot_top A T _ _ (ap length old)) refl refl))),
          less (length cs),
          refl,
          F',
        )
      where
        m : Moved
        m = moving 0 (dir_number d') c (along_of tab (dir_number d') c) (suc (length cs) - 1) (length (frames g (c ∷ cs)) - 1) (slot_of (length (frames g (c ∷ cs)))) 0 0

        less : (n : ℕ) → suc n - 1 ≡ n
        less n = omega arith

        cnt : length (frames g (c ∷ cs)) - 1 ≡ length (P.encl c ++ stack P cs)
        cnt = ap (λ H. length (H ++ stack P (c ∷ cs)) - 1) en ∙ less (length (P.encl c ++ stack P cs))

        deeper : length (P.encl c ++ stack P cs) < 1104
        deeper = omega (arith, encl_room A c, stack_room A cs, length-append (P.encl c) (stack P cs))

    pub return_fate : (q : ℕ) (cs : List ℕ) → Good P q cs → length cs ≤ 64 → Returns cs
    unfolding through returned_of kind
    return_fate q cs in_main n = (refl, refl)
    return_fate q cs (by_call {q' = q'} {c = c} {cs = cs'} ac lo hi o) n =
        let h = inside A q' c (omega arith) (omega arith) in
        let s : SimpleOk P c = (rw ac at ((w A T G).here c)).1 in
        let rs : resumed_of tab c (dir_number d) ≡ dir_number d = rw (kind_at_lem A T G c h (call_l q) ac) in
        let bh = behind_call tab c (dir_number d) (kind_at_lem A T G c h (call_l q) ac) in
        rw ac (back q' c cs' d (call_l q) ac s lo hi o n (rw ac (side_call q c (opp d))) rs bh)
    return_fate q cs (by_uncall {q' = q'} {c = c} {cs = cs'} ac lo hi o) n =
        let h = inside A q' c (omega arith) (omega arith) in
        let s : SimpleOk P c = (rw ac at ((w A T G).here c)).1 in
        let rs : resumed_of tab c (dir_number d) ≡ dir_number (opp d) = rw (kind_at_lem A T G c h (uncall_l q) ac) (other_is d) in
        let bh = behind_uncall tab c (dir_number d) (kind_at_lem A T G c h (uncall_l q) ac) in
        rw ac (back q' c cs' (opp d) (uncall_l q) ac s lo hi o n (rw ac (side_uncall q c (opp (opp d)))) rs bh)
