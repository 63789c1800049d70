-- The decision does what the step on cuts says, for the records that test, assign and pass: one case for each kind and direction.
use Prim.Native.Nat.{ℕ, suc, ◌+◌, ◌≤◌, ◌<◌, pred}
use mathlib.Core.Path.{◌≡◌, refl, sym, ap, ◌∙◌}
use mathlib.Core.Bool.{true, false, cond, beq as same}
use mathlib.Core.List.{List, ◌∷◌, ◌++◌}
use lib.ListN.{length}
use native.Mathlib.Omega.{arith}
use borrow.Author.Tests.{eq-eqb}
use Rattle.expr.specs.Tree.{Expr}
use Rattle.place.specs.Places.{Dir, down, up, opp, Frame, in_then, in_else, in_do, in_loop, frame_kind, frame_label}
use Rattle.place.specs.Slots.{dir_number}
use Rattle.records.specs.Records.{Target, kind}
use Rattle.order.specs.Trees.{Tree, records_of}
use Rattle.program.specs.Says.{Accepts}
use Rattle.moves.specs.Stores.{Reason, at_end, wrong_value, zero_divisor, bad_index, too_deep, number, Answer, ok, no, bind, Store, holds, assigned}
use Rattle.moves.specs.Step.{again, must}
use Rattle.moves.proofs.Linked.{Con, Rec, set_l, skip_l, if_l, fi_l, from_l, until_l, Prog, forget, side}
use Rattle.moves.proofs.Cuts.{Cut, met, gap, leave, SimpleOk, CondOk, LoopOk, Span, Sits}
use Rattle.moves.proofs.Loop.{fit1, fit3, lo_met, hi_met, pos1}
use Rattle.moves.proofs.Rows.{prog}
use Rattle.moves.proofs.View.{stack, fresh_stack, encl_left}
use Rattle.table.proofs.Tabled.{Tabled, is_if, is_fi, is_from, is_until}
use Rattle.ways.specs.Looks.{look_in, along_of}
use Rattle.decide.specs.Decide.{Seen, kept_of, pushed_of, popped_of, changed_of, chosen_of, closed_of, opened_of, repeated_of, tested_of, assigned_of, ruled, Rules, rule_of}
use Rattle.decide.specs.Sets.{Leaves, set_at}
use Rattle.decide.proofs.Rules.{rule_set, rule_skip}
use Rattle.machine.proofs.Labels.{small, inside}
use Rattle.machine.proofs.Landing.{top_kind, spot_at, again_is, Fate, keeps, pushes, pops, changes}
use Rattle.machine.proofs.Sets.{Stands, Agrees, set_is}
use Rattle.machine.proofs.Decided.{w, fate_of, kind_at_lem, head_at, record_is, middle_at, tail_at, test_fate, tree_if, tree_fi, tree_from, tree_until, close_then, close_else, open_out, open_in}

module _ {f : List ℕ} {t : Tree} (A : Accepts f t) {tab : List ℕ} (T : Tabled t f tab) {bytes arr : List ℕ} (G : Agrees t f bytes arr) where
  abbrev P : Prog
  P = prog t

  abbrev frames : ℕ → List ℕ → List Frame
  frames g cs = P.encl g ++ stack P cs

  abbrev Does : (g : ℕ) (d : Dir) (cs : List ℕ) (b : ℕ) → Store → Answer (Cut × Store) → Type 0
  Does g d cs b σ a = Fate P (frames g cs) σ (rule_of bytes tab arr (spot_at (frames g cs) d cs b) σ) a

  -- a label of a construct that a record met is a part of is a record's
  within : (g : ℕ) (d : Dir) (cs : List ℕ) → Sits P (record { g = g; d = d; cs = cs }) → (c : Con) → Span P c → c.l ≤ met g d → met g d ≤ c.r
      → (x : ℕ) → c.l ≤ x → x ≤ c.r → x < length (records_of t)
  within g d cs F c k lo hi x a b =
      let n = k.near F.q (met g d) lo hi (lo_met t P g d cs F) (hi_met t P g d cs F) in
      inside A F.q x (omega arith) (omega arith)

  refused_number : (S : Seen) (r : Reason) → (assigned_of S (number r) tab).reason ≡ number r
  refused_number S at_end = refl
  refused_number S wrong_value = refl
  refused_number S zero_divisor = refl
  refused_number S bad_index = refl
  refused_number S too_deep = refl

  top_kind_lem : (g : ℕ) (cs : List ℕ) (i : Frame) (H : List Frame) → P.encl g ≡ i ∷ H → top_kind (frames g cs) ≡ frame_kind i
  top_kind_lem g cs i H e = ap (λ x. top_kind (x ++ stack P cs)) e

  module _ (g : ℕ) (d : Dir) (cs : List ℕ) (σ : Store) (F : Sits P (record { g = g; d = d; cs = cs })) where
    module _ (c : Con) (k : Span P c) (lo : c.l ≤ met g d) (hi : met g d ≤ c.r) where
      there : (x : ℕ) → c.l ≤ x → x ≤ c.r → x < length (records_of t)
      there = within g d cs F c k lo hi

      at_y : (y : ℕ) → c.l ≤ y → y ≤ c.r → Sits P (leave y d cs)
      at_y y a b = fit3 t P g d cs F c k lo hi y a b

      over : (y : ℕ) → c.l ≤ y → 0 < y
      over y a = let p = k.pos in omega arith

    -- SET and SKIP
    module _ (k : SimpleOk P (met g d)) where
      simple : met g d < length (records_of t)
      simple = inside A F.q (met g d) (lo_met t P g d cs F) (hi_met t P g d cs F)

      low : met g d < 1024
      low = let s = small A in let h = simple in omega arith

      pub skip_fate : P.at (met g d) ≡ skip_l → side (P.at (met g d)) (met g d) (opp d) ≡ met g d → Does g d cs (met g d) σ (ok (leave (met g d) d cs, σ))
      unfolding kind
      skip_fate e s =
          fate_of P (frames g cs) σ (rule_of bytes tab arr (spot_at (frames g cs) d cs (met g d)) σ) (kept_of (spot_at (frames g cs) d cs (met g d)) (along_of tab (dir_number d) (met g d))) σ (ok (leave (met g d) d cs, σ))
          (rule_skip bytes tab arr (spot_at (frames g cs) d cs (met g d)) σ 13 (look_in tab (met g d)) (sym (kind_at_lem A T G (met g d) simple skip_l e)) refl (kept_of (spot_at (frames g cs) d cs (met g d)) (along_of tab (dir_number d) (met g d))) low (λ z. omega arith) (along_of tab (dir_number d) (met g d)) refl refl refl)
          (keeps A T g d cs F (met g d) (met g d) (met g d) (fit1 t P g d cs F k) (pos1 t P g d cs F k) s refl σ (encl_left t (w A T G) g d k))

      pub set_fate : (o : ℕ) (x : Target) (e : Expr) → P.at (met g d) ≡ set_l o x e → side (P.at (met g d)) (met g d) (opp d) ≡ met g d
          → Does g d cs (met g d) σ (bind (assigned t o x e d σ) (λ σ'. ok (leave (met g d) d cs, σ')))
      unfolding kind bind
      set_fate o x e q s = go (assigned t o x e d σ) (set_is t arr G σ (look_in tab (met g d)) d o x e (record_is A T G (met g d) simple (set_l o x e) q))
        where
          rules : (n : ℕ) (τ : Store) → Leaves (set_at bytes (look_in tab (met g d)) (dir_number d) arr σ) σ n τ → Rules (rule_of bytes tab arr (spot_at (frames g cs) d cs (met g d)) σ) (assigned_of (spot_at (frames g cs) d cs (met g d)) n tab) τ
          rules n τ l = rule_set bytes tab arr (spot_at (frames g cs) d cs (met g d)) σ 4 (look_in tab (met g d)) (sym (kind_at_lem A T G (met g d) simple (set_l o x e) q)) refl (assigned_of (spot_at (frames g cs) d cs (met g d)) n tab) low n τ refl refl l

          go : (a : Answer Store) → set_at bytes (look_in tab (met g d)) (dir_number d) arr σ ≡ a → Does g d cs (met g d) σ (bind a (λ σ'. ok (leave (met g d) d cs, σ')))
          go (ok τ) h =
              let l : Leaves (set_at bytes (look_in tab (met g d)) (dir_number d) arr σ) σ 0 τ = rw h (refl, refl) in
              let r = rules 0 τ l in
              let z = keeps A T g d cs F (met g d) (met g d) (met g d) (fit1 t P g d cs F k) (pos1 t P g d cs F k) s refl σ (encl_left t (w A T G) g d k) in
              fate_of P (frames g cs) σ (rule_of bytes tab arr (spot_at (frames g cs) d cs (met g d)) σ) (assigned_of (spot_at (frames g cs) d cs (met g d)) 0 tab) τ (ok (leave (met g d) d cs, τ)) r (refl, z.1, refl, refl, z.4)
          go (no r) h =
              fate_of P (frames g cs) σ (rule_of bytes tab arr (spot_at (frames g cs) d cs (met g d)) σ) (assigned_of (spot_at (frames g cs) d cs (met g d)) (number r) tab) σ (no r) (rules (number r) σ (let l : Leaves (set_at bytes (look_in tab (met g d)) (dir_number d) arr σ) σ (number r) σ = rw h (refl, refl) in l))
              (refused_number (spot_at (frames g cs) d cs (met g d)) r, refl)

    -- ---- the records of constructs; b is the label that is shown, c the construct that the record met is a part of
    module _ (c : Con) (k : Span P c) (lo : c.l ≤ met g d) (hi : met g d ≤ c.r) (b : ℕ) (lb : c.l ≤ b) (br : b ≤ c.r) where
      abbrev S : Seen
      S = spot_at (frames g cs) d cs b

      kinds : (ρ : Rec) → P.at b ≡ ρ → (b < 1024) × (look_in tab (1024 + b) ≡ kind (forget ρ))
      kinds ρ e = let h = there c k lo hi b lb br in let s = small A in (omega arith, kind_at_lem A T G b h ρ e)

      reads : (ρ : Rec) → P.at b ≡ ρ → Stands (kind (forget ρ)) bytes (look_in tab b) (forget ρ)
      reads ρ e = record_is A T G b (there c k lo hi b lb br) ρ e

      -- a frame is pushed
      choose : (y y' : ℕ) (i : Frame) (n : ℕ) → c.l ≤ y → y ≤ c.r → side (P.at y) y (opp d) ≡ b → y' ≡ y → n ≡ frame_kind i → look_in tab (2048 + b) ≡ frame_label i
          → i ∷ P.encl g ≡ P.encl (gap y d) → Fate P (frames g cs) σ (ruled (pushed_of S (along_of tab (dir_number d) y') n (look_in tab (2048 + b))) σ) (ok (leave y d cs, σ))
      choose y y' i n a z s q nk l en = pushes A T g d cs F b y y' (at_y c k lo hi y a z) (over c k lo hi y a) s q σ i n (look_in tab (2048 + b)) nk l en

      -- a frame is popped
      popping : (y y' : ℕ) (i : Frame) (H : List Frame) → c.l ≤ y → y ≤ c.r → side (P.at y) y (opp d) ≡ b → y' ≡ y → P.encl g ≡ i ∷ H → H ≡ P.encl (gap y d)
          → Fate P (frames g cs) σ (ruled (popped_of S (along_of tab (dir_number d) y')) σ) (ok (leave y d cs, σ))
      popping y y' i H a z s q en en' = pops A T g d cs F b y y' (at_y c k lo hi y a z) (over c k lo hi y a) s q σ i H en en'

      -- a frame gets another kind
      changing : (y y' : ℕ) (i j : Frame) (H : List Frame) (n : ℕ) → c.l ≤ y → y ≤ c.r → side (P.at y) y (opp d) ≡ b → y' ≡ y → P.encl g ≡ i ∷ H → n ≡ frame_kind j
          → frame_label i ≡ frame_label j → j ∷ H ≡ P.encl (gap y d)
          → Fate P (frames g cs) σ (ruled (changed_of S (along_of tab (dir_number d) y') n) σ) (ok (leave y d cs, σ))
      changing y y' i j H n a z s q en nk l en' = changes A T g d cs F b y y' (at_y c k lo hi y a z) (over c k lo hi y a) s q σ i j H n en nk l en'

  again_top : (g : ℕ) (cs : List ℕ) (i : ℕ) (H : List Frame) → P.encl g ≡ in_loop i ∷ H → again i (frames g cs) ≡ true
  again_top g cs i H e = rw e (eq-eqb i i refl)

  pub if_down : (g : ℕ) (cs : List ℕ) (σ : Store) (F : Sits P (record { g = g; d = down; cs = cs })) (c : Con) → suc g ≡ c.l → CondOk P c → Does g down cs (suc g) σ (bind (holds t σ c.e₁) (λ v. ok (leave (cond v (suc g) c.m) down cs, σ)))
  unfolding kind tested_of chosen_of closed_of opened_of repeated_of
  if_down g cs σ F c h k =
      test_fate A T G (frames g cs) σ (spot_at (frames g cs) down cs (suc g)) 5 c.e₁ (λ v. ok (leave (cond v (suc g) c.m) down cs, σ)) (kinds g down cs σ F c k.span (omega arith) (omega arith) (suc g) (omega arith) (omega arith) (if_l c) (let z : P.at (suc g) ≡ if_l c = cc in z)) (omega arith) (omega arith) (tree_if A T G (look_in tab (suc g)) c.e₁ (reads g down cs σ F c k.span (omega arith) (omega arith) (suc g) (omega arith) (omega arith) (if_l c) (let z : P.at (suc g) ≡ if_l c = cc in z)))
      (choose g down cs σ F c k.span (omega arith) (omega arith) (suc g) (omega arith) (omega arith) (suc g) (suc g) (in_then c.l) 0 (omega arith) (omega arith) (rw (let z : P.at (suc g) ≡ if_l c = cc in z)) refl refl (head_at A T G (suc g) (there g down cs σ F c k.span (omega arith) (omega arith) (suc g) (omega arith) (omega arith)) (if_l c) (let z : P.at (suc g) ≡ if_l c = cc in z)) (cc))
      (choose g down cs σ F c k.span (omega arith) (omega arith) (suc g) (omega arith) (omega arith) c.m (look_in tab (3072 + suc g)) (in_else c.l) 1 (omega arith) (omega arith) (rw k.at_m (sym h)) (middle_at A T G (suc g) (there g down cs σ F c k.span (omega arith) (omega arith) (suc g) (omega arith) (omega arith)) c (is_if (let z : P.at (suc g) ≡ if_l c = cc in z))) refl (head_at A T G (suc g) (there g down cs σ F c k.span (omega arith) (omega arith) (suc g) (omega arith) (omega arith)) (if_l c) (let z : P.at (suc g) ≡ if_l c = cc in z)) (cc))

  pub if_up : (g : ℕ) (cs : List ℕ) (σ : Store) (F : Sits P (record { g = g; d = up; cs = cs })) (c : Con) → g ≡ c.l → CondOk P c → Does g up cs (g) σ (bind (holds t σ c.e₁) (λ v. must (same v true) (leave (g) up cs, σ)))
  unfolding kind tested_of chosen_of closed_of opened_of repeated_of
  if_up g cs σ F c h k =
      let p = close_then A T G (frames g cs) σ (spot_at (frames g cs) up cs (g)) (ok (leave (g) up cs, σ)) (top_kind_lem g cs (in_then c.l) (P.encl (pred c.l)) (cc)) (popping g up cs σ F c k.span (omega arith) (omega arith) (g) (omega arith) (omega arith) (g) (g) (in_then c.l) (P.encl (pred c.l)) (omega arith) (omega arith) (rw (let z : P.at (g) ≡ if_l c = cc in z)) refl (cc) (cc)) in
      test_fate A T G (frames g cs) σ (spot_at (frames g cs) up cs (g)) 5 c.e₁ (λ v. must (same v true) (leave (g) up cs, σ)) (kinds g up cs σ F c k.span (omega arith) (omega arith) (g) (omega arith) (omega arith) (if_l c) (let z : P.at (g) ≡ if_l c = cc in z)) (omega arith) (omega arith) (tree_if A T G (look_in tab (g)) c.e₁ (reads g up cs σ F c k.span (omega arith) (omega arith) (g) (omega arith) (omega arith) (if_l c) (let z : P.at (g) ≡ if_l c = cc in z)))
      p.0
      p.1

  pub else_down : (g : ℕ) (cs : List ℕ) (σ : Store) (F : Sits P (record { g = g; d = down; cs = cs })) (c : Con) → suc g ≡ c.m → CondOk P c → Does g down cs c.r σ (bind (holds t σ c.e₂) (λ v. must (same v true) (leave c.r down cs, σ)))
  unfolding kind tested_of chosen_of closed_of opened_of repeated_of
  else_down g cs σ F c h k =
      let p = close_then A T G (frames g cs) σ (spot_at (frames g cs) down cs c.r) (ok (leave c.r down cs, σ)) (top_kind_lem g cs (in_then c.l) (P.encl (pred c.l)) (cc)) (popping g down cs σ F c k.span (omega arith) (omega arith) c.r (omega arith) (omega arith) c.r c.r (in_then c.l) (P.encl (pred c.l)) (omega arith) (omega arith) (rw k.at_r) refl (cc) (cc)) in
      test_fate A T G (frames g cs) σ (spot_at (frames g cs) down cs c.r) 7 c.e₂ (λ v. must (same v true) (leave c.r down cs, σ)) (kinds g down cs σ F c k.span (omega arith) (omega arith) c.r (omega arith) (omega arith) (fi_l c) k.at_r) (omega arith) (omega arith) (tree_fi A T G (look_in tab c.r) c.e₂ (reads g down cs σ F c k.span (omega arith) (omega arith) c.r (omega arith) (omega arith) (fi_l c) k.at_r))
      p.0
      p.1

  pub else_up : (g : ℕ) (cs : List ℕ) (σ : Store) (F : Sits P (record { g = g; d = up; cs = cs })) (c : Con) → g ≡ c.m → CondOk P c → Does g up cs c.l σ (bind (holds t σ c.e₁) (λ v. must (same v false) (leave c.l up cs, σ)))
  unfolding kind tested_of chosen_of closed_of opened_of repeated_of
  else_up g cs σ F c h k =
      let p = close_else A T G (frames g cs) σ (spot_at (frames g cs) up cs c.l) (ok (leave c.l up cs, σ)) (top_kind_lem g cs (in_else c.l) (P.encl (pred c.l)) (cc)) (popping g up cs σ F c k.span (omega arith) (omega arith) c.l (omega arith) (omega arith) c.l c.l (in_else c.l) (P.encl (pred c.l)) (omega arith) (omega arith) (rw k.at_l) refl (cc) (cc)) in
      test_fate A T G (frames g cs) σ (spot_at (frames g cs) up cs c.l) 5 c.e₁ (λ v. must (same v false) (leave c.l up cs, σ)) (kinds g up cs σ F c k.span (omega arith) (omega arith) c.l (omega arith) (omega arith) (if_l c) k.at_l) (omega arith) (omega arith) (tree_if A T G (look_in tab c.l) c.e₁ (reads g up cs σ F c k.span (omega arith) (omega arith) c.l (omega arith) (omega arith) (if_l c) k.at_l))
      p.1
      p.0

  pub fi_down : (g : ℕ) (cs : List ℕ) (σ : Store) (F : Sits P (record { g = g; d = down; cs = cs })) (c : Con) → suc g ≡ c.r → CondOk P c → Does g down cs (suc g) σ (bind (holds t σ c.e₂) (λ v. must (same v false) (leave (suc g) down cs, σ)))
  unfolding kind tested_of chosen_of closed_of opened_of repeated_of
  fi_down g cs σ F c h k =
      let p = close_else A T G (frames g cs) σ (spot_at (frames g cs) down cs (suc g)) (ok (leave (suc g) down cs, σ)) (top_kind_lem g cs (in_else c.l) (P.encl (pred c.l)) (cc)) (popping g down cs σ F c k.span (omega arith) (omega arith) (suc g) (omega arith) (omega arith) (suc g) (suc g) (in_else c.l) (P.encl (pred c.l)) (omega arith) (omega arith) (rw (let z : P.at (suc g) ≡ fi_l c = cc in z)) refl (cc) (cc)) in
      test_fate A T G (frames g cs) σ (spot_at (frames g cs) down cs (suc g)) 7 c.e₂ (λ v. must (same v false) (leave (suc g) down cs, σ)) (kinds g down cs σ F c k.span (omega arith) (omega arith) (suc g) (omega arith) (omega arith) (fi_l c) (let z : P.at (suc g) ≡ fi_l c = cc in z)) (omega arith) (omega arith) (tree_fi A T G (look_in tab (suc g)) c.e₂ (reads g down cs σ F c k.span (omega arith) (omega arith) (suc g) (omega arith) (omega arith) (fi_l c) (let z : P.at (suc g) ≡ fi_l c = cc in z)))
      p.1
      p.0

  pub fi_up : (g : ℕ) (cs : List ℕ) (σ : Store) (F : Sits P (record { g = g; d = up; cs = cs })) (c : Con) → g ≡ c.r → CondOk P c → Does g up cs (g) σ (bind (holds t σ c.e₂) (λ v. ok (leave (cond v c.m (g)) up cs, σ)))
  unfolding kind tested_of chosen_of closed_of opened_of repeated_of
  fi_up g cs σ F c h k =
      test_fate A T G (frames g cs) σ (spot_at (frames g cs) up cs (g)) 7 c.e₂ (λ v. ok (leave (cond v c.m (g)) up cs, σ)) (kinds g up cs σ F c k.span (omega arith) (omega arith) (g) (omega arith) (omega arith) (fi_l c) (let z : P.at (g) ≡ fi_l c = cc in z)) (omega arith) (omega arith) (tree_fi A T G (look_in tab (g)) c.e₂ (reads g up cs σ F c k.span (omega arith) (omega arith) (g) (omega arith) (omega arith) (fi_l c) (let z : P.at (g) ≡ fi_l c = cc in z)))
      (choose g up cs σ F c k.span (omega arith) (omega arith) (g) (omega arith) (omega arith) c.m (look_in tab (3072 + g)) (in_then c.l) 0 (omega arith) (omega arith) (rw k.at_m (sym h)) (middle_at A T G (g) (there g up cs σ F c k.span (omega arith) (omega arith) (g) (omega arith) (omega arith)) c (is_fi (let z : P.at (g) ≡ fi_l c = cc in z))) refl (head_at A T G (g) (there g up cs σ F c k.span (omega arith) (omega arith) (g) (omega arith) (omega arith)) (fi_l c) (let z : P.at (g) ≡ fi_l c = cc in z)) (cc))
      (choose g up cs σ F c k.span (omega arith) (omega arith) (g) (omega arith) (omega arith) (g) (g) (in_else c.l) 1 (omega arith) (omega arith) (rw (let z : P.at (g) ≡ fi_l c = cc in z)) refl refl (head_at A T G (g) (there g up cs σ F c k.span (omega arith) (omega arith) (g) (omega arith) (omega arith)) (fi_l c) (let z : P.at (g) ≡ fi_l c = cc in z)) (cc))

  pub from_down : (g : ℕ) (cs : List ℕ) (σ : Store) (F : Sits P (record { g = g; d = down; cs = cs })) (c : Con) → suc g ≡ c.l → LoopOk P c → Does g down cs (suc g) σ (bind (holds t σ c.e₁) (λ v. must (same v true) (leave (suc g) down cs, σ)))
  unfolding kind tested_of chosen_of closed_of opened_of repeated_of
  from_down g cs σ F c h k =
      let p = open_out A T G (frames g cs) σ (spot_at (frames g cs) down cs (suc g)) (ok (leave (suc g) down cs, σ)) (suc g) (again_is (frames g cs) down cs (suc g) (look_in tab (2048 + (suc g))) ∙ ap (λ x. again x (frames g cs)) (head_at A T G (suc g) (there g down cs σ F c k.span (omega arith) (omega arith) (suc g) (omega arith) (omega arith)) (from_l c) (let z : P.at (suc g) ≡ from_l c = cc in z)) ∙ fresh_stack P c.l (P.encl g) cs (let f = k.fresh c.l (omega arith) in cc))
      (choose g down cs σ F c k.span (omega arith) (omega arith) (suc g) (omega arith) (omega arith) (suc g) (suc g) (in_do c.l) 2 (omega arith) (omega arith) (rw (let z : P.at (suc g) ≡ from_l c = cc in z)) refl refl (head_at A T G (suc g) (there g down cs σ F c k.span (omega arith) (omega arith) (suc g) (omega arith) (omega arith)) (from_l c) (let z : P.at (suc g) ≡ from_l c = cc in z)) (cc)) in
      test_fate A T G (frames g cs) σ (spot_at (frames g cs) down cs (suc g)) 8 c.e₁ (λ v. must (same v true) (leave (suc g) down cs, σ)) (kinds g down cs σ F c k.span (omega arith) (omega arith) (suc g) (omega arith) (omega arith) (from_l c) (let z : P.at (suc g) ≡ from_l c = cc in z)) (omega arith) (omega arith) (tree_from A T G (look_in tab (suc g)) c.e₁ (reads g down cs σ F c k.span (omega arith) (omega arith) (suc g) (omega arith) (omega arith) (from_l c) (let z : P.at (suc g) ≡ from_l c = cc in z)))
      p.0
      p.1

  pub from_up : (g : ℕ) (cs : List ℕ) (σ : Store) (F : Sits P (record { g = g; d = up; cs = cs })) (c : Con) → g ≡ c.l → LoopOk P c → Does g up cs (g) σ (bind (holds t σ c.e₁) (λ v. ok (leave (cond v (g) c.r) up cs, σ)))
  unfolding kind tested_of chosen_of closed_of opened_of repeated_of
  from_up g cs σ F c h k =
      test_fate A T G (frames g cs) σ (spot_at (frames g cs) up cs (g)) 8 c.e₁ (λ v. ok (leave (cond v (g) c.r) up cs, σ)) (kinds g up cs σ F c k.span (omega arith) (omega arith) (g) (omega arith) (omega arith) (from_l c) (let z : P.at (g) ≡ from_l c = cc in z)) (omega arith) (omega arith) (tree_from A T G (look_in tab (g)) c.e₁ (reads g up cs σ F c k.span (omega arith) (omega arith) (g) (omega arith) (omega arith) (from_l c) (let z : P.at (g) ≡ from_l c = cc in z)))
      (popping g up cs σ F c k.span (omega arith) (omega arith) (g) (omega arith) (omega arith) (g) (g) (in_do c.l) (P.encl (pred c.l)) (omega arith) (omega arith) (rw (let z : P.at (g) ≡ from_l c = cc in z)) refl (cc) (cc))
      (changing g up cs σ F c k.span (omega arith) (omega arith) (g) (omega arith) (omega arith) c.r (look_in tab (4096 + g)) (in_do c.l) (in_loop c.l) (P.encl (pred c.l)) 3 (omega arith) (omega arith) (rw k.at_r (sym h)) (tail_at A T G (g) (there g up cs σ F c k.span (omega arith) (omega arith) (g) (omega arith) (omega arith)) c (is_from (let z : P.at (g) ≡ from_l c = cc in z))) (cc) refl refl (cc))

  pub loop_down : (g : ℕ) (cs : List ℕ) (σ : Store) (F : Sits P (record { g = g; d = down; cs = cs })) (c : Con) → suc g ≡ c.m → LoopOk P c → Does g down cs c.r σ (bind (holds t σ c.e₂) (λ v. ok (leave (cond v c.r c.m) down cs, σ)))
  unfolding kind tested_of chosen_of closed_of opened_of repeated_of
  loop_down g cs σ F c h k =
      test_fate A T G (frames g cs) σ (spot_at (frames g cs) down cs c.r) 10 c.e₂ (λ v. ok (leave (cond v c.r c.m) down cs, σ)) (kinds g down cs σ F c k.span (omega arith) (omega arith) c.r (omega arith) (omega arith) (until_l c) k.at_r) (omega arith) (omega arith) (tree_until A T G (look_in tab c.r) c.e₂ (reads g down cs σ F c k.span (omega arith) (omega arith) c.r (omega arith) (omega arith) (until_l c) k.at_r))
      (popping g down cs σ F c k.span (omega arith) (omega arith) c.r (omega arith) (omega arith) c.r c.r (in_do c.l) (P.encl (pred c.l)) (omega arith) (omega arith) (rw k.at_r) refl (cc) (cc))
      (changing g down cs σ F c k.span (omega arith) (omega arith) c.r (omega arith) (omega arith) c.m (look_in tab (3072 + c.r)) (in_do c.l) (in_loop c.l) (P.encl (pred c.l)) 3 (omega arith) (omega arith) (rw k.at_m) (middle_at A T G c.r (there g down cs σ F c k.span (omega arith) (omega arith) c.r (omega arith) (omega arith)) c (is_until k.at_r)) (cc) refl refl (cc))

  pub loop_up : (g : ℕ) (cs : List ℕ) (σ : Store) (F : Sits P (record { g = g; d = up; cs = cs })) (c : Con) → g ≡ c.m → LoopOk P c → Does g up cs c.r σ (bind (holds t σ c.e₂) (λ v. must (same v false) (leave c.m up cs, σ)))
  unfolding kind tested_of chosen_of closed_of opened_of repeated_of
  loop_up g cs σ F c h k =
      let p = open_in A T G (frames g cs) σ (spot_at (frames g cs) up cs c.r) (ok (leave c.m up cs, σ)) (look_in tab (3072 + c.r)) (again_is (frames g cs) up cs c.r (look_in tab (2048 + c.r)) ∙ ap (λ x. again x (frames g cs)) (head_at A T G c.r (there g up cs σ F c k.span (omega arith) (omega arith) c.r (omega arith) (omega arith)) (until_l c) k.at_r) ∙ again_top g cs c.l (P.encl (pred c.l)) (cc))
      (changing g up cs σ F c k.span (omega arith) (omega arith) c.r (omega arith) (omega arith) c.m (look_in tab (3072 + c.r)) (in_loop c.l) (in_do c.l) (P.encl (pred c.l)) 2 (omega arith) (omega arith) (rw k.at_m) (middle_at A T G c.r (there g up cs σ F c k.span (omega arith) (omega arith) c.r (omega arith) (omega arith)) c (is_until k.at_r)) (cc) refl refl (cc)) in
      test_fate A T G (frames g cs) σ (spot_at (frames g cs) up cs c.r) 10 c.e₂ (λ v. must (same v false) (leave c.m up cs, σ)) (kinds g up cs σ F c k.span (omega arith) (omega arith) c.r (omega arith) (omega arith) (until_l c) k.at_r) (omega arith) (omega arith) (tree_until A T G (look_in tab c.r) c.e₂ (reads g up cs σ F c k.span (omega arith) (omega arith) c.r (omega arith) (omega arith) (until_l c) k.at_r))
      p.1
      p.0

  pub until_down : (g : ℕ) (cs : List ℕ) (σ : Store) (F : Sits P (record { g = g; d = down; cs = cs })) (c : Con) → suc g ≡ c.r → LoopOk P c → Does g down cs c.l σ (bind (holds t σ c.e₁) (λ v. must (same v false) (leave c.l down cs, σ)))
  unfolding kind tested_of chosen_of closed_of opened_of repeated_of
  until_down g cs σ F c h k =
      let p = open_in A T G (frames g cs) σ (spot_at (frames g cs) down cs c.l) (ok (leave c.l down cs, σ)) c.l (again_is (frames g cs) down cs c.l (look_in tab (2048 + c.l)) ∙ ap (λ x. again x (frames g cs)) (head_at A T G c.l (there g down cs σ F c k.span (omega arith) (omega arith) c.l (omega arith) (omega arith)) (from_l c) k.at_l) ∙ again_top g cs c.l (P.encl (pred c.l)) (cc))
      (changing g down cs σ F c k.span (omega arith) (omega arith) c.l (omega arith) (omega arith) c.l c.l (in_loop c.l) (in_do c.l) (P.encl (pred c.l)) 2 (omega arith) (omega arith) (rw k.at_l) refl (cc) refl refl (cc)) in
      test_fate A T G (frames g cs) σ (spot_at (frames g cs) down cs c.l) 8 c.e₁ (λ v. must (same v false) (leave c.l down cs, σ)) (kinds g down cs σ F c k.span (omega arith) (omega arith) c.l (omega arith) (omega arith) (from_l c) k.at_l) (omega arith) (omega arith) (tree_from A T G (look_in tab c.l) c.e₁ (reads g down cs σ F c k.span (omega arith) (omega arith) c.l (omega arith) (omega arith) (from_l c) k.at_l))
      p.1
      p.0

  pub until_up : (g : ℕ) (cs : List ℕ) (σ : Store) (F : Sits P (record { g = g; d = up; cs = cs })) (c : Con) → g ≡ c.r → LoopOk P c → Does g up cs (g) σ (bind (holds t σ c.e₂) (λ v. must (same v true) (leave c.m up cs, σ)))
  unfolding kind tested_of chosen_of closed_of opened_of repeated_of
  until_up g cs σ F c h k =
      let p = open_out A T G (frames g cs) σ (spot_at (frames g cs) up cs (g)) (ok (leave c.m up cs, σ)) (look_in tab (3072 + g)) (again_is (frames g cs) up cs (g) (look_in tab (2048 + g)) ∙ ap (λ x. again x (frames g cs)) (head_at A T G (g) (there g up cs σ F c k.span (omega arith) (omega arith) (g) (omega arith) (omega arith)) (until_l c) (let z : P.at (g) ≡ until_l c = cc in z)) ∙ fresh_stack P c.l (P.encl g) cs (let f = k.fresh c.l (omega arith) in cc))
      (choose g up cs σ F c k.span (omega arith) (omega arith) (g) (omega arith) (omega arith) c.m (look_in tab (3072 + g)) (in_do c.l) 2 (omega arith) (omega arith) (rw k.at_m (sym h)) (middle_at A T G (g) (there g up cs σ F c k.span (omega arith) (omega arith) (g) (omega arith) (omega arith)) c (is_until (let z : P.at (g) ≡ until_l c = cc in z))) refl (head_at A T G (g) (there g up cs σ F c k.span (omega arith) (omega arith) (g) (omega arith) (omega arith)) (until_l c) (let z : P.at (g) ≡ until_l c = cc in z)) (cc)) in
      test_fate A T G (frames g cs) σ (spot_at (frames g cs) up cs (g)) 10 c.e₂ (λ v. must (same v true) (leave c.m up cs, σ)) (kinds g up cs σ F c k.span (omega arith) (omega arith) (g) (omega arith) (omega arith) (until_l c) (let z : P.at (g) ≡ until_l c = cc in z)) (omega arith) (omega arith) (tree_until A T G (look_in tab (g)) c.e₂ (reads g up cs σ F c k.span (omega arith) (omega arith) (g) (omega arith) (omega arith) (until_l c) (let z : P.at (g) ≡ until_l c = cc in z)))
      p.0
      p.1
