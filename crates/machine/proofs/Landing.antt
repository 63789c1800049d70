-- Where a move lands: the slots after it are those of the new frames, and its labels the ends of the gap where a record is left.
use Prim.Native.Nat.{ℕ, suc, ◌-◌, ◌≤◌, ◌<◌}
use mathlib.Core.Path.{◌≡◌, refl, sym, ap, ◌∙◌, subst}
use mathlib.Core.Bool.{Bool, true, false, cond, ◌&&◌}
use mathlib.Core.List.{List, [], ◌∷◌, ◌++◌, map}
use lib.ListN.{length, length-map}
use lib.Dec.{eqb}
use native.Mathlib.Omega.{arith}
use native.Mathlib.Numerals.{add-one}
use borrow.Author.Tests.{lt-ltb, ne_eqb}
use Rattle.place.specs.declared.Place.{Place as Held}
use Rattle.place.specs.Places.{Dir, opp, Frame, frame_kind, frame_label}
use Rattle.place.specs.Slots.{dir_number, slots, held}
use Rattle.place.proofs.Laws.{push_slots, pop_slots, change_slots}
use Rattle.order.specs.Trees.{Tree}
use Rattle.program.specs.Says.{Accepts}
use Rattle.moves.specs.Stores.{number, Answer, ok, no, Store}
use Rattle.moves.specs.Step.{again}
use Rattle.moves.proofs.Linked.{Prog, side}
use Rattle.moves.proofs.Cuts.{Cut, gap, leave, Sits}
use Rattle.moves.proofs.Loop.{met_gap}
use Rattle.moves.proofs.Rows.{prog}
use Rattle.moves.proofs.Gaps.{tip}
use Rattle.moves.proofs.View.{stack, view}
use Rattle.table.proofs.Tabled.{Tabled}
use Rattle.ways.specs.Looks.{along_of}
use Rattle.decide.specs.Decide.{Seen, Moved, more_of, kept_of, pushed_of, popped_of, changed_of, again_of, Ruled, ruled, put_in, slot_of}
use Rattle.machine.proofs.Labels.{along_is}
use Rattle.fits.proofs.Few.{room}

-- ---- one list of slots
put_none : (s : List ℕ) (v : ℕ) → put_in s 1104 v ≡ s
unfolding put_in
put_none s v = refl

module _ (x : ℕ) (xs : List ℕ) (n : ℕ) (e : length xs ≡ n) (h : n < 1104) where
  put_push : put_in (slots xs) n x ≡ slots (x ∷ xs)
  unfolding put_in
  put_push = rw (lt-ltb n 1104 h) (push_slots x xs n e h)

  put_pop : put_in (slots (x ∷ xs)) n 0 ≡ slots xs
  unfolding put_in
  put_pop = rw (lt-ltb n 1104 h) (pop_slots x xs n e h)

  put_change : (y : ℕ) → put_in (slots (x ∷ xs)) n y ≡ slots (y ∷ xs)
  unfolding put_in
  put_change y = rw (lt-ltb n 1104 h) (change_slots x xs n e y)

-- ---- the struct after a move, of the frames before it
abbrev pub placed : List Frame → Moved → Held
placed fs m = record {
  direction = m.direction;
  a = m.a;
  b = m.b;
  count = m.count;
  kinds = put_in (slots (map frame_kind fs)) m.slot m.kind;
  labels = put_in (slots (map frame_label fs)) m.slot m.label;
}

-- the innermost frame, as the code sees it
abbrev pub top_kind : List Frame → ℕ
top_kind [] = 9
top_kind (f ∷ F) = frame_kind f

abbrev pub top_label : List Frame → ℕ
top_label [] = 0
top_label (f ∷ F) = frame_label f

abbrev pub spot_at : List Frame → Dir → List ℕ → ℕ → Seen
spot_at fs d cs b = record { direction = dir_number d; b = b; calls = length cs; count = length fs; kind = top_kind fs; label = top_label fs }

and_cond : (a b : Bool) → cond a b false ≡ (a && b)
and_cond true b = refl
and_cond false b = refl

pub again_is : (fs : List Frame) (d : Dir) (cs : List ℕ) (b h : ℕ) → again_of (spot_at fs d cs b) h ≡ again h fs
again_is [] d cs b h = refl
again_is (f ∷ F) d cs b h = and_cond (eqb (frame_kind f) 3) (eqb (frame_label f) h)

-- what a decision has to do for an answer of the step on cuts
abbrev pub Fate : Prog → List Frame → Store → Ruled → Answer (Cut × Store) → Type 0
Fate P fs σ x (no r) = (x.move.reason ≡ number r) × (x.store ≡ σ)
Fate P fs σ x (ok s) = (x.move.reason ≡ 0) × (placed fs x.move ≡ held (view P s.0)) × (x.move.calls ≡ length s.0.cs) × (x.store ≡ s.1) × Sits P s.0

module _ {f : List ℕ} {t : Tree} (A : Accepts f t) {tab : List ℕ} (T : Tabled t f tab) where
  abbrev P : Prog
  P = prog t

  -- the slots of fs after the move are those of fs'
  abbrev pub Acts : List Frame → Moved → List Frame → Type 0
  Acts fs m fs' =
      (m.count ≡ length fs') × (put_in (slots (map frame_kind fs)) m.slot m.kind ≡ slots (map frame_kind fs'))
      × (put_in (slots (map frame_label fs)) m.slot m.label ≡ slots (map frame_label fs'))

  pub lands : (fs : List Frame) (m : Moved) (y : ℕ) (d : Dir) (cs : List ℕ) → Sits P (leave y d cs) → 0 < y → m.direction ≡ dir_number d
      → m.a ≡ side (P.at y) y (opp d) → m.b ≡ along_of tab (dir_number d) y → Acts fs m (P.encl (gap y d) ++ stack P cs)
      → placed fs m ≡ held (view P (leave y d cs))
  lands fs m y d cs F h ed ea eb s =
      let a : m.a ≡ tip P (gap y d) (opp d) = ea ∙ ap (λ x. side (P.at x) x (opp d)) (sym (met_gap y d h)) in
      let b : m.b ≡ tip P (gap y d) d = eb ∙ along_is A T y d cs F h in
      λ i. record { direction = ed i; a = a i; b = b i; count = s.0 i; kinds = s.1 i; labels = s.2 i }

  module _ (fs : List Frame) where
    acts_keep : (m : Moved) → m.count ≡ length fs → m.slot ≡ 1104 → Acts fs m fs
    acts_keep m c s = (c, rw s (put_none (slots (map frame_kind fs)) m.kind), rw s (put_none (slots (map frame_label fs)) m.label))

    module _ (h : length fs < 1104) (g : Frame) (m : Moved) where
      pub acts_push : m.count ≡ more_of (length fs) → m.slot ≡ length fs → m.kind ≡ frame_kind g → m.label ≡ frame_label g → Acts fs m (g ∷ fs)
      acts_push c s k l = (
        c ∙ rw (lt-ltb (length fs) 1104 h) (add-one (length fs)),
        rw (s, k) (put_push (frame_kind g) (map frame_kind fs) (length fs) (length-map fs frame_kind) h),
        rw (s, l) (put_push (frame_label g) (map frame_label fs) (length fs) (length-map fs frame_label) h),
      )

      pub acts_pop : m.count ≡ length fs → m.slot ≡ length fs → m.kind ≡ 0 → m.label ≡ 0 → Acts (g ∷ fs) m fs
      acts_pop c s k l = (
        c,
        rw (s, k) (put_pop (frame_kind g) (map frame_kind fs) (length fs) (length-map fs frame_kind) h),
        rw (s, l) (put_pop (frame_label g) (map frame_label fs) (length fs) (length-map fs frame_label) h),
      )

      acts_change : (g' : Frame) → m.count ≡ suc (length fs) → m.slot ≡ length fs → m.kind ≡ frame_kind g' → m.label ≡ frame_label g' → Acts (g ∷ fs) m (g' ∷ fs)
      acts_change g' c s k l = (
        c,
        rw (s, k) (put_change (frame_kind g) (map frame_kind fs) (length fs) (length-map fs frame_kind) h (frame_kind g')),
        rw (s, l) (put_change (frame_label g) (map frame_label fs) (length fs) (length-map fs frame_label) h (frame_label g')),
      )

  less : (n : ℕ) → suc n - 1 ≡ n
  less n = omega arith

  -- the slot of the innermost frame
  pub slot_top : (n k : ℕ) → n ≡ suc k → slot_of n ≡ k
  slot_top n k e = rw (ne_eqb n 0 (λ z. omega arith)) (omega arith)

  -- ---- the four ways, by the frames around the gap before and behind
  module _ (g : ℕ) (d : Dir) (cs : List ℕ) (F₀ : Sits P (record { g = g; d = d; cs = cs })) (b y y' : ℕ) (F : Sits P (leave y d cs)) (h : 0 < y)
      (e : side (P.at y) y (opp d) ≡ b) (yy : y' ≡ y) (σ : Store) where
    abbrev fs : List Frame
    fs = P.encl g ++ stack P cs

    abbrev S : Seen
    S = spot_at (P.encl g ++ stack P cs) d cs b

    abbrev To : Moved → Type 0
    To m = Fate P (P.encl g ++ stack P cs) σ (ruled m σ) (ok (leave y d cs, σ))

    before : length (P.encl g ++ stack P cs) ≤ 1104
    before = room A (record { g = g; d = d; cs = cs }) F₀

    behind : length (P.encl (gap y d) ++ stack P cs) ≤ 1104
    behind = room A (leave y d cs) F

    to : (m : Moved) → m.reason ≡ 0 → m.calls ≡ length cs → m.direction ≡ dir_number d → m.a ≡ b → m.b ≡ along_of tab (dir_number d) y'
        → Acts (P.encl g ++ stack P cs) m (P.encl (gap y d) ++ stack P cs) → To m
    to m r c ed ea eb s = (r, lands (P.encl g ++ stack P cs) m y d cs F h ed (ea ∙ sym e) (eb ∙ ap (along_of tab (dir_number d)) yy) s, c, refl, F)

    pub keeps : P.encl g ≡ P.encl (gap y d) → To (kept_of S (along_of tab (dir_number d) y'))
    keeps k = to _ refl refl refl refl refl (subst (λ G. Acts (P.encl g ++ stack P cs) (kept_of S (along_of tab (dir_number d) y')) (G ++ stack P cs)) k (acts_keep (P.encl g ++ stack P cs) (kept_of S (along_of tab (dir_number d) y')) refl refl))

    pub pushes : (f : Frame) (k l : ℕ) → k ≡ frame_kind f → l ≡ frame_label f → f ∷ P.encl g ≡ P.encl (gap y d) → To (pushed_of S (along_of tab (dir_number d) y') k l)
    pushes f k l ek el q =
        let r : length (P.encl g ++ stack P cs) < 1104 = omega (arith, behind, ap (λ G. length (G ++ stack P cs)) q) in
        to _ refl refl refl refl refl (subst (λ G. Acts (P.encl g ++ stack P cs) (pushed_of S (along_of tab (dir_number d) y') k l) (G ++ stack P cs)) q (acts_push (P.encl g ++ stack P cs) r f (pushed_of S (along_of tab (dir_number d) y') k l) refl refl ek el))

    pub pops : (f : Frame) (G : List Frame) → P.encl g ≡ f ∷ G → G ≡ P.encl (gap y d) → To (popped_of S (along_of tab (dir_number d) y'))
    pops f G q k =
        let r : length (G ++ stack P cs) < 1104 = omega (arith, before, ap (λ H. length (H ++ stack P cs)) q) in
        let n : length (P.encl g ++ stack P cs) - 1 ≡ length (G ++ stack P cs) = ap (λ H. length (H ++ stack P cs) - 1) q ∙ less (length (G ++ stack P cs)) in
        let i : slot_of (length (P.encl g ++ stack P cs)) ≡ length (G ++ stack P cs) = slot_top _ _ (ap (λ H. length (H ++ stack P cs)) q) in
        to _ refl refl refl refl refl
        (subst (λ H. Acts (P.encl g ++ stack P cs) (popped_of S (along_of tab (dir_number d) y')) (H ++ stack P cs)) k
        (subst (λ H. Acts (H ++ stack P cs) (popped_of S (along_of tab (dir_number d) y')) (G ++ stack P cs)) (sym q) (acts_pop (G ++ stack P cs) r f (popped_of S (along_of tab (dir_number d) y')) n i refl refl)))

    pub changes : (f f' : Frame) (G : List Frame) (k : ℕ) → P.encl g ≡ f ∷ G → k ≡ frame_kind f' → frame_label f ≡ frame_label f' → f' ∷ G ≡ P.encl (gap y d)
        → To (changed_of S (along_of tab (dir_number d) y') k)
    changes f f' G k q ek el j =
        let r : length (G ++ stack P cs) < 1104 = omega (arith, before, ap (λ H. length (H ++ stack P cs)) q) in
        let c : length (P.encl g ++ stack P cs) ≡ suc (length (G ++ stack P cs)) = ap (λ H. length (H ++ stack P cs)) q in
        let n : slot_of (length (P.encl g ++ stack P cs)) ≡ length (G ++ stack P cs) = slot_top _ _ c in
        let l : top_label (P.encl g ++ stack P cs) ≡ frame_label f' = ap (λ H. top_label (H ++ stack P cs)) q ∙ el in
        to _ refl refl refl refl refl
        (subst (λ H. Acts (P.encl g ++ stack P cs) (changed_of S (along_of tab (dir_number d) y') k) (H ++ stack P cs)) j
        (subst (λ H. Acts (H ++ stack P cs) (changed_of S (along_of tab (dir_number d) y') k) (f' ∷ (G ++ stack P cs))) (sym q) (acts_change (G ++ stack P cs) r f (changed_of S (along_of tab (dir_number d) y') k) f' c n ek l)))
