-- The way outward through the frames of a place ends well exactly if they are the constructs that enclose the gap, then the calls of a row that is good.
-- Assumes nothing.
--     chained_is    the way through the slots is the way through the frames that they hold
--     sound         a way that ends well tells the calls
--     complete      the frames of a cut that sits in the program make such a way
use Prim.Native.Nat.{ℕ, zero, suc, ◌+◌, ◌≤◌, ◌<◌, pred}
use mathlib.Core.Path.{◌≡◌, refl, ap, ap₂, sym, ◌∙◌, subst}
use mathlib.Core.Bool.{Bool, true, false}
use mathlib.Core.List.{List, [], ◌∷◌, ◌++◌}
use mathlib.Core.Logic.{inl, inr}
use lib.Dec.{eqb, ltb}
use lib.ListN.{length, get_or}
use native.Mathlib.Omega.{arith}
use borrow.Author.Tests.{lt-ltb, le-ltb, eq-eqb, ltb-true, ltb-false, eqb-true}
use Rattle.std.specs.Prelude.{Option, Some, None}
use Rattle.place.specs.Slots.{frame_of, frames_in}
use Rattle.place.proofs.Held.{frame_back, kind_of_lem, label_of}
use Rattle.order.specs.Trees.{Tree, records_of}
use Rattle.program.specs.Says.{Accepts}
use Rattle.moves.specs.Edges.{Frame, in_then, in_else, in_do, in_loop, called, frame_kind, frame_label}
use Rattle.moves.proofs.Linked.{Prog}
use Rattle.moves.proofs.Cuts.{SimpleOk, Wf, Good, in_main, by_call, by_uncall}
use Rattle.moves.proofs.Rows.{prog}
use Rattle.moves.proofs.View.{stack}
use Rattle.moves.proofs.Accepted.{accepted_wf}
use Rattle.moves.proofs.Follow.{clash}
use Rattle.table.proofs.Tabled.{Tabled, open_of}
use Rattle.records.specs.Kinds.{calls}
use Rattle.fits.specs.declared.Chain.{Chain}
use Rattle.fits.specs.Fits.{entry_at, number_of, construct_of, callee_of, call_of, outward, way_out, ends, chained}
use Rattle.fits.proofs.Cases.{by}
use Rattle.fits.proofs.Nest.{Nest, bare, nested, nest, Lies, in_some}
use Rattle.moves.proofs.Whole.{there}
use Rattle.fits.proofs.Entries.{Calls, Calling, small, open_is, open_before, owner_is, callee_is, call_is, call_there}

-- One stands inside this construct, in procedure q, n calls passed.
abbrev pub stand : ℕ → ℕ → ℕ → Chain
stand o q n = record { within = o; proc = q; calls = n }

abbrev pub stood : ℕ → ℕ → ℕ → Option Chain
stood o q n = Some (stand o q n)

-- ---- the way through a list of frames
unfoldable pub chain : List ℕ → List ℕ → ℕ → List Frame → Option Chain → Bool
chain f tab records [] c = ends c
chain f tab records (x ∷ F) None = false
chain f tab records (x ∷ F) (Some c) = chain f tab records F (outward f tab records (frame_kind x) (frame_label x) c)

lost_stays : (f tab : List ℕ) (records : ℕ) (F : List Frame) → chain f tab records F None ≡ false
unfolding chain ends
lost_stays f tab records [] = refl
lost_stays f tab records (x ∷ F) = refl

way_is : (f tab : List ℕ) (records : ℕ) (ks ls : List ℕ) (n : ℕ) (c : Option Chain) → ((k : ℕ) → k < n → get_or ks k 0 ≤ 4)
    → ends (way_out f tab records ks ls n c) ≡ chain f tab records (frames_in n ks ls) c
unfolding way_out chain frames_in ends
way_is f tab records ks ls zero c s = refl
way_is f tab records ks ls (suc n) None s = sym (lost_stays f tab records (frames_in (suc n) ks ls))
way_is f tab records ks ls (suc n) (Some c) s =
    way_is f tab records ks ls n _ (λ k r. s k (omega arith))
    ∙ ap (chain f tab records (frames_in n ks ls)) (ap₂ (λ (k l : ℕ). outward f tab records k l c)
    (sym (kind_of_lem (get_or ks n 0) (get_or ls n 0) (s n (omega arith))))
    (sym (label_of (get_or ks n 0) (get_or ls n 0))))

pub chained_is : (f tab : List ℕ) (records : ℕ) (ks ls : List ℕ) (n : ℕ) (c : Chain) → ((k : ℕ) → k < n → get_or ks k 0 ≤ 4)
    → chained f tab records ks ls n c ≡ chain f tab records (frames_in n ks ls) (Some c)
chained_is f tab records ks ls n c s = way_is f tab records ks ls n (Some c) s

module _ (f tab : List ℕ) (records : ℕ) where
  -- A frame that is passed: what it was found to be.
  data Passed (k l o q n : ℕ) (F : List Frame) : Type 0 where
    construct : l < records → k < 4 → o ≡ number_of k l → chain f tab records F (Some (stand (entry_at tab 7167 l) q n)) ≡ true → Passed k l o q n F
    caller : l < records → 4 ≤ k → o ≡ 0 → calls (entry_at tab 1024 l) ≡ true → q ≡ callee_of f tab l → n < 64
        → chain f tab records F (Some (stand (entry_at tab 7168 l) (entry_at tab 8192 l) (n + 1))) ≡ true → Passed k l o q n F

  passed : (k l o q n : ℕ) (F : List Frame) → chain f tab records F (outward f tab records k l (stand o q n)) ≡ true → Passed k l o q n F
  unfolding outward construct_of call_of
  passed k l o q n F y =
      by (ltb l records)
      (λ h. by (ltb k 4)
      (λ m. by (eqb o (number_of k l))
      (λ e. construct (ltb-true _ _ h) (ltb-true _ _ m) (eqb-true _ _ e) (rw (h, m, e) at y))
      (λ e. clash (rw (h, m, e) at y) (lost_stays f tab records F)))
      (λ m. by (eqb o 0)
      (λ z. by (calls (entry_at tab 1024 l))
      (λ b. by (eqb q (callee_of f tab l))
      (λ e. by (ltb n 64)
      (λ u. caller (ltb-true _ _ h) (ltb-false _ _ m) (eqb-true _ _ z) b (eqb-true _ _ e) (ltb-true _ _ u) (rw (h, m, z, b, e, u) at y))
      (λ u. clash (rw (h, m, z, b, e, u) at y) (lost_stays f tab records F)))
      (λ e. clash (rw (h, m, z, b, e) at y) (lost_stays f tab records F)))
      (λ b. clash (rw (h, m, z, b) at y) (lost_stays f tab records F)))
      (λ z. clash (rw (h, m, z) at y) (lost_stays f tab records F))))
      (λ h. clash (rw h at y) (lost_stays f tab records F))

  ended : (o q n : ℕ) → ends (Some (stand o q n)) ≡ true → (o ≡ 0) × (q ≡ 0)
  unfolding ends
  ended o q n y = by (eqb o 0) (λ z. (eqb-true _ _ z, eqb-true _ _ (rw z at y))) (λ z. clash refl (sym (rw z at y)))

  -- the way out of a construct, and of a procedure
  out_of_construct : (k l q n : ℕ) → l < records → k < 4 → outward f tab records k l (stand (number_of k l) q n) ≡ Some (stand (entry_at tab 7167 l) q n)
  unfolding outward construct_of
  out_of_construct k l q n h m = rw (lt-ltb l records h, lt-ltb k 4 m, eq-eqb (number_of k l) (number_of k l) refl)

  out_of_call : (k l q n : ℕ) → l < records → 4 ≤ k → calls (entry_at tab 1024 l) ≡ true → q ≡ callee_of f tab l → n < 64
      → outward f tab records k l (stand 0 q n) ≡ Some (stand (entry_at tab 7168 l) (entry_at tab 8192 l) (n + 1))
  unfolding outward call_of
  out_of_call k l q n h m b e u = rw (lt-ltb l records h, le-ltb k 4 m, b, eq-eqb q (callee_of f tab l) e, lt-ltb n 64 u)

-- ---- frames and their numbers
none_open : (F : List Frame) → open_of F ≡ 0 → F ≡ []
none_open [] h = refl
none_open (x ∷ F) h = absurd (let z : ⊥ = omega arith in z)

is_called : (x : Frame) → 4 ≤ frame_kind x → x ≡ called (frame_label x)
is_called (in_then l) h = absurd (let z : ⊥ = omega arith in z)
is_called (in_else l) h = absurd (let z : ⊥ = omega arith in z)
is_called (in_do l) h = absurd (let z : ⊥ = omega arith in z)
is_called (in_loop l) h = absurd (let z : ⊥ = omega arith in z)
is_called (called l) h = refl

one_frame : (x y : Frame) → frame_label x < 1024 → frame_label y < 1024 → number_of (frame_kind x) (frame_label x) ≡ number_of (frame_kind y) (frame_label y) → x ≡ y
one_frame x y h k e =
    let i : frame_kind x ≡ frame_kind y = omega arith in
    let j : frame_label x ≡ frame_label y = omega arith in
    sym (frame_back x) ∙ (ap₂ frame_of i j ∙ frame_back y)

-- What a way that ends well tells: the labels of the calls.
pub record Found (P : Prog) (q g n : ℕ) (F : List Frame) : Type 0 where
  pub cs : List ℕ
  pub good : Good P q cs
  pub is : F ≡ P.encl g ++ stack P cs
  pub few : n + length cs ≤ 64

module _ (f : List ℕ) (t : Tree) (tab : List ℕ) (a : Accepts f t) (T : Tabled t f tab) where
  abbrev P : Prog
  P = prog t

  abbrev records : ℕ
  records = length (records_of t)

  w : Wf t P
  w = accepted_wf a

  caller_at : (c q : ℕ) → Calls P c q → SimpleOk P c
  caller_at c q (inl e) = (rw e at (w.here c)).1
  caller_at c q (inr e) = (rw e at (w.here c)).1

  caller_in : (c q : ℕ) → Calls P c q → Lies P c
  caller_in c q (inl e) = in_some t c (λ v ls h. let z : ◌≡◌ {A = ℕ} 0 1 = cc in omega arith)
  caller_in c q (inr e) = in_some t c (λ v ls h. let z : ◌≡◌ {A = ℕ} 0 1 = cc in omega arith)

  good_by : {q q' c : ℕ} {cs : List ℕ} → Calls P c q → P.first q' < c → c < P.last q' → Good P q' cs → Good P q (c ∷ cs)
  good_by (inl e) lo hi g = by_call e lo hi g
  good_by (inr e) lo hi g = by_uncall e lo hi g

  -- ---- sound
  abbrev Sound : List Frame → Type 0
  Sound F = (q g n : ℕ) → P.first q ≤ g → g < P.last q → n ≤ 64 → chain f tab records F (stood (open_of (P.encl g)) q n) ≡ true → Found P q g n F

  sound_none : Sound []
  unfolding chain
  sound_none q g n lo hi h y =
      let e = ended f tab records (open_of (P.encl g)) q n y in
      record { cs = []; good = subst (λ (x : ℕ). Good P x []) (sym e.1) in_main; is = rw (none_open (P.encl g) e.0); few = omega arith }

  module _ (x : Frame) (F : List Frame) (more : Sound F) (q g n : ℕ) (lo : P.first q ≤ g) (hi : g < P.last q) (h : n ≤ 64) where
    inside : Nest P q g → frame_label x < records → open_of (P.encl g) ≡ number_of (frame_kind x) (frame_label x)
        → chain f tab records F (stood (entry_at tab 7167 (frame_label x)) q n) ≡ true → Found P q g n (x ∷ F)
    inside (bare z) l e y = absurd (let o = ap open_of z in let u : ⊥ = omega arith in u)
    inside (nested v k p b lo' z m) l e y =
        let in-file = there t w q (frame_label v) (omega arith) (omega arith) in
        let s : length (records_of t) ≤ 1024 = small f t tab a T in
        let i : x ≡ v = one_frame x v (omega arith) (omega arith) (sym e ∙ ap open_of z) in
        let j : frame_label x ≡ frame_label v = ap frame_label i in
        let r = more q (pred (frame_label v)) n lo' (omega arith) h
        (ap (λ (o : ℕ). chain f tab records F (stood o q n)) (sym (ap (λ (m : ℕ). entry_at tab 7167 m) j ∙ open_before f t tab a T (frame_label v) in-file p)) ∙ y) in
        record { cs = r.cs; good = r.good; is = ap₂ ◌∷◌ i r.is ∙ ap (λ (G : List Frame). G ++ stack P r.cs) (sym z); few = r.few }

    outside : frame_label x < records → 4 ≤ frame_kind x → open_of (P.encl g) ≡ 0 → (k : Calling P (frame_label x)) → q ≡ callee_of f tab (frame_label x) → n < 64
        → chain f tab records F (stood (entry_at tab 7168 (frame_label x)) (entry_at tab 8192 (frame_label x)) (n + 1)) ≡ true → Found P q g n (x ∷ F)
    outside l k o c e u y =
        let b = frame_label x in
        let i : q ≡ c.q = e ∙ callee_is f t tab a T b l c.q c.calls in
        let j = caller_in b c.q c.calls in
        let s = caller_at b c.q c.calls in
        let d = s.near j.q j.lo j.hi in
        let r = more j.q b (n + 1) j.lo d.1 (omega arith)
        (ap₂ (λ (o p : ℕ). chain f tab records F (stood o p (n + 1))) (sym (open_is f t tab a T b l)) (sym (owner_is f t tab a T j.q b j.lo j.hi)) ∙ y) in
        record {
          cs = b ∷ r.cs;
          good = good_by (subst (λ (p : ℕ). Calls P b p) (sym i) c.calls) d.0 d.1 r.good;
          is = ap₂ ◌∷◌ (is_called x k) r.is ∙ ap (λ (G : List Frame). G ++ stack P (b ∷ r.cs)) (sym (none_open (P.encl g) o));
          few = omega (arith, r.few);
        }

    sound_more : Passed f tab records (frame_kind x) (frame_label x) (open_of (P.encl g)) q n F → Found P q g n (x ∷ F)
    sound_more (construct l k e y) = inside (nest t P w q g lo hi) l e y
    sound_more (caller l k o b e u y) = outside l k o (call_there f t tab a T (frame_label x) l b) e u y

  pub sound : (F : List Frame) → Sound F
  unfolding chain
  sound [] = sound_none
  sound (x ∷ F) = λ q g n lo hi h y. sound_more x F (sound F) q g n lo hi h (passed f tab records (frame_kind x) (frame_label x) (open_of (P.encl g)) q n F y)

  -- ---- complete
  within : (q n : ℕ) (F : List Frame) → chain f tab records F (stood 0 q n) ≡ true → (g : ℕ) → g < P.last q → Nest P q g
      → chain f tab records (P.encl g ++ F) (stood (open_of (P.encl g)) q n) ≡ true
  unfolding chain
  within q n F y g hi (bare z) = rw z y
  within q n F y g hi (nested x k p b lo z m) =
      let in-file = there t w q (frame_label x) (omega arith) (omega arith) in
      rw z (ap (chain f tab records (P.encl (pred (frame_label x)) ++ F))
      (out_of_construct f tab records (frame_kind x) (frame_label x) q n in-file k ∙ ap (λ (o : ℕ). stood o q n) (open_before f t tab a T (frame_label x) in-file p))
      ∙ within q n F y (pred (frame_label x)) (omega arith) m)

  called_from : (q q' c n : ℕ) (F : List Frame) → Calls P c q → P.first q' < c → c < P.last q' → n < 64 → chain f tab records F (stood 0 q' (n + 1)) ≡ true
      → chain f tab records (called c ∷ (P.encl c ++ F)) (stood 0 q n) ≡ true
  unfolding chain
  called_from q q' c n F k lo hi u y =
      let in-file = there t w q' c (omega arith) (omega arith) in
      ap (chain f tab records (P.encl c ++ F))
      (out_of_call f tab records 4 c q n in-file (omega arith) (call_is f t tab a T c in-file q k) (sym (callee_is f t tab a T c in-file q k)) u
      ∙ ap₂ (λ (o p : ℕ). stood o p (n + 1)) (open_is f t tab a T c in-file) (owner_is f t tab a T q' c (omega arith) (omega arith)))
      ∙ within q' (n + 1) F y c hi (nest t P w q' c (omega arith) hi)

  complete_stack : {q : ℕ} {cs : List ℕ} → Good P q cs → (n : ℕ) → n + length cs ≤ 64 → chain f tab records (stack P cs) (stood 0 q n) ≡ true
  unfolding chain ends
  complete_stack in_main n h = refl
  complete_stack (by_call {q = q} {q' = q'} {c = c} {cs = cs} e lo hi g) n h =
      called_from q q' c n (stack P cs) (inl e) lo hi (omega arith) (complete_stack g (n + 1) (omega arith))
  complete_stack (by_uncall {q = q} {q' = q'} {c = c} {cs = cs} e lo hi g) n h =
      called_from q q' c n (stack P cs) (inr e) lo hi (omega arith) (complete_stack g (n + 1) (omega arith))

  pub complete : (q g : ℕ) (cs : List ℕ) → P.first q ≤ g → g < P.last q → Good P q cs → length cs ≤ 64
      → chain f tab records (P.encl g ++ stack P cs) (stood (open_of (P.encl g)) q 0) ≡ true
  complete q g cs lo hi k h = within q 0 (stack P cs) (complete_stack k 0 (omega arith)) g hi (nest t P w q g lo hi)
