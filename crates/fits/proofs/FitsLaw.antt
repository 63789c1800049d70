-- `fits_in` decides whether the struct holds a place that fits, in document 01's words. Assumes nothing.
--     fits_law      for every accepted file, its table and any struct
--     frames_few    a fitting place has at most 1,104 frames (Few)
use Prim.Native.Nat.{ℕ, zero, suc, ◌+◌, ◌≤◌, ◌<◌}
use mathlib.Core.Path.{◌≡◌, refl, ap, ap₂, sym, ◌∙◌}
use mathlib.Core.Bool.{Bool, true, false, cond}
use mathlib.Core.List.{List, ◌++◌}
use mathlib.Core.Logic.{◌⊎◌, inl, inr}
use lib.Dec.{eqb, ltb}
use lib.ListN.{length}
use native.Mathlib.Omega.{arith}
use borrow.Author.Tests.{lt-ltb, ltb-true, eq-eqb, eqb-true, eqb-false}
use Rattle.std.specs.Prelude.{Some}
use Rattle.place.specs.declared.Place.{Place as Held}
use Rattle.place.specs.Places.{Dir, down, up, opp, Place, Frame}
use Rattle.place.specs.Slots.{dir_number, dir_of, frames_in, held, seen, Plain, Decides, plain_of}
use Rattle.place.proofs.Held.{seen_held, plain_of_lem, plain_kind}
use Rattle.records.specs.Records.{kind}
use Rattle.order.specs.Trees.{Tree, records_of}
use Rattle.program.specs.Says.{Accepts}
use Rattle.moves.specs.Places.{Fits}
use Rattle.moves.proofs.Linked.{Rec, name_l, begin_l, end_l, set_l, skip_l, if_l, else_l, fi_l, from_l, loop_l, until_l, call_l, uncall_l, Prog, forget, off}
use Rattle.moves.proofs.Cuts.{Cut, Local, Wf, Good, Sits}
use Rattle.moves.proofs.Rows.{prog}
use Rattle.moves.proofs.Links.{at_is}
use Rattle.moves.proofs.Gaps.{tip}
use Rattle.moves.proofs.View.{stack, view}
use Rattle.moves.proofs.Match.{cut_fits, placed_fits, fits_placed}
use Rattle.moves.proofs.Accepted.{accepted_wf}
use Rattle.moves.proofs.Follow.{clash}
use Rattle.table.proofs.Tabled.{Tabled, open_of, is_if, is_until}
use Rattle.fits.specs.Fits.{entry_at, chained, left, gap_is, start_of, gap_fits, edge_fits, fits_in}
use Rattle.fits.proofs.Cases.{by}
use Rattle.moves.proofs.Whole.{there}
use Rattle.fits.proofs.Nest.{in_some}
use Rattle.fits.proofs.Few.{frames_few}
use Rattle.fits.proofs.Entries.{kind_is, middle_at, open_is, owner_is, down_is, up_is}
use Rattle.fits.proofs.Chains.{stand, chain, chained_is, Found, sound, complete}

-- ---- answers
answer : {X : Type 0} (b : Bool) → (b ≡ true → X) → (X → b ≡ true) → Decides b X
answer true s c = s refl
answer false s c = λ x. clash (c x) refl

held_true : {X : Type 0} (b : Bool) → Decides b X → X → b ≡ true
held_true true d x = refl
held_true false d x = absurd (d x)

true_held : {X : Type 0} (b : Bool) → Decides b X → b ≡ true → X
true_held true d e = d
true_held false d e = clash e refl

up_of : (n : ℕ) → (n ≡ 0 → ⊥) → dir_of n ≡ up
up_of zero h = absurd (h refl)
up_of (suc n) h = refl

-- ---- records that an edge goes down from
not_names : (P : Prog) (x : ℕ) → left (kind (forget (P.at x))) ≡ true → (v : ℕ) (ls : List ℕ) → P.at x ≡ name_l v ls → ⊥
unfolding left kind
not_names P x h v ls e = clash (ap (λ (ρ : Rec). left (kind (forget ρ))) (sym e) ∙ h) refl

not_end : (P : Prog) (x q : ℕ) → left (kind (forget (P.at x))) ≡ true → P.at x ≡ end_l q → ⊥
unfolding left kind
not_end P x q h e = clash (ap (λ (ρ : Rec). left (kind (forget ρ))) (sym e) ∙ h) refl

left_at : (τ : Tree) (P : Prog) (q g : ℕ) (ρ : Rec) → Local τ P ρ g → P.first q ≤ g → g < P.last q → left (kind (forget ρ)) ≡ true
unfolding left kind
left_at τ P q g (name_l v ls) l lo hi = absurd (l q lo (omega arith))
left_at τ P q g (end_l q') l lo hi = let e = ap P.last (l.2 q lo (omega arith)) in absurd (let z : ⊥ = omega (arith, l.0) in z)
left_at τ P q g (begin_l q') l lo hi = refl
left_at τ P q g (set_l o t ε) l lo hi = refl
left_at τ P q g skip_l l lo hi = refl
left_at τ P q g (if_l c) l lo hi = refl
left_at τ P q g (else_l c) l lo hi = refl
left_at τ P q g (fi_l c) l lo hi = refl
left_at τ P q g (from_l c) l lo hi = refl
left_at τ P q g (loop_l c) l lo hi = refl
left_at τ P q g (until_l c) l lo hi = refl
left_at τ P q g (call_l q') l lo hi = refl
left_at τ P q g (uncall_l q') l lo hi = refl

-- The gap g of procedure q is the downward edge from x to z, and the frames are those of a cut there.
record Hit (P : Prog) (x z : ℕ) (F : List Frame) : Type 0 where
  pub g : ℕ
  pub q : ℕ
  pub lo : P.first q ≤ g
  pub hi : g < P.last q
  pub upper : tip P g up ≡ x
  pub lower : tip P g down ≡ z
  pub found : Found P q g 0 F

module _ (f : List ℕ) (t : Tree) (tab : List ℕ) (a : Accepts f t) (T : Tabled t f tab) where
  abbrev P : Prog
  P = prog t

  abbrev n : ℕ
  n = length (records_of t)

  w : Wf t P
  w = accepted_wf a

  -- ---- the table's word for a gap
  abbrev Gap : ℕ → ℕ → ℕ → Type 0
  Gap x z g = (suc g < n) × ((entry_at tab 6145 g ≡ x) × ((entry_at tab 5120 g ≡ z) × (left (entry_at tab 1024 g) ≡ true)))

  gap_true : (x z g : ℕ) → gap_is tab n x z g ≡ true → Gap x z g
  unfolding gap_is
  gap_true x z g y =
      by (ltb (g + 1) n)
      (λ h. by (eqb (entry_at tab 6145 g) x)
      (λ u. by (eqb (entry_at tab 5120 g) z)
      (λ v. (omega (arith, ltb-true (g + 1) n h), (eqb-true _ _ u, (eqb-true _ _ v, rw (h, u, v) at y))))
      (λ v. clash (rw (h, u, v) at y) refl))
      (λ u. clash (rw (h, u) at y) refl))
      (λ h. clash (rw h at y) refl)

  true_gap : (x z g : ℕ) → Gap x z g → gap_is tab n x z g ≡ true
  unfolding gap_is
  true_gap x z g (h, (u, (v, k))) = rw (lt-ltb (g + 1) n (omega arith), eq-eqb (entry_at tab 6145 g) x u, eq-eqb (entry_at tab 5120 g) z v) k

  kind_at_lem : (g : ℕ) → g < n → entry_at tab 1024 g ≡ kind (forget (P.at g))
  kind_at_lem g h = kind_is f t tab a T g h ∙ ap kind (at_is t g)

  start_at : (q g : ℕ) → P.first q ≤ g → g < P.last q → start_of tab g ≡ stand (open_of (P.encl g)) q 0
  start_at q g lo hi =
      ap₂ (λ (o p : ℕ). stand o p 0) (open_is f t tab a T g (there t w q g lo (omega arith))) (owner_is f t tab a T q g lo (omega arith))

  -- ---- a struct that holds some place
  module _ (h : Held) (y : Plain h) where
    abbrev F : List Frame
    F = frames_in h.count h.kinds h.labels

    listed : (g : ℕ) → chained f tab n h.kinds h.labels h.count (start_of tab g) ≡ chain f tab n F (Some (start_of tab g))
    listed g = chained_is f tab n h.kinds h.labels h.count (start_of tab g) (plain_kind h y)

    gap_hit : (x z g : ℕ) → gap_fits f tab n h x z g ≡ true → Hit P x z F
    unfolding gap_fits
    gap_hit x z g e = by (gap_is tab n x z g) (λ b. hit (gap_true x z g b) (rw b at e)) (λ b. clash (rw b at e) refl)
      where
        hit : Gap x z g → chained f tab n h.kinds h.labels h.count (start_of tab g) ≡ true → Hit P x z F
        hit (i, (u, (v, k))) c =
            let l : left (kind (forget (P.at g))) ≡ true = ap left (sym (kind_at_lem g (omega arith))) ∙ k in
            let s = in_some t g (not_names P g l) in
            let m : g ≡ P.last s.q → ⊥ = λ e. not_end P g s.q l (ap P.at e ∙ s.ok.at_last) in
            let hi : g < P.last s.q = omega (arith, s.hi) in
            record {
              g = g;
              q = s.q;
              lo = s.lo;
              hi = hi;
              upper = sym (up_is f t tab a T g i) ∙ u;
              lower = sym (down_is f t tab a T g i) ∙ v;
              found = sound f t tab a T F s.q g 0 s.lo hi (omega arith) (ap (chain f tab n F) (ap Some (sym (start_at s.q g s.lo hi))) ∙ (sym (listed g) ∙ c));
            }

    edge_hit : (x z : ℕ) → edge_fits f tab n h x z ≡ true → Hit P x z F
    unfolding edge_fits
    edge_hit x z e = by (gap_fits f tab n h x z x) (gap_hit x z x) (λ b. gap_hit x z (entry_at tab 3072 x) (rw b at e))

    module _ (q g : ℕ) (cs : List ℕ) (lo : P.first q ≤ g) (hi : g < P.last q) (good : Good P q cs) (few : length cs ≤ 64) (is : F ≡ P.encl g ++ stack P cs) where
      hit_gap : gap_fits f tab n h (tip P g up) (tip P g down) g ≡ true
      unfolding gap_fits
      hit_gap =
          let i = there t w q (suc g) (omega arith) hi in
          rw (true_gap (tip P g up) (tip P g down) g
          (i, (up_is f t tab a T g i, (down_is f t tab a T g i, ap left (kind_at_lem g (omega arith)) ∙ left_at t P q g (P.at g) (w.here g) lo hi))))
          (listed g ∙ (ap₂ (chain f tab n) is (ap Some (start_at q g lo hi)) ∙ complete f t tab a T q g cs lo hi good few))

      -- The gap is the one after its upper end, or the one after that one's ELSE or LOOP.
      which : (ρ : Rec) → P.at g ≡ ρ → Local t P ρ g → (off ρ g ≡ g) ⊎ (entry_at tab 3072 (off ρ g) ≡ g)
      which (name_l v ls) e l = inl refl
      which (begin_l q') e l = inl refl
      which (end_l q') e l = inl refl
      which (set_l o x ε) e l = inl refl
      which skip_l e l = inl refl
      which (if_l c) e l = inl refl
      which (else_l c) e (x, k) =
          let m = k.span.near q g (omega (arith, k.span.l<m)) (omega (arith, k.span.m<r)) lo (omega arith) in
          let i = there t w q c.l (omega arith) (omega (arith, k.span.l<m)) in
          inr (middle_at f t tab a T c.l i ∙ (T.middles c.l c i (is_if k.at_l) ∙ sym x))
      which (fi_l c) e l = inl refl
      which (from_l c) e l = inl refl
      which (loop_l c) e (x, k) =
          let m = k.span.near q g (omega (arith, k.span.l<m)) (omega (arith, k.span.m<r)) lo (omega arith) in
          let i = there t w q c.r (omega (arith, k.span.m<r)) (omega arith) in
          inr (middle_at f t tab a T c.r i ∙ (T.middles c.r c i (is_until k.at_r) ∙ sym x))
      which (until_l c) e l = inl refl
      which (call_l q') e l = inl refl
      which (uncall_l q') e l = inl refl

      hit_edge : edge_fits f tab n h (tip P g up) (tip P g down) ≡ true
      unfolding edge_fits
      hit_edge = go (which (P.at g) refl (w.here g))
        where
          go : (tip P g up ≡ g) ⊎ (entry_at tab 3072 (tip P g up) ≡ g) → edge_fits f tab n h (tip P g up) (tip P g down) ≡ true
          go (inl e) = rw (ap (gap_fits f tab n h (tip P g up) (tip P g down)) e ∙ hit_gap)
          go (inr e) =
              by (gap_fits f tab n h (tip P g up) (tip P g down) (tip P g up)) (λ b. rw b)
              (λ b. rw b (ap (gap_fits f tab n h (tip P g up) (tip P g down)) e ∙ hit_gap))

    -- ---- both directions
    fits_cut : (d : Dir) (x z : ℕ) (k : Hit P x z F) → dir_of h.direction ≡ d → h.a ≡ tip P k.g (opp d) → h.b ≡ tip P k.g d → Fits t (seen h)
    fits_cut d x z k e a b = placed_fits t w (seen h) (record {
      cut = record { g = k.g; d = d; cs = k.found.cs };
      sits = record { q = k.q; lo = k.lo; hi = k.hi; good = k.found.good; few = omega (arith, k.found.few) };
      is = λ i. record { a = a i; b = b i; d = e i; frames = k.found.is i };
    })

    fits_down : dir_of h.direction ≡ down → Hit P h.a h.b F → Fits t (seen h)
    fits_down e k = fits_cut down h.a h.b k e (sym k.upper) (sym k.lower)

    fits_up : dir_of h.direction ≡ up → Hit P h.b h.a F → Fits t (seen h)
    fits_up e k = fits_cut up h.b h.a k e (sym k.lower) (sym k.upper)

    fits_seen : fits_in f tab n h ≡ true → Fits t (seen h)
    unfolding fits_in
    fits_seen e =
        let p = held_true (plain_of h) (plain_of_lem h) y in
        by (eqb h.direction 0)
        (λ d. fits_down (ap dir_of (eqb-true h.direction 0 d)) (edge_hit h.a h.b (rw (p, d) at e)))
        (λ d. fits_up (up_of h.direction (eqb-false h.direction 0 d)) (edge_hit h.b h.a (rw (p, d) at e)))

  -- ---- a cut that sits in the program
  either_way : (h : Held) (g : ℕ) (d : Dir) → edge_fits f tab n h (tip P g up) (tip P g down) ≡ true
      → cond (eqb (dir_number d) 0) (edge_fits f tab n h (tip P g (opp d)) (tip P g d)) (edge_fits f tab n h (tip P g d) (tip P g (opp d))) ≡ true
  either_way h g down y = y
  either_way h g up y = y

  cut_in : (s : Cut) → Sits P s → Plain (held (view P s)) → fits_in f tab n (held (view P s)) ≡ true
  unfolding fits_in
  cut_in s k y =
      let h = held (view P s) in
      rw (held_true (plain_of h) (plain_of_lem h) y)
      (either_way h s.g s.d (hit_edge h y k.q s.g s.cs k.lo k.hi k.good k.few (ap (λ (x : Place). x.frames) (seen_held (view P s)))))

  fits_in_lem : (p : Place) → Fits t p → fits_in f tab n (held p) ≡ true
  fits_in_lem p k =
      let c = fits_placed t w p k in
      let v = view P c.cut in
      ap (λ (x : Place). fits_in f tab n (held x)) c.is
      ∙ cut_in c.cut c.sits (record { place = v; room = frames_few a v (cut_fits t w c.cut c.sits); holds = refl })

  plain_in : (h : Held) → fits_in f tab n h ≡ true → Plain h
  unfolding fits_in
  plain_in h e = by (plain_of h) (true_held (plain_of h) (plain_of_lem h)) (λ b. clash (rw b at e) refl)

  abbrev Holds : Held → Type 0
  Holds h = (p : Place) × ((h ≡ held p) × Fits t p)

  holds : (h : Held) → fits_in f tab n h ≡ true → Holds h
  holds h e =
      let y = plain_in h e in
      let s : h ≡ held (seen h) = y.holds ∙ ap held (sym (seen_held y.place) ∙ ap seen (sym y.holds)) in
      (seen h, (s, fits_seen h y e))

  law : (h : Held) → Decides (fits_in f tab n h) (Holds h)
  law h = answer (fits_in f tab n h) (holds h) (λ k. ap (fits_in f tab n) k.1.0 ∙ fits_in_lem k.0 k.1.1)

pub fits_law : (f : List ℕ) (t : Tree) (tab : List ℕ) (records : ℕ) (h : Held) → Accepts f t → Tabled t f tab → records ≡ length (records_of t)
    → Decides (fits_in f tab records h) ((p : Place) × ((h ≡ held p) × Fits t p))
fits_law f t tab records h a T e = rw e (law f t tab a T h)
