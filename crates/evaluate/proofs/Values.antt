-- The answers of `entry_of`, `value`, `compound`, `read` and `operated`, case by case, over plain numbers and lists. Assumes nothing.
use mathlib.Core.Path.{◌≡◌, refl, sym, ap, ◌∙◌}
use mathlib.Core.List.{List}
use mathlib.Core.Bool.{Bool, true, false, cond}
use Prim.Native.Nat.{ℕ, ◌+◌, ◌-◌, ◌≤◌, ◌<◌}
use native.Mathlib.Nat.{add_comm}
use native.Mathlib.Omega.{arith}
use native.Mathlib.Decide.{ℕ_discrete}
use borrow.Author.Tests.{lt-ltb, le-ltb, ne_eqb}
use lib.Dec.{ltb}
use lib.IntN.{ℤ, pos, negsuc}
use lib.ListN.{get_or, take, drop, length-take, get_or-eq_default}
use lib.Seq.{get_or-take, get_or-drop}
use mir.Syntax.{w32}
use mir.Val.{SFits, of_z, to_z}
use mir.Facts.{to_z-of_z, sfits_lit}
use Rattle.std.specs.Prelude.{Option, None, Some, Result, Ok, Err}
use Rattle.refusals.specs.declared.Reason.{Reason}
use Rattle.refusals.specs.declared.Reason.TheVariants.{ZeroDivisor, BadIndex}
use Rattle.codes.specs.Codes.{word16}
use Rattle.values.specs.Values.{apply_op}
use Rattle.values.specs.Given.{given}
use Rattle.values.proofs.Laws.{apply_fits, given_some, given_none}
use Rattle.expr.specs.Tree.{Arrays, Fault, bad_index, Worth, value, stop, worth_of, element, eval}
use Rattle.expr.specs.Bytes.{Got, up_to}
use Rattle.expr.specs.Answers.{InCell}
use Rattle.expr.proofs.Agree.{worth_fits}
use Rattle.expr.proofs.Layer.{upto_none, upto_out, upto_con, upto_var, upto_read, upto_bin}
use Rattle.evaluate.specs.Answers.{arrays_of, worth_at, reason_of, told_of, entry_if, entry_of, moved_to, OnTheWay, read_at, both_at, leaf_of, leaf_end, LeafSays}

-- a signed number that was put in a variable, a field or an argument is read back from its bits
abbrev pub again : ℤ → ℤ
again z = to_z w32 (of_z w32 z)

-- ---- `entry_of`
module _ (l : List ℕ) (a : ℕ) where
  far_length : (m : List ℕ) → 16 ≤ a → get_or (take 16 m) a 0 ≡ 0
  far_length m h = get_or-eq_default (take 16 m) 0 (simp length-take (omega arith))

  near_start : a < 16 → get_or (arrays_of l).starts a 0 ≡ get_or l a 0
  near_start h = get_or-take 16 l a 0 h

  near_length : a < 16 → get_or (arrays_of l).lengths a 0 ≡ get_or l (a + 16) 0
  near_length h = get_or-take 16 (drop 16 l) a 0 h ∙ get_or-drop 16 l a 0 ∙ ap (λ (i : ℕ). get_or l i 0) (add_comm 16 a)

  missed : (z : ℤ) (i : ℕ) → i ≡ of_z w32 z → get_or (arrays_of l).lengths a 0 ≤ i → None ≡ entry_of (arrays_of l) a z
  missed (pos n) i e h = rw (le-ltb n (get_or (arrays_of l).lengths a 0) (omega arith))
  missed (negsuc n) i e h = refl

  hit : (z : ℤ) (i : ℕ) → SFits w32 z → i ≡ of_z w32 z → i < get_or (arrays_of l).lengths a 0 → get_or (arrays_of l).lengths a 0 < 65536
      → Some (get_or (arrays_of l).starts a 0 + i) ≡ entry_of (arrays_of l) a z
  hit (pos n) i f e h k = rw (lt-ltb n (get_or (arrays_of l).lengths a 0) (omega arith), e)
  hit (negsuc n) i f e h k = absurd (omega arith)

module _ (l : List ℕ) (a : ℕ) (z : ℤ) where
  pub entry_far : 16 ≤ a → None ≡ entry_of (arrays_of l) a z
  entry_far h = missed l a z (of_z w32 z) refl (omega (arith, far_length l a (drop 16 l) h))

  module _ (f : SFits w32 z) (h : a < 16) (i n : ℕ) (ii : i ≡ of_z w32 (again z)) (nn : n ≡ get_or l (a + 16) 0) where
    pub entry_out : n ≤ i → None ≡ entry_of (arrays_of l) a z
    entry_out k = missed l a z i (ii ∙ ap (of_z w32) (to_z-of_z f)) (omega (arith, near_length l a h))

    pub entry_in : (start : ℕ) → i < n → n < 65536 → start ≡ get_or l a 0 → Some (start + i) ≡ entry_of (arrays_of l) a z
    entry_in start k small ss =
        rw (ss ∙ sym (near_start l a h))
        (hit l a z i f (ii ∙ ap (of_z w32) (to_z-of_z f)) (omega (arith, near_length l a h)) (omega (arith, near_length l a h)))

pub ruleset entries = (entry_far, entry_out, entry_in)

-- the entry is the element's
module _ (A : Arrays) (C : List ℤ) (a : ℕ) where
  held : (z : ℤ) (c : ℕ) → Some c ≡ entry_of A a z → element A C a z ≡ value (get_or C c (pos 0))
  unfolding element
  held (pos i) c e = go (ltb i (get_or A.lengths a 0)) e
    where
      go : (b : Bool) → Some c ≡ entry_if b (get_or A.starts a 0 + i)
          → cond b (value (get_or C (get_or A.starts a 0 + i) (pos 0))) (stop bad_index) ≡ value (get_or C c (pos 0))
      go true e = let k : c ≡ get_or A.starts a 0 + i = cc in rw k
      go false e = let k : ◌≡◌ {A = ℕ} 0 1 = cc in absurd (omega arith)
  held (negsuc i) c e = let k : ◌≡◌ {A = ℕ} 0 1 = cc in absurd (omega arith)

  none : (z : ℤ) → None ≡ entry_of A a z → element A C a z ≡ stop bad_index
  unfolding element
  none (pos i) e = go (ltb i (get_or A.lengths a 0)) e
    where
      go : (b : Bool) → None ≡ entry_if b (get_or A.starts a 0 + i)
          → cond b (value (get_or C (get_or A.starts a 0 + i) (pos 0))) (stop bad_index) ≡ stop bad_index
      go true e = let k : ◌≡◌ {A = ℕ} 0 1 = cc in absurd (omega arith)
      go false e = refl
  none (negsuc i) e = refl

-- a constant or scalar is read at any depth
module _ (A : List ℕ) (C : List ℤ) (s : List ℕ) (at d : ℕ) (nz : d ≡ 0 → ⊥) (near : at < 32768) (small : get_or s at 0 < 2) where
  abbrev Leaf : Type 0
  Leaf = (worth_at A C (up_to 32768 d s at) ≡ value (leaf_of s at C)) × ((up_to 32768 d s at).next ≡ leaf_end s at)

  pub leaf_read : Leaf
  unfolding eval
  leaf_read = go (ℕ_discrete (get_or s at 0) 0)
    where
      go : Dec (get_or s at 0 ≡ 0) → Leaf
      go (yes e) = rw (upto_con 32768 s at near (get_or s at 0) refl d nz e, e) (refl, refl)
      go (no n) = rw (upto_var 32768 s at near (get_or s at 0) refl d nz (omega arith), ne_eqb (get_or s at 0) 0 n) (refl, refl)

-- ---- on the way: by what the tree is worth
module _ (w : Worth) (next : ℕ) where
  way_value : (v : ℤ) (after : ℕ) → w ≡ value v → SFits w32 v → after ≡ next → OnTheWay w next (Ok (again v)) after
  way_value v after e f p = rw e (record { answer = ap Ok (to_z-of_z f); range = f; place = p })

  way_stop : (g : Fault) (after : ℕ) → w ≡ stop g → OnTheWay w next (Err (reason_of g)) after
  way_stop g after e = rw e (record { answer = refl; range = tt; place = refl })

-- what an answer says of the tree's worth
pub told_value : (w : Worth) (next after : ℕ) (r : Result ℤ Reason) (v : ℤ) → OnTheWay w next r after → r ≡ Ok v → (w ≡ value v) × (SFits w32 v × (after ≡ next))
told_value w next after r v o e = go w (sym e ∙ o.answer) o.range o.place
  where
    go : (w : Worth) → Ok v ≡ told_of w → InCell w → after ≡ moved_to w after next → (w ≡ value v) × (SFits w32 v × (after ≡ next))
    go (value x) e k p = let q : v ≡ x = cc in (ap value (sym q), (rw q k, p))
    go (stop g) e k p = let z : ◌≡◌ {A = ℕ} 0 1 = cc in absurd (omega arith)

-- where the position is the tree's end in any case
at_end : (w : Worth) (after next : ℕ) → after ≡ next → after ≡ moved_to w after next
at_end (value v) after next e = e
at_end (stop g) after next e = refl

-- ---- `read`
module _ (A : List ℕ) (C : List ℤ) (b : ℕ) (g : Got) (i : ℤ) (answer : Result ℤ Reason) (after : ℕ) (o : OnTheWay (worth_at A C g) g.next answer after)
    (ok : answer ≡ Ok i) (a : ℕ) (x : Option ℕ) (e : x ≡ entry_of (arrays_of A) a (again i)) (ab : a ≡ b) where
  index : read_at A C b g ≡ element (arrays_of A) C a (again i)
  index = let s = told_value (worth_at A C g) g.next after answer i o ok in rw (s.0, to_z-of_z s.1.0, ab)

  pub read_in : (c : ℕ) (v : ℤ) → x ≡ Some c → SFits w32 v → v ≡ get_or C c (pos 0) → OnTheWay (read_at A C b g) g.next (Ok (again v)) after
  read_in c v q fv vv =
      way_value (read_at A C b g) g.next v after (index ∙ held (arrays_of A) C a _ c (sym q ∙ e) ∙ ap value (sym vv)) fv
      (told_value (worth_at A C g) g.next after answer i o ok).1.1

  pub read_outside : x ≡ None → OnTheWay (read_at A C b g) g.next (Err BadIndex) after
  read_outside q = way_stop (read_at A C b g) g.next bad_index after (index ∙ none (arrays_of A) C a _ (sym q ∙ e))

pub ruleset reads = (read_in, read_outside)

-- ---- `operated`
module _ (A : List ℕ) (C : List ℤ) (s : List ℕ) (d p b : ℕ) (l : ℤ) (left : Result ℤ Reason) (mid : ℕ)
    (lo : OnTheWay (worth_at A C (up_to 32768 d s p)) (up_to 32768 d s p).next left mid) (lk : left ≡ Ok l) (r : ℤ) (right : Result ℤ Reason) (after : ℕ)
    (ro : OnTheWay (worth_at A C (up_to 32768 d s mid)) (up_to 32768 d s mid).next right after) (rk : right ≡ Ok r) (o : ℕ) (x : Option ℤ)
    (e : x ≡ given (apply_op o (again l) (again r))) (oo : o ≡ b) where
  abbrev Goes : Result ℤ Reason → Type 0
  Goes t =
      OnTheWay (both_at A C b (up_to 32768 d s p) (up_to 32768 d s (up_to 32768 d s p).next)) (up_to 32768 d s (up_to 32768 d s p).next).next t after

  goes : (t : Result ℤ Reason) → t ≡ told_of (worth_of (apply_op o l r)) → Goes t
  goes t q =
      let y = told_value _ _ mid left l lo lk in
      let z = told_value _ _ after right r ro rk in
      rw (← y.1.1, y.0, z.0, ← oo)
      (record { answer = q; range = worth_fits (apply_op o l r) (apply_fits o l r y.1.0 z.1.0); place = at_end (worth_of (apply_op o l r)) after _ z.1.1 })

  asked : given (apply_op o l r) ≡ x
  asked =
      let y = told_value _ _ mid left l lo lk in
      let z = told_value _ _ after right r ro rk in
      sym (rw (to_z-of_z y.1.0, to_z-of_z z.1.0) at e)

  pub both_value : (v : ℤ) → x ≡ Some v → Goes (Ok (again v))
  both_value v q =
      let is_v = given_some (apply_op o l r) v (asked ∙ q) in
      let f : SFits w32 v = rw is_v at (apply_fits o l r (told_value _ _ mid left l lo lk).1.0 (told_value _ _ after right r ro rk).1.0) in
      goes (Ok (again v)) (ap Ok (to_z-of_z f) ∙ ap (λ y. told_of (worth_of y)) (sym is_v))

  pub both_none : x ≡ None → Goes (Err ZeroDivisor)
  both_none q = goes (Err ZeroDivisor) (ap (λ y. told_of (worth_of y)) (sym (given_none (apply_op o l r) (asked ∙ q))))

pub ruleset operateds = (both_value, both_none)

-- ---- `value` and `compound`
module _ (A : List ℕ) (C : List ℤ) (s : List ℕ) (at d : ℕ) where
  abbrev Runs : Result ℤ Reason → ℕ → Type 0
  Runs r after = OnTheWay (worth_at A C (up_to 32768 d s at)) (up_to 32768 d s at).next r after

  pub value_none : d ≡ 0 → Runs (Ok (pos 0)) at
  unfolding eval
  value_none e = rw (upto_none 32768 d s at e) (record { answer = refl; range = sfits_lit tt; place = refl })

  pub value_out : 32768 ≤ at → Runs (Ok (pos 0)) at
  unfolding eval
  value_out h = rw (upto_out 32768 d s at h) (record { answer = refl; range = sfits_lit tt; place = refl })

  module _ (nz : d ≡ 0 → ⊥) (near : at < 32768) (tag : ℕ) (tg : tag ≡ get_or s at 0) where
    pub value_leaf : (v : ℤ) (after : ℕ) → tag < 2 → SFits w32 v → LeafSays s at C v after → Runs (Ok (again v)) after
    value_leaf v after k f o =
        let q = leaf_read A C s at d nz near (rw (← tg) k) in
        way_value _ _ v after (q.0 ∙ ap value (sym o.answer)) f (o.place ∙ sym q.1)

    pub value_read : (r : Result ℤ Reason) (after : ℕ) → tag ≡ 2
        → OnTheWay (read_at A C (word16 s (at + 1)) (up_to 32768 (d - 1) s (at + 3))) (up_to 32768 (d - 1) s (at + 3)).next r after → Runs r after
    unfolding eval
    value_read r after e o = rw (upto_read 32768 s at near tag tg d nz e) o

    pub value_bin : (r : Result ℤ Reason) (after : ℕ) → 2 ≤ get_or s at 0 → (tag ≡ 2 → ⊥)
        → OnTheWay (both_at A C (get_or s (at + 1) 0) (up_to 32768 (d - 1) s (at + 2)) (up_to 32768 (d - 1) s (up_to 32768 (d - 1) s (at + 2)).next))
        (up_to 32768 (d - 1) s (up_to 32768 (d - 1) s (at + 2)).next).next r after
        → Runs r after
    unfolding eval
    value_bin r after big n2 o = rw (upto_bin 32768 s at near tag tg d nz (λ e. omega arith) (λ e. omega arith) n2) o

pub ruleset compounds = (value_read, value_bin)
