-- The answers of the functions of src/lib.rt, case by case, over plain numbers and lists. Assumes nothing.
use mathlib.Core.Path.{◌≡◌, refl, sym, ap, ◌∙◌}
use mathlib.Core.List.{List}
use mathlib.Core.Bool.{Bool, true, false, not, cond, beq as same}
use Prim.Native.Nat.{ℕ, ◌+◌, ◌-◌, ◌≤◌, ◌<◌}
use native.Mathlib.Omega.{arith}
use borrow.Author.Tests.{eq-eqb, ne_eqb, lt-ltb, le-ltb, le-leb, lt-leb, eqb-true, eqb-false, leb-true, leb-false, ltb-true}
use lib.Dec.{eqb, leb, ltb}
use lib.ListN.{get_or, set}
use lib.Seq.{set-get_or}
use Rattle.expr.specs.Bytes.{up_to}
use Rattle.std.specs.Prelude.{Result, Ok, Err}
use Rattle.refusals.specs.declared.Reason.{Reason as Told}
use Rattle.refusals.specs.declared.Reason.TheVariants.{Unfit, AtEnd, WrongValue, ZeroDivisor, BadIndex, TooDeep}
use Rattle.values.specs.Values.{is_true}
use Rattle.expr.specs.Tree.{Worth, value, stop, div_by_zero, bad_index as outside}
use Rattle.evaluate.specs.Answers.{worth_at, truth_of, judged}
use Rattle.place.specs.Methods.{top_at}
use Rattle.moves.specs.Stores.{Answer, ok, no, Reason, at_end, wrong_value, zero_divisor, bad_index, too_deep, number as number_in, Store}
use Rattle.decide.specs.Sets.{reason_by, Left, set_entry}
use Rattle.ways.specs.Looks.{label_in}
use Rattle.decide.specs.Decide.{more_of, fewer_of, slot_of, put_in}
use Rattle.decide.specs.Ways.{depth_of, calls_in, count_in, Sight, Doing, sight, by_kind, by_label, bare, act_in, yes_in, no_in, first_in, second_in, expr_in, head_in, told, written, number, Does, on_to, refused_in, kept_in, pushed_in, popped_in, changed_in, chosen_in, closed_in, again_in, opened_in, repeated_in, entered_in, back_in, returned_in, looped_in, tested_in, assigned_in, Sets, after_set, set_cell, cell_in, entry_in, Rules, rule_in}
use Rattle.decide.specs.declared.Spot.{Spot}
use Rattle.decide.specs.declared.Move.{Move}
use Rattle.place.proofs.Cases.{top_here}

-- ---- small functions
more_yes : (n : ℕ) → n < 1104 → n + 1 ≡ more_of n
more_yes n h = rw (lt-ltb n 1104 h)

more_no : (n : ℕ) → 1104 ≤ n → n ≡ more_of n
more_no n h = rw (le-ltb n 1104 h)

pub entry_is : (m : List ℕ) (n w x r : ℕ) → r ≡ x → x ≡ get_or m (n + w) 0 → r ≡ get_or m (n + w) 0
entry_is m n w x r e h = e ∙ h

pub ruleset smalls = (entry_is)

-- ---- calls and frames in one number
together : (d : ℕ) → d ≡ depth_of (calls_in d) (count_in d)
together d = omega arith

more_small : (n : ℕ) → n < 4096 → more_of n < 4096
more_small n h = go (ltb n 1104) refl
  where
    go : (t : Bool) → ltb n 1104 ≡ t → more_of n < 4096
    go true e = rw e (omega (arith, ltb-true n 1104 e))
    go false e = rw e h

module _ (d : ℕ) where
  pub depth_more : count_in d < 1104 → d + 1 ≡ depth_of (calls_in d) (more_of (count_in d))
  depth_more h = rw (← more_yes (count_in d) h) (omega arith)

  pub depth_full : 1104 ≤ count_in d → d ≡ depth_of (calls_in d) (more_of (count_in d))
  depth_full h = rw (← more_no (count_in d) h) (omega arith)

  pub depth_none : count_in d ≡ 0 → d ≡ depth_of (calls_in d) (fewer_of (count_in d))
  depth_none h = omega arith

  pub depth_fewer : (count_in d ≡ 0 → ⊥) → d - 1 ≡ depth_of (calls_in d) (fewer_of (count_in d))
  depth_fewer h = omega arith

-- another call fits
pub pushed_small : (d r : ℕ) → r ≡ depth_of (calls_in d) (more_of (count_in d)) → d < 262144 → r < 266240
pushed_small d r e h = omega (arith, more_small (count_in d) (omega arith))

pub ruleset depths = (depth_more, depth_full, depth_none, depth_fewer)

-- ---- slots
module _ (s : List ℕ) (i v : ℕ) where
  pub put_near : i < 1104 → set s i v ≡ put_in s i v
  unfolding put_in
  put_near h = rw (lt-ltb i 1104 h)

  pub put_far : 1104 ≤ i → s ≡ put_in s i v
  unfolding put_in
  put_far h = rw (le-ltb i 1104 h)

-- the slot of the innermost of n frames
module _ (s : List ℕ) (n v : ℕ) where
  pub slot_none : n ≡ 0 → s ≡ put_in s (slot_of n) v
  slot_none e = rw (eq-eqb n 0 e) (put_far s 1104 v (omega arith))

  module _ (z : n ≡ 0 → ⊥) where
    pub slot_near : n ≤ 1104 → set s (n - 1) v ≡ put_in s (slot_of n) v
    slot_near h = rw (ne_eqb n 0 z) (put_near s (n - 1) v (omega arith))

    pub slot_far : 1104 < n → s ≡ put_in s (slot_of n) v
    slot_far h = rw (ne_eqb n 0 z) (put_far s (n - 1) v (omega arith))

pub ruleset slots = (put_near, put_far, slot_none, slot_near, slot_far)

-- written with what it holds
same_top : (s : List ℕ) (n : ℕ) → s ≡ put_in s (slot_of n) (top_at s n 0)
same_top s n = go (eqb n 0) refl (leb n 1104) refl
  where
    go : (t : Bool) → eqb n 0 ≡ t → (u : Bool) → leb n 1104 ≡ u → s ≡ put_in s (slot_of n) (top_at s n 0)
    go true e u h = slot_none s n (top_at s n 0) (eqb-true n 0 e)
    go false e true h = let k = leb-true n 1104 h in let z = eqb-false n 0 e in sym (sym (slot_near s n (top_at s n 0) z k) ∙ ap (set s (n - 1)) (sym (top_here s n 0 z k)) ∙ set-get_or s (n - 1) 0)
    go false e false h = slot_far s n (top_at s n 0) (eqb-false n 0 e) (leb-false n 1104 h)

-- no slot is written
unwritten : (s : List ℕ) (v : ℕ) (t : Bool) → s ≡ cond t (put_in s 1104 v) s
unwritten s v true = put_far s 1104 v (omega arith)
unwritten s v false = refl

-- ---- the frames
module _ (s : Spot) (y n : ℕ) (m : Result Move Told) (ks ls : List ℕ) where
  abbrev C : ℕ
  C = count_in s.depth

  below : C < 4096
  below = omega arith

  refuses : (r : ℕ) → m ≡ told (refused_in (bare s) r) → Does (refused_in (bare s) r) ks ls m ks ls
  refuses r e = record { made = e; small = below; kinds = unwritten ks 0 (eqb r 0); labels = unwritten ls 0 (eqb r 0) }

  keeps : m ≡ Ok (on_to (bare s) y s.depth) → Does (kept_in (bare s) y) ks ls m ks ls
  keeps e = record { made = e ∙ ap (λ n. Ok (on_to (bare s) y n)) (together s.depth); small = below; kinds = unwritten ks 0 true; labels = unwritten ls 0 true }

  module _ (e : m ≡ Ok (on_to (bare s) y n)) (ks' ls' : List ℕ) where
    pushes : (k l : ℕ) → (n ≡ depth_of (calls_in s.depth) (more_of C)) × ((ks' ≡ put_in ks C k) × (ls' ≡ put_in ls C l)) → Does (pushed_in (bare s) y k l) ks ls m ks' ls'
    pushes k l (nn, (kk, ll)) = record { made = e ∙ ap (λ n. Ok (on_to (bare s) y n)) nn; small = more_small C below; kinds = kk; labels = ll }

    pops : (n ≡ depth_of (calls_in s.depth) (C - 1)) × ((ks' ≡ put_in ks (slot_of C) 0) × (ls' ≡ put_in ls (slot_of C) 0)) → Does (popped_in (bare s) y) ks ls m ks' ls'
    pops (nn, (kk, ll)) = record { made = e ∙ ap (λ n. Ok (on_to (bare s) y n)) nn; small = omega arith; kinds = kk; labels = ll }

  changes : (k : ℕ) (ks' : List ℕ) → m ≡ Ok (on_to (bare s) y s.depth) → ks' ≡ put_in ks (slot_of C) k → Does (changed_in (by_label s ls) y k) ks ls m ks' ls
  unfolding by_label
  changes k ks' e kk = record { made = e ∙ ap (λ n. Ok (on_to (bare s) y n)) (together s.depth); small = below; kinds = kk; labels = same_top ls C }

pub on_is : (s : Spot) (y a n : ℕ) → a ≡ label_in s.way → ◌≡◌ {A = Move} (record { way = y; a = a; depth = n }) (on_to (bare s) y n)
on_is s y a n e = rw e

pub ruleset moves = (on_is)

denied : (v : Bool) → eqb (number v) 0 ≡ not v
denied true = refl
denied false = refl

-- ---- the acts; ks and ls are the slots, ks' and ls' afterwards
module _ (s : Spot) (v : Bool) (map : List ℕ) (ks ls : List ℕ) where
  module _ (next n : ℕ) (m : Move) (e : m ≡ on_to (bare s) next n) (ks' ls' : List ℕ) where
    module _ (head : ℕ) (hh : head ≡ head_in map s.way) where
      pub chosen_else : v ≡ false → (n ≡ depth_of (calls_in s.depth) (more_of (count_in s.depth))) × ((ks' ≡ put_in ks (count_in s.depth) 1) × (ls' ≡ put_in ls (count_in s.depth) head)) → next ≡ no_in map s.way
          → Does (chosen_in (bare s) (number v) map) ks ls (Ok m) ks' ls'
      unfolding chosen_in
      chosen_else z p q = rw (z, ← q, ← hh) (pushes s next n (Ok m) ks ls (ap Ok e) ks' ls' 1 head p)

      pub chosen_then : v ≡ true → (n ≡ depth_of (calls_in s.depth) (more_of (count_in s.depth))) × ((ks' ≡ put_in ks (count_in s.depth) 0) × (ls' ≡ put_in ls (count_in s.depth) head)) → next ≡ yes_in map s.way
          → Does (chosen_in (bare s) (number v) map) ks ls (Ok m) ks' ls'
      unfolding chosen_in
      chosen_then z p q = rw (z, ← q, ← hh) (pushes s next n (Ok m) ks ls (ap Ok e) ks' ls' 0 head p)

    pub closed_yes : (k : ℕ) → k ≡ top_at ks (count_in s.depth) 9 → same (not v) (eqb k 0) ≡ false
        → (n ≡ depth_of (calls_in s.depth) (count_in s.depth - 1)) × ((ks' ≡ put_in ks (slot_of (count_in s.depth)) 0) × (ls' ≡ put_in ls (slot_of (count_in s.depth)) 0)) → next ≡ yes_in map s.way
        → Does (closed_in (by_kind s ks) (number v) map) ks ls (Ok m) ks' ls'
    unfolding closed_in by_kind
    closed_yes k kk t p q = rw (denied v, ← kk, t, ← q) (pops s next n (Ok m) ks ls (ap Ok e) ks' ls' p)

    pub repeated_true : v ≡ true → (n ≡ depth_of (calls_in s.depth) (count_in s.depth - 1)) × ((ks' ≡ put_in ks (slot_of (count_in s.depth)) 0) × (ls' ≡ put_in ls (slot_of (count_in s.depth)) 0)) → next ≡ yes_in map s.way
        → Does (repeated_in (by_label s ls) (number v) map) ks ls (Ok m) ks' ls'
    unfolding repeated_in by_label
    repeated_true z p q = rw (z, ← q) (pops s next n (Ok m) ks ls (ap Ok e) ks' ls' p)

    pub opened_true : (head : ℕ) → head ≡ head_in map s.way → (g : Bool) → g ≡ again_in (sight s ks ls) head → g ≡ false → v ≡ true
        → (n ≡ depth_of (calls_in s.depth) (more_of (count_in s.depth))) × ((ks' ≡ put_in ks (count_in s.depth) 2) × (ls' ≡ put_in ls (count_in s.depth) head)) → next ≡ yes_in map s.way → Does (opened_in (sight s ks ls) (number v) map) ks ls (Ok m) ks' ls'
    unfolding opened_in sight
    opened_true head hh g gg t z p q = rw (← hh, ← gg, t, z, ← q) (pushes s next n (Ok m) ks ls (ap Ok e) ks' ls' 2 head p)

  pub closed_no : (k : ℕ) → k ≡ top_at ks (count_in s.depth) 9 → same (not v) (eqb k 0) ≡ true → Does (closed_in (by_kind s ks) (number v) map) ks ls (Err WrongValue) ks ls
  unfolding closed_in by_kind
  closed_no k kk t = rw (denied v, ← kk, t) (refuses s 0 0 _ ks ls 31 refl)

  module _ (next : ℕ) (m : Move) (e : m ≡ on_to (bare s) next s.depth) (ks' : List ℕ) where
    pub repeated_false : v ≡ false → ks' ≡ put_in ks (slot_of (count_in s.depth)) 3 → next ≡ no_in map s.way → Does (repeated_in (by_label s ls) (number v) map) ks ls (Ok m) ks' ls
    unfolding repeated_in by_label
    repeated_false z kk q = rw z (rw q at (changes s next 0 (Ok m) ks ls 3 ks' (ap Ok e) kk))

    pub opened_again : (head : ℕ) → head ≡ head_in map s.way → (g : Bool) → g ≡ again_in (sight s ks ls) head → g ≡ true → v ≡ false
        → ks' ≡ put_in ks (slot_of (count_in s.depth)) 2 → next ≡ yes_in map s.way → Does (opened_in (sight s ks ls) (number v) map) ks ls (Ok m) ks' ls
    unfolding opened_in sight by_label
    opened_again head hh g gg t z kk q = rw (← hh, ← gg, t, z, ← q) (changes s next 0 (Ok m) ks ls 2 ks' (ap Ok e) kk)

  module _ (head : ℕ) (hh : head ≡ head_in map s.way) (g : Bool) (gg : g ≡ again_in (sight s ks ls) head) where
    pub opened_wrong : g ≡ true → v ≡ true → Does (opened_in (sight s ks ls) (number v) map) ks ls (Err WrongValue) ks ls
    unfolding opened_in sight
    opened_wrong t z = rw (← hh, ← gg, t, z) (refuses s 0 0 _ ks ls 31 refl)

    pub opened_false : g ≡ false → v ≡ false → Does (opened_in (sight s ks ls) (number v) map) ks ls (Err WrongValue) ks ls
    unfolding opened_in sight
    opened_false t z = rw (← hh, ← gg, t, z) (refuses s 0 0 _ ks ls 31 refl)

module _ (s : Spot) (ks ls : List ℕ) (h k : ℕ) where
  pub again_yes : (l : ℕ) → k ≡ 3 → k ≡ top_at ks (count_in s.depth) 9 → l ≡ top_at ls (count_in s.depth) 0 → eqb l h ≡ again_in (sight s ks ls) h
  unfolding sight
  again_yes l e kk ll = rw (← kk, eq-eqb k 3 e, ll)

  pub again_no : (k ≡ 3 → ⊥) → k ≡ top_at ks (count_in s.depth) 9 → eqb k 3 ≡ again_in (sight s ks ls) h
  unfolding sight
  again_no e kk = rw (← kk, ne_eqb k 3 e)

pub ruleset acts = (chosen_else, chosen_then, closed_yes, closed_no, repeated_true, repeated_false, opened_true, opened_again, opened_wrong, opened_false, again_yes, again_no)

-- ---- calls and returns
module _ (s : Spot) (map : List ℕ) (m : Result Move Told) (ks ls : List ℕ) where
  pub entered_no : 262144 ≤ s.depth → m ≡ Err TooDeep → Does (entered_in (bare s) map) ks ls m ks ls
  unfolding entered_in
  entered_no h e = rw (le-leb 64 (calls_in s.depth) (omega arith)) (refuses s 0 0 m ks ls 34 e)

  module _ (side : ℕ) where
    pub returned_no : s.depth < 4096 → m ≡ Err AtEnd → Does (returned_in (by_label s ls) side map) ks ls m ks ls
    unfolding returned_in by_label
    returned_no h e = rw (eq-eqb (calls_in s.depth) 0 (omega arith)) (refuses s 0 0 m ks ls 30 e)

    module _ (nz : 4096 ≤ s.depth) (l : ℕ) (ll : l ≡ top_at ls (count_in s.depth) 0) where
      pub returned_far : 1024 ≤ l → m ≡ Err Unfit → Does (returned_in (by_label s ls) side map) ks ls m ks ls
      unfolding returned_in by_label
      returned_far h e = rw (ne_eqb (calls_in s.depth) 0 (λ e. omega arith), ← ll, le-ltb l 1024 h) (refuses s 0 0 m ks ls 21 e)

      pub returned_on : l < 1024 → (ks' ls' : List ℕ) → Does (back_in (bare s) l side map) ks ls m ks' ls' → Does (returned_in (by_label s ls) side map) ks ls m ks' ls'
      unfolding returned_in by_label
      returned_on h ks' ls' d = rw (ne_eqb (calls_in s.depth) 0 (λ e. omega arith), ← ll, lt-ltb l 1024 h) d

module _ (s : Spot) (map ks ls ks' ls' : List ℕ) where
  pub entered_yes : (n a l w : ℕ) → s.depth < 262144 → (n ≡ depth_of (calls_in s.depth) (more_of (count_in s.depth))) × ((ks' ≡ put_in ks (count_in s.depth) 4) × (ls' ≡ put_in ls (count_in s.depth) l)) → a ≡ first_in map s.way
      → l ≡ label_in s.way → w ≡ second_in map s.way
      → Does (entered_in (bare s) map) ks ls (Ok (record { way = w; a = a; depth = n + 4096 })) ks' ls'
  unfolding entered_in
  entered_yes n a l w h (nn, (kk, ll)) aa el ww =
      let deeper : n + 4096 ≡ depth_of (calls_in s.depth + 1) (more_of (count_in s.depth)) = omega (arith, nn) in
      rw (lt-leb 64 (calls_in s.depth) (omega arith), ← el)
      (record { made = λ i. Ok (record { way = ww i; a = aa i; depth = deeper i }); small = more_small (count_in s.depth) (omega arith); kinds = kk; labels = ll })

  pub back_is : 4096 ≤ s.depth → (l x side w n : ℕ) → w ≡ yes_in map (x + side) → x ≡ l → (n ≡ depth_of (calls_in s.depth) (count_in s.depth - 1)) × ((ks' ≡ put_in ks (slot_of (count_in s.depth)) 0) × (ls' ≡ put_in ls (slot_of (count_in s.depth)) 0))
      → Does (back_in (bare s) l side map) ks ls (Ok (record { way = w; a = l; depth = n - 4096 })) ks' ls'
  back_is h l x side w n ww xx (nn, (kk, ll)) =
      let fewer : n - 4096 ≡ depth_of (calls_in s.depth - 1) (count_in s.depth - 1) = omega (arith, nn) in
      let to : w ≡ yes_in map (l + side) = rw (← xx) ww in
      record { made = λ i. Ok (record { way = to i; a = l; depth = fewer i }); small = omega arith; kinds = kk; labels = ll }

pub ruleset calls = (entered_no, entered_yes, back_is, returned_no, returned_far, returned_on)

-- ---- a SET
-- no answer is two
both : {A : Type 0} {B : Type 0} {X : Type 0} {r : Result A B} {u : A} {e : B} → r ≡ Ok u → r ≡ Err e → X
both p q = let z : ◌≡◌ {A = ℕ} 0 1 = cc in absurd (omega arith)

module _ (s : Spot) (map : List ℕ) where
  refused_by : (q : Reason) → Err (reason_by (number_in q)) ≡ told (assigned_in (bare s) (number_in q) map)
  refused_by at_end = refl
  refused_by wrong_value = refl
  refused_by zero_divisor = refl
  refused_by bad_index = refl
  refused_by too_deep = refl

  module _ (f arr : List ℕ) (σ τ : Store) (r : Result (Unit {0}) Told) where
    done : (next : ℕ) (m : Move) (u : Unit {0}) → r ≡ Ok u → m ≡ on_to (bare s) next s.depth → next ≡ yes_in map s.way → (x : Answer Store) → Left x σ r τ → Sets (after_set (bare s) map σ x) (Ok m) τ
    done next m u k h n (ok σ') l = record { made = ap Ok h ∙ rw n (ap (λ n. Ok (on_to (bare s) (yes_in map s.way) n)) (together s.depth)); left = l.1 }
    done next m u k h n (no q) l = both k l.0

    stops : (m : Result Move Told) (e : Told) → r ≡ Err e → m ≡ Err e → (x : Answer Store) → Left x σ r τ → Sets (after_set (bare s) map σ x) m τ
    stops m e k h (ok σ') l = both l.0 k
    stops m e k h (no q) l = let t : e ≡ reason_by (number_in q) = cc in record { made = h ∙ ap Err t ∙ refused_by q; left = l.1 }

    module _ (at o t : ℕ) (ii : at ≡ expr_in map s.way) (kk : t ≡ second_in map s.way) where
      module _ (l : Left (set_cell f at t o arr σ) σ r τ) where
        pub cell_done : (next : ℕ) (m : Move) (u : Unit {0}) → r ≡ Ok u → m ≡ on_to (bare s) next s.depth → next ≡ yes_in map s.way → Sets (cell_in f map arr (bare s) σ o) (Ok m) τ
        unfolding cell_in
        cell_done next m u k h n = rw (← ii, ← kk) (done next m u k h n (set_cell f at t o arr σ) l)

        pub cell_stops : (m : Result Move Told) (e : Told) → r ≡ Err e → m ≡ Err e → Sets (cell_in f map arr (bare s) σ o) m τ
        unfolding cell_in
        cell_stops m e k h = rw (← ii, ← kk) (stops m e k h (set_cell f at t o arr σ) l)

      module _ (jj : o ≡ first_in map s.way) (l : Left (set_entry f at t o arr σ) σ r τ) where
        pub entry_done : (next : ℕ) (m : Move) (u : Unit {0}) → r ≡ Ok u → m ≡ on_to (bare s) next s.depth → next ≡ yes_in map s.way → Sets (entry_in f map arr (bare s) σ) (Ok m) τ
        unfolding entry_in
        entry_done next m u k h n = rw (← ii, ← kk, ← jj) (done next m u k h n (set_entry f at t o arr σ) l)

        pub entry_stops : (m : Result Move Told) (e : Told) → r ≡ Err e → m ≡ Err e → Sets (entry_in f map arr (bare s) σ) m τ
        unfolding entry_in
        entry_stops m e k h = rw (← ii, ← kk, ← jj) (stops m e k h (set_entry f at t o arr σ) l)

pub ruleset sets = (cell_done, cell_stops, entry_done, entry_stops)

-- what a condition says, and its number
says_value : (w : Worth) (v : Bool) → judged w ≡ Ok v → number v ≡ truth_of w
says_value (value x) v e = let k : v ≡ is_true x = cc in rw k
says_value (stop f) v e = both e refl

says_stop : (w : Worth) (e : Told) → judged w ≡ Err e → (s : Sight) → (2 ≤ truth_of w) × (Err e ≡ told (refused_in s (truth_of w)))
says_stop (value x) e k s = both refl k
says_stop (stop div_by_zero) e k s = let t : e ≡ ZeroDivisor = cc in (omega arith, ap Err t)
says_stop (stop outside) e k s = let t : e ≡ BadIndex = cc in (omega arith, ap Err t)

less_two : (v : Bool) → number v < 2
less_two true = omega arith
less_two false = omega arith

-- ---- `looped` and `tested`; what asks for less than the whole frame answers the same of it
module _ (s : Spot) (f arr map : List ℕ) (σ : Store) (m : Result Move Told) (ks ls ks' ls' : List ℕ) (a : ℕ) where
  abbrev Tells : (Sight → ℕ → ℕ → List ℕ → Doing) → Type 0
  Tells X = Does (X (sight s ks ls) a (truth_of (worth_at arr σ (up_to 32768 16 f (expr_in map s.way)))) map) ks ls m ks' ls'

  module _ (at : ℕ) (r : Result Bool Told) (jj : r ≡ judged (worth_at arr σ (up_to 32768 16 f at))) (ii : at ≡ expr_in map s.way) where
    module _ (v : Bool) (k : r ≡ Ok v) where
      vv : number v ≡ truth_of (worth_at arr σ (up_to 32768 16 f at))
      vv = says_value (worth_at arr σ (up_to 32768 16 f at)) v (sym jj ∙ k)

      low : number v < 2
      low = less_two v

      pub told_8 : a ≡ 8 → Does (opened_in (sight s ks ls) (number v) map) ks ls m ks' ls' → Tells looped_in
      unfolding looped_in
      told_8 e d = rw (← ii, ← vv, eq-eqb a 8 e, lt-leb 2 (number v) low) d

      pub told_10 : (a ≡ 8 → ⊥) → a ≡ 10 → Does (repeated_in (by_label s ls) (number v) map) ks ls m ks' ls' → Tells looped_in
      unfolding looped_in repeated_in by_label sight
      told_10 n8 e d = rw (← ii, ← vv, ne_eqb a 8 n8, eq-eqb a 10 e, lt-leb 2 (number v) low) d

      pub told_5 : a ≡ 5 → Does (chosen_in (bare s) (number v) map) ks ls m ks' ls' → Tells tested_in
      unfolding tested_in chosen_in sight
      told_5 e d = rw (← ii, ← vv, eq-eqb a 5 e, lt-leb 2 (number v) low) d

      pub told_7 : (a ≡ 5 → ⊥) → a ≡ 7 → Does (closed_in (by_kind s ks) (number v) map) ks ls m ks' ls' → Tells tested_in
      unfolding tested_in closed_in by_kind sight
      told_7 n5 e d = rw (← ii, ← vv, ne_eqb a 5 n5, eq-eqb a 7 e, lt-leb 2 (number v) low) d

    -- the expression is stopped
    module _ (e : Told) (k : r ≡ Err e) (h : m ≡ Err e) (kk : ks' ≡ ks) (ll : ls' ≡ ls) where
      halted : (2 ≤ truth_of (worth_at arr σ (up_to 32768 16 f at))) × Does (refused_in (bare s) (truth_of (worth_at arr σ (up_to 32768 16 f at)))) ks ls m ks' ls'
      halted =
          let w = says_stop (worth_at arr σ (up_to 32768 16 f at)) e (sym jj ∙ k) (bare s) in
          (w.0, rw (kk, ll) (refuses s 0 0 m ks ls _ (h ∙ w.1)))

      pub stopped_8 : a ≡ 8 → Tells looped_in
      unfolding looped_in sight
      stopped_8 e = rw (← ii, eq-eqb a 8 e, le-leb 2 _ halted.0) halted.1

      pub stopped_10 : (a ≡ 8 → ⊥) → a ≡ 10 → Tells looped_in
      unfolding looped_in sight
      stopped_10 n8 e = rw (← ii, ne_eqb a 8 n8, eq-eqb a 10 e, le-leb 2 _ halted.0) halted.1

      pub stopped_5 : a ≡ 5 → Tells tested_in
      unfolding tested_in sight
      stopped_5 e = rw (← ii, eq-eqb a 5 e, le-leb 2 _ halted.0) halted.1

      pub stopped_7 : (a ≡ 5 → ⊥) → a ≡ 7 → Tells tested_in
      unfolding tested_in sight
      stopped_7 n5 e = rw (← ii, ne_eqb a 5 n5, eq-eqb a 7 e, le-leb 2 _ halted.0) halted.1

  pub told_on : (a ≡ 5 → ⊥) → (a ≡ 7 → ⊥) → Tells looped_in → Tells tested_in
  unfolding tested_in
  told_on n5 n7 d = rw (ne_eqb a 5 n5, ne_eqb a 7 n7) d

pub skipped : (s : Spot) (v : ℕ) (map : List ℕ) (m : Move) (ks ls : List ℕ) (a next : ℕ) → (a ≡ 8 → ⊥) → (a ≡ 10 → ⊥) → m ≡ on_to (bare s) next s.depth
    → next ≡ yes_in map s.way → Does (looped_in (sight s ks ls) a v map) ks ls (Ok m) ks ls
unfolding looped_in sight
skipped s v map m ks ls a next n8 n10 h n = rw (ne_eqb a 8 n8, ne_eqb a 10 n10, ← n) (keeps s next 0 (Ok m) ks ls (ap Ok h))

pub ruleset tests = (refl, told_8, told_10, told_5, told_7, stopped_8, stopped_10, stopped_5, stopped_7, told_on, skipped)

-- ---- `decide`, by what the record met does
-- a SET writes no slot
module _ (s : Sight) (y n v : ℕ) (ks : List ℕ) where
  slotless : (t : Bool) → ks ≡ written (cond t (kept_in s y) (refused_in s n)) ks v
  slotless true = unwritten ks v true
  slotless false = unwritten ks v (eqb n 0)

module _ (f map arr : List ℕ) (s : Spot) (ks ls : List ℕ) (σ : Store) (m : Result Move Told) where
  abbrev Decides : List ℕ → List ℕ → Store → Type 0
  Decides ks' ls' τ = Rules (rule_in f map arr (sight s ks ls) σ) ks ls m ks' ls' τ

  pub does_far : 2048 ≤ s.way → m ≡ Err Unfit → Decides ks ls σ
  unfolding rule_in sight
  does_far h e = rw (le-ltb s.way 2048 h) (record { does = refuses s 0 0 m ks ls 21 e; left = refl })

  set_rules : (τ : Store) (x : Answer Store) → Sets (after_set (bare s) map σ x) m τ → Rules (after_set (sight s ks ls) map σ x) ks ls m ks ls τ
  unfolding sight
  set_rules τ (ok σ') d = record { does = record { made = d.made; small = omega arith; kinds = unwritten ks 0 true; labels = unwritten ls 0 true }; left = d.left }
  set_rules τ (no q) d =
      record {
        does = record { made = d.made; small = few (eqb (number_in q) 0); kinds = slotless (bare s) (yes_in map s.way) (number_in q) _ ks (eqb (number_in q) 0); labels = slotless (bare s) (yes_in map s.way) (number_in q) _ ls (eqb (number_in q) 0) };
        left = d.left;
      }
    where
      few : (t : Bool) → (cond t (kept_in (bare s) (yes_in map s.way)) (refused_in (bare s) (number_in q))).count < 4096
      few true = omega arith
      few false = omega arith

  module _ (a : ℕ) (aa : a ≡ act_in map s.way) (near : s.way < 2048) where
    pub does_add : (τ : Store) → a ≡ 4 → Sets (cell_in f map arr (bare s) σ 0) m τ → Decides ks ls τ
    unfolding rule_in cell_in sight
    does_add τ e d = rw (lt-ltb s.way 2048 near, ← aa, eq-eqb a 4 e) (set_rules τ (set_cell f (expr_in map s.way) (second_in map s.way) 0 arr σ) d)

    module _ (n4 : a ≡ 4 → ⊥) where
      pub does_subtract : (τ : Store) → a ≡ 12 → Sets (cell_in f map arr (bare s) σ 1) m τ → Decides ks ls τ
      unfolding rule_in cell_in sight
      does_subtract τ e d =
          rw (lt-ltb s.way 2048 near, ← aa, ne_eqb a 4 n4, eq-eqb a 12 e) (set_rules τ (set_cell f (expr_in map s.way) (second_in map s.way) 1 arr σ) d)

      module _ (n12 : a ≡ 12 → ⊥) where
        pub does_exclude : (τ : Store) → a ≡ 14 → Sets (cell_in f map arr (bare s) σ 2) m τ → Decides ks ls τ
        unfolding rule_in cell_in sight
        does_exclude τ e d =
            rw (lt-ltb s.way 2048 near, ← aa, ne_eqb a 4 n4, ne_eqb a 12 n12, eq-eqb a 14 e)
            (set_rules τ (set_cell f (expr_in map s.way) (second_in map s.way) 2 arr σ) d)

        module _ (n14 : a ≡ 14 → ⊥) where
          pub does_entry : (τ : Store) → a ≡ 6 → Sets (entry_in f map arr (bare s) σ) m τ → Decides ks ls τ
          unfolding rule_in entry_in sight
          does_entry τ e d =
              rw (lt-ltb s.way 2048 near, ← aa, ne_eqb a 4 n4, ne_eqb a 12 n12, ne_eqb a 14 n14, eq-eqb a 6 e)
              (set_rules τ (set_entry f (expr_in map s.way) (second_in map s.way) (first_in map s.way) arr σ) d)

          module _ (n6 : a ≡ 6 → ⊥) where
            module _ (ks' ls' : List ℕ) where
              pub does_call : a ≡ 11 → Does (entered_in (bare s) map) ks ls m ks' ls' → Decides ks' ls' σ
              unfolding rule_in entered_in sight
              does_call e d =
                  rw (lt-ltb s.way 2048 near, ← aa, ne_eqb a 4 n4, ne_eqb a 12 n12, ne_eqb a 14 n14, ne_eqb a 6 n6, eq-eqb a 11 e)
                  (record { does = d; left = refl })

              module _ (n11 : a ≡ 11 → ⊥) where
                pub does_down : a ≡ 3 → Does (returned_in (by_label s ls) 0 map) ks ls m ks' ls' → Decides ks' ls' σ
                unfolding rule_in returned_in by_label sight
                does_down e d =
                    rw (lt-ltb s.way 2048 near, ← aa, ne_eqb a 4 n4, ne_eqb a 12 n12, ne_eqb a 14 n14, ne_eqb a 6 n6, ne_eqb a 11 n11, eq-eqb a 3 e)
                    (record { does = d; left = refl })

                module _ (n3 : a ≡ 3 → ⊥) where
                  pub does_up : a ≡ 9 → Does (returned_in (by_label s ls) 1024 map) ks ls m ks' ls' → Decides ks' ls' σ
                  unfolding rule_in returned_in by_label sight
                  does_up e d =
                      rw (lt-ltb s.way 2048 near, ← aa, ne_eqb a 4 n4, ne_eqb a 12 n12, ne_eqb a 14 n14, ne_eqb a 6 n6, ne_eqb a 11 n11, ne_eqb a 3 n3, eq-eqb a 9 e)
                      (record { does = d; left = refl })

                  pub does_test : (a ≡ 9 → ⊥) → Does (tested_in (sight s ks ls) a (truth_of (worth_at arr σ (up_to 32768 16 f (expr_in map s.way)))) map) ks ls m ks' ls' → Decides ks' ls' σ
                  unfolding rule_in sight
                  does_test n9 d =
                      rw (lt-ltb s.way 2048 near, ← aa, ne_eqb a 4 n4, ne_eqb a 12 n12, ne_eqb a 14 n14, ne_eqb a 6 n6, ne_eqb a 11 n11, ne_eqb a 3 n3, ne_eqb a 9 n9)
                      (record { does = d; left = refl })

pub ruleset rules = (does_far, does_add, does_subtract, does_exclude, does_entry, does_call, does_down, does_up, does_test)
