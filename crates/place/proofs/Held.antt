-- The struct and the place that it holds are tied one to one. Assumes nothing.
--     seen_held         the place seen in the struct that holds p is p
--     held_injective    so no struct holds two places
--     held_seen         a struct with a direction, a count, kinds and unused slots as they must be holds the place seen in it
--     plain_yes         so it is plain; plain_direction, -count, -kind, -unused-kinds and -unused-labels: and each plain one is such
--     decides_slotted   so an answer that tells whether a struct is such decides `Plain`
--     plain_of_lem          the test `plain_of` decides `Plain`
use mathlib.Core.Path.{◌≡◌, refl, sym, ap, ◌∙◌}
use borrow.Author.Count.{below_more}
use mathlib.Core.Bool.{Bool, true, false, not, cond}
use lib.Dec.{eqb, leb}
use borrow.Author.Tests.{eq-eqb, eqb-true, eqb-false, leb-true, leb-false}
use mathlib.Core.List.{List, [], ◌∷◌, ◌++◌, map, reverse, reverse-cons, append_assoc}
use Prim.Native.Nat.{ℕ, zero, suc, ◌+◌, ◌-◌, ◌≤◌, ◌<◌}
use native.Mathlib.Omega.{arith}
use lib.ListN.{length, length-map, get_or, take, drop, replicate, length-reverse, length-take, length-drop, length-replicate, get_or-replicate, take-append-drop}
use lib.Seq.{get_or_at, get_or-take, get_or-drop, take-suc, ext_get_or, get_or-append-add}
use Rattle.std.specs.Prelude.{◌↔◌, EachIndex, IsTrue}
use Rattle.place.specs.declared.Place.{Place as Held}
use Rattle.place.specs.Places.{Dir, down, up, Frame, in_then, in_else, in_do, in_loop, called, frame_kind, frame_label, Place}
use Rattle.place.specs.Slots.{dir_number, slots, held, Plain, Decides, dir_of, frame_of, frames_in, seen, same_list, plain_of}

-- ---- from the document's place to the struct and back
pub dir_back : (d : Dir) → dir_of (dir_number d) ≡ d
dir_back down = refl
dir_back up = refl

pub frame_back : (f : Frame) → frame_of (frame_kind f) (frame_label f) ≡ f
frame_back (in_then l) = refl
frame_back (in_else l) = refl
frame_back (in_do l) = refl
frame_back (in_loop l) = refl
frame_back (called l) = refl

-- whatever stands in the slots after them
frames_back : (fs : List Frame) (r t : List ℕ) → frames_in (length fs) (reverse (map frame_kind fs) ++ r) (reverse (map frame_label fs) ++ t) ≡ fs
unfolding frames_in
frames_back [] r t = refl
frames_back (f ∷ fs) r t =
    rw (
      reverse-cons (frame_kind f) (map frame_kind fs),
      reverse-cons (frame_label f) (map frame_label fs),
      append_assoc (reverse (map frame_kind fs)),
      append_assoc (reverse (map frame_label fs)),
      get_or_at (reverse (map frame_kind fs)) (frame_kind f) r 0 (length fs) (long frame_kind),
      get_or_at (reverse (map frame_label fs)) (frame_label f) t 0 (length fs) (long frame_label),
      frame_back f,
      frames_back fs (frame_kind f ∷ r) (frame_label f ∷ t),
    )
  where
    long : (g : Frame → ℕ) → length (reverse (map g fs)) ≡ length fs
    long g = length-reverse (map g fs) ∙ length-map fs g

pub seen_held : (p : Place) → seen (held p) ≡ p
seen_held p = rw (dir_back p.d, frames_back p.frames _ _)

pub held_injective : (p q : Place) → held p ≡ held q → p ≡ q
held_injective p q e = sym (seen_held p) ∙ ap seen e ∙ seen_held q

-- ---- from the struct to the document's place and back
pub kind_of_lem : (k l : ℕ) → k ≤ 4 → frame_kind (frame_of k l) ≡ k
kind_of_lem zero l h = refl
kind_of_lem (suc zero) l h = refl
kind_of_lem (suc (suc zero)) l h = refl
kind_of_lem (suc (suc (suc zero))) l h = refl
kind_of_lem (suc (suc (suc (suc k)))) l h = omega arith

pub label_of : (k l : ℕ) → frame_label (frame_of k l) ≡ l
label_of zero l = refl
label_of (suc zero) l = refl
label_of (suc (suc zero)) l = refl
label_of (suc (suc (suc zero))) l = refl
label_of (suc (suc (suc (suc k)))) l = refl

pub length_frames : (n : ℕ) (ks ls : List ℕ) → length (frames_in n ks ls) ≡ n
unfolding frames_in
length_frames zero ks ls = refl
length_frames (suc n) ks ls = ap suc (length_frames n ks ls)

module _ (ks ls : List ℕ) where
  kinds_taken : (n : ℕ) → n ≤ length ks → ((k : ℕ) → k < n → get_or ks k 0 ≤ 4) → reverse (map frame_kind (frames_in n ks ls)) ≡ take n ks
  unfolding frames_in
  kinds_taken zero h small = refl
  kinds_taken (suc n) h small =
      rw (reverse-cons, kind_of_lem (get_or ks n 0) (get_or ls n 0) (small n (omega arith)), kinds_taken n (omega arith) (λ k r. small k (omega arith)), take-suc ks n 0 h)

  labels_taken : (n : ℕ) → n ≤ length ls → reverse (map frame_label (frames_in n ks ls)) ≡ take n ls
  unfolding frames_in
  labels_taken zero h = refl
  labels_taken (suc n) h = rw (reverse-cons, label_of (get_or ks n 0) (get_or ls n 0), labels_taken n (omega arith), take-suc ls n 0 h)

-- slots that hold 0 from n on
unused : (s : List ℕ) (n : ℕ) → length s ≡ 1104 → n ≤ 1104 → ((k : ℕ) → k < 1104 → n ≤ k → get_or s k 0 ≡ 0) → drop n s ≡ replicate (1104 - n) 0
unused s n e h zero-on =
    ext_get_or 0 (drop n s) (replicate (1104 - n) 0) (rw (length-drop, length-replicate, e))
    (λ i r. let m : i < 1104 - n = omega (arith, length-drop n s) in rw (get_or-drop n s i 0, zero-on (n + i) (omega arith) (omega arith)) (sym (get_or-replicate (1104 - n) i 0 0 m)))

slots_of : (xs s : List ℕ) (n : ℕ) → length xs ≡ n → reverse xs ≡ take n s → drop n s ≡ replicate (1104 - n) 0 → slots xs ≡ s
slots_of xs s n l t d = rw (l, t, ← d) (take-append-drop n s)

pub dir_of_lem : (m : ℕ) → m ≤ 1 → dir_number (dir_of m) ≡ m
dir_of_lem zero r = refl
dir_of_lem (suc m) r = omega arith

module _ (h : Held) (lk : length h.kinds ≡ 1104) (ll : length h.labels ≡ 1104) (d : h.direction ≤ 1) (n : h.count ≤ 1104)
    (small : (k : ℕ) → k < h.count → get_or h.kinds k 0 ≤ 4)
    (zk : (k : ℕ) → k < 1104 → h.count ≤ k → get_or h.kinds k 0 ≡ 0)
    (zl : (k : ℕ) → k < 1104 → h.count ≤ k → get_or h.labels k 0 ≡ 0) where
  abbrev in_use : List Frame
  in_use = frames_in h.count h.kinds h.labels

  count_is : length (frames_in h.count h.kinds h.labels) ≡ h.count
  count_is = length_frames h.count h.kinds h.labels

  kinds_are : slots (map frame_kind in_use) ≡ h.kinds
  kinds_are = slots_of (map frame_kind in_use) h.kinds h.count (length-map in_use frame_kind ∙ count_is) (kinds_taken h.kinds h.labels h.count (omega arith) small) (unused h.kinds h.count lk n zk)

  labels_are : slots (map frame_label in_use) ≡ h.labels
  labels_are = slots_of (map frame_label in_use) h.labels h.count (length-map in_use frame_label ∙ count_is) (labels_taken h.kinds h.labels h.count (omega arith)) (unused h.labels h.count ll n zl)

  pub held_seen : held (seen h) ≡ h
  held_seen = rw (dir_of_lem h.direction d, kinds_are, labels_are, count_is)

  pub plain_yes : Plain h
  plain_yes = record { place = seen h; room = omega (arith, count_is); holds = sym held_seen }

-- ---- what is so of each struct that holds a place
pub dir_small : (d : Dir) → dir_number d ≤ 1
dir_small down = omega arith
dir_small up = omega arith

pub kind_small : (f : Frame) → frame_kind f ≤ 4
kind_small (in_then l) = omega arith
kind_small (in_else l) = omega arith
kind_small (in_do l) = omega arith
kind_small (in_loop l) = omega arith
kind_small (called l) = omega arith

kinds_small : (fs : List Frame) (r : List ℕ) (k : ℕ) → k < length fs → get_or (reverse (map frame_kind fs) ++ r) k 0 ≤ 4
kinds_small [] r k h = omega arith
kinds_small (f ∷ fs) r k h =
    rw (reverse-cons (frame_kind f) (map frame_kind fs), append_assoc (reverse (map frame_kind fs)))
    (below_more (λ k. get_or (reverse (map frame_kind fs) ++ (frame_kind f ∷ r)) k 0 ≤ 4) (length fs) (kinds_small fs (frame_kind f ∷ r)) here k (omega arith))
  where
    here : get_or (reverse (map frame_kind fs) ++ (frame_kind f ∷ r)) (length fs) 0 ≤ 4
    here = rw (get_or_at (reverse (map frame_kind fs)) (frame_kind f) r 0 (length fs) (length-reverse (map frame_kind fs) ∙ length-map fs frame_kind)) (kind_small f)

slots_unused : (xs : List ℕ) (k : ℕ) → length xs ≤ k → k < 1104 → get_or (slots xs) k 0 ≡ 0
slots_unused xs k h r =
    let e : k ≡ length (reverse xs) + (k - length xs) = omega (arith, length-reverse xs) in
    ap (λ (j : ℕ). get_or (slots xs) j 0) e ∙ get_or-append-add (reverse xs) _ (k - length xs) 0 ∙ get_or-replicate (1104 - length xs) (k - length xs) 0 0 (omega arith)

module _ (h : Held) (y : Plain h) where
  pub plain_direction : h.direction ≤ 1
  plain_direction = rw y.holds (dir_small y.place.d)

  pub plain_count : h.count ≤ 1104
  plain_count = rw y.holds y.room

  pub plain_kind : (k : ℕ) → k < h.count → get_or h.kinds k 0 ≤ 4
  plain_kind = rw y.holds (λ k r. kinds_small y.place.frames _ k r)

  pub plain_unused_kinds : (k : ℕ) → k < 1104 → h.count ≤ k → get_or h.kinds k 0 ≡ 0
  plain_unused_kinds = rw y.holds (λ k r t. slots_unused (map frame_kind y.place.frames) k (omega (arith, length-map y.place.frames frame_kind)) r)

  pub plain_unused_labels : (k : ℕ) → k < 1104 → h.count ≤ k → get_or h.labels k 0 ≡ 0
  plain_unused_labels = rw y.holds (λ k r t. slots_unused (map frame_label y.place.frames) k (omega (arith, length-map y.place.frames frame_label)) r)

-- ---- what the tests of `plain` say together: the slots in use hold kinds of frames, and the others 0
abbrev pub AreUnused : List ℕ → Type 0
AreUnused s = EachIndex s (λ k. get_or s k 0 ≡ 0)

abbrev pub Slotted : Held → Type 0
Slotted h =
    (h.direction ≤ 1) × ((h.count ≤ 1104) × (EachIndex (take h.count h.kinds) (λ k. get_or (take h.count h.kinds) k 0 ≤ 4)
    × (AreUnused (drop h.count h.kinds) × AreUnused (drop h.count h.labels))))

module _ (h : Held) (lk : length h.kinds ≡ 1104) (ll : length h.labels ≡ 1104) where
  dropped : (s : List ℕ) (n : ℕ) → length s ≡ 1104 → AreUnused (drop n s) → (k : ℕ) → k < 1104 → n ≤ k → get_or s k 0 ≡ 0
  dropped s n e z k r t =
      let i : k ≡ n + (k - n) = omega arith in
      ap (λ (j : ℕ). get_or s j 0) i ∙ (sym (get_or-drop n s (k - n) 0) ∙ z (k - n) (omega (arith, length-drop n s)))

  undropped : (s : List ℕ) (n : ℕ) → length s ≡ 1104 → ((k : ℕ) → k < 1104 → n ≤ k → get_or s k 0 ≡ 0) → AreUnused (drop n s)
  undropped s n e z k r = get_or-drop n s k 0 ∙ z (n + k) (omega (arith, length-drop n s)) (omega arith)

  slotted_plain : Slotted h → Plain h
  slotted_plain (d, (n, (ks, (uk, ul)))) =
      plain_yes h lk ll d n
      (λ k r. rw (← get_or-take h.count h.kinds k 0 r) (ks k (omega (arith, length-take h.count h.kinds))))
      (dropped h.kinds h.count lk uk) (dropped h.labels h.count ll ul)

  plain_slotted : Plain h → Slotted h
  plain_slotted y = (
    plain_direction h y,
    (
      plain_count h y,
      (
        (λ k r. let m : k < h.count = omega (arith, length-take h.count h.kinds) in rw get_or-take (plain_kind h y k m)),
        (undropped h.kinds h.count lk (plain_unused_kinds h y), undropped h.labels h.count ll (plain_unused_labels h y)),
      ),
    ),
  )

pub decides_slotted : (h : Held) (r : Bool) → length h.kinds ≡ 1104 → length h.labels ≡ 1104 → (IsTrue r ↔ Slotted h) → Decides r (Plain h)
decides_slotted h true lk ll e = slotted_plain h lk ll (e.0 refl)
decides_slotted h false lk ll e = λ y. absurd (let z : ◌≡◌ {A = Bool} false true = e.1 (plain_slotted h lk ll y) in let u : ◌≡◌ {A = ℕ} 0 1 = cc in omega arith)

-- an answer that is known
pub yes : {X : Type 0} (b : Bool) → Decides b X → not b ≡ false → X
yes true d e = d
yes false d e = absurd (let z : ◌≡◌ {A = ℕ} 0 1 = cc in omega arith)

pub no : {X : Type 0} (b : Bool) → Decides b X → not b ≡ true → X → ⊥
no false d e = d
no true d e = let z : ◌≡◌ {A = ℕ} 0 1 = cc in omega arith

-- a question has one answer
pub decided : (X : Type 0) (b c : Bool) → Decides b X → Decides c X → b ≡ c
decided X true true p q = refl
decided X true false p q = absurd (q p)
decided X false true p q = absurd (p q)
decided X false false p q = refl

-- ---- the test for `Plain`
list_same : (xs ys : List ℕ) → same_list xs ys ≡ true → xs ≡ ys
unfolding same_list
list_same [] [] e = refl
list_same [] (y ∷ ys) e = absurd (let z : ◌≡◌ {A = ℕ} 0 1 = cc in omega arith)
list_same (x ∷ xs) [] e = absurd (let z : ◌≡◌ {A = ℕ} 0 1 = cc in omega arith)
list_same (x ∷ xs) (y ∷ ys) e = go (eqb x y) refl (λ t. list_same xs ys t) e
  where
    go : (b : Bool) → eqb x y ≡ b → (same_list xs ys ≡ true → xs ≡ ys) → cond b (same_list xs ys) false ≡ true → x ∷ xs ≡ y ∷ ys
    go true t r e = rw (eqb-true x y t, r e)
    go false t r e = absurd (let z : ◌≡◌ {A = ℕ} 0 1 = cc in omega arith)

same_list_lem : (xs : List ℕ) → same_list xs xs ≡ true
unfolding same_list
same_list_lem [] = refl
same_list_lem (x ∷ xs) = rw (eq-eqb x x refl) (same_list_lem xs)

by : {X : Type 0} (b : Bool) → (b ≡ true → X) → (b ≡ false → X) → X
by true f g = f refl
by false f g = g refl

-- a struct that holds a place holds the one seen in it
pub plain_seen : (h : Held) → Plain h → held (seen h) ≡ h
plain_seen h y = ap (λ (g : Held). held (seen g)) y.holds ∙ ap held (seen_held y.place) ∙ sym y.holds

pub plain_of_lem : (h : Held) → Decides (plain_of h) (Plain h)
unfolding plain_of
plain_of_lem h =
    by (leb h.count 1104)
    (λ n. rw n (by (eqb h.direction (held (seen h)).direction)
    (λ d. rw d (by (same_list h.kinds (held (seen h)).kinds)
    (λ k. rw k (by (same_list h.labels (held (seen h)).labels)
    (λ l. rw l (record { place = seen h; room = omega (arith, length_frames h.count h.kinds h.labels, leb-true h.count 1104 n); holds = whole (eqb-true _ _ d) (list_same _ _ k) (list_same _ _ l) }))
    (λ l. rw l (λ y. clash (ap (λ (g : Held). same_list h.labels g.labels) (plain_seen h y) ∙ same_list_lem h.labels) l))))
    (λ k. rw k (λ y. clash (ap (λ (g : Held). same_list h.kinds g.kinds) (plain_seen h y) ∙ same_list_lem h.kinds) k))))
    (λ d. rw d (λ y. eqb-false _ _ d (ap (λ (g : Held). g.direction) (sym (plain_seen h y)))))))
    (λ n. rw n (λ y. omega (arith, plain_count h y, leb-false h.count 1104 n)))
  where
    clash : {b : Bool} → b ≡ true → b ≡ false → ⊥
    clash p q = let z : ◌≡◌ {A = ℕ} 0 1 = cc in omega arith

    whole : h.direction ≡ (held (seen h)).direction → h.kinds ≡ (held (seen h)).kinds → h.labels ≡ (held (seen h)).labels → h ≡ held (seen h)
    whole d k l = λ i. record { direction = d i; a = h.a; b = h.b; count = sym (length_frames h.count h.kinds h.labels) i; kinds = k i; labels = l i }
