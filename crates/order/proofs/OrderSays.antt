-- Refusal 6: the check over kinds says what the trees say. A valid order, the first record after which there is none, and one tree only.
-- Assumes nothing.
use Prim.Native.Nat.{ℕ, suc, ◌+◌, ◌≤◌, ◌<◌}
use mathlib.Core.Path.{◌≡◌, refl, ap, sym, ◌∙◌, subst}
use mathlib.Core.List.{List, [], ◌∷◌, ◌++◌, append_assoc, append-nil}
use mathlib.Core.Option.{none, some}
use mathlib.Core.Bool.{Bool, true, false, cond}
use mathlib.Core.Logic.{◌⊎◌, inl, inr, ⊎_elim}
use native.Mathlib.Omega.{arith}
use lib.ListN.{length, take, drop, take-append-drop}
use lib.Seq.{take-take, take-length}
use Rattle.records.specs.Records.{Record, kind}
use Rattle.order.specs.Trees.{Block, Tree, records_of, procedures, Ordered, Viable, Misplaced, no_order, too_soon}
use Rattle.std.specs.Prelude.{Option as Maybe, Some, None, option_map, unwrap_or, Result, Ok, Err}
use Rattle.order.specs.declared.open.Phase.TheVariants.{Start, Named, Ended, Opened, Stated}
use Rattle.order.specs.declared.open.Phase.{Phase}
use Rattle.order.specs.declared.open.Frame.{Frame}
use Rattle.order.specs.Order.{State, at, next, whole, kinds, order_from, order_of}
use Rattle.order.proofs.OrderParts.{Part, nothing, dead, between, within, grow, reads, shape, shape_grow, reads_dead, reads_append}
use Rattle.order.proofs.OrderOpen.{open_p, nested_open, open_nested}
use Rattle.order.proofs.OrderReads.{le_or_lt, reads_tree, reads_over}
use Rattle.order.proofs.OrderText.{Text, text, reads_text, finish, finishes}

-- ---- The shape says which parts are dead, and which are whole.
is_dead : (p : Part) → shape p ≡ None → p ≡ dead
unfolding shape
is_dead nothing e = cc
is_dead dead e = refl
is_dead (between v ls []) e = cc
is_dead (between v ls (b ∷ bs)) e = cc
is_dead (within v ls bs none ly) e = cc
is_dead (within v ls bs (some a) ly) e = cc

is_live : (p : Part) (s : State) → shape p ≡ Some s → p ≡ dead → ⊥
unfolding shape
is_live p s e h = let z : shape p ≡ None = ap shape h in cc

never : {A : Type 0} (p : Phase) (s : State) → s.phase ≡ p → whole s.phase ≡ true → whole p ≡ false → A
never p s e w h = let z : whole s.phase ≡ false = rw e h in cc

is_whole : (p : Part) (s : State) → shape p ≡ Some s → whole s.phase ≡ true → shape p ≡ Some (at Ended [])
unfolding shape
is_whole nothing s e w = never Start s (cc) w refl
is_whole dead s e w = cc
is_whole (between v ls []) s e w = never Named s (cc) w refl
is_whole (between v ls (b ∷ bs)) s e w = refl
is_whole (within v ls bs none ly) s e w = never Opened s (cc) w refl
is_whole (within v ls bs (some a) ly) s e w = never Stated s (cc) w refl

-- ---- Read whole: exactly the records of a tree.
tree : ℕ → List ℕ → Block → List Block → Tree
tree v ls b bs = record { scalars = v; lengths = ls; main = b; others = bs }

pub ordered_reads : (rs : List Record) (t : Tree) → Ordered rs t → reads nothing rs ≡ between t.scalars t.lengths (procedures t)
ordered_reads rs t o = subst (λ x. reads nothing x ≡ between t.scalars t.lengths (procedures t)) o.records (reads_tree t (nested_open o))

pub reads_ordered : (rs : List Record) → shape (reads nothing rs) ≡ Some (at Ended []) → (t : Tree) × Ordered rs t
unfolding shape text records_of tree
reads_ordered rs e = go (reads nothing rs) refl (reads_text rs [] nothing refl) e
  where
    nested : (t : Tree) → records_of t ≡ rs → (reads nothing rs ≡ dead → ⊥) → Ordered rs t
    nested t h live = open_nested rs t h (⊎_elim (λ x. x) (λ x. absurd (live (ap (λ y. reads nothing y) (sym h) ∙ reads_over t x))) (le_or_lt (open_p (procedures t)) 16))

    ends : {A : Type 0} (p : Phase) (fs : List Frame) → Some (at p fs) ≡ Some (at Ended []) → whole p ≡ false → A
    ends p fs e h = never p (at Ended []) (cc) refl h

    go : (p : Part) → reads nothing rs ≡ p → Text rs p → shape p ≡ Some (at Ended []) → (t : Tree) × Ordered rs t
    go nothing q x e = ends _ _ e refl
    go dead q x e = cc
    go (between v ls []) q x e = ends _ _ e refl
    go (between v ls (b ∷ bs)) q x e = (tree v ls b bs, nested (tree v ls b bs) x (λ d. cc))
    go (within v ls bs none ly) q x e = ends _ _ e refl
    go (within v ls bs (some a) ly) q x e = ends _ _ e refl

-- ---- Viable: exactly what is not dead.
pub live_viable : (rs : List Record) → (reads nothing rs ≡ dead → ⊥) → Viable rs
live_viable rs live = (finish (reads nothing rs), whole.0, whole.1)
  where
    whole : (t : Tree) × Ordered (rs ++ finish (reads nothing rs)) t
    whole = reads_ordered (rs ++ finish (reads nothing rs)) (ap shape (reads_append rs (finish (reads nothing rs)) nothing) ∙ finishes (reads nothing rs) live)

pub viable_live : (rs : List Record) → Viable rs → reads nothing rs ≡ dead → ⊥
viable_live rs u d = let x = ordered_reads (rs ++ u.0) u.1 u.2 in let y = reads_append rs u.0 nothing in let z = reads_dead u.0 in
    let w : reads (reads nothing rs) u.0 ≡ reads dead u.0 = ap (λ p. reads p u.0) d in cc

-- ---- The check's answer, in terms of what is read: n records are before p, and rs is left.
record Stuck (n : ℕ) (p : Part) (rs : List Record) (k : ℕ) : Type 0 where
  past : ℕ
  counts : k ≡ n + past
  within : past < length rs
  before : reads p (take past rs) ≡ dead → ⊥
  after : reads p (take (suc past) rs) ≡ dead

record Short (n : ℕ) (p : Part) (rs : List Record) (k : ℕ) : Type 0 where
  counts : k ≡ n + length rs
  live : reads p rs ≡ dead → ⊥
  unfinished : shape (reads p rs) ≡ Some (at Ended []) → ⊥

abbrev Outcome : ℕ → Part → List Record → Result (Unit {0}) ℕ → Type 0
Outcome n p rs (Ok all) = shape (reads p rs) ≡ Some (at Ended [])
Outcome n p rs (Err k) = Stuck n p rs k ⊎ Short n p rs k

at_end_lem : (n : ℕ) (p : Part) (s : State) → shape p ≡ Some s → (b : Bool) → whole s.phase ≡ b → Outcome n p [] (cond b (Ok tt) (Err n))
unfolding reads
at_end_lem n p s e true w = is_whole p s e w
at_end_lem n p s e false w =
    inr (record {
      counts = omega arith;
      live = is_live p s e;
      unfinished = λ f. let z : Some s ≡ Some (at Ended []) = sym e ∙ f in let y : s ≡ at Ended [] = cc in let x : whole s.phase ≡ true = rw y in cc;
    })

later : (n : ℕ) (p : Part) (r : Record) (rs : List Record) → (o : Result (Unit {0}) ℕ) → Outcome (suc n) (grow p r) rs o → Outcome n p (r ∷ rs) o
unfolding reads
later n p r rs (Ok all) h = h
later n p r rs (Err k) (inl h) = inl (record { past = suc h.past; counts = omega (arith, h.counts); within = omega (arith, h.within); before = h.before; after = h.after })
later n p r rs (Err k) (inr h) = inr (record { counts = omega (arith, h.counts); live = h.live; unfinished = h.unfinished })

outcome : (rs : List Record) (n : ℕ) (p : Part) (s : State) → shape p ≡ Some s → Outcome n p rs (order_from n s (kinds rs))
unfolding order_from reads
outcome [] n p s e = at_end_lem n p s e (whole s.phase) refl
outcome (r ∷ rs) n p s e = go (next s (kind r)) refl (λ t q. outcome rs (suc n) (grow p r) t q)
  where
    grown : shape (grow p r) ≡ next s (kind r)
    grown = shape_grow p r ∙ rw e

    go : (o : Maybe State) → next s (kind r) ≡ o → ((t : State) → shape (grow p r) ≡ Some t → Outcome (suc n) (grow p r) rs (order_from (suc n) t (kinds rs)))
        → Outcome n p (r ∷ rs) (unwrap_or (option_map (λ t. order_from (suc n) t (kinds rs)) o) (Err n))
    go None q h = inl (record { past = 0; counts = omega arith; within = omega arith; before = is_live p s e; after = is_dead (grow p r) (grown ∙ q) })
    go (Some t) q h = later n p r rs (order_from (suc n) t (kinds rs)) (h t (grown ∙ q))

answer : (rs : List Record) (o : Result (Unit {0}) ℕ) → order_of (kinds rs) ≡ o → Outcome 0 nothing rs o
unfolding order_of shape
answer rs o e = subst (λ x. Outcome 0 nothing rs x) e (outcome rs 0 nothing (at Start []) refl)

-- ---- The theorems.
tree_whole : (rs : List Record) (t : Tree) → Ordered rs t → shape (reads nothing rs) ≡ Some (at Ended [])
unfolding shape
tree_whole rs t o = ap shape (ordered_reads rs t o)

-- In order: the records are those of a tree.
pub order_ordered : (rs : List Record) → order_of (kinds rs) ≡ Ok tt → (t : Tree) × Ordered rs t
order_ordered rs e = reads_ordered rs (answer rs (Ok tt) e)

-- Misplaced: at the first record after which no order is valid, or where the records stop too soon.
pub order_misplaced : (rs : List Record) (k : ℕ) → order_of (kinds rs) ≡ Err k → Misplaced rs k
order_misplaced rs k e = ⊎_elim stuck short (answer rs (Err k) e)
  where
    stuck : Stuck 0 nothing rs k → Misplaced rs k
    stuck h = let z : h.past ≡ k = omega (arith, h.counts) in
        subst (λ j. Misplaced rs j) z (no_order h.within (live_viable (take h.past rs) h.before) (λ u. viable_live (take (suc h.past) rs) u h.after))

    short : Short 0 nothing rs k → Misplaced rs k
    short h = let z : length rs ≡ k = omega (arith, h.counts) in
        subst (λ j. Misplaced rs j) z (too_soon (live_viable rs h.live) (λ t o. h.unfinished (tree_whole rs t o)))

append_viable : (xs ys : List Record) → Viable (xs ++ ys) → Viable xs
append_viable xs ys u = (ys ++ u.0, u.1, subst (λ x. Ordered x u.1) (append_assoc xs ys u.0) u.2)

take_viable : (rs : List Record) (i : ℕ) → Viable rs → Viable (take i rs)
take_viable rs i u = append_viable (take i rs) (drop i rs) (subst Viable (sym (take-append-drop i rs)) u)

-- The answered record, told by the prefixes alone.
record Last (rs : List Record) (k : ℕ) : Type 0 where
  bound : k ≤ length rs
  viable : Viable (take k rs)
  beyond : (i : ℕ) → k < i → i ≤ length rs → Viable (take i rs) → ⊥

misplaced_last : (rs : List Record) (k : ℕ) → Misplaced rs k → Last rs k
misplaced_last rs k (no_order h u d) = record {
  bound = omega arith;
  viable = u;
  beyond = λ i x y w. d (subst Viable (take-take (suc k) i rs x) (take_viable (take i rs) (suc k) w));
}
misplaced_last rs k (too_soon u d) = record {
  bound = omega arith;
  viable = subst Viable (sym (take-length rs)) u;
  beyond = λ i x y w. omega arith;
}

pub misplaced_unique : (rs : List Record) (k j : ℕ) → Misplaced rs k → Misplaced rs j → k ≡ j
misplaced_unique rs k j a b = go (misplaced_last rs k a) (misplaced_last rs j b)
  where
    go : Last rs k → Last rs j → k ≡ j
    go x y = ⊎_elim
        (λ p. ⊎_elim (λ q. omega arith) (λ q. absurd (x.beyond j q y.bound y.viable)) (le_or_lt j k))
        (λ p. absurd (y.beyond k p x.bound x.viable))
        (le_or_lt k j)

misplaced_not_ordered : (rs : List Record) (k : ℕ) (t : Tree) → Misplaced rs k → Ordered rs t → ⊥
misplaced_not_ordered rs k t (no_order h u d) o = d (take_viable rs (suc k) ([], t, subst (λ x. Ordered x t) (sym (append-nil rs)) o))
misplaced_not_ordered rs k t (too_soon u d) o = d t o

pub ordered_order : (rs : List Record) (t : Tree) → Ordered rs t → order_of (kinds rs) ≡ Ok tt
ordered_order rs t o = go (order_of (kinds rs)) refl
  where
    go : (x : Result (Unit {0}) ℕ) → order_of (kinds rs) ≡ x → order_of (kinds rs) ≡ Ok tt
    go (Ok all) e = e
    go (Err k) e = absurd (misplaced_not_ordered rs k t (order_misplaced rs k e) o)

pub misplaced_order : (rs : List Record) (k : ℕ) → Misplaced rs k → order_of (kinds rs) ≡ Err k
misplaced_order rs k m = go (order_of (kinds rs)) refl
  where
    go : (x : Result (Unit {0}) ℕ) → order_of (kinds rs) ≡ x → order_of (kinds rs) ≡ Err k
    go (Ok all) e = let w = order_ordered rs e in absurd (misplaced_not_ordered rs k w.0 m w.1)
    go (Err j) e = e ∙ ap Err (misplaced_unique rs j k (order_misplaced rs j e) m)

-- Two trees that are written alike are one.
pub ordered_unique : (rs : List Record) (t u : Tree) → Ordered rs t → Ordered rs u → t ≡ u
unfolding tree
ordered_unique rs t u a b = let x = ordered_reads rs t a in let y = ordered_reads rs u b in
    let v : t.scalars ≡ u.scalars = cc in let l : t.lengths ≡ u.lengths = cc in let m : t.main ≡ u.main = cc in let o : t.others ≡ u.others = cc in
    ap (λ z. tree z t.lengths t.main t.others) v ∙ (ap (λ z. tree u.scalars z t.main t.others) l
    ∙ (ap (λ z. tree u.scalars u.lengths z t.others) m ∙ ap (λ z. tree u.scalars u.lengths u.main z) o))
