-- What a step's act refuses, and the conditions of the five reasons, say the same of a record that is met.
use Prim.Native.Nat.{ℕ, ◌+◌, ◌≤◌}
use mathlib.Core.Path.{◌≡◌, refl, ap, sym, ◌∙◌, subst, subst⁻¹}
use mathlib.Core.Bool.{Bool, true, false, not, cond}
use mathlib.Core.List.{List, [], ◌∷◌}
use mathlib.Core.Logic.{◌⊎◌, inl, inr}
use lib.ListN.{get_or}
use lib.Dec.{ltb}
use lib.IntN.{ℤ, pos, negsuc}
use native.Mathlib.Omega.{arith}
use borrow.Author.Tests.{ltb-true, ltb-false}
use Rattle.values.specs.Values.{is_true}
use Rattle.expr.specs.Tree.{Expr, read, Fault, div_by_zero, bad_index as outside, Worth, value, stop, eval}
use Rattle.records.specs.Records.{Target, cell, entry, Record, names, begin, end, assign, if, else, fi, from, loop, until, call, uncall, skip}
use Rattle.order.specs.Trees.{Tree}
use Rattle.moves.specs.Edges.{Frame, in_then, in_else, in_do, in_loop, called}
use Rattle.moves.specs.Places.{Dir, down, up, going, calls}
use Rattle.moves.specs.Stores.{Reason, at_end, wrong_value, bad_index, too_deep, Answer, ok, no, bind, Store, layout, reason_of, answered, evaluated, holds, entry_at, cell_of, assigned}
use Rattle.moves.specs.Step.{again}
use Rattle.moves.specs.Reasons.{Misses, Stops, in_read, misses, of_if, of_fi, of_from, of_until, of_cell, Faults, in_only, in_index, in_entry, Meets, ends, then_false, else_true, outside_false, again_true, by_zero, no_entry, deep}
use Rattle.moves.proofs.Acts.{Act, assigns, moves, chooses, closes, opens, tests, enters, enters_back, returns, nothing, act, wanted}
use Rattle.moves.proofs.Why.{ok_no, no_no, Refuses}
use Rattle.moves.proofs.Stopping.{stopped, stops_eval}

-- ---- an evaluation that stops, and one that gives a value
module _ (τ : Tree) (σ : Store) where
  abbrev Ends : Expr → Reason → Type 0
  Ends e r = (f : Fault) × Stops τ σ e f × (reason_of f ≡ r)

  stops : (e : Expr) (r : Reason) → evaluated τ σ e ≡ no r → Ends e r
  unfolding evaluated
  stops e r h = go' (eval (layout τ) σ e) refl h
    where
      go' : (w : Worth) → eval (layout τ) σ e ≡ w → answered w ≡ no r → Ends e r
      go' (value v) q h = ok_no v r h
      go' (stop f) q h = (f, stopped τ σ e f q, no_no h)

  pub evaluated_is : (e : Expr) (v : ℤ) → eval (layout τ) σ e ≡ value v → evaluated τ σ e ≡ ok v
  unfolding evaluated
  evaluated_is e v q = ap answered q

  evaluated_stop : (e : Expr) (f : Fault) → Stops τ σ e f → evaluated τ σ e ≡ no (reason_of f)
  unfolding evaluated
  evaluated_stop e f q = ap answered (stops_eval τ σ q)

  holds_no : (e : Expr) (r : Reason) → holds τ σ e ≡ no r → Ends e r
  unfolding holds bind
  holds_no e r h = go' (evaluated τ σ e) refl h
    where
      go' : (a : Answer ℤ) → evaluated τ σ e ≡ a → bind a (λ v. ok (is_true v)) ≡ no r → Ends e r
      go' (ok v) q h = ok_no (is_true v) r h
      go' (no r') q h = stops e r (q ∙ ap no (no_no h))

  holds_ok : (e : Expr) (b : Bool) → holds τ σ e ≡ ok b → (v : ℤ) × (eval (layout τ) σ e ≡ value v) × (is_true v ≡ b)
  unfolding holds bind evaluated
  holds_ok e b h = go' (eval (layout τ) σ e) refl h
    where
      go' : (w : Worth) → eval (layout τ) σ e ≡ w → bind (answered w) (λ v. ok (is_true v)) ≡ ok b
          → (v : ℤ) × (eval (layout τ) σ e ≡ value v) × (is_true v ≡ b)
      go' (value v) q h = (v, q, cc)
      go' (stop f) q h = ok_no b (reason_of f) (sym h)

  holds_is : (e : Expr) (v : ℤ) → eval (layout τ) σ e ≡ value v → holds τ σ e ≡ ok (is_true v)
  unfolding holds bind
  holds_is e v q = rw (evaluated_is e v q)

  holds_stop : (e : Expr) (f : Fault) → Stops τ σ e f → holds τ σ e ≡ no (reason_of f)
  unfolding holds bind
  holds_stop e f q = rw (evaluated_stop e f q)

  -- ---- a SET's evaluations in their order
  abbrev SetStops : ℕ → Target → Expr → Reason → Type 0
  SetStops o x e r = (f : Fault) × Faults τ σ (assign o x e) f × (reason_of f ≡ r)

  missed : (a : ℕ) (v : ℤ) (r : Reason) → entry_at τ a v ≡ no r → Misses τ a v × (bad_index ≡ r)
  missed a (pos i) r h = go' (ltb i (get_or τ.lengths a 0)) refl h
    where
      go' : (b : Bool) → ltb i (get_or τ.lengths a 0) ≡ b → cond b (ok (get_or (layout τ).starts a 0 + i)) (no bad_index) ≡ no r
          → Misses τ a (pos i) × (bad_index ≡ r)
      go' true q h = ok_no _ r h
      go' false q h = let k : get_or τ.lengths a 0 ≤ i = ltb-false _ _ q in (λ l. omega arith, no_no h)
  missed a (negsuc i) r h = (tt, no_no h)

  misses_no : (a : ℕ) (v : ℤ) → Misses τ a v → entry_at τ a v ≡ no bad_index
  misses_no a (pos i) m = go' (ltb i (get_or τ.lengths a 0)) refl
    where
      go' : (b : Bool) → ltb i (get_or τ.lengths a 0) ≡ b → cond b (ok (get_or (layout τ).starts a 0 + i)) (no bad_index) ≡ no bad_index
      go' true q = absurd (m (ltb-true _ _ q))
      go' false q = refl
  misses_no a (negsuc i) m = refl

  -- The expression comes last.
  last_no : (e : Expr) (k : ℤ → Store) (r : Reason) → bind (evaluated τ σ e) (λ v. ok (k v)) ≡ no r → Ends e r
  unfolding bind
  last_no e k r h = go' (evaluated τ σ e) refl h
    where
      go' : (a : Answer ℤ) → evaluated τ σ e ≡ a → bind a (λ v. ok (k v)) ≡ no r → Ends e r
      go' (ok v) q h = ok_no (k v) r h
      go' (no r') q h = stops e r (q ∙ ap no (no_no h))

  clash : {X : Type 0} {w : Worth} {v : ℤ} {f : Fault} → w ≡ value v → w ≡ stop f → X
  clash p q = absurd (let z : ◌≡◌ {A = ℕ} 0 1 = cc in let y : ⊥ = omega arith in y)

  -- The entry of an array that a SET changes is there exactly where the array could be read.
  entry_no : (a : ℕ) (i : Expr) (f : Fault) → Stops τ σ (read a i) f → cell_of τ σ (entry a i) ≡ no (reason_of f)
  unfolding cell_of bind
  entry_no a i f (in_read q) = rw (evaluated_stop i f q)
  entry_no a i f (misses {v = v} q m) = rw (evaluated_is i v q, misses_no a v m)

  entry_ok : (a : ℕ) (i : Expr) (u : ℤ) → eval (layout τ) σ (read a i) ≡ value u → (c : ℕ) × (cell_of τ σ (entry a i) ≡ ok c)
  unfolding cell_of bind
  entry_ok a i u h = go' (eval (layout τ) σ i) refl
    where
      given : (v : ℤ) → eval (layout τ) σ i ≡ value v → (c : Answer ℕ) → entry_at τ a v ≡ c → (c : ℕ) × (cell_of τ σ (entry a i) ≡ ok c)
      given v q (ok c) k = (c, rw (evaluated_is i v q, k))
      given v q (no r) k = clash h (stops_eval τ σ (misses q (missed a v r k).0))

      go' : (w : Worth) → eval (layout τ) σ i ≡ w → (c : ℕ) × (cell_of τ σ (entry a i) ≡ ok c)
      go' (value v) q = given v q (entry_at τ a v) refl
      go' (stop f) q = clash h (stops_eval τ σ {e = read a i} (in_read (stopped τ σ i f q)))

  set_no : (o : ℕ) (x : Target) (e : Expr) (d : Dir) (r : Reason) → assigned τ o x e d σ ≡ no r → SetStops o x e r
  unfolding assigned cell_of bind
  set_no o (cell x) e d r h =
      let s = last_no e _ r h in
      (s.0, in_only of_cell s.1, s.2)
  set_no o (entry a i) e d r h = go' (eval (layout τ) σ (read a i)) refl
    where
      go' : (w : Worth) → eval (layout τ) σ (read a i) ≡ w → SetStops o (entry a i) e r
      go' (value u) q = let s = last_no e _ r (rw (entry_ok a i u q).1 at h) in (s.0, in_entry refl q s.1, s.2)
      go' (stop f) q = let s = stopped τ σ (read a i) f q in (f, in_index refl s, no_no (rw (entry_no a i f s) at h))

  index_no : (o a : ℕ) (i e : Expr) (d : Dir) (f : Fault) → Stops τ σ (read a i) f → assigned τ o (entry a i) e d σ ≡ no (reason_of f)
  unfolding assigned bind
  index_no o a i e d f s = rw (entry_no a i f s)

  entry_last : (o a : ℕ) (i e : Expr) (d : Dir) (u : ℤ) (f : Fault) → eval (layout τ) σ (read a i) ≡ value u → Stops τ σ e f
      → assigned τ o (entry a i) e d σ ≡ no (reason_of f)
  unfolding assigned bind
  entry_last o a i e d u f q s = rw ((entry_ok a i u q).1, evaluated_stop e f s)

  cell_last : (o x : ℕ) (e : Expr) (d : Dir) (f : Fault) → Stops τ σ e f → assigned τ o (cell x) e d σ ≡ no (reason_of f)
  unfolding assigned cell_of bind
  cell_last o x e d f s = rw (evaluated_stop e f s)

-- ---- what the frames are where a record is met
abbrev pub Branch : List Frame → Type 0
Branch fs = (l : ℕ) × (F : List Frame) × ((fs ≡ in_then l ∷ F) ⊎ (fs ≡ in_else l ∷ F))

abbrev pub Top : List Frame → Type 0
Top [] = Unit {0}
Top (in_then l ∷ F) = ⊥
Top (in_else l ∷ F) = ⊥
Top (in_do l ∷ F) = ⊥
Top (in_loop l ∷ F) = ⊥
Top (called l ∷ F) = Unit {0}

abbrev pub Shape : Act → List Frame → Type 0
Shape (assigns o x e) fs = Unit {0}
Shape moves fs = Unit {0}
Shape (chooses e) fs = Unit {0}
Shape (closes e) fs = Branch fs
Shape (opens e) fs = Unit {0}
Shape (tests e) fs = Unit {0}
Shape (enters q) fs = Unit {0}
Shape (enters_back q) fs = Unit {0}
Shape returns fs = Top fs
Shape nothing fs = ⊥

top_none : (fs : List Frame) → Top fs → calls fs ≡ 0 → fs ≡ []
top_none [] t h = refl
top_none (in_then l ∷ F) t h = absurd t
top_none (in_else l ∷ F) t h = absurd t
top_none (in_do l ∷ F) t h = absurd t
top_none (in_loop l ∷ F) t h = absurd t
top_none (called l ∷ F) t h = absurd (let z : ⊥ = omega arith in z)

module _ (τ : Tree) (σ : Store) (h : ℕ) (fs : List Frame) where
  -- ---- a refusal meets its reason's condition
  fault_meets : (ρ : Record) (d : Dir) (f : Fault) (r : Reason) → Faults τ σ ρ f → reason_of f ≡ r → Meets τ σ (again h fs) fs ρ d r
  fault_meets ρ d div_by_zero r k e = subst (Meets τ σ (again h fs) fs ρ d) e (by_zero k)
  fault_meets ρ d outside r k e = subst (Meets τ σ (again h fs) fs ρ d) e (no_entry k)

  closes_meets : (ρ : Record) (d : Dir) (e : Expr) (r : Reason) → ρ ≡ going d (fi e) (if e) → ((f : Fault) → Stops τ σ e f → Faults τ σ ρ f) → Branch fs
      → (holds τ σ e ≡ no r) ⊎ ((holds τ σ e ≡ ok (not (wanted fs))) × (r ≡ wrong_value)) → Meets τ σ (again h fs) fs ρ d r
  closes_meets ρ d e r c k b (inl n) = let s = holds_no τ σ e r n in fault_meets ρ d s.0 r (k s.0 s.1) s.2
  closes_meets ρ d e r c k (l, F, inl q) (inr n) =
      let s = holds_ok τ σ e (not (wanted fs)) n.0 in subst⁻¹ (Meets τ σ (again h fs) fs ρ d) n.1 (then_false e c q (s.0, s.1, s.2 ∙ rw q))
  closes_meets ρ d e r c k (l, F, inr q) (inr n) =
      let s = holds_ok τ σ e (not (wanted fs)) n.0 in subst⁻¹ (Meets τ σ (again h fs) fs ρ d) n.1 (else_true e c q (s.0, s.1, s.2 ∙ rw q))

  opens_meets : (ρ : Record) (d : Dir) (e : Expr) (r : Reason) → ρ ≡ going d (from e) (until e) → ((f : Fault) → Stops τ σ e f → Faults τ σ ρ f)
      → (holds τ σ e ≡ no r) ⊎ ((holds τ σ e ≡ ok (again h fs)) × (r ≡ wrong_value)) → Meets τ σ (again h fs) fs ρ d r
  opens_meets ρ d e r c k (inl n) = let s = holds_no τ σ e r n in fault_meets ρ d s.0 r (k s.0 s.1) s.2
  opens_meets ρ d e r c k (inr n) = subst⁻¹ (Meets τ σ (again h fs) fs ρ d) n.1 (go' (again h fs) refl)
    where
      go' : (b : Bool) → again h fs ≡ b → Meets τ σ (again h fs) fs ρ d wrong_value
      go' true q = let s = holds_ok τ σ e (again h fs) n.0 in again_true e c q (s.0, s.1, s.2 ∙ q)
      go' false q = let s = holds_ok τ σ e (again h fs) n.0 in outside_false e c q (s.0, s.1, s.2 ∙ q)

  plain_meets : (ρ : Record) (d : Dir) (e : Expr) (r : Reason) → ((f : Fault) → Stops τ σ e f → Faults τ σ ρ f) → holds τ σ e ≡ no r → Meets τ σ (again h fs) fs ρ d r
  plain_meets ρ d e r k n = let s = holds_no τ σ e r n in fault_meets ρ d s.0 r (k s.0 s.1) s.2

  pub refuses_meets : (ρ : Record) (d : Dir) (r : Reason) → Shape (act ρ d) fs → calls fs ≤ 64 → Refuses τ h (act ρ d) d fs σ r → Meets τ σ (again h fs) fs ρ d r
  unfolding act
  refuses_meets (names v ls) d r s n k = absurd k
  refuses_meets begin down r s n k = absurd k
  refuses_meets begin up r s n k = subst⁻¹ (Meets τ σ (again h fs) fs begin up) k.1 (ends refl (ap calls k.0))
  refuses_meets end down r s n k = subst⁻¹ (Meets τ σ (again h fs) fs end down) k.1 (ends refl (ap calls k.0))
  refuses_meets end up r s n k = absurd k
  refuses_meets (assign o x e) d r s n k = let z = set_no τ σ o x e d r k in fault_meets (assign o x e) d z.0 r z.1 z.2
  refuses_meets (if e) down r s n k = plain_meets (if e) down e r (λ f q. in_only of_if q) k
  refuses_meets (if e) up r s n k = closes_meets (if e) up e r refl (λ f q. in_only of_if q) s k
  refuses_meets else d r s n k = absurd k
  refuses_meets (fi e) down r s n k = closes_meets (fi e) down e r refl (λ f q. in_only of_fi q) s k
  refuses_meets (fi e) up r s n k = plain_meets (fi e) up e r (λ f q. in_only of_fi q) k
  refuses_meets (from e) down r s n k = opens_meets (from e) down e r refl (λ f q. in_only of_from q) k
  refuses_meets (from e) up r s n k = plain_meets (from e) up e r (λ f q. in_only of_from q) k
  refuses_meets loop d r s n k = absurd k
  refuses_meets (until e) down r s n k = plain_meets (until e) down e r (λ f q. in_only of_until q) k
  refuses_meets (until e) up r s n k = opens_meets (until e) up e r refl (λ f q. in_only of_until q) k
  refuses_meets (call q) d r s n k = subst⁻¹ (Meets τ σ (again h fs) fs (call q) d) k.1 (deep {q = q} (inl refl) (let a = k.0 in omega arith))
  refuses_meets (uncall q) d r s n k = subst⁻¹ (Meets τ σ (again h fs) fs (uncall q) d) k.1 (deep {q = q} (inr refl) (let a = k.0 in omega arith))
  refuses_meets skip d r s n k = absurd k

  -- ---- where a reason's condition holds, the step is refused for it
  abbrev Refused : Dir → Reason → Record → Type 0
  Refused d r ρ = Refuses τ h (act ρ d) d fs σ r

  if_stops : (d : Dir) (e : Expr) (f : Fault) → Stops τ σ e f → Refused d (reason_of f) (if e)
  unfolding act
  if_stops down e f q = holds_stop τ σ e f q
  if_stops up e f q = inl (holds_stop τ σ e f q)

  fi_stops : (d : Dir) (e : Expr) (f : Fault) → Stops τ σ e f → Refused d (reason_of f) (fi e)
  unfolding act
  fi_stops down e f q = inl (holds_stop τ σ e f q)
  fi_stops up e f q = holds_stop τ σ e f q

  from_stops : (d : Dir) (e : Expr) (f : Fault) → Stops τ σ e f → Refused d (reason_of f) (from e)
  unfolding act
  from_stops down e f q = inl (holds_stop τ σ e f q)
  from_stops up e f q = holds_stop τ σ e f q

  until_stops : (d : Dir) (e : Expr) (f : Fault) → Stops τ σ e f → Refused d (reason_of f) (until e)
  unfolding act
  until_stops down e f q = holds_stop τ σ e f q
  until_stops up e f q = inl (holds_stop τ σ e f q)

  faults_refuse : (ρ : Record) (d : Dir) (f : Fault) → Faults τ σ ρ f → Refused d (reason_of f) ρ
  unfolding act
  faults_refuse ρ d f (in_only (of_if {e = e}) q) = if_stops d e f q
  faults_refuse ρ d f (in_only (of_fi {e = e}) q) = fi_stops d e f q
  faults_refuse ρ d f (in_only (of_from {e = e}) q) = from_stops d e f q
  faults_refuse ρ d f (in_only (of_until {e = e}) q) = until_stops d e f q
  faults_refuse ρ d f (in_only (of_cell {o = o} {x = x} {e = e}) q) = cell_last τ σ o x e d f q
  faults_refuse ρ d f (in_index {o = o} {a = a} {i = i} {e = e} j q) = subst⁻¹ (Refused d (reason_of f)) j (index_no τ σ o a i e d f q)
  faults_refuse ρ d f (in_entry {o = o} {a = a} {i = i} {e = e} {v = v} j q k) = subst⁻¹ (Refused d (reason_of f)) j (entry_last τ σ o a i e d v f q k)

  close_refuse : (d : Dir) (e : Expr) → holds τ σ e ≡ ok (not (wanted fs)) → Refused d wrong_value (going d (fi e) (if e))
  unfolding act
  close_refuse down e k = inr (k, refl)
  close_refuse up e k = inr (k, refl)

  open_refuse : (d : Dir) (e : Expr) → holds τ σ e ≡ ok (again h fs) → Refused d wrong_value (going d (from e) (until e))
  unfolding act
  open_refuse down e k = inr (k, refl)
  open_refuse up e k = inr (k, refl)

  end_refuse : (d : Dir) → fs ≡ [] → Refused d at_end (going d end begin)
  unfolding act
  end_refuse down e = (e, refl)
  end_refuse up e = (e, refl)

  top_end : (d : Dir) → Shape (act (going d end begin) d) fs → Top fs
  unfolding act
  top_end down s = s
  top_end up s = s

  pub meets_refuses : (ρ : Record) (d : Dir) (r : Reason) → Shape (act ρ d) fs → Meets τ σ (again h fs) fs ρ d r → Refuses τ h (act ρ d) d fs σ r
  unfolding act
  meets_refuses ρ d r s (ends i k) =
      subst⁻¹ (Refused d at_end) i (end_refuse d (top_none fs (top_end d (subst (λ ρ. Shape (act ρ d) fs) i s)) k))
  meets_refuses ρ d r s (then_false e i q (v, k, b)) = subst⁻¹ (Refused d wrong_value) i (close_refuse d e (holds_is τ σ e v k ∙ rw (q, b)))
  meets_refuses ρ d r s (else_true e i q (v, k, b)) = subst⁻¹ (Refused d wrong_value) i (close_refuse d e (holds_is τ σ e v k ∙ rw (q, b)))
  meets_refuses ρ d r s (outside_false e i q (v, k, b)) =
      subst⁻¹ (Refused d wrong_value) i (open_refuse d e (holds_is τ σ e v k ∙ ap ok (b ∙ sym q)))
  meets_refuses ρ d r s (again_true e i q (v, k, b)) =
      subst⁻¹ (Refused d wrong_value) i (open_refuse d e (holds_is τ σ e v k ∙ ap ok (b ∙ sym q)))
  meets_refuses ρ d r s (by_zero k) = faults_refuse ρ d div_by_zero k
  meets_refuses ρ d r s (no_entry k) = faults_refuse ρ d outside k
  meets_refuses ρ d r s (deep (inl i) k) = subst⁻¹ (Refused d too_deep) i (omega arith, refl)
  meets_refuses ρ d r s (deep (inr i) k) = subst⁻¹ (Refused d too_deep) i (omega arith, refl)
