-- When a step is refused: for each reason its condition, of the record that is met, the frames and the store.
use Rattle.std.specs.Prelude.{ℕ, ◌<◌, List, ◌∷◌, Bool, true, false, ◌⊎◌, ◌≡◌, get_or, ℤ, pos, negsuc}
use Rattle.values.specs.Values.{is_true}
use Rattle.expr.specs.Tree.{Expr, read, bin, Fault, div_by_zero, bad_index as beyond, value, eval}
use Rattle.records.specs.Records.{cell, entry, Record, begin, end, assign, if, fi, from, until, call, uncall}
use Rattle.order.specs.Trees.{Tree}
use Rattle.moves.specs.Labels.{at}
use Rattle.moves.specs.Edges.{Frame, in_then, in_else}
use Rattle.moves.specs.Places.{Dir, going, Place, head, again, calls}
use Rattle.moves.specs.Stores.{Reason, at_end, wrong_value, zero_divisor, bad_index, too_deep, Store, layout}

-- "index below 0 or not below the array's length"
abbrev pub Misses : Tree → ℕ → ℤ → Type 0
Misses t a (pos i) = i < get_or t.lengths a 0 → ⊥
Misses t a (negsuc i) = Unit {0}

-- What first goes wrong in an expression: "Both sides are always evaluated, left first. An array read evaluates its own index, then tests it";
-- "zero divisor in `/` or `%`", operators 4 and 5. A value is one that `eval` gives.
pub data Stops (t : Tree) (σ : Store) : Expr → Fault → Type 0 where
  in_read : {a : ℕ} {i : Expr} {f : Fault} → Stops t σ i f → Stops t σ (read a i) f
  misses : {a : ℕ} {i : Expr} {v : ℤ} → eval (layout t) σ i ≡ value v → Misses t a v → Stops t σ (read a i) beyond
  in_left : {o : ℕ} {l r : Expr} {f : Fault} → Stops t σ l f → Stops t σ (bin o l r) f
  in_right : {o : ℕ} {l r : Expr} {x : ℤ} {f : Fault} → eval (layout t) σ l ≡ value x → Stops t σ r f → Stops t σ (bin o l r) f
  divides : {o : ℕ} {l r : Expr} {x : ℤ} → (o ≡ 4) ⊎ (o ≡ 5) → eval (layout t) σ l ≡ value x → eval (layout t) σ r ≡ value (pos 0) → Stops t σ (bin o l r) div_by_zero

-- The records that evaluate one expression only, and which.
pub data Only : Record → Expr → Type 0 where
  of_if : {e : Expr} → Only (if e) e
  of_fi : {e : Expr} → Only (fi e) e
  of_from : {e : Expr} → Only (from e) e
  of_until : {e : Expr} → Only (until e) e
  of_cell : {o x : ℕ} {e : Expr} → Only (assign o (cell x) e) e

-- 32 and 33: what first goes wrong when a record's expressions are evaluated. Of a SET of an array "index is evaluated and tested first",
-- as an array read's is, "then the expression".
pub data Faults (t : Tree) (σ : Store) (ρ : Record) (f : Fault) : Type 0 where
  in_only : {e : Expr} → Only ρ e → Stops t σ e f → Faults t σ ρ f
  in_index : {o a : ℕ} {i e : Expr} → ρ ≡ assign o (entry a i) e → Stops t σ (read a i) f → Faults t σ ρ f
  in_entry : {o a : ℕ} {i e : Expr} {v : ℤ} → ρ ≡ assign o (entry a i) e → eval (layout t) σ (read a i) ≡ value v → Stops t σ e f → Faults t σ ρ f

-- An expression's value is true, or false.
abbrev pub Truth : Tree → Store → Expr → Bool → Type 0
Truth t σ e b = (v : ℤ) × (eval (layout t) σ e ≡ value v) × (is_true v ≡ b)

-- The condition of each reason, of the record ρ that is met in direction d with the frames fs; `s2` says whether one comes to a loop from its s2.
pub data Meets (t : Tree) (σ : Store) (s2 : Bool) (fs : List Frame) (ρ : Record) (d : Dir) : Reason → Type 0 where
  -- 30: "END down or BEGIN up of main, no call left" (where a place fits and no call is left, the record lies in main)
  ends : ρ ≡ going d end begin → calls fs ≡ 0 → Meets t σ s2 fs ρ d at_end
  -- 31: "a closing or opening value is the wrong one": branch 0 closes by true, 1 by false; one opens by true from outside, by false from s2.
  then_false : (e : Expr) {l : ℕ} {F : List Frame} → ρ ≡ going d (fi e) (if e) → fs ≡ in_then l ∷ F → Truth t σ e false → Meets t σ s2 fs ρ d wrong_value
  else_true : (e : Expr) {l : ℕ} {F : List Frame} → ρ ≡ going d (fi e) (if e) → fs ≡ in_else l ∷ F → Truth t σ e true → Meets t σ s2 fs ρ d wrong_value
  outside_false : (e : Expr) → ρ ≡ going d (from e) (until e) → s2 ≡ false → Truth t σ e false → Meets t σ s2 fs ρ d wrong_value
  again_true : (e : Expr) → ρ ≡ going d (from e) (until e) → s2 ≡ true → Truth t σ e true → Meets t σ s2 fs ρ d wrong_value
  by_zero : Faults t σ ρ div_by_zero → Meets t σ s2 fs ρ d zero_divisor
  no_entry : Faults t σ ρ beyond → Meets t σ s2 fs ρ d bad_index
  -- 34: "a 65th call"
  deep : {q : ℕ} → (ρ ≡ call q) ⊎ (ρ ≡ uncall q) → calls fs ≡ 64 → Meets t σ s2 fs ρ d too_deep

-- That `again` and `head` tell rightly whether one comes from s2 is no matter of belief: else the opposite step would not restore the frames.
abbrev pub Condition : Tree → Place → Store → Reason → Type 0
Condition t p σ r = Meets t σ (again (head t p.b p.d) p.frames) p.frames (at t p.b) p.d r
