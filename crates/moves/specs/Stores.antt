-- Document 01, 'Values' and 'Labels, places, moves': why a step is refused, stores, and what a SET does to one.
use Rattle.std.specs.Prelude.{ℕ, ◌+◌, List, [], ◌∷◌, Bool, cond, ◌≡◌, length, get_or, set as put, ltb, ℤ, pos, negsuc, ◌+ℤ◌, ◌-ℤ◌}
use Rattle.std.specs.Int.{w32}
use Rattle.std.proofs.Common.{SFits}
use Rattle.values.specs.Values.{wrap, xor_z, is_true}
use Rattle.expr.specs.Tree.{Expr, Arrays, Fault, div_by_zero, bad_index as beyond, fault_number, Worth, value, stop, eval}
use Rattle.records.specs.Records.{Target, cell, entry}
use Rattle.order.specs.Trees.{Tree, cells}
use Rattle.moves.specs.Places.{Dir, going}

-- The five reasons why a step is refused, and their numbers.
pub data Reason : Type 0 where
  at_end wrong_value zero_divisor bad_index too_deep : Reason

abbrev pub number : Reason → ℕ
number at_end = 30
number wrong_value = 31
number zero_divisor = fault_number div_by_zero
number bad_index = fault_number beyond
number too_deep = 34

-- What is answered, or the reason why it is not.
pub data Answer (A : Type 0) : Type 0 where
  ok : A → Answer A
  no : Reason → Answer A

unfoldable pub bind : {A B : Type 0} → Answer A → (A → Answer B) → Answer B
bind (ok a) f = f a
bind (no r) f = no r

-- "Cells are i32: scalars in order, then arrays in order."
abbrev pub Store : Type 0
Store = List ℤ

-- A store of the program's size. (Past the end `get_or` reads zeros.)
pub record Sized (t : Tree) (σ : Store) : Type 0 where
  pub size : length σ ≡ cells t
  pub range : (i : ℕ) → SFits w32 (get_or σ i (pos 0))

-- Where the arrays stand among the cells.
unfoldable pub starts_from : ℕ → List ℕ → List ℕ
starts_from n [] = []
starts_from n (l ∷ ls) = n ∷ starts_from (n + l) ls

abbrev pub layout : Tree → Arrays
layout t = record { starts = starts_from t.scalars t.lengths; lengths = t.lengths }

-- The value of an expression, and its truth; what stops an evaluation is a reason.
abbrev pub reason_of : Fault → Reason
reason_of div_by_zero = zero_divisor
reason_of beyond = bad_index

abbrev pub answered : Worth → Answer ℤ
answered (value v) = ok v
answered (stop f) = no (reason_of f)

unfoldable pub evaluated : Tree → Store → Expr → Answer ℤ
evaluated t σ e = answered (eval (layout t) σ e)

unfoldable pub holds : Tree → Store → Expr → Answer Bool
holds t σ e = bind (evaluated t σ e) (λ v. ok (is_true v))

-- "operator (0 `+`, 1 `-`, 2 `^`)"; "SET down applies its operator, up the opposite one (`^` is its own)."
abbrev pub applied : ℕ → ℤ → ℤ → ℤ
applied o x v = get_or (wrap (x +ℤ v) ∷ wrap (x -ℤ v) ∷ []) o (xor_z x v)

abbrev pub operator : ℕ → Dir → ℕ
operator o d = going d o (get_or (1 ∷ 0 ∷ []) o o)

-- "An array's index is evaluated and tested first, then the expression."
abbrev pub entry_at : Tree → ℕ → ℤ → Answer ℕ
entry_at t a (pos i) = cond (ltb i (get_or t.lengths a 0)) (ok (get_or (layout t).starts a 0 + i)) (no bad_index)
entry_at t a (negsuc i) = no bad_index

unfoldable pub cell_of : Tree → Store → Target → Answer ℕ
cell_of t σ (cell x) = ok x
cell_of t σ (entry a i) = bind (evaluated t σ i) (λ v. entry_at t a v)

unfoldable pub assigned : Tree → ℕ → Target → Expr → Dir → Store → Answer Store
assigned t o x e d σ =
    bind (cell_of t σ x) (λ c. bind (evaluated t σ e) (λ v. ok (put σ c (applied (operator o d) (get_or σ c (pos 0)) v))))
