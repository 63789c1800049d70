-- What an evaluation depends on: the names that occur, the arrays' starts and lengths, and nothing else; and the range of its value.
-- Assumes nothing.
--     eval_names     stores that are the same at every name that occurs give the same worth
--     eval_keeps     so a name that does not occur may change: what a SET needs to be undone
--     eval_set       and so may a cell that only that name has
--     eval_agree     arrays that are the same at every number give the same worth
--     eval_fits      cells and constants in an i32's range give a value in that range
use mathlib.Core.Path.{◌≡◌, refl, sym, ap, ap₂, ◌∙◌}
use mathlib.Core.List.{List}
use mathlib.Core.Logic.{⊎_elim}
use mathlib.Core.Bool.{Bool, true, false, cond, false≢true}
use Prim.Native.Nat.{ℕ, ◌+◌}
use borrow.Author.Tests.{eq-eqb, eqb-true, ltb-true}
use lib.Dec.{eqb, ltb}
use lib.IntN.{ℤ, pos, negsuc}
use lib.ListN.{get_or, set}
use lib.Seq.{get_or-set_other}
use mir.Syntax.{w32}
use mir.Val.{SFits}
use Rattle.std.proofs.lemmas.Bool.{and_parts, or_cases, or_left, or_right}
use Rattle.values.specs.Values.{Value, is, zero_divisor, apply_op}
use Rattle.values.specs.Given.{InRange}
use Rattle.values.proofs.Laws.{apply_fits}
use Rattle.expr.specs.Tree.{any_name, Expr, con, var, read, bin, Valid, Arrays, bad_index, Worth, value, stop, worth_of, element, eval, known}
use Rattle.expr.specs.Agreement.{both, indexed, Name, Scalar, Array, is_array, occurs, There, Same, Apart}
use Rattle.expr.specs.Answers.{InCell}
use Rattle.expr.proofs.Knowns.{var_known, read_known, bin_known}

-- ---- the array read
module _ (arrays : Arrays) (σ τ : List ℤ) where
  element_same : (a : ℕ) (z : ℤ) → Same (Array a) arrays σ τ → element arrays σ a z ≡ element arrays τ a z
  unfolding element
  element_same a (negsuc i) h = refl
  element_same a (pos i) h = go (ltb i (get_or arrays.lengths a 0)) refl
    where
      go : (b : Bool) → ltb i (get_or arrays.lengths a 0) ≡ b
          → cond b (value (get_or σ (get_or arrays.starts a 0 + i) (pos 0))) (stop bad_index) ≡ cond b (value (get_or τ (get_or arrays.starts a 0 + i) (pos 0))) (stop bad_index)
      go true e = ap value (h i (ltb-true i (get_or arrays.lengths a 0) e))
      go false e = refl

  indexed_same : (a : ℕ) (w : Worth) → Same (Array a) arrays σ τ → indexed arrays σ a w ≡ indexed arrays τ a w
  indexed_same a (stop f) h = refl
  indexed_same a (value i) h = element_same a i h

  -- ---- the store
  pub eval_names : (e : Expr) → ((n : Name) → occurs n e ≡ true → Same n arrays σ τ) → eval arrays σ e ≡ eval arrays τ e
  unfolding eval occurs any_name
  eval_names (con v) h = refl
  eval_names (var x) h = ap value (h (Scalar x) (eq-eqb x x refl))
  eval_names (read a i) h =
      ap (indexed arrays σ a) (eval_names i (λ n o. h n (or_right (is_array n a) (occurs n i) o)))
      ∙ indexed_same a (eval arrays τ i) (h (Array a) (or_left (eqb a a) (occurs (Array a) i) (eq-eqb a a refl)))
  eval_names (bin o l r) h =
      ap₂ (both o) (eval_names l (λ n p. h n (or_left (occurs n l) (occurs n r) p))) (eval_names r (λ n p. h n (or_right (occurs n l) (occurs n r) p)))

-- ---- a name that does not occur
set_same : (m : Name) (layout : Arrays) (σ : List ℤ) (cell : ℕ) (v : ℤ) → Apart m layout cell → Same m layout (set σ cell v) σ
set_same (Scalar x) layout σ cell v d = get_or-set_other σ cell x v (pos 0) d
set_same (Array a) layout σ cell v d = λ i h. get_or-set_other σ cell (get_or layout.starts a 0 + i) v (pos 0) (d i h)

module _ (scalars arrays : ℕ) where
  -- a name that occurs in an expression whose names are there is there
  pub occurs_there : (m : Name) (e : Expr) → known scalars arrays e ≡ true → occurs m e ≡ true → There scalars arrays m
  unfolding occurs any_name
  occurs_there m (con v) k o = absurd (false≢true o)
  occurs_there (Scalar x) (var y) k o = rw (eqb-true y x o) at (ltb-true y scalars (sym (var_known scalars arrays y) ∙ k))
  occurs_there (Array a) (var y) k o = absurd (false≢true o)
  occurs_there (Scalar x) (read b i) k o = occurs_there (Scalar x) i (and_parts (ltb b arrays) (known scalars arrays i) (sym (read_known scalars arrays b i) ∙ k)).1 o
  occurs_there (Array a) (read b i) k o =
      let both = and_parts (ltb b arrays) (known scalars arrays i) (sym (read_known scalars arrays b i) ∙ k) in
      ⊎_elim (λ p. rw (eqb-true b a p) at (ltb-true b arrays both.0)) (λ p. occurs_there (Array a) i both.1 p) (or_cases (eqb b a) (occurs (Array a) i) o)
  occurs_there m (bin p l r) k o =
      let both = and_parts (known scalars arrays l) (known scalars arrays r) (sym (bin_known scalars arrays p l r) ∙ k) in
      ⊎_elim (λ q. occurs_there m l both.0 q) (λ q. occurs_there m r both.1 q) (or_cases (occurs m l) (occurs m r) o)

  pub eval_keeps : (n : Name) (e : Expr) (layout : Arrays) (σ τ : List ℤ) → known scalars arrays e ≡ true → occurs n e ≡ false
      → ((m : Name) → There scalars arrays m → (m ≡ n → ⊥) → Same m layout σ τ) → eval layout σ e ≡ eval layout τ e
  eval_keeps n e layout σ τ k none same =
      eval_names layout σ τ e (λ m o. same m (occurs_there m e k o) (λ q. false≢true (sym none ∙ ap (λ (m : Name). occurs m e) (sym q) ∙ o)))

  -- a cell that only that name can have changes nothing
  pub eval_set : (n : Name) (e : Expr) (layout : Arrays) (σ : List ℤ) (cell : ℕ) (v : ℤ) → known scalars arrays e ≡ true → occurs n e ≡ false
      → ((m : Name) → There scalars arrays m → (m ≡ n → ⊥) → Apart m layout cell) → eval layout (set σ cell v) e ≡ eval layout σ e
  eval_set n e layout σ cell v k none apart =
      eval_keeps n e layout (set σ cell v) σ k none (λ m t d. set_same m layout σ cell v (apart m t d))

-- ---- the arrays
module _ (A B : Arrays) (σ : List ℤ) (starts : (a : ℕ) → get_or A.starts a 0 ≡ get_or B.starts a 0)
    (lengths : (a : ℕ) → get_or A.lengths a 0 ≡ get_or B.lengths a 0) where
  element_agree : (a : ℕ) (z : ℤ) → element A σ a z ≡ element B σ a z
  unfolding element
  element_agree a (pos i) = rw (starts a, lengths a)
  element_agree a (negsuc i) = refl

  indexed_agree : (a : ℕ) (w : Worth) → indexed A σ a w ≡ indexed B σ a w
  indexed_agree a (value i) = element_agree a i
  indexed_agree a (stop f) = refl

  pub eval_agree : (e : Expr) → eval A σ e ≡ eval B σ e
  unfolding eval
  eval_agree (con v) = refl
  eval_agree (var x) = refl
  eval_agree (read a i) = ap (indexed A σ a) (eval_agree i) ∙ indexed_agree a (eval B σ i)
  eval_agree (bin o l r) = ap₂ (both o) (eval_agree l) (eval_agree r)

-- ---- the range
pub worth_fits : (v : Value) → InRange v → InCell (worth_of v)
worth_fits (is v) h = h
worth_fits zero_divisor h = tt

module _ (arrays : Arrays) (σ : List ℤ) (cells : (x : ℕ) → SFits w32 (get_or σ x (pos 0))) where
  element_fits : (a : ℕ) (z : ℤ) → InCell (element arrays σ a z)
  unfolding element
  element_fits a (negsuc i) = tt
  element_fits a (pos i) = go (ltb i (get_or arrays.lengths a 0))
    where
      go : (b : Bool) → InCell (cond b (value (get_or σ (get_or arrays.starts a 0 + i) (pos 0))) (stop bad_index))
      go true = cells (get_or arrays.starts a 0 + i)
      go false = tt

  indexed_fits : (a : ℕ) (w : Worth) → InCell (indexed arrays σ a w)
  indexed_fits a (value i) = element_fits a i
  indexed_fits a (stop f) = tt

  both_fits : (o : ℕ) (x y : Worth) → InCell x → InCell y → InCell (both o x y)
  both_fits o (stop f) y h k = tt
  both_fits o (value x) (stop f) h k = tt
  both_fits o (value x) (value y) h k = worth_fits (apply_op o x y) (apply_fits o x y h k)

  pub eval_fits : (e : Expr) → Valid e → InCell (eval arrays σ e)
  unfolding eval Valid
  eval_fits (con v) h = h
  eval_fits (var x) h = cells x
  eval_fits (read a i) h = indexed_fits a (eval arrays σ i)
  eval_fits (bin o l r) h = both_fits o (eval arrays σ l) (eval arrays σ r) (eval_fits l h.1.0) (eval_fits r h.1.1)
