-- The answers of the functions of src/set.rt, case by case, over plain numbers and lists. Assumes nothing.
use mathlib.Core.Path.{◌≡◌, refl, sym, ap, ◌∙◌}
use mathlib.Core.List.{List}
use Prim.Native.Nat.{ℕ, zero, suc, ◌≤◌}
use native.Mathlib.Omega.{arith}
use lib.IntN.{ℤ, pos, ◌+ℤ◌, ◌-ℤ◌}
use lib.ListN.{length, get_or, set as put}
use lib.Seq.{set_out}
use mir.Syntax.{w32}
use mir.Val.{SFits, of_z, to_z}
use mir.Facts.{to_z-of_z}
use Rattle.values.specs.Values.{wrap, xor_z}
use Rattle.expr.specs.Tree.{div_by_zero, bad_index as outside, Worth, value, stop}
use Rattle.expr.specs.Bytes.{Got, up_to}
use Rattle.expr.specs.Answers.{InCell}
use Rattle.refusals.specs.declared.Reason.{Reason as Told}
use Rattle.refusals.specs.declared.Reason.TheVariants.{ZeroDivisor, BadIndex}
use Rattle.evaluate.specs.Answers.{told_of, arrays_of, worth_at, entry_of, WorthSays, moved_to}
use Rattle.std.specs.Prelude.{Option, None, Some, Result, Ok, Err}
use Rattle.moves.specs.Stores.{ok, no, Reason, zero_divisor, bad_index, number, bind, Store, answered, applied}
use Rattle.decide.specs.Sets.{reason_by, worked, Left, set_entry}
use Rattle.decide.specs.Ways.{set_cell}

-- a signed number that was put in a variable, a field or an argument is read back from its bits
abbrev again : ℤ → ℤ
again z = to_z w32 (of_z w32 z)

-- ---- `apply`
module _ (o : ℕ) (x v r : ℤ) (fx : SFits w32 x) (fv : SFits w32 v) (fr : SFits w32 r) where
  pub apply_sum : o ≡ 0 → r ≡ wrap (again x +ℤ again v) → again r ≡ applied o x v
  apply_sum e p = rw e (to_z-of_z fr ∙ p ∙ rw (to_z-of_z fx, to_z-of_z fv))

  pub apply_difference : o ≡ 1 → r ≡ wrap (again x -ℤ again v) → again r ≡ applied o x v
  apply_difference e p = rw e (to_z-of_z fr ∙ p ∙ rw (to_z-of_z fx, to_z-of_z fv))

other : (o : ℕ) (x v : ℤ) → (o ≡ 0 → ⊥) → (o ≡ 1 → ⊥) → xor_z x v ≡ applied o x v
other zero x v h k = absurd (h refl)
other (suc zero) x v h k = absurd (k refl)
other (suc (suc o)) x v h k = refl

pub apply_exclusive : (o : ℕ) (x v r : ℤ) → SFits w32 x → SFits w32 v → SFits w32 r → (o ≡ 0 → ⊥) → (o ≡ 1 → ⊥) → r ≡ xor_z (again x) (again v)
    → again r ≡ applied o x v
apply_exclusive o x v r fx fv fr h k p = to_z-of_z fr ∙ p ∙ rw (to_z-of_z fx, to_z-of_z fv) (other o x v h k)

pub ruleset applies = (apply_sum, apply_difference, apply_exclusive)

-- ---- `put`
pub put_in : (σ : Store) (cell o : ℕ) (v r : ℤ) → SFits w32 (get_or σ cell (pos 0)) → SFits w32 v → SFits w32 r
    → r ≡ applied o (again (get_or σ cell (pos 0))) (again v) → put σ cell (again r) ≡ worked σ cell o v
put_in σ cell o v r fx fv fr p = ap (put σ cell) (to_z-of_z fr ∙ p ∙ rw (to_z-of_z fx, to_z-of_z fv))

pub put_out : (σ : Store) (cell o : ℕ) (v : ℤ) → length σ ≤ cell → σ ≡ worked σ cell o v
put_out σ cell o v h = sym (set_out σ cell _ h)

pub ruleset puts = (put_in, put_out)

-- ---- `set_cell`, `set_entry`
both : {A : Type 0} {B : Type 0} {X : Type 0} {r : Result A B} {u : A} {e : B} → r ≡ Ok u → r ≡ Err e → X
both p q = let z : ◌≡◌ {A = ℕ} 0 1 = cc in absurd (omega arith)

module _ (r : Result ℤ Told) (arr : List ℕ) (cs : List ℤ) (at : ℕ) (g : Got) (after : ℕ) (says : WorthSays arr cs at g r after) where
  told_stop : (e : Told) → r ≡ Err e → (q : Reason) × (answered (worth_at arr cs g) ≡ no q) × (e ≡ reason_by (number q))
  told_stop e k = go (worth_at arr cs g) (sym k ∙ says.answer)
    where
      go : (w : Worth) → Err e ≡ told_of w → (q : Reason) × (answered w ≡ no q) × (e ≡ reason_by (number q))
      go (value v) p = both refl (sym p)
      go (stop div_by_zero) p = let t : e ≡ ZeroDivisor = cc in (zero_divisor, refl, t)
      go (stop outside) p = let t : e ≡ BadIndex = cc in (bad_index, refl, t)

  told_value : (v : ℤ) → r ≡ Ok v → (answered (worth_at arr cs g) ≡ ok (again v)) × ((after ≡ g.next) × SFits w32 v)
  told_value v k = go (worth_at arr cs g) (sym k ∙ says.answer) says.range says.place
    where
      go : (w : Worth) → Ok v ≡ told_of w → InCell w → after ≡ moved_to w at g.next → (answered w ≡ ok (again v)) × ((after ≡ g.next) × SFits w32 v)
      go (value x) p f n = let t : v ≡ x = cc in let fv : SFits w32 v = rw t f in (ap ok (sym (to_z-of_z fv ∙ t)), (n, fv))
      go (stop q) p f n = both refl p

module _ (f : List ℕ) (at c o : ℕ) (arr : List ℕ) (σ : Store) (r : Result ℤ Told) (after : ℕ) (says : WorthSays arr σ at (up_to 32768 16 f at) r after) where
  pub cell_stop : (e : Told) → r ≡ Err e → Left (set_cell f at c o arr σ) σ (Err e) σ
  unfolding set_cell bind
  cell_stop e k = let s = told_stop _ _ _ _ _ after says e k in rw s.1 (ap Err s.2, refl)

  pub cell_done : (v : ℤ) (σ' : Store) → r ≡ Ok v → σ' ≡ worked σ c o (again v) → Left (set_cell f at c o arr σ) σ (Ok tt) σ'
  unfolding set_cell bind
  cell_done v σ' k e = rw (told_value _ _ _ _ _ after says v k).0 (refl, e)

pub ruleset cells = (cell_stop, cell_done)

-- the index first, then the cell that it names
module _ (f : List ℕ) (at a o : ℕ) (arr : List ℕ) (σ : Store) (i : Result ℤ Told) (after : ℕ) (says : WorthSays arr σ at (up_to 32768 16 f at) i after) where
  pub entry_stop : (e : Told) → i ≡ Err e → Left (set_entry f at a o arr σ) σ (Err e) σ
  unfolding set_entry bind
  entry_stop e k = let s = told_stop _ _ _ _ _ after says e k in rw s.1 (ap Err s.2, refl)

  module _ (v : ℤ) (k : i ≡ Ok v) (x : Option ℕ) (e : x ≡ entry_of (arrays_of arr) a (again v)) where
    pub entry_none : x ≡ None → Left (set_entry f at a o arr σ) σ (Err BadIndex) σ
    unfolding set_entry bind
    entry_none q = rw ((told_value _ _ _ _ _ after says v k).0, ← e, q) (refl, refl)

    pub entry_done : (c : ℕ) (r : Result (Unit {0}) Told) (σ' : Store) → x ≡ Some c → Left (set_cell f after c o arr σ) σ r σ' → Left (set_entry f at a o arr σ) σ r σ'
    unfolding set_entry set_cell bind
    entry_done c r σ' q l = let w = told_value _ _ _ _ _ after says v k in rw (w.0, ← e, q, ← w.1.0) l

pub ruleset entered = (entry_stop, entry_none, entry_done)
