-- What each function answers. Nothing here has to be believed but through the contracts of `truth`, `amount` and `entry_of`: the worth of
-- an expression is Tree's `eval`. Assumes nothing: these are definitions.
use Rattle.std.specs.Prelude.{ℕ, ◌+◌, ◌<◌, ◌≡◌, List, Option, None, Some, Result, Ok, Err, Bool, true, false, cond, eqb, ltb, ℤ, pos, negsuc, get_or, take, drop}
use Rattle.codes.specs.Codes.{word16}
use Rattle.codes.specs.Numbers.{cell_at}
use Rattle.values.specs.Values.{is_true}
use Rattle.refusals.specs.declared.Reason.{Reason}
use Rattle.refusals.specs.declared.Reason.TheVariants.{ZeroDivisor, BadIndex}
use Rattle.expr.specs.Tree.{Arrays, Fault, div_by_zero, bad_index, fault_number, Worth, value, stop, eval}
use Rattle.expr.specs.Agreement.{both, indexed}
use Rattle.expr.specs.Bytes.{Got}
use Rattle.expr.specs.Answers.{InCell}

-- `arrays` holds the 16 starts, then the 16 lengths
abbrev pub arrays_of : List ℕ → Arrays
arrays_of l = record { starts = take 16 l; lengths = take 16 (drop 16 l) }

-- what the tree is worth
abbrev pub worth_at : List ℕ → List ℤ → Got → Worth
worth_at arrays cells g = eval (arrays_of arrays) cells g.tree

-- ---- what is answered for a worth: the value, or the reason that stopped it
abbrev pub reason_of : Fault → Reason
reason_of div_by_zero = ZeroDivisor
reason_of bad_index = BadIndex

abbrev pub told_of : Worth → Result ℤ Reason
told_of (value v) = Ok v
told_of (stop f) = Err (reason_of f)

-- ---- `entry_of`: the cell of array a at an index
abbrev pub entry_if : Bool → ℕ → Option ℕ
entry_if true c = Some c
entry_if false c = None

abbrev pub entry_of : Arrays → ℕ → ℤ → Option ℕ
entry_of A a (pos i) = entry_if (ltb i (get_or A.lengths a 0)) (get_or A.starts a 0 + i)
entry_of A a (negsuc i) = None

-- ---- `amount`: the position afterwards is behind the expression where there is a value, else where it was
abbrev pub moved_to : Worth → ℕ → ℕ → ℕ
moved_to (value v) at next = next
moved_to (stop f) at next = at

-- the answer r for what was read at `at`, and the position afterwards
pub record WorthSays (arrays : List ℕ) (cells : List ℤ) (at : ℕ) (g : Got) (r : Result ℤ Reason) (after : ℕ) : Type 0 where
  pub answer : r ≡ told_of (worth_at arrays cells g)
  pub range : InCell (worth_at arrays cells g)
  pub place : after ≡ moved_to (worth_at arrays cells g) at g.next

-- ---- `truth`: whether it holds, or the reason that stopped it
abbrev pub judged : Worth → Result Bool Reason
judged (value v) = Ok (is_true v)
judged (stop f) = Err (reason_of f)

-- the same in one number: 0 false, 1 true, else the document's number of what stops it
abbrev pub truth_of : Worth → ℕ
truth_of (value v) = cond (is_true v) 1 0
truth_of (stop f) = fault_number f

-- ---- `value`, `read`, `operated`, on the way: the answer r for a worth w that ends at `next`; a refusal may leave the position anywhere
pub record OnTheWay (w : Worth) (next : ℕ) (r : Result ℤ Reason) (after : ℕ) : Type 0 where
  pub answer : r ≡ told_of w
  pub range : InCell w
  pub place : after ≡ moved_to w after next

-- what array a is worth at the index that was read
abbrev pub read_at : List ℕ → List ℤ → ℕ → Got → Worth
read_at arrays cells a g = indexed (arrays_of arrays) cells a (worth_at arrays cells g)

-- what operator o gives of the two sides that were read
abbrev pub both_at : List ℕ → List ℤ → ℕ → Got → Got → Worth
both_at arrays cells o l r = both o (worth_at arrays cells l) (worth_at arrays cells r)

-- ---- `leaf`: what a constant or scalar holds, and where it ends
abbrev pub leaf_of : List ℕ → ℕ → List ℤ → ℤ
leaf_of s at cells = cond (eqb (get_or s at 0) 0) (cell_at s (at + 1)) (get_or cells (word16 s (at + 1)) (pos 0))

abbrev pub leaf_end : List ℕ → ℕ → ℕ
leaf_end s at = cond (eqb (get_or s at 0) 0) (at + 5) (at + 3)

pub record LeafSays (s : List ℕ) (at : ℕ) (cells : List ℤ) (r : ℤ) (after : ℕ) : Type 0 where
  pub answer : r ≡ leaf_of s at cells
  pub place : after ≡ leaf_end s at

-- ---- `is_simple`: where the answer is yes, an operator stands at `at` whose left side is a constant or scalar
pub record Simple (s : List ℕ) (at : ℕ) (r : Bool) : Type 0 where
  pub near : r ≡ true → at + 7 < 32768
  pub stands : r ≡ true → get_or s at 0 ≡ 3
  pub left : r ≡ true → get_or s (at + 2) 0 < 2
