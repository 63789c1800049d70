-- Document 01, 'Numbers the bench gives': which answer a file gets. Nothing here mentions a stack or a state.
use Rattle.std.specs.Prelude.{ℕ, ◌≤◌, ◌<◌, List, ◌++◌, ◌≡◌, Bool, true, false, length, get_or, Result, Ok, Err}
use Rattle.records.specs.Records.{Record, skip, row, bytes_of, FineFrom, begins}
use Rattle.records.specs.Faults.{Wrong, Rows}
use Rattle.order.specs.Trees.{Tree, records_of, procedures, cells, Ordered, Misplaced}
use Rattle.refusals.specs.Numbers.{number_of}
use Rattle.refusals.specs.declared.Reason.{Reason}
use Rattle.refusals.specs.declared.Refusal.{Refusal}
use Rattle.program.specs.declared.Counts.{Counts}

-- "The answer is the number and the first record at fault; .. An accepted file answers its counts of records, procedures and cells."
-- The document's number and values: 0 where nothing is refused, and 0 for what the answer does not have.
pub record Given : Type 0 where
  pub number : ℕ
  pub label : ℕ
  pub records : ℕ
  pub procedures : ℕ
  pub cells : ℕ

abbrev pub fault : ℕ → ℕ → Given
fault n k = record { number = n; label = k; records = 0; procedures = 0; cells = 0 }

abbrev pub counts : ℕ → ℕ → ℕ → Given
counts r p c = record { number = 0; label = 0; records = r; procedures = p; cells = c }

-- What each case of the code's answer gives.
abbrev pub given : Result Counts Refusal → Given
given (Ok c) = counts c.records c.procedures c.cells
given (Err r) = fault (number_of r.reason) r.label

-- The first record of which p says no.
pub record FirstNot (p : Record → Bool) (rs : List Record) (k : ℕ) : Type 0 where
  pub within : k < length rs
  pub before : (j : ℕ) → j < k → p (get_or rs j skip) ≡ true
  pub here : p (get_or rs k skip) ≡ false

abbrev pub All : (Record → Bool) → List Record → Type 0
All p rs = (j : ℕ) → j < length rs → p (get_or rs j skip) ≡ true

-- In the file t the record's numbers are there.
abbrev pub there_in : Tree → Record → Bool
there_in t r = (row r).there t.scalars (length t.lengths) (length (procedures t))

-- A file that is accepted, and the tree that it is the file of.
pub record Accepts (f : List ℕ) (t : Tree) : Type 0 where
  pub rows : Rows f (records_of t)
  pub ordered : Ordered (records_of t) t
  pub numbers : All (there_in t) (records_of t)
  pub owns : All (λ r. (row r).free) (records_of t)

-- "1 is asked first, with record 0. Then each record in turn is asked 2, 3, 4, 5. Then over all records 6, then 7, then 8."
pub data Says (f : List ℕ) : Given → Type 0 where
  too_long : 32768 < length f → Says f (fault 1 0)
  in_turn : {r : Reason} → length f ≤ 32768 → (rs : List Record) (rest : List ℕ) → f ≡ bytes_of rs ++ rest → FineFrom 0 0 rs
      → Wrong (length rs) (begins rs) rest r → Says f (fault (number_of r) (length rs))
  order : {k : ℕ} → (rs : List Record) → Rows f rs → Misplaced rs k → Says f (fault 6 k)
  not_there : {k : ℕ} → (rs : List Record) (t : Tree) → Rows f rs → Ordered rs t → FirstNot (there_in t) rs k → Says f (fault 7 k)
  own_name : {k : ℕ} → (rs : List Record) (t : Tree) → Rows f rs → Ordered rs t → All (there_in t) rs → FirstNot (λ r. (row r).free) rs k → Says f (fault 8 k)
  accepted : (t : Tree) → Accepts f t → Says f (counts (length (records_of t)) (length (procedures t)) (cells t))
