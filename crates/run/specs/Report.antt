-- What the program `run` prints, in document 01's words.
use Rattle.std.specs.Prelude.{ℕ, ◌≡◌, List, ◌++◌, ℤ}
use Rattle.place.specs.Slots.{dir_number}
use Rattle.order.specs.Trees.{Tree, cells}
use Rattle.program.specs.Says.{fault, counts, Accepts, Says}
use Rattle.moves.specs.Places.{down}
use Rattle.moves.specs.Step.{start}
use Rattle.moves.specs.Runs.{Ran, stop_number, run}
use Rattle.print.specs.Zeros.{noughts}
use Rattle.print.specs.Lines.{Text, refused_line, steps_line, at_line, cell_lines}

-- "Its first line is steps made and reason; the second a, b and direction (`down` or `up`); then each nonzero cell, number and value, ascending."
unfoldable pub report_lines : ℕ → ℕ → ℕ → ℕ → ℕ → List ℤ → List (List ℕ)
report_lines steps reason a b d store = steps_line steps reason ++ (at_line a b d ++ cell_lines 0 store)

abbrev pub ran_lines : Ran → List (List ℕ)
ran_lines r = report_lines r.steps (stop_number r.stop) r.place.a r.place.b (dir_number r.place.d) r.store

-- "reads a program file .., starts down on zeros and runs at most 1,000,000 steps"; "A refused file prints only `refused N record R`."
pub data Prints (f : List ℕ) : List (List ℕ) → Type 0 where
  refused : {n k : ℕ} → Says f (fault n k) → Prints f (refused_line n k)
  ran : {t : Tree} → Accepts f t → Prints f (ran_lines (run t 1000000 (start t down) (noughts (cells t))))

-- The lines stand whole at the start of the buffer b, which is c afterwards; r is their length.
pub record Reports (f b c : List ℕ) (r : ℕ) : Type 0 where
  pub lines : List (List ℕ)
  pub prints : Prints f lines
  pub text : Text b lines c r

-- ---- what the inner functions go by

-- the file is accepted with so many cells
abbrev pub Counted : List ℕ → ℕ → Type 0
Counted f cells = (r : ℕ) × (p : ℕ) × Says f (counts r p cells)

-- and the store has so many zeros
abbrev pub Zeroed : List ℕ → List ℤ → Type 0
Zeroed f σ = (n : ℕ) × (σ ≡ noughts n) × Counted f n
