-- What the public functions answer, by computing. Nothing here has to be believed: proofs/Whole joins it to Answers.
use Rattle.std.specs.Prelude.{ℕ, List, ◌≡◌, Bool, true, false, cond, length, pos, Err}
use Rattle.refusals.specs.declared.Reason.{Reason}
use Rattle.refusals.specs.declared.Reason.TheVariants.{WrongSize, Unfit}
use Rattle.refusals.specs.declared.Refusal.{Refusal}
use Rattle.place.specs.declared.Place.{Place as Held}
use Rattle.place.specs.Methods.{blank_of, moved_of}
use Rattle.program.specs.declared.Counts.{Counts}
use Rattle.program.specs.Arrays.{arrays_at}
use Rattle.table.specs.Table.{table_of}
use Rattle.fits.specs.Fits.{fits_in}
use Rattle.moves.specs.Stores.{Store}
use Rattle.machine.specs.declared.Ran.{Ran}
use Rattle.ways.specs.Looks.{gate_of, along_of}
use Rattle.decide.specs.Ways.{rule_in}
use Rattle.ways.specs.Map.{Maps}
use Rattle.machine.specs.Walk.{calls_of, stand_of, Gone, go_of, Goes}
use Rattle.machine.specs.Copies.{filled, over}

abbrev pub staying : Refusal → Held → Ran
staying r q = record { told = Err r; steps = 0; place = q }

abbrev pub for_reason : Reason → Refusal
for_reason r = record { reason = r; label = 0 }

-- the cells of a run on a copy, given back to the store
abbrev pub given_back : Store → Gone → Gone
given_back σ g = record { ran = g.ran; store = over g.store σ }

-- a run on the copies, by a map that is the file's and the table's
pub record Copied (f tab : List ℕ) (records : ℕ) (q : Held) (σ : Store) (n : ℕ) (r : Ran) (σ' : Store) : Type 0 where
  pub map : List ℕ
  pub maps : Maps (filled 32784 f 0) tab records map
  pub goes : Goes (given_back σ (go_of (rule_in (filled 32784 f 0) map (arrays_at f)) n (stand_of q) (calls_of q) (filled 2048 σ (pos 0)) 0)) r σ'

-- a run of a program that is accepted: 20, 21, then the steps
pub data CheckedRun (f : List ℕ) (c : Counts) (q : Held) (σ : Store) (n : ℕ) (r : Ran) (σ' : Store) : Type 0 where
  size : (length σ ≡ c.cells → ⊥) → r ≡ staying (for_reason WrongSize) q → σ' ≡ σ → CheckedRun f c q σ n r σ'
  place : length σ ≡ c.cells → fits_in f (table_of f) c.records q ≡ false → r ≡ staying (for_reason Unfit) q → σ' ≡ σ → CheckedRun f c q σ n r σ'
  went : length σ ≡ c.cells → fits_in f (table_of f) c.records q ≡ true → Copied f (table_of f) c.records q σ n r σ' → CheckedRun f c q σ n r σ'

-- the number of a direction
abbrev pub number_in : Bool → ℕ
number_in up = cond up 1 0

abbrev pub start_of : List ℕ → Bool → Held
start_of f up = moved_of blank_of (number_in up) (gate_of (table_of f) 0 (number_in up)) (along_of (table_of f) (number_in up) (gate_of (table_of f) 0 (number_in up)))
