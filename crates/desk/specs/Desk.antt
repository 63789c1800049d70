-- What the desk's calls answer, in the document's numbers, and the session afterwards: for every file and every session.
use Rattle.std.specs.Prelude.{ℕ, ◌<◌, ◌≤◌, Bool, not, List, ◌++◌, ◌≡◌, eqb, pos, length, take, drop, replicate, Result, Ok, Err}
use Rattle.refusals.specs.declared.Refusal.{Refusal}
use Rattle.refusals.specs.Numbers.{number_of}
use Rattle.place.specs.declared.Place.{Place as Held}
use Rattle.place.specs.Held.{held}
use Rattle.order.specs.Trees.{Tree, cells}
use Rattle.program.specs.Says.{Given, fault, Accepts, Says}
use Rattle.moves.specs.Places.{Place, Fits}
use Rattle.moves.specs.Stores.{Answer as Arrival, Store}
use Rattle.moves.specs.Step.{start}
use Rattle.moves.specs.Runs as runs
use Rattle.session.specs.Session.{Reads}
use Rattle.machine.specs.Answers.{Gives, Ready, StepSays, RunSays, direction}
use Rattle.saved.specs.Answers.{SaveSays}
use Rattle.desk.specs.declared.Session.{Session}
use Rattle.desk.specs.declared.Answer.{Answer}
use Rattle.desk.specs.declared.Outcome.{Outcome}
use Rattle.desk.specs.declared.Counts.{Counts}

-- The document's number (0 where nothing is refused), the record (0 where there is none), and the count.
abbrev pub numbers : ℕ → ℕ → ℕ → Answer
numbers m k n = record { reason = m; label = k; count = n }

-- The answer, and the session afterwards.
abbrev pub made : Answer → Session → Outcome
made a s = record { session = s; answer = a }

-- The first cells are the store; those at and beyond the count are no part of it.
abbrev pub store_of : Session → Store
store_of s = take s.count s.cells

-- The session at another place, its store the first n cells: the others as they were.
abbrev pub laid : Session → Held → ℕ → Store → Session
laid s q n σ = record { place = q; count = n; cells = σ ++ drop n s.cells }

-- A count over 2,048 is no program's: the program's own refusal, else 20.
pub data OverSays (f : List ℕ) : ℕ → ℕ → Type 0 where
  program : {n k : ℕ} → Says f (fault n k) → OverSays f n k
  size : {t : Tree} → Accepts f t → OverSays f 20 0

-- A move of the session: what `says` says from its place over its store, in numbers; the session is then at the last place with the last store.
pub data MoveSays (says : Result (Unit {0}) Refusal → ℕ → Held → Store → Type 0) (f : List ℕ) (s : Session) (m : Outcome) : Type 0 where
  over : {reason k : ℕ} → 2048 < s.count → OverSays f reason k → m ≡ made (numbers reason k 0) s → MoveSays says f s m
  within : {told : Result (Unit {0}) Refusal} {reason k steps : ℕ} {q : Held} {σ : Store} → s.count ≤ 2048 → says told steps q σ → Gives told reason k
      → m ≡ made (numbers reason k steps) (laid s q s.count σ) → MoveSays says f s m

-- The steps made by a step: one, or none where it is refused.
abbrev pub steps_of : Result (Unit {0}) Refusal → ℕ
steps_of (Ok u) = 1
steps_of (Err r) = 0

-- "A refused step returns its number and the same place; the store is untouched": a step, forward or back.
abbrev pub SteppedSays : (Tree → Place → Store → Arrival (Place × Store)) → List ℕ → Session → Outcome → Type 0
SteppedSays move f s = MoveSays (λ told steps q σ. StepSays move f s.place (store_of s) told q σ × (steps ≡ steps_of told)) f s

-- A run of at most n steps, forward or back.
abbrev pub RanSays : (Tree → ℕ → Place → Store → runs.Ran) → List ℕ → Session → ℕ → Outcome → Type 0
RanSays run f s n = MoveSays (RunSays run f s.place (store_of s) n) f s

-- 0 is down, any other number up.
abbrev pub upward : ℕ → Bool
upward d = not (eqb d 0)

-- A start of the program, over zeros; a refused program leaves the session.
pub data BeginSays (f : List ℕ) (s : Session) (d : ℕ) (m : Outcome) : Type 0 where
  refused : {n k : ℕ} → Says f (fault n k) → m ≡ made (numbers n k 0) s → BeginSays f s d m
  begun : {t : Tree} → Accepts f t → m ≡ made (numbers 0 0 0) (laid s (held (start t (direction (upward d)))) (cells t) (replicate (cells t) (pos 0)))
      → BeginSays f s d m

-- "Session .. calls .. check the program first, then 22 (reading), 20, 21": what is refused in opening saved bytes, which are malformed where
-- they are the file of no place and store.
pub data OpenBefore (f bytes : List ℕ) : ℕ → ℕ → Type 0 where
  program : {n k : ℕ} → Says f (fault n k) → OpenBefore f bytes n k
  malformed : {t : Tree} → Accepts f t → ((p : Place) (σ : Store) → Reads bytes p σ → ⊥) → OpenBefore f bytes 22 0
  size : {t : Tree} {p : Place} {σ : Store} → Accepts f t → Reads bytes p σ → (length σ ≡ cells t → ⊥) → OpenBefore f bytes 20 0
  place : {t : Tree} {p : Place} {σ : Store} → Accepts f t → Reads bytes p σ → length σ ≡ cells t → (Fits t p → ⊥) → OpenBefore f bytes 21 0

-- The session of saved bytes; a refused opening leaves the session.
pub data OpenSays (f bytes : List ℕ) (s : Session) (m : Outcome) : Type 0 where
  refused : {n k : ℕ} → OpenBefore f bytes n k → m ≡ made (numbers n k 0) s → OpenSays f bytes s m
  opened : {t : Tree} {p : Place} {q : Held} {σ : Store} → Reads bytes p σ → Ready f q σ t p → m ≡ made (numbers 0 0 0) (laid s q (cells t) σ) → OpenSays f bytes s m

-- The bytes written by a save are the count; there are none where it is refused.
abbrev pub written : Result ℕ Refusal → Answer
written (Ok n) = numbers 0 0 n
written (Err r) = numbers (number_of r.reason) r.label 0

-- A save of the session's place and store.
pub data SavingSays (f : List ℕ) (s : Session) (buf : List ℕ) (a : Answer) (buf' : List ℕ) : Type 0 where
  over : {reason k : ℕ} → 2048 < s.count → OverSays f reason k → a ≡ numbers reason k 0 → buf' ≡ buf → SavingSays f s buf a buf'
  within : (r : Result ℕ Refusal) → s.count ≤ 2048 → SaveSays f s.place (store_of s) buf r buf' → a ≡ written r → SavingSays f s buf a buf'

-- "An accepted file answers its counts of records, procedures and cells"; else the number and the record.
abbrev pub counts : Given → Counts
counts g = record { reason = g.number; label = g.label; records = g.records; procedures = g.procedures; cells = g.cells }

pub data CheckSays (f : List ℕ) (c : Counts) : Type 0 where
  said : {g : Given} → Says f g → c ≡ counts g → CheckSays f c
