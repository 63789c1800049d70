-- What the public functions answer, in document 01's words: for every file, every struct of a place and every store.
use Rattle.std.specs.Prelude.{ℕ, List, ◌≡◌, Bool, true, false, length, Result, Ok, Err}
use Rattle.refusals.specs.declared.Refusal.{Refusal}
use Rattle.refusals.specs.Numbers.{number_of}
use Rattle.place.specs.declared.Place.{Place as Held}
use Rattle.place.specs.Held.{held}
use Rattle.order.specs.Trees.{Tree, cells}
use Rattle.program.specs.Says.{fault, Accepts, Says}
use Rattle.moves.specs.Places.{Dir, down, up, Place, Fits}
use Rattle.moves.specs.Stores.{Reason, number, Answer, ok, no, Store}
use Rattle.moves.specs.Step.{start}
use Rattle.moves.specs.Runs.{stop_number}
use Rattle.moves.specs.Runs as runs

-- What each case of an answer gives: the document's number (0 where nothing is refused) and the record (0 where there is none).
pub data Gives : Result (Unit {0}) Refusal → ℕ → ℕ → Type 0 where
  done : Gives (Ok tt) 0 0
  numbered : {r : Refusal} → Gives (Err r) (number_of r.reason) r.label

-- "Session, step and run calls (n 0 too) check the program first, then .. 20, 21": the number, and the record.
pub data Before (f : List ℕ) (q : Held) (σ : Store) : ℕ → ℕ → Type 0 where
  program : {n k : ℕ} → Says f (fault n k) → Before f q σ n k
  size : {t : Tree} → Accepts f t → (length σ ≡ cells t → ⊥) → Before f q σ 20 0
  place : {t : Tree} → Accepts f t → length σ ≡ cells t → ((p : Place) → q ≡ held p → Fits t p → ⊥) → Before f q σ 21 0

-- The file is that of the tree t, the store has its size, and the struct holds the place p, which fits.
pub record Ready (f : List ℕ) (q : Held) (σ : Store) (t : Tree) (p : Place) : Type 0 where
  pub accepts : Accepts f t
  pub sized : length σ ≡ cells t
  pub holds : q ≡ held p
  pub fits : Fits t p

-- "A refused step returns its number and the same place; the store is untouched."
pub data StepSays (move : Tree → Place → Store → Answer (Place × Store)) (f : List ℕ) (q : Held) (σ : Store) (told : Result (Unit {0}) Refusal) (q' : Held) (σ' : Store) : Type 0 where
  refused : {n k : ℕ} → Before f q σ n k → Gives told n k → q' ≡ q → σ' ≡ σ → StepSays move f q σ told q' σ'
  stopped : {t : Tree} {p : Place} {r : Reason} → Ready f q σ t p → move t p σ ≡ no r → Gives told (number r) 0 → q' ≡ q → σ' ≡ σ → StepSays move f q σ told q' σ'
  arrived : {t : Tree} {p p' : Place} {τ : Store} → Ready f q σ t p → move t p σ ≡ ok (p', τ) → Gives told 0 0 → q' ≡ held p' → σ' ≡ τ → StepSays move f q σ told q' σ'

-- "A run refused before its first step answers 0 steps and the place given"; else "the steps made, the last place and the reason ..; the store is the one at that place".
pub data RunSays (run : Tree → ℕ → Place → Store → runs.Ran) (f : List ℕ) (q : Held) (σ : Store) (n : ℕ) (told : Result (Unit {0}) Refusal) (steps : ℕ) (q' : Held) (σ' : Store) : Type 0 where
  refused : {m k : ℕ} → Before f q σ m k → Gives told m k → steps ≡ 0 → q' ≡ q → σ' ≡ σ → RunSays run f q σ n told steps q' σ'
  ran : {t : Tree} {p : Place} → Ready f q σ t p → Gives told (stop_number (run t n p σ).stop) 0 → steps ≡ (run t n p σ).steps → q' ≡ held (run t n p σ).place
      → σ' ≡ (run t n p σ).store → RunSays run f q σ n told steps q' σ'

abbrev pub direction : Bool → Dir
direction false = down
direction true = up

-- A start is a place of the file's tree; a refused file answers its number and record.
pub data StartSays (f : List ℕ) (d : Dir) (r : Result Held Refusal) : Type 0 where
  refused : {e : Refusal} → Says f (fault (number_of e.reason) e.label) → r ≡ Err e → StartSays f d r
  started : {t : Tree} → Accepts f t → r ≡ Ok (held (start t d)) → StartSays f d r
