-- What reading and saving a session answer, in document 01's words: for all bytes, every struct of a place, every store and buffer.
use Rattle.std.specs.Prelude.{ℕ, ◌≤◌, ◌<◌, List, ◌++◌, ◌≡◌, length, drop, Result, Ok, Err}
use Rattle.refusals.specs.declared.Refusal.{Refusal}
use Rattle.refusals.specs.Numbers.{number_of}
use Rattle.place.specs.declared.Place.{Place as Held}
use Rattle.order.specs.Trees.{Tree, cells}
use Rattle.program.specs.Says.{fault, Accepts, Says}
use Rattle.moves.specs.Places.{Place, Fits}
use Rattle.moves.specs.Stores.{Store}
use Rattle.session.specs.Session.{encode, Reads}
use Rattle.machine.specs.Answers.{Before, Ready}

-- "Session .. calls .. check the program first, then 22 (reading), 20, 21": the number, and the record. The bytes s are malformed where they
-- are the file of no place and store; 20 is asked of the cells in the file and of the store σ that is lent for them.
pub data ReadBefore (f s : List ℕ) (σ : Store) : ℕ → ℕ → Type 0 where
  program : {n k : ℕ} → Says f (fault n k) → ReadBefore f s σ n k
  malformed : {t : Tree} → Accepts f t → ((p : Place) (zs : Store) → Reads s p zs → ⊥) → ReadBefore f s σ 22 0
  size : {t : Tree} {p : Place} {zs : Store} → Accepts f t → Reads s p zs → ((length zs ≡ cells t) × (length σ ≡ cells t) → ⊥) → ReadBefore f s σ 20 0
  place : {t : Tree} {p : Place} {zs : Store} → Accepts f t → Reads s p zs → length zs ≡ cells t → length σ ≡ cells t → (Fits t p → ⊥) → ReadBefore f s σ 21 0

-- What is found: the struct holds the place of the file, and the store its cells.
pub record Found (f s : List ℕ) (σ : Store) (q : Held) (σ' : Store) : Type 0 where
  pub tree : Tree
  pub place : Place
  pub reads : Reads s place σ'
  pub ready : Ready f q σ' tree place
  pub lent : length σ ≡ cells tree

-- "A refused reading returns no place and leaves the lent store untouched."
abbrev pub ReadSays : List ℕ → List ℕ → Store → Result Held Refusal → Store → Type 0
ReadSays f s σ (Err r) σ' = ReadBefore f s σ (number_of r.reason) r.label × (σ' ≡ σ)
ReadSays f s σ (Ok q) σ' = Found f s σ q σ'

-- "then .. 20, 21, 23 (saving)".
pub data SaveBefore (f : List ℕ) (q : Held) (σ : Store) (buf : List ℕ) : ℕ → ℕ → Type 0 where
  before : {n k : ℕ} → Before f q σ n k → SaveBefore f q σ buf n k
  short : {t : Tree} {p : Place} → Ready f q σ t p → length buf < length (encode p σ) → SaveBefore f q σ buf 23 0

-- What is saved: "Bytes of the lent buffer after the written ones keep their values."
pub record Saved (f : List ℕ) (q : Held) (σ : Store) (buf : List ℕ) (written : ℕ) (buf' : List ℕ) : Type 0 where
  pub tree : Tree
  pub place : Place
  pub ready : Ready f q σ tree place
  pub room : length (encode place σ) ≤ length buf
  pub count : written ≡ length (encode place σ)
  pub bytes : buf' ≡ encode place σ ++ drop (length (encode place σ)) buf

-- "A save answers the bytes written"; a refused one leaves the buffer.
abbrev pub SaveSays : List ℕ → Held → Store → List ℕ → Result ℕ Refusal → List ℕ → Type 0
SaveSays f q σ buf (Err r) buf' = SaveBefore f q σ buf (number_of r.reason) r.label × (buf' ≡ buf)
SaveSays f q σ buf (Ok n) buf' = Saved f q σ buf n buf'
