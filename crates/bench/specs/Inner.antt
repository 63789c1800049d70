-- What the inner functions go by. Nothing here has to be believed.
use Rattle.std.specs.Prelude.{ℕ, ◌≤◌, ◌≡◌, List, Option, Some, Ok, IfSome}
use Rattle.place.specs.declared.Place.{Place as Held}
use Rattle.order.specs.Trees.{Tree, cells}
use Rattle.program.specs.Says.{counts}
use Rattle.program.specs.Says as program
use Rattle.moves.specs.Places.{Place}
use Rattle.moves.specs.Stores.{Store, Sized}
use Rattle.machine.specs.declared.Ran.{Ran}
use Rattle.machine.specs.Answers.{Ready}
use Rattle.saved.specs.Answers.{SaveSays}
use Rattle.print.specs.Told.{reason_of}
use Rattle.bench.specs.declared.answer.Answer.{Answer}
use Rattle.bench.specs.declared.command.Deed.{Deed}
use Rattle.bench.specs.Answers.{Tells, Keeps, Does, moved_lines}

-- no new session, whatever the buffer is; and no text, whatever it was
abbrev pub Telling : List ℕ → List (List ℕ) → Answer → List ℕ → Type 0
Telling text ws r text' = (b : List ℕ) → Tells b text ws r b text'

abbrev pub Setting : List ℕ → Held → Store → List ℕ → Option Answer → List ℕ → Deed → Type 0
Setting f q σ b r b' deed = (text : List ℕ) → Does f q σ b text r b' text deed

-- where a run ended is kept and told
abbrev pub Moving : List ℕ → Ran → Store → List ℕ → List ℕ → Answer → List ℕ → List ℕ → Type 0
Moving f ran σ b text r b' text' = Keeps f ran.place σ b text (moved_lines ran.steps (reason_of ran.told) ran.place) r b' text'

-- the file is accepted with so many cells
abbrev pub Counted : List ℕ → ℕ → Type 0
Counted f cells = (r : ℕ) × (p : ℕ) × program.Says f (counts r p cells)

-- the place fits and the store has its size
abbrev pub Stands : List ℕ → Held → Store → Type 0
Stands f q σ = (t : Tree) × (p : Place) × Ready f q σ t p

-- and its cells are i32
abbrev pub Sound : List ℕ → Held → Store → Type 0
Sound f q σ = (t : Tree) × (p : Place) × Ready f q σ t p × Sized t σ

-- the session is saved, and so many bytes of the text are said
pub record Saves (f : List ℕ) (q : Held) (σ : Store) (b : List ℕ) (n : ℕ) (r : Answer) (b' : List ℕ) : Type 0 where
  pub size : ℕ
  pub written : r.written ≡ Some size
  pub session : SaveSays f q σ b (Ok size) b'
  pub said : r.said ≡ n

-- an answer lies within the buffer and the text
pub record Room (r : Answer) (buffer text : ℕ) : Type 0 where
  pub session : IfSome r.written (λ n. n ≤ buffer)
  pub lines : r.said ≤ text

-- and so does one that may be none
abbrev pub RoomOf : Option Answer → ℕ → ℕ → Type 0
RoomOf r buffer text = IfSome r (λ a. Room a buffer text)
