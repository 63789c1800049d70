-- What each command answers on the bytes that were read: the new session, and the text.
use Rattle.std.specs.Prelude.{ℕ, ◌≤◌, ◌<◌, min, ◌≡◌, Option, Some, None, Result, Ok, Err, List, [], ◌++◌, ℤ, length, set}
use Rattle.refusals.specs.Numbers.{number_of}
use Rattle.refusals.specs.declared.Refusal.{Refusal}
use Rattle.place.specs.declared.Place.{Place as Held}
use Rattle.place.specs.Held.{held}
use Rattle.order.specs.Trees.{Tree, cells}
use Rattle.program.specs.Says.{fault, counts, Accepts}
use Rattle.program.specs.Says as program
use Rattle.moves.specs.Places.{Dir, Place}
use Rattle.moves.specs.Stores.{Store}
use Rattle.moves.specs.Step.{start}
use Rattle.moves.specs.Runs.{Ran, run, run_back}
use Rattle.machine.specs.Answers.{Gives, RunSays}
use Rattle.saved.specs.Answers.{ReadSays, SaveSays}
use Rattle.print.specs.Zeros.{noughts}
use Rattle.print.specs.Lines.{Text, refused_line, accepted_line, steps_line, at_line, frame_lines, cell_lines}
use Rattle.bench.specs.declared.answer.Answer.{Answer}
use Rattle.bench.specs.declared.command.Deed.{Deed}
use Rattle.bench.specs.declared.command.Deed.TheVariants.{Step, Back, Set, Show}

-- `check`: the counts, or the refusal
pub data Checks (f b c : List ℕ) (n : ℕ) : Type 0 where
  refused : {m k : ℕ} → program.Says f (fault m k) → Text b (refused_line m k) c n → Checks f b c n
  accepted : {records procedures cells : ℕ} → program.Says f (counts records procedures cells) → Text b (accepted_line records procedures cells) c n → Checks f b c n

-- No new session, and these lines: the buffer b and the text are b' and text' afterwards.
pub record Tells (b text : List ℕ) (ws : List (List ℕ)) (r : Answer) (b' text' : List ℕ) : Type 0 where
  pub none : r.written ≡ None
  pub kept : b' ≡ b
  pub lines : Text text ws text' r.said

-- The session of the place q and the store σ is saved, and these lines are said.
pub record Keeps (f : List ℕ) (q : Held) (σ : Store) (b text : List ℕ) (ws : List (List ℕ)) (r : Answer) (b' text' : List ℕ) : Type 0 where
  pub size : ℕ
  pub written : r.written ≡ Some size
  pub session : SaveSays f q σ b (Ok size) b'
  pub lines : Text text ws text' r.said

-- `at A B down`
abbrev pub place_line : Held → List (List ℕ)
place_line q = at_line q.a q.b q.direction

abbrev pub moved_lines : ℕ → ℕ → Held → List (List ℕ)
moved_lines steps reason q = steps_line steps reason ++ place_line q

abbrev pub shown_lines : Held → Store → List (List ℕ)
shown_lines q σ = place_line q ++ (frame_lines (min q.count 1104) q.kinds q.labels ++ cell_lines 0 σ)

-- `start`: the start of the file's tree, on zeros
pub data Starts (f : List ℕ) (d : Dir) (b text : List ℕ) (r : Answer) (b' text' : List ℕ) : Type 0 where
  refused : {n k : ℕ} → program.Says f (fault n k) → Tells b text (refused_line n k) r b' text' → Starts f d b text r b' text'
  started : {t : Tree} → Accepts f t → Keeps f (held (start t d)) (noughts (cells t)) b text (place_line (held (start t d))) r b' text' → Starts f d b text r b' text'

-- `step` and `back`: a run of n steps, which ended at the place q' with the store σ'
pub data Moves (going : Tree → ℕ → Place → Store → Ran) (n : ℕ) (f : List ℕ) (q : Held) (σ : Store) (b text : List ℕ) (r : Answer) (b' text' : List ℕ) : Type 0 where
  moves : {m reason k : ℕ} {told : Result (Unit {0}) Refusal} {q' : Held} {σ' : Store} → RunSays going f q σ n told m q' σ' → Gives told reason k
      → Keeps f q' σ' b text (moved_lines m reason q') r b' text' → Moves going n f q σ b text r b' text'

-- The other commands, on a session that was read as the place q and the store σ; none where the words were wrong after all.
pub data Does (f : List ℕ) (q : Held) (σ : Store) (b text : List ℕ) (r : Option Answer) (b' text' : List ℕ) : Deed → Type 0 where
  steps : {n : ℕ} {a : Answer} → r ≡ Some a → Moves run n f q σ b text a b' text' → Does f q σ b text r b' text' (Step n)
  backs : {n : ℕ} {a : Answer} → r ≡ Some a → Moves run_back n f q σ b text a b' text' → Does f q σ b text r b' text' (Back n)
  sets : {i : ℕ} {v : ℤ} {a : Answer} → i < length σ → r ≡ Some a → Keeps f q (set σ i v) b text [] a b' text' → Does f q σ b text r b' text' (Set i v)
  not_there : {i : ℕ} {v : ℤ} → length σ ≤ i → r ≡ None → b' ≡ b → text' ≡ text → Does f q σ b text r b' text' (Set i v)
  shows : {a : Answer} → r ≡ Some a → Tells b text (shown_lines q σ) a b' text' → Does f q σ b text r b' text' Show

-- The store σ that is lent for a session's cells has the program's size.
abbrev pub Lent : List ℕ → Store → Type 0
Lent f σ = (t : Tree) → Accepts f t → length σ ≡ cells t

pub data Answers (c : Deed) (f s b text : List ℕ) (r : Option Answer) (b' text' : List ℕ) : Type 0 where
  unread : (e : Refusal) {a : Answer} {σ σ' : Store} → Lent f σ → ReadSays f s σ (Err e) σ' → r ≡ Some a → Tells b text (refused_line (number_of e.reason) e.label) a b' text'
      → Answers c f s b text r b' text'
  found : (q : Held) {σ σ' : Store} → Lent f σ → ReadSays f s σ (Ok q) σ' → Does f q σ' b text r b' text' c → Answers c f s b text r b' text'
