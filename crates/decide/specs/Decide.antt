-- What a step decides by the table, from the innermost frame and the store, for any of them. Nothing here has to be believed:
-- machine/proofs/Decided joins it to `step`, proofs/Mapped to the decision by the map, which the code is.
use Rattle.std.specs.Prelude.{ℕ, ◌+◌, ◌-◌, List, ◌≡◌, Bool, false, cond, set, ltb, leb, eqb}
use Rattle.evaluate.specs.Answers.{worth_at, truth_of}
use Rattle.expr.specs.Bytes.{up_to}
use Rattle.moves.specs.Stores.{Answer, ok, no, number, Store}
use Rattle.ways.specs.Looks.{act_of, along_of, gate_of, left_at, look_in, other_of, proc_at, resumed_of}
use Rattle.decide.specs.Sets.{set_at}

-- what a step is decided from: where it stands, and the innermost frame (kind 9: none)
pub record Seen : Type 0 where
  pub direction : ℕ
  pub b : ℕ
  pub calls : ℕ
  pub count : ℕ
  pub kind : ℕ
  pub label : ℕ

-- what it does: reason 0 and the next edge, or the reason; one slot is written (none: 1104), and so many frames are left
pub record Moved : Type 0 where
  pub reason : ℕ
  pub direction : ℕ
  pub a : ℕ
  pub b : ℕ
  pub calls : ℕ
  pub count : ℕ
  pub slot : ℕ
  pub kind : ℕ
  pub label : ℕ

abbrev pub more_of : ℕ → ℕ
more_of n = cond (ltb n 1104) (n + 1) n

abbrev pub fewer_of : ℕ → ℕ
fewer_of n = n - 1

-- the slot of the innermost of n frames; where there is none, none
abbrev pub slot_of : ℕ → ℕ
slot_of n = cond (eqb n 0) 1104 (n - 1)

-- a slot written; a number that no slot has writes nothing
unfoldable pub put_in : List ℕ → ℕ → ℕ → List ℕ
put_in s i v = cond (ltb i 1104) (set s i v) s

abbrev pub moving : ℕ → ℕ → ℕ → ℕ → ℕ → ℕ → ℕ → ℕ → ℕ → Moved
moving reason d a b calls count slot kind label =
    record { reason = reason; direction = d; a = a; b = b; calls = calls; count = count; slot = slot; kind = kind; label = label }

abbrev pub refused_of : Seen → ℕ → Moved
refused_of s n = moving n s.direction 0 s.b s.calls s.count 1104 0 0

abbrev pub kept_of : Seen → ℕ → Moved
kept_of s y = moving 0 s.direction s.b y s.calls s.count 1104 0 0

abbrev pub pushed_of : Seen → ℕ → ℕ → ℕ → Moved
pushed_of s y k l = moving 0 s.direction s.b y s.calls (more_of s.count) s.count k l

abbrev pub popped_of : Seen → ℕ → Moved
popped_of s y = moving 0 s.direction s.b y s.calls (fewer_of s.count) (slot_of s.count) 0 0

abbrev pub changed_of : Seen → ℕ → ℕ → Moved
changed_of s y k = moving 0 s.direction s.b y s.calls s.count (slot_of s.count) k s.label

abbrev pub head_in : Seen → List ℕ → ℕ
head_in s tab = look_in tab (2048 + s.b)

abbrev pub middle_in : Seen → List ℕ → ℕ
middle_in s tab = look_in tab (3072 + s.b)

abbrev pub tail_in : Seen → List ℕ → ℕ
tail_in s tab = look_in tab (4096 + s.b)

unfoldable pub chosen_of : Seen → ℕ → List ℕ → Moved
chosen_of s v tab =
    cond (eqb v 0)
    (cond (eqb s.direction 0) (pushed_of s (along_of tab s.direction (middle_in s tab)) 1 (head_in s tab)) (pushed_of s (along_of tab s.direction s.b) 1 (head_in s tab)))
    (cond (eqb s.direction 0) (pushed_of s (along_of tab s.direction s.b) 0 (head_in s tab)) (pushed_of s (along_of tab s.direction (middle_in s tab)) 0 (head_in s tab)))

unfoldable pub closed_of : Seen → ℕ → List ℕ → Moved
closed_of s v tab =
    cond (eqb v 0)
    (cond (eqb s.kind 0) (refused_of s 31) (popped_of s (along_of tab s.direction s.b)))
    (cond (eqb s.kind 0) (popped_of s (along_of tab s.direction s.b)) (refused_of s 31))

-- the innermost frame is in s2 of the loop that is met
abbrev pub again_of : Seen → ℕ → Bool
again_of s h = cond (eqb s.kind 3) (eqb s.label h) false

unfoldable pub opened_of : Seen → ℕ → ℕ → List ℕ → Moved
opened_of s v y tab =
    cond (again_of s (head_in s tab))
    (cond (eqb v 0) (changed_of s (along_of tab s.direction y) 2) (refused_of s 31))
    (cond (eqb v 0) (refused_of s 31) (pushed_of s (along_of tab s.direction y) 2 (head_in s tab)))

unfoldable pub repeated_of : Seen → ℕ → ℕ → List ℕ → Moved
repeated_of s v y tab = cond (eqb v 0) (changed_of s (along_of tab s.direction y) 3) (popped_of s (along_of tab s.direction s.b))

-- at the edge (a, b)
unfoldable pub entered_to : Seen → ℕ → ℕ → ℕ → Moved
entered_to s a b d = cond (leb 64 s.calls) (refused_of s 34) (moving 0 d a b (s.calls + 1) (more_of s.count) s.count 4 s.b)

-- by the table
unfoldable pub entered_of : Seen → ℕ → ℕ → List ℕ → Moved
entered_of s q d tab = entered_to s (gate_of tab q d) (along_of tab d (gate_of tab q d)) d

-- behind a record that one comes back to: a call itself
abbrev pub behind_of : List ℕ → ℕ → ℕ → ℕ
behind_of tab l d = left_at tab (act_of (look_in tab (1024 + l)) d) l d false

abbrev pub back_of : Seen → ℕ → ℕ → List ℕ → Moved
back_of s d l tab = moving 0 d l (along_of tab d (behind_of tab l s.direction)) (s.calls - 1) (fewer_of s.count) (slot_of s.count) 0 0

unfoldable pub returned_of : Seen → List ℕ → Moved
returned_of s tab = cond (eqb s.calls 0) (refused_of s 30) (back_of s (resumed_of tab s.label s.direction) s.label tab)

-- the record met is of kind k, and its expression holds v
unfoldable pub tested_of : Seen → ℕ → ℕ → List ℕ → Moved
tested_of s k v tab =
    cond (leb 2 v) (refused_of s v)
    (cond (eqb k 5) (cond (eqb s.direction 0) (chosen_of s v tab) (closed_of s v tab))
    (cond (eqb k 7) (cond (eqb s.direction 0) (closed_of s v tab) (chosen_of s v tab))
    (cond (eqb k 8) (cond (eqb s.direction 0) (opened_of s v s.b tab) (repeated_of s v (tail_in s tab) tab))
    (cond (eqb s.direction 0) (repeated_of s v (middle_in s tab) tab) (opened_of s v (middle_in s tab) tab)))))

abbrev pub assigned_of : Seen → ℕ → List ℕ → Moved
assigned_of s n tab = cond (eqb n 0) (kept_of s (along_of tab s.direction s.b)) (refused_of s n)

-- the move, and the store after it
pub record Ruled : Type 0 where
  pub move : Moved
  pub store : Store

-- the move answered and the store left are these
pub record Rules (x : Ruled) (m : Moved) (σ : Store) : Type 0 where
  pub made : m ≡ x.move
  pub left : σ ≡ x.store

abbrev pub ruled : Moved → Store → Ruled
ruled m σ = record { move = m; store = σ }

abbrev pub after_set : Seen → List ℕ → Store → Answer Store → Ruled
after_set s tab σ (ok σ') = ruled (assigned_of s 0 tab) σ'
after_set s tab σ (no q) = ruled (assigned_of s (number q) tab) σ

-- no label is 1,024 or above, and no fitting place comes to one
unfoldable pub rule_of : List ℕ → List ℕ → List ℕ → Seen → Store → Ruled
rule_of f tab arr s σ =
    cond (ltb s.b 1024)
    (cond (eqb (look_in tab (1024 + s.b)) 4) (after_set s tab σ (set_at f (look_in tab s.b) s.direction arr σ))
    (cond (eqb (look_in tab (1024 + s.b)) 13) (ruled (kept_of s (along_of tab s.direction s.b)) σ)
    (cond (eqb (look_in tab (1024 + s.b)) 11) (ruled (entered_of s (proc_at f tab s.b) s.direction tab) σ)
    (cond (eqb (look_in tab (1024 + s.b)) 12) (ruled (entered_of s (proc_at f tab s.b) (other_of s.direction) tab) σ)
    (cond (leb (look_in tab (1024 + s.b)) 3) (ruled (returned_of s tab) σ)
    (ruled (tested_of s (look_in tab (1024 + s.b)) (truth_of (worth_at arr σ (up_to 32768 16 f (look_in tab s.b + 4)))) tab) σ))))))
    (ruled (refused_of s 21) σ)
