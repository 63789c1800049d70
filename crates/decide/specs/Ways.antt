-- What a step decides by the map of a run, for any map, as the code does. Nothing here has to be believed: proofs/Mapped joins
-- it to the decision by the table. A way is a label and a direction in one number: the label, and 1,024 more upwards.
use Rattle.std.specs.Prelude.{ℕ, ◌+◌, ◌-◌, ◌*◌, ◌/◌, ◌%◌, ◌<◌, List, ◌≡◌, Result, Ok, Err, Bool, false, cond, get_or, ltb, leb, eqb}
use Rattle.std.specs.Bool.{beq as same}
use Rattle.evaluate.specs.Answers.{worth_at, truth_of}
use Rattle.expr.specs.Bytes.{up_to}
use Rattle.place.specs.Methods.{top_at}
use Rattle.moves.specs.Stores.{Answer, ok, no, number as number_in, Store}
use Rattle.ways.specs.Looks.{label_in, way_to}
use Rattle.refusals.specs.declared.Reason.{Reason}
use Rattle.decide.specs.Sets.{reason_by, set_to, set_entry}
use Rattle.decide.specs.Decide.{Seen, Moved, Ruled as Tabled, more_of, fewer_of, slot_of, put_in}
use Rattle.decide.specs.declared.Spot.{Spot}
use Rattle.decide.specs.declared.Move.{Move}

-- what a step is decided from: where it stands, and the innermost frame (kind 9: none)
pub record Sight : Type 0 where
  pub way : ℕ
  pub calls : ℕ
  pub count : ℕ
  pub kind : ℕ
  pub label : ℕ

-- how many frames are calls and how many there are, in one number
abbrev pub depth_of : ℕ → ℕ → ℕ
depth_of calls count = 4096 * calls + count

abbrev pub calls_in : ℕ → ℕ
calls_in d = d / 4096

abbrev pub count_in : ℕ → ℕ
count_in d = d % 4096

abbrev pub sight_by : Spot → ℕ → ℕ → Sight
sight_by s k l = record { way = s.way; calls = calls_in s.depth; count = count_in s.depth; kind = k; label = l }

-- of the slots of the place; and where a function asks for the kind alone, the label alone, or neither
unfoldable pub sight : Spot → List ℕ → List ℕ → Sight
sight s ks ls = sight_by s (top_at ks (count_in s.depth) 9) (top_at ls (count_in s.depth) 0)

unfoldable pub by_kind : Spot → List ℕ → Sight
by_kind s ks = sight_by s (top_at ks (count_in s.depth) 9) 0

unfoldable pub by_label : Spot → List ℕ → Sight
by_label s ls = sight_by s 9 (top_at ls (count_in s.depth) 0)

abbrev pub bare : Spot → Sight
bare s = sight_by s 9 0

-- ---- the entries of a way
abbrev pub act_in : List ℕ → ℕ → ℕ
act_in m w = get_or m (0 + w) 0

abbrev pub yes_in : List ℕ → ℕ → ℕ
yes_in m w = get_or m (2048 + w) 0

abbrev pub no_in : List ℕ → ℕ → ℕ
no_in m w = get_or m (4096 + w) 0

-- a call: the record by which the procedure is entered, and the way from there; a SET: its operator, and its cell or array
abbrev pub first_in : List ℕ → ℕ → ℕ
first_in m w = get_or m (6144 + w) 0

abbrev pub second_in : List ℕ → ℕ → ℕ
second_in m w = get_or m (8192 + w) 0

-- where its expression stands
abbrev pub expr_in : List ℕ → ℕ → ℕ
expr_in m w = get_or m (10240 + w) 0

abbrev pub head_in : List ℕ → ℕ → ℕ
head_in m w = get_or m (12288 + w) 0

-- what it does: reason 0, the next way and the label before it, or the reason; one slot is written (none: 1,104), and so many frames are left
pub record Doing : Type 0 where
  pub reason : ℕ
  pub way : ℕ
  pub a : ℕ
  pub calls : ℕ
  pub count : ℕ
  pub slot : ℕ
  pub kind : ℕ
  pub label : ℕ

-- what of it is answered; the slot is written
abbrev pub told : Doing → Result Move Reason
told d = cond (eqb d.reason 0) (Ok (record { way = d.way; a = d.a; depth = depth_of d.calls d.count })) (Err (reason_by d.reason))

-- the slots afterwards; a refused step writes none
abbrev pub written : Doing → List ℕ → ℕ → List ℕ
written d s v = cond (eqb d.reason 0) (put_in s d.slot v) s

-- the move answered and the slots left are these
pub record Does (d : Doing) (ks ls : List ℕ) (m : Result Move Reason) (ks' ls' : List ℕ) : Type 0 where
  pub made : m ≡ told d
  pub small : d.count < 4096
  pub kinds : ks' ≡ written d ks d.kind
  pub labels : ls' ≡ written d ls d.label

-- ---- the frames
abbrev pub moving : ℕ → ℕ → ℕ → ℕ → ℕ → ℕ → ℕ → ℕ → Doing
moving reason w a calls count slot kind label =
    record { reason = reason; way = w; a = a; calls = calls; count = count; slot = slot; kind = kind; label = label }

abbrev pub refused_in : Sight → ℕ → Doing
refused_in s n = moving n s.way 0 s.calls s.count 1104 0 0

abbrev pub kept_in : Sight → ℕ → Doing
kept_in s y = moving 0 y (label_in s.way) s.calls s.count 1104 0 0

abbrev pub pushed_in : Sight → ℕ → ℕ → ℕ → Doing
pushed_in s y k l = moving 0 y (label_in s.way) s.calls (more_of s.count) s.count k l

abbrev pub popped_in : Sight → ℕ → Doing
popped_in s y = moving 0 y (label_in s.way) s.calls (fewer_of s.count) (slot_of s.count) 0 0

abbrev pub changed_in : Sight → ℕ → ℕ → Doing
changed_in s y k = moving 0 y (label_in s.way) s.calls s.count (slot_of s.count) k s.label

-- what is answered where no reason stops it and the frames are so many
abbrev pub on_to : Sight → ℕ → ℕ → Move
on_to s y n = record { way = y; a = label_in s.way; depth = n }

-- ---- the acts
-- what a condition says, as a number
abbrev pub number : Bool → ℕ
number v = cond v 1 0

unfoldable pub chosen_in : Sight → ℕ → List ℕ → Doing
chosen_in s v m = cond (eqb v 0) (pushed_in s (no_in m s.way) 1 (head_in m s.way)) (pushed_in s (yes_in m s.way) 0 (head_in m s.way))

unfoldable pub closed_in : Sight → ℕ → List ℕ → Doing
closed_in s v m = cond (same (eqb v 0) (eqb s.kind 0)) (refused_in s 31) (popped_in s (yes_in m s.way))

-- the innermost frame is in s2 of the loop that is met
abbrev pub again_in : Sight → ℕ → Bool
again_in s h = cond (eqb s.kind 3) (eqb s.label h) false

unfoldable pub opened_in : Sight → ℕ → List ℕ → Doing
opened_in s v m =
    cond (again_in s (head_in m s.way))
    (cond (eqb v 0) (changed_in s (yes_in m s.way) 2) (refused_in s 31))
    (cond (eqb v 0) (refused_in s 31) (pushed_in s (yes_in m s.way) 2 (head_in m s.way)))

unfoldable pub repeated_in : Sight → ℕ → List ℕ → Doing
repeated_in s v m = cond (eqb v 0) (changed_in s (no_in m s.way) 3) (popped_in s (yes_in m s.way))

unfoldable pub entered_in : Sight → List ℕ → Doing
entered_in s m =
    cond (leb 64 s.calls) (refused_in s 34)
    (moving 0 (second_in m s.way) (first_in m s.way) (s.calls + 1) (more_of s.count) s.count 4 (label_in s.way))

-- back at the calling record l, in the direction of the half `side` of a section
abbrev pub back_in : Sight → ℕ → ℕ → List ℕ → Doing
back_in s l side m = moving 0 (yes_in m (l + side)) l (s.calls - 1) (fewer_of s.count) (slot_of s.count) 0 0

unfoldable pub returned_in : Sight → ℕ → List ℕ → Doing
returned_in s side m = cond (eqb s.calls 0) (refused_in s 30) (cond (ltb s.label 1024) (back_in s s.label side m) (refused_in s 21))

-- an expression that is stopped holds the number of its reason
abbrev pub passed_in : Sight → ℕ → Doing → Doing
passed_in s v d = cond (leb 2 v) (refused_in s v) d

-- the record met does a, and its expression holds v; one that does none of this is skipped
unfoldable pub looped_in : Sight → ℕ → ℕ → List ℕ → Doing
looped_in s a v m =
    cond (eqb a 8) (passed_in s v (opened_in s v m))
    (cond (eqb a 10) (passed_in s v (repeated_in s v m))
    (kept_in s (yes_in m s.way)))

unfoldable pub tested_in : Sight → ℕ → ℕ → List ℕ → Doing
tested_in s a v m = cond (eqb a 5) (passed_in s v (chosen_in s v m)) (cond (eqb a 7) (passed_in s v (closed_in s v m)) (looped_in s a v m))

abbrev pub assigned_in : Sight → ℕ → List ℕ → Doing
assigned_in s n m = cond (eqb n 0) (kept_in s (yes_in m s.way)) (refused_in s n)

-- ---- the move, and the store after it
pub record Ruled : Type 0 where
  pub move : Doing
  pub store : Store

-- and so is the store
pub record Rules (x : Ruled) (ks ls : List ℕ) (m : Result Move Reason) (ks' ls' : List ℕ) (σ : Store) : Type 0 where
  pub does : Does x.move ks ls m ks' ls'
  pub left : σ ≡ x.store

-- a SET writes no slot
pub record Sets (x : Ruled) (m : Result Move Reason) (σ : Store) : Type 0 where
  pub made : m ≡ told x.move
  pub left : σ ≡ x.store

abbrev pub ruled : Doing → Store → Ruled
ruled m σ = record { move = m; store = σ }

abbrev pub after_set : Sight → List ℕ → Store → Answer Store → Ruled
after_set s m σ (ok σ') = ruled (assigned_in s 0 m) σ'
after_set s m σ (no q) = ruled (assigned_in s (number_in q) m) σ

-- a SET of a cell
unfoldable pub set_cell : List ℕ → ℕ → ℕ → ℕ → List ℕ → Store → Answer Store
set_cell f at c o arr σ = set_to c o σ (worth_at arr σ (up_to 32768 16 f at))

-- a SET by the map: of a cell, with the operator o; of an entry
unfoldable pub cell_in : List ℕ → List ℕ → List ℕ → Sight → Store → ℕ → Ruled
cell_in f m arr s σ o = after_set s m σ (set_cell f (expr_in m s.way) (second_in m s.way) o arr σ)

unfoldable pub entry_in : List ℕ → List ℕ → List ℕ → Sight → Store → Ruled
entry_in f m arr s σ = after_set s m σ (set_entry f (expr_in m s.way) (second_in m s.way) (first_in m s.way) arr σ)

-- no way is 2,048 or above, and no fitting place comes to one
unfoldable pub rule_in : List ℕ → List ℕ → List ℕ → Sight → Store → Ruled
rule_in f m arr s σ =
    cond (ltb s.way 2048)
    (cond (eqb (act_in m s.way) 4) (cell_in f m arr s σ 0)
    (cond (eqb (act_in m s.way) 12) (cell_in f m arr s σ 1)
    (cond (eqb (act_in m s.way) 14) (cell_in f m arr s σ 2)
    (cond (eqb (act_in m s.way) 6) (entry_in f m arr s σ)
    (cond (eqb (act_in m s.way) 11) (ruled (entered_in s m) σ)
    (cond (eqb (act_in m s.way) 3) (ruled (returned_in s 0 m) σ)
    (cond (eqb (act_in m s.way) 9) (ruled (returned_in s 1024 m) σ)
    (ruled (tested_in s (act_in m s.way) (truth_of (worth_at arr σ (up_to 32768 16 f (expr_in m s.way)))) m) σ))))))))
    (ruled (refused_in s 21) σ)

-- ---- what is decided by the table, as it is said by the map
abbrev pub sight_of : Seen → Sight
sight_of S = record { way = way_to S.b S.direction; calls = S.calls; count = S.count; kind = S.kind; label = S.label }

abbrev pub packed_move : Moved → Doing
packed_move m = moving m.reason (way_to m.b m.direction) m.a m.calls m.count m.slot m.kind m.label

abbrev pub packed : Tabled → Ruled
packed x = ruled (packed_move x.move) x.store
