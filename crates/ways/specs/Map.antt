-- The map of a run: all that it asks of the file and the table, found once. Nothing here has to be believed: decide/Mapped shows
-- that the decision by it is the decision by the table.
use Rattle.std.specs.Prelude.{ℕ, ◌+◌, ◌*◌, ◌%◌, ◌<◌, List, ◌≡◌, Bool, true, false, cond, length, get_or, replicate, ltb, eqb}
use Rattle.records.specs.Faults.{word}
use Rattle.ways.specs.Looks.{operator_at, look_in, along_of, gate_of, proc_at, resumed_of, act_of, left_at, way_to}

unfoldable pub no_entries : List ℕ
no_entries = replicate 14336 0

-- ---- what a record does: a SET of a cell adds (4), subtracts (12) or is exclusive (14), one of an entry has an act of its own (6);
-- a record that returns does it downwards (3) or upwards (9)
abbrev pub cell_act : ℕ → ℕ
cell_act o = cond (eqb o 0) 4 (cond (eqb o 1) 12 14)

-- the SET that stands at o
abbrev pub set_act : List ℕ → ℕ → ℕ → ℕ
set_act f o d = cond (eqb (get_or f (o + 5) 0) 0) (cell_act (operator_at (get_or f (o + 4) 0) d)) 6

-- the act a in a direction
abbrev pub turned_act : ℕ → ℕ → ℕ
turned_act a d = cond (eqb a 3) (cond (eqb d 0) 3 9) a

unfoldable pub act_at : List ℕ → List ℕ → ℕ → ℕ → ℕ
act_at f tab b d = cond (eqb (look_in tab (1024 + b)) 4) (set_act f (look_in tab b) d) (turned_act (act_of (look_in tab (1024 + b)) d) d)

-- ---- the way on from record b, where its test does not hold, or does
unfoldable pub onward_at : List ℕ → ℕ → ℕ → Bool → ℕ
onward_at tab b d fails =
    way_to (along_of tab (resumed_of tab b d) (left_at tab (act_of (look_in tab (1024 + b)) d) b d fails)) (resumed_of tab b d)

-- ---- a call: the record by which the procedure is entered, and the way from there; a SET: its operator, and its cell or array
unfoldable pub gate_at : List ℕ → List ℕ → ℕ → ℕ → ℕ
gate_at f tab b d = gate_of tab (proc_at f tab b) (resumed_of tab b d)

unfoldable pub into_at : List ℕ → List ℕ → ℕ → ℕ → ℕ
into_at f tab b d = way_to (along_of tab (resumed_of tab b d) (gate_at f tab b d)) (resumed_of tab b d)

unfoldable pub first_at : List ℕ → List ℕ → ℕ → ℕ → ℕ
first_at f tab b d = cond (eqb (look_in tab (1024 + b)) 4) (operator_at (get_or f (look_in tab b + 4) 0) d) (gate_at f tab b d)

unfoldable pub second_at : List ℕ → List ℕ → ℕ → ℕ → ℕ
second_at f tab b d = cond (eqb (look_in tab (1024 + b)) 4) (word f (look_in tab b + 6)) (into_at f tab b d)

-- ---- where the expression of record b stands; a SET's behind its operator and target
unfoldable pub expr_at : List ℕ → ℕ → ℕ
expr_at tab b = cond (ltb (look_in tab b) 32768) (look_in tab b + cond (eqb (look_in tab (1024 + b)) 4) 8 4) (look_in tab b)

-- ---- half a section for each direction, downwards the even ones
unfoldable pub entry_at : List ℕ → List ℕ → ℕ → ℕ → ℕ
entry_at f tab j b =
    cond (ltb j 2) (act_at f tab b (j % 2))
    (cond (ltb j 4) (onward_at tab b (j % 2) false)
    (cond (ltb j 6) (onward_at tab b (j % 2) true)
    (cond (ltb j 8) (first_at f tab b (j % 2))
    (cond (ltb j 10) (second_at f tab b (j % 2))
    (cond (ltb j 12) (expr_at tab b)
    (look_in tab (2048 + b)))))))

-- the entries of the first n labels; the rest is 0
pub record Maps (f tab : List ℕ) (n : ℕ) (m : List ℕ) : Type 0 where
  pub size : length m ≡ 14336
  pub entry : (j b : ℕ) → j < 14 → b < 1024 → get_or m (1024 * j + b) 0 ≡ cond (ltb b n) (entry_at f tab j b) 0
