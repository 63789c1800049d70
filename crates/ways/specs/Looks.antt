-- What the table of a file says of a record, for any table, and ways: a label and a direction in one number, the label, and 1,024
-- more upwards. Nothing here has to be believed.
use Rattle.std.specs.Prelude.{ℕ, ◌+◌, ◌%◌, List, Bool, cond, ltb, leb, eqb}
use Rattle.std.specs.Bool.{beq as same}
use Rattle.records.specs.Faults.{word}
unfoldable pub use Rattle.sections.specs.Look.{look_in}
use Rattle.ways.specs.declared.side.Side.{Side}
use Rattle.ways.specs.declared.side.Side.TheVariants.{Down, Up}

-- "u8 direction, 0 down, 1 up"
abbrev pub side_number : Side → ℕ
side_number Down = 0
side_number Up = 1

abbrev pub other_of : ℕ → ℕ
other_of d = cond (eqb d 0) 1 0

-- the label one comes to when record y is left in a direction
unfoldable pub along_of : List ℕ → ℕ → ℕ → ℕ
along_of tab d y = cond (eqb d 0) (look_in tab (5120 + y)) (look_in tab (6144 + y))

-- the record by which procedure q is entered in a direction
abbrev pub gate_of : List ℕ → ℕ → ℕ → ℕ
gate_of tab q d = cond (eqb d 0) (look_in tab (9216 + q)) (look_in tab (9280 + q))

-- the procedure that a call of label x would name
abbrev pub proc_at : List ℕ → List ℕ → ℕ → ℕ
proc_at f tab x = word f (look_in tab x + 4)

-- "the opposite direction from an UNCALL"
abbrev pub resumed_of : List ℕ → ℕ → ℕ → ℕ
resumed_of tab l d = cond (eqb (look_in tab (1024 + l)) 12) (other_of d) d

-- what a record does: it returns (3), assigns (4), calls (11), is skipped (13), chooses (5), closes (7), opens (8) or tests (10)
abbrev pub test_of : ℕ → ℕ → ℕ
test_of k d =
    cond (eqb k 5) (cond (eqb d 0) 5 7)
    (cond (eqb k 7) (cond (eqb d 0) 7 5)
    (cond (eqb k 8) (cond (eqb d 0) 8 10)
    (cond (eqb d 0) 10 8)))

abbrev pub act_of : ℕ → ℕ → ℕ
act_of k d =
    cond (eqb k 4) 4
    (cond (eqb k 13) 13
    (cond (eqb k 11) 11
    (cond (eqb k 12) 11
    (cond (leb k 3) 3
    (test_of k d)))))

-- the record that is left behind record b, where its test does not hold, or does
abbrev pub left_at : List ℕ → ℕ → ℕ → ℕ → Bool → ℕ
left_at tab a b d fails =
    cond (eqb a 5) (cond (same fails (eqb d 0)) (look_in tab (3072 + b)) b)
    (cond (eqb a 8) (cond (eqb d 0) b (look_in tab (3072 + b)))
    (cond (eqb a 10) (cond fails (cond (eqb d 0) (look_in tab (3072 + b)) (look_in tab (4096 + b))) b)
    b))

-- the operator of a SET in a direction: "up the opposite one (`^` is its own)"
abbrev pub operator_at : ℕ → ℕ → ℕ
operator_at o d = cond (eqb d 0) o (cond (eqb o 0) 1 (cond (eqb o 1) 0 o))

-- the way of a label in a direction
unfoldable pub way_to : ℕ → ℕ → ℕ
way_to b d = cond (eqb d 0) b (cond (ltb b 1024) (b + 1024) b)

-- its label and direction
abbrev pub label_in : ℕ → ℕ
label_in w = w % 1024

abbrev pub side_in : ℕ → ℕ
side_in w = cond (ltb w 1024) 0 1
