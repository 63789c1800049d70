-- What the check answers, by computing: the questions in the document's order. proofs/CheckSays joins it to `Says`.
use Rattle.std.specs.Prelude.{ℕ, ◌+◌, List, cond, length, ltb, Option, Some, None, Result, Ok, Err}
use Rattle.refusals.specs.declared.Reason.{Reason}
use Rattle.refusals.specs.declared.Reason.TheVariants.{TooLong, Misplaced, NotThere, OwnName}
use Rattle.refusals.specs.declared.Refusal.{Refusal}
use Rattle.records.specs.Records.{sum}
use Rattle.records.specs.Faults.{word}
use Rattle.records.specs.Walk.{offsets, kinds_at}
use Rattle.records.specs.Reading.{shorts_at, walk_of}
use Rattle.records.specs.declared.Walked.{Walked}
use Rattle.order.specs.Order.{order_of}
use Rattle.names.specs.Names.{first_unknown, first_own}
use Rattle.program.specs.declared.Counts.{Counts}

-- What the first record, NAMES, declares.
abbrev pub scalars_of : List ℕ → ℕ
scalars_of f = word f 4

abbrev pub lengths_of : List ℕ → List ℕ
lengths_of f = shorts_at f 8 (word f 6)

unfoldable pub cells_of : List ℕ → ℕ
cells_of f = scalars_of f + sum (lengths_of f)

abbrev pub refused : Reason → ℕ → Result Counts Refusal
refused reason k = Err (record { reason = reason; label = k })

-- What is answered after each question, of the counts w of records and procedures.
abbrev pub after_own : List ℕ → Walked → Option ℕ → Result Counts Refusal
after_own f w (Some k) = refused OwnName k
after_own f w None = Ok (record { records = w.records; procedures = w.procedures; cells = cells_of f })

abbrev pub after_there : List ℕ → Walked → Option ℕ → Result Counts Refusal
after_there f w (Some k) = refused NotThere k
after_there f w None = after_own f w (first_own f)

abbrev pub after_order : List ℕ → Walked → Result (Unit {0}) ℕ → Result Counts Refusal
after_order f w (Err k) = refused Misplaced k
after_order f w (Ok all) = after_there f w (first_unknown f (scalars_of f) (word f 6) w.procedures)

abbrev pub after_walk : List ℕ → Result Walked Refusal → Result Counts Refusal
after_walk f (Err r) = Err r
after_walk f (Ok w) = after_order f w (order_of (kinds_at f (offsets f)))

-- "1 is asked first, with record 0. Then each record in turn is asked 2, 3, 4, 5. Then over all records 6, then 7, then 8."
unfoldable pub check_of : List ℕ → Result Counts Refusal
check_of f = cond (ltb 32768 (length f)) (refused TooLong 0) (after_walk f (walk_of f))
