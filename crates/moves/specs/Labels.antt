-- Document 01, 'Labels, places, moves': which record has which label.
use Rattle.std.specs.Prelude.{ℕ, ◌+◌, pred, [], length, get_or}
use Rattle.records.specs.Records.{Record, names}
use Rattle.order.specs.Trees.{Stmt, Tree, records_s, records_of}

-- "A record's label is its number in the file, from 0."
abbrev pub at : Tree → ℕ → Record
at t x = get_or (records_of t) x (names 0 [])

-- "The entry of a statement is its own label, or IF, or FROM; its exit its own label, or FI, or UNTIL."
-- The entry is the statement's first label n.
abbrev pub exit : Stmt → ℕ → ℕ
exit s n = pred (n + length (records_s s))
