-- Refusals 2 to 5 by computing, on the bytes and a position: the record that starts there, what is wrong with it, and the walk in turn.
-- Nothing here has to be believed: proofs/Asked and proofs/Walking join it to Faults.
use Rattle.std.specs.Prelude.{ℕ, zero, suc, ◌+◌, ◌*◌, List, [], ◌∷◌, Bool, true, cond, ◌&&◌, ◌||◌, length, get_or, ltb, leb, eqb, Option, Some, None, Result, Ok, Err}
use Rattle.expr.specs.Bytes.{Got, parse}
use Rattle.records.specs.Records.{Target, cell, entry, Record, names, begin, end, assign, if, else, fi, from, loop, until, call, uncall, skip, row, sum, is_begin}
use Rattle.records.specs.Faults.{word}
use Rattle.records.specs.Walk.{offsets, kind_at}
pub use Rattle.records.specs.Kinds.{tests, calls}
use Rattle.records.specs.declared.Walked.{Walked}
use Rattle.refusals.specs.declared.Reason.{Reason}
use Rattle.refusals.specs.declared.Reason.TheVariants.{Cut, UnknownKind, Malformed, Oversize}
use Rattle.refusals.specs.declared.Refusal.{Refusal}

-- The first byte after the record.
abbrev pub stop : List ℕ → ℕ → ℕ
stop f at = at + word f at

-- The expression at most 16 deep that starts there.
abbrev pub expr_at : List ℕ → ℕ → Got
expr_at f at = parse 16 f at

-- An expression that fills its place exactly.
abbrev pub fills : Got → ℕ → Bool
fills g n = g.ok && eqb g.next n

-- n numbers of two bytes.
unfoldable pub shorts_at : List ℕ → ℕ → ℕ → List ℕ
shorts_at f at zero = []
shorts_at f at (suc n) = word f at ∷ shorts_at f (at + 2) n

-- ---- a SET: its target, and where its expression starts
abbrev pub target_at : List ℕ → ℕ → Target
target_at f at = cond (eqb (get_or f (at + 5) 0) 0) (cell (word f (at + 6))) (entry (word f (at + 6)) (expr_at f (at + 8)).tree)

abbrev pub value_at : List ℕ → ℕ → ℕ
value_at f at = cond (eqb (get_or f (at + 5) 0) 0) (at + 8) (expr_at f (at + 8)).next

abbrev pub indexed : List ℕ → ℕ → Bool
indexed f at = eqb (get_or f (at + 5) 0) 0 || (eqb (get_or f (at + 5) 0) 1 && (expr_at f (at + 8)).ok)

-- ---- the record at a position, of a kind k
unfoldable pub record_as : ℕ → List ℕ → ℕ → Record
record_as k f at =
    cond (eqb k 1) (names (word f (at + 4)) (shorts_at f (at + 8) (word f (at + 6))))
    (cond (eqb k 2) begin
    (cond (eqb k 3) end
    (cond (eqb k 4) (assign (get_or f (at + 4) 0) (target_at f at) (expr_at f (value_at f at)).tree)
    (cond (eqb k 5) (if (expr_at f (at + 4)).tree)
    (cond (eqb k 6) else
    (cond (eqb k 7) (fi (expr_at f (at + 4)).tree)
    (cond (eqb k 8) (from (expr_at f (at + 4)).tree)
    (cond (eqb k 9) loop
    (cond (eqb k 10) (until (expr_at f (at + 4)).tree)
    (cond (eqb k 11) (call (word f (at + 4)))
    (cond (eqb k 12) (uncall (word f (at + 4)))
    skip)))))))))))

abbrev pub record_at : List ℕ → ℕ → Record
record_at f at = record_as (kind_at f at) f at

-- ---- bodies, by the kinds that share a form
abbrev pub names_body : List ℕ → ℕ → Bool
names_body f at = eqb (word f at) (8 + 2 * word f (at + 6))

unfoldable pub set_body : List ℕ → ℕ → Bool
set_body f at = ltb (get_or f (at + 4) 0) 3 && (indexed f at && fills (expr_at f (value_at f at)) (stop f at))

abbrev pub test_body : List ℕ → ℕ → Bool
test_body f at = fills (expr_at f (at + 4)) (stop f at)

-- The body is right for a record of kind k.
unfoldable pub formed_as : ℕ → List ℕ → ℕ → Bool
formed_as k f at =
    cond (eqb k 1) (names_body f at)
    (cond (eqb k 4) (set_body f at)
    (cond (tests k) (test_body f at)
    (cond (calls k) (eqb (word f at) 6)
    (eqb (word f at) 4))))

abbrev pub formed_at : List ℕ → ℕ → Bool
formed_at f at = formed_as (kind_at f at) f at

-- ---- sizes
unfoldable pub lengths_fit : List ℕ → Bool
lengths_fit [] = true
lengths_fit (n ∷ ns) = (leb 1 n && leb n 1024) && lengths_fit ns

-- The arrays' lengths, and the cells with v others.
abbrev pub cells_fit : ℕ → List ℕ → Bool
cells_fit v ls = lengths_fit ls && leb (v + sum ls) 2048

unfoldable pub names_fit : ℕ → List ℕ → Bool
names_fit v ls = leb v 64 && (leb (length ls) 16 && cells_fit v ls)

-- A record of kind n is within the sizes, after k others of which b are BEGIN.
unfoldable pub sized_as : ℕ → List ℕ → ℕ → ℕ → ℕ → Bool
sized_as n f at k b =
    ltb k 1024
    && cond (eqb n 1) (names_fit (word f (at + 4)) (shorts_at f (at + 8) (word f (at + 6)))) (cond (eqb n 2) (ltb b 64) true)

abbrev pub sized_at : List ℕ → ℕ → ℕ → ℕ → Bool
sized_at f at k b = sized_as (kind_at f at) f at k b

-- ---- the questions 7 and 8, of a record
abbrev pub there : ℕ → ℕ → ℕ → Record → Bool
there v a p r = (row r).there v a p

abbrev pub free : Record → Bool
free r = (row r).free

-- ---- the questions 2 to 5 in turn
unfoldable pub cut_at : List ℕ → ℕ → Bool
cut_at f at = ltb (length f) (at + 4) || (ltb (word f at) 4 || ltb (length f) (stop f at))

unfoldable pub unknown_at : List ℕ → ℕ → Bool
unknown_at f at = eqb (kind_at f at) 0 || ltb 13 (kind_at f at)

-- "Then each record in turn is asked 2, 3, 4, 5": the reason, or none where nothing is wrong.
unfoldable pub wrong_at : List ℕ → ℕ → ℕ → ℕ → Option Reason
wrong_at f at k b =
    cond (cut_at f at) (Some Cut)
    (cond (unknown_at f at) (Some UnknownKind) (cond (formed_at f at) (cond (sized_at f at k b) None (Some Oversize)) (Some Malformed)))

-- ---- the walk over the positions of the records left, after k records of which b are BEGIN
abbrev pub fine : ℕ → ℕ → Result Walked Refusal
fine k b = Ok (record { records = k; procedures = b })

abbrev pub faulty : Reason → ℕ → Result Walked Refusal
faulty r k = Err (record { reason = r; label = k })

abbrev pub walked : Option Reason → ℕ → Result Walked Refusal → Result Walked Refusal
walked None k w = w
walked (Some r) k w = faulty r k

unfoldable pub walk_over : List ℕ → List ℕ → ℕ → ℕ → Result Walked Refusal
walk_over f [] k b = fine k b
walk_over f (at ∷ ats) k b = walked (wrong_at f at k b) k (walk_over f ats (suc k) (b + is_begin (kind_at f at)))

-- The counts of records and BEGINs, or the reason and the record that is first at fault.
unfoldable pub walk_of : List ℕ → Result Walked Refusal
walk_of f = walk_over f (offsets f) 0 0
