-- A SET read from the bytes, for any bytes and any arrays. Nothing here has to be believed: machine/proofs/Sets joins it to `assigned`.
use Rattle.std.specs.Prelude.{ℕ, ◌+◌, List, Option, None, Some, Result, Ok, Err, cond, ◌≡◌, get_or, set as put, eqb, ℤ, pos}
use Rattle.refusals.specs.declared.Reason.{Reason}
use Rattle.refusals.specs.declared.Reason.TheVariants.{Unfit, AtEnd, WrongValue, ZeroDivisor, BadIndex, TooDeep}
use Rattle.expr.specs.Tree.{Arrays, Worth}
use Rattle.evaluate.specs.Answers.{arrays_of, worth_at, entry_of}
use Rattle.expr.specs.Bytes.{up_to}
use Rattle.records.specs.Faults.{word}
use Rattle.moves.specs.Stores.{Answer, ok, no, number, bad_index, bind, Store, answered, applied}
use Rattle.ways.specs.Looks.{operator_at}

abbrev pub worked : Store → ℕ → ℕ → ℤ → Store
worked σ c o v = put σ c (applied o (get_or σ c (pos 0)) v)

-- the reason of a number that a step gives; of any other, the last
abbrev pub reason_by : ℕ → Reason
reason_by n = cond (eqb n 21) Unfit (cond (eqb n 30) AtEnd (cond (eqb n 31) WrongValue (cond (eqb n 32) ZeroDivisor (cond (eqb n 33) BadIndex TooDeep))))

-- the cell of an entry, or that its index is refused
abbrev pub as_answer : Option ℕ → Answer ℕ
as_answer (Some c) = ok c
as_answer None = no bad_index

abbrev pub entry_by : Arrays → ℕ → ℤ → Answer ℕ
entry_by A a v = as_answer (entry_of A a v)

-- the number r answered, and the store left
abbrev pub Leaves : Answer Store → Store → ℕ → Store → Type 0
Leaves (ok τ) σ r σ' = (r ≡ 0) × (σ' ≡ τ)
Leaves (no q) σ r σ' = (r ≡ number q) × (σ' ≡ σ)

-- what is answered, and the store left
abbrev pub Left : Answer Store → Store → Result (Unit {0}) Reason → Store → Type 0
Left (ok τ) σ r σ' = (r ≡ Ok tt) × (σ' ≡ τ)
Left (no q) σ r σ' = (r ≡ Err (reason_by (number q))) × (σ' ≡ σ)

abbrev pub set_to : ℕ → ℕ → Store → Worth → Answer Store
set_to c o σ w = bind (answered w) (λ v. ok (worked σ c o v))

unfoldable pub set_entry : List ℕ → ℕ → ℕ → ℕ → List ℕ → Store → Answer Store
set_entry f at a o arr σ =
    bind (bind (answered (worth_at arr σ (up_to 32768 16 f at))) (λ v. entry_by (arrays_of arr) a v))
    (λ c. set_to c o σ (worth_at arr σ (up_to 32768 16 f (up_to 32768 16 f at).next)))

unfoldable pub set_at : List ℕ → ℕ → ℕ → List ℕ → Store → Answer Store
set_at f at d arr σ =
    cond (eqb (get_or f (at + 5) 0) 0)
    (set_to (word f (at + 6)) (operator_at (get_or f (at + 4) 0) d) σ (worth_at arr σ (up_to 32768 16 f (at + 8))))
    (set_entry f (at + 8) (word f (at + 6)) (operator_at (get_or f (at + 4) 0) d) arr σ)
