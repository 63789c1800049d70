-- Document 01, 'Order': programs as trees, and the records that a tree is written as.
use Rattle.std.specs.Prelude.{ℕ, suc, ◌+◌, ◌-◌, ◌≤◌, ◌<◌, max, cond, ◌||◌, List, [], ◌∷◌, ◌++◌, ◌≡◌, eqb, length, take}
use Rattle.expr.specs.Tree.{Expr}
use Rattle.records.specs.Records.{Target, Record, names, begin, end, assign, if, else, fi, from, loop, until, call, uncall, skip, kind, sum}

mutual
  -- "SET, CALL, UNCALL, SKIP, IF s ELSE s FI, FROM s LOOP s UNTIL"
  pub data Stmt : Type 0 where
    set_s : ℕ → Target → Expr → Stmt
    skip_s : Stmt
    call_s uncall_s : ℕ → Stmt
    if_s from_s : Expr → Block → Block → Expr → Stmt

  -- "s is one or more statements"
  pub data Block : Type 0 where
    one : Stmt → Block
    ◌then◌ : Stmt → Block → Block

-- "NAMES once, then one or more procedures BEGIN s END. Procedure 0 is the main body .."
pub record Tree : Type 0 where
  pub scalars : ℕ
  pub lengths : List ℕ
  pub main : Block
  pub others : List Block

unfoldable mutual
  pub records_s : Stmt → List Record
  records_s (set_s o t e) = assign o t e ∷ []
  records_s skip_s = skip ∷ []
  records_s (call_s q) = call q ∷ []
  records_s (uncall_s q) = uncall q ∷ []
  records_s (if_s e s t e') = if e ∷ (records_b s ++ (else ∷ (records_b t ++ (fi e' ∷ []))))
  records_s (from_s e s t e') = from e ∷ (records_b s ++ (loop ∷ (records_b t ++ (until e' ∷ []))))

  pub records_b : Block → List Record
  records_b (one s) = records_s s
  records_b (◌then◌ s b) = records_s s ++ records_b b

unfoldable pub records_p : List Block → List Record
records_p [] = []
records_p (b ∷ bs) = begin ∷ (records_b b ++ (end ∷ records_p bs))

abbrev pub procedures : Tree → List Block
procedures t = t.main ∷ t.others

unfoldable pub records_of : Tree → List Record
records_of t = names t.scalars t.lengths ∷ records_p (procedures t)

-- How many IF and FROM (kinds 5, 8) are open at once, where n are open before these records; FI and UNTIL (7, 10) close one.
abbrev pub opened : ℕ → ℕ → ℕ
opened n k = cond (eqb k 5 || eqb k 8) (suc n) (cond (eqb k 7 || eqb k 10) (n - 1) n)

unfoldable pub most_open : ℕ → List Record → ℕ
most_open n [] = n
most_open n (r ∷ rs) = max n (most_open (opened n (kind r)) rs)

-- "cells (V plus all lengths)"
abbrev pub cells : Tree → ℕ
cells t = t.scalars + sum t.lengths

-- The records rs in an order that is valid: those of the tree t, at most 16 IF and FROM open at once.
pub record Ordered (rs : List Record) (t : Tree) : Type 0 where
  pub records : records_of t ≡ rs
  pub nested : most_open 0 rs ≤ 16

-- Some order of further records is valid.
abbrev pub Viable : List Record → Type 0
Viable rs = (further : List Record) × (t : Tree) × Ordered (rs ++ further) t

-- 6: "the first record after which no order of further records is valid (file, record and procedure limits set aside), or the record count
-- where the file stops too soon"
pub data Misplaced (rs : List Record) : ℕ → Type 0 where
  no_order : {k : ℕ} → k < length rs → Viable (take k rs) → (Viable (take (suc k) rs) → ⊥) → Misplaced rs k
  too_soon : Viable rs → ((t : Tree) → Ordered rs t → ⊥) → Misplaced rs (length rs)
