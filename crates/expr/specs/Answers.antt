-- What each function answers. Assumes nothing: these are definitions.
use Rattle.std.specs.Prelude.{ℕ, ◌≤◌, List, Option, Some, None}
use Rattle.std.specs.Bool.{then_some}
use Rattle.std.specs.Int.{w32}
use Rattle.std.proofs.Common.{SFits}
use Rattle.expr.specs.Tree.{Expr, depth, Valid, Worth, value, stop, known}
use Rattle.expr.specs.Agreement.{Name, occurs}
use Rattle.expr.specs.Bytes.{Stands, Got}
use Rattle.expr.specs.declared.Seen.{Seen}
use Rattle.expr.specs.declared.Known.{Known}

-- ---- `expression_end`
abbrev pub end_of : Got → Option ℕ
end_of g = then_some g.ok g.next

-- Some n exactly where some tree of at most depth d stands there and ends at n; None where none does
unfoldable pub EndSays : List ℕ → ℕ → ℕ → Option ℕ → Type 0
EndSays s at d (Some n) = (e : Expr) × (Valid e × ((depth e ≤ d) × Stands s at e n))
EndSays s at d None = (e : Expr) (n : ℕ) → Valid e → depth e ≤ d → Stands s at e n → ⊥

-- ---- the range of an evaluation: a value fits a cell
abbrev pub InCell : Worth → Type 0
InCell (value v) = SFits w32 v
InCell (stop f) = Unit {0}

-- ---- `mentions`
abbrev pub seen_of : Name → Got → Seen
seen_of n g = record { found = occurs n g.tree; next = g.next }

-- ---- `names_known`
abbrev pub known_of : ℕ → ℕ → Got → Known
known_of scalars arrays g = record { ok = known scalars arrays g.tree; next = g.next }
