-- Refusals 7 and 8 on the bytes of a file: what the record at a position names, and the first of the records that a test says no of.
use Rattle.std.specs.Prelude.{ℕ, ◌+◌, List, Bool, true, cond, not, ◌&&◌, ◌||◌, get_or, ltb, eqb, position, Option}
use Rattle.expr.specs.Tree.{Expr, known}
use Rattle.expr.specs.Agreement.{occurs}
use Rattle.expr.specs.declared.Name.TheVariants.{Scalar, Array}
use Rattle.expr.specs.Bytes.{whole}
use Rattle.records.specs.Faults.{word}
use Rattle.records.specs.Walk.{kind_at, offsets}
use Rattle.records.specs.Reading.{tests, calls}

-- the expression at a position, and where it ends
abbrev pub expr_at : List ℕ → ℕ → Expr
expr_at f at = (whole f at).tree

abbrev pub past : List ℕ → ℕ → ℕ
past f at = (whole f at).next

-- 7, "scalar, array or procedure number not there, or a call of 0": a SET has its target at 5, its number at 6, its expressions from 8.
unfoldable pub there_scalar : List ℕ → ℕ → ℕ → ℕ → Bool
there_scalar f at v a = ltb (word f (at + 6)) v && known v a (expr_at f (at + 8))

unfoldable pub there_array : List ℕ → ℕ → ℕ → ℕ → Bool
there_array f at v a = (ltb (word f (at + 6)) a && known v a (expr_at f (at + 8))) && known v a (expr_at f (past f (at + 8)))

abbrev pub there_set : List ℕ → ℕ → ℕ → ℕ → Bool
there_set f at v a = cond (eqb (get_or f (at + 5) 0) 0) (there_scalar f at v a) (there_array f at v a)

unfoldable pub there_call : List ℕ → ℕ → ℕ → Bool
there_call f at p = ltb 0 (word f (at + 4)) && ltb (word f (at + 4)) p

unfoldable pub there_at : List ℕ → ℕ → ℕ → ℕ → ℕ → Bool
there_at f at v a p =
    cond (eqb (kind_at f at) 4) (there_set f at v a)
    (cond (tests (kind_at f at)) (known v a (expr_at f (at + 4)))
    (cond (calls (kind_at f at)) (there_call f at p) true))

-- 8, "the assigned scalar or array occurs in the SET's own expressions"
unfoldable pub free_scalar : List ℕ → ℕ → Bool
free_scalar f at = not (occurs (Scalar (word f (at + 6))) (expr_at f (at + 8)))

unfoldable pub free_array : List ℕ → ℕ → Bool
free_array f at =
    not (occurs (Array (word f (at + 6))) (expr_at f (at + 8)) || occurs (Array (word f (at + 6))) (expr_at f (past f (at + 8))))

abbrev pub free_set : List ℕ → ℕ → Bool
free_set f at = cond (eqb (get_or f (at + 5) 0) 0) (free_scalar f at) (free_array f at)

unfoldable pub free_at : List ℕ → ℕ → Bool
free_at f at = cond (eqb (kind_at f at) 4) (free_set f at) true

-- the first of these positions of which a test says no
abbrev pub first_not : (ℕ → Bool) → List ℕ → Option ℕ
first_not test ats = position (λ at. not (test at)) ats

-- The first record that 7 is about, of v scalars, a arrays and p procedures; the first that 8 is about.
abbrev pub first_unknown : List ℕ → ℕ → ℕ → ℕ → Option ℕ
first_unknown f v a p = first_not (λ at. there_at f at v a p) (offsets f)

abbrev pub first_own : List ℕ → Option ℕ
first_own f = first_not (free_at f) (offsets f)
