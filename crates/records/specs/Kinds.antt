-- Document 01, 'The program file': the thirteen kinds of records by their numbers. Assumes nothing: these are definitions.
use Rattle.std.specs.Prelude.{ℕ, Bool, cond, ◌||◌, eqb, Option, Some, None}
use Rattle.records.specs.declared.kind.Kind.{Kind}
use Rattle.records.specs.declared.kind.Kind.TheVariants.{Names, Begin, End, Set, If, Else, Fi, From, Loop, Until, Call, Uncall, Skip}

abbrev pub kind_number : Kind → ℕ
kind_number Names = 1
kind_number Begin = 2
kind_number End = 3
kind_number Set = 4
kind_number If = 5
kind_number Else = 6
kind_number Fi = 7
kind_number From = 8
kind_number Loop = 9
kind_number Until = 10
kind_number Call = 11
kind_number Uncall = 12
kind_number Skip = 13

-- The kind of that number; none of another.
unfoldable pub kind_of : ℕ → Option Kind
kind_of n =
    cond (eqb n 1) (Some Names)
    (cond (eqb n 2) (Some Begin)
    (cond (eqb n 3) (Some End)
    (cond (eqb n 4) (Some Set)
    (cond (eqb n 5) (Some If)
    (cond (eqb n 6) (Some Else)
    (cond (eqb n 7) (Some Fi)
    (cond (eqb n 8) (Some From)
    (cond (eqb n 9) (Some Loop)
    (cond (eqb n 10) (Some Until)
    (cond (eqb n 11) (Some Call)
    (cond (eqb n 12) (Some Uncall)
    (cond (eqb n 13) (Some Skip) None))))))))))))

-- The kinds whose body is an expression: IF, FI, FROM, UNTIL; and the number of a procedure: CALL, UNCALL.
abbrev pub tests : ℕ → Bool
tests k = eqb k 5 || (eqb k 7 || (eqb k 8 || eqb k 10))

abbrev pub calls : ℕ → Bool
calls k = eqb k 11 || eqb k 12
