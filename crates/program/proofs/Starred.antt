-- Document 01's starred lines, all of them, as one table under one theorem: values, an evaluation and files.
--     starred                every line of the table holds
--     sixteen, seventeen     "16 open constructs pass, 17 are 6."
use mathlib.Core.Path.{◌≡◌, refl}
use mathlib.Core.List.{List, [], ◌∷◌, flat_map}
use mathlib.Core.Bool.{Bool, true, ◌&&◌}
use Prim.Native.Nat.{ℕ, zero, suc}
use native.Mathlib.Omega.{arith}
use borrow.Author.Tests.{ltb-true}
use lib.Dec.{ltb}
use lib.IntN.{ℤ, pos, neg_ℤ}
use Rattle.values.specs.Values.{is, apply_op, wrap, floor_div, floor_mod}
use Rattle.codes.specs.Codes.{AllBytes}
use Rattle.expr.specs.Tree.{any_name, Expr, con, var, bin, Fault, div_by_zero, fault_number, stop, eval, known, encode}
use Rattle.expr.specs.Agreement.{occurs}
use Rattle.expr.specs.Bytes.{whole, within, up_to, layer}
use Rattle.std.proofs.lemmas.Bool.{and_parts}
use Rattle.records.specs.Records.{cell, entry, names, begin, end, assign, kind, body, encode_record, bytes_of, sum}
use Rattle.records.specs.Walk.{offsets, offsets_from, kinds_at}
use Rattle.records.specs.Reading.{shorts_at, walk_of, walk_over, wrong_at, cut_at, unknown_at, sized_as, names_fit, lengths_fit, formed_as, set_body}
use Rattle.order.specs.Trees.{skip_s, if_s, Block, one, records_s, records_p, records_of}
use Rattle.records.specs.Kinds.{kind_of}
use Rattle.order.specs.Order.{order_of, order_from, next}
use Rattle.names.specs.Names.{there_scalar, there_array, there_call, there_at, free_scalar, free_array, free_at}
use Rattle.program.specs.Check.{refused, check_of, cells_of}
use Rattle.program.specs.Says.{Given, fault, counts, given, Says}
use Rattle.std.specs.Prelude.{Result, Ok}
use Rattle.refusals.specs.declared.Refusal.{Refusal}
use Rattle.refusals.specs.declared.Reason.TheVariants.{Misplaced, OwnName}
use Rattle.program.specs.declared.Counts.{Counts}
use Rattle.program.proofs.CheckSays.{says_of}

-- A line: the value of an operator, by its number, on two values; the number with which an expression stops where there are no cells;
-- what a file is answered.
pub data Line : Type 0 where
  gives : ℕ → ℤ → ℤ → ℤ → Line
  stops : Expr → ℕ → Line
  answers : List ℕ → Given → Line

-- What a line says.
abbrev pub Holds : Line → Type 0
Holds (gives o x y v) = apply_op o x y ≡ is v
Holds (stops e n) = (f : Fault) × (eval (record { starts = []; lengths = [] }) [] e ≡ stop f) × (fault_number f ≡ n)
Holds (answers f g) = Says f g

-- All lines of a table hold.
infixr 5 ◌and◌
pub data Hold : List Line → Type 0 where
  done : Hold []
  ◌and◌ : {l : Line} {ls : List Line} → Holds l → Hold ls → Hold (l ∷ ls)

abbrev pub - : ℕ → ℤ
- n = neg_ℤ (pos n)

-- ---- a file's answer, by computation
abbrev small : List ℕ → Bool
small [] = true
small (b ∷ bs) = ltb b 256 && small bs

all_bytes : (f : List ℕ) → small f ≡ true → AllBytes f
all_bytes [] h i = omega arith
all_bytes (b ∷ bs) h zero = ltb-true b 256 (and_parts (ltb b 256) (small bs) h).0
all_bytes (b ∷ bs) h (suc i) = all_bytes bs (and_parts (ltb b 256) (small bs) h).1 i

answered : (f : List ℕ) (a : Result Counts Refusal) → small f ≡ true → a ≡ check_of f → Says f (given a)
answered f a h e = says_of f (all_bytes f h) a e

-- -7 / 2, -7 % 2; 7 / -2, 7 % -2; 2147483647 + 1; 65536 * 65536; -8 ^ 3; 0 && (1 / 0);
-- the empty file; NAMES, BEGIN, END; scalar 0 += scalar 0; array 0 at index scalar 0 += 1, array length 1.
pub starred : Hold (
    gives 4 (- 7) (pos 2) (- 4)
    ∷ gives 5 (- 7) (pos 2) (pos 1)
    ∷ gives 4 (pos 7) (- 2) (- 4)
    ∷ gives 5 (pos 7) (- 2) (- 1)
    ∷ gives 0 (pos 2147483647) (pos 1) (- 2147483648)
    ∷ gives 3 (pos 65536) (pos 65536) (pos 0)
    ∷ gives 2 (- 8) (pos 3) (- 5)
    ∷ stops (bin 8 (con (pos 0)) (bin 4 (con (pos 1)) (con (pos 0)))) 32
    ∷ answers [] (fault 6 0)
    ∷ answers (bytes_of (names 0 [] ∷ begin ∷ end ∷ [])) (fault 6 2)
    ∷ answers (bytes_of (names 1 [] ∷ begin ∷ assign 0 (cell 0) (var 0) ∷ end ∷ [])) (fault 8 2)
    ∷ answers (bytes_of (names 1 (1 ∷ []) ∷ begin ∷ assign 0 (entry 0 (var 0)) (con (pos 1)) ∷ end ∷ [])) (counts 4 1 2)
    ∷ [])
unfolding apply_op wrap floor_div floor_mod eval check_of cells_of walk_of walk_over order_of order_from next kind_of offsets offsets_from kinds_at wrong_at cut_at unknown_at sized_as names_fit lengths_fit formed_as set_body shorts_at sum whole within up_to layer known occurs any_name there_scalar there_array there_call there_at free_scalar free_array free_at bytes_of encode_record body kind encode flat_map
starred =
    refl and refl and refl and refl and refl and refl and refl and ◌and◌ {l = stops _ 32} (div_by_zero, refl, refl)
    (answered [] (refused Misplaced 0) refl refl and answered _ (refused Misplaced 2) refl refl and answered _ (refused OwnName 2) refl refl and answered _ (Ok (record { records = 4; procedures = 1; cells = 2 })) refl refl and done)

-- n IFs one in another.
abbrev pub nested : ℕ → Block
nested zero = one skip_s
nested (suc n) = one (if_s (con (pos 1)) (nested n) (one skip_s) (con (pos 1)))

abbrev pub nest : ℕ → List ℕ
nest n = bytes_of (records_of (record { scalars = 0; lengths = []; main = nested n; others = [] }))

pub sixteen : Says (nest 16) (counts 68 1 0)
unfolding check_of cells_of walk_of walk_over order_of order_from next kind_of offsets offsets_from kinds_at wrong_at cut_at unknown_at sized_as names_fit lengths_fit formed_as set_body shorts_at sum whole within up_to layer known occurs any_name there_scalar there_array there_call there_at free_scalar free_array free_at bytes_of encode_record body kind encode flat_map records_of records_p records_s
sixteen = answered (nest 16) (Ok (record { records = 68; procedures = 1; cells = 0 })) refl refl

pub seventeen : Says (nest 17) (fault 6 18)
unfolding check_of cells_of walk_of walk_over order_of order_from next kind_of offsets offsets_from kinds_at wrong_at cut_at unknown_at sized_as names_fit lengths_fit formed_as set_body shorts_at sum whole within up_to layer known occurs any_name there_scalar there_array there_call there_at free_scalar free_array free_at bytes_of encode_record body kind encode flat_map records_of records_p records_s
seventeen = answered (nest 17) (refused Misplaced 18) refl refl
