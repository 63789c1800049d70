-- Worked lines that tell one reading from another, by computation; document 01's starred ones stand in `program`. Assumes nothing.
use mathlib.Core.Path.{◌≡◌, refl}
use mathlib.Core.List.{[], ◌∷◌}
use mathlib.Core.Bool.{true, false}
use Prim.Native.Nat.{ℕ, zero, suc}
use lib.IntN.{pos, negsuc}
use Rattle.values.specs.Values.{apply_op}
use Rattle.expr.specs.Tree.{any_name, Expr, con, var, read, bin, depth, encode, element, eval, Worth, value, stop, div_by_zero, bad_index}
use Rattle.expr.specs.Agreement.{Scalar, Array, occurs}
use Rattle.expr.specs.Bytes.{up_to, parse, layer}
use Rattle.expr.specs.Answers.{end_of}
use Rattle.std.proofs.Common.{Some, None}

-- two scalars, 1 and -8, then an array of length 2 with the cells 5 and 9
abbrev pub worth_in : Expr → Worth
worth_in e = eval (record { starts = 2 ∷ []; lengths = 2 ∷ [] }) (pos 1 ∷ negsuc 7 ∷ pos 5 ∷ pos 9 ∷ []) e

-- 1 / 0, and an index that is the length
abbrev pub zeroth : Expr
zeroth = bin 4 (con (pos 1)) (con (pos 0))

abbrev pub far : Expr
far = read 0 (con (pos 2))

-- both errors come in order of evaluation
pub left_first : worth_in (bin 0 far zeroth) ≡ stop bad_index
unfolding eval apply_op element
left_first = refl

pub left_first' : worth_in (bin 0 zeroth far) ≡ stop div_by_zero
unfolding eval apply_op element
left_first' = refl

-- an array read: the last index, the length, below 0, and an index that is itself refused, before any test
pub last : worth_in (read 0 (var 0)) ≡ value (pos 9)
unfolding eval element
last = refl

pub past_the_last : worth_in far ≡ stop bad_index
unfolding eval element
past_the_last = refl

pub below_zero : worth_in (read 0 (var 1)) ≡ stop bad_index
unfolding eval element
below_zero = refl

pub index_first : worth_in (read 7 zeroth) ≡ stop div_by_zero
unfolding eval apply_op element
index_first = refl

-- scalar 0 and array 0 are two names; an index and both sides are searched
pub two_names : (occurs (Scalar 0) (read 0 (con (pos 0))) ≡ false) × (occurs (Array 0) (var 0) ≡ false)
unfolding occurs any_name
two_names = (refl, refl)

pub in_the_index : occurs (Scalar 0) (read 1 (var 0)) ≡ true
unfolding occurs any_name
in_the_index = refl

pub on_the_left : occurs (Scalar 0) (bin 0 (var 0) (con (pos 1))) ≡ true
unfolding occurs any_name
on_the_left = refl

-- bytes and back
pub read_back : (parse 16 (3 ∷ 8 ∷ 0 ∷ 255 ∷ 255 ∷ 255 ∷ 255 ∷ 2 ∷ 1 ∷ 2 ∷ 1 ∷ 3 ∷ 0 ∷ []) 0).tree ≡ bin 8 (con (negsuc 0)) (read 513 (var 3))
unfolding up_to layer
read_back = refl

pub written : encode (bin 8 (con (negsuc 0)) (read 513 (var 3))) ≡ 3 ∷ 8 ∷ 0 ∷ 255 ∷ 255 ∷ 255 ∷ 255 ∷ 2 ∷ 1 ∷ 2 ∷ 1 ∷ 3 ∷ 0 ∷ []
unfolding encode
written = refl

-- 16 deep is read, 17 is not
abbrev pub nested : ℕ → Expr
nested zero = var 0
nested (suc n) = read 0 (nested n)

pub sixteen : (depth (nested 15) ≡ 16) × (end_of (parse 16 (encode (nested 15)) 0) ≡ Some 48)
unfolding depth up_to layer encode
sixteen = (refl, refl)

pub seventeen : (depth (nested 16) ≡ 17) × (end_of (parse 16 (encode (nested 16)) 0) ≡ None)
unfolding depth up_to layer encode
seventeen = (refl, refl)
