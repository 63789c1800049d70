-- Expressions as trees: how deep they are, which bytes they are, what they are worth in a store, which names they hold.
-- Document 01, 'The program file' and 'Values'. Assumes nothing: these are definitions.
use Rattle.std.specs.Prelude.{ℕ, ◌+◌, ◌^◌, ◌<◌, max, List, ◌∷◌, ◌++◌, Bool, false, not, cond, ◌||◌, get_or, ltb, ℤ, pos, negsuc}
use Rattle.std.specs.Int.{w32}
use Rattle.std.proofs.Common.{SFits}
use Rattle.values.specs.Values.{Value, is, zero_divisor, zero_divisor_number, apply_op}
use Rattle.codes.specs.Codes.{bytes16, cell_bytes}

-- a constant, a scalar by number, an array by number read at an index, an operator on two sides
pub data Expr : Type 0 where
  con : ℤ → Expr
  var : ℕ → Expr
  read : ℕ → Expr → Expr
  bin : ℕ → Expr → Expr → Expr

-- 'a constant or scalar has 1, an array read 1 more than its index, a binary 1 more than the deeper side'
unfoldable pub depth : Expr → ℕ
depth (con v) = 1
depth (var x) = 1
depth (read a i) = depth i + 1
depth (bin o l r) = max (depth l) (depth r) + 1

-- the numbers are ones that the bytes can hold: i32 constants, u16 names, operators 0 to 15
unfoldable pub Valid : Expr → Type 0
Valid (con v) = SFits w32 v
Valid (var x) = x < 2 ^ 16
Valid (read a i) = (a < 2 ^ 16) × Valid i
Valid (bin o l r) = (o < 16) × (Valid l × Valid r)

-- 'byte 0 and an i32 constant; 1 and a u16 scalar; 2, a u16 array and its index expression; 3, a u8 operator, left, right'
unfoldable pub encode : Expr → List ℕ
encode (con v) = 0 ∷ cell_bytes v
encode (var x) = 1 ∷ bytes16 x
encode (read a i) = 2 ∷ bytes16 a ++ encode i
encode (bin o l r) = 3 ∷ o ∷ encode l ++ encode r

-- where each array starts among the cells, and how long it is
pub record Arrays : Type 0 where
  pub starts : List ℕ
  pub lengths : List ℕ

-- what stops an evaluation
pub data Fault : Type 0 where
  div_by_zero : Fault
  bad_index : Fault

-- '32 zero divisor in `/` or `%`', '33 index below 0 or not below the array's length'
abbrev pub fault_number : Fault → ℕ
fault_number div_by_zero = zero_divisor_number
fault_number bad_index = 33

-- a value, or what stopped the evaluation
pub data Worth : Type 0 where
  value : ℤ → Worth
  stop : Fault → Worth

abbrev pub worth_of : Value → Worth
worth_of (is v) = value v
worth_of zero_divisor = stop div_by_zero

-- what the value of a first part goes on to; what stops the part stops the whole
abbrev pub and_then : Worth → (ℤ → Worth) → Worth
and_then (stop f) next = stop f
and_then (value v) next = next v

-- array a at an index: it is tested, then the cell is read
unfoldable pub element : Arrays → List ℤ → ℕ → ℤ → Worth
element arrays cells a (pos i) = cond (ltb i (get_or arrays.lengths a 0)) (value (get_or cells (get_or arrays.starts a 0 + i) (pos 0))) (stop bad_index)
element arrays cells a (negsuc i) = stop bad_index

-- 'an array read evaluates its own index, then tests it, then reads'; 'both sides are always evaluated, left first'
unfoldable pub eval : Arrays → List ℤ → Expr → Worth
eval arrays cells (con v) = value v
eval arrays cells (var x) = value (get_or cells x (pos 0))
eval arrays cells (read a i) = and_then (eval arrays cells i) (element arrays cells a)
eval arrays cells (bin o l r) = and_then (eval arrays cells l) (λ x. and_then (eval arrays cells r) (λ y. worth_of (apply_op o x y)))

-- a scalar that s says yes to, or an array that a does, stands somewhere in the tree, in an array read's index too
unfoldable pub any_name : (ℕ → Bool) → (ℕ → Bool) → Expr → Bool
any_name s a (con v) = false
any_name s a (var x) = s x
any_name s a (read n i) = a n || any_name s a i
any_name s a (bin o l r) = any_name s a l || any_name s a r

-- no scalar number but those below the count of scalars, no array number but those below that of arrays
unfoldable pub known : ℕ → ℕ → Expr → Bool
known scalars arrays e = not (any_name (λ x. not (ltb x scalars)) (λ n. not (ltb n arrays)) e)
