-- Document 01, 'The program file': the records and their bytes, and the limits that each record is asked by itself.
use Rattle.std.specs.Prelude.{ℕ, suc, ◌+◌, ◌^◌, ◌≤◌, ◌<◌, Bool, true, false, not, cond, ◌&&◌, ◌||◌, ◌≡◌, length, ltb, eqb}
use mathlib.Core.List.{List, [], ◌∷◌, ◌++◌, flat_map}
use Rattle.expr.specs.Tree.{Expr, Valid, depth, encode, any_name, known}
use Rattle.codes.specs.Codes.{bytes16}

-- "u8 target (0 scalar, 1 array), u16 number, for an array its index expression"
pub data Target : Type 0 where
  cell : ℕ → Target
  entry : ℕ → Expr → Target

-- A record, by its kind and what its body says.
pub data Record : Type 0 where
  names : ℕ → List ℕ → Record
  begin end : Record
  assign : ℕ → Target → Expr → Record
  if : Expr → Record
  else : Record
  fi from : Expr → Record
  loop : Record
  until : Expr → Record
  call uncall : ℕ → Record
  skip : Record

-- Each number of a list is so.
abbrev pub Every : (ℕ → Type 0) → List ℕ → Type 0
Every P [] = Unit {0}
Every P (n ∷ ns) = P n × Every P ns

-- "Depth at most 16"
abbrev pub Plain : Expr → Type 0
Plain e = Valid e × (depth e ≤ 16)

-- A target's bytes; that they hold its numbers; its part in 7 and in 8 (below), where scalar 0 and array 0 are two names.
abbrev pub encode_target : Target → List ℕ
encode_target (cell x) = 0 ∷ bytes16 x
encode_target (entry a i) = 1 ∷ bytes16 a ++ encode i

abbrev pub PlainTarget : Target → Type 0
PlainTarget (cell x) = x < 2 ^ 16
PlainTarget (entry a i) = (a < 2 ^ 16) × Plain i

abbrev pub there_target : ℕ → ℕ → Target → Bool
there_target v a (cell x) = ltb x v
there_target v a (entry n i) = ltb n a && known v a i

abbrev pub own_target : Target → Expr → Bool
own_target (cell x) e = any_name (λ y. eqb y x) (λ n. false) e
own_target (entry a i) e = any_name (λ x. false) (λ n. eqb n a) i || any_name (λ x. false) (λ n. eqb n a) e

-- What is said of a record: its kind and body;
-- `formed`: the body is right for its kind, with operators that are there, numbers that the bytes hold, expressions at most 16 deep;
-- `there`, of v scalars, a arrays and p procedures: it is not 7, "scalar, array or procedure number not there, or a call of 0";
-- `free`: it is not 8, "the assigned scalar or array occurs in the SET's own expressions".
pub record Row : Type 1 where
  pub kind : ℕ
  pub body : List ℕ
  pub formed : Type 0
  pub there : ℕ → ℕ → ℕ → Bool
  pub free : Bool

-- The kinds whose body is nothing, an expression, or the number of a procedure.
abbrev pub bare : ℕ → Row
bare k = record { kind = k; body = []; formed = Unit {0}; there = λ v a p. true; free = true }

abbrev pub holding : ℕ → Expr → Row
holding k e = record { kind = k; body = encode e; formed = Plain e; there = λ v a p. known v a e; free = true }

abbrev pub calling : ℕ → ℕ → Row
calling k q = record { kind = k; body = bytes16 q; formed = q < 2 ^ 16; there = λ v a p. ltb 0 q && ltb q p; free = true }

-- NAMES: "u16 V scalars, u16 A arrays, A lengths u16". SET: "u8 operator .., u8 target .., u16 number, for an array its index expression, then the expression".
abbrev pub row : Record → Row
row (names v ls) =
    record { kind = 1; body = flat_map bytes16 (v ∷ length ls ∷ ls); formed = Every (◌< 2 ^ 16) (v ∷ length ls ∷ ls); there = λ v a p. true; free = true }
row begin = bare 2
row end = bare 3
row (assign o t e) = record {
  kind = 4;
  body = o ∷ encode_target t ++ encode e;
  formed = (o < 3) × (PlainTarget t × Plain e);
  there = λ v a p. there_target v a t && known v a e;
  free = not (own_target t e);
}
row (if e) = holding 5 e
row else = bare 6
row (fi e) = holding 7 e
row (from e) = holding 8 e
row loop = bare 9
row (until e) = holding 10 e
row (call q) = calling 11 q
row (uncall q) = calling 12 q
row skip = bare 13

unfoldable pub kind : Record → ℕ
kind r = (row r).kind

unfoldable pub body : Record → List ℕ
body r = (row r).body

unfoldable pub Formed : Record → Type 0
Formed r = (row r).formed

-- "u16 length of the whole record, u16 kind, body; little-endian"
unfoldable pub encode_record : Record → List ℕ
encode_record r = bytes16 (4 + length (body r)) ++ (bytes16 (kind r) ++ body r)

-- "It is a row of records."
unfoldable pub bytes_of : List Record → List ℕ
bytes_of [] = []
bytes_of (r ∷ rs) = encode_record r ++ bytes_of rs

unfoldable pub sum : List ℕ → ℕ
sum [] = 0
sum (n ∷ ns) = n + sum ns

-- "Sizes: V 0 to 64, A 0 to 16, array length 1 to 1,024, cells .. at most 2,048, records at most 1,024, procedures 1 to 64":
-- what a record is asked that has k records and b BEGINs before it.
pub record InSize (k b : ℕ) (r : Record) : Type 0 where
  pub records : k < 1024
  pub procedures : r ≡ begin → b < 64
  pub cells : (v : ℕ) (ls : List ℕ) → r ≡ names v ls → (v ≤ 64) × ((length ls ≤ 16) × (Every (λ n. (1 ≤ n) × (n ≤ 1024)) ls × (v + sum ls ≤ 2048)))

-- How many of the records are BEGIN: as many as there are procedures.
abbrev pub is_begin : ℕ → ℕ
is_begin n = cond (eqb n 2) 1 0

unfoldable pub begins : List Record → ℕ
begins [] = 0
begins (r ∷ rs) = is_begin (kind r) + begins rs

-- Each record in turn, after k others of which b are BEGIN, is formed and within the sizes.
unfoldable pub FineFrom : ℕ → ℕ → List Record → Type 0
FineFrom k b [] = Unit {0}
FineFrom k b (r ∷ rs) = Formed r × (InSize k b r × FineFrom (suc k) (b + is_begin (kind r)) rs)
