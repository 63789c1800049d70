-- The records of a program with their links: each knows its construct or its procedure. The proofs walk on these.
use Prim.Native.Nat.{ℕ}
use mathlib.Core.List.{List}
use Rattle.expr.specs.Tree.{Expr}
use Rattle.records.specs.Records.{Target, Record, names, begin, end, assign, if, else, fi, from, loop, until, call, uncall, skip}
use Rattle.moves.specs.Edges.{Frame}
use Rattle.moves.specs.Places.{Dir, down, up, opp}

-- A construct: the labels of its three records and the expressions of the first and the last.
pub record Con : Type 0 where
  pub l : ℕ
  pub m : ℕ
  pub r : ℕ
  pub e₁ : Expr
  pub e₂ : Expr

pub data Rec : Type 0 where
  name_l : ℕ → List ℕ → Rec
  begin_l end_l : ℕ → Rec
  set_l : ℕ → Target → Expr → Rec
  skip_l : Rec
  if_l else_l fi_l from_l loop_l until_l : Con → Rec
  call_l uncall_l : ℕ → Rec

pub record Prog : Type 0 where
  pub at : ℕ → Rec
  -- the constructs open after this record, innermost first
  pub encl : ℕ → List Frame
  pub first : ℕ → ℕ
  pub last : ℕ → ℕ

-- The record without its links.
abbrev pub forget : Rec → Record
forget (name_l v ls) = names v ls
forget (begin_l q) = begin
forget (end_l q) = end
forget (set_l o x e) = assign o x e
forget skip_l = skip
forget (if_l c) = if c.e₁
forget (else_l c) = else
forget (fi_l c) = fi c.e₂
forget (from_l c) = from c.e₁
forget (loop_l c) = loop
forget (until_l c) = until c.e₂
forget (call_l q) = call q
forget (uncall_l q) = uncall q

-- What a record's construct gives, the label of its IF or FROM among it; 0 for a record that is part of none.
abbrev pub of_con : (Con → ℕ) → Rec → ℕ
of_con f (name_l v ls) = 0
of_con f (begin_l q) = 0
of_con f (end_l q) = 0
of_con f (set_l o x e) = 0
of_con f skip_l = 0
of_con f (if_l c) = f c
of_con f (else_l c) = f c
of_con f (fi_l c) = f c
of_con f (from_l c) = f c
of_con f (loop_l c) = f c
of_con f (until_l c) = f c
of_con f (call_l q) = 0
of_con f (uncall_l q) = 0

abbrev pub head_of : Rec → ℕ
head_of ρ = of_con (λ c. c.l) ρ

-- Two neighbours x and x + 1 are the ends of one edge; where one of them is ELSE, LOOP or UNTIL, the edge belongs to a partner.
-- onto: the label that an edge coming down to record x ends at. off: the label that an edge going down from record x starts at.
abbrev pub onto : Rec → ℕ → ℕ
onto (name_l v ls) x = x
onto (begin_l q) x = x
onto (end_l q) x = x
onto (set_l o t e) x = x
onto skip_l x = x
onto (if_l c) x = x
onto (else_l c) x = c.r
onto (fi_l c) x = x
onto (from_l c) x = x
onto (loop_l c) x = c.r
onto (until_l c) x = c.l
onto (call_l q) x = x
onto (uncall_l q) x = x

abbrev pub off : Rec → ℕ → ℕ
off (name_l v ls) x = x
off (begin_l q) x = x
off (end_l q) x = x
off (set_l o t e) x = x
off skip_l x = x
off (if_l c) x = x
off (else_l c) x = c.l
off (fi_l c) x = x
off (from_l c) x = x
off (loop_l c) x = c.r
off (until_l c) x = x
off (call_l q) x = x
off (uncall_l q) x = x

-- The label that one meets at record x, moving in direction d.
abbrev pub side : Rec → ℕ → Dir → ℕ
side ρ x down = onto ρ x
side ρ x up = off ρ x

abbrev pub gate_l : Prog → ℕ → Dir → ℕ
gate_l P q down = P.first q
gate_l P q up = P.last q

-- The direction in which a calling record is left.
abbrev pub resume : Rec → Dir → Dir
resume (name_l v ls) d = d
resume (begin_l q) d = d
resume (end_l q) d = d
resume (set_l o t e) d = d
resume skip_l d = d
resume (if_l c) d = d
resume (else_l c) d = d
resume (fi_l c) d = d
resume (from_l c) d = d
resume (loop_l c) d = d
resume (until_l c) d = d
resume (call_l q) d = d
resume (uncall_l q) d = opp d
