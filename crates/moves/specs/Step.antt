-- Document 01, 'Labels, places, moves': a step forward, a step back, the starts.
use Rattle.std.specs.Prelude.{ℕ, Bool, true, false, not, cond, ◌&&◌, ltb, eqb}
use mathlib.Core.List.{List, [], ◌∷◌, tail}
use Rattle.std.specs.Bool.{beq}
use Rattle.expr.specs.Tree.{Expr}
use Rattle.records.specs.Records.{Record, names, begin, end, assign, if, else, fi, from, loop, until, call, uncall, skip, kind}
use Rattle.order.specs.Trees.{Tree}
use Rattle.moves.specs.Labels.{at}
use Rattle.moves.specs.Edges.{Frame, in_then, in_else, in_do, in_loop, called, frame_kind, frame_label}
use Rattle.moves.specs.Places.{Dir, going, opp, Place, turn, far, edge_that, leaves, top, head, calls, gate}
pub use Rattle.moves.specs.Places.{again}
use Rattle.moves.specs.Stores.{Answer, ok, no, at_end, wrong_value, too_deep, bind, Store, holds, assigned}

-- The frames down to the first call are exactly these.
abbrev pub inside : List Frame → List Frame → Bool
inside [] [] = true
inside [] (g ∷ G) = eqb (frame_kind g) 4
inside (f ∷ F) [] = false
inside (f ∷ F) (g ∷ G) = eqb (frame_kind f) (frame_kind g) && (eqb (frame_label f) (frame_label g) && inside F G)

-- "b follows it on the edge": the edge that leaves a in direction d, inside the constructs that the frames say.
unfoldable pub after : Tree → ℕ → Dir → List Frame → Place
after t a d fs = record { a = a; b = far (edge_that t (λ e. leaves a d e && inside e.within fs)) d; d = d; frames = fs }

abbrev pub must : {A : Type 0} → Bool → A → Answer A
must b x = cond b (ok x) (no wrong_value)

-- "A step forward executes b in direction d; afterwards a is the label just executed and b follows it on the edge."
module _ (t : Tree) (p : Place) (σ : Store) where
  -- The place afterwards, with these frames.
  abbrev pub past : List Frame → Place
  past fs = after t p.b p.d fs

  -- "IF down and FI up choose: the expression true takes s1 and pushes frame 0, false takes s2 and pushes 1."
  abbrev pub chooses : Expr → Answer (Place × Store)
  chooses e = let h = head t p.b p.d in bind (holds t σ e) (λ v. ok (past (cond v (in_then h) (in_else h) ∷ p.frames), σ))

  -- "FI down and IF up close: value and frame must agree; the frame is popped." (Frame 0 agrees with true.)
  abbrev pub closes : Expr → Answer (Place × Store)
  closes e = bind (holds t σ e) (λ v. must (beq v (eqb (frame_kind (top p.frames)) 0)) (past (tail p.frames), σ))

  -- "FROM down and UNTIL up open: coming from outside the value must be true, push 2 and enter s1; coming from s2 it must be false, frame 3 becomes 2."
  abbrev pub opens : Expr → Answer (Place × Store)
  opens e = let h = head t p.b p.d in bind (holds t σ e)
      (λ v. cond (again h p.frames) (must (not v) (past (in_do h ∷ tail p.frames), σ)) (must v (past (in_do h ∷ p.frames), σ)))

  -- "UNTIL down and FROM up test: true leaves the loop and pops; false turns 2 into 3 and enters s2."
  abbrev pub tests : Expr → Answer (Place × Store)
  tests e = bind (holds t σ e) (λ v. ok (past (cond v (tail p.frames) (in_loop (frame_label (top p.frames)) ∷ tail p.frames)), σ))

  -- "CALL enters the procedure in direction d, UNCALL in the opposite one: a becomes its BEGIN going down, its END going up. It pushes 4." 34: "a 65th call"
  abbrev pub enters : ℕ → Dir → Answer (Place × Store)
  enters q d = cond (ltb (calls p.frames) 64) (ok (after t (gate t q d) d (called p.b ∷ p.frames), σ)) (no too_deep)

  -- "END down and BEGIN up return: pop the call; direction is d for a CALL, opposite for an UNCALL; a becomes the calling label." 30: "no call left"
  abbrev pub returns : List Frame → Answer (Place × Store)
  returns [] = no at_end
  returns (f ∷ F) = ok (after t (frame_label f) (cond (eqb (kind (at t (frame_label f))) 12) (opp p.d) p.d) F, σ)

  -- What executing a record is. "SKIP only moves." No place that fits comes to a record that leaves all as it is.
  unfoldable pub executes : Record → Answer (Place × Store)
  executes (names v ls) = ok (p, σ)
  executes begin = going p.d (ok (p, σ)) (returns p.frames)
  executes end = going p.d (returns p.frames) (ok (p, σ))
  executes (assign o x e) = bind (assigned t o x e p.d σ) (λ σ'. ok (past p.frames, σ'))
  executes (if e) = going p.d (chooses e) (closes e)
  executes else = ok (p, σ)
  executes (fi e) = going p.d (closes e) (chooses e)
  executes (from e) = going p.d (opens e) (tests e)
  executes loop = ok (p, σ)
  executes (until e) = going p.d (tests e) (opens e)
  executes (call q) = enters q p.d
  executes (uncall q) = enters q (opp p.d)
  executes skip = ok (past p.frames, σ)

unfoldable pub step : Tree → Place → Store → Answer (Place × Store)
step t p σ = executes t p σ (at t p.b)

-- "A step back from (a, b, d) is a step forward from (b, a, opposite d), frames and store the same, its result turned round again."
unfoldable pub step_back : Tree → Place → Store → Answer (Place × Store)
step_back t p σ = bind (step t (turn p) σ) (λ s. ok (turn s.0, s.1))

-- "Starts: (BEGIN, first entry) of main down, and (END, last exit) of main up, no frames."
abbrev pub start : Tree → Dir → Place
start t d = after t (gate t 0 d) d []
