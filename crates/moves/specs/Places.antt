-- Document 01, 'Labels, places, moves': what is found among the edges, and which places fit a program.
use Rattle.std.specs.Prelude.{ℕ, suc, ◌≤◌, ◌⊎◌, ◌≡◌, Bool, cond, ◌&&◌, get_or, eqb}
use mathlib.Core.List.{List, [], ◌∷◌, ◌++◌, Memᴰ}
pub use Rattle.place.specs.Places.{Dir, down, up, going, opp, Place, turn}
use Rattle.records.specs.Records.{call, uncall, kind}
use Rattle.order.specs.Trees.{Tree}
use Rattle.moves.specs.Labels.{at}
use Rattle.moves.specs.Edges.{Frame, called, frame_kind, frame_label, Edge, edge, edges}

-- Where an edge comes from and where it goes to, in a direction: "Upward edges are these reversed."
abbrev pub near : Edge → Dir → ℕ
near e d = going d e.a e.b

abbrev pub far : Edge → Dir → ℕ
far e d = near e (opp d)

-- A step is computed, so the edge that it goes by is looked for among all of them. That one is there, and that any other would do the
-- same, is proved: a step arrives at a place that fits, and what follows a is told by a, d and the frames. (Were there none: 0 to 0.)
unfoldable pub find : (Edge → Bool) → List Edge → Edge
find f [] = edge 0 [] 0 0
find f (e ∷ es) = cond (f e) e (find f es)

abbrev pub edge_that : Tree → (Edge → Bool) → Edge
edge_that t f = find f (edges t)

-- The edge leaves x in direction d.
abbrev pub leaves : ℕ → Dir → Edge → Bool
leaves x d e = eqb (near e d) x

-- The innermost frame; where there is none, as if it were a call.
abbrev pub top : List Frame → Frame
top fs = get_or fs 0 (called 0)

-- The label of the IF or FROM whose construct is entered by leaving x in direction d: every edge that leaves x then has it innermost.
abbrev pub head : Tree → ℕ → Dir → ℕ
head t x d = frame_label (top (edge_that t (leaves x d)).within)

-- One comes to the loop h from its s2.
abbrev pub again : ℕ → List Frame → Bool
again h fs = eqb (frame_kind (top fs)) 3 && eqb (frame_label (top fs)) h

-- "its BEGIN going down, its END going up": where the edge of procedure q comes from that leaves a record of kind 2, or 3.
abbrev pub gate : Tree → ℕ → Dir → ℕ
gate t q d = near (edge_that t (λ e. eqb e.proc q && eqb (kind (at t (near e d))) (going d 2 3))) d

-- How many of the frames are calls.
abbrev pub calls : List Frame → ℕ
calls [] = 0
calls (f ∷ F) = cond (eqb (frame_kind f) 4) (suc (calls F)) (calls F)

-- The frames outside procedure q: none "in main"; else the call of the record that q was entered by, an edge that comes down to it
-- lying in the constructs that enclose it, and "likewise below each call those that enclose the calling record"; that record lies
-- "in the procedure that the next call outward names, or in main where there is none".
pub data Outer (t : Tree) : ℕ → List Frame → Type 0 where
  in_main : Outer t 0 []
  entered : {q : ℕ} {e : Edge} {F : List Frame} → Memᴰ e (edges t) → (at t e.b ≡ call q) ⊎ (at t e.b ≡ uncall q)
      → Outer t e.proc F → Outer t q (called e.b ∷ (e.within ++ F))

-- "A place fits when"
pub record Fits (t : Tree) (p : Place) : Type 0 where
  pub edge : Edge
  pub outside : List Frame
  -- "(a, b) is an edge of d"
  pub on : Memᴰ edge (edges t)
  pub from : near edge p.d ≡ p.a
  pub to : far edge p.d ≡ p.b
  -- "the frames down to the first call are exactly the constructs that enclose the edge (..), likewise below each call those that enclose the calling record"
  pub framed : p.frames ≡ edge.within ++ outside
  pub outer : Outer t edge.proc outside
  -- "and at most 64 frames are calls"
  pub few : calls p.frames ≤ 64
