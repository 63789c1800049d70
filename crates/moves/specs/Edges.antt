-- Document 01, 'Labels, places, moves': the edges, each with its procedure and the constructs that enclose it.
use Rattle.std.specs.Prelude.{ℕ, suc, ◌+◌, List, [], ◌∷◌, ◌++◌, length}
use Rattle.order.specs.Trees.{Stmt, set_s, skip_s, call_s, uncall_s, if_s, from_s, Block, one, ◌then◌, Tree, procedures, records_s, records_b}
pub use Rattle.place.specs.Places.{Frame, in_then, in_else, in_do, in_loop, called, frame_kind, frame_label}
use Rattle.moves.specs.Labels.{exit}

-- A downward edge from a to b, in the procedure `proc`, inside the constructs `within`, innermost first.
pub record Edge : Type 0 where
  pub proc : ℕ
  pub within : List Frame
  pub a : ℕ
  pub b : ℕ

abbrev pub edge : ℕ → List Frame → ℕ → ℕ → Edge
edge q F a b = record { proc = q; within = F; a = a; b = b }

unfoldable mutual
  -- The edges inside a statement of procedure q whose entry is n, which the constructs F enclose; m is its ELSE or LOOP, z its FI or UNTIL.
  pub edges_s : Stmt → ℕ → List Frame → ℕ → List Edge
  edges_s (set_s o t e) q F n = []
  edges_s skip_s q F n = []
  edges_s (call_s p) q F n = []
  edges_s (uncall_s p) q F n = []
  -- "IF to the entry of either branch and their exits to FI"
  edges_s (if_s e s t e') q F n = let m = suc n + length (records_b s) in let z = suc m + length (records_b t) in
      edges_b s q (in_then n ∷ F) n (suc n) z ++ edges_b t q (in_else n ∷ F) n (suc m) z
  -- "FROM to the entry of s1, its exit to UNTIL, UNTIL to the entry of s2, its exit to FROM"
  edges_s (from_s e s t e') q F n = let m = suc n + length (records_b s) in let z = suc m + length (records_b t) in
      edges_b s q (in_do n ∷ F) n (suc n) z ++ edges_b t q (in_loop n ∷ F) z (suc m) n

  -- A row of statements from label n on: from the label a to the first entry; "each exit to the next entry"; the last exit to the label z.
  pub edges_b : Block → ℕ → List Frame → (a n z : ℕ) → List Edge
  edges_b (one s) q F a n z = edge q F a n ∷ (edges_s s q F n ++ (edge q F (exit s n) z ∷ []))
  edges_b (◌then◌ s b) q F a n z = edge q F a n ∷ (edges_s s q F n ++ edges_b b q F (exit s n) (n + length (records_s s)) z)

-- "BEGIN to the first entry; .. the last exit to END", of each procedure.
unfoldable pub edges_p : List Block → (q n : ℕ) → List Edge
edges_p [] q n = []
edges_p (b ∷ bs) q n = let z = suc n + length (records_b b) in edges_b b q [] n (suc n) z ++ edges_p bs (suc q) (suc z)

abbrev pub edges : Tree → List Edge
edges t = edges_p (procedures t) 0 1
