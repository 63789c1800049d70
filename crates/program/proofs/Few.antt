-- An accepted file has few cells: "cells (V plus all lengths) at most 2,048".
--     cells_few       of the tree
--     counts_few      of the check's answer
--     accepted_counts the counts that an answer gives
use Prim.Native.Nat.{ℕ, ◌≤◌}
use mathlib.Core.Path.{◌≡◌, refl, subst}
use mathlib.Core.List.{List}
use native.Mathlib.Omega.{arith}
use Rattle.order.specs.Trees.{Tree, cells}
use Rattle.program.specs.Says.{given, counts, Accepts, Says}
use Rattle.std.specs.Prelude.{Result, Ok}
use Rattle.refusals.specs.declared.Refusal.{Refusal}
use Rattle.program.specs.declared.Counts.{Counts}
use Rattle.program.proofs.Declared.{declares}
use Rattle.program.proofs.CheckSays.{accepted_of}

pub cells_few : {f : List ℕ} {t : Tree} → Accepts f t → cells t ≤ 2048
cells_few {f} {t} A = ((declares f _ A.rows t A.ordered).sized.cells _ _ refl).1.1.1

pub counts_few : (f : List ℕ) (a : Result Counts Refusal) → Says f (given a) → (c : Counts) → a ≡ Ok c → c.cells ≤ 2048
counts_few f a s c e = let T = accepted_of f a c s e in omega (arith, T.cells_are', cells_few T.accepts)

pub accepted_counts : (f : List ℕ) (a : Result Counts Refusal) → Says f (given a) → (c : Counts) → a ≡ Ok c → Says f (counts c.records c.procedures c.cells)
accepted_counts f a s c e = subst (λ a. Says f (given a)) e s
