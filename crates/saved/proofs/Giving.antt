-- What a refused reading gives: a number that is not 0. Assumes nothing.
use Prim.Native.Nat.{ℕ, ◌<◌}
use mathlib.Core.List.{List}
use native.Mathlib.Omega.{arith}
use Rattle.program.proofs.CheckSays.{fault_some}
use Rattle.moves.specs.Stores.{Store}
use Rattle.saved.specs.Answers.{ReadBefore, program, malformed, size, place}

pub read_some : {f s : List ℕ} {σ : Store} {n k : ℕ} → ReadBefore f s σ n k → 0 < n
read_some {f} (program x) = fault_some f x
read_some (malformed A h) = omega arith
read_some (size A r h) = omega arith
read_some (place A r e e' h) = omega arith
