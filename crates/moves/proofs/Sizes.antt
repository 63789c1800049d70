-- How many records a statement has, computed (`size_is` in Links: as many as are listed).
use Prim.Native.Nat.{ℕ, suc, ◌+◌}
use Rattle.order.specs.Trees.{Stmt, set_s, skip_s, call_s, uncall_s, if_s, from_s, Block, one, ◌then◌}

unfoldable mutual
  pub size_s : Stmt → ℕ
  size_s (set_s o t e) = 1
  size_s skip_s = 1
  size_s (call_s q) = 1
  size_s (uncall_s q) = 1
  size_s (if_s e s t e') = suc (size_b s + suc (size_b t + 1))
  size_s (from_s e s t e') = suc (size_b s + suc (size_b t + 1))

  pub size_b : Block → ℕ
  size_b (one s) = size_s s
  size_b (◌then◌ s b) = size_s s + size_b b
