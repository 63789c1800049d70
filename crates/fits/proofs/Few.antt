-- A fitting place has at most 1,104 frames: 64 calls, and at most 16 constructs open in each of 65 segments.
use Prim.Native.Nat.{ℕ, suc, ◌+◌, ◌*◌, ◌≤◌}
use mathlib.Core.Path.{ap}
use mathlib.Core.List.{List, [], ◌∷◌}
use lib.ListN.{length, length-append}
use native.Mathlib.Omega.{arith}
use Rattle.order.specs.Trees.{Stmt, set_s, skip_s, call_s, uncall_s, if_s, from_s, Block, one, ◌then◌, Tree, procedures}
use Rattle.order.proofs.OrderOpen.{open_s, open_b, open_p, nested_open}
use Rattle.program.specs.Says.{Accepts}
use Rattle.moves.specs.Edges.{Frame}
use Rattle.moves.specs.Places.{Place, Fits}
use Rattle.moves.proofs.Cuts.{Cut, Sits}
use Rattle.moves.proofs.Rows.{Row, Each, each_append, each_around, each_get_d, rows_s, rows_b, rows_p, rows_of, prog}
use Rattle.moves.proofs.View.{stack, view}
use Rattle.moves.proofs.Match.{fits_placed}
use Rattle.moves.proofs.Accepted.{accepted_wf}

-- At most 16 constructs are open after this record.
abbrev Shallow : Row → Type 0
Shallow ρ = length ρ.after ≤ 16

mutual
  unfolding rows_s open_s

  shallow_s : (s : Stmt) (F : List Frame) (n : ℕ) → length F + open_s s ≤ 16 → Each Shallow (rows_s s F n)
  shallow_s (set_s o t ε) F n h = (omega arith, tt)
  shallow_s skip_s F n h = (omega arith, tt)
  shallow_s (call_s q) F n h = (omega arith, tt)
  shallow_s (uncall_s q) F n h = (omega arith, tt)
  shallow_s (if_s e s t e') F n h = each_around Shallow _ _ _ _ _ (omega arith) (shallow_b s _ _ (omega arith)) (omega arith) (shallow_b t _ _ (omega arith)) (omega arith)
  shallow_s (from_s e s t e') F n h = each_around Shallow _ _ _ _ _ (omega arith) (shallow_b s _ _ (omega arith)) (omega arith) (shallow_b t _ _ (omega arith)) (omega arith)

  shallow_b : (b : Block) (F : List Frame) (n : ℕ) → length F + open_b b ≤ 16 → Each Shallow (rows_b b F n)
  shallow_b (one s) F n h = shallow_s s F n h
  shallow_b (◌then◌ s b) F n h = each_append Shallow (rows_s s F n) _ (shallow_s s F n (omega arith)) (shallow_b b F _ (omega arith))

shallow_p : (bs : List Block) (q n : ℕ) → open_p bs ≤ 16 → Each Shallow (rows_p bs q n)
unfolding rows_p open_p
shallow_p [] q n h = tt
shallow_p (b ∷ bs) q n h = (omega arith, each_append Shallow (rows_b b [] (suc n)) _ (shallow_b b [] (suc n) (omega arith)) (omega arith, shallow_p bs _ _ (omega arith)))

module _ {f : List ℕ} {t : Tree} (A : Accepts f t) where
  pub encl_room : (x : ℕ) → length ((prog t).encl x) ≤ 16
  unfolding prog rows_of
  encl_room x = each_get_d Shallow (rows_of t) x (omega arith) (omega arith, shallow_p (procedures t) 0 1 (nested_open A.ordered))

  pub stack_room : (cs : List ℕ) → length (stack (prog t) cs) ≤ 17 * length cs
  stack_room [] = omega arith
  stack_room (c ∷ cs) = omega (arith, length-append ((prog t).encl c) (stack (prog t) cs), encl_room c, stack_room cs)

  pub room : (s : Cut) → Sits (prog t) s → length (view (prog t) s).frames ≤ 1104
  room s F = omega (arith, length-append ((prog t).encl s.g) (stack (prog t) s.cs), encl_room s.g, stack_room s.cs, F.few)

  pub frames_few : (p : Place) → Fits t p → length p.frames ≤ 1104
  frames_few p y =
      let k = fits_placed t (accepted_wf A) p y in
      let e = ap (λ (x : Place). length x.frames) k.is in
      omega (arith, room k.cut k.sits)
