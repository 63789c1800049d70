-- A run on the copies of an accepted file and of its store, with zeros behind both, is the document's run.
use Prim.Native.Nat.{ℕ, ◌+◌, ◌-◌, ◌≤◌}
use mathlib.Core.Path.{◌≡◌, refl, sym, ap, ◌∙◌}
use mathlib.Core.List.{List, [], ◌∷◌, ◌++◌}
use lib.ListN.{length, get_or, drop, replicate, length-drop, length-replicate}
use lib.IntN.{pos}
use lib.Seq.{take_all, length-sets}
use native.Mathlib.Omega.{arith}
use Rattle.place.specs.Places.{Place}
use Rattle.place.specs.Slots.{held}
use Rattle.order.specs.Trees.{Tree, cells, records_of}
use Rattle.program.specs.Says.{Accepts}
use Rattle.program.specs.Arrays.{arrays_at}
use Rattle.program.proofs.ArrayTree.{starting, arrays_start, arrays_length}
use Rattle.program.proofs.Few.{cells_few}
use Rattle.moves.specs.Places.{calls, Fits}
use Rattle.moves.specs.Stores.{Store, starts_from}
use Rattle.moves.specs.Runs.{Ran, stop_number, run}
use Rattle.moves.proofs.Behind.{zeros_are, run_behind}
use Rattle.table.specs.Table.{table_of}
use Rattle.table.proofs.Tabled.{tabled}
use Rattle.decide.specs.Ways.{rule_in}
use Rattle.ways.specs.Map.{Maps}
use Rattle.machine.specs.Walk.{stand_of, gone, go_of}
use Rattle.machine.specs.Copies.{filled}
use Rattle.machine.specs.Whole.{given_back}
use Rattle.machine.proofs.CopyCases.{filled_short, length_filled, over_same}
use Rattle.machine.proofs.Labels.{read_at}
use Rattle.machine.proofs.Sets.{Agrees}
use Rattle.machine.proofs.Steps.{walked}

-- ---- the tables of an accepted file
starting_is : (n : ℕ) (ls : List ℕ) → starting n ls ≡ starts_from n ls
unfolding starting starts_from
starting_is n [] = refl
starting_is n (l ∷ ls) = ap (λ x. n ∷ x) (starting_is (n + l) ls)

arrays_long : (f : List ℕ) → length (arrays_at f) ≡ 32
unfolding arrays_at
arrays_long f = simp (length-sets, length-replicate)

-- ---- the copies
module _ {f : List ℕ} {t : Tree} (A : Accepts f t) {m : List ℕ} (L : Maps (filled 32784 f 0) (table_of f) (length (records_of t)) m) where
  agrees : Agrees t f (filled 32784 f 0) (arrays_at f)
  agrees = record {
    starts = λ a. arrays_start f t A a ∙ ap (λ (l : List ℕ). get_or l a 0) (starting_is t.scalars t.lengths);
    lengths = λ a. ap (λ (l : List ℕ). get_or l a 0) (take_all 16 (drop 16 (arrays_at f)) (omega (arith, length-drop 16 (arrays_at f), arrays_long f))) ∙ arrays_length f t A a;
    reads = read_at A (replicate (32784 - length f) 0) (filled 32784 f 0) (filled_short 32784 f 0 (omega (arith, A.rows.short))) (omega (arith, length_filled 32784 f 0));
  }

  -- the run on the copies, its cells given back, is the run
  pub walked_copied : (p : Place) → Fits t p → (σ : Store) → length σ ≡ cells t → (n : ℕ)
      → given_back σ (go_of (rule_in (filled 32784 f 0) m (arrays_at f)) n (stand_of (held p)) (calls p.frames) (filled 2048 σ (pos 0)) 0)
      ≡ gone (stop_number (run t n p σ).stop) (run t n p σ).steps (held (run t n p σ).place) (run t n p σ).store
  walked_copied p fit σ sized n =
      let zs = replicate (2048 - length σ) (pos 0) in
      let r = run t n p σ in
      let h : length σ ≤ 2048 = omega (arith, cells_few A) in
      let b = run_behind t zs (zeros_are (2048 - length σ)) A n p σ sized in
      let z : 0 + r.steps ≡ r.steps = omega arith in
      ap (given_back σ)
      (ap (λ (τ : Store). go_of (rule_in (filled 32784 f 0) m (arrays_at f)) n (stand_of (held p)) (calls p.frames) τ 0) (filled_short 2048 σ (pos 0) h)
      ∙ (walked A (tabled f t A) agrees L n p fit (σ ++ zs) 0 ∙ ap (λ (x : Ran). gone (stop_number x.stop) (0 + x.steps) (held x.place) x.store) b.0))
      ∙ (λ i. gone (stop_number r.stop) (z i) (held r.place) (over_same r.store zs σ (b.1 ∙ sym sized) i))
