-- The definitions computed: document 01's worked runs, forth and back, of files that are accepted; and the index of an array.
use Prim.Native.Nat.{ℕ, zero, suc, ◌+◌, ◌≤◌, ◌<◌}
use mathlib.Core.Bool.{Bool, true, false, cond, not, ◌&&◌}
use mathlib.Core.List.{List, [], ◌∷◌, flat_map}
use mathlib.Core.Path.{◌≡◌, refl, ap, ◌∙◌}
use native.Mathlib.Omega.{arith}
use lib.Dec.{eqb}
use lib.ListN.{length, get_or}
use lib.IntN.{pos, negsuc}
use mir.Facts.{sfits_lit}
use Rattle.values.specs.Values.{wrap, apply_op}
use Rattle.expr.specs.Tree.{con, var, read, bin, Valid, depth, encode, element, eval, any_name, known}
use Rattle.expr.proofs.Layer.{and_true}
use Rattle.records.specs.Records.{cell, Record, names, row, kind, body, Formed, encode_record, bytes_of, sum, InSize, is_begin, FineFrom}
use Rattle.order.specs.Trees.{set_s, skip_s, call_s, from_s, Block, one, ◌then◌, Tree, records_of, records_p, records_s, most_open}
use Rattle.program.specs.Says.{All, there_in, Accepts}
use Rattle.moves.specs.Edges.{edges_s, edges_p}
use Rattle.moves.specs.Places.{Place, down, find}
use Rattle.moves.specs.Stores.{at_end, bad_index, too_deep, ok, no, Store, bind, evaluated, holds, starts_from, cell_of, assigned}
use Rattle.moves.specs.Step.{after, executes, step, step_back, start}
use Rattle.moves.specs.Runs.{because, Ran, run_by, run, run_back}
use Rattle.moves.proofs.Runs.{run_longer}

-- ---- what makes a small file without arrays accepted
names_size : (v : ℕ) → v ≤ 64 → InSize 0 0 (names v [])
unfolding sum
names_size v h = record {
  records = omega arith;
  procedures = λ e. omega arith;
  cells = λ v' ls e. let ev : v ≡ v' = cc in let el : [] ≡ ls = cc in rw (← ev, ← el) (h, (omega arith, (tt, omega arith)));
}

abbrev other : Record → Bool
other r = not (eqb (kind r) 1)

in_size : (k b : ℕ) (r : Record) → k < 1024 → b < 64 → other r ≡ true → InSize k b r
unfolding kind
in_size k b r h g n = record {
  records = h;
  procedures = λ e. g;
  cells = λ v ls e. let z : not (eqb 1 1) ≡ true = rw e at n in absurd (let c : ◌≡◌ {A = ℕ} 0 1 = cc in omega arith);
}

abbrev all_of : (Record → Bool) → List Record → Bool
all_of p [] = true
all_of p (r ∷ rs) = p r && all_of p rs

every : (p : Record → Bool) (rs : List Record) → all_of p rs ≡ true → All p rs
every p [] h j l = absurd (let z : ⊥ = omega arith in z)
every p (r ∷ rs) h zero l = (and_true (p r) (all_of p rs) h).0
every p (r ∷ rs) h (suc j) l = every p rs (and_true (p r) (all_of p rs) h).1 j (omega arith)

infixr 5 ◌and◌
data Forms : List Record → Type 0 where
  done : Forms []
  ◌and◌ : {r : Record} {rs : List Record} → Formed r → Forms rs → Forms (r ∷ rs)

one_most : (b : Bool) → cond b 1 0 ≤ 1
one_most true = omega arith
one_most false = omega arith

rest_fine : (rs : List Record) (k b : ℕ) → k + length rs ≤ 1024 → b + length rs ≤ 64 → all_of other rs ≡ true → Forms rs → FineFrom k b rs
unfolding FineFrom
rest_fine [] k b h g o done = tt
rest_fine (r ∷ rs) k b h g o (f and fs) =
    let x = and_true (other r) (all_of other rs) o in
    (f, (in_size k b r (omega arith) (omega arith) x.0, rest_fine rs (suc k) (b + is_begin (kind r)) (omega arith) (omega (arith, one_most (eqb (kind r) 2))) x.1 fs))

module _ (v : ℕ) (m : Block) (bs : List Block) where
  abbrev tree : Tree
  tree = record { scalars = v; lengths = []; main = m; others = bs }

  accepts : v ≤ 64 → length (records_p (m ∷ bs)) ≤ 64 → length (bytes_of (records_of tree)) ≤ 32768 → most_open 0 (records_of tree) ≤ 16
      → all_of (there_in tree) (records_of tree) ≡ true → all_of (λ r. (row r).free) (records_of tree) ≡ true → all_of other (records_p (m ∷ bs)) ≡ true
      → Forms (records_p (m ∷ bs)) → Accepts (bytes_of (records_of tree)) tree
  unfolding records_of FineFrom Formed kind
  accepts h l s n t w o f = record {
    rows = record { short = s; bytes = refl; fine = ((omega arith, (omega arith, tt)), (names_size v h, rest_fine (records_p (m ∷ bs)) 1 0 (omega arith) (omega arith) o f)) };
    ordered = record { records = refl; nested = n };
    numbers = every (there_in tree) (records_of tree) t;
    owns = every (λ r. (row r).free) (records_of tree) w;
  }

-- "labels 0 NAMES (2, 0), 1 BEGIN, 2 SET scalar 1 `+=` 3, 3 FROM scalar 0 = 0, 4 SET scalar 0 `+=` 1, 5 LOOP, 6 SKIP, 7 UNTIL scalar 0 = scalar 1, 8 END"
abbrev counting : Tree
counting = record {
  scalars = 2;
  lengths = [];
  main = ◌then◌ (set_s 0 (cell 1) (con (pos 3)))
      (one (from_s (bin 12 (var 0) (con (pos 0))) (one (set_s 0 (cell 0) (con (pos 1)))) (one skip_s) (bin 12 (var 0) (var 1))));
  others = [];
}

-- "the 76 byte file"
counting_bytes : length (bytes_of (records_of counting)) ≡ 76
unfolding bytes_of encode_record body flat_map kind encode records_of records_p records_s
counting_bytes = refl

counting_accepted : Accepts (bytes_of (records_of counting)) counting
unfolding bytes_of encode_record body flat_map kind encode records_of records_p records_s FineFrom Formed Valid depth most_open known any_name
counting_accepted = accepts 2 counting.main [] (omega arith) (omega arith) (omega (arith, counting_bytes)) (omega arith) refl refl refl
    (tt and (omega arith, (omega arith, (sfits_lit tt, omega arith))) and ((omega arith, (omega arith, sfits_lit tt)), omega arith)
    and (omega arith, (omega arith, (sfits_lit tt, omega arith))) and tt and tt and ((omega arith, (omega arith, omega arith)), omega arith) and tt and done)

abbrev last : Place
last = record { a = 7; b = 8; d = down; frames = [] }

-- `steps 12 stop 30`, `at 7 8 down`, `cell 0 3`, `cell 1 3`, of "at most 1,000,000 steps"
counting_run : run counting 1000000 (start counting down) (pos 0 ∷ pos 0 ∷ []) ≡ record { steps = 12; place = last; store = pos 3 ∷ pos 3 ∷ []; stop = because at_end }
unfolding run_by step executes after find bind evaluated holds cell_of assigned starts_from records_of records_p records_s edges_s edges_p kind eval apply_op wrap
counting_run = run_longer (step counting) 13 1000000 (start counting down) (pos 0 ∷ pos 0 ∷ []) _ at_end (omega arith) refl refl

counting_back : run_back counting 1000000 last (pos 3 ∷ pos 3 ∷ []) ≡ record { steps = 12; place = start counting down; store = pos 0 ∷ pos 0 ∷ []; stop = because at_end }
unfolding run_by step step_back executes after find bind evaluated holds cell_of assigned starts_from records_of records_p records_s edges_s edges_p kind eval apply_op wrap
counting_back = run_longer (step_back counting) 13 1000000 last (pos 3 ∷ pos 3 ∷ []) _ at_end (omega arith) refl refl

-- "Main CALL 1, procedure 1 CALL 1: 64 steps, the next is 34; 64 back reach the start, then 30."
abbrev deep : Tree
deep = record { scalars = 0; lengths = []; main = one (call_s 1); others = one (call_s 1) ∷ [] }

deep_accepted : Accepts (bytes_of (records_of deep)) deep
unfolding bytes_of encode_record body flat_map kind records_of records_p records_s FineFrom Formed most_open
deep_accepted = accepts 0 deep.main deep.others (omega arith) (omega arith) (let n : length (bytes_of (records_of deep)) ≡ 36 = refl in omega arith) (omega arith) refl refl refl
    (tt and omega arith and tt and tt and omega arith and tt and done)

abbrev deepest : Ran
deepest = run deep 1000000 (start deep down) []

deep_first : deepest ≡ run deep 65 (start deep down) []
unfolding run_by step executes after find bind evaluated holds cell_of assigned starts_from records_of records_p records_s edges_s edges_p kind
deep_first = run_longer (step deep) 65 1000000 (start deep down) [] _ too_deep (omega arith) refl refl

deep_run : deepest.steps ≡ 64
unfolding run_by step executes after find bind evaluated holds cell_of assigned starts_from records_of records_p records_s edges_s edges_p kind
deep_run = ap (λ (r : Ran). r.steps) deep_first

deep_reason : deepest.stop ≡ because too_deep
unfolding run_by step executes after find bind evaluated holds cell_of assigned starts_from records_of records_p records_s edges_s edges_p kind
deep_reason = ap (λ (r : Ran). r.stop) deep_first

deep_back : run_back deep 1000000 deepest.place deepest.store ≡ record { steps = 64; place = start deep down; store = []; stop = because at_end }
unfolding run_by step step_back executes after find bind evaluated holds cell_of assigned starts_from records_of records_p records_s edges_s edges_p kind
deep_back =
    ap (λ (r : Ran). run_back deep 1000000 r.place r.store) deep_first
    ∙ run_longer (step_back deep) 65 1000000 (run deep 65 (start deep down) []).place (run deep 65 (start deep down) []).store _ at_end (omega arith) refl refl

-- "Index 1,023 of a length 1,024 reads; 1,024 and -1 are 33."
abbrev long : Tree
long = record { scalars = 0; lengths = 1024 ∷ []; main = one skip_s; others = [] }

index : (σ : Store)
    → (evaluated long σ (read 0 (con (pos 1023))) ≡ ok (get_or σ 1023 (pos 0)))
    × (evaluated long σ (read 0 (con (pos 1024))) ≡ no bad_index)
    × (evaluated long σ (read 0 (con (negsuc 0))) ≡ no bad_index)
unfolding evaluated eval element starts_from
index σ = (refl, refl, refl)
