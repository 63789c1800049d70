-- The start that is computed from the table is the document's.
use Prim.Native.Nat.{ℕ}
use mathlib.Core.Path.{◌≡◌, refl, sym, ap, ◌∙◌}
use mathlib.Core.Bool.{Bool, true, false}
use mathlib.Core.List.{List, [], ◌++◌, map}
use lib.ListN.{length}
use native.Mathlib.Omega.{arith}
use Rattle.std.specs.Prelude.{Ok}
use Rattle.place.specs.declared.Place.{Place as Held}
use Rattle.place.specs.Places.{Dir, opp, Frame, frame_kind, frame_label}
use Rattle.place.specs.Slots.{dir_number, slots, held}
use Rattle.place.specs.Methods.{blank_of, moved_of}
use Rattle.place.proofs.Laws.{blank_held}
use Rattle.order.specs.Trees.{Tree}
use Rattle.program.specs.Says.{given, Accepts, Says}
use Rattle.program.specs.declared.Counts.{Counts}
use Rattle.program.proofs.CheckSays.{accepted_tree}
use Rattle.moves.specs.Step.{start}
use Rattle.moves.proofs.Linked.{Prog, side, gate_l}
use Rattle.moves.proofs.Cuts.{gap, leave, in_main}
use Rattle.moves.proofs.Loop.{met_gap, gate_pos, fit_gate}
use Rattle.moves.proofs.Rows.{prog}
use Rattle.moves.proofs.Gaps.{tip}
use Rattle.moves.proofs.View.{stack, view, enter_is}
use Rattle.moves.proofs.Accepted.{accepted_wf}
use Rattle.table.specs.Table.{table_of}
use Rattle.table.proofs.Tabled.{tabled}
use Rattle.ways.specs.Looks.{gate_of, along_of}
use Rattle.machine.specs.Whole.{number_in, start_of}
use Rattle.machine.specs.Answers.{direction, StartSays, started}
use Rattle.machine.proofs.Labels.{along_is}
use Rattle.machine.proofs.Calls.{gate_is, gate_side, gate_encl}

module _ (f : List ℕ) (t : Tree) (A : Accepts f t) (d : Dir) where
  abbrev P : Prog
  P = prog t

  start_held : moved_of blank_of (dir_number d) (gate_of (table_of f) 0 (dir_number d)) (along_of (table_of f) (dir_number d) (gate_of (table_of f) 0 (dir_number d))) ≡ held (start t d)
  start_held =
      let w = accepted_wf A in let T = tabled f t A in
      let k = w.main_ok in
      let y = gate_l P 0 d in
      let F = fit_gate t P 0 k [] in_main (omega arith) d in
      let e = gate_is A T 0 d (omega arith) in
      let a : gate_of (table_of f) 0 (dir_number d) ≡ tip P (gap y d) (opp d) = e ∙ (sym (gate_side A T 0 d k) ∙ ap (λ x. side (P.at x) x (opp d)) (sym (met_gap y d (gate_pos t P 0 k d)))) in
      let b : along_of (table_of f) (dir_number d) (gate_of (table_of f) 0 (dir_number d)) ≡ tip P (gap y d) d = ap (along_of (table_of f) (dir_number d)) e ∙ along_is A T y d [] F (gate_pos t P 0 k d) in
      let n : [] ≡ P.encl (gap y d) ++ stack P [] = ap (λ (H : List Frame). H ++ []) (sym (gate_encl A T 0 d k)) in
      let z : moved_of blank_of (dir_number d) (gate_of (table_of f) 0 (dir_number d)) (along_of (table_of f) (dir_number d) (gate_of (table_of f) 0 (dir_number d))) ≡ held (view P (leave y d [])) =
      λ i. record {
        direction = dir_number d;
        a = a i;
        b = b i;
        count = length (n i);
        kinds = (ap (λ (h : Held). h.kinds) blank_held ∙ (λ j. slots (map frame_kind (n j)))) i;
        labels = (ap (λ (h : Held). h.labels) blank_held ∙ (λ j. slots (map frame_label (n j)))) i;
      } in
      z ∙ ap held (sym (enter_is t w 0 d k [] F))

number_is : (up : Bool) → number_in up ≡ dir_number (direction up)
number_is true = refl
number_is false = refl

pub started_says : (f : List ℕ) (up : Bool) (c : Counts) → Says f (given (Ok c)) → (q : Held) → q ≡ start_of f up → StartSays f (direction up) (Ok q)
started_says f up c s q h =
    let T = (accepted_tree f c.records c.procedures c.cells).0 s in
    started T.accepts
    (ap Ok (h ∙ (ap (λ n. moved_of blank_of n (gate_of (table_of f) 0 n) (along_of (table_of f) n (gate_of (table_of f) 0 n))) (number_is up) ∙ start_held f T.tree T.accepts (direction up))))
