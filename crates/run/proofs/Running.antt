-- An accepted file's run, as the machine answers it, is reported in the document's lines.
--     few       so many cells have room
--     reports   the machine's answers, printed, are what `run` prints
use Prim.Native.Nat.{ℕ, ◌+◌, ◌*◌, ◌≤◌}
use mathlib.Core.Path.{◌≡◌, refl, sym, ap, ◌∙◌, subst}
use mathlib.Core.List.{List, ◌++◌}
use native.Mathlib.Omega.{arith}
use lib.IntN.{pos}
use lib.ListN.{length}
use Rattle.std.specs.Prelude.{Result, Ok, Err, IsOk}
use Rattle.refusals.specs.Numbers.{number_of}
use Rattle.refusals.specs.declared.Refusal.{Refusal}
use Rattle.codes.specs.Codes.{AllBytes}
use Rattle.place.specs.declared.Place.{Place as Held}
use Rattle.place.specs.Held.{held}
use Rattle.order.specs.Trees.{Tree, cells}
use Rattle.program.specs.Says.{given, Accepts, Says}
use Rattle.program.specs.declared.Counts.{Counts}
use Rattle.program.proofs.CheckSays.{TreeOf, accepted_tree, refused_of_lem}
use Rattle.program.proofs.Few.{cells_few}
use Rattle.moves.specs.Places.{down}
use Rattle.moves.specs.Stores.{Store}
use Rattle.moves.specs.Step.{start}
use Rattle.moves.specs.Runs.{run as running, stop_number}
use Rattle.moves.specs.Runs as runs
use Rattle.moves.proofs.Theorems.{start_fits}
use Rattle.machine.specs.Answers.{Gives, done, numbered, RunSays, ran, StartSays, started}
use Rattle.machine.specs.Walk.{told_by}
use Rattle.machine.proofs.Giving.{Told, by_gives}
use Rattle.machine.proofs.OneAnswer.{run_one, start_one}
use Rattle.words.proofs.Zeros.{length_copies}
use Rattle.print.specs.Told.{reason_of}
use Rattle.print.specs.Zeros.{noughts}
use Rattle.print.specs.Lines.{refused_line, steps_line, at_line, cell_lines}
use Rattle.print.proofs.Rows.{Row, whole, within, size, size_append, refused_size, steps_size, at_size, cells_size}
use Rattle.run.specs.Report.{report_lines, ran_lines, Prints, Reports, Counted}
use Rattle.run.specs.Report as report

-- what is printed of a run's answer
abbrev said : ℕ → ℕ → Held → Store → List (List ℕ)
said reason steps q σ = report_lines steps reason q.a q.b q.direction σ

-- how long that is
said_size : (reason steps : ℕ) (q : Held) (σ : Store) → size (said reason steps q σ) ≤ 103 + 48 * length σ
unfolding report_lines
said_size reason steps q σ =
    let a = at_line q.a q.b q.direction in
    omega (
      arith,
      size_append (steps_line steps reason) (a ++ cell_lines 0 σ),
      size_append a (cell_lines 0 σ),
      steps_size steps reason,
      at_size q.a q.b q.direction,
      cells_size 0 σ,
    )

on_zeros : {f : List ℕ} {t : Tree} {n : ℕ} → Accepts f t → n ≡ cells t → Prints f (ran_lines (running t 1000000 (start t down) (noughts n)))
on_zeros A e = rw e (report.ran A)

-- the number of what is told
pub reason_is : {told : Told} {n k : ℕ} → Gives told n k → reason_of told ≡ n
reason_is done = refl
reason_is numbered = refl

module _ (f : List ℕ) (B : AllBytes f) (n : ℕ) (C : Counted f n) where
  pub tree : TreeOf f C.0 C.1 n
  tree = (accepted_tree f C.0 C.1 n).0 C.2

  pub few : n ≤ 2048
  few = omega (arith, tree.cells_are', cells_few tree.accepts)

  -- so there is a start
  begun : {r : Result Held Refusal} → StartSays f down r → r ≡ Ok (held (start tree.tree down))
  begun s = start_one B s (started tree.accepts refl)

  pub began : {r : Result Held Refusal} {q : Held} → StartSays f down r → r ≡ Ok q → q ≡ held (start tree.tree down)
  began {q = q} s e = let z : ◌≡◌ {A = Result Held Refusal} (Ok q) (Ok (held (start tree.tree down))) = sym e ∙ begun s in cc

  pub begins : (r : Result Held Refusal) → StartSays f down r → IsOk r
  begins r s = rw (begun s)

  -- the lines of the machine's answer are those of the run, and they fit a buffer of so many bytes
  pub reports :
      (b c : List ℕ) (r : ℕ) (σ₀ : Store) (q : Held) (told : Told) (steps : ℕ) (q' : Held) (σ' : Store) → length b ≡ 151346 → length σ' ≡ length σ₀ → σ₀ ≡ noughts n → q ≡ held (start tree.tree down)
      → RunSays running f q σ₀ 1000000 told steps q' σ' → Row b 0 (said (reason_of told) steps q' σ') c r → Reports f b c r
  reports b c r σ₀ q told steps q' σ' room same e₀ e u row =
      let t = tree.tree in
      let A = tree.accepts in
      let σ = noughts n in
      let x = running t 1000000 (start t down) σ in
      let y : RunSays running f q σ 1000000 (told_by (stop_number x.stop)) x.steps (held x.place) x.store =
      ran (record { accepts = A; sized = length_copies n _ ∙ tree.cells_are'; holds = e; fits = start_fits A down }) (by_gives x.stop) refl refl refl in
      let z = run_one B running 1000000 (rw e₀ at u) y in
      let g : Gives told (stop_number x.stop) 0 = subst (λ (a : Told). Gives a (stop_number x.stop) 0) (sym z.0) (by_gives x.stop) in
      let l : said (reason_of told) steps q' σ' ≡ ran_lines x = rw (reason_is g, z.1, z.2, z.3) in
      record {
        lines = ran_lines x;
        prints = on_zeros A tree.cells_are';
        text = rw l at (whole b c r (said (reason_of told) steps q' σ') (omega (arith, room, said_size (reason_of told) steps q' σ', same, ap length e₀, length_copies n (pos 0), few)) row);
      }

-- A refused file's line.
pub refusal :
    (f : List ℕ) (a : Result Counts Refusal) → Says f (given a) → (b c : List ℕ) (r : ℕ) (e : Refusal) → length b ≡ 151346 → a ≡ Err e → Row b 0 (refused_line (number_of e.reason) e.label) c r → Reports f b c r
refusal f a s b c r e room i h =
    record {
      lines = refused_line (number_of e.reason) e.label;
      prints = report.refused (refused_of_lem f a e s i);
      text = whole b c r (refused_line (number_of e.reason) e.label) (omega (arith, room, refused_size (number_of e.reason) e.label)) h;
    }

-- What is reported lies within the buffer.
pub reported : {f b c : List ℕ} {r : ℕ} → Reports f b c r → r ≤ length c
reported h = within h.text
