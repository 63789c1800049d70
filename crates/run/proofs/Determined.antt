-- What `run` prints is determined: two reports of one file into one buffer are equal.
use Prim.Native.Nat.{ℕ}
use mathlib.Core.Path.{◌≡◌, sym, ap, ap₂}
use mathlib.Core.List.{List}
use Rattle.codes.specs.Codes.{AllBytes}
use Rattle.order.specs.Trees.{Tree, cells}
use Rattle.program.proofs.CheckSays as says
use Rattle.moves.specs.Places.{down}
use Rattle.moves.specs.Step.{start}
use Rattle.moves.specs.Runs.{run as running}
use Rattle.machine.proofs.OneAnswer.{not_both, faults_one}
use Rattle.print.specs.Zeros.{noughts}
use Rattle.print.specs.Lines.{refused_line}
use Rattle.print.proofs.Rows.{text_one}
use Rattle.run.specs.Report.{ran_lines, Prints, refused, ran, Reports}

module _ (f : List ℕ) (B : AllBytes f) where
  prints_one : {l m : List (List ℕ)} → Prints f l → Prints f m → l ≡ m
  prints_one (refused s) (refused s') = let z = faults_one B s s' in ap₂ refused_line z.0 z.1
  prints_one (refused s) (ran A) = absurd (not_both B A s)
  prints_one (ran A) (refused s) = absurd (not_both B A s)
  prints_one (ran {t} A) (ran {t = t'} A') = ap (λ (t : Tree). ran_lines (running t 1000000 (start t down) (noughts (cells t)))) (says.accepts_unique f B t t' A A')

  pub report_determined : (b c c' : List ℕ) (r r' : ℕ) → Reports f b c r → Reports f b c' r' → (r ≡ r') × (c ≡ c')
  report_determined b c c' r r' h k =
      let e = prints_one h.prints k.prints in
      text_one h.text (rw (sym e) at k.text)
