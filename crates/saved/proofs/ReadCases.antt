-- What each `return` of a reading answers is what Answers says, in the order of the questions. Assumes nothing.
use Prim.Native.Nat.{ℕ}
use mathlib.Core.Path.{◌≡◌, refl, sym, ap, ◌∙◌, subst}
use mathlib.Core.Bool.{Bool, true, false, not}
use mathlib.Core.List.{List}
use lib.Dec.{eqb}
use lib.IntN.{ℤ}
use lib.ListN.{length}
use borrow.Author.Tests.{eq-eqb, eqb-true}
use Rattle.std.specs.Option.{option_eq}
use Rattle.std.proofs.Common.{Option, Some, None, Ok, Err}
use Rattle.refusals.specs.declared.Reason.{Reason}
use Rattle.refusals.specs.declared.Reason.TheVariants.{WrongSize, Unfit, NoSession}
use Rattle.refusals.specs.declared.Refusal.{Refusal}
use Rattle.refusals.specs.Numbers.{number_of}
use Rattle.codes.specs.Codes.{AllBytes}
use Rattle.place.specs.declared.Place.{Place as Held}
use Rattle.place.specs.Places.{Place}
use Rattle.place.specs.Slots.{held, Decides}
use Rattle.place.proofs.Held.{held_injective}
use Rattle.order.specs.Trees.{cells}
use Rattle.program.specs.declared.Counts.{Counts}
use Rattle.program.specs.Says.{given, Says}
use Rattle.program.proofs.CheckSays.{TreeOf}
use Rattle.moves.specs.Places.{Fits}
use Rattle.moves.specs.Stores.{Store}
use Rattle.table.specs.Table.{table_of}
use Rattle.fits.specs.Fits.{fits_in}
use Rattle.session.specs.Session.{Reads}
use Rattle.session.specs.Reader.{Reading, malformed, found, reading}
use Rattle.session.specs.Answers.{place_of, count_of, filled}
use Rattle.session.proofs.Reading.{reading_sound, malformed_reads}
use Rattle.saved.specs.Answers as answers
use Rattle.saved.specs.Answers.{ReadBefore, ReadSays}
use Rattle.saved.proofs.Counts.{tree_of, fits_asked}

-- what a file that is no 22 holds
record Holds (s : List ℕ) (q : Held) : Type 0 where
  p : Place
  zs : List ℤ
  is : reading s ≡ found p zs
  holds : q ≡ held p

holding : (s : List ℕ) (q : Held) (r : Reading) → reading s ≡ r → Some q ≡ place_of r → Holds s q
holding s q (found p zs) k e = record { p = p; zs = zs; is = k; holds = cc }
holding s q malformed k e = absurd cc

no_file : (r : Reading) → None ≡ place_of r → r ≡ malformed
no_file malformed e = refl
no_file (found p zs) e = absurd cc

-- what a test of the number of cells says
pub same_count : (x : Option ℕ) (n : ℕ) → false ≡ not (option_eq eqb x (Some n)) → x ≡ Some n
same_count (Some m) n e = ap Some (eqb-true m n (go (eqb m n) e))
  where
    go : (b : Bool) → false ≡ not b → b ≡ true
    go true e = refl
    go false e = absurd cc
same_count None n e = absurd cc

pub other_count : (x : Option ℕ) (n : ℕ) → true ≡ not (option_eq eqb x (Some n)) → x ≡ Some n → ⊥
other_count x n e h = let z : true ≡ not (eqb n n) = e ∙ ap (λ (x : Option ℕ). not (option_eq eqb x (Some n))) h in let y : eqb n n ≡ true = eq-eqb n n refl in absurd cc

module _ (f s : List ℕ) (σ : Store) (c : Counts) (K : Says f (given (Ok c))) (C : AllBytes s) where
  abbrev T : TreeOf f c.records c.procedures c.cells
  T = tree_of f c K

  refuse : (x : Reason) (r : Refusal) → r ≡ record { reason = x; label = 0 } → ReadBefore f s σ (number_of x) 0 → ReadSays f s σ (Err r) σ
  refuse x r e b = (subst (λ (r : Refusal). ReadBefore f s σ (number_of r.reason) r.label) (sym e) b, refl)

  pub read_22 : None ≡ place_of (reading s) → (r : Refusal) → r ≡ record { reason = NoSession; label = 0 } → ReadSays f s σ (Err r) σ
  read_22 h r e = refuse NoSession r e (answers.malformed T.accepts (λ p zs. malformed_reads s p zs (no_file (reading s) h)))

  module _ (q : Held) (h : Some q ≡ place_of (reading s)) where
    S : Holds s q
    S = holding s q (reading s) refl h

    reads : Reads s S.p S.zs
    reads = reading_sound s C S.p S.zs S.is

    pub read_20 : ((count_of (reading s) ≡ Some c.cells) × (length σ ≡ c.cells) → ⊥) → (r : Refusal) → r ≡ record { reason = WrongSize; label = 0 } → ReadSays f s σ (Err r) σ
    read_20 k r e = refuse WrongSize r e (answers.size T.accepts reads (λ y. k (ap count_of S.is ∙ ap Some (y.0 ∙ sym T.cells_are'), y.1 ∙ sym T.cells_are')))

    module _ (k : count_of (reading s) ≡ Some c.cells) (l : length σ ≡ c.cells) (tab : List ℕ) (et : tab ≡ table_of f) where
      sized : length S.zs ≡ cells T.tree
      sized = let x : Some (length S.zs) ≡ Some c.cells = sym (ap count_of S.is) ∙ k in let y : length S.zs ≡ c.cells = cc in y ∙ T.cells_are'

      asked : (g : Bool) → g ≡ fits_in f tab c.records q → Decides g ((p : Place) × ((q ≡ held p) × Fits T.tree p))
      asked g eg = fits_asked f c K q tab et g eg

      pub read_21 : false ≡ fits_in f tab c.records q → (r : Refusal) → r ≡ record { reason = Unfit; label = 0 } → ReadSays f s σ (Err r) σ
      read_21 m r e = refuse Unfit r e (answers.place T.accepts reads sized (l ∙ T.cells_are') (λ fit. asked false m (S.p, (S.holds, fit))))

      pub read_done : true ≡ fits_in f tab c.records q → (τ : Store) → τ ≡ filled (reading s) σ → ReadSays f s σ (Ok q) τ
      read_done m τ e =
          let y = asked true m in
          let ep : y.0 ≡ S.p = held_injective y.0 S.p (sym y.1.0 ∙ S.holds) in
          let left : τ ≡ S.zs = e ∙ ap (λ (x : Reading). filled x σ) S.is ∙ rw (eq-eqb _ _ (sized ∙ sym T.cells_are' ∙ sym l)) in
          record {
            tree = T.tree;
            place = S.p;
            reads = subst (Reads s S.p) (sym left) reads;
            ready = record { accepts = T.accepts; sized = ap length left ∙ sized; holds = S.holds; fits = subst (Fits T.tree) ep y.1.1 };
            lent = l ∙ T.cells_are';
          }
