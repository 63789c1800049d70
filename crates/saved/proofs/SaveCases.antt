-- What each `return` of a save answers is what Answers says, in the order of the questions. Assumes nothing.
use Prim.Native.Nat.{ℕ, ◌+◌, ◌≤◌}
use mathlib.Core.Path.{◌≡◌, refl, sym, ap, ◌∙◌, subst}
use mathlib.Core.Bool.{Bool, true, false}
use mathlib.Core.List.{List, ◌++◌}
use native.Mathlib.Omega.{arith}
use lib.Dec.{leb}
use lib.ListN.{length, drop}
use lib.Seq.{sets-eq}
use borrow.Author.Tests.{leb-true, leb-false}
use Rattle.std.proofs.Common.{Option, Ok, Err, ok_or}
use Rattle.refusals.specs.declared.Reason.{Reason}
use Rattle.refusals.specs.declared.Reason.TheVariants.{WrongSize, Unfit, NoRoom}
use Rattle.refusals.specs.declared.Refusal.{Refusal}
use Rattle.refusals.specs.Numbers.{number_of}
use Rattle.place.specs.declared.Place.{Place as Held}
use Rattle.place.specs.Places.{Place}
use Rattle.place.specs.Slots.{held, Decides}
use Rattle.program.specs.declared.Counts.{Counts}
use Rattle.program.specs.Says.{given, Says}
use Rattle.program.proofs.CheckSays.{TreeOf}
use Rattle.program.proofs.Few.{cells_few}
use Rattle.moves.specs.Places.{Fits}
use Rattle.moves.specs.Stores.{Store}
use Rattle.table.specs.Table.{table_of}
use Rattle.fits.specs.Fits.{fits_in}
use Rattle.fits.proofs.Few.{frames_few}
use Rattle.session.specs.Session.{encode}
use Rattle.session.specs.Answers.{saved_of, written_of, laid}
use Rattle.session.proofs.Round.{saved_held, saved_held_short}
use Rattle.machine.specs.Answers as machine
use Rattle.saved.specs.Answers as answers
use Rattle.saved.specs.Answers.{SaveBefore, SaveSays}
use Rattle.saved.proofs.Counts.{tree_of, fits_asked}

module _ (f : List ℕ) (q : Held) (σ : Store) (buf : List ℕ) (c : Counts) (K : Says f (given (Ok c))) where
  abbrev T : TreeOf f c.records c.procedures c.cells
  T = tree_of f c K

  refuse : (x : Reason) (r : Refusal) → r ≡ record { reason = x; label = 0 } → SaveBefore f q σ buf (number_of x) 0 → SaveSays f q σ buf (Err r) buf
  refuse x r e b = (subst (λ (r : Refusal). SaveBefore f q σ buf (number_of r.reason) r.label) (sym e) b, refl)

  pub save_20 : (length σ ≡ c.cells → ⊥) → (r : Refusal) → r ≡ record { reason = WrongSize; label = 0 } → SaveSays f q σ buf (Err r) buf
  save_20 k r e = refuse WrongSize r e (answers.before (machine.size T.accepts (λ y. k (y ∙ sym T.cells_are'))))

  module _ (l : length σ ≡ c.cells) (tab : List ℕ) (et : tab ≡ table_of f) where
    asked : (g : Bool) → g ≡ fits_in f tab c.records q → Decides g ((p : Place) × ((q ≡ held p) × Fits T.tree p))
    asked g eg = fits_asked f c K q tab et g eg

    pub save_21 : false ≡ fits_in f tab c.records q → (r : Refusal) → r ≡ record { reason = Unfit; label = 0 } → SaveSays f q σ buf (Err r) buf
    save_21 m r e = refuse Unfit r e (answers.before (machine.place T.accepts (l ∙ T.cells_are') (λ p h fit. asked false m (p, (h, fit)))))

    module _ (m : true ≡ fits_in f tab c.records q) where
      abbrev p : Place
      p = (asked true m).0

      ready : machine.Ready f q σ T.tree p
      ready = record { accepts = T.accepts; sized = l ∙ T.cells_are'; holds = (asked true m).1.0; fits = (asked true m).1.1 }

      few : length p.frames ≤ 1104
      few = frames_few T.accepts p ready.fits

      some : length σ ≤ 16382
      some = omega (arith, ready.sized, cells_few T.accepts)

      -- nothing is saved only where the buffer is short
      pub save_done : (r : Refusal) → r ≡ record { reason = NoRoom; label = 0 } → (n : Option ℕ) (out : List ℕ) → n ≡ written_of (saved_of q σ buf) → out ≡ laid buf (saved_of q σ buf)
          → SaveSays f q σ buf (ok_or n r) out
      save_done r e n out en eo = go (leb (length (encode p σ)) (length buf)) refl
        where
          same : {s : Option (List ℕ)} → saved_of (held p) σ buf ≡ s → saved_of q σ buf ≡ s
          same z = ap (λ q. saved_of q σ buf) ready.holds ∙ z

          go : (b : Bool) → leb (length (encode p σ)) (length buf) ≡ b → SaveSays f q σ buf (ok_or n r) out
          go true x =
              let h = leb-true _ _ x in
              let z = same (saved_held p σ buf few some h) in
              let w : 0 + length (encode p σ) ≤ length buf = omega (arith, h) in
              let y : 0 + length (encode p σ) ≡ length (encode p σ) = omega arith in
              rw (en, z) record {
                tree = T.tree;
                place = p;
                ready = ready;
                room = h;
                count = refl;
                bytes = eo ∙ ap (laid buf) z ∙ sets-eq (encode p σ) buf 0 w ∙ ap (λ (k : ℕ). encode p σ ++ drop k buf) y;
              }
          go false x =
              let h = leb-false _ _ x in
              let z = same (saved_held_short p σ buf few some h) in
              rw (en, z) ((refuse NoRoom r e (answers.short ready h)).0, eo ∙ ap (laid buf) z)
