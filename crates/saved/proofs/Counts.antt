-- What the check's counts say of an accepted file: its tree, and what `fits` decides. Assumes nothing.
use Prim.Native.Nat.{ℕ}
use mathlib.Core.Path.{◌≡◌, refl}
use mathlib.Core.Bool.{Bool}
use mathlib.Core.List.{List}
use Rattle.std.proofs.Common.{Ok}
use Rattle.place.specs.declared.Place.{Place as Held}
use Rattle.place.specs.Places.{Place}
use Rattle.place.specs.Slots.{held, Decides}
use Rattle.program.specs.declared.Counts.{Counts}
use Rattle.program.specs.Says.{given, Says}
use Rattle.program.proofs.CheckSays.{TreeOf, accepted_of}
use Rattle.moves.specs.Places.{Fits}
use Rattle.table.specs.Table.{table_of}
use Rattle.table.proofs.Tabled.{tabled}
use Rattle.fits.specs.Fits.{fits_in}
use Rattle.fits.proofs.FitsLaw.{fits_law}

module _ (f : List ℕ) (c : Counts) (K : Says f (given (Ok c))) where
  pub tree_of : TreeOf f c.records c.procedures c.cells
  tree_of = accepted_of f (Ok c) c K refl

  pub fits_asked : (q : Held) (tab : List ℕ) → tab ≡ table_of f → (g : Bool) → g ≡ fits_in f tab c.records q → Decides g ((p : Place) × ((q ≡ held p) × Fits tree_of.tree p))
  fits_asked q tab et g eg =
      rw (eg, et) (fits_law f tree_of.tree (table_of f) c.records q tree_of.accepts (tabled f tree_of.tree tree_of.accepts) tree_of.records_are)
