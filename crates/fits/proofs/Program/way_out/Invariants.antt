-- `fits::Program::way_out` meets its contract. The loop's invariant: what the slots that are left answer from where one stands is what all
-- of them answer from the start. Assumes nothing.
use mathlib.Core.Path.{◌≡◌}
use Rattle.std.specs.Prelude.{Some}
use Rattle.fits.specs.Fits.{way_out}
use Rattle.fits.proofs.Program.way_out.Given as goal

abbrev pub invariant-loop-n : goal.invariant-loop-n
invariant-loop-n l =
    way_out l.self.file.now l.self.table.now l.self.records l.place.kinds l.place.labels l.place.count (Some l.initial.c)
    ≡ way_out l.self.file.now l.self.table.now l.self.records l.place.kinds l.place.labels l.n (Some l.c)
