-- `run::ran` meets its contract: the store's first cells are zeros. Assumes nothing.
use mathlib.Core.Path.{◌≡◌, sym, ap, ◌∙◌}
use Prim.Native.Nat.{◌≤◌}
use native.Mathlib.Omega.{arith}
use lib.ListN.{length, take}
use lib.Seq.{length-take-le}
use Rattle.print.proofs.Noughts.{zeros}
use Rattle.run.proofs.Running.{few}
use Rattle.run.proofs.ran.Goals as goal

pub slice_bounds-store-end : goal.slice_bounds-store-end
slice_bounds-store-end c = omega (arith, few c.args.file.now (λ i. omega (arith, c.type_inv.file i)) c.args.cells c.requires)

pub slice_bounds-walked-end : goal.slice_bounds-walked-end
slice_bounds-walked-end c = sym (length-take-le _ _ (omega (arith, few c.args.file.now (λ i. omega (arith, c.type_inv.file i)) c.args.cells c.requires)))

pub walked-requires : goal.walked-requires
walked-requires c = let h = few c.args.file.now (λ i. omega (arith, c.type_inv.file i)) c.args.cells c.requires in
    (c.args.cells, ap (take c.args.cells) c.full-store.ensures.all ∙ zeros c.args.cells 2048 h, c.requires)
