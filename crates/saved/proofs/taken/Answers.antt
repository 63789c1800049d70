-- `saved::taken` meets its contract: the cases of `ReadCases`. Assumes nothing.
use Rattle.std.proofs.Common.{arith, sym, ◌∙◌}
use Rattle.saved.proofs.ReadCases.{same_count, other_count, read_22, read_20, read_21, read_done}
use Rattle.saved.proofs.taken.Goals as goal
use Rattle.saved.proofs.taken.Goals.{then-ne-via-then-ne, then-ne-via-else-ne+then-store-counts}

pub returns-in_default : goal.returns-in_default
returns-in_default c = read_22 c.args.file.now c.args.saved.now _ c.args.counts c.requires (λ i. omega (arith, c.type_inv.saved i)) c.in_default.ensures _ c.at.ensures

pub returns-then-ne : goal.returns-then-ne
returns-then-ne c =
    read_20 c.args.file.now c.args.saved.now _ c.args.counts c.requires (λ i. omega (arith, c.type_inv.saved i)) _ c.in-Some.ensures
    (λ y. elim c.then-ne.branch [
      | then-ne-via-then-ne w ↦ other_count c.cells_in.result _ w.if-ne.ensures (c.cells_in.ensures ∙ y.0)
      | then-ne-via-else-ne+then-store-counts w ↦ w.if-store-counts.true y.1
    ])
    _ c.at-then-ne.ensures

pub returns-then-not-fits : goal.returns-then-not-fits
returns-then-not-fits c =
    read_21 c.args.file.now c.args.saved.now _ c.args.counts c.requires (λ i. omega (arith, c.type_inv.saved i)) _ c.in-Some.ensures
    (sym c.cells_in.ensures ∙ same_count _ _ c.if-ne.ensures) c.if-store-counts.false _ c.table-table.ensures c.if-not-fits.ensures _ c.at-then-not-fits.ensures

pub returns : goal.returns
returns c =
    read_done c.args.file.now c.args.saved.now _ c.args.counts c.requires (λ i. omega (arith, c.type_inv.saved i)) _ c.in-Some.ensures
    (sym c.cells_in.ensures ∙ same_count _ _ c.if-ne.ensures) c.if-store-counts.false _ c.table-table.ensures c.if-not-fits.ensures _ c.get_cells.ensures
