-- `machine::went` meets its contract: `WholeCases` joins the copies, the map and the loop. Assumes nothing.
use mathlib.Core.Path.{◌∙◌}
use Rattle.machine.proofs.CopyCases.{filled_over}
use Rattle.machine.proofs.WholeCases.{copied_goes}
use Rattle.machine.proofs.went.Goals as goal

pub returns : goal.returns
returns c = copied_goes _ _ _ _ _ _ _ _ _ _ _ _ _ _
    (c.lay.ensures ∙ filled_over 32784 _ _) c.arrays-arrays.ensures c.map-map.ensures c.calls-calls.ensures (c.lay-2.ensures ∙ filled_over 2048 _ _) c.go-ran.ensures c.lay-3.ensures
