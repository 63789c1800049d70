-- `ways::map::map` meets its contract. The loop's invariant: the map has the entries of the turns made. Assumes nothing.
use Rattle.ways.proofs.MapCases.{Filled}
use Rattle.ways.proofs.map.map.Given as goal

abbrev pub invariant-loop-i : goal.invariant-loop-i
invariant-loop-i l = Filled l.file l.table l.i l.map
