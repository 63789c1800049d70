-- What the walk of `Offsets` has left. Assumes nothing: these are definitions.
use Rattle.std.specs.Prelude.{ℕ, List, length}
use Rattle.records.specs.Walk.{offsets_from}
use Rattle.records.specs.declared.walk.Offsets.{Offsets}

abbrev pub offsets_left : Offsets → List ℕ
offsets_left w = offsets_from (length w.file.now) w.file.now w.at
