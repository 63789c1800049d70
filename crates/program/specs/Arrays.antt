-- The table of a file's arrays, whatever the bytes: where each starts among the cells and how long it is.
use Rattle.std.specs.Prelude.{ℕ, ◌+◌, ◌%◌, min, List, [], ◌∷◌, replicate}
use Rattle.std.proofs.lemmas.List.Edits.{sets}
use Rattle.records.specs.Faults.{word}
use Rattle.records.specs.Reading.{shorts_at}

-- "A 0 to 16": of more arrays the first 16.
abbrev pub array_count : List ℕ → ℕ
array_count f = min 16 (word f 6)

abbrev pub array_lengths : List ℕ → List ℕ
array_lengths f = shorts_at f 8 (array_count f)

-- "scalars in order, then arrays in order": each starts where the one before ends; as a u16, which is enough for 2,048 cells.
unfoldable pub starts_from : ℕ → List ℕ → List ℕ
starts_from n [] = []
starts_from n (l ∷ ls) = n % 65536 ∷ starts_from (n + l) ls

-- 16 starts, then 16 lengths, 0 where there is no such array.
unfoldable pub arrays_at : List ℕ → List ℕ
arrays_at f = sets (sets (replicate 32 0) 0 (starts_from (word f 4) (array_lengths f))) 16 (array_lengths f)
