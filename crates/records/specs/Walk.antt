-- The walk over a file's records that every pass makes, whatever the bytes: where each record starts.
use Rattle.std.specs.Prelude.{ℕ, zero, suc, ◌+◌, max, List, [], ◌∷◌, cond, length, ltb}
use Rattle.records.specs.Faults.{word}

-- A record's own length; 4 where it says less, so that every walk ends.
abbrev pub stride : List ℕ → ℕ → ℕ
stride f at = max 4 (word f at)

abbrev pub kind_at : List ℕ → ℕ → ℕ
kind_at f at = word f (at + 2)

unfoldable pub offsets_from : ℕ → List ℕ → ℕ → List ℕ
offsets_from zero f at = []
offsets_from (suc n) f at = cond (ltb at (length f)) (at ∷ offsets_from n f (at + stride f at)) []

unfoldable pub offsets : List ℕ → List ℕ
offsets f = offsets_from (length f) f 0

unfoldable pub kinds_at : List ℕ → List ℕ → List ℕ
kinds_at f [] = []
kinds_at f (o ∷ os) = kind_at f o ∷ kinds_at f os
