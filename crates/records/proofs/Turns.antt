-- Files of a few records, walked by computing: document 01's lines as far as refusals 2 to 5 go, and each number once.
use mathlib.Core.Path.{◌≡◌, refl}
use mathlib.Core.List.{List, [], ◌∷◌, ◌++◌, map, flat_map}
use Prim.Native.Nat.{ℕ}
use lib.IntN.{pos}
use lib.ListN.{length, replicate}
use Rattle.expr.specs.Tree.{con, var, bin, encode}
use Rattle.expr.specs.Bytes.{up_to, layer}
use Rattle.records.specs.Records.{names, begin, end, assign, cell, from, loop, until, skip, bytes_of, encode_record, body, kind, sum}
use Rattle.records.specs.Walk.{offsets, offsets_from}
use Rattle.records.specs.Reading.{walk_of, walk_over, fine, faulty, wrong_at, cut_at, unknown_at, formed_as, set_body, sized_as, names_fit, lengths_fit, shorts_at}
use Rattle.std.proofs.Common.{Result}
use Rattle.refusals.specs.declared.Reason.TheVariants.{Cut, UnknownKind, Malformed, Oversize}
use Rattle.refusals.specs.declared.Refusal.{Refusal}
use Rattle.records.specs.declared.Walked.{Walked}

-- the document's program: 76 bytes
abbrev pub counting : List ℕ
counting =
    bytes_of (
    names 2 []
    ∷ begin
    ∷ assign 0 (cell 1) (con (pos 3))
    ∷ from (bin 12 (var 0) (con (pos 0)))
    ∷ assign 0 (cell 0) (con (pos 1))
    ∷ loop
    ∷ skip
    ∷ until (bin 12 (var 0) (var 1))
    ∷ end
    ∷ []
    )

pub counted : (length counting ≡ 76) × (walk_of counting ≡ fine 9 1)
unfolding walk_of walk_over offsets offsets_from wrong_at cut_at unknown_at formed_as set_body sized_as names_fit lengths_fit shorts_at sum bytes_of encode_record body kind flat_map encode up_to layer
counted = (refl, refl)

-- NAMES, BEGIN, and then these bytes: the fault is record 2
abbrev pub third : List ℕ → Result Walked Refusal
third rest = walk_of (bytes_of (names 0 [] ∷ begin ∷ []) ++ rest)

abbrev pub cuts : List (List ℕ)
cuts = (4 ∷ []) ∷ (4 ∷ 0 ∷ 13 ∷ []) ∷ (3 ∷ 0 ∷ 13 ∷ 0 ∷ []) ∷ (3 ∷ 0 ∷ 14 ∷ 0 ∷ []) ∷ (5 ∷ 0 ∷ 13 ∷ 0 ∷ []) ∷ []

-- kind 14, kind 0, and kind 14 with a body
abbrev pub strange : List (List ℕ)
strange = (4 ∷ 0 ∷ 14 ∷ 0 ∷ []) ∷ (4 ∷ 0 ∷ 0 ∷ 0 ∷ []) ∷ (5 ∷ 0 ∷ 14 ∷ 0 ∷ 0 ∷ []) ∷ []

-- a byte behind SKIP, one byte for CALL's two, a length more than NAMES says, operator 3, target 2, a byte behind the expression
abbrev pub bad : List (List ℕ)
bad =
    (5 ∷ 0 ∷ 13 ∷ 0 ∷ 0 ∷ [])
    ∷ (5 ∷ 0 ∷ 11 ∷ 0 ∷ 0 ∷ [])
    ∷ (10 ∷ 0 ∷ 1 ∷ 0 ∷ 65 ∷ 0 ∷ 17 ∷ 0 ∷ 0 ∷ 0 ∷ [])
    ∷ (11 ∷ 0 ∷ 4 ∷ 0 ∷ 3 ∷ 0 ∷ 0 ∷ 0 ∷ 1 ∷ 0 ∷ 0 ∷ [])
    ∷ (11 ∷ 0 ∷ 4 ∷ 0 ∷ 0 ∷ 2 ∷ 0 ∷ 0 ∷ 1 ∷ 0 ∷ 0 ∷ [])
    ∷ (12 ∷ 0 ∷ 4 ∷ 0 ∷ 0 ∷ 0 ∷ 0 ∷ 0 ∷ 1 ∷ 0 ∷ 0 ∷ 0 ∷ [])
    ∷ []

-- 65 scalars, an array of length 0, one of 1,025
abbrev pub large : List (List ℕ)
large =
    (8 ∷ 0 ∷ 1 ∷ 0 ∷ 65 ∷ 0 ∷ 0 ∷ 0 ∷ [])
    ∷ (10 ∷ 0 ∷ 1 ∷ 0 ∷ 0 ∷ 0 ∷ 1 ∷ 0 ∷ 0 ∷ 0 ∷ [])
    ∷ (10 ∷ 0 ∷ 1 ∷ 0 ∷ 0 ∷ 0 ∷ 1 ∷ 0 ∷ 1 ∷ 4 ∷ [])
    ∷ []

pub faults : (map third cuts ≡ replicate 5 (faulty Cut 2))
    × ((map third strange ≡ replicate 3 (faulty UnknownKind 2))
    × ((map third bad ≡ replicate 6 (faulty Malformed 2)) × (map third large ≡ replicate 3 (faulty Oversize 2))))
unfolding walk_of walk_over offsets offsets_from wrong_at cut_at unknown_at formed_as set_body sized_as names_fit lengths_fit shorts_at sum bytes_of encode_record body kind flat_map encode up_to layer
faults = (refl, (refl, (refl, refl)))
