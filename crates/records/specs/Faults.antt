-- Document 01, 'Numbers the bench gives', 2 to 5: what is first wrong with a record, and the files of which no record is.
use Rattle.std.specs.Prelude.{ℕ, ◌≤◌, ◌<◌, List, ◌⊎◌, ◌≡◌, length, take}
pub use Rattle.codes.specs.Codes.{word16 as word}
use Rattle.refusals.specs.declared.Reason.{Reason}
use Rattle.refusals.specs.declared.Reason.TheVariants as reason
use Rattle.records.specs.Records.{Record, encode_record, bytes_of, Formed, InSize, FineFrom}

-- 2: "1 to 3 bytes left, length under 4 or past the end"
abbrev pub Cut : List ℕ → Type 0
Cut rest = (0 < length rest) × ((length rest < 4) ⊎ ((word rest 0 < 4) ⊎ (length rest < word rest 0)))

-- 3: "unknown kind"
abbrev pub Unknown : List ℕ → Type 0
Unknown rest = (word rest 2 ≡ 0) ⊎ (13 < word rest 2)

-- The first record of these bytes is r.
abbrev pub Starts : List ℕ → Record → Type 0
Starts rest r = take (word rest 0) rest ≡ encode_record r

-- What is first wrong with the record that these bytes start with, after k records of which b are BEGIN.
pub data Wrong (k b : ℕ) (rest : List ℕ) : Reason → Type 0 where
  cut : Cut rest → Wrong k b rest reason.Cut
  unknown : 0 < length rest → (Cut rest → ⊥) → Unknown rest → Wrong k b rest reason.UnknownKind
  malformed : 0 < length rest → (Cut rest → ⊥) → (Unknown rest → ⊥) → ((r : Record) → Formed r → Starts rest r → ⊥) → Wrong k b rest reason.Malformed
  oversize : (r : Record) → 0 < length rest → (Cut rest → ⊥) → Formed r → Starts rest r → (InSize k b r → ⊥) → Wrong k b rest reason.Oversize

-- The bytes are a row of records, each formed and within the sizes.
pub record Rows (f : List ℕ) (rs : List Record) : Type 0 where
  pub short : length f ≤ 32768
  pub bytes : f ≡ bytes_of rs
  pub fine : FineFrom 0 0 rs
