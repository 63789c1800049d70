-- What the first record of an ordered row, NAMES, declares, read from the file's first bytes.
use mathlib.Core.Path.{◌≡◌, sym, ap, subst, ◌∙◌}
use mathlib.Core.List.{List, ◌++◌, flat_map}
use Prim.Native.Nat.{ℕ}
use lib.ListN.{length, drop}
use Rattle.codes.proofs.Rows.{short_back}
use Rattle.records.specs.Records.{Record, names, kind, body, encode_record, bytes_of, Formed, InSize, FineFrom}
use Rattle.order.specs.Trees.{Tree, records_p, records_of, procedures, Ordered}
use Rattle.records.specs.Faults.{word, Rows}
use Rattle.records.specs.Reading.{shorts_at}
use Rattle.records.proofs.Bytes.{front_rest, shorts_back}

pub record Declares (f : List ℕ) (t : Tree) : Type 0 where
  pub scalars_are : word f 4 ≡ t.scalars
  pub arrays_are : word f 6 ≡ length t.lengths
  pub lengths_are : shorts_at f 8 (length t.lengths) ≡ t.lengths
  pub sized : InSize 0 0 (names t.scalars t.lengths)

module _ (f : List ℕ) (rs : List Record) (R : Rows f rs) (t : Tree) (O : Ordered rs t) where
  head_at : drop 0 f ≡ encode_record (names t.scalars t.lengths) ++ bytes_of (records_p (procedures t))
  unfolding bytes_of records_of
  head_at = R.bytes ∙ ap bytes_of (sym O.records)

  head_fine : Formed (names t.scalars t.lengths) × InSize 0 0 (names t.scalars t.lengths)
  unfolding FineFrom records_of
  head_fine = let F = subst (λ (x : List Record). FineFrom 0 0 x) (sym O.records) R.fine in (F.0, F.1.0)

  pub declares : Declares f t
  unfolding encode_record body kind Formed flat_map
  declares =
      let F = head_fine.0 in
      record {
        scalars_are = short_back f 4 _ t.scalars F.0 (front_rest f 0 4 _ head_at);
        arrays_are = short_back f 6 _ (length t.lengths) F.1.0 (front_rest f 0 6 _ head_at);
        lengths_are = shorts_back f t.lengths 8 _ F.1.1 (front_rest f 0 8 _ head_at);
        sized = head_fine.1;
      }
