-- Where a record stands in a file, the tests of refusals 7 and 8 on the bytes are the document's tests of that record.
use mathlib.Core.Path.{◌≡◌, refl, ap, ◌∙◌}
use mathlib.Core.List.{List, ◌++◌, append_assoc}
use mathlib.Core.Bool.{true, false, not, ◌&&◌, ◌||◌}
use Prim.Native.Nat.{ℕ, ◌+◌, ◌^◌, ◌<◌}
use lib.ListN.{length, get_or, drop}
use lib.Dec.{ltb, eqb}
use Rattle.codes.proofs.Rows.{byte_of, short_back}
use Rattle.expr.specs.Tree.{Expr, encode, known}
use Rattle.expr.specs.Agreement.{occurs}
use Rattle.expr.specs.declared.Name.TheVariants.{Scalar, Array}
use Rattle.expr.specs.Bytes.{Stands, Got, whole}
use Rattle.expr.proofs.Format.{got, whole_of}
use Rattle.records.specs.Records.{cell, entry, Record, names, begin, end, assign, if, else, fi, from, loop, until, call, uncall, skip, kind, body, encode_record, Plain, Formed}
use Rattle.records.specs.Faults.{word}
use Rattle.records.specs.Walk.{kind_at}
use Rattle.records.specs.Kinds.{tests, calls}
use Rattle.records.specs.Reading.{free, there}
use Rattle.names.specs.Names.{expr_at, past, there_scalar, there_array, there_call, there_at, free_scalar, free_array, free_at}
use Rattle.records.proofs.Bytes.{front_rest, after}
use Rattle.records.proofs.Offsets.{kind_is}

module _ (f : List ℕ) where
  -- where a tree's bytes stand, that tree is read
  tree_at : (at : ℕ) (e : Expr) (x : List ℕ) → Plain e → drop at f ≡ encode e ++ x → whole f at ≡ got e (at + length (encode e))
  unfolding Stands
  tree_at at e x p D = whole_of f at e (at + length (encode e)) p.0 (x, D, refl)

  tree_is : (at : ℕ) (e : Expr) (x : List ℕ) → Plain e → drop at f ≡ encode e ++ x → expr_at f at ≡ e
  tree_is at e x p D = ap (λ (g : Got). g.tree) (tree_at at e x p D)

  past_is : (at : ℕ) (e : Expr) (x : List ℕ) → Plain e → drop at f ≡ encode e ++ x → past f at ≡ at + length (encode e)
  past_is at e x p D = ap (λ (g : Got). g.next) (tree_at at e x p D)

  module _ (at k : ℕ) (K : kind_at f at ≡ k) where
    free_none : eqb k 4 ≡ false → free_at f at ≡ true
    unfolding free_at
    free_none x = rw (K, x)

    module _ (v a p : ℕ) where
      there_none : eqb k 4 ≡ false → tests k ≡ false → calls k ≡ false → there_at f at v a p ≡ true
      unfolding there_at
      there_none x y z = rw (K, x, y, z)

      there_test : eqb k 4 ≡ false → tests k ≡ true → (e : Expr) (x : List ℕ) → Plain e → drop (at + 4) f ≡ encode e ++ x
          → there_at f at v a p ≡ known v a e
      unfolding there_at
      there_test n y e x pe D = rw (K, n, y, tree_is (at + 4) e x pe D)

      there_call_lem : eqb k 4 ≡ false → tests k ≡ false → calls k ≡ true → (q : ℕ) → word f (at + 4) ≡ q
          → there_at f at v a p ≡ (ltb 0 q && ltb q p)
      unfolding there_at there_call
      there_call_lem x y z q e = rw (K, x, y, z, e)

  -- a SET: its kind, its number, and its expressions behind one another
  module _ (at : ℕ) (K : kind_at f at ≡ 4) (x : ℕ) (w : word f (at + 6) ≡ x) (e : Expr) (pe : Plain e) (y : List ℕ) where
    module _ (z : get_or f (at + 5) 0 ≡ 0) (D : drop (at + 8) f ≡ encode e ++ y) where
      there_cell : (v a p : ℕ) → there_at f at v a p ≡ (ltb x v && known v a e)
      unfolding there_at there_scalar
      there_cell v a p = rw (K, z, w, tree_is (at + 8) e y pe D)

      free_cell : free_at f at ≡ not (occurs (Scalar x) e)
      unfolding free_at free_scalar
      free_cell = rw (K, z, w, tree_is (at + 8) e y pe D)

    module _ (z : get_or f (at + 5) 0 ≡ 1) (i : Expr) (pi : Plain i) (D : drop (at + 8) f ≡ encode i ++ (encode e ++ y)) where
      E : expr_at f (at + 8 + length (encode i)) ≡ e
      E = tree_is _ e y pe (after f (at + 8) (encode i) _ D)

      there_entry : (v a p : ℕ) → there_at f at v a p ≡ ((ltb x a && known v a i) && known v a e)
      unfolding there_at there_array
      there_entry v a p = rw (K, z, w, tree_is (at + 8) i _ pi D, past_is (at + 8) i _ pi D, E)

      free_entry : free_at f at ≡ not (occurs (Array x) i || occurs (Array x) e)
      unfolding free_at free_array
      free_entry = rw (K, z, w, tree_is (at + 8) i _ pi D, past_is (at + 8) i _ pi D, E)

-- ---- a record that stands at `at`
module _ (f : List ℕ) (at : ℕ) (y : List ℕ) where
  body_at : (r : Record) → drop at f ≡ encode_record r ++ y → drop (at + 4) f ≡ body r ++ y
  unfolding encode_record
  body_at r D = front_rest f at 4 _ D

  module _ (o x : ℕ) (e : Expr) where
    module _ (D : drop at f ≡ encode_record (assign o (cell x) e) ++ y) where
      cell_zero : get_or f (at + 5) 0 ≡ 0
      unfolding encode_record body kind
      cell_zero = byte_of f at 5 _ D

      cell_number : x < 2 ^ 16 → word f (at + 6) ≡ x
      unfolding encode_record body kind
      cell_number h = short_back f (at + 6) _ x h (front_rest f at 6 _ D)

      cell_rest : drop (at + 8) f ≡ encode e ++ y
      unfolding encode_record body kind
      cell_rest = front_rest f at 8 _ D

    module _ (i : Expr) (D : drop at f ≡ encode_record (assign o (entry x i) e) ++ y) where
      entry_one : get_or f (at + 5) 0 ≡ 1
      unfolding encode_record body kind
      entry_one = byte_of f at 5 _ D

      entry_number : x < 2 ^ 16 → word f (at + 6) ≡ x
      unfolding encode_record body kind
      entry_number h = short_back f (at + 6) _ x h (front_rest f at 6 _ D)

      entry_rest : drop (at + 8) f ≡ encode i ++ (encode e ++ y)
      unfolding encode_record body kind
      entry_rest = front_rest f at 8 _ D ∙ append_assoc (encode i) (encode e) y

  module _ (v a p : ℕ) where
    pub there_at_lem : (r : Record) → Formed r → length (encode_record r) < 2 ^ 16 → drop at f ≡ encode_record r ++ y → there_at f at v a p ≡ there v a p r
    unfolding Formed kind body
    there_at_lem (names w ls) F s D = there_none f at 1 (kind_is f at _ y s D) v a p refl refl refl
    there_at_lem begin F s D = there_none f at 2 (kind_is f at _ y s D) v a p refl refl refl
    there_at_lem end F s D = there_none f at 3 (kind_is f at _ y s D) v a p refl refl refl
    there_at_lem (assign o (cell x) e) F s D =
        there_cell f at (kind_is f at _ y s D) x (cell_number o x e D F.1.0) e F.1.1 y (cell_zero o x e D) (cell_rest o x e D) v a p
    there_at_lem (assign o (entry x i) e) F s D =
        there_entry f at (kind_is f at _ y s D) x (entry_number o x e i D F.1.0.0) e F.1.1 y (entry_one o x e i D) i F.1.0.1
        (entry_rest o x e i D)
        v
        a
        p
    there_at_lem (if e) F s D = there_test f at 5 (kind_is f at _ y s D) v a p refl refl e y F (body_at (if e) D)
    there_at_lem else F s D = there_none f at 6 (kind_is f at _ y s D) v a p refl refl refl
    there_at_lem (fi e) F s D = there_test f at 7 (kind_is f at _ y s D) v a p refl refl e y F (body_at (fi e) D)
    there_at_lem (from e) F s D = there_test f at 8 (kind_is f at _ y s D) v a p refl refl e y F (body_at (from e) D)
    there_at_lem loop F s D = there_none f at 9 (kind_is f at _ y s D) v a p refl refl refl
    there_at_lem (until e) F s D = there_test f at 10 (kind_is f at _ y s D) v a p refl refl e y F (body_at (until e) D)
    there_at_lem (call q) F s D = there_call_lem f at 11 (kind_is f at _ y s D) v a p refl refl refl q (short_back f (at + 4) y q F (body_at (call q) D))
    there_at_lem (uncall q) F s D = there_call_lem f at 12 (kind_is f at _ y s D) v a p refl refl refl q (short_back f (at + 4) y q F (body_at (uncall q) D))
    there_at_lem skip F s D = there_none f at 13 (kind_is f at _ y s D) v a p refl refl refl

  pub free_at_lem : (r : Record) → Formed r → length (encode_record r) < 2 ^ 16 → drop at f ≡ encode_record r ++ y → free_at f at ≡ free r
  unfolding Formed occurs kind body
  free_at_lem (names w ls) F s D = free_none f at 1 (kind_is f at _ y s D) refl
  free_at_lem begin F s D = free_none f at 2 (kind_is f at _ y s D) refl
  free_at_lem end F s D = free_none f at 3 (kind_is f at _ y s D) refl
  free_at_lem (assign o (cell x) e) F s D =
      free_cell f at (kind_is f at _ y s D) x (cell_number o x e D F.1.0) e F.1.1 y (cell_zero o x e D) (cell_rest o x e D)
  free_at_lem (assign o (entry x i) e) F s D =
      free_entry f at (kind_is f at _ y s D) x (entry_number o x e i D F.1.0.0) e F.1.1 y (entry_one o x e i D) i F.1.0.1
      (entry_rest o x e i D)
  free_at_lem (if e) F s D = free_none f at 5 (kind_is f at _ y s D) refl
  free_at_lem else F s D = free_none f at 6 (kind_is f at _ y s D) refl
  free_at_lem (fi e) F s D = free_none f at 7 (kind_is f at _ y s D) refl
  free_at_lem (from e) F s D = free_none f at 8 (kind_is f at _ y s D) refl
  free_at_lem loop F s D = free_none f at 9 (kind_is f at _ y s D) refl
  free_at_lem (until e) F s D = free_none f at 10 (kind_is f at _ y s D) refl
  free_at_lem (call q) F s D = free_none f at 11 (kind_is f at _ y s D) refl
  free_at_lem (uncall q) F s D = free_none f at 12 (kind_is f at _ y s D) refl
  free_at_lem skip F s D = free_none f at 13 (kind_is f at _ y s D) refl
