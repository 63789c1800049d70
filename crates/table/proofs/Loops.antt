-- The loops of the three passes: what is left to be done gives the whole.
use Prim.Native.Nat.{ℕ, suc, ◌+◌, ◌-◌, ◌≤◌, ◌<◌, pred, min}
use mathlib.Core.Path.{◌≡◌, refl, ap, sym, ◌∙◌}
use mathlib.Core.List.{List, [], ◌∷◌}
use native.Mathlib.Omega.{arith}
use native.Mathlib.Numerals.{add-one}
use lib.ListN.{length}
use Rattle.records.specs.Walk.{stride, kind_at, offsets_from}
use Rattle.records.proofs.Offsets.{offsets_past, offsets_capped}
use Rattle.table.specs.Table.{noted, entered, next_owner, filled, labelled, share, shared, join, joined, blank, table_of}

-- ---- The records that are left, x being filled.
abbrev pub left : List ℕ → ℕ → ℕ → List ℕ
left f x at = offsets_from (1024 - x) f at

-- What is found of them is what is found of all.
pub record Left (f T₀ T : List ℕ) (x q at : ℕ) : Type 0 where
  pub table : filled f (labelled f) 0 0 T₀ ≡ filled f (left f x at) x q T
  pub count : length (labelled f) ≡ x + length (left f x at)

pub left_first : (f T : List ℕ) → Left f T T 0 0 0
unfolding labelled
left_first f T = record { table = refl; count = omega arith }

module _ (f T₀ T : List ℕ) (x q at : ℕ) where
  left_none : left f x at ≡ [] → Left f T₀ T x q at → ((x ≡ length (labelled f)) × (T ≡ filled f (labelled f) 0 0 T₀))
  unfolding filled
  left_none e l =
      let z : length (left f x at) ≡ 0 = ap length e in
      (omega (arith, l.count), sym (l.table ∙ ap (λ os. filled f os x q T) e))

  pub left_stops : length f ≤ at → Left f T₀ T x q at → ((x ≡ length (labelled f)) × (T ≡ filled f (labelled f) 0 0 T₀))
  left_stops h l = left_none (offsets_past (1024 - x) f at h) l

  pub left_full : 1024 ≤ x → Left f T₀ T x q at → ((x ≡ length (labelled f)) × (T ≡ filled f (labelled f) 0 0 T₀))
  unfolding offsets_from
  left_full h l = left_none (let z : 1024 - x ≡ 0 = omega arith in rw z) l

  pub left_on : (k q' at' : ℕ) (U W : List ℕ) → x < 1024 → at < length f → k ≡ kind_at f at → U ≡ noted T x q at k → W ≡ entered U x q k
      → q' ≡ next_owner q k → at' ≡ min (length f) (at + stride f at) → Left f T₀ T x q at → Left f T₀ W (x + 1) q' at'
  unfolding filled
  left_on k q' at' U W hx h ek eU eW eq ea l =
      let z : 1024 - x ≡ suc (1024 - (x + 1)) = omega arith in
      let e : left f x at ≡ at ∷ left f (x + 1) at' = ap (λ m. offsets_from m f at) z ∙ rw ea (offsets_capped (1024 - (x + 1)) f at h) in
      record {
        table = l.table ∙ (ap (λ os. filled f os x q T) e ∙ rw (eq, eW, eU, ek, add-one x));
        count = let c = ap length e in omega (arith, l.count);
      }

-- ---- The records whose partners, and the gaps whose ends, are left.
module _ (T₀ T U : List ℕ) (n x : ℕ) where
  pub shared_on : x < n → U ≡ share T x → shared n 0 T₀ ≡ shared (n - x) x T → shared n 0 T₀ ≡ shared (n - (x + 1)) (x + 1) U
  unfolding shared
  shared_on h e p = let z : n - x ≡ suc (n - (x + 1)) = omega arith in p ∙ rw (z, e, add-one x)

  pub shared_done : n ≤ x → shared n 0 T₀ ≡ shared (n - x) x T → T ≡ shared n 0 T₀
  unfolding shared
  shared_done h p = let z : n - x ≡ 0 = omega arith in sym (p ∙ rw z)

  pub joined_on : 0 < x → x < n → U ≡ join T (x - 1) → joined (pred n) 0 T₀ ≡ joined (n - x) (pred x) T → joined (pred n) 0 T₀ ≡ joined (n - (x + 1)) (pred (x + 1)) U
  unfolding joined
  joined_on z h e p =
      let a : n - x ≡ suc (n - (x + 1)) = omega arith in
      let b : x - 1 ≡ pred x = omega arith in
      let c : pred (x + 1) ≡ suc (pred x) = omega arith in
      p ∙ rw (a, e, b, c)

  pub joined_done : n ≤ x → joined (pred n) 0 T₀ ≡ joined (n - x) (pred x) T → T ≡ joined (pred n) 0 T₀
  unfolding joined
  joined_done h p = let z : n - x ≡ 0 = omega arith in sym (p ∙ rw z)

pub shared_first : (n : ℕ) (T : List ℕ) → shared n 0 T ≡ shared (n - 0) 0 T
shared_first n T = let z : n - 0 ≡ n = omega arith in rw z

pub joined_first : (n : ℕ) (T : List ℕ) → joined (pred n) 0 T ≡ joined (n - 1) (pred 1) T
joined_first n T = let z : pred n ≡ n - 1 = omega arith in rw z

pub table_whole : (f T U S W : List ℕ) (n : ℕ) → T ≡ blank → (n ≡ length (labelled f)) → U ≡ filled f (labelled f) 0 0 T → S ≡ shared n 0 U → W ≡ joined (pred n) 0 S
    → W ≡ table_of f
unfolding table_of
table_whole f T U S W n a b c d e = rw (e, d, c, a, b)
