-- A number is not that of another kind. Assumes nothing.
use mathlib.Core.Path.{◌≡◌}
use Prim.Native.Nat.{ℕ}
use Rattle.std.proofs.Common.{Some, None}
use Rattle.records.specs.Kinds.{kind_of}
use Rattle.records.specs.declared.kind.Kind.{Kind}

pub other_none : (n m : ℕ) (k : Kind) → kind_of m ≡ Some k → kind_of n ≡ None → n ≡ m → ⊥
other_none n m k e h z = let u : kind_of m ≡ None = rw z at h in cc

pub other_kind : (n m : ℕ) (k l : Kind) → kind_of m ≡ Some l → kind_of n ≡ Some k → (k ≡ l → ⊥) → n ≡ m → ⊥
other_kind n m k l e h d z = let u : kind_of m ≡ Some k = rw z at h in d (cc)
