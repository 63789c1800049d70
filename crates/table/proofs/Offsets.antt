-- The offsets and kinds of an accepted file: at most 1,024 of them, each a number of two bytes.
use Prim.Native.Nat.{ℕ, zero, suc, ◌+◌, ◌≤◌, ◌<◌}
use mathlib.Core.Path.{◌≡◌, refl, ap, sym}
use mathlib.Core.List.{List, [], ◌∷◌, map}
use lib.ListN.{length, get_or}
use native.Mathlib.Omega.{arith}
use borrow.Author.Tests.{lt-ltb, le-ltb}
use Rattle.records.specs.Records.{Record, names, kind}
use Rattle.records.specs.Walk.{stride, kind_at, offsets, offsets_from, kinds_at}
use Rattle.records.proofs.Offsets.{offsets_past}
use Rattle.moves.proofs.Locals.{either}
use Rattle.table.specs.Table.{labelled}

empty : (l : List ℕ) → length l ≤ 0 → l ≡ []
empty [] h = refl
empty (x ∷ l) h = absurd (omega arith)

-- As many turns as there are records are enough.
enough : (n m : ℕ) (f : List ℕ) (at : ℕ) → length f ≤ at + m → length (offsets_from m f at) ≤ n → offsets_from n f at ≡ offsets_from m f at
unfolding offsets_from
enough zero m f at h k = sym (empty (offsets_from m f at) k)
enough (suc n) zero f at h k = offsets_past (suc n) f at (omega arith)
enough (suc n) (suc m) f at h k = either at (length f)
    (λ l. let z = lt-ltb at (length f) l in
    let y = rw z at k in
    rw z (ap (◌∷◌ at) (enough n m f (at + stride f at) (omega arith) (omega arith))))
    (λ l. rw (le-ltb at (length f) l))

pub labelled_is : (f : List ℕ) → length (offsets f) ≤ 1024 → labelled f ≡ offsets f
unfolding labelled offsets
labelled_is f h = enough 1024 (length f) f 0 (omega arith) h

-- Each lies within the file.
inside_from : (m : ℕ) (f : List ℕ) (at x : ℕ) → x < length (offsets_from m f at) → get_or (offsets_from m f at) x 0 < length f
unfolding offsets_from
inside_from zero f at x h = absurd (omega arith)
inside_from (suc m) f at x h = either at (length f)
    (λ l. let z = lt-ltb at (length f) l in
    rw z (more l x (rw z at h) (λ y k. inside_from m f (at + stride f at) y k)))
    (λ l. absurd (let k = rw (le-ltb at (length f) l) at h in omega arith))
  where
    more : at < length f → (x : ℕ) → x < length (at ∷ offsets_from m f (at + stride f at))
        → ((y : ℕ) → y < length (offsets_from m f (at + stride f at)) → get_or (offsets_from m f (at + stride f at)) y 0 < length f)
        → get_or (at ∷ offsets_from m f (at + stride f at)) x 0 < length f
    more l zero h r = l
    more l (suc x) h r = r x (omega arith)

pub offset_inside : (f : List ℕ) (x : ℕ) → x < length (offsets f) → get_or (offsets f) x 0 < length f
unfolding offsets
offset_inside f x h = inside_from (length f) f 0 x h

pub kind_there : (f os : List ℕ) (rs : List Record) (x : ℕ) → kinds_at f os ≡ map kind rs → x < length rs → kind_at f (get_or os x 0) ≡ kind (get_or rs x (names 0 []))
unfolding kinds_at
kind_there f os [] x e h = absurd (omega arith)
kind_there f [] (r ∷ rs) x e h = absurd (let z = ap length e in omega arith)
kind_there f (o ∷ os) (r ∷ rs) zero e h = cc
kind_there f (o ∷ os) (r ∷ rs) (suc x) e h = kind_there f os rs x (cc) (omega arith)
