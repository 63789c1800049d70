-- What is saved of a place that the struct holds. Assumes nothing.
--     saved_held, saved_held_short  with room for it and without
--     labels_in                     its labels are u16, where the struct's numbers are
use mathlib.Core.Path.{◌≡◌, refl, ap, ◌∙◌}
use mathlib.Core.Bool.{Bool, true, false, cond}
use mathlib.Core.List.{List}
use Prim.Native.Nat.{ℕ, zero, suc, ◌^◌, ◌≤◌, ◌<◌}
use native.Mathlib.Omega.{arith}
use lib.Dec.{leb}
use lib.IntN.{ℤ}
use lib.ListN.{length, get_or}
use Rattle.std.proofs.Common.{Some, None}
use borrow.Author.Tests.{le-leb, lt-leb}
use Rattle.place.specs.Places.{Place}
use Rattle.place.specs.Slots.{held, Plain, Decides, frames_in, plain_of}
use Rattle.place.proofs.Held.{label_of, seen_held, plain_of_lem}
use Rattle.session.specs.Session.{encode}
use Rattle.session.specs.Parts.{LabelsFit}
use Rattle.session.specs.Answers.{saved_of}

-- ---- a struct that holds p
plain_held : (p : Place) → length p.frames ≤ 1104 → plain_of (held p) ≡ true
plain_held p h = go (plain_of (held p)) (plain_of_lem (held p))
  where
    go : (b : Bool) → Decides b (Plain (held p)) → b ≡ true
    go true d = refl
    go false d = absurd (d (record { place = p; room = h; holds = refl }))

module _ (p : Place) (zs : List ℤ) (buf : List ℕ) (h : length p.frames ≤ 1104) (k : length zs ≤ 16382) where
  to_room : saved_of (held p) zs buf ≡ cond (leb (length (encode p zs)) (length buf)) (Some (encode p zs)) None
  unfolding saved_of
  to_room =
      ap (λ (q : Place). cond (plain_of (held p)) (cond (leb (length zs) 16382) (cond (leb (length (encode q zs)) (length buf)) (Some (encode q zs)) None) None) None) (seen_held p)
      ∙ rw (plain_held p h, le-leb (length zs) 16382 k)

  pub saved_held : length (encode p zs) ≤ length buf → saved_of (held p) zs buf ≡ Some (encode p zs)
  saved_held r = to_room ∙ rw (le-leb (length (encode p zs)) (length buf) r)

  pub saved_held_short : length buf < length (encode p zs) → saved_of (held p) zs buf ≡ None
  saved_held_short r = to_room ∙ rw (lt-leb (length (encode p zs)) (length buf) r)

pub labels_in : (n : ℕ) (ks ls : List ℕ) → ((k : ℕ) → get_or ls k 0 < 2 ^ 16) → LabelsFit (frames_in n ks ls)
unfolding frames_in
labels_in zero ks ls f i = omega arith
labels_in (suc n) ks ls f zero = rw (label_of (get_or ks n 0) (get_or ls n 0)) (f n)
labels_in (suc n) ks ls f (suc i) = labels_in n ks ls f i
