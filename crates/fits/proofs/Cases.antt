-- What the functions that ask for a record's kind answer; and what a test shows. Assumes nothing.
use mathlib.Core.Path.{◌≡◌, refl, ap, ◌∙◌}
use mathlib.Core.Bool.{Bool, true, false}
use mathlib.Core.Logic.{◌⊎◌, inl, inr}
use mathlib.Core.List.{List}
use Prim.Native.Nat.{ℕ, zero, suc, ◌-◌, ◌<◌}
use native.Mathlib.Omega.{arith}
use lib.ListN.{get_or}
use borrow.Author.Tests.{ne_eqb}
use Rattle.std.specs.Prelude.{Some, None}
use Rattle.records.specs.declared.kind.Kind.{Kind}
use Rattle.records.specs.declared.kind.Kind.TheVariants.{Names, End, Call, Uncall}
use Rattle.records.specs.Kinds.{kind_number, kind_of, calls}
use Rattle.records.proofs.Thirteen.{kind_named}
use Rattle.table.proofs.Numbers.{other_none, other_kind}
use Rattle.place.specs.declared.Place.{Place as Held}
use Rattle.place.specs.Slots.{Plain, Decides, plain_of}
use Rattle.place.proofs.Held.{plain_of_lem, decided}
use Rattle.fits.specs.declared.Chain.{Chain}
use Rattle.fits.specs.Fits.{left, outward, way_out}

pub by : {X : Type 0} (b : Bool) → (b ≡ true → X) → (b ≡ false → X) → X
by true f g = f refl
by false f g = g refl

module _ (k : ℕ) where
  pub down_none : kind_of k ≡ None → true ≡ left k
  unfolding kind_of left
  down_none e = rw (ne_eqb k 1 (other_none k 1 Names refl e), ne_eqb k 3 (other_none k 3 End refl e))

  module _ (κ : Kind) (e : kind_of k ≡ Some κ) where
    pub down_not : (κ ≡ Names) ⊎ (κ ≡ End) → false ≡ left k
    unfolding left
    down_not (inl h) = rw (← (kind_named k κ e).0, h)
    down_not (inr h) = rw (← (kind_named k κ e).0, h)

    pub down_other : (κ ≡ Names → ⊥) → (κ ≡ End → ⊥) → true ≡ left k
    unfolding kind_of left
    down_other a b = rw (ne_eqb k 1 (other_kind k 1 κ Names refl e a), ne_eqb k 3 (other_kind k 3 κ End refl e b))

-- ---- the way through the slots
module _ (f tab : List ℕ) (records : ℕ) (ks ls : List ℕ) where
  pub way_lost : (n : ℕ) → way_out f tab records ks ls n None ≡ None
  unfolding way_out
  way_lost zero = refl
  way_lost (suc n) = refl

  pub way_more : (n : ℕ) (c : Chain) → 0 < n
      → way_out f tab records ks ls n (Some c) ≡ way_out f tab records ks ls (n - 1) (outward f tab records (get_or ks (n - 1) 0) (get_or ls (n - 1) 0) c)
  unfolding way_out
  way_more n c h = let z : n ≡ suc (n - 1) = omega arith in ap (λ (m : ℕ). way_out f tab records ks ls m (Some c)) z

-- ---- an answer to whether a struct holds a place
pub plain_is : (h : Held) (b : Bool) → Decides b (Plain h) → b ≡ plain_of h
plain_is h b d = decided (Plain h) b (plain_of h) d (plain_of_lem h)

pub ruleset downs = (down_none, down_not, down_other)
