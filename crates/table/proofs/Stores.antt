-- What the record functions store, by the kind of a record.
use Prim.Native.Nat.{ℕ, ◌+◌}
use mathlib.Core.Path.{◌≡◌, refl, sym}
use mathlib.Core.List.{List}
use mathlib.Core.Logic.{◌⊎◌, inl, inr}
use lib.ListN.{get_or}
use borrow.Author.Tests.{ne_eqb}
use native.Mathlib.Numerals.{add-one}
use Rattle.std.proofs.Common.{Some, None}
use Rattle.records.specs.declared.kind.Kind.{Kind}
use Rattle.records.specs.declared.kind.Kind.TheVariants.{Names, Begin, End, Set, If, Else, Fi, From, Loop, Until, Call, Uncall, Skip}
use Rattle.records.specs.Kinds.{kind_number, kind_of}
use Rattle.records.proofs.Thirteen.{kind_named}
use Rattle.table.proofs.Numbers.{other_none, other_kind}
use Rattle.table.specs.Table.{outside, begun, ended, inside, opened, turned, closed, entered, next_owner, from_above, from_below}

-- ---- Each kind has its function.
module _ (T U : List ℕ) (x q k : ℕ) where
  module _ (κ : Kind) (e : kind_of k ≡ Some κ) where
    on_kind : (ι : Kind) → κ ≡ ι → U ≡ entered T x q (kind_number ι) → U ≡ entered T x q k
    on_kind ι i h = rw (← (kind_named k κ e).0, i) h

    pub on_names : κ ≡ Names → U ≡ outside T x → U ≡ entered T x q k
    unfolding entered
    on_names i h = on_kind Names i h

    pub on_begin : κ ≡ Begin → U ≡ begun T x q → U ≡ entered T x q k
    unfolding entered
    on_begin i h = on_kind Begin i h

    pub on_end : κ ≡ End → U ≡ ended T x q → U ≡ entered T x q k
    unfolding entered
    on_end i h = on_kind End i h

    pub on_if : κ ≡ If → U ≡ opened T x 0 → U ≡ entered T x q k
    unfolding entered
    on_if i h = on_kind If i h

    pub on_else : κ ≡ Else → U ≡ turned T x 1 → U ≡ entered T x q k
    unfolding entered
    on_else i h = on_kind Else i h

    pub on_from : κ ≡ From → U ≡ opened T x 2 → U ≡ entered T x q k
    unfolding entered
    on_from i h = on_kind From i h

    pub on_loop : κ ≡ Loop → U ≡ turned T x 3 → U ≡ entered T x q k
    unfolding entered
    on_loop i h = on_kind Loop i h

    pub on_close : (κ ≡ Fi) ⊎ (κ ≡ Until) → U ≡ closed T x → U ≡ entered T x q k
    unfolding entered
    on_close (inl i) h = on_kind Fi i h
    on_close (inr i) h = on_kind Until i h

    pub on_inside : (κ ≡ Set) ⊎ ((κ ≡ Call) ⊎ ((κ ≡ Uncall) ⊎ (κ ≡ Skip))) → U ≡ inside T x → U ≡ entered T x q k
    unfolding entered
    on_inside (inl i) h = on_kind Set i h
    on_inside (inr (inl i)) h = on_kind Call i h
    on_inside (inr (inr (inl i))) h = on_kind Uncall i h
    on_inside (inr (inr (inr i))) h = on_kind Skip i h

  pub on_none : kind_of k ≡ None → U ≡ inside T x → U ≡ entered T x q k
  unfolding entered kind_of
  on_none e h =
      rw (
        ne_eqb k 1 (other_none k 1 Names refl e),
        ne_eqb k 2 (other_none k 2 Begin refl e),
        ne_eqb k 3 (other_none k 3 End refl e),
        ne_eqb k 5 (other_none k 5 If refl e),
        ne_eqb k 6 (other_none k 6 Else refl e),
        ne_eqb k 7 (other_none k 7 Fi refl e),
        ne_eqb k 8 (other_none k 8 From refl e),
        ne_eqb k 9 (other_none k 9 Loop refl e),
        ne_eqb k 10 (other_none k 10 Until refl e),
      ) h

pub ruleset kinds = (on_names, on_begin, on_end, on_if, on_else, on_from, on_loop, on_close, on_inside, on_none)

-- ---- The procedure of the next record.
module _ (q k : ℕ) where
  pub owner_none : kind_of k ≡ None → q ≡ next_owner q k
  unfolding kind_of
  owner_none e = rw (ne_eqb k 3 (other_none k 3 End refl e))

  module _ (κ : Kind) (e : kind_of k ≡ Some κ) where
    pub owner_next : κ ≡ End → q + 1 ≡ next_owner q k
    owner_next h = let z = (kind_named k κ e).0 in let u : k ≡ 3 = rw h at (sym z) in rw (u, add-one q)

    pub owner_same : (κ ≡ End → ⊥) → q ≡ next_owner q k
    unfolding kind_of
    owner_same h = rw (ne_eqb k 3 (other_kind k 3 κ End refl e h))

pub ruleset owners = (owner_none, owner_next, owner_same)

-- ---- The links.
module _ (T : List ℕ) (x : ℕ) where
  abbrev number : ℕ
  number = get_or T (1024 + x) 0

  pub above_none : kind_of number ≡ None → x ≡ from_above T x
  unfolding kind_of
  above_none e = rw (ne_eqb number 6 (other_none number 6 Else refl e), ne_eqb number 9 (other_none number 9 Loop refl e), ne_eqb number 10 (other_none number 10 Until refl e))

  pub below_none : kind_of number ≡ None → x ≡ from_below T x
  unfolding kind_of
  below_none e = rw (ne_eqb number 6 (other_none number 6 Else refl e), ne_eqb number 9 (other_none number 9 Loop refl e))

  module _ (κ : Kind) (e : kind_of number ≡ Some κ) where
    named : (ι : Kind) → κ ≡ ι → number ≡ kind_number ι
    named ι h = let z = (kind_named number κ e).0 in rw h at (sym z)

    pub above_tail : (κ ≡ Else) ⊎ (κ ≡ Loop) → get_or T (4096 + x) 0 ≡ from_above T x
    above_tail (inl h) = rw (named Else h)
    above_tail (inr h) = rw (named Loop h)

    pub above_head : κ ≡ Until → get_or T (2048 + x) 0 ≡ from_above T x
    above_head h = rw (named Until h)

    pub above_other : (κ ≡ Else → ⊥) → (κ ≡ Loop → ⊥) → (κ ≡ Until → ⊥) → x ≡ from_above T x
    unfolding kind_of
    above_other a b c =
        rw (ne_eqb number 6 (other_kind number 6 κ Else refl e a), ne_eqb number 9 (other_kind number 9 κ Loop refl e b), ne_eqb number 10 (other_kind number 10 κ Until refl e c))

    pub below_head : κ ≡ Else → get_or T (2048 + x) 0 ≡ from_below T x
    below_head h = rw (named Else h)

    pub below_tail : κ ≡ Loop → get_or T (4096 + x) 0 ≡ from_below T x
    below_tail h = rw (named Loop h)

    pub below_other : (κ ≡ Else → ⊥) → (κ ≡ Loop → ⊥) → x ≡ from_below T x
    unfolding kind_of
    below_other a b = rw (ne_eqb number 6 (other_kind number 6 κ Else refl e a), ne_eqb number 9 (other_kind number 9 κ Loop refl e b))

pub ruleset above = (above_none, above_tail, above_head, above_other)

pub ruleset below = (below_none, below_head, below_tail, below_other)
