-- The answers of `names_known`, case by case, over plain numbers and lists. Assumes nothing.
use mathlib.Core.Path.{◌≡◌, refl, ap, ◌∙◌}
use mathlib.Core.List.{List}
use mathlib.Core.Bool.{Bool, true, false, not, ◌&&◌, ◌||◌}
use Prim.Native.Nat.{ℕ, ◌+◌, ◌≤◌, ◌<◌}
use Rattle.std.proofs.Math.Bool.{not-not}
use lib.Dec.{ltb}
use borrow.Author.Tests.{lt-ltb, le-ltb}
use lib.IntN.{ℤ}
use lib.ListN.{length, get_or}
use Rattle.codes.specs.Codes.{word16}
use Rattle.expr.specs.Tree.{Expr, con, var, read, bin, any_name, known}
use Rattle.expr.specs.Bytes.{whole}
use Rattle.expr.specs.Answers.{known_of}
use Rattle.expr.specs.declared.Known.{Known}
use Rattle.expr.proofs.Layer.{whole_out, whole_con, whole_var, whole_read, whole_bin, whole_grows}

-- ---- `known`, by the forms of a tree
not_either : (a b : Bool) → not (a || b) ≡ not a && not b
not_either true b = refl
not_either false b = refl

module _ (scalars arrays : ℕ) where
  pub con_known : (v : ℤ) → known scalars arrays (con v) ≡ true
  unfolding known any_name
  con_known v = refl

  pub var_known : (x : ℕ) → known scalars arrays (var x) ≡ ltb x scalars
  unfolding known any_name
  var_known x = not-not (ltb x scalars)

  pub read_known : (a : ℕ) (i : Expr) → known scalars arrays (read a i) ≡ ltb a arrays && known scalars arrays i
  unfolding known any_name
  read_known a i = not_either (not (ltb a arrays)) _ ∙ ap (λ b. b && known scalars arrays i) (not-not (ltb a arrays))

  pub bin_known : (o : ℕ) (l r : Expr) → known scalars arrays (bin o l r) ≡ known scalars arrays l && known scalars arrays r
  unfolding known any_name
  bin_known o l r = not_either (any_name (λ x. not (ltb x scalars)) (λ n. not (ltb n arrays)) l) _

-- ---- the answers
abbrev there : Bool → ℕ → Known
there b n = record { ok = b; next = n }

module _ (scalars arrays : ℕ) (s : List ℕ) (at : ℕ) where
  -- a side ends no earlier than it starts
  pub known_after : (l : Known) → l ≡ known_of scalars arrays (whole s at) → at ≤ l.next
  known_after l e = rw e (whole_grows s at)

  pub known_out : length s ≤ at → there true at ≡ known_of scalars arrays (whole s at)
  known_out h = rw (whole_out s at h, con_known scalars arrays)

  module _ (h : at < length s) (tag : ℕ) (tg : tag ≡ get_or s at 0) where
    pub known_con : tag ≡ 0 → there true (at + 5) ≡ known_of scalars arrays (whole s at)
    known_con e = rw (whole_con s at h tag tg e, con_known scalars arrays)

    pub known_var : (x : ℕ) → tag ≡ 1 → x ≡ word16 s (at + 1) → there (ltb x scalars) (at + 3) ≡ known_of scalars arrays (whole s at)
    known_var x e p = rw (whole_var s at h tag tg e, var_known scalars arrays, p)

    pub known_read : (a : ℕ) (i : Known) → tag ≡ 2 → a ≡ word16 s (at + 1) → i ≡ known_of scalars arrays (whole s (at + 3))
        → there (ltb a arrays && i.ok) i.next ≡ known_of scalars arrays (whole s at)
    known_read a i e p q = rw (whole_read s at h tag tg e, read_known scalars arrays, p, q)

    -- its array is there, and it is not
    pub known_inside : (a : ℕ) (i : Known) → tag ≡ 2 → a ≡ word16 s (at + 1) → i ≡ known_of scalars arrays (whole s (at + 3))
        → a < arrays → there i.ok i.next ≡ known_of scalars arrays (whole s at)
    known_inside a i e p q l = rw (lt-ltb a arrays l) at (known_read a i e p q)

    pub known_none : (a : ℕ) (i : Known) → tag ≡ 2 → a ≡ word16 s (at + 1) → i ≡ known_of scalars arrays (whole s (at + 3))
        → arrays ≤ a → there false i.next ≡ known_of scalars arrays (whole s at)
    known_none a i e p q l = rw (le-ltb a arrays l) at (known_read a i e p q)

    pub known_bin : (l r : Known) (b : Bool) → (tag ≡ 0 → ⊥) → (tag ≡ 1 → ⊥) → (tag ≡ 2 → ⊥) → l ≡ known_of scalars arrays (whole s (at + 2))
        → r ≡ known_of scalars arrays (whole s l.next) → b ≡ (l.ok && r.ok) → there b r.next ≡ known_of scalars arrays (whole s at)
    known_bin l r b n0 n1 n2 p q u = rw (whole_bin s at h tag tg n0 n1 n2, bin_known scalars arrays, u, q, p)

-- the cases, for `search`
pub ruleset knowns = (known_out, known_con, known_var, known_inside, known_none, known_bin)
