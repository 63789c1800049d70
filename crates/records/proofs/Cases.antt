-- What the functions of `walk` and `reading` answer, case by case, over plain numbers and lists.
use mathlib.Core.Path.{◌≡◌, refl, sym, ◌∙◌}
use mathlib.Core.List.{List}
use mathlib.Core.Logic.{◌⊎◌, ⊎_elim}
use mathlib.Core.Bool.{Bool, true, false, cond, ◌&&◌, and-false}
use Prim.Native.Nat.{ℕ, suc, ◌+◌, ◌-◌, ◌*◌, ◌≤◌, ◌<◌}
use native.Mathlib.Nat.{add-zero, add_assoc}
use native.Mathlib.Omega.{arith}
use borrow.Author.Tests.{lt-ltb, le-ltb, le-leb, lt-leb, ne_eqb}
use lib.Dec.{ltb, leb}
use mir.Val.{bool_byte}
use lib.ListN.{length, get_or, get_or-eq_default}
use Rattle.std.proofs.Common.{Option, Some, None}
use Rattle.std.specs.Bool.{then_some}
use Rattle.refusals.specs.declared.Reason.TheVariants.{Cut, UnknownKind, Malformed, Oversize}
use Rattle.expr.specs.Bytes.{Got}
use Rattle.expr.specs.Answers.{end_of}
use Rattle.expr.proofs.Layer.{upto_out}
use Rattle.records.specs.Records.{sum}
use Rattle.records.specs.Kinds.{kind_number, kind_of}
use Rattle.records.specs.Faults.{word}
use Rattle.records.specs.Walk.{kind_at}
use Rattle.records.specs.Reading.{expr_at, fills, set_body, formed_as, shorts_at, lengths_fit, cells_fit, names_fit, sized_as, cut_at, unknown_at, wrong_at}
use Rattle.records.specs.declared.kind.Kind.{Kind}
use Rattle.records.proofs.Bytes.{length_shorts}
use Rattle.records.proofs.Thirteen.{unnamed, named}

-- ---- past the end there are zeros, and no expression
module _ (f : List ℕ) where
  word_out : (i : ℕ) → length f ≤ i → word f i ≡ 0
  word_out i h = rw (get_or-eq_default f 0 h, get_or-eq_default f 0 {n = i + 1} (omega arith))

  pub kind_out : (at : ℕ) → length f ≤ at → (0 ≡ kind_at f at) × (0 < 65536)
  kind_out at h = (sym (word_out (at + 2) (omega arith)), omega arith)

  expr_out : (i : ℕ) → length f ≤ i → (expr_at f i).ok ≡ false
  expr_out i h = rw (upto_out _ 16 f i h)

-- ---- where an expression ends
module _ (g : Got) (e : Option ℕ) (ee : e ≡ end_of g) where
  pub ends_at : (n : ℕ) → e ≡ Some n → (g.ok ≡ true) × (g.next ≡ n)
  ends_at n p = go g.ok g.next (sym ee ∙ p)
    where
      go : (b : Bool) (m : ℕ) → then_some b m ≡ Some n → (b ≡ true) × (m ≡ n)
      go true m e = (refl, cc)
      go false m e = cc

  pub ends_not : e ≡ None → g.ok ≡ false
  ends_not p = go g.ok g.next (sym ee ∙ p)
    where
      go : (b : Bool) (m : ℕ) → then_some b m ≡ None → b ≡ false
      go true m e = cc
      go false m e = refl

-- ---- a SET's body
module _ (f : List ℕ) (at : ℕ) where
  pub set_out : length f ≤ at → false ≡ set_body f at
  unfolding set_body
  set_out h =
      let z = get_or-eq_default f 0 {n = at + 5} (omega arith) in
      rw (z, expr_out f (at + 8) (omega arith), and-false (ltb (get_or f (at + 4) 0) 3))

  module _ (o : ℕ) (oo : o ≡ get_or f (at + 4) 0) where
    pub set_op : 3 ≤ o → false ≡ set_body f at
    unfolding set_body
    set_op h = rw (← oo, le-ltb o 3 h)

    module _ (small : o < 3) (w : ℕ) (ww : w ≡ word f at) (t : ℕ) (tt : t ≡ get_or f (at + 5) 0) where
      pub set_cell_lem : (r : Bool) → t ≡ 0 → r ≡ fills (expr_at f (at + 8)) (at + w) → r ≡ set_body f at
      unfolding set_body
      set_cell_lem r z q = q ∙ rw (← oo, lt-ltb o 3 small, ← tt, z, ww)

      pub set_form : (t ≡ 0 → ⊥) → (t ≡ 1 → ⊥) → false ≡ set_body f at
      unfolding set_body
      set_form n0 n1 = rw (← oo, lt-ltb o 3 small, ← tt, ne_eqb t 0 n0, ne_eqb t 1 n1)

      module _ (e : Option ℕ) (ee : e ≡ end_of (expr_at f (at + 8))) (one : t ≡ 1) where
        pub set_entry_lem : (r : Bool) (n : ℕ) → e ≡ Some n → r ≡ fills (expr_at f n) (at + w) → r ≡ set_body f at
        unfolding set_body
        set_entry_lem r n p q = let z = ends_at (expr_at f (at + 8)) e ee n p in q ∙ rw (← oo, lt-ltb o 3 small, ← tt, one, z.0, z.1, ww)

        pub set_bad : e ≡ None → false ≡ set_body f at
        unfolding set_body
        set_bad p = rw (← oo, lt-ltb o 3 small, ← tt, one, ends_not (expr_at f (at + 8)) e ee p)

pub ruleset setting = (set_out, set_op, set_cell_lem, set_form, set_entry_lem, set_bad)

-- ---- a body by its kind
same_both : (t : Bool) → cond t false false ≡ false
same_both true = refl
same_both false = refl

module _ (f : List ℕ) (at k : ℕ) where
  pub formed_out : length f ≤ at → false ≡ formed_as k f at
  unfolding formed_as
  formed_out h =
      rw (word_out f at h, ← set_out f at h, expr_out f (at + 4) (omega arith), ne_eqb 0 (8 + 2 * word f (at + 6)) (λ e. omega arith)) (simp same_both)

-- ---- sizes
module _ (f : List ℕ) (p n total : ℕ) where
  pub cells_none : n ≡ 0 → leb total 2048 ≡ cells_fit total (shorts_at f p n)
  unfolding shorts_at lengths_fit sum
  cells_none e = rw (e, add-zero total)

  module _ (some : 0 < n) where
    -- the first of them
    cells_first : (m : ℕ) → n ≡ suc m
        → cells_fit total (shorts_at f p n) ≡ (leb 1 (word f p) && leb (word f p) 1024 && lengths_fit (shorts_at f (p + 2) m)) && leb (total + (word f p + sum (shorts_at f (p + 2) m))) 2048
    unfolding shorts_at lengths_fit sum
    cells_first m e = rw e

    pub cells_bad : (word f p ≡ 0) ⊎ ((word f p ≡ 0 → ⊥) × (1024 < word f p)) → false ≡ cells_fit total (shorts_at f p n)
    cells_bad h =
        sym (cells_first (n - 1) (omega arith) ∙ ⊎_elim (λ e. rw e) (λ l. rw (lt-leb (word f p) 1024 l.1, and-false)) h)

    pub cells_step : (word f p ≡ 0 → ⊥) → word f p ≤ 1024 → cells_fit (total + word f p) (shorts_at f (p + 2) (n - 1)) ≡ cells_fit total (shorts_at f p n)
    cells_step z h =
        sym (cells_first (n - 1) (omega arith) ∙ rw (le-leb 1 (word f p) (omega arith), le-leb (word f p) 1024 h, add_assoc total (word f p) (sum (shorts_at f (p + 2) (n - 1)))))

pub ruleset counting = (cells_none, cells_bad, cells_step)

module _ (f : List ℕ) (at : ℕ) where
  abbrev at_names : Bool
  at_names = names_fit (word f (at + 4)) (shorts_at f (at + 8) (word f (at + 6)))

  pub names_out : length f ≤ at → true ≡ at_names
  unfolding names_fit shorts_at lengths_fit sum
  names_out h = rw (word_out f (at + 4) (omega arith), word_out f (at + 6) (omega arith))

  module _ (v : ℕ) (vv : v ≡ word f (at + 4)) where
    pub names_scalars : 64 < v → false ≡ at_names
    unfolding names_fit
    names_scalars h = rw (← vv, lt-leb v 64 h)

    module _ (few : v ≤ 64) (n : ℕ) (nn : n ≡ word f (at + 6)) where
      pub names_arrays : 16 < n → false ≡ at_names
      unfolding names_fit
      names_arrays h = rw (← vv, ← nn, le-leb v 64 few, length_shorts f n (at + 8), lt-leb n 16 h)

      pub names_cells : (r : Bool) → n ≤ 16 → r ≡ cells_fit v (shorts_at f (at + 8) n) → r ≡ at_names
      unfolding names_fit
      names_cells r h q = q ∙ rw (← vv, ← nn, le-leb v 64 few, length_shorts f n (at + 8), le-leb n 16 h)

pub ruleset naming = (names_out, names_scalars, names_arrays, names_cells)

-- ---- the questions in turn
module _ (f : List ℕ) (at k b : ℕ) where
  pub wrong_few : length f < at + 4 → Some Cut ≡ wrong_at f at k b
  unfolding wrong_at cut_at
  wrong_few h = rw (lt-ltb (length f) (at + 4) h)

  pub wrong_out : length f ≤ at → Some Cut ≡ wrong_at f at k b
  wrong_out h = wrong_few (omega arith)

  module _ (four : at + 4 ≤ length f) where
    pub wrong_small : word f at < 4 → Some Cut ≡ wrong_at f at k b
    unfolding wrong_at cut_at
    wrong_small h = rw (le-ltb (length f) (at + 4) four, lt-ltb (word f at) 4 h)

    pub wrong_past : 4 ≤ word f at → length f < at + word f at → Some Cut ≡ wrong_at f at k b
    unfolding wrong_at cut_at
    wrong_past l h = rw (le-ltb (length f) (at + 4) four, le-ltb (word f at) 4 l, lt-ltb (length f) (at + word f at) h)

    module _ (least : 4 ≤ word f at) (within : at + word f at ≤ length f) where
      whole : cut_at f at ≡ false
      unfolding cut_at
      whole = rw (le-ltb (length f) (at + 4) four, le-ltb (word f at) 4 least, le-ltb (length f) (at + word f at) within)

      pub wrong_kind : kind_of (word f (at + 2)) ≡ None → Some UnknownKind ≡ wrong_at f at k b
      unfolding wrong_at
      wrong_kind e = rw (whole, unnamed f at e)

      module _ (n : Kind) (nn : kind_of (word f (at + 2)) ≡ Some n) where
        known : (unknown_at f at ≡ false) × (kind_number n ≡ word f (at + 2))
        known = named f at n nn

        pub wrong_formed : formed_as (kind_number n) f at ≡ false → Some Malformed ≡ wrong_at f at k b
        unfolding wrong_at
        wrong_formed e = rw (whole, known.0, ← known.1, e)

        pub wrong_sized : formed_as (kind_number n) f at ≡ true → sized_as (kind_number n) f at k b ≡ false → Some Oversize ≡ wrong_at f at k b
        unfolding wrong_at
        wrong_sized e h = rw (whole, known.0, ← known.1, e, h)

        pub wrong_fine : formed_as (kind_number n) f at ≡ true → sized_as (kind_number n) f at k b ≡ true → None ≡ wrong_at f at k b
        unfolding wrong_at
        wrong_fine e h = rw (whole, known.0, ← known.1, e, h)

pub ruleset asking = (wrong_out, wrong_few, wrong_small, wrong_past, wrong_kind, wrong_formed, wrong_sized, wrong_fine)

-- ---- 1 for a BEGIN
pub begin_byte : (b : Bool) → bool_byte b ≡ cond b 1 0
begin_byte true = refl
begin_byte false = refl

pub begin_most : (b : Bool) → bool_byte b ≤ 1
begin_most true = omega arith
begin_most false = omega arith
