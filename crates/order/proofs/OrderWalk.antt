-- The loop over a file's records: what is left to be asked, record by record. Assumes nothing.
use Rattle.std.proofs.Common.{ℕ, ◌+◌, ◌≡◌, refl, List, [], ◌∷◌, true, false, Some, None, Result, Ok, Err, add-one, is_none}
use Rattle.records.specs.Walk.{kind_at, kinds_at}
use Rattle.order.specs.declared.open.Phase.{Phase}
use Rattle.order.specs.declared.open.Phase.TheVariants.{Misplaced}
use Rattle.order.specs.Order.{State, seen_in, seen, next, whole, order_from}

-- What is left, n records before these positions, in the state s.
abbrev pub left : List ℕ → ℕ → State → List ℕ → Result (Unit {0}) ℕ
left f n s ats = order_from n s (kinds_at f ats)

pub live : (s : State) → is_none (seen s) ≡ false → seen s ≡ Some s
live s e = go s.phase e
  where
    go : (p : Phase) → is_none (seen_in p s) ≡ false → seen_in p s ≡ Some s
    go Misplaced h = cc
    go _ h = refl

pub stuck : (s : State) → is_none (seen s) ≡ true → seen s ≡ None
stuck s e = go s.phase e
  where
    go : (p : Phase) → is_none (seen_in p s) ≡ true → seen_in p s ≡ None
    go Misplaced h = refl
    go _ h = cc

module _ (f : List ℕ) (n : ℕ) (s : State) (ats : List ℕ) where
  module _ (at : ℕ) (on : List ℕ) (steps : ats ≡ at ∷ on) where
    pub left_on : (t : State) → next s (kind_at f at) ≡ Some t → left f n s ats ≡ left f (n + 1) t on
    unfolding order_from kinds_at
    left_on t e = rw (steps, e, add-one n)

    pub left_stuck : next s (kind_at f at) ≡ None → left f n s ats ≡ Err n
    unfolding order_from kinds_at
    left_stuck e = rw (steps, e)

  module _ (none : ats ≡ []) where
    pub left_whole : whole s.phase ≡ true → left f n s ats ≡ Ok tt
    unfolding order_from kinds_at
    left_whole e = rw (none, e)

    pub left_short : whole s.phase ≡ false → left f n s ats ≡ Err n
    unfolding order_from kinds_at
    left_short e = rw (none, e)
