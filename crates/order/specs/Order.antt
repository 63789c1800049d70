-- Refusal 6 as a check that goes over the kinds of the records once: what may come next, and which constructs are open.
-- proofs/OrderSays.antt joins it to Trees.Ordered and Trees.Misplaced, which are what a reader believes.
use Rattle.std.specs.Prelude.{ℕ, suc, List, [], ◌∷◌, map, Bool, true, false, cond, length, drop, ltb, eqb, option_and_then, option_map, unwrap_or, Option, Some, None, Result, Ok, Err}
use Rattle.records.specs.Records.{Record, kind}
use Rattle.records.specs.Kinds.{kind_of}
use Rattle.records.specs.declared.kind.Kind.{Kind}
use Rattle.records.specs.declared.kind.Kind.TheVariants as kind
use Rattle.order.specs.declared.open.Frame.{Frame}
use Rattle.order.specs.declared.open.Frame.TheVariants.{If, Else, From, Loop}
use Rattle.order.specs.declared.open.Phase.{Phase}
use Rattle.order.specs.declared.open.Phase.TheVariants.{Start, Named, Ended, Opened, Stated, Misplaced}

abbrev pub kinds : List Record → List ℕ
kinds rs = map kind rs

-- The phase: what has come; and the open constructs, innermost first.
pub record State : Type 0 where
  pub phase : Phase
  pub opens : List Frame

abbrev pub at : Phase → List Frame → State
at p fs = record { phase = p; opens = fs }

-- The code's state, none where no order is valid.
abbrev pub seen_in : Phase → State → Option State
seen_in Misplaced s = None
seen_in _ s = Some s

abbrev pub seen : State → Option State
seen s = seen_in s.phase s

-- "0 in IF's s1, 1 in its s2, 2 in FROM's s1, 3 in its s2"
abbrev pub frame_number : Frame → ℕ
frame_number If = 0
frame_number Else = 1
frame_number From = 2
frame_number Loop = 3

-- A record comes: the state after it, where it may stand.
abbrev pub named : Phase → List Frame → Option State
named Start fs = Some (at Named fs)
named _ fs = None

abbrev pub begun : Phase → List Frame → Option State
begun Named fs = Some (at Opened fs)
begun Ended fs = Some (at Opened fs)
begun _ fs = None

abbrev pub ended : Phase → List Frame → Option State
ended Stated [] = Some (at Ended [])
ended _ _ = None

abbrev pub passed : Phase → List Frame → Option State
passed Opened fs = Some (at Stated fs)
passed Stated fs = Some (at Stated fs)
passed _ fs = None

-- "at most 16 constructs open"
abbrev pub one_more : Frame → List Frame → Option State
one_more f fs = cond (ltb (length fs) 16) (Some (at Opened (f ∷ fs))) None

abbrev pub opened : Frame → Phase → List Frame → Option State
opened f Opened fs = one_more f fs
opened f Stated fs = one_more f fs
opened f _ fs = None

-- The part is f, and a statement of it has come.
abbrev pub meets : Frame → Phase → List Frame → Bool
meets f Stated (g ∷ fs) = eqb (frame_number g) (frame_number f)
meets f _ _ = false

abbrev pub turned : Frame → Frame → State → Option State
turned f g s = cond (meets f s.phase s.opens) (Some (at Opened (g ∷ drop 1 s.opens))) None

abbrev pub closed : Frame → State → Option State
closed f s = cond (meets f s.phase s.opens) (Some (at Stated (drop 1 s.opens))) None

abbrev pub after : State → Kind → Option State
after s kind.Names = named s.phase s.opens
after s kind.Begin = begun s.phase s.opens
after s kind.End = ended s.phase s.opens
after s kind.Set = passed s.phase s.opens
after s kind.If = opened If s.phase s.opens
after s kind.Else = turned If Else s
after s kind.Fi = closed Else s
after s kind.From = opened From s.phase s.opens
after s kind.Loop = turned From Loop s
after s kind.Until = closed Loop s
after s kind.Call = passed s.phase s.opens
after s kind.Uncall = passed s.phase s.opens
after s kind.Skip = passed s.phase s.opens

-- A record of the kind of that number comes.
unfoldable pub next : State → ℕ → Option State
next s n = option_and_then (after s) (kind_of n)

-- The records may stop there.
abbrev pub whole : Phase → Bool
whole Ended = true
whole _ = false

-- The kinds that are left, n records being before them: in order, or the first record that is misplaced.
unfoldable pub order_from : ℕ → State → List ℕ → Result (Unit {0}) ℕ
order_from n s [] = cond (whole s.phase) (Ok tt) (Err n)
order_from n s (k ∷ ks) = unwrap_or (option_map (λ t. order_from (suc n) t ks) (next s k)) (Err n)

unfoldable pub order_of : List ℕ → Result (Unit {0}) ℕ
order_of ks = order_from 0 (at Start []) ks
