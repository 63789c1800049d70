-- The array of open constructs as a list, and the answers of the record functions on it, case by case. Assumes nothing.
use Rattle.std.proofs.Common.{ℕ, Bool, zero, suc, ◌+◌, ◌-◌, ◌≤◌, ◌<◌, ◌≡◌, refl, ap, ap₂, ◌∙◌, List, [], ◌∷◌, true, false, None, ◌⊎◌, inl, inr, length, get_or, set, drop, arith, add-one}
use borrow.Author.Tests.{lt-ltb, le-ltb}
use lib.Seq.{get_or-set_same, get_or-set_other}
use denote.Enum.Bare.{sameb}
use denote.Enum.Declared.{tag_of}
use Rattle.order.specs.contracts.open.Frame.{the_type}
use Rattle.order.specs.declared.open.Frame.{Frame}
use Rattle.order.specs.declared.open.Frame.TheVariants.{If}
use Rattle.order.specs.declared.open.Phase.{Phase}
use Rattle.order.specs.declared.open.Phase.TheVariants.{Ended, Opened, Stated, Misplaced}
use Rattle.order.specs.Order.{State, at, ended, opened, meets, turned, closed, frame_number, seen}
use Rattle.order.specs.Stack.{stack}

-- ---- The stack.
length_stack : (fs : List Frame) (n : ℕ) → length (stack fs n) ≡ n
unfolding stack
length_stack fs zero = refl
length_stack fs (suc n) = ap suc (length_stack fs n)

stack_set : (fs : List Frame) (i : ℕ) (f : Frame) (n : ℕ) → n ≤ i → stack (set fs i f) n ≡ stack fs n
unfolding stack
stack_set fs i f zero h = refl
stack_set fs i f (suc n) h = ap₂ ◌∷◌ (get_or-set_other fs i n f If (omega arith)) (stack_set fs i f n (omega arith))

stack_top : (fs : List Frame) (n : ℕ) → 0 < n → stack fs n ≡ get_or fs (n - 1) If ∷ stack fs (n - 1)
unfolding stack
stack_top fs zero h = absurd (omega arith)
stack_top fs (suc n) h = let z : suc n - 1 ≡ n = omega arith in rw z

stack_push : (fs : List Frame) (n : ℕ) (f : Frame) → n < length fs → stack (set fs n f) (n + 1) ≡ f ∷ stack fs n
unfolding stack
stack_push fs n f h = rw (add-one n) (ap₂ ◌∷◌ (get_or-set_same fs n f If h) (stack_set fs n f n (omega arith)))

pub stack_turn : (fs : List Frame) (n : ℕ) (f : Frame) → 0 < n → n ≤ length fs → stack (set fs (n - 1) f) n ≡ f ∷ drop 1 (stack fs n)
stack_turn fs n f h k =
    rw (stack_top fs n h)
    (stack_top (set fs (n - 1) f) n h
    ∙ ap₂ ◌∷◌ (get_or-set_same fs (n - 1) f If (omega arith)) (stack_set fs (n - 1) f (n - 1) (omega arith)))

pub stack_pop : (fs : List Frame) (n : ℕ) → 0 < n → stack fs (n - 1) ≡ drop 1 (stack fs n)
stack_pop fs n h = rw (stack_top fs n h)

-- ---- The record functions, over the state s that the code keeps.
ended_not : (p : Phase) (gs : List Frame) → (p ≡ Stated → ⊥) → None ≡ ended p gs
ended_not Stated gs h = absurd (h refl)
ended_not _ gs h = refl

opened_not : (f : Frame) (p : Phase) (gs : List Frame) → (p ≡ Opened → ⊥) → (p ≡ Stated → ⊥) → None ≡ opened f p gs
opened_not f Opened gs h k = absurd (h refl)
opened_not f Stated gs h k = absurd (k refl)
opened_not f _ gs h k = refl

number : (f : Frame) → tag_of the_type f ≡ frame_number f
number If = refl
number _ = refl

some_met : (f : Frame) (p : Phase) (fs : List Frame) (n : ℕ) → true ≡ meets f p (stack fs n) → 0 < n
unfolding stack
some_met f p fs zero h = go p h
  where
    go : (p : Phase) → true ≡ meets f p [] → 0 < 0
    go Stated h = cc
    go _ h = cc
some_met f p fs (suc n) h = omega arith

module _ (p : Phase) (fs : List Frame) (n : ℕ) (s : State) (v : at p (stack fs n) ≡ s) where
  pub ended_yes : (r : State) → p ≡ Stated → n ≡ 0 → r ≡ at Ended s.opens → seen r ≡ ended s.phase s.opens
  unfolding stack
  ended_yes r e z k = rw (k, ← v, e, z)

  pub ended_open : (r : State) → p ≡ Stated → (n ≡ 0 → ⊥) → r ≡ at Misplaced s.opens → seen r ≡ ended s.phase s.opens
  ended_open r e z k = rw (k, ← v, e, stack_top fs n (omega arith))

  pub ended_out : (r : State) → (p ≡ Stated → ⊥) → r ≡ at Misplaced s.opens → seen r ≡ ended s.phase s.opens
  ended_out r h k = rw (k, ← v) (ended_not p (stack fs n) h)

  module _ (f : Frame) where
    pub opened_yes : (r : State) → (p ≡ Opened) ⊎ (p ≡ Stated) → n < 16 → n < length fs → r ≡ at Opened (stack (set fs n f) (n + 1)) → seen r ≡ opened f s.phase s.opens
    opened_yes r e h k q =
        rw (q, ← v)
        elim e [
          | inl q ↦ rw (q, length_stack fs n, lt-ltb n 16 h, stack_push fs n f k)
          | inr q ↦ rw (q, length_stack fs n, lt-ltb n 16 h, stack_push fs n f k)
        ]

    pub opened_full : (r : State) → (p ≡ Opened) ⊎ (p ≡ Stated) → 16 ≤ n → r ≡ at Misplaced s.opens → seen r ≡ opened f s.phase s.opens
    opened_full r e h k =
        rw (k, ← v)
        elim e [ inl q ↦ rw (q, length_stack fs n, le-ltb n 16 h) | inr q ↦ rw (q, length_stack fs n, le-ltb n 16 h) ]

    pub opened_out : (r : State) → (p ≡ Opened → ⊥) → (p ≡ Stated → ⊥) → r ≡ at Misplaced s.opens → seen r ≡ opened f s.phase s.opens
    opened_out r h k q = rw (q, ← v) (opened_not f p (stack fs n) h k)

    pub meets_yes : (b : Bool) → p ≡ Stated → (n ≡ 0 → ⊥) → b ≡ sameb the_type (get_or fs (n - 1) If) f → b ≡ meets f s.phase s.opens
    meets_yes b e z q = rw (q, ← v, e, stack_top fs n (omega arith), number f, number (get_or fs (n - 1) If))

    pub meets_none : p ≡ Stated → n ≡ 0 → false ≡ meets f s.phase s.opens
    unfolding stack
    meets_none e z = rw (← v, e, z)

    module _ (m : true ≡ meets f s.phase s.opens) where
      pub some_open : 0 < n
      some_open = some_met f p fs n (rw (← v) at m)

      pub turned_yes : (r : State) (g : Frame) → n ≤ length fs → r ≡ at Opened (stack (set fs (n - 1) g) n) → seen r ≡ turned f g s
      turned_yes r g h q = rw (q, ← m, stack_turn fs n g some_open h, ← v)

      pub closed_yes : (r : State) → r ≡ at Stated (stack fs (n - 1)) → seen r ≡ closed f s
      closed_yes r q = rw (q, ← m, stack_pop fs n some_open, ← v)

pub ruleset ends = (ended_yes, ended_open, ended_out)

pub ruleset meeting = (meets_yes, meets_none, some_open)
