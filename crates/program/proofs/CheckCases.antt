-- The answers of the check, case by case: what each `return` knows gives what the definition says.
use Rattle.std.proofs.Common.{ℕ, ◌≤◌, ◌<◌, ◌≡◌, List, Some, None, Result, Ok, Err, is_ok, true, false, refl, length}
use borrow.Author.Tests.{lt-ltb, le-ltb}
use Rattle.refusals.specs.declared.Refusal.{Refusal}
use Rattle.refusals.specs.declared.Reason.TheVariants.{TooLong, Misplaced, NotThere, OwnName}
use Rattle.records.specs.Faults.{word}
use Rattle.records.specs.Walk.{offsets, kinds_at}
use Rattle.records.specs.Reading.{walk_of}
use Rattle.records.specs.declared.Walked.{Walked}
use Rattle.order.specs.Order.{order_of}
use Rattle.names.specs.Names.{first_unknown, first_own}
use Rattle.program.specs.Check.{scalars_of, cells_of, refused, check_of}

module _ (f : List ℕ) where
  pub too_long : 32768 < length f → refused TooLong 0 ≡ check_of f
  unfolding check_of
  too_long h = rw (lt-ltb 32768 (length f) h)

  module _ (short : length f ≤ 32768) where
    pub faulty : (r : Refusal) → walk_of f ≡ Err r → Err r ≡ check_of f
    unfolding check_of
    faulty r e = rw (le-ltb 32768 (length f) short, e)

    module _ (w : Walked) (walked : walk_of f ≡ Ok w) where
      pub misplaced : (k : ℕ) → order_of (kinds_at f (offsets f)) ≡ Err k → refused Misplaced k ≡ check_of f
      unfolding check_of
      misplaced k e = rw (le-ltb 32768 (length f) short, walked, e)

      module _ (ordered : order_of (kinds_at f (offsets f)) ≡ Ok tt) where
        pub unknown : (k : ℕ) → first_unknown f (scalars_of f) (word f 6) w.procedures ≡ Some k → refused NotThere k ≡ check_of f
        unfolding check_of
        unknown k e = rw (le-ltb 32768 (length f) short, walked, ordered, e)

        module _ (known : first_unknown f (scalars_of f) (word f 6) w.procedures ≡ None) where
          pub own : (k : ℕ) → first_own f ≡ Some k → refused OwnName k ≡ check_of f
          unfolding check_of
          own k e = rw (le-ltb 32768 (length f) short, walked, ordered, known, e)

          pub accepted : first_own f ≡ None → Ok (record { records = w.records; procedures = w.procedures; cells = cells_of f }) ≡ check_of f
          unfolding check_of
          accepted e = rw (le-ltb 32768 (length f) short, walked, ordered, known, e)

-- ---- what `map_err` makes of the order
pub ordered_all : (r : Result (Unit {0}) ℕ) → true ≡ is_ok r → r ≡ Ok tt
ordered_all (Ok all) e = refl
ordered_all (Err k) e = cc

pub stuck_at : (r : Result (Unit {0}) ℕ) → false ≡ is_ok r → (k : ℕ) × (r ≡ Err k)
stuck_at (Ok all) e = cc
stuck_at (Err k) e = (k, refl)
