-- The lines of a text are its first line and those from the next line on.
use Prim.Native.Nat.{ℕ, suc, ◌+◌, ◌≤◌, ◌<◌}
use mathlib.Core.Path.{◌≡◌, refl, ap, ◌∙◌}
use mathlib.Core.Bool.{Bool, true, false, cond, ◌||◌}
use mathlib.Core.List.{List, [], ◌∷◌}
use native.Mathlib.Omega.{arith}
use borrow.Author.Tests.{ne_eqb}
use lib.Dec.{eqb}
use lib.ListN.{length, drop, length-drop, drop_of_length-le}
use lib.Seq.{drop-drop}
use Rattle.words.specs.Words.{line_length, next_line}
use Rattle.words.proofs.Lines.{later}
use Rattle.lines.specs.Line.{line_count}

-- x is what follows a byte, t says whether that is a newline
turn : (t : Bool) (x : List ℕ) → line_count x ≡ suc (line_count (drop (line_length x) x))
    → cond (t || false) (suc (line_count x)) (line_count x) ≡ suc (line_count (drop (cond t 0 (line_length x)) x))
turn true x h = refl
turn false x h = h

last : (t : Bool) → cond (t || true) 1 0 ≡ suc (line_count (drop (cond t 0 0) []))
unfolding line_count
last true = refl
last false = refl

first_line : (x : List ℕ) → 0 < length x → line_count x ≡ suc (line_count (drop (line_length x) x))
unfolding line_count line_length
first_line [] h = absurd (omega arith)
first_line (b ∷ []) h = last (eqb b 10)
first_line (b ∷ (a ∷ s)) h =
    rw (ne_eqb (suc (length s)) 0 (λ e. omega arith)) (turn (eqb b 10) (a ∷ s) (first_line (a ∷ s) (omega arith)))

-- a line has a byte at least
pub lines_few : (s : List ℕ) → line_count s ≤ length s
unfolding line_count
lines_few [] = omega arith
lines_few (b ∷ s) = one (eqb b 10 || eqb (length s) 0) (lines_few s)
  where
    one : (t : Bool) → line_count s ≤ length s → cond t (suc (line_count s)) (line_count s) ≤ suc (length s)
    one true h = omega arith
    one false h = omega arith

module _ (s : List ℕ) where
  -- n lines stand before `at`
  pub record Counted (at n : ℕ) : Type 0 where
    pub count : n + line_count (drop at s) ≡ line_count s
    pub few : n ≤ at

  pub none : Counted 0 0
  none = record { count = omega arith; few = omega arith }

  pub one_more : (at n r : ℕ) → at < length s → r ≡ next_line s at → Counted at n → Counted r (n + 1)
  one_more at n r h e c =
      let d : line_count (drop at s) ≡ suc (line_count (drop r s)) =
      first_line (drop at s) (omega (arith, length-drop at s)) ∙ ap (λ (x : List ℕ). suc (line_count x)) (drop-drop (line_length (drop at s)) at s) ∙ rw e in
      record { count = omega (arith, c.count); few = omega (arith, c.few, later s at h) }

  pub all : (at n : ℕ) → length s ≤ at → Counted at n → n ≡ line_count s
  unfolding line_count
  all at n h c = omega (arith, c.count, ap line_count (drop_of_length-le s h))
