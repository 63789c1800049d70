-- `words::digits` meets its contract, a law for each return. Assumes nothing.
use mathlib.Core.Path.{◌≡◌, ap}
use mathlib.Core.List.{[], ◌∷◌}
use Prim.Native.Nat.{ℕ, ◌-◌, ◌/◌}
use native.Mathlib.Omega.{arith}
use Rattle.words.specs.Words.{last_digit, decimal_by}
use Rattle.words.proofs.Writing.{short, length_digits, stored, stored_after}
use Rattle.words.proofs.+digits.Goals as goal
use Rattle.words.proofs.+digits.Goals.{then-left-eq0-via-then-left-eq0, then-left-eq0-via-else-left-eq0+then-n-lt10}

pub returns-then-left-eq0 : goal.returns-then-left-eq0
unfolding decimal_by
returns-then-left-eq0 t c = let a = c.args in
    let d = c.put_digit in
    let one : decimal_by a.left a.n ≡ last_digit a.n ∷ [] = elim c.then-left-eq0.branch [
      | then-left-eq0-via-then-left-eq0 w ↦ ap (λ (k : ℕ). decimal_by k a.n) w.if-left-eq0.true
      | then-left-eq0-via-else-left-eq0+then-n-lt10 w ↦ short a.left a.n w.if-n-lt10.true
    ] in
    let h = stored a.text.now d.new.text a.at d.result a.left a.n one d.ensures.value d.ensures.text_after in
    record { value = h.0; text_after = h.1 }

pub put_digit-requires-2 : goal.put_digit-requires-2
put_digit-requires-2 t c = omega (arith, c.digits-end.ensures.value, length_digits (c.args.left - 1) (c.args.n / 10))

pub returns : goal.returns
returns t c = let a = c.args in
    let d = c.digits-end in
    let e = c.put_digit-2 in
    let h = stored_after a.text.now d.new.text e.new.text a.at d.result e.result a.left a.n c.if-left-eq0.false c.if-n-lt10.false
    d.ensures.value d.ensures.text_after e.ensures.value e.ensures.text_after in
    record { value = h.0; text_after = h.1 }
