-- An answer and the numbers that it gives determine each other, and no refusal gives 0. Assumes nothing.
--     gives_one                 one answer for a number and a record
--     numbers_one               one number and record for an answer
--     done_of, told_of          the case that gives 0, and the one that gives another number
--     before_some, reason_some  a refusal's number is not 0
--     run_gives                 whatever is said of a run gives a number and a record
use Prim.Native.Nat.{ℕ, ◌<◌}
use mathlib.Core.Path.{◌≡◌, refl, sym, ap, ◌∙◌, subst}
use mathlib.Core.List.{List}
use mathlib.Core.Logic.{◌⊎◌, inl, inr}
use native.Mathlib.Omega.{arith}
use Rattle.std.specs.Prelude.{Result, Ok, Err}
use Rattle.refusals.specs.declared.Refusal.{Refusal}
use Rattle.refusals.specs.Numbers.{number_of}
use Rattle.place.specs.declared.Place.{Place as Held}
use Rattle.program.proofs.CheckSays.{fault_some}
use Rattle.program.proofs.Numbers.{numbered as some, same_number}
use Rattle.order.specs.Trees.{Tree}
use Rattle.moves.specs.Places.{Place}
use Rattle.moves.specs.Stores.{Reason, at_end, wrong_value, zero_divisor, bad_index, too_deep, number, Store}
use Rattle.moves.specs.Runs.{Stop, made, because, stop_number}
use Rattle.moves.specs.Runs as runs
use Rattle.machine.specs.Walk.{told_by}
use Rattle.machine.specs.Answers.{Gives, done, numbered, Before, program, size, place, RunSays, refused, ran}

-- what is told: done, or refused
abbrev pub Told : Type 0
Told = Result (Unit {0}) Refusal

-- ---- a refusal's number and record tell it
pub refusal_one : (r r' : Refusal) → number_of r.reason ≡ number_of r'.reason → r.label ≡ r'.label → r ≡ r'
refusal_one r r' e l =
    let z : r.reason ≡ r'.reason = same_number r.reason r'.reason e in
    λ i. record { reason = z i; label = l i }

-- ---- an answer and its number and record
pub gives_done : {a : Told} → a ≡ Ok tt → Gives a 0 0
gives_done e = subst (λ (a : Told). Gives a 0 0) (sym e) done

pub gives_refused : {a : Told} {r : Refusal} → a ≡ Err r → Gives a (number_of r.reason) r.label
gives_refused {r = r} e = subst (λ (a : Told). Gives a (number_of r.reason) r.label) (sym e) numbered

-- the refusal that is told, with its number and record
pub record Numbered (a : Told) (n k : ℕ) : Type 0 where
  pub refusal : Refusal
  pub is : a ≡ Err refusal
  pub number : number_of refusal.reason ≡ n
  pub label : refusal.label ≡ k

-- the two cases, as equations
abbrev Case : Told → ℕ → ℕ → Type 0
Case a n k = ((a ≡ Ok tt) × (n ≡ 0) × (k ≡ 0)) ⊎ Numbered a n k

case : {a : Told} {n k : ℕ} → Gives a n k → Case a n k
case done = inl (refl, refl, refl)
case (numbered {r}) = inr (record { refusal = r; is = refl; number = refl; label = refl })

never : {X : Type 0} {r : Refusal} → ◌≡◌ {A = Told} (Ok tt) (Err r) → X
never e = let z : ◌≡◌ {A = ℕ} 0 1 = cc in absurd (omega arith)

pub gives_one : {a a' : Told} {n n' k k' : ℕ} → Gives a n k → Gives a' n' k' → n ≡ n' → k ≡ k' → a ≡ a'
gives_one {a} {a'} {n} {n'} {k} {k'} g g' en ek = go (case g) (case g')
  where
    go : Case a n k → Case a' n' k' → a ≡ a'
    go (inl x) (inl y) = x.0 ∙ sym y.0
    go (inl x) (inr y) = absurd (omega (arith, en, x.1, y.number, some y.refusal.reason))
    go (inr x) (inl y) = absurd (omega (arith, en, y.1, x.number, some x.refusal.reason))
    go (inr x) (inr y) = x.is ∙ (ap Err (refusal_one x.refusal y.refusal (x.number ∙ (en ∙ sym y.number)) (x.label ∙ (ek ∙ sym y.label))) ∙ sym y.is)

pub numbers_one : {a : Told} {n n' k k' : ℕ} → Gives a n k → Gives a n' k' → (n ≡ n') × (k ≡ k')
numbers_one {a} {n} {n'} {k} {k'} g g' = go (case g) (case g')
  where
    go : Case a n k → Case a n' k' → (n ≡ n') × (k ≡ k')
    go (inl x) (inl y) = (x.1 ∙ sym y.1, x.2 ∙ sym y.2)
    go (inl x) (inr y) = never (sym x.0 ∙ y.is)
    go (inr x) (inl y) = never (sym y.0 ∙ x.is)
    go (inr x) (inr y) =
        let e : ◌≡◌ {A = Told} (Err x.refusal) (Err y.refusal) = sym x.is ∙ y.is in
        let z : x.refusal ≡ y.refusal = cc in
        (sym x.number ∙ (ap (λ (r : Refusal). number_of r.reason) z ∙ y.number), sym x.label ∙ (ap (λ (r : Refusal). r.label) z ∙ y.label))

pub done_of : {a : Told} → Gives a 0 0 → a ≡ Ok tt
done_of g = gives_one g done refl refl

pub told_of : {a : Told} {n k : ℕ} → 0 < n → Gives a n k → Numbered a n k
told_of {a} {n} {k} h g = go (case g)
  where
    go : Case a n k → Numbered a n k
    go (inl x) = absurd (omega (arith, h, x.1))
    go (inr x) = x

-- what is refused is not done
pub not_none : {X : Type 0} {a : Told} {n k : ℕ} → 0 < n → Gives a n k → Gives a 0 0 → X
not_none h g g' = absurd (omega (arith, h, (numbers_one g g').0))

-- what a caller of the code knows where the answer is one of the cases
pub of_refused : {a : Told} {r : Refusal} → a ≡ Err r → (0 < number_of r.reason) × Gives a (number_of r.reason) r.label
of_refused {r = r} e = (some r.reason, gives_refused e)

pub done_gives : {a : Told} {n k : ℕ} → a ≡ Ok tt → Gives a n k → (0 ≡ n) × (0 ≡ k)
done_gives e g = numbers_one (gives_done e) g

pub refused_gives : {a : Told} {r : Refusal} {n k : ℕ} → a ≡ Err r → Gives a n k → (number_of r.reason ≡ n) × (r.label ≡ k)
refused_gives e g = numbers_one (gives_refused e) g

-- ---- no refusal has the number 0
pub before_some : {f : List ℕ} {q : Held} {σ : Store} {n k : ℕ} → Before f q σ n k → 0 < n
before_some {f} (program s) = fault_some f s
before_some (size A h) = omega arith
before_some (place A e h) = omega arith

pub reason_some : (r : Reason) → 0 < number r
reason_some at_end = omega arith
reason_some wrong_value = omega arith
reason_some zero_divisor = omega arith
reason_some bad_index = omega arith
reason_some too_deep = omega arith

-- what is told of a run's end
pub by_gives : (s : Stop) → Gives (told_by (stop_number s)) (stop_number s) 0
by_gives made = done
by_gives (because at_end) = gives_refused refl
by_gives (because wrong_value) = gives_refused refl
by_gives (because zero_divisor) = gives_refused refl
by_gives (because bad_index) = gives_refused refl
by_gives (because too_deep) = gives_refused refl

-- ---- whatever is said gives a number and a record
abbrev pub Some : Told → Type 0
Some a = (n : ℕ) × (k : ℕ) × Gives a n k

pub run_gives : {run : Tree → ℕ → Place → Store → runs.Ran} {f : List ℕ} {q q' : Held} {σ σ' : Store} {n k : ℕ} {a : Told} → RunSays run f q σ n a k q' σ' → Some a
run_gives (refused b g e₁ e₂ e₃) = (_, _, g)
run_gives (ran R g e₁ e₂ e₃) = (_, _, g)
