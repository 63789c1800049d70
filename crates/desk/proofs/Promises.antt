-- What the promises say of a session that is lent.
--     step_kept                                          a step of the desk that is refused leaves the session as it was, to the last field
--     wrong_count_step, wrong_count_run, wrong_count_save
--                                                        of an accepted program a count other than its cell count, over 2,048 too, is 20, leaves the session, and writes nothing
use Prim.Native.Nat.{ℕ, ◌≤◌}
use mathlib.Core.List.{List}
use mathlib.Core.Path.{◌≡◌, refl, sym, ap, ◌∙◌}
use native.Mathlib.Omega.{arith}
use lib.ListN.{length}
use lib.Seq.{length-take-le}
use Rattle.codes.specs.Codes.{AllBytes}
use Rattle.order.specs.Trees.{Tree, cells}
use Rattle.program.specs.Says.{Accepts}
use Rattle.moves.specs.Places.{Place}
use Rattle.moves.specs.Stores.{Answer as Arrival, Store}
use Rattle.moves.specs.Runs.{Ran}
use Rattle.std.specs.Prelude.{Result, Err}
use Rattle.refusals.specs.declared.Reason.TheVariants.{WrongSize}
use Rattle.refusals.specs.declared.Refusal.{Refusal}
use Rattle.machine.specs.Answers.{Gives, numbered, Before, StepSays, refused, stopped, arrived}
use Rattle.machine.specs.Answers as machine
use Rattle.machine.proofs.Giving.{numbers_one}
use Rattle.saved.specs.Answers as saved
use Rattle.desk.specs.declared.Session.{Session}
use Rattle.desk.specs.declared.Answer.{Answer}
use Rattle.desk.specs.declared.Outcome.{Outcome}
use Rattle.desk.specs.Desk.{numbers, made, store_of, laid, size, over, within, SteppedSays, RanSays, SavingSays}
use Rattle.desk.proofs.Cases.{itself}
use Rattle.desk.proofs.OneAnswer.{stepped_one, ran_one, saving_one}

module _ (move : Tree → Place → Store → Arrival (Place × Store)) (f : List ℕ) (s : Session) where
  pub step_kept : (m : Outcome) → SteppedSays move f s m → (m.answer.reason ≡ 0 → ⊥) → m.session ≡ s
  step_kept m (over h o e) n = ap (λ (m : Outcome). m.session) e
  step_kept m (within {told} {q = q} {σ = σ} h r g e) n = ap (λ (m : Outcome). m.session) e ∙ kept r.0
    where
      kept : StepSays move f s.place (store_of s) told q σ → laid s q s.count σ ≡ s
      kept (refused b g' eq es) = itself s q σ eq es
      kept (stopped R a g' eq es) = itself s q σ eq es
      kept (arrived R a g' eq es) = absurd (n (ap (λ (m : Outcome). m.answer.reason) e ∙ (numbers_one g g').0))

module _ {f : List ℕ} (B : AllBytes f) (s : Session) (l : length s.cells ≡ 2048) (t : Tree) (A : Accepts f t) (ne : s.count ≡ cells t → ⊥) where
  abbrev wrong_size : Refusal
  wrong_size = record { reason = WrongSize; label = 0 }

  twenty : Gives (Err wrong_size) 20 0
  twenty = numbered

  before : s.count ≤ 2048 → Before f s.place (store_of s) 20 0
  before h = machine.size A (λ z. ne (sym (length-take-le s.count s.cells (omega (arith, h, l))) ∙ z))

  as_it_was : made (numbers 20 0 0) (laid s s.place s.count (store_of s)) ≡ made (numbers 20 0 0) s
  as_it_was = ap (made (numbers 20 0 0)) (itself s s.place (store_of s) refl refl)

  pub wrong_count_step : (move : Tree → Place → Store → Arrival (Place × Store)) (m : Outcome) → SteppedSays move f s m → m ≡ made (numbers 20 0 0) s
  wrong_count_step move m (over h o e) = stepped_one B s move (over h o e) (over h (size A) refl)
  wrong_count_step move m (within h r g e) = stepped_one B s move (within h r g e) (within h (refused (before h) twenty refl refl, refl) twenty refl) ∙ as_it_was

  pub wrong_count_run : (run : Tree → ℕ → Place → Store → Ran) (n : ℕ) (m : Outcome) → RanSays run f s n m → m ≡ made (numbers 20 0 0) s
  wrong_count_run run n m (over h o e) = ran_one B s run n (over h o e) (over h (size A) refl)
  wrong_count_run run n m (within h r g e) = ran_one B s run n (within h r g e) (within h (machine.refused (before h) twenty refl refl refl) twenty refl) ∙ as_it_was

  pub wrong_count_save : (buf : List ℕ) (a : Answer) (buf' : List ℕ) → SavingSays f s buf a buf' → (a ≡ numbers 20 0 0) × (buf' ≡ buf)
  wrong_count_save buf a buf' (over h o e x) = saving_one B s buf (over h o e x) (over h (size A) refl refl)
  wrong_count_save buf a buf' (within r h w e) = saving_one B s buf (within r h w e) (within (Err wrong_size) h (saved.before (before h), refl) refl)
