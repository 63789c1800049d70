-- Desk says one outcome for every file, session and number.
--     stepped_one, ran_one, begin_one, open_one, saving_one, check_one     any two outcomes that are said are equal
use Prim.Native.Nat.{ℕ}
use mathlib.Core.List.{List, []}
use mathlib.Core.Path.{◌≡◌, refl, sym, ap, ap₂, ◌∙◌, subst}
use native.Mathlib.Omega.{arith}
use lib.IntN.{pos}
use lib.ListN.{length, replicate, length-replicate}
use Rattle.std.specs.Prelude.{Result, Ok, Err}
use Rattle.codes.specs.Codes.{AllBytes}
use Rattle.refusals.specs.declared.Refusal.{Refusal}
use Rattle.place.specs.declared.Place.{Place as Held}
use Rattle.place.specs.Slots.{held}
use Rattle.order.specs.Trees.{Tree, cells}
use Rattle.program.specs.Says.{Accepts}
use Rattle.program.proofs.CheckSays.{determined, accepts_unique}
use Rattle.moves.specs.Places.{Place}
use Rattle.moves.specs.Stores.{Answer as Arrival, Store}
use Rattle.moves.specs.Step.{start}
use Rattle.moves.specs.Runs as runs
use Rattle.session.specs.Session.{Reads}
use Rattle.machine.specs.Answers.{Gives, Ready, direction}
use Rattle.machine.proofs.Giving.{numbers_one}
use Rattle.machine.proofs.OneAnswer.{no_way, not_both, faults_one, run_one, step_one}
use Rattle.saved.specs.Answers.{ReadBefore, ReadSays, Found}
use Rattle.saved.specs.Answers as saved
use Rattle.saved.proofs.OneAnswer.{before_one, before_found, read_one, save_one}
use Rattle.desk.specs.declared.Session.{Session}
use Rattle.desk.specs.declared.Answer.{Answer}
use Rattle.desk.specs.declared.Outcome.{Outcome}
use Rattle.desk.specs.declared.Counts.{Counts}
use Rattle.desk.specs.Desk.{numbers, made, store_of, laid, OverSays, program, size, MoveSays, over, within, steps_of, SteppedSays, RanSays, upward, BeginSays, refused, begun, OpenBefore, malformed, place, OpenSays, opened, SavingSays, written, counts, CheckSays, said}

-- what is told
abbrev Told : Type 0
Told = Result (Unit {0}) Refusal

-- one answer gives one number and record
same : {a a' : Told} {n k n' k' : ℕ} → a ≡ a' → Gives a n k → Gives a' n' k' → (n ≡ n') × (k ≡ k')
same {n' = n'} {k' = k'} e g g' = numbers_one g (subst (λ (a : Told). Gives a n' k') (sym e) g')

-- two refusals with one number and record
refusals : {s : Session} {n k n' k' : ℕ} {m m' : Outcome} → (n ≡ n') × (k ≡ k') → m ≡ made (numbers n k 0) s → m' ≡ made (numbers n' k' 0) s → m ≡ m'
refusals {s} z e e' = e ∙ (ap₂ (λ (n k : ℕ). made (numbers n k 0) s) z.0 z.1 ∙ sym e')

module _ {f : List ℕ} (B : AllBytes f) where
  over_one : {n k n' k' : ℕ} → OverSays f n k → OverSays f n' k' → (n ≡ n') × (k ≡ k')
  over_one (program s) (program s') = faults_one B s s'
  over_one (program s) (size A) = absurd (not_both B A s)
  over_one (size A) (program s) = absurd (not_both B A s)
  over_one (size A) (size A') = (refl, refl)

  module _ (s : Session) where
    -- where what `says` says is one answer
    move_one : {says : Told → ℕ → Held → Store → Type 0}
        {m m' : Outcome} → ((a a' : Told) (n n' : ℕ) (q q' : Held) (σ σ' : Store) → says a n q σ → says a' n' q' σ' → (a ≡ a') × (n ≡ n') × (q ≡ q') × (σ ≡ σ'))
        → MoveSays says f s m → MoveSays says f s m' → m ≡ m'
    move_one one (over h o e) (over h' o' e') = refusals (over_one o o') e e'
    move_one one (over h o e) (within h' r g e') = absurd (omega (arith, h, h'))
    move_one one (within h r g e) (over h' o e') = absurd (omega (arith, h, h'))
    move_one one (within h r g e) (within h' r' g' e') =
        let z = one _ _ _ _ _ _ _ _ r r' in let y = same z.0 g g' in e ∙ ((λ i. made (numbers (y.0 i) (y.1 i) (z.1 i)) (laid s (z.2 i) s.count (z.3 i))) ∙ sym e')

    pub stepped_one : (move : Tree → Place → Store → Arrival (Place × Store)) {m m' : Outcome} → SteppedSays move f s m → SteppedSays move f s m' → m ≡ m'
    stepped_one move p q = move_one (λ a a' k k' q q' σ σ' x y. let z = step_one B move x.0 y.0 in (z.0, x.1 ∙ (ap steps_of z.0 ∙ sym y.1), z.1, z.2)) p q

    pub ran_one : (run : Tree → ℕ → Place → Store → runs.Ran) (n : ℕ) {m m' : Outcome} → RanSays run f s n m → RanSays run f s n m' → m ≡ m'
    ran_one run n p q = move_one (λ a a' k k' q q' σ σ' x y. run_one B run n x y) p q

    pub begin_one : (d : ℕ) {m m' : Outcome} → BeginSays f s d m → BeginSays f s d m' → m ≡ m'
    begin_one d (refused b e) (refused b' e') = refusals (faults_one B b b') e e'
    begin_one d (refused b e) (begun A e') = absurd (not_both B A b)
    begin_one d (begun A e) (refused b e') = absurd (not_both B A b)
    begin_one d (begun {t} A e) (begun {t = t'} A' e') =
        e ∙ (ap (λ (t : Tree). made (numbers 0 0 0) (laid s (held (start t (direction (upward d)))) (cells t) (replicate (cells t) (pos 0)))) (accepts_unique f B t t' A A') ∙ sym e')

    -- ---- opening: a reading for a store of the program's size
    of_tree : {t : Tree} (σ : Store) → Accepts f t → length σ ≡ cells t → (t' : Tree) → Accepts f t' → length σ ≡ cells t'
    of_tree {t} σ A l t' A' = l ∙ ap cells (accepts_unique f B t t' A A')

    sized : {bytes : List ℕ} {n k : ℕ} → OpenBefore f bytes n k → (σ : Store) × ((t : Tree) → Accepts f t → length σ ≡ cells t)
    sized (program b) = ([], λ t A. absurd (not_both B A b))
    sized (malformed {t} A h) = (replicate (cells t) (pos 0), of_tree (replicate (cells t) (pos 0)) A (length-replicate (cells t) (pos 0)))
    sized (size {t} A R h) = (replicate (cells t) (pos 0), of_tree (replicate (cells t) (pos 0)) A (length-replicate (cells t) (pos 0)))
    sized (place {σ = σ} A R l h) = (σ, of_tree σ A l)

    module _ (σ : Store) (w : (t : Tree) → Accepts f t → length σ ≡ cells t) where
      before : {bytes : List ℕ} {n k : ℕ} → OpenBefore f bytes n k → ReadBefore f bytes σ n k
      before (program b) = saved.program b
      before (malformed A h) = saved.malformed A h
      before (size A R h) = saved.size A R (λ l. h l.0)
      before (place {t} A R l h) = saved.place A R l (w t A) h

      opens_one : {bytes : List ℕ} {n k n' k' : ℕ} → OpenBefore f bytes n k → OpenBefore f bytes n' k' → (n ≡ n') × (k ≡ k')
      opens_one {bytes} b b' = before_one f B bytes σ (before b) (before b')

    -- what is opened is read into a store of the program's size
    found : {bytes : List ℕ} {t : Tree} {p : Place} {q : Held} {σ τ : Store} → Reads bytes p σ → Ready f q σ t p → length τ ≡ cells t → Found f bytes τ q σ
    found {t = t} {p = p} R D l = record { tree = t; place = p; reads = R; ready = D; lent = l }

    open_never : {X : Type 0} {bytes : List ℕ} {n k : ℕ} {t : Tree} {p : Place} {q : Held} {σ : Store} → OpenBefore f bytes n k → Reads bytes p σ → Ready f q σ t p → X
    open_never {bytes = bytes} {σ = σ} b R D = no_way (before_found f B bytes σ (before σ (of_tree σ D.accepts D.sized) b) (found R D D.sized))

    pub open_one : (bytes : List ℕ) {m m' : Outcome} → OpenSays f bytes s m → OpenSays f bytes s m' → m ≡ m'
    open_one bytes (refused b e) (refused b' e') = let x = sized b in refusals (opens_one x.0 x.1 b b') e e'
    open_one bytes (refused b e) (opened R D e') = open_never b R D
    open_one bytes (opened R D e) (refused b e') = open_never b R D
    open_one bytes (opened {t} {q = q} {σ = σ} R D e) (opened {t = t'} {q = q'} {σ = σ'} R' D' e') =
        let u = accepts_unique f B t t' D.accepts D'.accepts in
        let z = read_one f B bytes σ (Ok q) (Ok q') σ σ' (found R D D.sized) (found R' D' (D.sized ∙ ap cells u)) in let y : q ≡ q' = let x = z.0 in cc in
        e ∙ ((λ i. made (numbers 0 0 0) (laid s (y i) (cells (u i)) (z.1 i))) ∙ sym e')

    pub saving_one : (buf : List ℕ) {a a' : Answer} {x x' : List ℕ} → SavingSays f s buf a x → SavingSays f s buf a' x' → (a ≡ a') × (x ≡ x')
    saving_one buf (over h o e ex) (over h' o' e' ex') = let z = over_one o o' in (e ∙ (ap₂ (λ (n k : ℕ). numbers n k 0) z.0 z.1 ∙ sym e'), ex ∙ sym ex')
    saving_one buf (over h o e ex) (within r h' w e') = absurd (omega (arith, h, h'))
    saving_one buf (within r h w e) (over h' o e' ex') = absurd (omega (arith, h, h'))
    saving_one buf {x = x} {x'} (within r h w e) (within r' h' w' e') = let z = save_one f B s.place (store_of s) buf r r' x x' w w' in (e ∙ (ap written z.0 ∙ sym e'), z.1)

  pub check_one : {c c' : Counts} → CheckSays f c → CheckSays f c' → c ≡ c'
  check_one (said b e) (said b' e') = e ∙ (ap counts (determined f B _ _ b b') ∙ sym e')
