-- The answers of the functions of src/lib.rt, case by case. Assumes nothing.
use native.Mathlib.Omega.{arith}
use Prim.Native.Nat.{ℕ, ◌<◌, ◌≤◌}
use mathlib.Core.List.{List, ◌++◌}
use mathlib.Core.Path.{◌≡◌, refl, sym, ap, ◌∙◌, subst}
use lib.IntN.{pos}
use lib.ListN.{length, take, drop, replicate, take-append-drop}
use denote.Ref.{MutBor}
use Rattle.std.specs.Prelude.{Result, Ok, Err}
use Rattle.codes.specs.Codes.{AllBytes}
use Rattle.refusals.specs.Numbers.{number_of}
use Rattle.refusals.specs.declared.Refusal.{Refusal}
use Rattle.place.specs.declared.Place.{Place as Held}
use Rattle.place.specs.Slots.{held}
use Rattle.order.specs.Trees.{Tree, cells}
use Rattle.program.specs.Says.{given, Accepts, Says}
use Rattle.program.specs.declared.Counts.{Counts}
use Rattle.program.proofs.CheckSays.{TreeOf, accepted_of, accepts_unique}
use Rattle.program.proofs.Few.{counts_few}
use Rattle.moves.specs.Stores.{Store}
use Rattle.moves.specs.Step.{start}
use Rattle.machine.specs.Answers.{done, numbered, StartSays, started, direction}
use Rattle.machine.specs.Answers as machine
use Rattle.machine.specs.declared.Ran.{Ran}
use Rattle.saved.specs.Answers.{ReadBefore, Found}
use Rattle.saved.specs.Answers as saved
use Rattle.desk.specs.declared.Session.{Session}
use Rattle.desk.specs.declared.Answer.{Answer}
use Rattle.desk.specs.declared.Outcome.{Outcome}
use Rattle.desk.specs.Whole.{in_numbers, left, By}
use Rattle.desk.specs.Desk as desk
use Rattle.desk.specs.Desk.{numbers, made, store_of, laid, OverSays, size, MoveSays, over, within, BeginSays, begun, upward, OpenBefore, program, malformed, place, OpenSays, opened}

-- what is told
abbrev Told : Type 0
Told = Result (Unit {0}) Refusal

-- the session at its own place with its own store is the session
pub itself : (s : Session) (q : Held) (σ : Store) → q ≡ s.place → σ ≡ store_of s → laid s q s.count σ ≡ s
itself s q σ eq es = λ i. record { place = eq i; count = s.count; cells = (ap (λ (x : Store). x ++ drop s.count s.cells) es ∙ take-append-drop s.count s.cells) i }

-- ---- a move
module _ {says : Told → ℕ → Held → Store → Type 0} {f : List ℕ} {s : Session} where
  pub move_within : (told : Told) (steps : ℕ) (q : Held) (σ : Store) (a : Answer) → s.count ≤ 2048 → says told steps q σ → a ≡ in_numbers told steps
      → MoveSays says f s (made a (laid s q s.count σ))
  move_within (Ok tt) steps q σ a h r e = within h r done (ap (λ (a : Answer). made a (laid s q s.count σ)) e)
  move_within (Err x) steps q σ a h r e = within h r numbered (ap (λ (a : Answer). made a (laid s q s.count σ)) e)

-- what is said of the call that is lent the store is said of the move
module _ {post : MutBor Store → Ran → MutBor Store → Type 0} {f : List ℕ} {s : Session} {m : Outcome} (says : Store → Ran → Store → Type 0)
    (said : (lent back : MutBor Store) (r : Ran) → post lent r back → says lent.now r back.now) where
  pub moves : MoveSays (By post s) f s m → MoveSays (λ told steps q σ. says (store_of s) (record { told = told; steps = steps; place = q }) σ) f s m
  moves (over h o e) = over h o e
  moves (within {told} {steps = steps} {q = q} {σ = σ} h r g e) =
      let ran : Ran = record { told = told; steps = steps; place = q } in
      within h (subst (λ (σ : Store). says (store_of s) ran σ) r.leaves (subst (λ (σ : Store). says σ ran r.back.now) r.shows (said r.lent r.back ran r.met))) g e

-- ---- a program that is accepted
module _ (f : List ℕ) (c : Counts) (S : Says f (given (Ok c))) where
  tree_of : TreeOf f c.records c.procedures c.cells
  tree_of = accepted_of f (Ok c) c S refl

  pub over_accepted : OverSays f 20 0
  over_accepted = size tree_of.accepts

  pub cells_limit : c.cells ≤ 2048
  cells_limit = counts_few f (Ok c) S c refl

  module _ (B : AllBytes f) where
    cells_of : {t : Tree} → Accepts f t → c.cells ≡ cells t
    cells_of {t} A = tree_of.cells_are' ∙ ap cells (accepts_unique f B tree_of.tree t tree_of.accepts A)

    pub begin_begun : (s : Session) (d : ℕ) (q : Held) → StartSays f (direction (upward d)) (Ok q) → (z : Session) → z ≡ laid s q c.cells (replicate c.cells (pos 0)) → BeginSays f s d (left s (Ok z))
    begin_begun s d q (machine.refused b e) z ez = let x : ◌≡◌ {A = ℕ} 0 1 = cc in absurd (omega arith)
    begin_begun s d q (started {t} A e) z ez =
        let x : q ≡ held (start t (direction (upward d))) = cc in
        begun A (ap (made (numbers 0 0 0)) (ez ∙ (λ i. laid s (x i) (cells_of A i) (replicate (cells_of A i) (pos 0)))))

    -- what is refused in a reading for a store of the program's size
    opening : {bytes : List ℕ} {σ : Store} {n k : ℕ} → length σ ≡ c.cells → ReadBefore f bytes σ n k → OpenBefore f bytes n k
    opening w (saved.program b) = program b
    opening w (saved.malformed A h) = malformed A h
    opening w (saved.size A R h) = size A R (λ l. h (l, w ∙ cells_of A))
    opening w (saved.place A R l l' h) = place A R l h

    module _ (s : Session) (bytes : List ℕ) (l : length (take c.cells s.cells) ≡ c.cells) where
      pub open_refused : (r : Refusal) → ReadBefore f bytes (take c.cells s.cells) (number_of r.reason) r.label → OpenSays f bytes s (left s (Err r))
      open_refused r b = desk.refused (opening l b) refl

      pub open_found : (q : Held) (σ : Store) → Found f bytes (take c.cells s.cells) q σ → OpenSays f bytes s (left s (Ok (laid s q c.cells σ)))
      open_found q σ F = opened F.reads F.ready (ap (λ (n : ℕ). made (numbers 0 0 0) (laid s q n σ)) (cells_of F.ready.accepts))

-- a start that is refused
pub begin_refused : {f : List ℕ} {s : Session} {d : ℕ} (r : Refusal) → StartSays f (direction (upward d)) (Err r) → BeginSays f s d (left s (Err r))
begin_refused {f} {s} {d} r (machine.refused {e = r'} b e) = let x : r' ≡ r = cc in subst (λ (r : Refusal). BeginSays f s d (left s (Err r))) x (desk.refused b refl)
begin_refused r (started A e) = let x : ◌≡◌ {A = ℕ} 0 1 = cc in absurd (omega arith)
