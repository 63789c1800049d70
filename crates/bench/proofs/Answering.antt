-- From what the machine, `saved` and `print` answer to what a command does.
--     saves_done                  a save of what stands is never refused: the buffer holds every session
--     goes, put_cell, read        what stands after a run, a `set` and a reading
--     starts, unread, found, ..   the cases of each command
--     .. -room                    what is answered lies within what was lent for it
use Prim.Native.Nat.{ℕ, ◌≤◌, ◌<◌, ◌+◌, ◌*◌, min}
use mathlib.Core.Path.{◌≡◌, refl, sym, ap, ◌∙◌, subst}
use mathlib.Core.List.{List, [], ◌++◌, flatten}
use native.Mathlib.Omega.{arith}
use lib.IntN.{ℤ}
use lib.ListN.{length, drop, set, length-set, length-append}
use Rattle.std.specs.Result.{result_ok}
use Rattle.std.specs.Prelude.{Option, Some, None, Result, Ok, Err, IsOk, IfSome}
use Rattle.refusals.specs.Numbers.{number_of}
use Rattle.refusals.specs.declared.Refusal.{Refusal}
use Rattle.codes.specs.Codes.{AllBytes}
use Rattle.place.specs.declared.Place.{Place as Held}
use Rattle.place.specs.Held.{held}
use Rattle.order.specs.Trees.{Tree, cells}
use Rattle.program.specs.Says.{fault, given, Accepts}
use Rattle.program.specs.Says as program
use Rattle.program.specs.declared.Counts.{Counts}
use Rattle.program.proofs.CheckSays.{TreeOf, accepted_tree, refused_of_lem, accepts_unique}
use Rattle.program.proofs.Few.{cells_few}
use Rattle.moves.specs.Places.{Dir, Place}
use Rattle.moves.specs.Stores.{Store, Sized}
use Rattle.moves.specs.Step.{start}
use Rattle.moves.specs.Runs.{Ran, run, run_back}
use Rattle.moves.proofs.Theorems.{start_fits, run_fits, run_back_fits}
use Rattle.fits.proofs.Few.{frames_few}
use Rattle.session.proofs.Frames.{length_encode}
use Rattle.session.specs.Session.{encode}
use Rattle.machine.specs.Answers.{Gives, Ready, RunSays, StartSays}
use Rattle.machine.specs.Answers as machine
use Rattle.machine.proofs.Giving.{Told}
use Rattle.machine.proofs.OneAnswer.{not_both, before_ready, start_one}
use Rattle.saved.specs.Answers.{ReadSays, SaveSays, SaveBefore, Found}
use Rattle.saved.specs.Answers as saving
use Rattle.words.proofs.Zeros.{length_copies}
use Rattle.print.specs.Told.{reason_of}
use Rattle.print.specs.Zeros.{noughts}
use Rattle.print.specs.Lines.{Text, refused_line, accepted_line, steps_line, frame_lines, cell_lines}
use Rattle.print.proofs.Rows.{Row, whole, within, size, size_append, refused_size, accepted_size, steps_size, at_size, frames_size, cells_size}
use Rattle.bench.specs.declared.answer.Answer.{Answer}
use Rattle.bench.specs.declared.command.Deed.{Deed}
use Rattle.bench.specs.Answers.{Checks, Tells, Keeps, Starts, Does, Answers, Lent, Moves, place_line, moved_lines, shown_lines}
use Rattle.bench.specs.Inner.{Counted, Stands, Sound, Saves, Room, RoomOf}
use Rattle.bench.specs.Answers as answers

-- ---- the lines fit
pub tells_refused : (text text' : List ℕ) (r n k : ℕ) → length text ≡ 151346 → Row text 0 (refused_line n k) text' r → Text text (refused_line n k) text' r
tells_refused text text' r n k l h = whole text text' r (refused_line n k) (omega (arith, l, refused_size n k)) h

pub tells_accepted : (text text' : List ℕ) (n r p c : ℕ) → length text ≡ 151346 → Row text 0 (accepted_line r p c) text' n → Text text (accepted_line r p c) text' n
tells_accepted text text' n r p c l h = whole text text' n (accepted_line r p c) (omega (arith, l, accepted_size r p c)) h

pub nothing : (text : List ℕ) → Text text [] text 0
unfolding flatten
nothing text = record { size = refl; bytes = refl }

pub tells_place : (text text' : List ℕ) (r : ℕ) (q : Held) → length text ≡ 151346 → Row text 0 (place_line q) text' r → Text text (place_line q) text' r
tells_place text text' r q l h = whole text text' r (place_line q) (omega (arith, l, at_size q.a q.b q.direction)) h

pub tells_moved : (text text' : List ℕ) (r n k : ℕ) (q : Held) → length text ≡ 151346 → Row text 0 (moved_lines n k q) text' r → Text text (moved_lines n k q) text' r
tells_moved text text' r n k q l h =
    whole text text' r (moved_lines n k q)
    (omega (arith, l, size_append (steps_line n k) (place_line q), steps_size n k, at_size q.a q.b q.direction)) h

pub tells_shown : (text text' : List ℕ) (r : ℕ) (q : Held) (σ : Store) → length text ≡ 151346 → length σ ≤ 2048 → Row text 0 (shown_lines q σ) text' r → Text text (shown_lines q σ) text' r
tells_shown text text' r q σ l few h =
    let m = min q.count 1104 in
    let fs = frame_lines m q.kinds q.labels in
    let k : m ≤ 1104 = omega arith in
    whole text text' r (shown_lines q σ)
    (omega (
      arith,
      l,
      few,
      size_append (place_line q) (fs ++ cell_lines 0 σ),
      size_append fs (cell_lines 0 σ),
      at_size q.a q.b q.direction,
      frames_size m q.kinds q.labels,
      cells_size 0 σ,
      k,
    )) h

-- ---- what is saved is said
pub keeps : {f : List ℕ} {q : Held} {σ : Store} {b b' text text' : List ℕ} {ws : List (List ℕ)} {said : ℕ} {r : Answer} → Saves f q σ b said r b' → Text text ws text' said → Keeps f q σ b text ws r b' text'
keeps k l = record { size = k.size; written = k.written; session = k.session; lines = rw k.said l }

-- ---- what stands
module _ {f : List ℕ} (B : AllBytes f) where
  stands_saved : {q : Held} {σ : Store} {b : List ℕ} {n k : ℕ} → length b ≡ 69961 → Stands f q σ → SaveBefore f q σ b n k → ⊥
  stands_saved l S (saving.before x) = before_ready B x S.2
  stands_saved {σ = σ} l S (saving.short {t} {p} R h) = omega (arith, h, l, length_encode p σ, frames_few R.accepts p R.fits, R.sized, cells_few R.accepts)

  pub saves_done : {q : Held} {σ : Store} (b b' : List ℕ) (r : Result ℕ Refusal) (w : Option ℕ) (said : ℕ) → length b ≡ 69961 → Stands f q σ → SaveSays f q σ b r b' → w ≡ result_ok r
      → Saves f q σ b said (record { written = w; said = said }) b'
  saves_done b b' (Ok n) w said l S h e = record { size = n; written = e; session = h; said = refl }
  saves_done b b' (Err x) w said l S h e = absurd (stands_saved l S h.0)

  pub goes : {q q' : Held} {σ σ' : Store} {told : Told} {n m : ℕ} → Sound f q σ → RunSays run f q σ n told m q' σ' → Stands f q' σ'
  goes S (machine.refused b g e₁ e₂ e₃) = absurd (before_ready B b S.2)
  goes {σ = σ} {n = n} S (machine.ran {t} {p} R g e₁ e₂ e₃) =
      let z = run_fits R.accepts n p σ R.fits (record { size = R.sized; range = S.3.range }) in
      (t, _, record { accepts = R.accepts; sized = ap length e₃ ∙ z.1.size; holds = e₂; fits = z.0 })

  pub goes_back : {q q' : Held} {σ σ' : Store} {told : Told} {n m : ℕ} → Sound f q σ → RunSays run_back f q σ n told m q' σ' → Stands f q' σ'
  goes_back S (machine.refused b g e₁ e₂ e₃) = absurd (before_ready B b S.2)
  goes_back {σ = σ} {n = n} S (machine.ran {t} {p} R g e₁ e₂ e₃) =
      let z = run_back_fits R.accepts n p σ R.fits (record { size = R.sized; range = S.3.range }) in
      (t, _, record { accepts = R.accepts; sized = ap length e₃ ∙ z.1.size; holds = e₂; fits = z.0 })

  module _ {n : ℕ} (C : Counted f n) where
    pub tree : TreeOf f C.0 C.1 n
    tree = (accepted_tree f C.0 C.1 n).0 C.2

    pub few : n ≤ 2048
    few = omega (arith, tree.cells_are', cells_few tree.accepts)

    pub lent : (σ : Store) → length σ ≡ n → Lent f σ
    lent σ e t A = e ∙ (tree.cells_are' ∙ ap cells (accepts_unique f B tree.tree t tree.accepts A))

    begun : {d : Dir} {r : Result Held Refusal} → StartSays f d r → r ≡ Ok (held (start tree.tree d))
    begun s = start_one B s (machine.started tree.accepts refl)

    pub begins : {d : Dir} (r : Result Held Refusal) → StartSays f d r → IsOk r
    begins r s = rw (begun s)

    at_start : {d : Dir} {r : Result Held Refusal} {q : Held} → StartSays f d r → r ≡ Ok q → q ≡ held (start tree.tree d)
    at_start {d} {q = q} s e = let z : ◌≡◌ {A = Result Held Refusal} (Ok q) (Ok (held (start tree.tree d))) = sym e ∙ begun s in cc

    pub stands_start : {d : Dir} {r : Result Held Refusal} {q : Held} {σ : Store} → StartSays f d r → r ≡ Ok q → σ ≡ noughts n → Stands f q σ
    stands_start {d} s i e =
        (tree.tree, start tree.tree d, record { accepts = tree.accepts; sized = ap length e ∙ (length_copies n _ ∙ tree.cells_are'); holds = at_start s i; fits = start_fits tree.accepts d })

    pub starts : {d : Dir} {a : Result Held Refusal} {q : Held} {σ : Store} {b b' text text' : List ℕ} {said : ℕ} {r : Answer} → StartSays f d a → a ≡ Ok q → σ ≡ noughts n → Saves f q σ b said r b'
        → Text text (place_line q) text' said → Starts f d b text r b' text'
    starts {d} {σ = σ} {b} {b'} {text} {text'} {r = r} s i e k l =
        let q = held (start tree.tree d) in
        answers.started tree.accepts
        (subst (λ (τ : Store). Keeps f q τ b text (place_line q) r b' text') (e ∙ ap noughts tree.cells_are')
        (subst (λ (x : Held). Keeps f x σ b text (place_line x) r b' text') (at_start s i) (keeps k l)))

  -- a refused file's session is not read, whatever store is lent
  pub unchecked : {a : Result Counts Refusal} (e : Refusal) {c : Deed} {s b b' text text' : List ℕ} {r : Answer} → program.Says f (given a) → a ≡ Err e → Tells b text (refused_line (number_of e.reason) e.label) r b' text'
      → Answers c f s b text (Some r) b' text'
  unchecked {a} e says i x =
      let h = refused_of_lem f a e says i in
      answers.unread e {σ = []} {σ' = []} (λ t A. absurd (not_both B A h)) (saving.program h, refl) refl x

-- a cell that is set
pub put_cell : {f : List ℕ} {q : Held} {σ : Store} (i : ℕ) (v : ℤ) → Sound f q σ → Stands f q (set σ i v)
put_cell {σ = σ} i v S = (S.0, S.1, record { accepts = S.2.accepts; sized = length-set σ i v ∙ S.2.sized; holds = S.2.holds; fits = S.2.fits })

pub sound_few : {f : List ℕ} {q : Held} {σ : Store} → Sound f q σ → length σ ≤ 2048
sound_few S = omega (arith, S.2.sized, cells_few S.2.accepts)

-- ---- the cases of each command
-- the number that is printed is the one that is given
pub gives_reason : (told : Told) → (k : ℕ) × Gives told (reason_of told) k
gives_reason (Ok tt) = (0, machine.done)
gives_reason (Err r) = (r.label, machine.numbered)

pub moved : {going : Tree → ℕ → Place → Store → Ran} {f : List ℕ} {q q' : Held} {σ σ' : Store} {b b' text text' : List ℕ} {r : Answer} {told : Told} {n m : ℕ}
    → RunSays going f q σ n told m q' σ' → Keeps f q' σ' b text (moved_lines m (reason_of told) q') r b' text' → Moves going n f q σ b text r b' text'
moved {told = told} u h = answers.moves u (gives_reason told).1 h

pub deed : {f : List ℕ} {b b' text text' : List ℕ} {r : Option Answer} {c d : Deed} {q : Held} {σ : Store} → c ≡ d → Does f q σ b text r b' text' d → Does f q σ b text r b' text' c
deed {f} {b} {b'} {text} {text'} {r} {q = q} {σ} e x = subst (λ (c : Deed). Does f q σ b text r b' text' c) (sym e) x

pub read : {f s : List ℕ} {σ σ' : Store} {q : Held} → Found f s σ q σ' → Sound f q σ'
read h = (h.tree, h.place, h.ready, record { size = h.ready.sized; range = h.reads.fit.cells })

-- ---- what is answered lies within what was lent for it
rests : {f : List ℕ} {q : Held} {σ : Store} {b b' : List ℕ} {n : ℕ} → SaveSays f q σ b (Ok n) b' → n ≤ length b'
rests {σ = σ} {b} h = omega (arith, h.count, ap length h.bytes, length-append (encode h.place σ) (drop (length (encode h.place σ)) b))

tells_room : {b b' text text' : List ℕ} {r : Answer} {ws : List (List ℕ)} → Tells b text ws r b' text' → Room r (length b') (length text')
tells_room h = record { session = rw h.none tt; lines = within h.lines }

module _ {f b b' text text' : List ℕ} where
  keeps_room : {q : Held} {σ : Store} {ws : List (List ℕ)} {r : Answer} → Keeps f q σ b text ws r b' text' → Room r (length b') (length text')
  keeps_room h = record { session = rw h.written (rests h.session); lines = within h.lines }

  does_room : {q : Held} {σ : Store} {c : Deed} {r : Option Answer} → Does f q σ b text r b' text' c → RoomOf r (length b') (length text')
  does_room (answers.steps e (answers.moves u g h)) = rw e (keeps_room h)
  does_room (answers.backs e (answers.moves u g h)) = rw e (keeps_room h)
  does_room (answers.sets l e h) = rw e (keeps_room h)
  does_room (answers.not_there l e e₁ e₂) = rw e tt
  does_room (answers.shows e h) = rw e (tells_room h)

  pub started_room : {d : Dir} {r : Answer} → Starts f d b text r b' text' → Room r (length b') (length text')
  started_room (answers.Starts.refused s h) = tells_room h
  started_room (answers.started A h) = keeps_room h

  pub answered_room : {c : Deed} {s : List ℕ} {r : Option Answer} → Answers c f s b text r b' text' → RoomOf r (length b') (length text')
  answered_room (answers.unread e l h i x) = rw i (tells_room x)
  answered_room (answers.found q l h x) = does_room x

pub checks_room : {f b c : List ℕ} {n : ℕ} → Checks f b c n → n ≤ length c
checks_room (answers.Checks.refused s h) = within h
checks_room (answers.accepted s h) = within h
