-- What the public functions compute is what Answers says, for every file, struct and store.
use Prim.Native.Nat.{ℕ, zero, suc, ◌+◌, ◌≤◌}
use mathlib.Core.Path.{◌≡◌, refl, sym, ap, ◌∙◌, subst}
use mathlib.Core.Bool.{Bool, true, false, cond}
use mathlib.Core.List.{List, [], ◌∷◌, map, reverse, reverse-cons}
use lib.ListN.{length, length-map, length-reverse}
use lib.IntN.{pos}
use native.Mathlib.Omega.{arith}
use Rattle.std.proofs.lemmas.List.{take_at}
use Rattle.std.proofs.lemmas.List.Sums.{sum_by-append}
use Rattle.std.specs.Prelude.{◌==◌, count_by, Ok, Err}
use Rattle.refusals.specs.declared.Refusal.{Refusal}
use Rattle.program.specs.declared.Counts.{Counts}
use Rattle.place.specs.declared.Place.{Place as Held}
use Rattle.place.specs.Places.{Frame, frame_kind, Place, turn}
use Rattle.place.specs.Slots.{held}
use Rattle.place.specs.Methods.{turned_of}
use Rattle.place.proofs.Laws.{turned_held, turned_twice}
use Rattle.order.specs.Trees.{Tree, records_of, cells}
use Rattle.program.specs.Says.{given, Accepts, Says}
use Rattle.program.specs.Arrays.{arrays_at}
use Rattle.program.proofs.CheckSays.{accepted_tree}
use Rattle.moves.specs.Places.{calls, Fits}
use Rattle.moves.specs.Stores.{Answer, ok, no, bind, Store}
use Rattle.moves.specs.Step.{step, step_back}
use Rattle.moves.specs.Runs.{stop_number, onward, run_by, run, run_back}
use Rattle.moves.specs.Runs as runs
use Rattle.moves.proofs.Runs.{counted}
use Rattle.moves.proofs.Accepted.{accepted_wf}
use Rattle.moves.proofs.Match.{fits_placed}
use Rattle.moves.proofs.Undo.{turn_turn, turn_fits}
use Rattle.table.specs.Table.{table_of}
use Rattle.table.proofs.Tabled.{tabled}
use Rattle.fits.proofs.FitsLaw.{fits_law}
use Rattle.machine.specs.declared.Ran.{Ran}
use Rattle.decide.specs.Ways.{rule_in}
use Rattle.machine.specs.Walk.{calls_of, stand_of, Gone, gone, go_of}
use Rattle.machine.specs.Copies.{filled}
use Rattle.machine.specs.Whole.{staying, given_back, Copied, CheckedRun}
use Rattle.machine.specs.Whole as whole
use Rattle.machine.specs.Answers.{Gives, Before, program, size, place, Ready, StepSays, refused, stopped, arrived, RunSays, ran}
use Rattle.fits.proofs.Few.{room}
use Rattle.machine.proofs.Giving.{Told, gives_refused, by_gives}
use Rattle.machine.proofs.Copied.{walked_copied}

-- ---- the calls among the frames
calls_are : (fs : List Frame) → count_by (λ k. k == 4) (reverse (map frame_kind fs)) ≡ calls fs
calls_are [] = refl
calls_are (i ∷ F) =
    rw (reverse-cons (frame_kind i) (map frame_kind F), sum_by-append (λ k. cond (k == 4) 1 0) (reverse (map frame_kind F)) (frame_kind i ∷ []), calls_are F) (one (frame_kind i == 4) (calls F))
  where
    one : (b : Bool) (n : ℕ) → n + (0 + cond b 1 0) ≡ cond b (suc n) n
    one true n = omega arith
    one false n = omega arith

calls_held : (p : Place) → length p.frames ≤ 1104 → calls_of (held p) ≡ calls p.frames
calls_held p h =
    let R = reverse (map frame_kind p.frames) in
    let e : length R ≡ length p.frames = length-reverse (map frame_kind p.frames) ∙ length-map p.frames frame_kind in
    ap (count_by (λ k. k == 4)) (take_at R _ (length p.frames) e) ∙ calls_are p.frames

-- ---- a run forward
module _ (f : List ℕ) (q : Held) (σ : Store) (n : ℕ) where
  abbrev Says-run : Ran → Store → Type 0
  Says-run r τ = RunSays run f q σ n r.told r.steps r.place τ

  module _ (t : Tree) (A : Accepts f t) where
    -- the calls are counted in the struct
    calls_of_lem : (p : Place) → q ≡ held p → Fits t p → calls_of q ≡ calls p.frames
    calls_of_lem p h fit =
        let k = fits_placed t (accepted_wf A) p fit in
        let room_p : length p.frames ≤ 1104 = subst (λ p. length p.frames ≤ 1104) (sym k.is) (room A k.cut k.sits) in
        ap calls_of h ∙ calls_held p room_p

    -- what a run on the copies says
    fitting : length σ ≡ cells t → (p : Place) → q ≡ held p → Fits t p → (r : Ran) (τ : Store) → Copied f (table_of f) (length (records_of t)) q σ n r τ → Says-run r τ
    fitting e p h fit r τ c =
        let bytes = filled 32784 f 0 in
        let g = (λ i. given_back σ (go_of (rule_in bytes c.map (arrays_at f)) n (stand_of (h i)) (calls_of_lem p h fit i) (filled 2048 σ (pos 0)) 0)) ∙ walked_copied A c.maps p fit σ e n in
        let k : r ≡ (gone (stop_number (run t n p σ).stop) (run t n p σ).steps (held (run t n p σ).place) (run t n p σ).store).ran = c.goes.ran ∙ ap (λ (x : Gone). x.ran) g in
        ran (record { accepts = A; sized = e; holds = h; fits = fit })
        (subst (λ (a : Told). Gives a (stop_number (run t n p σ).stop) 0) (sym (ap (λ (r : Ran). r.told) k)) (by_gives (run t n p σ).stop))
        (ap (λ (r : Ran). r.steps) k)
        (ap (λ (r : Ran). r.place) k)
        (c.goes.left ∙ ap (λ (x : Gone). x.store) g)

    checked_is : (c : Counts) → c.records ≡ length (records_of t) → c.cells ≡ cells t → (r : Ran) (τ : Store) → CheckedRun f c q σ n r τ → Says-run r τ
    checked_is c er ec r τ (whole.size h e k) =
        refused (size A (λ x. h (x ∙ sym ec))) (gives_refused (ap (λ (r : Ran). r.told) e)) (ap (λ (r : Ran). r.steps) e) (ap (λ (r : Ran). r.place) e) k
    checked_is c er ec r τ (whole.place h b e k) =
        refused (place A (h ∙ ec) (λ p x y. unfit p x y)) (gives_refused (ap (λ (r : Ran). r.told) e)) (ap (λ (r : Ran). r.steps) e) (ap (λ (r : Ran). r.place) e) k
      where
        unfit : (p : Place) → q ≡ held p → Fits t p → ⊥
        unfit p x y = (rw b at (fits_law f t (table_of f) c.records q A (tabled f t A) er)) (p, (x, y))
    checked_is c er ec r τ (whole.went h b g) =
        let D = rw b at (fits_law f t (table_of f) c.records q A (tabled f t A) er) in
        fitting (h ∙ ec) D.0 D.1.0 D.1.1 r τ (subst (λ (m : ℕ). Copied f (table_of f) m q σ n r τ) er g)

  -- a file that the check accepts, and one that it refuses
  pub checked_says : (c : Counts) → Says f (given (Ok c)) → (r : Ran) (τ : Store) → CheckedRun f c q σ n r τ → Says-run r τ
  checked_says c s r τ h =
      let T = (accepted_tree f c.records c.procedures c.cells).0 s in
      checked_is T.tree T.accepts c T.records_are T.cells_are' r τ h

  pub refused_says : (e : Refusal) → Says f (given (Err e)) → (r : Ran) → r ≡ staying e q → Says-run r σ
  refused_says e s r h = refused (program s) (gives_refused (ap (λ (r : Ran). r.told) h)) (ap (λ (r : Ran). r.steps) h) (ap (λ (r : Ran). r.place) h) refl

-- ---- a run of one is a step
module _ (move : Tree → Place → Store → Answer (Place × Store)) (f : List ℕ) (q : Held) (σ : Store) where
  one_step : (t : Tree) (p : Place) → Ready f q σ t p → (a : Answer (Place × Store)) → move t p σ ≡ a → (told : Told) (q' : Held) (σ' : Store)
      → Gives told (stop_number (onward a (λ p σ. run_by (move t) 0 p σ) p σ).stop) 0 → q' ≡ held (onward a (λ p σ. run_by (move t) 0 p σ) p σ).place → σ' ≡ (onward a (λ p σ. run_by (move t) 0 p σ) p σ).store
      → StepSays move f q σ told q' σ'
  unfolding run_by
  one_step t p R (no r) e told q' σ' a b c = stopped R e a (b ∙ sym R.holds) c
  one_step t p R (ok x) e told q' σ' a b c = arrived R e a b c

  pub step_says : (told : Told) (steps : ℕ) (q' : Held) (σ' : Store) → RunSays (λ t. run_by (move t)) f q σ 1 told steps q' σ' → StepSays move f q σ told q' σ'
  unfolding run_by
  step_says told steps q' σ' (refused b a c d e) = refused b a d e
  step_says told steps q' σ' (ran {t} {p} R a b c d) = one_step t p R (move t p σ) refl told q' σ' a c d

-- ---- a run back is a run forward of the place turned round, its last place turned round again
abbrev turned_ran : runs.Ran → runs.Ran
turned_ran r = record { steps = r.steps; place = turn r.place; store = r.store; stop = r.stop }

abbrev turns : Answer (Place × Store) → Answer (Place × Store)
turns a = bind a (λ s. ok (turn s.0, s.1))

module _ (t : Tree) where
  back_step : (p : Place) (σ : Store) → step_back t (turn p) σ ≡ turns (step t p σ)
  unfolding step_back
  back_step p σ = ap (λ k. turns (step t k σ)) (turn_turn p)

  back_is : (n : ℕ) (p : Place) (σ : Store) → run_back t n (turn p) σ ≡ turned_ran (run t n p σ)
  unfolding run_by bind
  back_is zero p σ = refl
  back_is (suc n) p σ = ap (λ a. onward a (λ p σ. run_by (step_back t) n p σ) (turn p) σ) (back_step p σ) ∙ go (step t p σ) (back_is n)
    where
      go : (a : Answer (Place × Store)) → ((p : Place) (σ : Store) → run_back t n (turn p) σ ≡ turned_ran (run t n p σ))
          → onward (turns a) (λ p σ. run_by (step_back t) n p σ) (turn p) σ ≡ turned_ran (onward a (λ p σ. run_by (step t) n p σ) p σ)
      go (no r) ih = refl
      go (ok s) ih = ap counted (ih s.0 s.1)

module _ (f : List ℕ) (q : Held) (σ : Store) where
  turned_holds : (p : Place) → turned_of q ≡ held p → q ≡ held (turn p)
  turned_holds p h = sym (turned_twice q) ∙ (ap turned_of h ∙ turned_held p)

  before_turned : {n k : ℕ} → Before f (turned_of q) σ n k → Before f q σ n k
  before_turned (program s) = program s
  before_turned (size A h) = size A h
  before_turned (place {t} A e h) = place A e (λ p k fit. h (turn p) (ap turned_of k ∙ turned_held p) (turn_fits t (accepted_wf A) p fit))

  pub back_says : (n : ℕ) (told : Told) (steps : ℕ) (q' q'' : Held) (σ' : Store) → RunSays run f (turned_of q) σ n told steps q' σ' → q'' ≡ turned_of q'
      → RunSays run_back f q σ n told steps q'' σ'
  back_says n told steps q' q'' σ' (refused b a c d e) k = refused (before_turned b) a c (k ∙ (ap turned_of d ∙ turned_twice q)) e
  back_says n told steps q' q'' σ' (ran {t} {p} R a b c d) k =
      let z = back_is t n p σ in
      ran (record { accepts = R.accepts; sized = R.sized; holds = turned_holds p R.holds; fits = turn_fits t (accepted_wf R.accepts) p R.fits })
      (subst (λ (r : runs.Ran). Gives told (stop_number r.stop) 0) (sym z) a) (b ∙ ap (λ (r : runs.Ran). r.steps) (sym z))
      (k ∙ (ap turned_of c ∙ (turned_held (run t n p σ).place ∙ ap (λ (r : runs.Ran). held r.place) (sym z))))
      (d ∙ ap (λ (r : runs.Ran). r.store) (sym z))
