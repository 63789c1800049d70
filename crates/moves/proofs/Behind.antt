-- Cells behind the program's own that are zeros are never read or changed: a step and a run of the longer store are those of the program's own, with the zeros behind.
use Prim.Native.Nat.{ℕ, zero, suc, ◌<◌}
use mathlib.Core.Path.{◌≡◌, refl, ap, ◌∙◌}
use mathlib.Core.Bool.{Bool, true, false, cond, not, beq}
use mathlib.Core.List.{List, [], ◌∷◌, ◌++◌, tail}
use lib.ListN.{length, get_or, replicate, set as put, length-set}
use lib.Seq.{set-append_left}
use lib.Dec.{ltb}
use lib.IntN.{ℤ, pos}
use native.Mathlib.Omega.{arith}
use Rattle.expr.specs.Tree.{Expr, known}
use Rattle.expr.specs.declared.Name.{Name}
use Rattle.expr.specs.declared.Name.TheVariants.{Scalar, Array}
use Rattle.expr.specs.Agreement.{Same}
use Rattle.expr.proofs.Agree.{eval_names}
use Rattle.records.specs.Records.{Target, cell, entry, there_target, Record, names, begin, end, assign, if, else, fi, from, loop, until, call, uncall, skip}
use Rattle.order.specs.Trees.{Tree, records_of, cells}
use Rattle.program.specs.Says.{All, there_in, Accepts}
use Rattle.moves.specs.Labels.{at}
use Rattle.moves.specs.Edges.{Frame, in_do}
use Rattle.moves.specs.Places.{Dir, down, up, going, Place, head, calls}
use Rattle.moves.specs.Stores.{Reason, Answer, ok, no, bind, Store, layout, answered, evaluated, holds, applied, operator, cell_of, assigned}
use Rattle.moves.specs.Step.{after, again, must, executes, step}
use Rattle.moves.specs.Step as does
use Rattle.moves.specs.Runs.{Ran, onward, run_by, run}
use Rattle.moves.proofs.Runs.{counted}
use Rattle.moves.proofs.Acts.{Act, assigns, moves, chooses, closes, opens, tests, enters, enters_back, returns, nothing, act, wanted, perform, step_is}
use Rattle.expr.proofs.Layer.{and_true}
use Rattle.moves.proofs.Assign.{cell_there}

-- Nothing but zeros.
abbrev pub Zeros : Store → Type 0
Zeros zs = (i : ℕ) → get_or zs i (pos 0) ≡ pos 0

pub zeros_are : (k : ℕ) → Zeros (replicate k (pos 0))
zeros_are zero i = refl
zeros_are (suc k) zero = refl
zeros_are (suc k) (suc i) = zeros_are k i

-- A run, with zs behind its store.
abbrev pub longer : Store → Ran → Ran
longer zs r = record { steps = r.steps; place = r.place; store = r.store ++ zs; stop = r.stop }

-- ---- the numbers of a record that is there
numbers_at : (t : Tree) (rs : List Record) → All (there_in t) rs → (x : ℕ) → there_in t (get_or rs x (names 0 [])) ≡ true
numbers_at t [] a x = refl
numbers_at t (r ∷ rs) a zero = a 0 (omega arith)
numbers_at t (r ∷ rs) a (suc x) = numbers_at t rs (λ j h. a (suc j) (omega arith)) x

-- What an act assigns to is there.
abbrev Aims : Tree → Act → Type 0
Aims t (assigns o x e) = there_target t.scalars (length t.lengths) x ≡ true
Aims t moves = Unit {0}
Aims t (chooses e) = Unit {0}
Aims t (closes e) = Unit {0}
Aims t (opens e) = Unit {0}
Aims t (tests e) = Unit {0}
Aims t (enters q) = Unit {0}
Aims t (enters_back q) = Unit {0}
Aims t returns = Unit {0}
Aims t nothing = Unit {0}

aims_going : (t : Tree) (d : Dir) (x y : Act) → Aims t x → Aims t y → Aims t (going d x y)
aims_going t down x y h k = h
aims_going t up x y h k = k

aims_at : (t : Tree) (r : Record) (d : Dir) → there_in t r ≡ true → Aims t (act r d)
unfolding act
aims_at t (names v ls) d q = tt
aims_at t begin d q = aims_going t d nothing returns tt tt
aims_at t end d q = aims_going t d returns nothing tt tt
aims_at t (assign o x e) d q = (and_true (there_target t.scalars (length t.lengths) x) (known t.scalars (length t.lengths) e) q).0
aims_at t (if e) d q = aims_going t d (chooses e) (closes e) tt tt
aims_at t else d q = tt
aims_at t (fi e) d q = aims_going t d (closes e) (chooses e) tt tt
aims_at t (from e) d q = aims_going t d (opens e) (tests e) tt tt
aims_at t loop d q = tt
aims_at t (until e) d q = aims_going t d (tests e) (opens e) tt tt
aims_at t (call p) d q = tt
aims_at t (uncall p) d q = tt
aims_at t skip d q = tt

module _ (t : Tree) (zs : Store) (zeros : Zeros zs) where
  -- the second answer is the first, with the zeros behind its store
  pub data Wide : Answer (Place × Store) → Answer (Place × Store) → Type 0 where
    refused : {r : Reason} → Wide (no r) (no r)
    came : {p : Place} {σ τ : Store} → τ ≡ σ ++ zs → length σ ≡ cells t → Wide (ok (p, σ)) (ok (p, τ))

  -- ---- what is read
  pub get_d_behind : (σ : Store) (i : ℕ) → get_or (σ ++ zs) i (pos 0) ≡ get_or σ i (pos 0)
  get_d_behind [] i = zeros i
  get_d_behind (x ∷ σ) zero = refl
  get_d_behind (x ∷ σ) (suc i) = get_d_behind σ i

  same_behind : (σ : Store) (n : Name) → Same n (layout t) (σ ++ zs) σ
  same_behind σ (Scalar x) = get_d_behind σ x
  same_behind σ (Array a) = λ i h. get_d_behind σ _

  value_behind : (σ : Store) (e : Expr) → evaluated t (σ ++ zs) e ≡ evaluated t σ e
  unfolding evaluated
  value_behind σ e = ap answered (eval_names (layout t) (σ ++ zs) σ e (λ n o. same_behind σ n))

  holds_behind : (σ : Store) (e : Expr) → holds t (σ ++ zs) e ≡ holds t σ e
  unfolding holds
  holds_behind σ e = rw (value_behind σ e)

  cell_behind : (σ : Store) (x : Target) → cell_of t (σ ++ zs) x ≡ cell_of t σ x
  unfolding cell_of
  cell_behind σ (cell x) = refl
  cell_behind σ (entry a i) = rw (value_behind σ i)

  -- ---- what is done
  must_wide : (b : Bool) (p : Place) (σ : Store) → length σ ≡ cells t → Wide (must b (p, σ)) (must b (p, σ ++ zs))
  must_wide true p σ n = came refl n
  must_wide false p σ n = refused

  either : (b : Bool) {x y x' y' : Answer (Place × Store)} → Wide x x' → Wide y y' → Wide (cond b x y) (cond b x' y')
  either true h k = h
  either false h k = k

  tested : (e : Expr) (σ : Store) (K K' : Bool → Answer (Place × Store)) → ((v : Bool) → Wide (K v) (K' v)) → Wide (bind (holds t σ e) K) (bind (holds t (σ ++ zs) e) K')
  unfolding bind
  tested e σ K K' h = rw (holds_behind σ e) (go (holds t σ e))
    where
      go : (a : Answer Bool) → Wide (bind a K) (bind a K')
      go (ok v) = h v
      go (no r) = refused

  set_wide : (o : ℕ) (x : Target) (e : Expr) (d : Dir) (p : Place) (σ : Store) → there_target t.scalars (length t.lengths) x ≡ true → length σ ≡ cells t
      → Wide (bind (assigned t o x e d σ) (λ τ. ok (p, τ))) (bind (assigned t o x e d (σ ++ zs)) (λ τ. ok (p, τ)))
  unfolding assigned bind
  set_wide o x e d p σ h n = rw (cell_behind σ x, value_behind σ e) (go (cell_of t σ x) refl (evaluated t σ e))
    where
      put_wide : (c : ℕ) (v : ℤ) → c < length σ → put (σ ++ zs) c (applied (operator o d) (get_or (σ ++ zs) c (pos 0)) v) ≡ put σ c (applied (operator o d) (get_or σ c (pos 0)) v) ++ zs
      put_wide c v l = ap (λ (u : ℤ). put (σ ++ zs) c (applied (operator o d) u v)) (get_d_behind σ c) ∙ set-append_left σ zs c (applied (operator o d) (get_or σ c (pos 0)) v) l

      go : (a : Answer ℕ) → cell_of t σ x ≡ a → (b : Answer ℤ)
          → Wide (bind (bind a (λ c. bind b (λ v. ok (put σ c (applied (operator o d) (get_or σ c (pos 0)) v))))) (λ τ. ok (p, τ)))
          (bind (bind a (λ c. bind b (λ v. ok (put (σ ++ zs) c (applied (operator o d) (get_or (σ ++ zs) c (pos 0)) v))))) (λ τ. ok (p, τ)))
      go (no r) k b = refused
      go (ok c) k (no r) = refused
      go (ok c) k (ok v) = came (put_wide c v (omega (arith, cell_there t σ x c h k))) (length-set σ c _ ∙ n)

  return_wide : (p : Place) (fs : List Frame) (σ : Store) → length σ ≡ cells t → Wide (does.returns t p σ fs) (does.returns t p (σ ++ zs) fs)
  return_wide p [] σ n = refused
  return_wide p (f ∷ F) σ n = came refl n

  act_wide : (a : Act) → Aims t a → (p : Place) (σ : Store) → length σ ≡ cells t → Wide (perform t a p σ) (perform t a p (σ ++ zs))
  unfolding perform executes
  act_wide (assigns o x e) h p σ n = set_wide o x e p.d (after t p.b p.d p.frames) σ h n
  act_wide moves h p σ n = came refl n
  act_wide (chooses e) h p σ n = tested e σ _ _ (λ v. came refl n)
  act_wide (closes e) h p σ n = tested e σ _ _ (λ v. must_wide (beq v (wanted p.frames)) (after t p.b p.d (tail p.frames)) σ n)
  act_wide (opens e) h p σ n =
      let l = head t p.b p.d in
      tested e σ _ _
      (λ v. either (again l p.frames) (must_wide (not v) (after t p.b p.d (in_do l ∷ tail p.frames)) σ n) (must_wide v (after t p.b p.d (in_do l ∷ p.frames)) σ n))
  act_wide (tests e) h p σ n = tested e σ _ _ (λ v. came refl n)
  act_wide (enters q) h p σ n = either (ltb (calls p.frames) 64) (came refl n) refused
  act_wide (enters_back q) h p σ n = either (ltb (calls p.frames) 64) (came refl n) refused
  act_wide returns h p σ n = return_wide p p.frames σ n
  act_wide nothing h p σ n = came refl n

  module _ {f : List ℕ} (A : Accepts f t) where
    pub step_behind : (p : Place) (σ : Store) → length σ ≡ cells t → Wide (step t p σ) (step t p (σ ++ zs))
    step_behind p σ n =
        rw (step_is t p σ, step_is t p (σ ++ zs)) (act_wide (act (at t p.b) p.d) (aims_at t (at t p.b) p.d (numbers_at t (records_of t) A.numbers p.b)) p σ n)

    -- the run of the longer store, and that a run keeps the store's size
    pub run_behind : (n : ℕ) (p : Place) (σ : Store) → length σ ≡ cells t → (run t n p (σ ++ zs) ≡ longer zs (run t n p σ)) × (length (run t n p σ).store ≡ cells t)
    unfolding run_by
    run_behind zero p σ h = (refl, h)
    run_behind (suc n) p σ h = go (step_behind p σ h) (run_behind n)
      where
        go : {a b : Answer (Place × Store)} → Wide a b
            → ((p : Place) (σ : Store) → length σ ≡ cells t → (run t n p (σ ++ zs) ≡ longer zs (run t n p σ)) × (length (run t n p σ).store ≡ cells t))
            → (onward b (λ p σ. run_by (step t) n p σ) p (σ ++ zs) ≡ longer zs (onward a (λ p σ. run_by (step t) n p σ) p σ))
            × (length (onward a (λ p σ. run_by (step t) n p σ) p σ).store ≡ cells t)
        go refused ih = (refl, h)
        go (came {p = q} {σ = ρ} e k) ih = (ap (λ (x : Store). counted (run t n q x)) e ∙ ap counted (ih q ρ k).0, (ih q ρ k).1)
