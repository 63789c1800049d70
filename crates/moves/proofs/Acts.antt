-- What executing a record is, as one of ten acts: the proofs go by these. `step_is` says that the step is the act of the record that is met.
use Prim.Native.Nat.{ℕ}
use mathlib.Core.Path.{◌≡◌, refl}
use mathlib.Core.List.{List}
use mathlib.Core.Bool.{Bool}
use lib.Dec.{eqb}
use Rattle.expr.specs.Tree.{Expr}
use Rattle.records.specs.Records.{Target, Record, names, begin, end, assign, if, else, fi, from, loop, until, call, uncall, skip}
use Rattle.order.specs.Trees.{Tree}
use Rattle.moves.specs.Labels.{at}
use Rattle.moves.specs.Edges.{Frame, frame_kind}
use Rattle.moves.specs.Places.{Dir, down, up, going, Place, top}
use Rattle.moves.specs.Stores.{Answer, ok, Store}
use Rattle.moves.specs.Step.{executes, step}
use Rattle.moves.specs.Step as does

pub data Act : Type 0 where
  assigns : ℕ → Target → Expr → Act
  moves : Act
  chooses : Expr → Act
  closes : Expr → Act
  opens : Expr → Act
  tests : Expr → Act
  enters enters_back : ℕ → Act
  returns : Act
  nothing : Act

unfoldable pub act : Record → Dir → Act
act (names v ls) d = nothing
act begin d = going d nothing returns
act end d = going d returns nothing
act (assign o x e) d = assigns o x e
act (if e) d = going d (chooses e) (closes e)
act else d = nothing
act (fi e) d = going d (closes e) (chooses e)
act (from e) d = going d (opens e) (tests e)
act loop d = nothing
act (until e) d = going d (tests e) (opens e)
act (call q) d = enters q
act (uncall q) d = enters_back q
act skip d = moves

-- The innermost frame wants this value: 0 true, 1 false.
abbrev pub wanted : List Frame → Bool
wanted fs = eqb (frame_kind (top fs)) 0

unfoldable pub perform : Tree → Act → Place → Store → Answer (Place × Store)
perform t (assigns o x e) p σ = executes t p σ (assign o x e)
perform t moves p σ = executes t p σ skip
perform t (chooses e) p σ = does.chooses t p σ e
perform t (closes e) p σ = does.closes t p σ e
perform t (opens e) p σ = does.opens t p σ e
perform t (tests e) p σ = does.tests t p σ e
perform t (enters q) p σ = executes t p σ (call q)
perform t (enters_back q) p σ = executes t p σ (uncall q)
perform t returns p σ = does.returns t p σ p.frames
perform t nothing p σ = ok (p, σ)

-- What is chosen by the direction is done by the direction.
chosen : (t : Tree) (p : Place) (σ : Store) (d : Dir) (x y : Act) → going d (perform t x p σ) (perform t y p σ) ≡ perform t (going d x y) p σ
chosen t p σ down x y = refl
chosen t p σ up x y = refl

executes_is : (t : Tree) (p : Place) (σ : Store) (ρ : Record) → executes t p σ ρ ≡ perform t (act ρ p.d) p σ
unfolding executes act perform
executes_is t p σ (names v ls) = refl
executes_is t p σ begin = chosen t p σ p.d nothing returns
executes_is t p σ end = chosen t p σ p.d returns nothing
executes_is t p σ (assign o x e) = refl
executes_is t p σ (if e) = chosen t p σ p.d (chooses e) (closes e)
executes_is t p σ else = refl
executes_is t p σ (fi e) = chosen t p σ p.d (closes e) (chooses e)
executes_is t p σ (from e) = chosen t p σ p.d (opens e) (tests e)
executes_is t p σ loop = refl
executes_is t p σ (until e) = chosen t p σ p.d (tests e) (opens e)
executes_is t p σ (call q) = refl
executes_is t p σ (uncall q) = refl
executes_is t p σ skip = refl

pub step_is : (t : Tree) (p : Place) (σ : Store) → step t p σ ≡ perform t (act (at t p.b) p.d) p σ
unfolding step
step_is t p σ = executes_is t p σ (at t p.b)
