-- The answers of the functions of src/lib.rt, case by case. Assumes nothing.
use mathlib.Core.Path.{◌≡◌, refl, sym, ap, ◌∙◌, subst}
use mathlib.Core.Bool.{Bool, true, false, false≢true}
use mathlib.Core.List.{List}
use Prim.Native.Nat.{ℕ, ◌≤◌}
use lib.ListN.{length}
use lib.IntN.{pos}
use mir.Val.{bool_byte}
use Rattle.refusals.specs.declared.Reason.TheVariants.{WrongSize, Unfit}
use Rattle.program.specs.declared.Counts.{Counts}
use Rattle.place.specs.declared.Place.{Place as Held}
use Rattle.place.specs.Methods.{blank_of, moved_of}
use Rattle.place.specs.Slots.{Plain, Decides, plain_of}
use Rattle.place.proofs.Held.{plain_of_lem, plain_count}
use Rattle.program.specs.Arrays.{arrays_at}
use Rattle.table.specs.Table.{table_of}
use Rattle.fits.specs.Fits.{fits_in}
use Rattle.moves.specs.Stores.{Store}
use Rattle.machine.specs.declared.Ran.{Ran}
use Rattle.ways.specs.Looks.{gate_of, along_of}
use Rattle.decide.specs.Ways.{rule_in}
use Rattle.ways.specs.Map.{Maps}
use Rattle.machine.specs.Walk.{calls_of, stand_of, Gone, go_of, Goes}
use Rattle.machine.specs.Copies.{filled, over}
use Rattle.machine.specs.Whole.{staying, for_reason, Copied, CheckedRun, size, place, went, number_in, start_of}

-- ---- `went`: the copies, the map and the loop
pub copied_goes : (f tab : List ℕ) (records : ℕ) (q : Held) (σ : Store) (n : ℕ) (bytes arr map : List ℕ) (k : ℕ) (cells left : Store) (r : Ran) (τ : Store)
    → bytes ≡ filled 32784 f 0 → arr ≡ arrays_at f → Maps bytes tab records map → k ≡ calls_of q → cells ≡ filled 2048 σ (pos 0)
    → Goes (go_of (rule_in bytes map arr) n (stand_of q) k cells 0) r left → τ ≡ over left σ → Copied f tab records q σ n r τ
copied_goes f tab records q σ n bytes arr map k cells left r τ eb ea m ek ec g et = record {
  map = map;
  maps = subst (λ (l : List ℕ). Maps l tab records map) eb m;
  goes = let h = subst (λ (x : Gone). Goes x r left) (λ i. go_of (rule_in (eb i) map (ea i)) n (stand_of q) (ek i) (ec i) 0) g in record { ran = h.ran; left = et ∙ ap (λ (l : Store). over l σ) h.left };
}

-- ---- `checked`
-- a place that fits has room
pub fits_count : (f tab : List ℕ) (records : ℕ) (q : Held) (b : Bool) → b ≡ fits_in f tab records q → b ≡ true → q.count ≤ 1104
unfolding fits_in
fits_count f tab records q b e n = go (plain_of q) refl (sym e ∙ n)
  where
    go : (t : Bool) → plain_of q ≡ t → fits_in f tab records q ≡ true → q.count ≤ 1104
    go true p h = plain_count q (subst (λ (t : Bool). Decides t (Plain q)) p (plain_of_lem q))
    go false p h = absurd (false≢true (rw p at h))

module _ (f : List ℕ) (c : Counts) (q : Held) (σ : Store) (n : ℕ) where
  pub checked_size : (r : Ran) → (length σ ≡ c.cells → ⊥) → r ≡ staying (for_reason WrongSize) q → CheckedRun f c q σ n r σ
  checked_size r h e = size h e refl

  module _ (h : length σ ≡ c.cells) (tab : List ℕ) (et : tab ≡ table_of f) (b : Bool) (eb : b ≡ fits_in f tab c.records q) where
    decided : {x : Bool} → b ≡ x → fits_in f (table_of f) c.records q ≡ x
    decided k = ap (λ (l : List ℕ). fits_in f l c.records q) (sym et) ∙ (sym eb ∙ k)

    pub checked_place : (r : Ran) → b ≡ false → r ≡ staying (for_reason Unfit) q → CheckedRun f c q σ n r σ
    checked_place r k e = place h (decided k) e refl

    pub checked_went : b ≡ true → (r : Ran) (τ : Store) → Copied f tab c.records q σ n r τ → CheckedRun f c q σ n r τ
    checked_went k r τ g = went h (decided k) (subst (λ (l : List ℕ). Copied f l c.records q σ n r τ) et g)

pub begun_is : (f : List ℕ) (up : Bool) (tab : List ℕ) (n a b : ℕ) (l m : Held) → tab ≡ table_of f → n ≡ bool_byte up → a ≡ gate_of tab 0 n → b ≡ along_of tab n a → l ≡ blank_of
    → m ≡ moved_of l n a b → m ≡ start_of f up
begun_is f up tab n a b l m et en ea eb el em =
    let e : n ≡ number_in up = en ∙ byte up in rw (← et, ← e, ← ea, ← eb) (em ∙ ap (λ (h : Held). moved_of h n a b) el)
  where
    byte : (up : Bool) → bool_byte up ≡ number_in up
    byte true = refl
    byte false = refl
