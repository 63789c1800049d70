-- The linked records are the file's records, one for each label.
use Prim.Native.Nat.{ℕ, zero, suc, ◌+◌, ◌<◌}
use mathlib.Core.Path.{◌≡◌, refl, ap, ◌∙◌}
use mathlib.Core.List.{List, [], ◌∷◌, ◌++◌}
use lib.ListN.{length, get_or}
use native.Mathlib.Omega.{arith}
use Rattle.records.specs.Records.{Record, names, skip}
use Rattle.order.specs.Trees.{Stmt, set_s, skip_s, call_s, uncall_s, if_s, from_s, Block, one, ◌then◌, Tree, procedures, records_s, records_b, records_p, records_of}
use Rattle.moves.specs.Labels.{at}
use Rattle.moves.proofs.Sizes.{size_s, size_b}
use Rattle.moves.specs.Edges.{Frame, in_then, in_else, in_do, in_loop}
use Rattle.moves.proofs.Linked.{forget}
use Rattle.moves.proofs.Rows.{Row, around, rows_s, rows_b, length_s, length_b, rows_p, no_row, rows_of, prog}

-- Rows that are these records.
data Same : List Row → List Record → Type 0 where
  none : Same [] []
  more : {ρ : Row} {R : List Row} {r : Record} {rs : List Record} → r ≡ forget ρ.rec → Same R rs → Same (ρ ∷ R) (r ∷ rs)

join : {R S : List Row} {rs ss : List Record} → Same R rs → Same S ss → Same (R ++ S) (rs ++ ss)
join none s = s
join (more a r) s = more a (join r s)

mutual
  unfolding rows_s records_s size_s around

  same_s : (s : Stmt) (F : List Frame) (n : ℕ) → Same (rows_s s F n) (records_s s)
  same_s (set_s o t e) F n = more refl none
  same_s skip_s F n = more refl none
  same_s (call_s q) F n = more refl none
  same_s (uncall_s q) F n = more refl none
  same_s (if_s e s t e') F n =
      more refl (join (same_b s (in_then n ∷ F) (suc n)) (more refl (join (same_b t (in_else n ∷ F) (suc (suc n + size_b s))) (more refl none))))
  same_s (from_s e s t e') F n =
      more refl (join (same_b s (in_do n ∷ F) (suc n)) (more refl (join (same_b t (in_loop n ∷ F) (suc (suc n + size_b s))) (more refl none))))

  same_b : (b : Block) (F : List Frame) (n : ℕ) → Same (rows_b b F n) (records_b b)
  same_b (one s) F n = same_s s F n
  same_b (◌then◌ s b) F n = join (same_s s F n) (same_b b F (n + size_s s))

same_p : (bs : List Block) (q n : ℕ) → Same (rows_p bs q n) (records_p bs)
unfolding rows_p records_p
same_p [] q n = none
same_p (b ∷ bs) q n = more refl (join (same_b b [] (suc n)) (more refl (same_p bs (suc q) (suc (suc n + size_b b)))))

same_at : {R : List Row} {rs : List Record} → Same R rs → (x : ℕ) → get_or rs x (names 0 []) ≡ forget (get_or R x no_row).rec
same_at none x = refl
same_at (more a s) zero = a
same_at (more a s) (suc x) = same_at s x

same_length : {R : List Row} {rs : List Record} → Same R rs → length rs ≡ length R
same_length none = refl
same_length (more a s) = ap suc (same_length s)

same_of : (τ : Tree) → Same (rows_of τ) (records_of τ)
unfolding rows_of records_of
same_of τ = more refl (same_p (procedures τ) 0 1)

pub at_is : (τ : Tree) (x : ℕ) → at τ x ≡ forget ((prog τ).at x)
unfolding prog
at_is τ x = same_at (same_of τ) x

-- Where there is a record, it does not matter what else would be read.
other : {A : Type 0} (l : List A) (x : ℕ) (d e : A) → x < length l → get_or l x d ≡ get_or l x e
other [] x d e h = absurd (omega arith)
other (y ∷ l) zero d e h = refl
other (y ∷ l) (suc x) d e h = other l x d e (omega arith)

pub at_skip : (τ : Tree) (x : ℕ) → x < length (records_of τ) → get_or (records_of τ) x skip ≡ at τ x
at_skip τ x h = other (records_of τ) x skip (names 0 []) h

-- A statement, and a row of them, has as many records as its size says.
pub size_is : (s : Stmt) → length (records_s s) ≡ size_s s
size_is s = same_length (same_s s [] 0) ∙ length_s s [] 0

pub sizes_are : (b : Block) → length (records_b b) ≡ size_b b
sizes_are b = same_length (same_b b [] 0) ∙ length_b b [] 0
