-- How many IF and FROM are open at once, by the tree: as many as Trees counts on the records. Proofs that go by the tree cite this.
-- Assumes nothing.
use Prim.Native.Nat.{ℕ, suc, ◌+◌, ◌-◌, ◌≤◌, max}
use mathlib.Core.Path.{◌≡◌, refl, ap, sym, ◌∙◌, subst}
use mathlib.Core.List.{List, [], ◌∷◌, ◌++◌, append_assoc}
use mathlib.Core.Bool.{Bool, true, false}
use native.Mathlib.Omega.{arith}
use Rattle.expr.specs.Tree.{Expr}
use Rattle.records.specs.Records.{Record, end, kind}
use Rattle.order.specs.Trees.{Stmt, set_s, skip_s, call_s, uncall_s, if_s, from_s, Block, one, ◌then◌, Tree, records_s, records_b, records_p, records_of, procedures, most_open, Ordered}
use Rattle.order.proofs.OrderParts.{opener, middle, closer}

unfoldable mutual
  pub open_s : Stmt → ℕ
  open_s (set_s o t e) = 0
  open_s skip_s = 0
  open_s (call_s q) = 0
  open_s (uncall_s q) = 0
  open_s (if_s e s t e') = suc (max (open_b s) (open_b t))
  open_s (from_s e s t e') = suc (max (open_b s) (open_b t))

  pub open_b : Block → ℕ
  open_b (one s) = open_s s
  open_b (◌then◌ s b) = max (open_s s) (open_b b)

unfoldable pub open_p : List Block → ℕ
open_p [] = 0
open_p (b ∷ bs) = max (open_b b) (open_p bs)

-- ---- on the records
pub regroup : (x y : List Record) (m c : Record) (r : List Record) → (x ++ (m ∷ (y ++ (c ∷ [])))) ++ r ≡ x ++ (m ∷ (y ++ (c ∷ r)))
regroup x y m c r = simp append_assoc

-- the records xs add n to what is open, and close as many as they open
abbrev Opens : List Record → ℕ → Type 0
Opens xs m = (n : ℕ) (r : List Record) → most_open n (xs ++ r) ≡ max (n + m) (most_open n r)

-- a second part, then what follows; a first part before it
inner : (n b Y M : ℕ) → Y ≡ max (suc n + b) (max (suc n) M) → max (suc n) Y ≡ max (suc n + b) M
inner n b Y M e = omega arith

outer : (n a b X Z M : ℕ) → X ≡ max (suc n + a) Z → Z ≡ max (suc n + b) M → max n X ≡ max (n + suc (max a b)) M
outer n a b X Z M e d = omega arith

module _ (w : Bool) (e : Expr) (s t : Block) (e' : Expr) (os : Opens (records_b s) (open_b s)) (ot : Opens (records_b t) (open_b t)) where
  abbrev tail : List Record → List Record
  tail r = records_b t ++ (closer w e' ∷ r)

  closes : (w : Bool) (e' : Expr) (n : ℕ) (r : List Record) → most_open (suc n) (closer w e' ∷ r) ≡ max (suc n) (most_open n r)
  unfolding most_open kind
  closes false e' n r = let z : suc n - 1 ≡ n = omega arith in ap (λ k. max (suc n) (most_open k r)) z
  closes true e' n r = let z : suc n - 1 ≡ n = omega arith in ap (λ k. max (suc n) (most_open k r)) z

  turns : (w : Bool) (n : ℕ) (r : List Record) → most_open n (middle w ∷ r) ≡ max n (most_open n r)
  unfolding most_open kind
  turns false n r = refl
  turns true n r = refl

  starts : (w : Bool) (e : Expr) (n : ℕ) (r : List Record) → most_open n (opener w e ∷ r) ≡ max n (most_open (suc n) r)
  unfolding most_open kind
  starts false e n r = refl
  starts true e n r = refl

  construct_open : Opens (opener w e ∷ (records_b s ++ (middle w ∷ (records_b t ++ (closer w e' ∷ []))))) (suc (max (open_b s) (open_b t)))
  construct_open n r =
      let y : most_open (suc n) (tail r) ≡ max (suc n + open_b t) (max (suc n) (most_open n r)) = ot (suc n) (closer w e' ∷ r) ∙ ap (max (suc n + open_b t)) (closes w e' n r) in
      let z : most_open (suc n) (middle w ∷ tail r) ≡ max (suc n + open_b t) (most_open n r) = turns w (suc n) (tail r) ∙ inner n (open_b t) (most_open (suc n) (tail r)) (most_open n r) y in
      starts w e n _
      ∙ ap (λ x. max n (most_open (suc n) x)) (regroup (records_b s) (records_b t) (middle w) (closer w e') r)
      ∙ outer n (open_b s) (open_b t) (most_open (suc n) (records_b s ++ (middle w ∷ tail r))) (most_open (suc n) (middle w ∷ tail r)) (most_open n r) (os (suc n) (middle w ∷ tail r)) z

then_open : (s : Stmt) (b : Block) → Opens (records_s s) (open_s s) → Opens (records_b b) (open_b b) → Opens (records_s s ++ records_b b) (max (open_s s) (open_b b))
then_open s b os ob n r = ap (most_open n) (append_assoc (records_s s) (records_b b) r) ∙ (os n (records_b b ++ r) ∙ (ap (max (n + open_s s)) (ob n r) ∙ omega arith))

mutual
  unfolding records_s open_s most_open kind

  open_s_lem : (s : Stmt) → Opens (records_s s) (open_s s)
  open_s_lem (set_s o t e) = λ n r. omega arith
  open_s_lem skip_s = λ n r. omega arith
  open_s_lem (call_s q) = λ n r. omega arith
  open_s_lem (uncall_s q) = λ n r. omega arith
  open_s_lem (if_s e s t e') = construct_open false e s t e' (open_b_lem s) (open_b_lem t)
  open_s_lem (from_s e s t e') = construct_open true e s t e' (open_b_lem s) (open_b_lem t)

  open_b_lem : (b : Block) → Opens (records_b b) (open_b b)
  open_b_lem (one s) = open_s_lem s
  open_b_lem (◌then◌ s b) = then_open s b (open_s_lem s) (open_b_lem b)

open_p_lem : (bs : List Block) → most_open 0 (records_p bs) ≡ open_p bs
unfolding records_p open_p most_open kind
open_p_lem [] = refl
open_p_lem (b ∷ bs) = omega (arith, open_b_lem b 0 (end ∷ records_p bs), open_p_lem bs)

pub open_is : (t : Tree) → most_open 0 (records_of t) ≡ open_p (procedures t)
unfolding records_of most_open kind
open_is t = omega (arith, open_p_lem (procedures t))

pub nested_open : {rs : List Record} {t : Tree} → Ordered rs t → open_p (procedures t) ≤ 16
nested_open {rs} {t} o = subst (λ n. n ≤ 16) (ap (most_open 0) (sym o.records) ∙ open_is t) o.nested

pub open_nested : (rs : List Record) (t : Tree) → records_of t ≡ rs → open_p (procedures t) ≤ 16 → Ordered rs t
open_nested rs t e h = record { records = e; nested = subst (λ n. n ≤ 16) (sym (open_is t) ∙ ap (most_open 0) e) h }
