-- The rows of a tree: its linked records, each with the constructs open after it; and what a program that holds them has.
use Prim.Native.Nat.{ℕ, zero, suc, ◌+◌, pred}
use mathlib.Core.Path.{◌≡◌, refl, ap₂, ◌∙◌, subst}
use mathlib.Core.List.{List, [], ◌∷◌, ◌++◌}
use lib.ListN.{length, get_or, length-append}
use native.Mathlib.Omega.{arith}
use Rattle.expr.specs.Tree.{Expr}
use Rattle.order.specs.Trees.{Stmt, set_s, skip_s, call_s, uncall_s, if_s, from_s, Block, one, ◌then◌, Tree, procedures}
use Rattle.moves.proofs.Sizes.{size_s, size_b}
use Rattle.moves.specs.Edges.{Frame, in_then, in_else, in_do, in_loop}
use Rattle.moves.specs.Places.{calls}
use Rattle.moves.proofs.Linked.{Con, Rec, name_l, begin_l, end_l, set_l, skip_l, if_l, else_l, fi_l, from_l, loop_l, until_l, call_l, uncall_l, Prog, onto}

pub record Row : Type 0 where
  pub rec : Rec
  pub after : List Frame

abbrev pub row : Rec → List Frame → Row
row ρ F = record { rec = ρ; after = F }

-- A construct: its three records and its two blocks.
unfoldable pub around : Row → List Row → Row → List Row → Row → List Row
around x R y S z = x ∷ (R ++ (y ∷ (S ++ (z ∷ []))))

abbrev pub con : ℕ → Expr → Block → Block → Expr → Con
con n e s t e' =
    let m = suc n + size_b s in
    record { l = n; m = m; r = suc m + size_b t; e₁ = e; e₂ = e' }

unfoldable mutual
  -- The records of a statement whose first label is n, inside the constructs F.
  pub rows_s : Stmt → List Frame → ℕ → List Row
  rows_s (set_s o t ε) F n = row (set_l o t ε) F ∷ []
  rows_s skip_s F n = row skip_l F ∷ []
  rows_s (call_s q) F n = row (call_l q) F ∷ []
  rows_s (uncall_s q) F n = row (uncall_l q) F ∷ []
  rows_s (if_s e s t e') F n =
      let c = con n e s t e' in
      around (row (if_l c) (in_then n ∷ F)) (rows_b s (in_then n ∷ F) (suc n))
      (row (else_l c) (in_else n ∷ F)) (rows_b t (in_else n ∷ F) (suc c.m)) (row (fi_l c) F)
  rows_s (from_s e s t e') F n =
      let c = con n e s t e' in
      around (row (from_l c) (in_do n ∷ F)) (rows_b s (in_do n ∷ F) (suc n))
      (row (loop_l c) (in_loop n ∷ F)) (rows_b t (in_loop n ∷ F) (suc c.m)) (row (until_l c) F)

  pub rows_b : Block → List Frame → ℕ → List Row
  rows_b (one s) F n = rows_s s F n
  rows_b (◌then◌ s b) F n = rows_s s F n ++ rows_b b F (n + size_s s)

pub length_around : (x : Row) (R : List Row) (y : Row) (S : List Row) (z : Row) → length (around x R y S z) ≡ suc (length R + suc (length S + 1))
unfolding around
length_around x R y S z = rw (length-append R (y ∷ (S ++ (z ∷ []))), length-append S (z ∷ []))

mutual
  unfolding size_s rows_s

  pub length_s : (s : Stmt) (F : List Frame) (n : ℕ) → length (rows_s s F n) ≡ size_s s
  length_s (set_s o t ε) F n = refl
  length_s skip_s F n = refl
  length_s (call_s q) F n = refl
  length_s (uncall_s q) F n = refl
  length_s (if_s e s t e') F n = length_around _ _ _ _ _ ∙ ap₂ (λ a b. suc (a + suc (b + 1))) (length_b s _ _) (length_b t _ _)
  length_s (from_s e s t e') F n = length_around _ _ _ _ _ ∙ ap₂ (λ a b. suc (a + suc (b + 1))) (length_b s _ _) (length_b t _ _)

  pub length_b : (b : Block) (F : List Frame) (n : ℕ) → length (rows_b b F n) ≡ size_b b
  length_b (one s) F n = length_s s F n
  length_b (◌then◌ s b) F n = length-append (rows_s s F n) _ ∙ ap₂ ◌+◌ (length_s s F n) (length_b b F (n + size_s s))

-- P has these rows from label n on.
abbrev pub Holds : Prog → ℕ → List Row → Type 0
Holds P n [] = Unit {0}
Holds P n (ρ ∷ R) = (P.at n ≡ ρ.rec) × (P.encl n ≡ ρ.after) × Holds P (suc n) R

pub holds_left : (P : Prog) (n : ℕ) (R S : List Row) → Holds P n (R ++ S) → Holds P n R
holds_left P n [] S h = tt
holds_left P n (ρ ∷ R) S h = (h.0, h.1, holds_left P (suc n) R S h.2)

pub holds_right : (P : Prog) (n k : ℕ) (R S : List Row) → length R ≡ k → Holds P n (R ++ S) → Holds P (n + k) S
holds_right P n k [] S e h = subst (λ x. Holds P x S) (omega arith) h
holds_right P n k (ρ ∷ R) S e h = subst (λ x. Holds P x S) (omega arith) (holds_right P (suc n) (length R) R S refl h.2)

pub record Wrapped (P : Prog) (n m r : ℕ) (x : Row) (R : List Row) (y : Row) (S : List Row) (z : Row) : Type 0 where
  pub at_l : P.at n ≡ x.rec
  pub en_l : P.encl n ≡ x.after
  pub left : Holds P (suc n) R
  pub at_m : P.at m ≡ y.rec
  pub en_m : P.encl m ≡ y.after
  pub right : Holds P (suc m) S
  pub at_r : P.at r ≡ z.rec
  pub en_r : P.encl r ≡ z.after

pub holds_around : (P : Prog) (n a b : ℕ) (x : Row) (R : List Row) (y : Row) (S : List Row) (z : Row) → length R ≡ a → length S ≡ b
    → Holds P n (around x R y S z) → Wrapped P n (suc n + a) (suc (suc n + a) + b) x R y S z
unfolding around
holds_around P n a b x R y S z ha hb h =
    let h₂ = holds_right P (suc n) a R _ ha h.2 in
    let h₃ = holds_right P (suc (suc n + a)) b S _ hb h₂.2 in
    record {
      at_l = h.0;
      en_l = h.1;
      left = holds_left P (suc n) R _ h.2;
      at_m = h₂.0;
      en_m = h₂.1;
      right = holds_left P (suc (suc n + a)) S _ h₂.2;
      at_r = h₃.0;
      en_r = h₃.1;
    }

module _ (P : Prog) where
  pub entry_is : (s : Stmt) (F : List Frame) (n : ℕ) → Holds P n (rows_s s F n) → onto (P.at n) n ≡ n
  unfolding rows_s around
  entry_is (set_s o t ε) F n h = rw h.0
  entry_is skip_s F n h = rw h.0
  entry_is (call_s q) F n h = rw h.0
  entry_is (uncall_s q) F n h = rw h.0
  entry_is (if_s e s t e') F n h = rw h.0
  entry_is (from_s e s t e') F n h = rw h.0

  pub entry_b : (b : Block) (F : List Frame) (n : ℕ) → Holds P n (rows_b b F n) → onto (P.at n) n ≡ n
  unfolding rows_s
  entry_b (one s) F n h = entry_is s F n h
  entry_b (◌then◌ s b) F n h = entry_is s F n (holds_left P n (rows_s s F n) (rows_b b F (n + size_s s)) h)

  mutual
    unfolding size_s rows_s

    pub end_s : (s : Stmt) (F : List Frame) (n : ℕ) → Holds P n (rows_s s F n) → P.encl (pred (n + size_s s)) ≡ F
    end_s (set_s o t ε) F n h = rw (let z : pred (n + 1) ≡ n = omega arith in z) h.1
    end_s skip_s F n h = rw (let z : pred (n + 1) ≡ n = omega arith in z) h.1
    end_s (call_s q) F n h = rw (let z : pred (n + 1) ≡ n = omega arith in z) h.1
    end_s (uncall_s q) F n h = rw (let z : pred (n + 1) ≡ n = omega arith in z) h.1
    end_s (if_s e s t e') F n h =
        let k = holds_around P n (size_b s) (size_b t) _ _ _ _ _ (length_b s _ _) (length_b t _ _) h in
        rw (let z : pred (n + suc (size_b s + suc (size_b t + 1))) ≡ suc (suc n + size_b s) + size_b t = omega arith in z) k.en_r
    end_s (from_s e s t e') F n h =
        let k = holds_around P n (size_b s) (size_b t) _ _ _ _ _ (length_b s _ _) (length_b t _ _) h in
        rw (let z : pred (n + suc (size_b s + suc (size_b t + 1))) ≡ suc (suc n + size_b s) + size_b t = omega arith in z) k.en_r

    pub end_b : (b : Block) (F : List Frame) (n : ℕ) → Holds P n (rows_b b F n) → P.encl (pred (n + size_b b)) ≡ F
    end_b (one s) F n h = end_s s F n h
    end_b (◌then◌ s b) F n h =
        rw (let z : n + (size_s s + size_b b) ≡ (n + size_s s) + size_b b = omega arith in z)
        (end_b b F (n + size_s s) (holds_right P n (size_s s) (rows_s s F n) (rows_b b F (n + size_s s)) (length_s s F n) h))

-- The whole file: NAMES, then BEGIN s END for each procedure.
unfoldable pub rows_p : List Block → ℕ → ℕ → List Row
rows_p [] q n = []
rows_p (b ∷ bs) q n = row (begin_l q) [] ∷ (rows_b b [] (suc n) ++ (row (end_l q) [] ∷ rows_p bs (suc q) (suc (suc n + size_b b))))

abbrev pub no_row : Row
no_row = row (name_l 0 []) []

unfoldable pub rows_of : Tree → List Row
rows_of τ = row (name_l τ.scalars τ.lengths) [] ∷ rows_p (procedures τ) 0 1

-- The labels of the BEGIN and of the END of procedure q, of the procedures bs that stand from label n on.
unfoldable pub begin_from : List Block → (n q : ℕ) → ℕ
begin_from [] n q = 1
begin_from (b ∷ bs) n zero = n
begin_from (b ∷ bs) n (suc q) = begin_from bs (suc (suc n + size_b b)) q

unfoldable pub end_from : List Block → (n q : ℕ) → ℕ
end_from [] n q = 0
end_from (b ∷ bs) n zero = suc n + size_b b
end_from (b ∷ bs) n (suc q) = end_from bs (suc (suc n + size_b b)) q

abbrev pub begin_of : Tree → ℕ → ℕ
begin_of t q = begin_from (procedures t) 1 q

abbrev pub end_of : Tree → ℕ → ℕ
end_of t q = end_from (procedures t) 1 q

unfoldable pub prog : Tree → Prog
prog τ = record { at = λ x. (get_or (rows_of τ) x no_row).rec; encl = λ x. (get_or (rows_of τ) x no_row).after; first = begin_of τ; last = end_of τ }

-- What each of the rows has.
abbrev pub Each : (Row → Type 0) → List Row → Type 0
Each Q [] = Unit {0}
Each Q (ρ ∷ R) = Q ρ × Each Q R

module _ (Q : Row → Type 0) where
  pub each_append : (R S : List Row) → Each Q R → Each Q S → Each Q (R ++ S)
  each_append [] S a b = b
  each_append (ρ ∷ R) S a b = (a.0, each_append R S a.1 b)

  pub each_around : (x : Row) (R : List Row) (y : Row) (S : List Row) (z : Row) → Q x → Each Q R → Q y → Each Q S → Q z → Each Q (around x R y S z)
  unfolding around
  each_around x R y S z a b c d e = (a, each_append R _ b (c, each_append S _ d (e, tt)))

  pub each_get_d : (R : List Row) (x : ℕ) → Q no_row → Each Q R → Q (get_or R x no_row)
  each_get_d [] x n h = n
  each_get_d (ρ ∷ R) zero n h = h.0
  each_get_d (ρ ∷ R) (suc x) n h = each_get_d R x n h.1

-- Plain frames: no call among the constructs.
abbrev pub Plain : Row → Type 0
Plain ρ = calls ρ.after ≡ 0

mutual
  unfolding rows_s

  plain_s : (s : Stmt) (F : List Frame) (n : ℕ) → calls F ≡ 0 → Each Plain (rows_s s F n)
  plain_s (set_s o t ε) F n h = (h, tt)
  plain_s skip_s F n h = (h, tt)
  plain_s (call_s q) F n h = (h, tt)
  plain_s (uncall_s q) F n h = (h, tt)
  plain_s (if_s e s t e') F n h = each_around Plain _ _ _ _ _ h (plain_b s _ _ h) h (plain_b t _ _ h) h
  plain_s (from_s e s t e') F n h = each_around Plain _ _ _ _ _ h (plain_b s _ _ h) h (plain_b t _ _ h) h

  plain_b : (b : Block) (F : List Frame) (n : ℕ) → calls F ≡ 0 → Each Plain (rows_b b F n)
  plain_b (one s) F n h = plain_s s F n h
  plain_b (◌then◌ s b) F n h = each_append Plain (rows_s s F n) _ (plain_s s F n h) (plain_b b F _ h)

pub plain_p : (bs : List Block) (q n : ℕ) → Each Plain (rows_p bs q n)
unfolding rows_p
plain_p [] q n = tt
plain_p (b ∷ bs) q n = (refl, each_append Plain (rows_b b [] (suc n)) _ (plain_b b [] (suc n) refl) (refl, plain_p bs _ _))
