-- What each record of a statement has beside it: its construct's three records, the frames around them, its procedure.
use Prim.Native.Nat.{ℕ, suc, ◌+◌, ◌≤◌, ◌<◌, pred}
use mathlib.Core.Path.{◌≡◌, refl, sym, ◌∙◌}
use mathlib.Core.Bool.{false}
use mathlib.Core.List.{List, ◌∷◌}
use mathlib.Core.Logic.{◌⊎◌, inl, inr, ⊎_elim}
use native.Mathlib.Omega.{arith}
use borrow.Author.Tests.{ne_eqb}
use Rattle.expr.specs.Tree.{Expr}
use Rattle.records.specs.Records.{Target}
use Rattle.order.specs.Trees.{Stmt, set_s, skip_s, call_s, uncall_s, if_s, from_s, Block, one, ◌then◌, Tree}
use Rattle.order.proofs.OrderReads.{le_or_lt}
use Rattle.moves.proofs.Sizes.{size_s, size_b}
use Rattle.moves.specs.Edges.{Frame, in_then, in_else, in_do, in_loop}
use Rattle.moves.specs.Step.{again}
use Rattle.moves.proofs.Linked.{Rec, set_l, skip_l, call_l, uncall_l, Prog, onto}
use Rattle.moves.proofs.Cuts.{Span, ConOk, Undoes, SimpleOk, ProcOk, Local}
use Rattle.moves.proofs.Rows.{row, con, Wrapped, rows_s, rows_b, length_s, length_b, Holds, holds_left, holds_right, holds_around, entry_b, end_s, end_b}

-- What refusals 7 and 8 leave: calls of procedures that are there, and SETs that can be undone.
abbrev mutual
  pub FineS : Stmt → (ℕ → Type 0) → (ℕ → Target → Expr → Type 0) → Type 0
  FineS (set_s o t e) Q U = U o t e
  FineS skip_s Q U = Unit {0}
  FineS (call_s q) Q U = Q q
  FineS (uncall_s q) Q U = Q q
  FineS (if_s e s t e') Q U = FineB s Q U × FineB t Q U
  FineS (from_s e s t e') Q U = FineB s Q U × FineB t Q U

  pub FineB : Block → (ℕ → Type 0) → (ℕ → Target → Expr → Type 0) → Type 0
  FineB (one s) Q U = FineS s Q U
  FineB (◌then◌ s b) Q U = FineS s Q U × FineB b Q U

pub either : (x y : ℕ) {L : Type 0} → (x < y → L) → (y ≤ x → L) → L
either x y f g = ⊎_elim g f (le_or_lt y x)

pub which : (x y : ℕ) → (x < y) ⊎ ((x ≡ y) ⊎ (y < x))
which x y = either x y (λ h. inl h) (λ h. inr (either y x (λ k. inr k) (λ k. inl (omega arith))))

-- Where a block stands: from label n to before label k, inside the constructs F.
pub record Ctx (P : Prog) (F : List Frame) (n k : ℕ) : Type 0 where
  pub before : P.encl (pred n) ≡ F
  pub pos : 0 < n
  pub fresh : (i : ℕ) → n ≤ i → again i F ≡ false
  pub near : (q x : ℕ) → n ≤ x → x < k → P.first q ≤ x → x ≤ P.last q → (P.first q < n) × (k ≤ P.last q)

module _ (τ : Tree) (P : Prog) (Q : ℕ → Type 0) (Q→ok : (q : ℕ) → Q q → ProcOk P q) where
  pub put : (x n : ℕ) (ρ : Rec) → x ≡ n → P.at n ≡ ρ → Local τ P ρ n → Local τ P (P.at x) x
  put x n ρ e h k = rw (e, h) k

  pub simple : (n : ℕ) (F : List Frame) → P.encl n ≡ F → Ctx P F n (n + 1) → SimpleOk P n
  simple n F e c = record { en = e ∙ sym c.before; near = λ q a b. let k = c.near q n (omega arith) (omega arith) a b in (k.0, omega arith) }

  pub inner : (F : List Frame) (n k : ℕ) → Ctx P F n k → (G : List Frame) (n' k' : ℕ) → P.encl (pred n') ≡ G → n ≤ n' → k' ≤ k
      → ((i : ℕ) → n' ≤ i → again i G ≡ false) → Ctx P G n' k'
  inner F n k c G n' k' e a b f = record {
    before = e;
    pos = let p = c.pos in omega arith;
    fresh = f;
    near = λ q x a' b' a'' b''. let h = c.near q x (omega arith) (omega arith) a'' b'' in (omega arith, omega arith);
  }

  -- A label in a construct is one of its three or lies in one of its blocks.
  pub pick5 : (n a b x : ℕ) (L : Type 0) → n ≤ x → x < n + suc (a + suc (b + 1))
      → (x ≡ n → L) → (suc n ≤ x → x < suc n + a → L) → (x ≡ suc n + a → L)
      → (suc (suc n + a) ≤ x → x < suc (suc n + a) + b → L) → (x ≡ suc (suc n + a) + b → L) → L
  pick5 n a b x L lo hi p₁ p₂ p₃ p₄ p₅ = go₁ (which x n)
    where
      go₃ : suc n + a < x → (x < suc (suc n + a) + b) ⊎ ((x ≡ suc (suc n + a) + b) ⊎ (suc (suc n + a) + b < x)) → L
      go₃ h (inl k) = p₄ h k
      go₃ h (inr (inl k)) = p₅ k
      go₃ h (inr (inr k)) = absurd (let z : ⊥ = omega arith in z)

      go₂ : n < x → (x < suc n + a) ⊎ ((x ≡ suc n + a) ⊎ (suc n + a < x)) → L
      go₂ h (inl k) = p₂ h k
      go₂ h (inr (inl k)) = p₃ k
      go₂ h (inr (inr k)) = go₃ k (which x (suc (suc n + a) + b))

      go₁ : (x < n) ⊎ ((x ≡ n) ⊎ (n < x)) → L
      go₁ (inl k) = absurd (let z : ⊥ = omega arith in z)
      go₁ (inr (inl k)) = p₁ k
      go₁ (inr (inr k)) = go₂ k (which x (suc n + a))

  pub span : (F : List Frame) (n : ℕ) (e : Expr) (s t : Block) (e' : Expr) → Ctx P F n (n + suc (size_b s + suc (size_b t + 1)))
      → onto (P.at (suc n)) (suc n) ≡ suc n → onto (P.at (suc (suc n + size_b s))) (suc (suc n + size_b s)) ≡ suc (suc n + size_b s) → Span P (con n e s t e')
  span F n e s t e' c il im = record {
    pos = c.pos;
    l<m = omega arith;
    m<r = omega arith;
    in_l = il;
    in_m = im;
    near = λ q x a b a' b'. let h = c.near q x a (omega arith) a' b' in (h.0, omega arith);
  }

  pub con_ok : (F : List Frame) (n : ℕ) (e : Expr) (s t : Block) (e' : Expr) {ρl ρm ρr : Rec} {f g : Frame}
      → Wrapped P n (suc n + size_b s) (suc (suc n + size_b s) + size_b t) (row ρl (f ∷ F)) (rows_b s (f ∷ F) (suc n)) (row ρm (g ∷ F)) (rows_b t (g ∷ F) (suc (suc n + size_b s))) (row ρr F)
      → Ctx P F n (n + suc (size_b s + suc (size_b t + 1))) → ConOk P (con n e s t e') ρl ρm ρr f g
  con_ok F n e s t e' w c = record {
    at_l = w.at_l;
    at_m = w.at_m;
    at_r = w.at_r;
    en_l = rw c.before w.en_l;
    en_m' = rw c.before (end_b P s _ _ w.left);
    en_m = rw c.before w.en_m;
    en_r' = rw c.before (end_b P t _ _ w.right);
    en_r = rw c.before w.en_r;
    fresh = λ i h. rw c.before (c.fresh i h);
    span = span F n e s t e' c (entry_b P s _ _ w.left) (entry_b P t _ _ w.right);
  }

  mutual
    unfolding size_s rows_s

    pub local_s : (s : Stmt) (F : List Frame) (n : ℕ) → Holds P n (rows_s s F n) → FineS s Q (Undoes τ) → Ctx P F n (n + size_s s)
        → (x : ℕ) → n ≤ x → x < n + size_s s → Local τ P (P.at x) x
    local_s (set_s o t ε) F n h f c x a b = put x n (set_l o t ε) (omega arith) h.0 (f, simple n F h.1 c)
    local_s skip_s F n h f c x a b = put x n skip_l (omega arith) h.0 (simple n F h.1 c)
    local_s (call_s q) F n h f c x a b = put x n (call_l q) (omega arith) h.0 (Q→ok q f, simple n F h.1 c)
    local_s (uncall_s q) F n h f c x a b = put x n (uncall_l q) (omega arith) h.0 (Q→ok q f, simple n F h.1 c)
    local_s (if_s e s t e') F n h f c x a b =
        let w = holds_around P n (size_b s) (size_b t) _ _ _ _ _ (length_b s _ _) (length_b t _ _) h in
        let k = con_ok F n e s t e' w c in
        pick5 n (size_b s) (size_b t) x _ a b
        (λ i. put x n _ i w.at_l (refl, k))
        (λ i' j'. local_b s (in_then n ∷ F) (suc n) w.left f.0 (inner F n _ c _ _ _ w.en_l (omega arith) (omega arith) (λ i j. refl)) x i' j')
        (λ i. put x _ _ i w.at_m (refl, k))
        (λ i' j'. local_b t (in_else n ∷ F) (suc (suc n + size_b s)) w.right f.1 (inner F n _ c _ _ _ w.en_m (omega arith) (omega arith) (λ i j. refl)) x i' j')
        (λ i. put x _ _ i w.at_r (refl, k))
    local_s (from_s e s t e') F n h f c x a b =
        let w = holds_around P n (size_b s) (size_b t) _ _ _ _ _ (length_b s _ _) (length_b t _ _) h in
        let k = con_ok F n e s t e' w c in
        pick5 n (size_b s) (size_b t) x _ a b
        (λ i. put x n _ i w.at_l (refl, k))
        (λ i' j'. local_b s (in_do n ∷ F) (suc n) w.left f.0 (inner F n _ c _ _ _ w.en_l (omega arith) (omega arith) (λ i j. refl)) x i' j')
        (λ i. put x _ _ i w.at_m (refl, k))
        (λ i' j'. local_b t (in_loop n ∷ F) (suc (suc n + size_b s)) w.right f.1
        (inner F n _ c _ _ _ w.en_m (omega arith) (omega arith) (λ i j. ne_eqb n i (λ z. omega arith))) x i' j')
        (λ i. put x _ _ i w.at_r (refl, k))

    pub local_b : (b : Block) (F : List Frame) (n : ℕ) → Holds P n (rows_b b F n) → FineB b Q (Undoes τ) → Ctx P F n (n + size_b b)
        → (x : ℕ) → n ≤ x → x < n + size_b b → Local τ P (P.at x) x
    local_b (one s) F n h f c x a b = local_s s F n h f c x a b
    local_b (◌then◌ s r) F n h f c x a b =
        let hs = holds_left P n (rows_s s F n) (rows_b r F (n + size_s s)) h in
        let hr = holds_right P n (size_s s) (rows_s s F n) (rows_b r F (n + size_s s)) (length_s s F n) h in
        either x (n + size_s s)
        (λ k. local_s s F n hs f.0 (inner F n _ c F n (n + size_s s) c.before (omega arith) (omega arith) c.fresh) x a k)
        (λ k. local_b r F (n + size_s s) hr f.1 (inner F n _ c F (n + size_s s) (n + size_s s + size_b r) (end_s P s F n hs) (omega arith) (omega arith)
        (λ i j. c.fresh i (omega arith))) x k (omega arith))
