-- The edges as document 01 lists them are the gaps between neighbouring records of a procedure.
use Prim.Native.Nat.{ℕ, zero, suc, ◌+◌, ◌≤◌, ◌<◌, pred}
use mathlib.Core.Path.{◌≡◌, refl, ap, ap₂, sym, ◌∙◌, subst, subst⁻¹}
use mathlib.Core.List.{List, [], ◌∷◌, ◌++◌}
use mathlib.Core.Logic.{⊎_elim}
use native.Mathlib.Omega.{arith}
use native.Mathlib.Nat.{suc-pred-eq_of_pos}
use Rattle.order.specs.Trees.{Stmt, set_s, skip_s, call_s, uncall_s, if_s, from_s, Block, one, ◌then◌, Tree, procedures}
use Rattle.moves.proofs.Sizes.{size_s, size_b}
use Rattle.moves.specs.Edges.{Frame, in_then, in_else, in_do, in_loop, Edge, edge, edges_s, edges_b, edges_p, edges}
use Rattle.moves.specs.Places.{Dir, down, up}
use Rattle.moves.proofs.Linked.{Prog, onto, off, side}
use Rattle.moves.proofs.Cuts.{met}
use Rattle.moves.proofs.Rows.{begin_from, end_from, rows_s, rows_b, length_s, length_b, Holds, holds_left, holds_right, holds_around, entry_is, end_s, rows_p, prog}
use Rattle.moves.proofs.Links.{size_is, sizes_are}
use Rattle.moves.proofs.Locals.{either}
use Rattle.moves.proofs.Whole.{Suffix, rest, suffix}
use mathlib.Core.List.Memᴰ
use mathlib.Core.List.{Memᴰ}

-- The last label of a statement whose first is n.
abbrev exit : Stmt → ℕ → ℕ
exit s n = pred (n + size_s s)

-- The ends of the gap g.
abbrev pub tip : Prog → ℕ → Dir → ℕ
tip P g d = side (P.at (met g d)) (met g d) d

module _ (P : Prog) where
  abbrev pub gap_at : ℕ → ℕ → Edge
  gap_at q g = edge q (P.encl g) (tip P g up) (tip P g down)

  abbrev pub gaps : ℕ → ℕ → ℕ → List Edge
  gaps q zero g = []
  gaps q (suc k) g = gap_at q g ∷ gaps q k (suc g)

  pub gaps_append : (q j k g : ℕ) → gaps q (j + k) g ≡ gaps q j g ++ gaps q k (g + j)
  gaps_append q zero k g = rw (let z : 0 + k ≡ k = omega arith in z, let z : g + 0 ≡ g = omega arith in z)
  gaps_append q (suc j) k g = rw (let z : suc j + k ≡ suc (j + k) = omega arith in z, gaps_append q j k (suc g), let z : g + suc j ≡ suc g + j = omega arith in z)

  pub gap_is : (q g : ℕ) (F : List Frame) (a b : ℕ) → P.encl g ≡ F → tip P g up ≡ a → tip P g down ≡ b → edge q F a b ≡ gap_at q g
  gap_is q g F a b h k j = cc

  pub size_pos : (s : Stmt) → 0 < size_s s
  unfolding size_s
  size_pos (set_s o t ε) = omega arith
  size_pos skip_s = omega arith
  size_pos (call_s q) = omega arith
  size_pos (uncall_s q) = omega arith
  size_pos (if_s e s t e') = omega arith
  size_pos (from_s e s t e') = omega arith

  pub exit_one : (n : ℕ) → pred (n + 1) ≡ n
  exit_one n = omega arith

  pub exit_is : (s : Stmt) (F : List Frame) (n : ℕ) → Holds P n (rows_s s F n) → off (P.at (exit s n)) (exit s n) ≡ exit s n
  unfolding size_s rows_s
  exit_is (set_s o t ε) F n h = rw (exit_one n, h.0)
  exit_is skip_s F n h = rw (exit_one n, h.0)
  exit_is (call_s q) F n h = rw (exit_one n, h.0)
  exit_is (uncall_s q) F n h = rw (exit_one n, h.0)
  exit_is (if_s e s t e') F n h =
      let k = holds_around P n (size_b s) (size_b t) _ _ _ _ _ (length_b s _ _) (length_b t _ _) h in
      rw (let z : pred (n + suc (size_b s + suc (size_b t + 1))) ≡ suc (suc n + size_b s) + size_b t = omega arith in z, k.at_r)
  exit_is (from_s e s t e') F n h =
      let k = holds_around P n (size_b s) (size_b t) _ _ _ _ _ (length_b s _ _) (length_b t _ _) h in
      rw (let z : pred (n + suc (size_b s + suc (size_b t + 1))) ≡ suc (suc n + size_b s) + size_b t = omega arith in z, k.at_r)

  pub ends : (s : Stmt) (F : List Frame) (n : ℕ) → Holds P n (rows_s s F n) → P.encl (exit s n) ≡ F
  ends s F n h = end_s P s F n h

  pub join : (q : ℕ) (s : Stmt) (n k : ℕ) (E X : List Edge) → E ≡ gaps q (pred (size_s s)) n → X ≡ gaps q (suc k) (exit s n) → E ++ X ≡ gaps q (size_s s + k) n
  join q s n k E X e x =
      let j = size_pos s in
      ap₂ ◌++◌ e x ∙ (ap (λ i. gaps q (pred (size_s s)) n ++ gaps q (suc k) i) (let z : pred (n + size_s s) ≡ n + pred (size_s s) = omega arith in z)
      ∙ (sym (gaps_append q (pred (size_s s)) (suc k) n) ∙ ap (λ i. gaps q i n) (let z : pred (size_s s) + suc k ≡ size_s s + k = omega arith in z)))

  -- The edge out of a statement.
  pub last_edge : (q : ℕ) (s : Stmt) (F : List Frame) (n z : ℕ) → Holds P n (rows_s s F n) → onto (P.at (n + size_s s)) (n + size_s s) ≡ z
      → edge q F (exit s n) z ∷ [] ≡ gaps q 1 (exit s n)
  last_edge q s F n z h tz =
      let j = size_pos s in
      ap (λ k. k ∷ []) (gap_is q (exit s n) F (exit s n) z (ends s F n h) (exit_is s F n h)
      (rw (let y : suc (pred (n + size_s s)) ≡ n + size_s s = omega arith in y) tz))

  mutual
    unfolding edges_s size_s rows_s

    pub edges_are_s : (s : Stmt) (q : ℕ) (F : List Frame) (n : ℕ) → Holds P n (rows_s s F n) → edges_s s q F n ≡ gaps q (pred (size_s s)) n
    edges_are_s (set_s o t ε) q F n h = refl
    edges_are_s skip_s q F n h = refl
    edges_are_s (call_s p) q F n h = refl
    edges_are_s (uncall_s p) q F n h = refl
    edges_are_s (if_s e s t e') q F n h =
        let k = holds_around P n (size_b s) (size_b t) _ _ _ _ _ (length_b s _ _) (length_b t _ _) h in
        rw (sizes_are s, sizes_are t) (ap₂ ◌++◌ (edges_are_b s q (in_then n ∷ F) n (suc n) _ k.left (omega arith) k.en_l (rw k.at_l) (rw k.at_m))
        (edges_are_b t q (in_else n ∷ F) n (suc (suc n + size_b s)) _ k.right (omega arith) k.en_m (rw k.at_m) (rw k.at_r))
        ∙ (rw (
          let z : size_b s + suc (size_b t + 1) ≡ suc (size_b s) + suc (size_b t) = omega arith in z,
          gaps_append q (suc (size_b s)) (suc (size_b t)) n,
          let z : n + suc (size_b s) ≡ suc n + size_b s = omega arith in z,
        )))
    edges_are_s (from_s e s t e') q F n h =
        let k = holds_around P n (size_b s) (size_b t) _ _ _ _ _ (length_b s _ _) (length_b t _ _) h in
        rw (sizes_are s, sizes_are t) (ap₂ ◌++◌ (edges_are_b s q (in_do n ∷ F) n (suc n) _ k.left (omega arith) k.en_l (rw k.at_l) (rw k.at_m))
        (edges_are_b t q (in_loop n ∷ F) _ (suc (suc n + size_b s)) n k.right (omega arith) k.en_m (rw k.at_m) (rw k.at_r))
        ∙ (rw (
          let z : size_b s + suc (size_b t + 1) ≡ suc (size_b s) + suc (size_b t) = omega arith in z,
          gaps_append q (suc (size_b s)) (suc (size_b t)) n,
          let z : n + suc (size_b s) ≡ suc n + size_b s = omega arith in z,
        )))

    pub edges_are_b : (b : Block) (q : ℕ) (F : List Frame) (a n z : ℕ) → Holds P n (rows_b b F n) → 0 < n → P.encl (pred n) ≡ F → tip P (pred n) up ≡ a
        → onto (P.at (n + size_b b)) (n + size_b b) ≡ z → edges_b b q F a n z ≡ gaps q (suc (size_b b)) (pred n)
    edges_are_b (one s) q F a n z h p en ta tz =
        let i = suc-pred-eq_of_pos p in
        rw (size_is s) (ap₂ ◌∷◌ (gap_is q (pred n) F a n en ta (rw i (entry_is P s F n h)))
        (join q s n 0 _ _ (edges_are_s s q F n h) (last_edge q s F n z h tz) ∙ rw (i, let y : size_s s + 0 ≡ size_s s = omega arith in y)))
    edges_are_b (◌then◌ s b) q F a n z h p en ta tz =
        let i = suc-pred-eq_of_pos p in
        let hs = holds_left P n (rows_s s F n) (rows_b b F (n + size_s s)) h in
        let hb = holds_right P n (size_s s) (rows_s s F n) (rows_b b F (n + size_s s)) (length_s s F n) h in
        rw (size_is s) (ap₂ ◌∷◌ (gap_is q (pred n) F a n en ta (rw i (entry_is P s F n hs)))
        (join q s n (size_b b) _ _ (edges_are_s s q F n hs)
        (edges_are_b b q F (exit s n) (n + size_s s) z hb (omega arith) (ends s F n hs) (exit_is s F n hs)
        (rw (let y : n + size_s s + size_b b ≡ n + (size_s s + size_b b) = omega arith in y) tz))
        ∙ rw i))

  pub in_gaps : (q k g : ℕ) (e : Edge) → Memᴰ e (gaps q k g) → (x : ℕ) × (g ≤ x) × (x < g + k) × (e ≡ gap_at q x)
  in_gaps q zero g e h = absurd (Memᴰ.not-nil h)
  in_gaps q (suc k) g e (Memᴰ.head h) = (g, omega arith, omega arith, h)
  in_gaps q (suc k) g e (Memᴰ.tail h) = let r = in_gaps q k (suc g) e h in (r.0, omega arith, omega arith, r.3)

  pub gaps_have : (q k g x : ℕ) → g ≤ x → x < g + k → Memᴰ (gap_at q x) (gaps q k g)
  gaps_have q zero g x a b = absurd (let z : ⊥ = omega arith in z)
  gaps_have q (suc k) g x a b = either x (suc g)
      (λ h. Memᴰ.head (ap (gap_at q) (omega arith)))
      (λ h. Memᴰ.tail (gaps_have q k (suc g) x h (omega arith)))

-- The edges of the first procedure come first.
edges_first : (b : Block) (bs : List Block) (q n : ℕ) → edges_p (b ∷ bs) q n ≡ edges_b b q [] n (suc n) (suc n + size_b b) ++ edges_p bs (suc q) (suc (suc n + size_b b))
unfolding edges_p
edges_first b bs q n = rw (sizes_are b)

-- The edges of a program are the gaps of its procedures.
pub record Gap (P : Prog) (e : Edge) : Type 0 where
  pub g : ℕ
  pub lo : P.first e.proc ≤ g
  pub hi : g < P.last e.proc
  pub is : e ≡ gap_at P e.proc g

module _ (τ : Tree) (P : Prog) where
  -- The edges of the first procedure that is left.
  block_edges : (b : Block) (bs : List Block) (n q₀ : ℕ) → Suffix P (b ∷ bs) n q₀
      → edges_b b q₀ [] n (suc n) (suc n + size_b b) ≡ gaps P q₀ (suc (size_b b)) n
  unfolding rows_p
  block_edges b bs n q₀ s =
      let h = holds_right P (suc n) (size_b b) (rows_b b [] (suc n)) _ (length_b b [] (suc n)) s.holds.2 in
      edges_are_b P b q₀ [] n (suc n) (suc n + size_b b) (holds_left P (suc n) (rows_b b [] (suc n)) _ s.holds.2) (omega arith) s.holds.1
      (rw s.holds.0) (rw h.0)

  begins_at : (b : Block) (bs : List Block) (n q₀ : ℕ) → Suffix P (b ∷ bs) n q₀ → (P.first q₀ ≡ n) × (P.last q₀ ≡ suc n + size_b b)
  unfolding begin_from end_from
  begins_at b bs n q₀ s =
      (ap P.first (let z : q₀ ≡ q₀ + 0 = omega arith in z) ∙ s.firsts 0, ap P.last (let z : q₀ ≡ q₀ + 0 = omega arith in z) ∙ s.lasts 0)

  gap_of : (bs : List Block) (n q₀ : ℕ) → Suffix P bs n q₀ → (e : Edge) → Memᴰ e (edges_p bs q₀ n) → Gap P e
  unfolding edges_p
  gap_of [] n q₀ s e h = absurd (Memᴰ.not-nil h)
  gap_of (b ∷ bs) n q₀ s e h =
      ⊎_elim (λ m. here (in_gaps P q₀ (suc (size_b b)) n e (subst (Memᴰ e) (block_edges b bs n q₀ s) m)))
      (λ m. gap_of bs (suc (suc n + size_b b)) (suc q₀) (rest τ P b bs n q₀ s) e m)
      (Memᴰ.append_cases (edges_b b q₀ [] n (suc n) (suc n + size_b b)) (subst (Memᴰ e) (edges_first b bs q₀ n) h))
    where
      here : (x : ℕ) × (n ≤ x) × (x < n + suc (size_b b)) × (e ≡ gap_at P q₀ x) → Gap P e
      here r =
          let k = begins_at b bs n q₀ s in
          let p : e.proc ≡ q₀ = ap (λ e. e.proc) r.3 in
          let f = ap P.first p in let l = ap P.last p in
          let lo : P.first e.proc ≤ r.0 = omega (arith, f, k.0, r.1) in
          let hi : r.0 < P.last e.proc = omega (arith, l, k.1, r.2) in
          record { g = r.0; lo = lo; hi = hi; is = r.3 ∙ ap (λ q. gap_at P q r.0) (sym p) }

  gap_in : (bs : List Block) (n q₀ : ℕ) → Suffix P bs n q₀ → (k g : ℕ) → P.first (q₀ + k) ≤ g → g < P.last (q₀ + k)
      → Memᴰ (gap_at P (q₀ + k) g) (edges_p bs q₀ n)
  unfolding edges_p begin_from end_from
  gap_in [] n q₀ s k g a c = absurd (let f = s.firsts k in let l = s.lasts k in let z : ⊥ = omega arith in z)
  gap_in (b ∷ bs) n q₀ s zero g a c =
      let j = begins_at b bs n q₀ s in
      let z : q₀ + 0 ≡ q₀ = omega arith in
      let f = ap P.first z in let l = ap P.last z in
      subst⁻¹ (Memᴰ (gap_at P (q₀ + 0) g)) (edges_first b bs q₀ n)
      (Memᴰ.append_left _ (subst⁻¹ (Memᴰ (gap_at P (q₀ + 0) g)) (block_edges b bs n q₀ s)
      (subst⁻¹ (λ q. Memᴰ (gap_at P q g) (gaps P q₀ (suc (size_b b)) n)) z
      (gaps_have P q₀ (suc (size_b b)) n g (omega (arith, j.0)) (omega (arith, j.1))))))
  gap_in (b ∷ bs) n q₀ s (suc k) g a c =
      let z : q₀ + suc k ≡ suc q₀ + k = omega arith in
      let f = ap P.first z in let l = ap P.last z in
      subst⁻¹ (Memᴰ (gap_at P (q₀ + suc k) g)) (edges_first b bs q₀ n)
      (Memᴰ.append_right (edges_b b q₀ [] n (suc n) (suc n + size_b b))
      (subst⁻¹ (λ q. Memᴰ (gap_at P q g) (edges_p bs (suc q₀) (suc (suc n + size_b b)))) z
      (gap_in bs (suc (suc n + size_b b)) (suc q₀) (rest τ P b bs n q₀ s) k g (omega arith) (omega arith))))

pub on_edge : (τ : Tree) (e : Edge) → Memᴰ e (edges τ) → Gap (prog τ) e
on_edge τ e h = gap_of τ (prog τ) (procedures τ) 1 0 (suffix τ) e h

pub edge_on : (τ : Tree) (q g : ℕ) → (prog τ).first q ≤ g → g < (prog τ).last q → Memᴰ (gap_at (prog τ) q g) (edges τ)
edge_on τ q g a b =
    let z : 0 + q ≡ q = omega arith in
    let f = ap (prog τ).first z in let l = ap (prog τ).last z in
    subst (λ q. Memᴰ (gap_at (prog τ) q g) (edges τ)) z (gap_in τ (prog τ) (procedures τ) 1 0 (suffix τ) q g (omega arith) (omega arith))
