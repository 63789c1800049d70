-- Which constructs enclose a gap, and where a label lies. Assumes nothing.
--     nest       none encloses it, or the one that its frame names, and then those that enclose the record before that one's IF or FROM
--     in_some    every record but NAMES lies in a procedure
--     there      every label in a procedure is a record's
use Prim.Native.Nat.{ℕ, zero, suc, ◌+◌, ◌≤◌, ◌<◌, pred}
use mathlib.Core.Path.{◌≡◌, refl, ap, sym, ◌∙◌, subst}
use mathlib.Core.List.{List, [], ◌∷◌}
use lib.ListN.{get_or-eq_default}
use native.Mathlib.Omega.{arith}
use Rattle.order.specs.Trees.{Block, Tree, procedures}
use Rattle.moves.proofs.Sizes.{size_b}
use Rattle.moves.specs.Edges.{Frame, in_then, in_else, in_do, in_loop, frame_kind, frame_label}
use Rattle.moves.proofs.Linked.{Con, Rec, name_l, begin_l, end_l, set_l, skip_l, if_l, else_l, fi_l, from_l, loop_l, until_l, call_l, uncall_l, Prog}
use Rattle.moves.proofs.Cuts.{Span, SimpleOk, ProcOk, Local, Wf}
use Rattle.moves.proofs.Rows.{begin_from, end_from, no_row, rows_of, prog}
use Rattle.moves.proofs.Locals.{either}
use Rattle.moves.proofs.Whole.{past_of, length_p, Suffix, rest, proc, suffix}

-- The constructs that enclose the gap g of procedure q, outward.
pub data Nest (P : Prog) (q : ℕ) : ℕ → Type 0 where
  bare : {g : ℕ} → P.encl g ≡ [] → Nest P q g
  nested : {g : ℕ} (f : Frame) → frame_kind f < 4 → 0 < frame_label f → frame_label f ≤ g → P.first q ≤ pred (frame_label f)
      → P.encl g ≡ f ∷ P.encl (pred (frame_label f)) → Nest P q (pred (frame_label f)) → Nest P q g

carry : (P : Prog) (q g g' : ℕ) → P.encl g ≡ P.encl g' → g' ≤ g → Nest P q g' → Nest P q g
carry P q g g' e h (bare z) = bare (e ∙ z)
carry P q g g' e h (nested f k p l lo z n) = nested {g = g} f k p (omega arith) lo (e ∙ z) n

module _ (τ : Tree) (P : Prog) (w : Wf τ P) (q : ℕ) where
  module _ (g : ℕ) (before : (g' : ℕ) → g' < g → P.first q ≤ g' → g' < P.last q → Nest P q g') (lo : P.first q ≤ g) (hi : g < P.last q) where
    outer : (c : Con) → Span P c → c.l ≤ g → g ≤ c.r → Nest P q (pred c.l)
    outer c s a b =
        let n = s.near q g a b lo (omega arith) in
        before (pred c.l) (omega (arith, s.pos)) (omega arith) (omega arith)

    wrap : (c : Con) (f : Frame) → Span P c → c.l ≤ g → g ≤ c.r → frame_kind f < 4 → frame_label f ≡ c.l → P.encl g ≡ f ∷ P.encl (pred c.l) → Nest P q g
    wrap c f s a b k e h =
        let n = s.near q g a b lo (omega arith) in
        nested {g = g} f k (omega (arith, s.pos)) (omega arith) (omega (arith, s.pos)) (h ∙ ap (λ (x : ℕ). f ∷ P.encl (pred x)) (sym e))
        (subst (λ (x : ℕ). Nest P q (pred x)) (sym e) (outer c s a b))

    same : SimpleOk P g → Nest P q g
    same s = let n = s.near q lo (omega arith) in carry P q g (pred g) s.en (omega arith) (before (pred g) (omega arith) (omega arith) (omega arith))

    step : (ρ : Rec) → Local τ P ρ g → Nest P q g
    step (name_l v ls) l = absurd (l q lo (omega arith))
    step (begin_l q') l = bare (ap P.encl l.0 ∙ l.1.en_first)
    step (end_l q') l = let e = ap P.last (l.2 q lo (omega arith)) in absurd (let z : ⊥ = omega (arith, l.0) in z)
    step (set_l o t ε) l = same l.1
    step skip_l l = same l
    step (if_l c) (x, k) = let s = k.span in wrap c (in_then c.l) s (omega arith) (omega (arith, s.l<m, s.m<r)) (omega arith) refl (ap P.encl x ∙ k.en_l)
    step (else_l c) (x, k) = let s = k.span in wrap c (in_else c.l) s (omega (arith, s.l<m)) (omega (arith, s.m<r)) (omega arith) refl (ap P.encl x ∙ k.en_m)
    step (fi_l c) (x, k) =
        let s = k.span in carry P q g (pred c.l) (ap P.encl x ∙ k.en_r) (omega (arith, s.l<m, s.m<r)) (outer c s (omega (arith, s.l<m, s.m<r)) (omega arith))
    step (from_l c) (x, k) = let s = k.span in wrap c (in_do c.l) s (omega arith) (omega (arith, s.l<m, s.m<r)) (omega arith) refl (ap P.encl x ∙ k.en_l)
    step (loop_l c) (x, k) = let s = k.span in wrap c (in_loop c.l) s (omega (arith, s.l<m)) (omega (arith, s.m<r)) (omega arith) refl (ap P.encl x ∙ k.en_m)
    step (until_l c) (x, k) =
        let s = k.span in carry P q g (pred c.l) (ap P.encl x ∙ k.en_r) (omega (arith, s.l<m, s.m<r)) (outer c s (omega (arith, s.l<m, s.m<r)) (omega arith))
    step (call_l q') l = same l.1
    step (uncall_l q') l = same l.1

  nest_from : (n g : ℕ) → g < n → P.first q ≤ g → g < P.last q → Nest P q g
  nest_from zero g h lo hi = absurd (let z : ⊥ = omega arith in z)
  nest_from (suc n) g h lo hi = step g (λ g' k. nest_from n g' (omega arith)) lo hi (P.at g) (w.here g)

  pub nest : (g : ℕ) → P.first q ≤ g → g < P.last q → Nest P q g
  nest g lo hi = nest_from (suc g) g (omega arith) lo hi

-- ---- where a label lies
pub record Lies (P : Prog) (x : ℕ) : Type 0 where
  pub q : ℕ
  pub lo : P.first q ≤ x
  pub hi : x ≤ P.last q
  pub ok : ProcOk P q

lies_from : (τ : Tree) (P : Prog) (bs : List Block) (n q₀ : ℕ) → Suffix P bs n q₀ → (x : ℕ) → n ≤ x → x < past_of bs n → Lies P x
unfolding past_of begin_from end_from
lies_from τ P [] n q₀ s x a c = absurd (let z : ⊥ = omega arith in z)
lies_from τ P (b ∷ bs) n q₀ s x a c =
    let f : P.first q₀ ≡ n = ap P.first (let z : q₀ ≡ q₀ + 0 = omega arith in z) ∙ s.firsts 0 in
    let l : P.last q₀ ≡ suc n + size_b b = ap P.last (let z : q₀ ≡ q₀ + 0 = omega arith in z) ∙ s.lasts 0 in
    either x (suc (suc n + size_b b))
    (λ h. record { q = q₀; lo = omega arith; hi = omega arith; ok = proc τ P b bs n q₀ s })
    (λ h. lies_from τ P bs (suc (suc n + size_b b)) (suc q₀) (rest τ P b bs n q₀ s) x h c)

pub in_some : (τ : Tree) (x : ℕ) → ((v : ℕ) (ls : List ℕ) → (prog τ).at x ≡ name_l v ls → ⊥) → Lies (prog τ) x
unfolding prog rows_of
in_some τ zero not = absurd (not τ.scalars τ.lengths refl)
in_some τ (suc x) not =
    either (suc x) (past_of (procedures τ) 1)
    (λ h. lies_from τ (prog τ) (procedures τ) 1 0 (suffix τ) (suc x) (omega arith) h)
    (λ h. absurd (not 0 [] (ap (λ k. k.rec) (get_or-eq_default (rows_of τ) no_row {n = suc x} (omega (arith, length_p (procedures τ) 0 1))))))
