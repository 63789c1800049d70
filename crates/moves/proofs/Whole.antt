-- The whole file: its procedures one after another, and what every record of an accepted program has beside it.
use Prim.Native.Nat.{ℕ, zero, suc, ◌+◌, ◌-◌, ◌≤◌, ◌<◌}
use mathlib.Core.Path.{◌≡◌, refl, ap, sym, ◌∙◌}
use mathlib.Core.List.{List, [], ◌∷◌}
use lib.ListN.{length, get_or, length-append, get_or-eq_default}
use native.Mathlib.Omega.{arith}
use Rattle.records.specs.Records.{names, kind}
use Rattle.order.specs.Trees.{Block, Tree, procedures, records_of}
use Rattle.moves.proofs.Sizes.{size_b}
use Rattle.moves.proofs.Linked.{Rec, name_l, begin_l, end_l, set_l, skip_l, if_l, else_l, fi_l, from_l, loop_l, until_l, call_l, uncall_l, Prog, forget}
use Rattle.moves.proofs.Cuts.{Undoes, ProcOk, Local, Wf}
use Rattle.moves.proofs.Rows.{begin_from, end_from, begin_of, end_of, Row, row, rows_b, length_b, Holds, holds_left, holds_right, end_b, rows_p, no_row, rows_of, prog, each_get_d, Plain, plain_p}
use Rattle.moves.proofs.Links.{at_is}
use Rattle.moves.proofs.Locals.{FineB, either, Ctx, put, local_b}

pub holds_from : (P : Prog) (n : ℕ) (R : List Row) → ((i : ℕ) → P.at (n + i) ≡ (get_or R i no_row).rec) → ((i : ℕ) → P.encl (n + i) ≡ (get_or R i no_row).after)
    → Holds P n R
holds_from P n [] f g = tt
holds_from P n (ρ ∷ R) f g = (
  ap P.at (omega arith) ∙ f 0,
  ap P.encl (omega arith) ∙ g 0,
  holds_from P (suc n) R (λ i. ap P.at (omega arith) ∙ f (suc i)) (λ i. ap P.encl (omega arith) ∙ g (suc i)),
)

unfoldable pub past_of : List Block → ℕ → ℕ
past_of [] n = n
past_of (b ∷ bs) n = past_of bs (suc (suc n + size_b b))

pub end_ge : (bs : List Block) (n : ℕ) → n ≤ past_of bs n
unfolding past_of
end_ge [] n = omega arith
end_ge (b ∷ bs) n = omega (arith, end_ge bs (suc (suc n + size_b b)))

-- A label in the range of one of the procedures from n on.
pub in_range : (bs : List Block) (n k x : ℕ) → begin_from bs n k ≤ x → x ≤ end_from bs n k → (n ≤ x) × (x < past_of bs n)
unfolding begin_from end_from past_of
in_range [] n k x a b = absurd (let z : ⊥ = omega arith in z)
in_range (b ∷ bs) n zero x a c = (a, omega (arith, end_ge bs (suc (suc n + size_b b))))
in_range (b ∷ bs) n (suc k) x a c = let h = in_range bs (suc (suc n + size_b b)) k x a c in (omega arith, h.1)

pub length_p : (bs : List Block) (q n : ℕ) → n + length (rows_p bs q n) ≡ past_of bs n
unfolding rows_p past_of
length_p [] q n = omega arith
length_p (b ∷ bs) q n =
    let h = length_p bs (suc q) (suc (suc n + size_b b)) in
    let k = length-append (rows_b b [] (suc n)) (row (end_l q) [] ∷ rows_p bs (suc q) (suc (suc n + size_b b))) in
    let j = length_b b [] (suc n) in omega arith

-- The procedures from number q₀ and label n on.
pub record Suffix (P : Prog) (bs : List Block) (n q₀ : ℕ) : Type 0 where
  pub holds : Holds P n (rows_p bs q₀ n)
  pub firsts : (k : ℕ) → P.first (q₀ + k) ≡ begin_from bs n k
  pub lasts : (k : ℕ) → P.last (q₀ + k) ≡ end_from bs n k
  pub older : (q : ℕ) → q < q₀ → P.last q < n
  pub pos : 0 < n

module _ (τ : Tree) (P : Prog) where
  pub rest : (b : Block) (bs : List Block) (n q₀ : ℕ) → Suffix P (b ∷ bs) n q₀ → Suffix P bs (suc (suc n + size_b b)) (suc q₀)
  unfolding rows_p begin_from end_from
  rest b bs n q₀ s = record {
    holds = (holds_right P (suc n) (size_b b) (rows_b b [] (suc n)) _ (length_b b [] (suc n)) s.holds.2).2;
    firsts = λ k. ap P.first (omega arith) ∙ s.firsts (suc k);
    lasts = λ k. ap P.last (omega arith) ∙ s.lasts (suc k);
    older = λ q h. either q q₀ (λ k. omega (arith, s.older q k))
        (λ k. let l = ap P.last (let z : q ≡ q₀ + 0 = omega arith in z) ∙ s.lasts 0 in omega arith);
    pos = omega arith;
  }

  -- Only the first of them has labels up to its END.
  pub mine : (b : Block) (bs : List Block) (n q₀ : ℕ) → Suffix P (b ∷ bs) n q₀ → (q x : ℕ) → n ≤ x → x ≤ suc n + size_b b
      → P.first q ≤ x → x ≤ P.last q → q ≡ q₀
  unfolding begin_from end_from
  mine b bs n q₀ s q x a c a' c' = either q q₀ (λ k. absurd (let z : ⊥ = omega (arith, s.older q k) in z))
      (λ k. go' (q - q₀) (omega arith))
    where
      go' : (j : ℕ) → q ≡ q₀ + j → q ≡ q₀
      go' zero e = omega arith
      go' (suc j) e =
          let f = ap P.first e ∙ s.firsts (suc j) in
          let l = ap P.last e ∙ s.lasts (suc j) in
          let h = in_range bs (suc (suc n + size_b b)) j x (omega arith) (omega arith) in
          absurd (let z : ⊥ = omega arith in z)

  pub proc : (b : Block) (bs : List Block) (n q₀ : ℕ) → Suffix P (b ∷ bs) n q₀ → ProcOk P q₀
  unfolding rows_p begin_from end_from
  proc b bs n q₀ s =
      let f = ap P.first (let z : q₀ ≡ q₀ + 0 = omega arith in z) ∙ s.firsts 0 in
      let l = ap P.last (let z : q₀ ≡ q₀ + 0 = omega arith in z) ∙ s.lasts 0 in
      let h = holds_right P (suc n) (size_b b) (rows_b b [] (suc n)) _ (length_b b [] (suc n)) s.holds.2 in
      let w = holds_left P (suc n) (rows_b b [] (suc n)) _ s.holds.2 in
      record {
        at_first = rw f s.holds.0;
        at_last = rw l h.0;
        en_first = rw f s.holds.1;
        en_last = rw l (end_b P b [] (suc n) w);
        pos = omega (arith, f, s.pos);
        lt = omega arith;
      }

  pub procs : (bs : List Block) (n q₀ : ℕ) → Suffix P bs n q₀ → (k : ℕ) → k < length bs → ProcOk P (q₀ + k)
  procs [] n q₀ s k h = absurd (let z : ⊥ = omega arith in z)
  procs (b ∷ bs) n q₀ s zero h = rw (let z : q₀ + 0 ≡ q₀ = omega arith in z) (proc b bs n q₀ s)
  procs (b ∷ bs) n q₀ s (suc k) h =
      rw (let z : q₀ + suc k ≡ suc q₀ + k = omega arith in z) (procs bs (suc (suc n + size_b b)) (suc q₀) (rest b bs n q₀ s) k (omega arith))

  abbrev pub FineP : List Block → (ℕ → Type 0) → Type 0
  FineP [] Q = Unit {0}
  FineP (b ∷ bs) Q = FineB b Q (Undoes τ) × FineP bs Q

  pub locals : (Q : ℕ → Type 0) → ((q : ℕ) → Q q → ProcOk P q) → (bs : List Block) (n q₀ : ℕ) → Suffix P bs n q₀ → FineP bs Q
      → (x : ℕ) → n ≤ x → x < past_of bs n → Local τ P (P.at x) x
  unfolding rows_p begin_from end_from past_of
  locals Q qok [] n q₀ s f x a c = absurd (let z : ⊥ = omega arith in z)
  locals Q qok (b ∷ bs) n q₀ s f x a c =
      let h = holds_right P (suc n) (size_b b) (rows_b b [] (suc n)) _ (length_b b [] (suc n)) s.holds.2 in
      let w = holds_left P (suc n) (rows_b b [] (suc n)) _ s.holds.2 in
      let fi = ap P.first (let z : q₀ ≡ q₀ + 0 = omega arith in z) ∙ s.firsts 0 in
      let la = ap P.last (let z : q₀ ≡ q₀ + 0 = omega arith in z) ∙ s.lasts 0 in
      let k = proc b bs n q₀ s in
      let ctx : Ctx P [] (suc n) (suc n + size_b b) = record {
        before = s.holds.1;
        pos = omega arith;
        fresh = λ i j. refl;
        near = λ q y a c a' c'. let e = mine b bs n q₀ s q y (omega arith) (omega arith) a' c' in
            let e₁ = ap P.first e in let e₂ = ap P.last e in (omega arith, omega arith);
      } in
      either x (suc n)
      (λ j. put τ P Q qok x n (begin_l q₀) (omega arith) s.holds.0 (sym fi, k, λ q a c. mine b bs n q₀ s q n (omega arith) (omega arith) a c))
      (λ j. either x (suc n + size_b b)
      (λ i. local_b τ P Q qok b [] (suc n) w f.0 ctx x j i)
      (λ i. either x (suc (suc n + size_b b))
      (λ i'. put τ P Q qok x (suc n + size_b b) (end_l q₀) (omega arith) h.0
      (sym la, k, λ q a c. mine b bs n q₀ s q (suc n + size_b b) (omega arith) (omega arith) a c))
      (λ i'. locals Q qok bs (suc (suc n + size_b b)) (suc q₀) (rest b bs n q₀ s) f.1 x i' c)))

-- An accepted program: calls that are there, SETs that can be undone.
pub suffix : (τ : Tree) → Suffix (prog τ) (procedures τ) 1 0
unfolding prog rows_of
suffix τ = record {
  holds = (holds_from (prog τ) 0 (rows_of τ) (λ i. ap (λ k. (get_or (rows_of τ) k no_row).rec) (let z : 0 + i ≡ i = omega arith in z))
      (λ i. ap (λ k. (get_or (rows_of τ) k no_row).after) (let z : 0 + i ≡ i = omega arith in z))).2;
  firsts = λ k. ap (begin_of τ) (let z : 0 + k ≡ k = omega arith in z);
  lasts = λ k. ap (end_of τ) (let z : 0 + k ≡ k = omega arith in z);
  older = λ q h. absurd (let z : ⊥ = omega arith in z);
  pos = omega arith;
}

pub proc_there : (τ : Tree) (q : ℕ) → q < length (procedures τ) → ProcOk (prog τ) q
proc_there τ q h = rw (let z : 0 + q ≡ q = omega arith in z) at (procs τ (prog τ) (procedures τ) 1 0 (suffix τ) q h)

pub fine_wf : (τ : Tree) → FineP τ (prog τ) (procedures τ) (λ q. q < length (procedures τ)) → Wf τ (prog τ)
unfolding prog rows_of
fine_wf τ a = record {
  here = λ x. either x 1
      (λ h. put τ (prog τ) (λ q. ⊥) (λ q z. absurd z) x 0 (name_l τ.scalars τ.lengths) (omega arith) refl
      (λ q lo hi. let k = in_range (procedures τ) 1 q 0 lo hi in omega arith))
      (λ h. either x (past_of (procedures τ) 1)
      (λ k. locals τ (prog τ) (λ q. q < length (procedures τ)) (proc_there τ) (procedures τ) 1 0 (suffix τ) a x h k)
      (λ k. put τ (prog τ) (λ q. ⊥) (λ q z. absurd z) x x (name_l 0 []) refl
      (ap (λ k. k.rec) (get_or-eq_default (rows_of τ) no_row {n = x} (omega (arith, length_p (procedures τ) 0 1))))
      (λ q lo hi. let j = in_range (procedures τ) 1 q x lo hi in omega arith)));
  plain = λ x. each_get_d Plain (rows_of τ) x refl (refl, plain_p (procedures τ) 0 1);
  main_ok = proc_there τ 0 (omega arith);
}

-- ---- labels
no_names : (τ : Tree) (P : Prog) (q x : ℕ) (ρ : Rec) → Local τ P ρ x → P.first q ≤ x → x ≤ P.last q → forget ρ ≡ names 0 [] → ⊥
unfolding kind
no_names τ P q x (name_l v ls) l lo hi e = l q lo hi
no_names τ P q x (begin_l p) l lo hi e = let k = ap kind e in omega arith
no_names τ P q x (end_l p) l lo hi e = let k = ap kind e in omega arith
no_names τ P q x (set_l o t ε) l lo hi e = let k = ap kind e in omega arith
no_names τ P q x skip_l l lo hi e = let k = ap kind e in omega arith
no_names τ P q x (if_l c) l lo hi e = let k = ap kind e in omega arith
no_names τ P q x (else_l c) l lo hi e = let k = ap kind e in omega arith
no_names τ P q x (fi_l c) l lo hi e = let k = ap kind e in omega arith
no_names τ P q x (from_l c) l lo hi e = let k = ap kind e in omega arith
no_names τ P q x (loop_l c) l lo hi e = let k = ap kind e in omega arith
no_names τ P q x (until_l c) l lo hi e = let k = ap kind e in omega arith
no_names τ P q x (call_l p) l lo hi e = let k = ap kind e in omega arith
no_names τ P q x (uncall_l p) l lo hi e = let k = ap kind e in omega arith

-- A label inside a procedure is a record's.
pub there : (τ : Tree) → Wf τ (prog τ) → (q x : ℕ) → (prog τ).first q ≤ x → x ≤ (prog τ).last q → x < length (records_of τ)
there τ w q x lo hi =
    either x (length (records_of τ)) (λ h. h)
    (λ h. absurd (no_names τ (prog τ) q x ((prog τ).at x) (w.here x) lo hi (sym (at_is τ x) ∙ get_or-eq_default (records_of τ) (names 0 []) {n = x} h)))
