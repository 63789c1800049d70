-- The second and the third pass: the partners of all records of a construct, and both ends of each gap.
use Prim.Native.Nat.{ℕ, zero, suc, ◌+◌, ◌%◌, ◌≤◌, ◌<◌}
use mathlib.Core.Path.{◌≡◌, ap, sym, ◌∙◌, subst}
use mathlib.Core.List.{List}
use native.Mathlib.Omega.{arith}
use lib.ListN.{length, get_or, set, length-set}
use lib.Seq.{get_or-set_same}
use Rattle.order.specs.Trees.{Tree}
use Rattle.moves.proofs.Linked.{Con, Prog, head_of}
use Rattle.moves.proofs.Locals.{either}
use Rattle.table.specs.Table.{head_at, share, shared, from_above, from_below, join, joined}
use Rattle.table.proofs.Facts.{Facts}
use Rattle.table.proofs.Parts.{Construct}
use Rattle.table.proofs.Entries.{skip}

-- ---- Second pass.
module _ (t : Tree) (P : Prog) (n p : ℕ) (G : Facts t P n p) where
  -- The section at b has `val` of each construct at its IF or FROM, and at the construct's records below x.
  pub record Half (b : ℕ) (val : Con → ℕ) (T : List ℕ) (x : ℕ) : Type 0 where
    pub con : (a : ℕ) (c : Con) → Construct P n a c → get_or T (b + c.l) 0 ≡ val c
    pub part : (y a : ℕ) (c : Con) → y < x → Construct P n a c → head_of (P.at y) ≡ c.l → get_or T (b + y) 0 ≡ val c

  label : (a : ℕ) (c : Con) → Construct P n a c → c.l < 1024
  label a c C = let b = G.few in omega (arith, C.l<m, C.m<r, C.r<n)

  half_on : (b : ℕ) (val : Con → ℕ) (T U : List ℕ) (x : ℕ) → Half b val T x → x < n → head_at T x ≡ head_of (P.at x) % 1024
      → get_or U (b + x) 0 ≡ get_or T (b + head_at T x) 0 → ((y : ℕ) → y < 1024 → (y ≡ x → ⊥) → get_or U (b + y) 0 ≡ get_or T (b + y) 0) → Half b val U (suc x)
  half_on b val T U x H hx eh here keep = record {
    con = λ a c C. let s = label a c C in either c.l x
        (λ h. keep c.l s (λ z. omega arith) ∙ H.con a c C)
        (λ h. either x c.l (λ k. keep c.l s (λ z. omega arith) ∙ H.con a c C)
        (λ k. let z : c.l ≡ x = omega arith in ap (λ i. get_or U (b + i) 0) z ∙ at_head a c C (ap (λ i. head_of (P.at i)) (sym z) ∙ C.head)));
    part = λ y a c hy C e. either y x
        (λ h. keep y (let s = G.few in omega arith) (λ z. omega arith) ∙ H.part y a c h C e)
        (λ h. let z : y ≡ x = omega arith in ap (λ i. get_or U (b + i) 0) z ∙ at_head a c C (ap (λ i. head_of (P.at i)) (sym z) ∙ e));
  }
    where
      at_head : (a : ℕ) (c : Con) → Construct P n a c → head_of (P.at x) ≡ c.l → get_or U (b + x) 0 ≡ val c
      at_head a c C e =
          let s = label a c C in
          here ∙ (ap (λ i. get_or T (b + i) 0) (eh ∙ (ap (λ i. i % 1024) e ∙ (let z : c.l % 1024 ≡ c.l = omega arith in z))) ∙ H.con a c C)

  module _ (T₀ : List ℕ) (heads : (y : ℕ) → y < n → get_or T₀ (2048 + y) 0 ≡ head_of (P.at y)) where
    pub record Shared (T : List ℕ) (x : ℕ) : Type 0 where
      pub size : length T ≡ 9344
      pub below : (i : ℕ) → i < 3072 → get_or T i 0 ≡ get_or T₀ i 0
      pub above : (i : ℕ) → 5120 ≤ i → get_or T i 0 ≡ get_or T₀ i 0
      pub middles : Half 3072 (λ c. c.m) T x
      pub tails : Half 4096 (λ c. c.r) T x

    shared_on : (T : List ℕ) (x : ℕ) → Shared T x → x < n → Shared (share T x) (suc x)
    unfolding share
    shared_on T x S hx =
        let s = G.few in
        let m = get_or T (3072 + head_at T x) 0 in
        let r = get_or T (4096 + head_at T x) 0 in
        let M = set T (3072 + x) m in
        let z : head_at T x ≡ head_of (P.at x) % 1024 = ap (λ i. i % 1024) (S.below (2048 + x) (omega arith) ∙ heads x hx) in
        let l : length M ≡ 9344 = length-set T (3072 + x) m ∙ S.size in
        record {
          size = length-set M (4096 + x) r ∙ l;
          below = λ i h. skip M (4096 + x) i r (λ e. omega arith) ∙ (skip T (3072 + x) i m (λ e. omega arith) ∙ S.below i h);
          above = λ i h. skip M (4096 + x) i r (λ e. omega arith) ∙ (skip T (3072 + x) i m (λ e. omega arith) ∙ S.above i h);
          middles = half_on 3072 (λ c. c.m) T (set M (4096 + x) r) x S.middles hx z
              (skip M (4096 + x) (3072 + x) r (λ e. omega arith) ∙ get_or-set_same T (3072 + x) m 0 (omega (arith, S.size)))
              (λ y h k. skip M (4096 + x) (3072 + y) r (λ e. omega arith) ∙ skip T (3072 + x) (3072 + y) m (λ e. k (omega arith)));
          tails = half_on 4096 (λ c. c.r) T (set M (4096 + x) r) x S.tails hx z
              (get_or-set_same M (4096 + x) r 0 (omega arith))
              (λ y h k. skip M (4096 + x) (4096 + y) r (λ e. k (omega arith)) ∙ skip T (3072 + x) (4096 + y) m (λ e. omega arith));
        }

    pub shared_all : (k x : ℕ) (T : List ℕ) → Shared T x → x + k ≡ n → Shared (shared k x T) n
    unfolding shared
    shared_all zero x T S e = subst (λ i. Shared T i) (let z : x ≡ n = omega arith in z) S
    shared_all (suc k) x T S e = shared_all k (suc x) (share T x) (shared_on T x S (omega arith)) (omega arith)

-- ---- Third pass, over any table.
module _ (T₀ : List ℕ) where
  pub record Joined (T : List ℕ) (g : ℕ) : Type 0 where
    pub size : length T ≡ 9344
    pub below : (i : ℕ) → i < 5120 → get_or T i 0 ≡ get_or T₀ i 0
    pub above : (i : ℕ) → 7168 ≤ i → get_or T i 0 ≡ get_or T₀ i 0
    pub downs : (y : ℕ) → y < g → get_or T (5120 + y) 0 ≡ from_above T₀ (suc y)
    pub ups : (y : ℕ) → y < g → get_or T (6144 + suc y) 0 ≡ from_below T₀ y

  above_same : (T : List ℕ) (g x : ℕ) → Joined T g → x < 1024 → from_above T x ≡ from_above T₀ x
  above_same T g x J h = rw (J.below (1024 + x) (omega arith), J.below (4096 + x) (omega arith), J.below (2048 + x) (omega arith))

  below_same : (T : List ℕ) (g x : ℕ) → Joined T g → x < 1024 → from_below T x ≡ from_below T₀ x
  below_same T g x J h = rw (J.below (1024 + x) (omega arith), J.below (2048 + x) (omega arith), J.below (4096 + x) (omega arith))

  joined_on : (T : List ℕ) (g : ℕ) → Joined T g → suc g < 1024 → Joined (join T g) (suc g)
  unfolding join
  joined_on T g J h =
      let d = from_above T (suc g) in
      let u = from_below T g in
      let D = set T (5120 + g) d in
      let l : length D ≡ 9344 = length-set T (5120 + g) d ∙ J.size in
      record {
        size = length-set D (6144 + suc g) u ∙ l;
        below = λ i k. skip D (6144 + suc g) i u (λ e. omega arith) ∙ (skip T (5120 + g) i d (λ e. omega arith) ∙ J.below i k);
        above = λ i k. skip D (6144 + suc g) i u (λ e. omega arith) ∙ (skip T (5120 + g) i d (λ e. omega arith) ∙ J.above i k);
        downs = λ y k. skip D (6144 + suc g) (5120 + y) u (λ e. omega arith) ∙ either y g
            (λ m. skip T (5120 + g) (5120 + y) d (λ e. omega arith) ∙ J.downs y m)
            (λ m. let z : y ≡ g = omega arith in rw z (get_or-set_same T (5120 + g) d 0 (omega (arith, J.size)) ∙ above_same T g (suc g) J h));
        ups = λ y k. either y g
            (λ m. skip D (6144 + suc g) (6144 + suc y) u (λ e. omega arith) ∙ (skip T (5120 + g) (6144 + suc y) d (λ e. omega arith) ∙ J.ups y m))
            (λ m. let z : y ≡ g = omega arith in rw z (get_or-set_same D (6144 + suc g) u 0 (omega arith) ∙ below_same T g g J (omega arith)));
      }

  pub joined_all : (k g : ℕ) (T : List ℕ) → Joined T g → g + k < 1024 → Joined (joined k g T) (g + k)
  unfolding joined
  joined_all zero g T J h = subst (λ i. Joined T i) (let z : g ≡ g + 0 = omega arith in z) J
  joined_all (suc k) g T J h =
      subst (λ i. Joined (joined k (suc g) (join T g)) i) (let z : suc g + k ≡ g + suc k = omega arith in z)
      (joined_all k (suc g) (join T g) (joined_on T g J (omega arith)) (omega arith))
