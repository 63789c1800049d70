-- What the table of a checked file says of its program: each entry, by label or by procedure.
use Prim.Native.Nat.{ℕ, suc, ◌+◌, ◌%◌, ◌^◌, ◌≤◌, ◌<◌, pred}
use mathlib.Core.Path.{◌≡◌, refl, ap, sym, ◌∙◌, subst}
use mathlib.Core.List.{List}
use native.Mathlib.Omega.{arith}
use lib.ListN.{length, get_or}
use Rattle.records.specs.Records.{kind}
use Rattle.order.specs.Trees.{Tree, procedures, records_of}
use Rattle.records.specs.Walk.{kind_at, offsets}
use Rattle.program.specs.Says.{Accepts}
use Rattle.records.proofs.Offsets.{offsets_of, kinds_of}
use Rattle.moves.specs.Labels.{at}
use Rattle.moves.specs.Places.{down, up}
use Rattle.moves.proofs.Linked.{Con, Rec, name_l, begin_l, end_l, set_l, skip_l, if_l, else_l, fi_l, from_l, loop_l, until_l, call_l, uncall_l, Prog, forget, head_of, onto, off}
use Rattle.moves.proofs.Cuts.{Local}
use Rattle.moves.proofs.Rows.{prog}
use Rattle.moves.proofs.Links.{at_is}
use Rattle.moves.proofs.Gaps.{tip}
use Rattle.table.specs.Table.{blank, filled, shared, from_above, from_below, joined, table_of}
use Rattle.table.proofs.Facts.{Facts, facts}
pub use Rattle.table.proofs.Parts.{Part, is_if, is_else, is_fi, is_from, is_loop, is_until, open_of}
use Rattle.table.proofs.Parts.{Construct, within, cond_is, loop_is}
use Rattle.table.proofs.First.{middle, tail, first, last, there, Filled, filled_first, filled_all}
use Rattle.table.proofs.Second.{Shared, shared_all, Joined, joined_all}
use Rattle.table.proofs.Offsets.{labelled_is, offset_inside, kind_there}

pub record Tabled (t : Tree) (f tab : List ℕ) : Type 0 where
  pub offset : (x : ℕ) → x < length (records_of t) → get_or tab x 0 ≡ get_or (offsets f) x 0
  pub kinds : (x : ℕ) → x < length (records_of t) → get_or tab (1024 + x) 0 ≡ kind (at t x)
  pub heads : (x : ℕ) → x < length (records_of t) → get_or tab (2048 + x) 0 ≡ head_of ((prog t).at x)
  pub middles : (x : ℕ) (c : Con) → x < length (records_of t) → Part (prog t) c x → get_or tab (3072 + x) 0 ≡ c.m
  pub tails : (x : ℕ) (c : Con) → x < length (records_of t) → Part (prog t) c x → get_or tab (4096 + x) 0 ≡ c.r
  pub downs : (x : ℕ) → suc x < length (records_of t) → get_or tab (5120 + x) 0 ≡ tip (prog t) x down
  pub ups : (x : ℕ) → 0 < x → x < length (records_of t) → get_or tab (6144 + x) 0 ≡ tip (prog t) (pred x) up
  pub opens : (x : ℕ) → x < length (records_of t) → get_or tab (7168 + x) 0 ≡ open_of ((prog t).encl x)
  pub owners : (q x : ℕ) → (prog t).first q ≤ x → x ≤ (prog t).last q → get_or tab (8192 + x) 0 ≡ q
  pub firsts : (q : ℕ) → q < length (procedures t) → get_or tab (9216 + q) 0 ≡ (prog t).first q
  pub lasts : (q : ℕ) → q < length (procedures t) → get_or tab (9280 + q) 0 ≡ (prog t).last q

-- ---- A table whose records below n have kind, HEAD and TAIL: where one comes to is what the gaps say.
module _ (t : Tree) (P : Prog) (n p : ℕ) (G : Facts t P n p) where
  abbrev Its : Con → ℕ → Type 0
  Its c x = (a : ℕ) × (Construct P n a c × (head_of (P.at x) ≡ c.l))

  local : (ρ : Rec) (x : ℕ) → P.at x ≡ ρ → Local t P ρ x
  local ρ x e = subst (λ ρ. Local t P ρ x) e (G.wf.here x)

  part_is : (c : Con) (x : ℕ) → Part P c x → Its c x
  part_is c x (is_if e) = (0, (cond_is t P n p G c (local (if_l c) x e).1, rw e))
  part_is c x (is_else e) = (0, (cond_is t P n p G c (local (else_l c) x e).1, rw e))
  part_is c x (is_fi e) = (0, (cond_is t P n p G c (local (fi_l c) x e).1, rw e))
  part_is c x (is_from e) = (2, (loop_is t P n p G c (local (from_l c) x e).1, rw e))
  part_is c x (is_loop e) = (2, (loop_is t P n p G c (local (loop_l c) x e).1, rw e))
  part_is c x (is_until e) = (2, (loop_is t P n p G c (local (until_l c) x e).1, rw e))

  module _ (T : List ℕ) (x : ℕ) (K : get_or T (1024 + x) 0 ≡ kind (forget (P.at x))) (H : get_or T (2048 + x) 0 ≡ head_of (P.at x))
      (R : (c : Con) → Part P c x → get_or T (4096 + x) 0 ≡ c.r) where
    kind_is : (ρ : Rec) → P.at x ≡ ρ → get_or T (1024 + x) 0 ≡ kind (forget ρ)
    kind_is ρ e = K ∙ ap (λ ρ. kind (forget ρ)) e

    above_is : (ρ : Rec) → P.at x ≡ ρ → from_above T x ≡ onto ρ x
    unfolding kind
    above_is (name_l v ls) e = rw (kind_is (name_l v ls) e)
    above_is (begin_l q) e = rw (kind_is (begin_l q) e)
    above_is (end_l q) e = rw (kind_is (end_l q) e)
    above_is (set_l o τ ε) e = rw (kind_is (set_l o τ ε) e)
    above_is skip_l e = rw (kind_is skip_l e)
    above_is (if_l c) e = rw (kind_is (if_l c) e)
    above_is (else_l c) e = rw (kind_is (else_l c) e) (R c (is_else e))
    above_is (fi_l c) e = rw (kind_is (fi_l c) e)
    above_is (from_l c) e = rw (kind_is (from_l c) e)
    above_is (loop_l c) e = rw (kind_is (loop_l c) e) (R c (is_loop e))
    above_is (until_l c) e = rw (kind_is (until_l c) e) (H ∙ ap head_of e)
    above_is (call_l q) e = rw (kind_is (call_l q) e)
    above_is (uncall_l q) e = rw (kind_is (uncall_l q) e)

    below_is : (ρ : Rec) → P.at x ≡ ρ → from_below T x ≡ off ρ x
    unfolding kind
    below_is (name_l v ls) e = rw (kind_is (name_l v ls) e)
    below_is (begin_l q) e = rw (kind_is (begin_l q) e)
    below_is (end_l q) e = rw (kind_is (end_l q) e)
    below_is (set_l o τ ε) e = rw (kind_is (set_l o τ ε) e)
    below_is skip_l e = rw (kind_is skip_l e)
    below_is (if_l c) e = rw (kind_is (if_l c) e)
    below_is (else_l c) e = rw (kind_is (else_l c) e) (H ∙ ap head_of e)
    below_is (fi_l c) e = rw (kind_is (fi_l c) e)
    below_is (from_l c) e = rw (kind_is (from_l c) e)
    below_is (loop_l c) e = rw (kind_is (loop_l c) e) (R c (is_loop e))
    below_is (until_l c) e = rw (kind_is (until_l c) e)
    below_is (call_l q) e = rw (kind_is (call_l q) e)
    below_is (uncall_l q) e = rw (kind_is (uncall_l q) e)

-- ---- An accepted file.
module _ (f : List ℕ) (t : Tree) (A : Accepts f t) where
  abbrev P : Prog
  P = prog t

  abbrev n : ℕ
  n = length (records_of t)

  abbrev p : ℕ
  p = length (procedures t)

  G : Facts t P n p
  G = facts f t A

  short : length f < 2 ^ 16
  short = omega (arith, A.rows.short)

  count : length (offsets f) ≡ n
  count = offsets_of f (records_of t) short A.rows.bytes

  -- the table after each pass
  abbrev T₁ : List ℕ
  T₁ = filled f (offsets f) 0 0 blank

  abbrev T₂ : List ℕ
  T₂ = shared n 0 T₁

  abbrev T₃ : List ℕ
  T₃ = joined (pred n) 0 T₂

  table_is : table_of f ≡ T₃
  unfolding table_of
  table_is = rw (labelled_is f (omega (arith, count, G.few)), count)

  kind_at_lem : (i : ℕ) → i < n → kind_at f (get_or (offsets f) i 0) ≡ kind (forget (P.at i))
  kind_at_lem i h = kind_there f (offsets f) (records_of t) i (kinds_of f (records_of t) short A.rows.bytes) h ∙ ap kind (at_is t i)

  one : (r : ℕ) × Filled t P n p G (offsets f) T₁ n r
  one =
      let c = count in
      filled_all t P n p G f (offsets f) (offsets f) 0 0 blank (filled_first t P n p G (offsets f)) (omega arith)
      (λ i h. ap (λ i. get_or (offsets f) i 0) (let z : i ≡ 0 + i = omega arith in z))
      (λ i h. kind_at_lem i (omega arith) ∙ ap (λ i. kind (forget (P.at i))) (let z : i ≡ 0 + i = omega arith in z))

  F : Filled t P n p G (offsets f) T₁ n one.0
  F = one.1

  two : Shared t P n p G T₁ F.heads T₂ n
  two = shared_all t P n p G T₁ F.heads n 0 T₁ (record {
    size = F.size;
    below = λ i h. refl;
    above = λ i h. refl;
    middles = record {
      con = λ a c C. F.marks (3072 + c.l) c.m (middle a c C refl refl) (omega (arith, C.m<r, C.r<n));
      part = λ y a c h C e. absurd (omega arith);
    };
    tails = record {
      con = λ a c C. F.marks (4096 + c.l) c.r (tail a c C refl refl) C.r<n;
      part = λ y a c h C e. absurd (omega arith);
    };
  }) (omega arith)

  three : Joined T₂ T₃ (0 + pred n)
  three = joined_all T₂ (pred n) 0 T₂ (record {
    size = two.size;
    below = λ i h. refl;
    above = λ i h. refl;
    downs = λ y h. absurd (omega arith);
    ups = λ y h. absurd (omega arith);
  }) (let b = G.few in omega arith)

  -- what the second pass, and the third, leave
  low₂ : (i : ℕ) → i < 3072 → get_or T₂ i 0 ≡ get_or T₁ i 0
  low₂ i h = two.below i h

  low : (i : ℕ) → i < 3072 → get_or T₃ i 0 ≡ get_or T₁ i 0
  low i h = three.below i (omega arith) ∙ low₂ i h

  high : (i : ℕ) → 7168 ≤ i → get_or T₃ i 0 ≡ get_or T₁ i 0
  high i h = three.above i h ∙ two.above i (omega arith)

  few : (x : ℕ) → x < n → x < 1024
  few x h = let b = G.few in omega arith

  kinds₂ : (x : ℕ) → x < n → get_or T₂ (1024 + x) 0 ≡ kind (forget (P.at x))
  kinds₂ x h = low₂ (1024 + x) (let b = few x h in omega arith) ∙ F.kinds x h

  heads₂ : (x : ℕ) → x < n → get_or T₂ (2048 + x) 0 ≡ head_of (P.at x)
  heads₂ x h = low₂ (2048 + x) (let b = few x h in omega arith) ∙ F.heads x h

  tails₂ : (x : ℕ) → x < n → (c : Con) → Part P c x → get_or T₂ (4096 + x) 0 ≡ c.r
  tails₂ x h c k = let i = part_is t P n p G c x k in two.tails.part x i.0 c h i.1.0 i.1.1

  middles₂ : (x : ℕ) → x < n → (c : Con) → Part P c x → get_or T₂ (3072 + x) 0 ≡ c.m
  middles₂ x h c k = let i = part_is t P n p G c x k in two.middles.part x i.0 c h i.1.0 i.1.1

  first_in_lem : (q : ℕ) → q < p → (P.first q < n) × (P.last q < n)
  unfolding kind
  first_in_lem q h =
      let k = G.proc q h in (
        within t P n p G (P.first q) (λ e. let z : ◌≡◌ {A = ℕ} 2 1 = sym (ap (λ ρ. kind (forget ρ)) k.at_first) ∙ e in omega arith),
        within t P n p G (P.last q) (λ e. let z : ◌≡◌ {A = ℕ} 3 1 = sym (ap (λ ρ. kind (forget ρ)) k.at_last) ∙ e in omega arith),
      )

  holds : Tabled t f T₃
  holds = record {
    offset = λ x h.
        let b = few x h in
        let z = offset_inside f x (omega (arith, count)) in
        low x (omega arith) ∙ (F.offset x h ∙ (let y : get_or (offsets f) x 0 % 65536 ≡ get_or (offsets f) x 0 = let s = short in omega arith in y));
    kinds = λ x h. low (1024 + x) (let b = few x h in omega arith) ∙ (F.kinds x h ∙ ap kind (sym (at_is t x)));
    heads = λ x h. low (2048 + x) (let b = few x h in omega arith) ∙ F.heads x h;
    middles = λ x c h k. three.below (3072 + x) (let b = few x h in omega arith) ∙ middles₂ x h c k;
    tails = λ x c h k. three.below (4096 + x) (let b = few x h in omega arith) ∙ tails₂ x h c k;
    downs = λ x h. three.downs x (omega arith) ∙ above_is t P n p G T₂ (suc x) (kinds₂ (suc x) h) (heads₂ (suc x) h) (tails₂ (suc x) h) (P.at (suc x)) refl;
    ups = λ x h k.
        let l : pred x < n = omega arith in
        ap (λ i. get_or T₃ i 0) (let z : 6144 + x ≡ 6144 + suc (pred x) = omega arith in z)
        ∙ (three.ups (pred x) (omega arith) ∙ below_is t P n p G T₂ (pred x) (kinds₂ (pred x) l) (heads₂ (pred x) l) (tails₂ (pred x) l) (P.at (pred x)) refl);
    opens = λ x h. high (7168 + x) (omega arith) ∙ F.opens x h;
    owners = λ q x a b. high (8192 + x) (omega arith) ∙ F.owners q x (let z = (first_in_lem q (there t P n p G q x a b)).1 in omega arith) a b;
    firsts = λ q h. high (9216 + q) (omega arith) ∙ F.marks (9216 + q) (P.first q) (first q h refl refl) (first_in_lem q h).0;
    lasts = λ q h. high (9280 + q) (omega arith) ∙ F.marks (9280 + q) (P.last q) (last q h refl refl) (first_in_lem q h).1;
  }

-- The table of a checked file says this of its program.
pub tabled : (f : List ℕ) (t : Tree) → Accepts f t → Tabled t f (table_of f)
tabled f t A = subst (λ T. Tabled t f T) (sym (table_is f t A)) (holds f t A)
