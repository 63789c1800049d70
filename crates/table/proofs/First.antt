-- The first pass: after x records, the entries of the labels below x are as the program says, and each slot that one of these records fills.
use Prim.Native.Nat.{ℕ, suc, ◌+◌, ◌*◌, ◌-◌, ◌%◌, ◌≤◌, ◌<◌, pred}
use mathlib.Core.Path.{◌≡◌, refl, ap, sym, ◌∙◌, subst, subst⁻¹}
use mathlib.Core.List.{List, [], ◌∷◌}
use mathlib.Core.Bool.{cond}
use lib.Dec.{ltb}
use native.Mathlib.Omega.{arith}
use borrow.Author.Tests.{lt-ltb, le-ltb, ne_eqb}
use lib.ListN.{length, get_or, set, length-replicate}
use Rattle.records.specs.Records.{kind}
use Rattle.order.specs.Trees.{Tree}
use Rattle.records.specs.Walk.{kind_at}
use Rattle.moves.proofs.Linked.{Con, Rec, name_l, begin_l, end_l, set_l, skip_l, if_l, else_l, fi_l, from_l, loop_l, until_l, call_l, uncall_l, Prog, forget, head_of}
use Rattle.moves.proofs.Cuts.{Local, ProcOk, SimpleOk}
use Rattle.moves.proofs.Locals.{either}
use Rattle.table.specs.Table.{blank, noted, placed, frame_no, before, opener, outside, begun, ended, inside, opened, turned, closed, entered, next_owner, filled}
use Rattle.table.proofs.Facts.{Facts}
use Rattle.table.proofs.Parts.{open_of, mid_of, tail_of, spot_of, Construct, cond_is, loop_is}
use Rattle.table.proofs.Entries.{Adds, Away, low, high, Apart, labels_apart, apart, away_free, adds_five, adds_spot, spot_holds, before_noted}

module _ (t : Tree) (P : Prog) (n p : ℕ) (G : Facts t P n p) where
  -- Record v fills slot i with its own label.
  pub data Mark (i v : ℕ) : Type 0 where
    middle : (a : ℕ) (c : Con) → Construct P n a c → i ≡ 3072 + c.l → v ≡ c.m → Mark i v
    tail : (a : ℕ) (c : Con) → Construct P n a c → i ≡ 4096 + c.l → v ≡ c.r → Mark i v
    first : (q : ℕ) → q < p → i ≡ 9216 + q → v ≡ P.first q → Mark i v
    last : (q : ℕ) → q < p → i ≡ 9280 + q → v ≡ P.last q → Mark i v

  mark_spot : (i v : ℕ) → Mark i v → i ≡ spot_of (P.at v)
  mark_spot i v (middle a c k e f) = e ∙ rw f (sym k.spot_m)
  mark_spot i v (tail a c k e f) = e ∙ rw f (sym k.spot_r)
  mark_spot i v (first q h e f) = e ∙ rw (f, (G.proc q h).at_first)
  mark_spot i v (last q h e f) = e ∙ rw (f, (G.proc q h).at_last)

  mark_away : (i v : ℕ) → Mark i v → Away i
  mark_away i v (middle a c k e f) = let b = G.few in low (omega (arith, k.l<m, k.m<r, k.r<n)) (omega (arith, k.l<m, k.m<r, k.r<n))
  mark_away i v (tail a c k e f) = let b = G.few in low (omega (arith, k.l<m, k.m<r, k.r<n)) (omega (arith, k.l<m, k.m<r, k.r<n))
  mark_away i v (first q h e f) = let b = G.few_procs in high (omega arith) (omega arith)
  mark_away i v (last q h e f) = let b = G.few_procs in high (omega arith) (omega arith)

  -- The record that fills a slot, from the slot alone: no other does.
  wants : ℕ → ℕ
  wants i =
      cond (ltb i 4096) (mid_of (P.at (i - 3072)))
      (cond (ltb i 9216) (tail_of (P.at (i - 4096)))
      (cond (ltb i 9280) (P.first (i - 9216)) (P.last (i - 9280))))

  mark_wants : (i v : ℕ) → Mark i v → v ≡ wants i
  unfolding wants
  mark_wants i v (middle a c k e f) =
      let b = G.few in
      let z : i - 3072 ≡ c.l = omega arith in
      rw (lt-ltb i 4096 (omega (arith, k.l<m, k.m<r, k.r<n)), z) (f ∙ sym k.mid)
  mark_wants i v (tail a c k e f) =
      let b = G.few in
      let z : i - 4096 ≡ c.l = omega arith in
      rw (le-ltb i 4096 (omega arith), lt-ltb i 9216 (omega (arith, k.l<m, k.m<r, k.r<n)), z) (f ∙ sym k.tail)
  mark_wants i v (first q h e f) =
      let b = G.few_procs in
      let z : i - 9216 ≡ q = omega arith in
      rw (le-ltb i 4096 (omega arith), le-ltb i 9216 (omega arith), lt-ltb i 9280 (omega arith), z) f
  mark_wants i v (last q h e f) =
      let z : i - 9280 ≡ q = omega arith in
      rw (le-ltb i 4096 (omega arith), le-ltb i 9216 (omega arith), le-ltb i 9280 (omega arith), z) f

  -- ---- The procedure that record x lies in is q, or x lies between two.
  pub record Owned (x q : ℕ) : Type 0 where
    pub older : (r : ℕ) → r < q → r < p → P.last r < x
    pub newer : q < p → x ≤ P.last q

  pub there : (q x : ℕ) → P.first q ≤ x → x ≤ P.last q → q < p
  there q x a b = either q p (λ h. h) (λ h. absurd (let z = G.none q h in omega arith))

  pub own : (x q r : ℕ) → Owned x q → P.first r ≤ x → x ≤ P.last r → r ≡ q
  own x q r O a b = either r q
      (λ h. absurd (let z = O.older r h (there r x a b) in omega arith))
      (λ h. either q r
      (λ k. absurd (let i = there r x a b in let y = O.newer (omega arith) in let z = G.sorted q r k i in omega arith))
      (λ k. omega arith))

  owned_on : (x q k : ℕ) → k ≡ kind (forget (P.at x)) → (k ≡ 3 → ⊥) → Owned x q → Owned (suc x) (next_owner q k)
  unfolding kind
  owned_on x q k e m O = rw (ne_eqb k 3 m) (record {
    older = λ r h i. let z = O.older r h i in omega arith;
    newer = λ h. let z = O.newer h in either x (P.last q) (λ y. y)
        (λ y. absurd (m (e ∙ (ap (λ i. kind (forget (P.at i))) (let u : x ≡ P.last q = omega arith in u) ∙ ap (λ ρ. kind (forget ρ)) (G.proc q h).at_last))));
  })

  owned_end : (x q k : ℕ) → k ≡ 3 → x ≡ P.last q → Owned x q → Owned (suc x) (next_owner q k)
  owned_end x q k e l O = rw e (record {
    older = λ r h i. either r q (λ j. let z = O.older r j i in omega arith) (λ j. let z = ap P.last (let u : r ≡ q = omega arith in u) in omega arith);
    newer = λ h. let z = G.sorted q (suc q) (omega arith) h in let y = (G.proc (suc q) h).lt in omega arith;
  })

  -- ---- The labels below x have their entries.
  pub record Filled (os T : List ℕ) (x q : ℕ) : Type 0 where
    pub size : length T ≡ 9344
    pub offset : (y : ℕ) → y < x → get_or T y 0 ≡ get_or os y 0 % 65536
    pub kinds : (y : ℕ) → y < x → get_or T (1024 + y) 0 ≡ kind (forget (P.at y))
    pub heads : (y : ℕ) → y < x → get_or T (2048 + y) 0 ≡ head_of (P.at y)
    pub opens : (y : ℕ) → y < x → get_or T (7168 + y) 0 ≡ open_of (P.encl y)
    pub owners : (r y : ℕ) → y < x → P.first r ≤ y → y ≤ P.last r → get_or T (8192 + y) 0 ≡ r
    pub marks : (i v : ℕ) → Mark i v → v < x → get_or T i 0 ≡ v
    pub owned : Owned x q

  module _ (os T : List ℕ) (x q o k : ℕ) (F : Filled os T x q) (hx : x < n) (eo : o ≡ get_or os x 0) (ek : k ≡ kind (forget (P.at x))) where
    small : x < 1024
    small = let b = G.few in omega arith

    -- One record more, whose stores add its entries and fill the slot j.
    module _ (U : List ℕ) (h w j : ℕ) (A : Adds T U x q o k h w j) (far : (y : ℕ) → y < 1024 → Apart j y) (eh : h ≡ head_of (P.at x)) (ew : w ≡ open_of (P.encl x))
        (fresh : (i v : ℕ) → Mark i v → v < x → i ≡ j → ⊥) (due : (i : ℕ) → Mark i x → get_or U i 0 ≡ x) where
      stay : (i : ℕ) → Apart i x → (i ≡ j → ⊥) → get_or U i 0 ≡ get_or T i 0
      stay i d m = A.other i d.0 d.1.0 d.1.1.0 d.1.1.1.0 d.1.1.1.1 m

      more : (b : ℕ) (v : ℕ → ℕ) → ((y : ℕ) → y < x → get_or U (b + y) 0 ≡ v y) → get_or U (b + x) 0 ≡ v x → (y : ℕ) → y < suc x → get_or U (b + y) 0 ≡ v y
      more b v old here y hy = either y x (λ l. old y l) (λ l. let z : y ≡ x = omega arith in rw z here)

      step : Owned (suc x) (next_owner q k) → Filled os U (suc x) (next_owner q k)
      step O =
          let s = small in
          record {
            size = A.size ∙ F.size;
            offset = λ y hy. either y x
                (λ l. stay y (λ e. omega arith, (λ e. omega arith, (λ e. omega arith, (λ e. omega arith, λ e. omega arith)))) (λ e. (far y (omega arith)).0 (sym e)) ∙ F.offset y l)
                (λ l. let z : y ≡ x = omega arith in rw z (A.offset ∙ ap (λ i. i % 65536) eo));
            kinds = more 1024 (λ y. kind (forget (P.at y))) (λ y l. stay (1024 + y) (labels_apart 1 y x l s) (λ e. (far y (omega arith)).1.0 (sym e)) ∙ F.kinds y l) (A.kind ∙ ek);
            heads = more 2048 (λ y. head_of (P.at y)) (λ y l. stay (2048 + y) (labels_apart 2 y x l s) (λ e. (far y (omega arith)).1.1.0 (sym e)) ∙ F.heads y l) (A.head ∙ eh);
            opens = more 7168 (λ y. open_of (P.encl y)) (λ y l. stay (7168 + y) (labels_apart 7 y x l s) (λ e. (far y (omega arith)).1.1.1.0 (sym e)) ∙ F.opens y l) (A.frame ∙ ew);
            owners = λ r y hy a b. either y x
                (λ l. stay (8192 + y) (labels_apart 8 y x l s) (λ e. (far y (omega arith)).1.1.1.1 (sym e))
                ∙ F.owners r y l a b)
                (λ l. let z : y ≡ x = omega arith in rw z (A.owner ∙ sym (own x q r F.owned (omega arith) (omega arith))));
            marks = λ i v m hv. either v x
                (λ l. stay i (apart i x s (mark_away i v m)) (fresh i v m l) ∙ F.marks i v m l)
                (λ l. let z : v ≡ x = omega arith in due i (subst (λ v. Mark i v) z m) ∙ sym z);
            owned = O;
          }

    -- A record that fills no slot, and one that fills its own.
    abbrev N : List ℕ
    N = noted T x q o k

    module _ (h w : ℕ) (eh : h ≡ head_of (P.at x)) (ew : w ≡ open_of (P.encl x)) (O : Owned (suc x) (next_owner q k)) where
      five : (j : ℕ) → Adds T (placed N x h w) x q o k h w j
      five j = adds_five T x q o k small h w F.size j

      pub step_plain : spot_of (P.at x) ≡ 5120 → Filled os (placed N x h w) (suc x) (next_owner q k)
      step_plain e =
          step (placed N x h w) h w 5120 (five 5120)
          (λ y l. (λ z. omega arith, (λ z. omega arith, (λ z. omega arith, (λ z. omega arith, λ z. omega arith))))) eh ew
          (λ i v m l z. away_free i (mark_away i v m) z)
          (λ i m. absurd (away_free i (mark_away i x m) (mark_spot i x m ∙ e)))
          O

      pub step_slot : (j : ℕ) → Mark j x → Filled os (set (placed N x h w) j x) (suc x) (next_owner q k)
      step_slot j m =
          let far = mark_away j x m in
          let a = five j in
          step (set (placed N x h w) j x) h w j (adds_spot T (placed N x h w) x q o k h w j small F.size far a)
          (λ y l. apart j y l far) eh ew
          (λ i v m' l z. let u = mark_wants i v m' in let u' = mark_wants j x m in let y = ap wants z in omega arith)
          (λ i m'. ap (λ i. get_or (set (placed N x h w) j x) i 0) (mark_spot i x m' ∙ sym (mark_spot j x m))
          ∙ spot_holds T (placed N x h w) x q o k h w j small F.size far a)
          O

    -- ---- By family.
    pos : (k ≡ 1 → ⊥) → 0 < x
    pos m = either 0 x (λ h. h) (λ h. absurd (m (ek ∙ (ap (λ i. kind (forget (P.at i))) (let z : x ≡ 0 = omega arith in z) ∙ G.top))))

    at_before : (y : ℕ) → 0 < y → y ≤ x → before T y ≡ open_of (P.encl (pred y))
    at_before y a b = ap (λ i. get_or T i 0) (let z : 7167 + y ≡ 7168 + pred y = omega arith in z) ∙ F.opens (pred y) (omega arith)

    before_is : (y : ℕ) → 0 < y → y ≤ x → before N y ≡ open_of (P.encl (pred y))
    before_is y a b = before_noted T x q o k small y (let s = small in omega arith) ∙ at_before y a b

    on_outside : kind (forget (P.at x)) < 4 → 0 ≡ head_of (P.at x) → spot_of (P.at x) ≡ 5120 → Owned (suc x) (next_owner q k)
        → Filled os (outside N x) (suc x) (next_owner q k)
    unfolding outside
    on_outside l eh e O = step_plain 0 0 eh (rw (G.quiet x l)) O e

    on_inside : 0 < x → P.encl x ≡ P.encl (pred x) → 0 ≡ head_of (P.at x) → spot_of (P.at x) ≡ 5120 → Owned (suc x) (next_owner q k)
        → Filled os (inside N x) (suc x) (next_owner q k)
    unfolding inside
    on_inside h en eh e O = step_plain 0 (before N x) eh (before_is x h (omega arith) ∙ ap open_of (sym en)) O e

    on_begun : kind (forget (P.at x)) < 4 → 0 ≡ head_of (P.at x) → q < p → x ≡ P.first q → Owned (suc x) (next_owner q k)
        → Filled os (begun N x q) (suc x) (next_owner q k)
    unfolding outside begun
    on_begun l eh h e O =
        let b = G.few_procs in
        step_slot 0 0 eh (rw (G.quiet x l)) O (9216 + q % 64) (first q h (let z : 9216 + q % 64 ≡ 9216 + q = omega arith in z) e)

    on_ended : kind (forget (P.at x)) < 4 → 0 ≡ head_of (P.at x) → q < p → x ≡ P.last q → Owned (suc x) (next_owner q k)
        → Filled os (ended N x q) (suc x) (next_owner q k)
    unfolding outside ended
    on_ended l eh h e O =
        let b = G.few_procs in
        step_slot 0 0 eh (rw (G.quiet x l)) O (9280 + q % 64) (last q h (let z : 9280 + q % 64 ≡ 9280 + q = omega arith in z) e)

    module _ (a : ℕ) (c : Con) (C : Construct P n a c) (O : Owned (suc x) (next_owner q k)) where
      label : c.l < 1024
      label = let b = G.few in omega (arith, C.l<m, C.m<r, C.r<n)

      -- the label of the construct, from one of its frames
      opener_is : (d : ℕ) → 0 < x → open_of (P.encl (pred x)) ≡ frame_no d c.l → opener N x ≡ c.l
      opener_is d h e =
          let z : before N x ≡ frame_no d c.l = before_is x h (omega arith) ∙ e in
          let s = label in
          ap (λ b. (b + 1023) % 1024) z ∙ (let u : (1 + (1024 * d + c.l) + 1023) % 1024 ≡ c.l = omega arith in u)

      on_opened : x ≡ c.l → spot_of (P.at x) ≡ 5120 → Filled os (opened N x a) (suc x) (next_owner q k)
      unfolding opened
      on_opened e m = step_plain x (frame_no a x) (e ∙ (sym C.head ∙ ap (λ i. head_of (P.at i)) (sym e)))
          (ap (λ i. frame_no a i) e ∙ (sym C.open_l ∙ ap (λ i. open_of (P.encl i)) (sym e))) O m

      on_turned : x ≡ c.m → head_of (P.at x) ≡ c.l → Filled os (turned N x (suc a)) (suc x) (next_owner q k)
      unfolding turned
      on_turned e eh =
          let h : 0 < x = omega (arith, C.l<m) in
          let g = opener_is a h (ap (λ i. open_of (P.encl (pred i))) e ∙ C.to_m) in
          step_slot (opener N x) (frame_no (suc a) (opener N x)) (g ∙ sym eh)
          (ap (λ i. frame_no (suc a) i) g ∙ (sym C.open_m ∙ ap (λ i. open_of (P.encl i)) (sym e))) O
          (3072 + opener N x) (middle a c C (ap (λ i. 3072 + i) g) e)

      on_closed : x ≡ c.r → head_of (P.at x) ≡ c.l → Filled os (closed N x) (suc x) (next_owner q k)
      unfolding closed
      on_closed e eh =
          let h : 0 < x = omega (arith, C.m<r) in
          let g = opener_is (suc a) h (ap (λ i. open_of (P.encl (pred i))) e ∙ C.to_r) in
          step_slot (opener N x) (before N (opener N x)) (g ∙ sym eh)
          (ap (λ i. before N i) g ∙ (before_is c.l C.pos (omega (arith, C.l<m, C.m<r))
          ∙ (ap open_of (sym C.open_r) ∙ ap (λ i. open_of (P.encl i)) (sym e)))) O
          (4096 + opener N x) (tail a c C (ap (λ i. 4096 + i) g) e)

    -- ---- Any record.
    abbrev Next : List ℕ → Type 0
    Next U = Filled os U (suc x) (next_owner q k)

    on : (j : ℕ) → k ≡ j → Next (entered N x q j) → Next (entered N x q k)
    on j i h = subst⁻¹ (λ j. Next (entered N x q j)) i h

    kind_of_lem : (ρ : Rec) → P.at x ≡ ρ → k ≡ kind (forget ρ)
    kind_of_lem ρ e = ek ∙ ap (λ ρ. kind (forget ρ)) e

    onward : (k ≡ 3 → ⊥) → Owned (suc x) (next_owner q k)
    onward m = owned_on x q k ek m F.owned

    begins : (r : ℕ) → P.at x ≡ begin_l r → x ≡ P.first r → ProcOk P r → Next (entered N x q k)
    unfolding kind entered
    begins r e l ok =
        let i = kind_of_lem (begin_l r) e in
        let z : r ≡ q = own x q r F.owned (omega arith) (omega (arith, ok.lt)) in
        let f = ap P.first z in
        on 2 i
        (on_begun (rw e (omega arith)) (rw e) (subst (λ r. r < p) z (there r x (omega arith) (omega (arith, ok.lt)))) (l ∙ f) (onward (λ y. omega arith)))

    ends : (r : ℕ) → P.at x ≡ end_l r → x ≡ P.last r → ProcOk P r → Next (entered N x q k)
    unfolding kind entered
    ends r e l ok =
        let i = kind_of_lem (end_l r) e in
        let z : r ≡ q = own x q r F.owned (omega (arith, ok.lt)) (omega arith) in
        let f = ap P.last z in
        on 3 i
        (on_ended (rw e (omega arith)) (rw e) (subst (λ r. r < p) z (there r x (omega (arith, ok.lt)) (omega arith))) (l ∙ f)
        (owned_end x q k i (l ∙ f) F.owned))

    statement : (ρ : Rec) (j : ℕ) → P.at x ≡ ρ → k ≡ j → entered N x q j ≡ inside N x → 3 < j → 0 ≡ head_of ρ → spot_of ρ ≡ 5120 → SimpleOk P x → Next (entered N x q k)
    statement ρ j e i n h eh es ok =
        on j i (rw n (on_inside (pos (λ z. omega arith)) ok.en (eh ∙ ap head_of (sym e)) (ap spot_of e ∙ es) (onward (λ z. omega arith))))

    record_on : (ρ : Rec) → P.at x ≡ ρ → Local t P ρ x → Next (entered N x q k)
    unfolding kind entered
    record_on (name_l v ls) e l =
        let i = kind_of_lem (name_l v ls) e in
        on 1 i (on_outside (rw e (omega arith)) (rw e) (rw e) (onward (λ z. omega arith)))
    record_on (begin_l r) e l = begins r e l.0 l.1
    record_on (end_l r) e l = ends r e l.0 l.1
    record_on (set_l o t ε) e l = statement (set_l o t ε) 4 e (kind_of_lem (set_l o t ε) e) refl (omega arith) refl refl l.1
    record_on skip_l e l = statement skip_l 13 e (kind_of_lem skip_l e) refl (omega arith) refl refl l
    record_on (call_l r) e l = statement (call_l r) 11 e (kind_of_lem (call_l r) e) refl (omega arith) refl refl l.1
    record_on (uncall_l r) e l = statement (uncall_l r) 12 e (kind_of_lem (uncall_l r) e) refl (omega arith) refl refl l.1
    record_on (if_l c) e l =
        let i = kind_of_lem (if_l c) e in
        on 5 i (on_opened 0 c (cond_is t P n p G c l.1) (onward (λ z. omega arith)) l.0 (rw e))
    record_on (else_l c) e l =
        let i = kind_of_lem (else_l c) e in
        on 6 i (on_turned 0 c (cond_is t P n p G c l.1) (onward (λ z. omega arith)) l.0 (rw e))
    record_on (fi_l c) e l =
        let i = kind_of_lem (fi_l c) e in
        on 7 i (on_closed 0 c (cond_is t P n p G c l.1) (onward (λ z. omega arith)) l.0 (rw e))
    record_on (from_l c) e l =
        let i = kind_of_lem (from_l c) e in
        on 8 i (on_opened 2 c (loop_is t P n p G c l.1) (onward (λ z. omega arith)) l.0 (rw e))
    record_on (loop_l c) e l =
        let i = kind_of_lem (loop_l c) e in
        on 9 i (on_turned 2 c (loop_is t P n p G c l.1) (onward (λ z. omega arith)) l.0 (rw e))
    record_on (until_l c) e l =
        let i = kind_of_lem (until_l c) e in
        on 10 i (on_closed 2 c (loop_is t P n p G c l.1) (onward (λ z. omega arith)) l.0 (rw e))

    pub filled_on : Filled os (entered N x q k) (suc x) (next_owner q k)
    filled_on = record_on (P.at x) refl (G.wf.here x)

  -- ---- All records.
  pub filled_first : (os : List ℕ) → Filled os blank 0 0
  unfolding blank
  filled_first os = record {
    size = length-replicate {A = ℕ} 9344 0;
    offset = λ y h. absurd (omega arith);
    kinds = λ y h. absurd (omega arith);
    heads = λ y h. absurd (omega arith);
    opens = λ y h. absurd (omega arith);
    owners = λ r y h a b. absurd (omega arith);
    marks = λ i v m h. absurd (omega arith);
    owned = record { older = λ r h i. absurd (omega arith); newer = λ h. omega arith };
  }

  -- The records x and on, which stand at the offsets `rest`.
  pub filled_all : (f os rest : List ℕ) (x q : ℕ) (T : List ℕ) → Filled os T x q → x + length rest ≡ n
      → ((i : ℕ) → i < length rest → get_or rest i 0 ≡ get_or os (x + i) 0)
      → ((i : ℕ) → i < length rest → kind_at f (get_or rest i 0) ≡ kind (forget (P.at (x + i))))
      → (r : ℕ) × Filled os (filled f rest x q T) n r
  unfolding filled
  filled_all f os [] x q T F e a b = (q, subst (λ i. Filled os T i q) (let z : x ≡ n = omega arith in z) F)
  filled_all f os (o ∷ rest) x q T F e a b =
      let z : x + 0 ≡ x = omega arith in
      filled_all f os rest (suc x) (next_owner q (kind_at f o)) (entered (noted T x q o (kind_at f o)) x q (kind_at f o))
      (filled_on os T x q o (kind_at f o) F (omega arith) (a 0 (omega arith) ∙ ap (λ i. get_or os i 0) z) (b 0 (omega arith) ∙ ap (λ i. kind (forget (P.at i))) z))
      (omega arith)
      (λ i h. a (suc i) (omega arith) ∙ ap (λ i. get_or os i 0) (let y : x + suc i ≡ suc x + i = omega arith in y))
      (λ i h. b (suc i) (omega arith) ∙ ap (λ i. kind (forget (P.at i))) (let y : x + suc i ≡ suc x + i = omega arith in y))
