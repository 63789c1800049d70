-- The parts of a construct, by label, and its frames as numbers.
use Prim.Native.Nat.{ℕ, suc, ◌+◌, ◌*◌, ◌<◌, pred}
use mathlib.Core.Path.{◌≡◌, refl, ap, sym, ◌∙◌}
use mathlib.Core.List.{List, [], ◌∷◌}
use native.Mathlib.Omega.{arith}
use Rattle.records.specs.Records.{kind}
use Rattle.order.specs.Trees.{Tree}
use Rattle.moves.specs.Edges.{Frame, frame_kind, frame_label}
use Rattle.moves.proofs.Linked.{Con, Rec, name_l, begin_l, end_l, set_l, skip_l, if_l, else_l, fi_l, from_l, loop_l, until_l, call_l, uncall_l, Prog, forget, of_con, head_of}
use Rattle.moves.proofs.Cuts.{ConOk, CondOk, LoopOk}
use Rattle.moves.proofs.Locals.{either}
use Rattle.table.specs.Table.{frame_no}
use Rattle.table.proofs.Facts.{Facts}

-- Record x is one of the three of the construct c.
pub data Part (P : Prog) (c : Con) (x : ℕ) : Type 0 where
  is_if : P.at x ≡ if_l c → Part P c x
  is_else : P.at x ≡ else_l c → Part P c x
  is_fi : P.at x ≡ fi_l c → Part P c x
  is_from : P.at x ≡ from_l c → Part P c x
  is_loop : P.at x ≡ loop_l c → Part P c x
  is_until : P.at x ≡ until_l c → Part P c x

-- The innermost construct as one number: 0 for none.
abbrev pub open_of : List Frame → ℕ
open_of [] = 0
open_of (f ∷ F) = 1 + (1024 * frame_kind f + frame_label f)

-- The construct that the record is a part of: its ELSE or LOOP, its FI or UNTIL.
abbrev pub mid_of : Rec → ℕ
mid_of ρ = of_con (λ c. c.m) ρ

abbrev pub tail_of : Rec → ℕ
tail_of ρ = of_con (λ c. c.r) ρ

-- Where the record's own label is stored beside its entries: at its IF or FROM, or by its procedure; 5120, a slot that is filled later, for nowhere.
abbrev pub spot_of : Rec → ℕ
spot_of (name_l v ls) = 5120
spot_of (begin_l q) = 9216 + q
spot_of (end_l q) = 9280 + q
spot_of (set_l o x e) = 5120
spot_of skip_l = 5120
spot_of (if_l c) = 5120
spot_of (else_l c) = 3072 + c.l
spot_of (fi_l c) = 4096 + c.l
spot_of (from_l c) = 5120
spot_of (loop_l c) = 3072 + c.l
spot_of (until_l c) = 4096 + c.l
spot_of (call_l q) = 5120
spot_of (uncall_l q) = 5120

-- A construct of a program of n records, whose frames are of the kinds a and a + 1.
pub record Construct (P : Prog) (n a : ℕ) (c : Con) : Type 0 where
  pub pos : 0 < c.l
  pub l<m : c.l < c.m
  pub m<r : c.m < c.r
  pub r<n : c.r < n
  pub head : head_of (P.at c.l) ≡ c.l
  pub mid : mid_of (P.at c.l) ≡ c.m
  pub tail : tail_of (P.at c.l) ≡ c.r
  pub spot_m : spot_of (P.at c.m) ≡ 3072 + c.l
  pub spot_r : spot_of (P.at c.r) ≡ 4096 + c.l
  pub open_l : open_of (P.encl c.l) ≡ frame_no a c.l
  pub to_m : open_of (P.encl (pred c.m)) ≡ frame_no a c.l
  pub open_m : open_of (P.encl c.m) ≡ frame_no (suc a) c.l
  pub to_r : open_of (P.encl (pred c.r)) ≡ frame_no (suc a) c.l
  pub open_r : P.encl c.r ≡ P.encl (pred c.l)

module _ (t : Tree) (P : Prog) (n p : ℕ) (G : Facts t P n p) where
  pub within : (x : ℕ) → (kind (forget (P.at x)) ≡ 1 → ⊥) → x < n
  within x h = either x n (λ k. k) (λ k. absurd (h (G.beyond x k)))

  -- What a construct's records and frames are to have, whether it is IF or FROM.
  construct_is : (a : ℕ) (c : Con) {ρl ρm ρr : Rec} {f g : Frame} → ConOk P c ρl ρm ρr f g → (kind (forget ρr) ≡ 1 → ⊥)
      → (head_of ρl ≡ c.l) × (mid_of ρl ≡ c.m) × (tail_of ρl ≡ c.r) × (spot_of ρm ≡ 3072 + c.l) × (spot_of ρr ≡ 4096 + c.l)
      → open_of (f ∷ []) ≡ frame_no a c.l → open_of (g ∷ []) ≡ frame_no (suc a) c.l → Construct P n a c
  construct_is a c k last (head, mid, tail, spot_m, spot_r) hf hg = record {
    pos = k.span.pos;
    l<m = k.span.l<m;
    m<r = k.span.m<r;
    r<n = within c.r (λ e. last (sym (ap (λ ρ. kind (forget ρ)) k.at_r) ∙ e));
    head = rw k.at_l head;
    mid = rw k.at_l mid;
    tail = rw k.at_l tail;
    spot_m = rw k.at_m spot_m;
    spot_r = rw k.at_r spot_r;
    open_l = rw k.en_l hf;
    to_m = rw k.en_m' hf;
    open_m = rw k.en_m hg;
    to_r = rw k.en_r' hg;
    open_r = k.en_r;
  }

  pub cond_is : (c : Con) → CondOk P c → Construct P n 0 c
  unfolding kind
  cond_is c k = construct_is 0 c k (λ e. omega arith) (refl, refl, refl, refl, refl) refl refl

  pub loop_is : (c : Con) → LoopOk P c → Construct P n 2 c
  unfolding kind
  loop_is c k = construct_is 2 c k (λ e. omega arith) (refl, refl, refl, refl, refl) refl refl
