-- What one record's stores leave: its five entries, one slot more, and all else as it was.
use Prim.Native.Nat.{ℕ, ◌+◌, ◌*◌, ◌%◌, ◌≤◌, ◌<◌}
use mathlib.Core.Path.{◌≡◌, sym, ◌∙◌}
use mathlib.Core.List.{List}
use native.Mathlib.Omega.{arith}
use lib.ListN.{length, get_or, set, length-set}
use lib.Seq.{get_or-set_same, get_or-set_other}
use Rattle.table.specs.Table.{noted, placed, before}

pub record Adds (T U : List ℕ) (x q o k h w j : ℕ) : Type 0 where
  pub size : length U ≡ length T
  pub offset : get_or U x 0 ≡ o % 65536
  pub kind : get_or U (1024 + x) 0 ≡ k
  pub head : get_or U (2048 + x) 0 ≡ h
  pub frame : get_or U (7168 + x) 0 ≡ w
  pub owner : get_or U (8192 + x) 0 ≡ q
  pub other : (i : ℕ) → (i ≡ x → ⊥) → (i ≡ 1024 + x → ⊥) → (i ≡ 2048 + x → ⊥) → (i ≡ 7168 + x → ⊥) → (i ≡ 8192 + x → ⊥) → (i ≡ j → ⊥)
      → get_or U i 0 ≡ get_or T i 0

-- A store elsewhere.
pub skip : (T : List ℕ) (i j v : ℕ) → (j ≡ i → ⊥) → get_or (set T i v) j 0 ≡ get_or T j 0
skip T i j v h = get_or-set_other T i j v 0 h

module _ (T : List ℕ) (x q o k : ℕ) (hx : x < 1024) where
  abbrev O : List ℕ
  O = set T x (o % 65536)

  abbrev K : List ℕ
  K = set O (1024 + x) k

  pub noted_other : (i : ℕ) → (i ≡ x → ⊥) → (i ≡ 1024 + x → ⊥) → (i ≡ 8192 + x → ⊥) → get_or (noted T x q o k) i 0 ≡ get_or T i 0
  unfolding noted
  noted_other i a b c = skip K (8192 + x) i q c ∙ (skip O (1024 + x) i k b ∙ skip T x i (o % 65536) a)

  -- OPEN is not among them
  pub before_noted : (y : ℕ) → y ≤ 1024 → before (noted T x q o k) y ≡ before T y
  before_noted y h = noted_other (7167 + y) (λ e. omega arith) (λ e. omega arith) (λ e. omega arith)

  size_k : length K ≡ length T
  size_k = length-set O (1024 + x) k ∙ length-set T x (o % 65536)

  length_noted : length (noted T x q o k) ≡ length T
  unfolding noted
  length_noted = length-set K (8192 + x) q ∙ size_k

  module _ (h w : ℕ) (size : length T ≡ 9344) where
    abbrev N : List ℕ
    N = noted T x q o k

    abbrev H : List ℕ
    H = set N (2048 + x) h

    size_h : length H ≡ 9344
    size_h = length-set N (2048 + x) h ∙ (length_noted ∙ size)

    pass : (i : ℕ) → (i ≡ 2048 + x → ⊥) → (i ≡ 7168 + x → ⊥) → get_or (placed N x h w) i 0 ≡ get_or N i 0
    pass i a b = skip H (7168 + x) i w b ∙ skip N (2048 + x) i h a

    -- five entries, and nothing else, in no slot
    pub adds_five : (j : ℕ) → Adds T (placed N x h w) x q o k h w j
    unfolding noted
    adds_five j = record {
      size = length-set H (7168 + x) w ∙ (size_h ∙ sym size);
      offset = pass x (λ e. omega arith) (λ e. omega arith) ∙ (skip K (8192 + x) x q (λ e. omega arith) ∙ (skip O (1024 + x) x k (λ e. omega arith)
          ∙ get_or-set_same T x (o % 65536) 0 (omega arith)));
      kind = pass (1024 + x) (λ e. omega arith) (λ e. omega arith) ∙ (skip K (8192 + x) (1024 + x) q (λ e. omega arith)
          ∙ get_or-set_same O (1024 + x) k 0 (let z = length-set T x (o % 65536) in omega arith));
      head = skip H (7168 + x) (2048 + x) w (λ e. omega arith) ∙ get_or-set_same N (2048 + x) h 0 (let z = length_noted in omega arith);
      frame = get_or-set_same H (7168 + x) w 0 (let z = size_h in omega arith);
      owner = pass (8192 + x) (λ e. omega arith) (λ e. omega arith) ∙ get_or-set_same K (8192 + x) q 0 (let z = size_k in omega arith);
      other = λ i a b c d e g. pass i c d ∙ noted_other i a b e;
    }

-- A slot that is none of the five, of whatever record: in MIDDLE or TAIL, or in FIRST or LAST.
pub data Away (j : ℕ) : Type 0 where
  low : 3072 ≤ j → j < 5120 → Away j
  high : 9216 ≤ j → j < 9344 → Away j

-- None of the five slots of record x.
abbrev pub Apart : ℕ → ℕ → Type 0
Apart j x = (j ≡ x → ⊥) × ((j ≡ 1024 + x → ⊥) × ((j ≡ 2048 + x → ⊥) × ((j ≡ 7168 + x → ⊥) × (j ≡ 8192 + x → ⊥))))

-- An entry of another record.
pub labels_apart : (s y x : ℕ) → y < x → x < 1024 → Apart (1024 * s + y) x
labels_apart s y x h k = (λ e. omega arith, (λ e. omega arith, (λ e. omega arith, (λ e. omega arith, λ e. omega arith))))

pub apart : (j x : ℕ) → x < 1024 → Away j → Apart j x
apart j x h (low a b) = (λ e. omega arith, (λ e. omega arith, (λ e. omega arith, (λ e. omega arith, λ e. omega arith))))
apart j x h (high a b) = (λ e. omega arith, (λ e. omega arith, (λ e. omega arith, (λ e. omega arith, λ e. omega arith))))

pub away_size : (j : ℕ) → Away j → j < 9344
away_size j (low a b) = omega arith
away_size j (high a b) = b

pub away_free : (j : ℕ) → Away j → j ≡ 5120 → ⊥
away_free j (low a b) e = omega arith
away_free j (high a b) e = omega arith

module _ (T U : List ℕ) (x q o k h w j : ℕ) (hx : x < 1024) (size : length T ≡ 9344) (far : Away j) (A : Adds T U x q o k h w j) where
  past : (i : ℕ) → (j ≡ i → ⊥) → get_or (set U j x) i 0 ≡ get_or U i 0
  past i n = skip U j i x (λ e. n (sym e))

  pub adds_spot : Adds T (set U j x) x q o k h w j
  adds_spot =
      let d = apart j x hx far in
      record {
        size = length-set U j x ∙ A.size;
        offset = past x d.0 ∙ A.offset;
        kind = past (1024 + x) d.1.0 ∙ A.kind;
        head = past (2048 + x) d.1.1.0 ∙ A.head;
        frame = past (7168 + x) d.1.1.1.0 ∙ A.frame;
        owner = past (8192 + x) d.1.1.1.1 ∙ A.owner;
        other = λ i a b c d e g. past i (λ z. g (sym z)) ∙ A.other i a b c d e g;
      }

  pub spot_holds : get_or (set U j x) j 0 ≡ x
  spot_holds = get_or-set_same U j x 0 (let z = A.size in let y = away_size j far in omega arith)
