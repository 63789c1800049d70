-- Bytes that stand in a file at a position: what lies there and what follows. Other law files cite these, and take no list apart.
use mathlib.Core.Path.{◌≡◌, refl, sym, ap, ◌∙◌}
use mathlib.Core.List.{List, [], ◌∷◌, ◌++◌, flat_map, append_assoc}
use Prim.Native.Nat.{ℕ, zero, suc, ◌+◌, ◌*◌, ◌^◌, ◌≤◌, ◌<◌}
use native.Mathlib.Nat.{add-zero}
use native.Mathlib.Omega.{arith}
use lib.ListN.{length, drop, get_or, length-append, length-drop}
use lib.Seq.{drop-drop, drop-append_seam}
use Rattle.codes.specs.Codes.{bytes16, AllBytes}
use Rattle.codes.proofs.Rows.{one_byte, short_bytes, short_back, short_lt}
use Rattle.records.specs.Records.{Every}
use Rattle.records.specs.Faults.{word}
use Rattle.records.specs.Reading.{shorts_at}

-- the bytes of a row of numbers, and that two bytes hold each
abbrev pub words : List ℕ → List ℕ
words ls = flat_map bytes16 ls

abbrev pub Shorts : List ℕ → Type 0
Shorts ls = Every (◌< 2 ^ 16) ls

-- ---- what follows, and that there is room
module _ (f : List ℕ) (at : ℕ) where
  pub front_rest : (k : ℕ) (l : List ℕ) → drop at f ≡ l → drop (at + k) f ≡ drop k l
  front_rest k l D = sym (drop-drop k at f) ∙ ap (drop k) D

  pub after : (a x : List ℕ) → drop at f ≡ a ++ x → drop (at + length a) f ≡ x
  after a x D = front_rest (length a) _ D ∙ drop-append_seam a x

  pub room : (l : List ℕ) → drop at f ≡ l → 0 < length l → at + length l ≤ length f
  room l D h = omega (arith, simp length-drop at (ap length D))

-- ---- the bytes bs lie in f from `at` up to n
pub record Lies (f : List ℕ) (at : ℕ) (bs : List ℕ) (n : ℕ) : Type 0 where
  pub there : drop at f ≡ bs ++ drop n f
  pub ends : n ≡ at + length bs

module _ (f : List ℕ) where
  pub lies_none : (at : ℕ) → Lies f at [] at
  lies_none at = record { there = refl; ends = sym (add-zero at) }

  pub lies_of : (at : ℕ) (a x : List ℕ) (n : ℕ) → drop at f ≡ a ++ x → n ≡ at + length a → Lies f at a n
  lies_of at a x n D e = record { there = rw (e, after f at a x D) D; ends = e }

  pub lies_join : (at m n : ℕ) (a b : List ℕ) → Lies f at a m → Lies f m b n → Lies f at (a ++ b) n
  lies_join at m n a b p q =
      record { there = p.there ∙ rw (q.there, append_assoc a b (drop n f)); ends = simp length-append (omega (arith, p.ends, q.ends)) }

  pub lies_byte : (at : ℕ) → at < length f → Lies f at (get_or f at 0 ∷ []) (at + 1)
  lies_byte at h = record { there = one_byte f at h; ends = refl }

  module _ (B : AllBytes f) where
    pub lies_short : (at : ℕ) → at + 2 ≤ length f → Lies f at (bytes16 (word f at)) (at + 2)
    lies_short at h = record { there = short_bytes f B at h; ends = refl }

    pub lies_shorts : (n at : ℕ) → at + 2 * n ≤ length f → Lies f at (words (shorts_at f at n)) (at + 2 * n)
    unfolding flat_map shorts_at
    lies_shorts zero at h = rw add-zero (lies_none at)
    lies_shorts (suc n) at h =
        let e : at + 2 + 2 * n ≡ at + 2 * suc n = omega arith in
        lies_join at (at + 2) (at + 2 * suc n) (bytes16 (word f at)) (words (shorts_at f (at + 2) n)) (lies_short at (omega arith))
        (rw e at (lies_shorts n (at + 2) (omega arith)))

    pub shorts_small : (n at : ℕ) → Shorts (shorts_at f at n)
    unfolding shorts_at
    shorts_small zero at = tt
    shorts_small (suc n) at = (short_lt f B at, shorts_small n (at + 2))

pub length_shorts : (f : List ℕ) (n at : ℕ) → length (shorts_at f at n) ≡ n
unfolding shorts_at
length_shorts f zero at = refl
length_shorts f (suc n) at = ap suc (length_shorts f n (at + 2))

pub length_words : (ls : List ℕ) → length (words ls) ≡ 2 * length ls
unfolding flat_map
length_words [] = refl
length_words (n ∷ ns) = omega (arith, length_words ns)

-- ---- numbers that stand there are read
pub shorts_back : (f : List ℕ) (ls : List ℕ) (at : ℕ) (x : List ℕ) → Shorts ls → drop at f ≡ words ls ++ x → shorts_at f at (length ls) ≡ ls
unfolding flat_map shorts_at
shorts_back f [] at x s D = refl
shorts_back f (n ∷ ns) at x s D =
    rw (short_back f at _ n s.0 D, shorts_back f ns (at + 2) x s.1 (front_rest f at 2 _ D))
