-- Bytes in hexadecimal, and lines: what a turn of each loop leaves, and where it stops.
--     later, falls    the next line stands later, and less is left
use mathlib.Core.Path.{◌≡◌, refl, sym, ap, ◌∙◌}
use mathlib.Core.List.{List, [], ◌∷◌}
use Prim.Native.Nat.{ℕ, zero, suc, ◌+◌, ◌-◌, ◌≤◌, ◌<◌}
use native.Mathlib.Numerals.{add-one}
use native.Mathlib.Omega.{arith}
use lib.ListN.{length, get_or, drop, set, length-set, drop_of_length-le}
use lib.Seq.{drop-cons, sets, length-take-le}
use borrow.Author.Tests.{eq-eqb, ne_eqb}
use Rattle.std.specs.Prelude.{Option, Some, None}
use Rattle.words.specs.Words.{hex_byte, hex_bytes, before, Counts, line_length, next_line}

-- ---- bytes
module _ (s : List ℕ) where
  more : (k i b : ℕ) → hex_byte s i ≡ Some b → hex_bytes (suc k) s i ≡ b ∷ hex_bytes k s (i + 2)
  unfolding hex_bytes
  more k i b e = ap (λ (x : Option ℕ). before x (hex_bytes k s (i + 2))) e

  pub none : (k i : ℕ) → hex_byte s i ≡ None → hex_bytes k s i ≡ []
  unfolding hex_bytes
  none zero i e = refl
  none (suc k) i e = ap (λ (x : Option ℕ). before x (hex_bytes k s (i + 2))) e

  pub full : (k i : ℕ) → k ≡ 0 → hex_bytes k s i ≡ []
  unfolding hex_bytes
  full k i e = rw e

  module _ (at : ℕ) (b : List ℕ) where
    abbrev whole : List ℕ
    whole = hex_bytes (length b) s at

    -- n bytes stand in c, the next is read at i
    pub record Midway (c : List ℕ) (n i : ℕ) : Type 0 where
      pub room : n ≤ length b
      pub kept : length c ≡ length b
      pub count : length whole ≡ n + length (hex_bytes (length b - n) s i)
      pub bytes : sets b 0 whole ≡ sets c n (hex_bytes (length b - n) s i)

    pub begun : Midway b 0 at
    begun =
        let e : length b ≡ length b - 0 = omega arith in
        let d : whole ≡ hex_bytes (length b - 0) s at = ap (λ (j : ℕ). hex_bytes j s at) e in
        record { room = omega arith; kept = refl; count = omega (arith, ap length d); bytes = ap (sets b 0) d }

    pub one_more : (c : List ℕ) (n i x : ℕ) → n < length b → hex_byte s i ≡ Some x → Midway c n i → Midway (set c n x) (n + 1) (i + 2)
    one_more c n i x h e m =
        let d : hex_bytes (length b - n) s i ≡ x ∷ hex_bytes (length b - (n + 1)) s (i + 2) =
        ap (λ (j : ℕ). hex_bytes j s i) (omega arith) ∙ more (length b - (n + 1)) i x e in
        record {
          room = omega arith;
          kept = length-set c n x ∙ m.kept;
          count = omega (arith, ap length d, m.count);
          bytes = m.bytes ∙ ap (sets c n) d ∙ ap (λ (j : ℕ). sets (set c n x) j (hex_bytes (length b - (n + 1)) s (i + 2))) (sym (add-one n));
        }

    pub stops : (c : List ℕ) (n i r : ℕ) → Midway c n i → hex_bytes (length b - n) s i ≡ [] → r ≡ n → (r ≡ length whole) × ((c ≡ sets b 0 whole) × Counts r c)
    stops c n i r m e f =
        let h : r ≤ length c = omega (arith, m.room, m.kept) in
        (omega (arith, ap length e, m.count), (sym (m.bytes ∙ ap (sets c n) e), (h, sym (length-take-le r c h))))

  -- ---- lines
  pub ends : (i : ℕ) → i < length s → get_or s i 0 ≡ 10 → line_length (drop i s) ≡ 1
  unfolding line_length
  ends i h e = rw (drop-cons s i 0 h, eq-eqb (get_or s i 0) 10 e)

  pub goes_on : (i : ℕ) → i < length s → (get_or s i 0 ≡ 10 → ⊥) → line_length (drop i s) ≡ suc (line_length (drop (i + 1) s))
  unfolding line_length
  goes_on i h f = rw (drop-cons s i 0 h, ne_eqb (get_or s i 0) 10 f, add-one i)

  pub nothing : (i : ℕ) → length s ≤ i → line_length (drop i s) ≡ 0
  unfolding line_length
  nothing i h = rw (drop_of_length-le s h)

  pub later : (at : ℕ) → at < length s → at < next_line s at
  unfolding line_length
  later at h = omega (arith, ap line_length (drop-cons s at 0 h))

  -- so a loop over the lines ends
  pub falls : (at r : ℕ) → at < length s → r ≡ next_line s at → length s - r < length s - at
  falls at r h e = omega (arith, later at h)
