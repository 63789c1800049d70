-- A row of pieces is written one piece after another.
--     piece, joined    a piece and a row, two rows
--     whole            where all of it fits, the buffer holds the whole text
--     .. -size         how long a line is at most
use mathlib.Core.Path.{◌≡◌, refl, sym, ap, ◌∙◌}
use mathlib.Core.List.{List, [], ◌∷◌, ◌++◌, flatten}
use Prim.Native.Nat.{ℕ, zero, suc, ◌+◌, ◌-◌, ◌*◌, ◌≤◌, ◌<◌}
use mathlib.Core.Bool.{Bool, true, false, cond}
use native.Mathlib.Numerals.{add-one}
use native.Mathlib.Omega.{arith}
use lib.Dec.{eqb, ltb}
use lib.IntN.{ℤ, pos, negsuc}
use lib.ListN.{length, get_or, drop, drop_of_length-le, length-append}
use lib.Seq.{drop-cons, sets, length-sets, sets-eq}
use mir.Syntax.{w32}
use mir.Val.{SFits, to_z, of_z}
use mir.Facts.{to_z-of_z}
use borrow.Author.Tests.{le-leb}
use Rattle.codes.proofs.Cases.{sets_append}
use Rattle.words.specs.Words.{put, after, decimal, signed_decimal}
use Rattle.words.proofs.Writing.{length_digits}
use Rattle.print.specs.Rows.{put_all, after_all}
use Rattle.print.specs.Lines.{Text, pair, refused, refused_line, steps_line, way, at_line, frame_line, frame_lines, cell_line, shown, cell_lines, accepted_line}

-- The row ws, written into b at `at`, leaves c, and the position after it is r.
abbrev pub Row : List ℕ → ℕ → List (List ℕ) → List ℕ → ℕ → Type 0
Row b at ws c r = (r ≡ after_all b at ws) × (c ≡ put_all b at ws)

pub none : (b : List ℕ) (at : ℕ) → Row b at [] b at
unfolding put_all after_all
none b at = (refl, refl)

pub piece : (b c d : List ℕ) (at i r : ℕ) (w : List ℕ) (ws : List (List ℕ)) → (i ≡ after b at w) × (c ≡ put b at w) → Row c i ws d r → Row b at (w ∷ ws) d r
unfolding put_all after_all
piece b c d at i r w ws g h = rw (g.0, g.1) at h

pub joined : (b c d : List ℕ) (at i r : ℕ) (vs ws : List (List ℕ)) → Row b at vs c i → Row c i ws d r → Row b at (vs ++ ws) d r
unfolding put_all after_all
joined b c d at i r [] ws g h = rw (g.0, g.1) at h
joined b c d at i r (v ∷ vs) ws g h = joined (put b at v) c d (after b at v) i r vs ws g h

-- ---- the lines of frames and cells, one at a time

pub frames_none : (ks ls : List ℕ) (n : ℕ) → n ≡ 0 → frame_lines n ks ls ≡ []
unfolding frame_lines
frames_none ks ls n e = rw e

pub frames_more : (ks ls : List ℕ) (n i : ℕ) → n ≡ suc i → frame_lines n ks ls ≡ frame_line (get_or ks i 0) (get_or ls i 0) ++ frame_lines i ks ls
unfolding frame_lines
frames_more ks ls n i e = rw e

pub cells_none : (i : ℕ) (vs : List ℤ) → length vs ≤ i → cell_lines i (drop i vs) ≡ []
unfolding cell_lines
cells_none i vs h = rw (drop_of_length-le vs h)

pub cells_more : (i : ℕ) (vs : List ℤ) → i < length vs → cell_lines i (drop i vs) ≡ shown i (get_or vs i (pos 0)) ++ cell_lines (i + 1) (drop (i + 1) vs)
unfolding cell_lines
cells_more i vs h = rw (drop-cons vs i (pos 0) h, add-one)

pub shown_zero : (i : ℕ) (v : ℤ) → v ≡ pos 0 → shown i v ≡ []
unfolding shown
shown_zero i v e = rw e

pub shown_some : (i : ℕ) (v : ℤ) → (v ≡ pos 0 → ⊥) → shown i v ≡ cell_line i v
unfolding shown
shown_some i (pos zero) h = absurd (h refl)
shown_some i (pos (suc n)) h = refl
shown_some i (negsuc n) h = refl

-- ---- a cell's test for 0, on its bits
pub zero_bits : (v : ℤ) → SFits w32 v → of_z w32 v ≡ 0 → v ≡ pos 0
zero_bits v f e = sym (to_z-of_z f) ∙ ap (to_z w32) e

-- ---- the loops: what finishes from here finishes the whole
abbrev pub Finishes : List ℕ → ℕ → List (List ℕ) → List ℕ → ℕ → List (List ℕ) → Type 0
Finishes b₀ at all b n rest = (d : List ℕ) (r : ℕ) → Row b n rest d r → Row b₀ at all d r

pub cells-again :
    (b₀ b c : List ℕ) (at i n m : ℕ) (vs : List ℤ) → i < length vs → Row b n (shown i (get_or vs i (pos 0))) c m
    → Finishes b₀ at (cell_lines 0 vs) b n (cell_lines i (drop i vs)) → Finishes b₀ at (cell_lines 0 vs) c m (cell_lines (i + 1) (drop (i + 1) vs))
cells-again b₀ b c at i n m vs h p f d r q =
    f d r (rw (cells_more i vs h) (joined b c d n m r (shown i (get_or vs i (pos 0))) (cell_lines (i + 1) (drop (i + 1) vs)) p q))

pub cells_end :
    (b₀ b : List ℕ) (at i n : ℕ) (vs : List ℤ) → length vs ≤ i → Finishes b₀ at (cell_lines 0 vs) b n (cell_lines i (drop i vs)) → Row b₀ at (cell_lines 0 vs) b n
cells_end b₀ b at i n vs h f = f b n (rw (cells_none i vs h) (none b n))

pub frames-again :
    (b₀ b c : List ℕ) (at i n m : ℕ) (all : List (List ℕ)) (ks ls : List ℕ) → 0 < i → Row b n (frame_line (get_or ks (i - 1) 0) (get_or ls (i - 1) 0)) c m
    → Finishes b₀ at all b n (frame_lines i ks ls) → Finishes b₀ at all c m (frame_lines (i - 1) ks ls)
frames-again b₀ b c at i n m all ks ls h p f d r q =
    f d r
    (rw (frames_more ks ls i (i - 1) (omega arith)) (joined b c d n m r (frame_line (get_or ks (i - 1) 0) (get_or ls (i - 1) 0)) (frame_lines (i - 1) ks ls) p q))

pub frames_end :
    (b₀ b : List ℕ) (at i n : ℕ) (all : List (List ℕ)) (ks ls : List ℕ) → i ≡ 0 → Finishes b₀ at all b n (frame_lines i ks ls) → Row b₀ at all b n
frames_end b₀ b at i n all ks ls e f = f b n (rw (frames_none ks ls i e) (none b n))

-- ---- where all of it fits
put_whole : (b w : List ℕ) (at : ℕ) → at + length w ≤ length b → (after b at w ≡ at + length w) × (put b at w ≡ sets b at w)
put_whole b w at h = rw (le-leb (at + length w) (length b) h) (refl, refl)

row-whole :
    (b : List ℕ) (at : ℕ) (ws : List (List ℕ)) → at + length (flatten ws) ≤ length b
    → (after_all b at ws ≡ at + length (flatten ws)) × (put_all b at ws ≡ sets b at (flatten ws))
unfolding put_all after_all flatten
row-whole b at [] h = (omega arith, refl)
row-whole b at (w ∷ ws) h =
    let l = length-append w (flatten ws) in
    let p = put_whole b w at (omega arith) in
    let i = row-whole (sets b at w) (at + length w) ws (rw (length-sets b at w) (omega arith)) in
    rw (p.0, p.1, i.0, i.1) (omega arith, sym (sets_append b at w (flatten ws)))

pub whole : (b c : List ℕ) (r : ℕ) (ws : List (List ℕ)) → length (flatten ws) ≤ length b → Row b 0 ws c r → Text b ws c r
whole b c r ws h p =
    let w = row-whole b 0 ws (omega arith) in
    let e : 0 + length (flatten ws) ≡ r = omega (arith, p.0, w.0) in
    record { size = omega arith; bytes = p.1 ∙ w.1 ∙ sets-eq (flatten ws) b 0 (omega arith) ∙ ap (λ (k : ℕ). flatten ws ++ drop k b) e }

pub text_one : {b c c' : List ℕ} {ws : List (List ℕ)} {n n' : ℕ} → Text b ws c n → Text b ws c' n' → (n ≡ n') × (c ≡ c')
text_one {b} {ws = ws} h k =
    let e = h.size ∙ sym k.size in (e, h.bytes ∙ (ap (λ (n : ℕ). flatten ws ++ drop n b) e ∙ sym k.bytes))

-- the text lies within its buffer
pub within : {b c : List ℕ} {ws : List (List ℕ)} {n : ℕ} → Text b ws c n → n ≤ length c
within {b} {ws = ws} {n} h = omega (arith, h.size, ap length h.bytes, length-append (flatten ws) (drop n b))

-- ---- how long the lines are: a number has at most 20 digits
abbrev pub size : List (List ℕ) → ℕ
size ws = length (flatten ws)

pub size_append : (vs ws : List (List ℕ)) → size (vs ++ ws) ≡ size vs + size ws
unfolding flatten
size_append [] ws = omega arith
size_append (v ∷ vs) ws = omega (arith, size_append vs ws, length-append v (flatten (vs ++ ws)), length-append v (flatten vs))

digits : (n : ℕ) → length (decimal n) ≤ 20
digits n = length_digits 19 n

signed_digits : (z : ℤ) → length (signed_decimal z) ≤ 21
signed_digits (pos n) = omega (arith, digits n)
signed_digits (negsuc n) = omega (arith, digits (suc n))

pair_size : (first second end : List ℕ) (m n : ℕ) → size (pair first m second n end) ≤ length first + length second + length end + 40
unfolding pair flatten
pair_size first second end m n = simp length-append (omega (arith, digits m, digits n))

pub refused_size : (n k : ℕ) → size (refused_line n k) ≤ 57
unfolding flatten
refused_size n k = go (ltb n 9)
  where
    go : (t : Bool) → size (cond t (pair refused n (32 ∷ 114 ∷ 101 ∷ 99 ∷ 111 ∷ 114 ∷ 100 ∷ 32 ∷ []) k (10 ∷ [])) (refused ∷ decimal n ∷ (10 ∷ []) ∷ [])) ≤ 57
    go true = pair_size refused _ _ n k
    go false = simp length-append (omega (arith, digits n))

pub steps_size : (n r : ℕ) → size (steps_line n r) ≤ 53
steps_size n r = pair_size _ _ _ n r

pub at_size : (a b d : ℕ) → size (at_line a b d) ≤ 50
at_size a b d = omega (arith, pair_size (97 ∷ 116 ∷ 32 ∷ []) (32 ∷ []) (way d) a b, go (eqb d 0))
  where
    go : (t : Bool) → length {A = ℕ} (cond t (32 ∷ 100 ∷ 111 ∷ 119 ∷ 110 ∷ 10 ∷ []) (32 ∷ 117 ∷ 112 ∷ 10 ∷ [])) ≤ 6
    go true = omega arith
    go false = omega arith

pub accepted_size : (r p c : ℕ) → size (accepted_line r p c) ≤ 97
unfolding accepted_line flatten
accepted_size r p c = simp (size_append, length-append) (omega (arith, pair_size (97 ∷ 99 ∷ 99 ∷ 101 ∷ 112 ∷ 116 ∷ 101 ∷ 100 ∷ 32 ∷ 114 ∷ 101 ∷ 99 ∷ 111 ∷ 114 ∷ 100 ∷ 115 ∷ 32 ∷ []) (32 ∷ 112 ∷ 114 ∷ 111 ∷ 99 ∷ 101 ∷ 100 ∷ 117 ∷ 114 ∷ 101 ∷ 115 ∷ 32 ∷ []) (32 ∷ 99 ∷ 101 ∷ 108 ∷ 108 ∷ 115 ∷ 32 ∷ []) r p, digits c))

pub frames_size : (n : ℕ) (ks ls : List ℕ) → size (frame_lines n ks ls) ≤ 48 * n
unfolding frame_lines flatten
frames_size zero ks ls = omega arith
frames_size (suc n) ks ls =
    let f = frame_line (get_or ks n 0) (get_or ls n 0) in
    omega (arith, size_append f (frame_lines n ks ls), pair_size (102 ∷ 114 ∷ 97 ∷ 109 ∷ 101 ∷ 32 ∷ []) (32 ∷ []) (10 ∷ []) (get_or ks n 0) (get_or ls n 0), frames_size n ks ls)

shown_size : (i : ℕ) (v : ℤ) → size (shown i v) ≤ 48
unfolding shown cell_line flatten
shown_size i (pos zero) = omega arith
shown_size i (pos (suc n)) = simp length-append (omega (arith, digits i, signed_digits (pos (suc n))))
shown_size i (negsuc n) = simp length-append (omega (arith, digits i, signed_digits (negsuc n)))

pub cells_size : (i : ℕ) (vs : List ℤ) → size (cell_lines i vs) ≤ 48 * length vs
unfolding cell_lines flatten
cells_size i [] = omega arith
cells_size i (v ∷ vs) = omega (arith, size_append (shown i v) (cell_lines (suc i) vs), shown_size i v, cells_size (suc i) vs)
