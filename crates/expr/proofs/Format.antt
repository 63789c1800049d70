-- The reader against the format: what `parse` calls ok is a tree whose bytes stand there, each such tree is found,
-- and given bytes are those of one tree. Assumes nothing.
--     sound, complete      the reader is right, and misses nothing
--     parse_of, whole_of   where a tree stands, the readers read that tree
--     unique               one tree for given bytes
--     says, determined     `EndSays` holds of one answer, that of the reader
use mathlib.Core.Path.{◌≡◌, refl, sym, ap, ◌∙◌}
use mathlib.Core.List.{List, [], ◌∷◌, ◌++◌, append_assoc}
use mathlib.Core.Bool.{Bool, true, false, false≢true}
use Prim.Native.Nat.{ℕ, zero, suc, ◌+◌, ◌-◌, ◌≤◌, ◌<◌}
use native.Mathlib.Nat.{le_refl, add_assoc}
use native.Mathlib.Omega.{arith}
use lib.ListN.{length, get_or, drop, length-append, length-drop}
use lib.Seq.{drop-drop, drop-append_seam}
use lib.Dec.{eqb, ltb}
use borrow.Author.Tests.{le-leb, leb-true, lt-ltb, ltb-true, eqb-true, eq-eqb}
use Rattle.std.proofs.lemmas.Bool.{and_parts}
use Rattle.codes.specs.Codes.{bytes16, word16, AllBytes}
use Rattle.codes.proofs.Rows.{one_byte, two_bytes, byte_of, head_of, short_lt, cell_fits, short_bytes, cell_bytes_lem, short_back, cell_back}
use Rattle.expr.specs.Tree.{Expr, con, var, read, bin, depth, Valid, encode}
use Rattle.expr.specs.Bytes.{Stands, Got, up_to, parse, whole, got_con, got_var, got_read, got_bin}
use Rattle.expr.specs.Answers.{EndSays, end_of}
use Rattle.std.proofs.Common.{Option, Some, None}
use Rattle.std.specs.Bool.{then_some}
use Rattle.expr.proofs.Layer.{whole_ok, upto_step, layer_con, layer_var, layer_read, layer_bin, layer_cases}

-- what is ok lies within the bytes
pub inside : (d : ℕ) (s : List ℕ) (at : ℕ) → (parse d s at).ok ≡ true → at < length s
unfolding up_to
inside zero s at o = let z : ◌≡◌ {A = Bool} false true = o in absurd (false≢true z)
inside (suc d) s at o =
    layer_cases (λ g. g.ok ≡ true → at < length s) (length s) (parse d s) s at (λ h o. absurd (false≢true o)) (λ h e o. h) (λ h e o. h) (λ h e o. h)
    (λ h a b c o. h)
    o

-- what follows a part, where that part ends
seam : (s : List ℕ) (at : ℕ) (a rest b : List ℕ) (n : ℕ) → drop at s ≡ a ++ rest → n ≡ at + length a → drop n s ≡ b → rest ≡ b
seam s at a rest b n p q r = cc (drop-append_seam a rest, drop-drop (length a) at s)

-- a first byte, and what stands behind it
tagged : (s : List ℕ) (at tag : ℕ) (l : List ℕ) → at < length s → get_or s at 0 ≡ tag → drop (at + 1) s ≡ l → drop at s ≡ tag ∷ l
tagged s at tag l h e D = rw (one_byte s at h, e, D)

-- what is ok is a tree, no deeper than asked, whose bytes stand there
abbrev Good : List ℕ → ℕ → ℕ → Got → Type 0
Good s at d g = Valid g.tree × ((depth g.tree ≤ d) × Stands s at g.tree g.next)

module _ (s : List ℕ) (B : AllBytes s) where
  good_con : (at d : ℕ) → get_or s at 0 ≡ 0 → at + 5 ≤ length s → Good s at (suc d) (got_con (length s) s at)
  unfolding Valid depth Stands encode
  good_con at d e h =
      (cell_fits s B (at + 1), (omega arith, (drop (at + 1 + 4) s, tagged s at 0 _ (omega arith) e (cell_bytes_lem s B (at + 1) (omega arith)), refl)))

  good_var : (at d : ℕ) → get_or s at 0 ≡ 1 → at + 3 ≤ length s → Good s at (suc d) (got_var (length s) s at)
  unfolding Valid depth Stands encode
  good_var at d e h =
      (short_lt s B (at + 1), (omega arith, (drop (at + 1 + 2) s, tagged s at 1 _ (omega arith) e (short_bytes s B (at + 1) (omega arith)), refl)))

  good_read : (at d : ℕ) (i : Got) → get_or s at 0 ≡ 2 → at + 3 < length s → Good s (at + 3) d i → Good s at (suc d) (got_read (word16 s (at + 1)) i)
  unfolding Valid depth Stands encode
  good_read at d i e h g =
      let D : drop (at + 1 + 2) s ≡ encode i.tree ++ g.1.1.0 = rw (add_assoc at 1 2) g.1.1.1 in
      ((short_lt s B (at + 1), g.0), (omega (arith, g.1.0), (g.1.1.0, tagged s at 2 _ (omega arith) e (short_bytes s B (at + 1) (omega arith) ∙ ap (λ (l : List ℕ). bytes16 (word16 s (at + 1)) ++ l) D), omega (arith, g.1.1.2))))

  good_bin : (at d : ℕ) (l r : Got) → get_or s at 0 ≡ 3 → get_or s (at + 1) 0 < 16 → at + 2 < length s → Good s (at + 2) d l → Good s l.next d r
      → Good s at (suc d) (got_bin (get_or s (at + 1) 0) l r)
  unfolding Valid depth Stands encode
  good_bin at d l r e o h p q =
      let x = seam s (at + 2) (encode l.tree) p.1.1.0 (encode r.tree ++ q.1.1.0) l.next p.1.1.1 p.1.1.2 q.1.1.1 in
      ((o, (p.0, q.0)), (omega (arith, p.1.0, q.1.0), (q.1.1.0, two_bytes s at (omega arith) ∙ cc (e, p.1.1.1, append_assoc (encode l.tree) (encode r.tree) q.1.1.0), simp length-append (omega (arith, p.1.1.2, q.1.1.2)))))

  pub sound : (d at : ℕ) → (parse d s at).ok ≡ true → Good s at d (parse d s at)
  unfolding up_to
  sound zero at o = absurd (false≢true o)
  sound (suc d) at o =
      layer_cases (λ g. g.ok ≡ true → Good s at (suc d) g) (length s) (parse d s) s at (λ h o. absurd (false≢true o))
      (λ h e o. good_con at d e (leb-true (at + 5) (length s) o))
      (λ h e o. good_var at d e (leb-true (at + 3) (length s) o))
      (λ h e o. good_read at d (parse d s (at + 3)) e (inside d s (at + 3) o) (sound d (at + 3) o))
      (λ h a b c o.
      let x = and_parts (eqb (get_or s at 0) 3) _ o in
      let y = and_parts (ltb (get_or s (at + 1) 0) 16) _ x.1 in
      let z = and_parts (parse d s (at + 2)).ok _ y.1 in
      good_bin at d (parse d s (at + 2)) (parse d s (parse d s (at + 2)).next) (eqb-true _ 3 x.0) (ltb-true _ 16 y.0) (inside d s (at + 2) z.0)
      (sound d (at + 2) z.0)
      (sound d (parse d s (at + 2)).next z.1))
      o

-- and each such tree is found
abbrev pub got : Expr → ℕ → Got
got e n = record { ok = true; tree = e; next = n }

module _ (s : List ℕ) where
  room : (at : ℕ) (l : List ℕ) → drop at s ≡ l → 0 < length l → at + length l ≤ length s
  room at l D h = omega (arith, simp length-drop at (ap length D))

  rest_at : (at k : ℕ) (l : List ℕ) → drop at s ≡ l → drop (at + k) s ≡ drop k l
  rest_at at k l D = sym (drop-drop k at s) ∙ ap (drop k) D

  pub complete : (e : Expr) (d at : ℕ) (rest : List ℕ) → Valid e → depth e ≤ d → drop at s ≡ encode e ++ rest
      → parse d s at ≡ got e (at + length (encode e))
  unfolding Valid depth encode
  complete (con x) d at rest v h D =
      let r = room at (encode (con x) ++ rest) D (omega arith) in
      let w = cell_back s (at + 1) rest x v (rest_at at 1 _ D) in
      rw (upto_step (length s) d s at (λ e. omega arith), layer_con (length s) _ s at (omega arith) (head_of s at 0 _ D), le-leb (at + 5) (length s) (omega arith), w)
  complete (var x) d at rest v h D =
      let r = room at (encode (var x) ++ rest) D (omega arith) in
      let w = short_back s (at + 1) rest x v (rest_at at 1 _ D) in
      rw (upto_step (length s) d s at (λ e. omega arith), layer_var (length s) _ s at (omega arith) (head_of s at 1 _ D), le-leb (at + 3) (length s) (omega arith), w)
  complete (read a i) d at rest v h D =
      let r = room at (encode (read a i) ++ rest) D (omega arith) in
      let w = short_back s (at + 1) (encode i ++ rest) a v.0 (rest_at at 1 _ D) in
      let n : at + 3 + length (encode i) ≡ at + length (encode (read a i)) = omega arith in
      rw (upto_step (length s) d s at (λ e. omega arith), layer_read (length s) _ s at (omega arith) (head_of s at 2 _ D), complete i (d - 1) (at + 3) rest v.1 (omega arith) (rest_at at 3 _ D), w, n)
  complete (bin o l r) d at rest v h D =
      let z = room at (encode (bin o l r) ++ rest) D (omega arith) in
      let tag = head_of s at 3 _ D in
      let D2 = rest_at at 2 _ D ∙ append_assoc (encode l) (encode r) rest in
      let D3 = rest_at (at + 2) (length (encode l)) _ D2 ∙ drop-append_seam (encode l) (encode r ++ rest) in
      let n : at + 2 + length (encode l) + length (encode r) ≡ at + length (encode (bin o l r)) = simp length-append (omega arith) in
      rw (
        upto_step (length s) d s at (λ e. omega arith),
        layer_bin (length s) _ s at (omega arith) (λ e. omega arith) (λ e. omega arith) (λ e. omega arith),
        eq-eqb (get_or s at 0) 3 tag,
        byte_of s at 1 _ D,
        lt-ltb o 16 v.0,
        complete l (d - 1) (at + 2) (encode r ++ rest) v.1.0 (omega arith) D2,
        complete r (d - 1) (at + 2 + length (encode l)) rest v.1.1 (omega arith) D3,
        n,
      )

some_bytes : (e : Expr) → 0 < length (encode e)
unfolding encode
some_bytes (con v) = omega arith
some_bytes (var x) = omega arith
some_bytes (read a i) = omega arith
some_bytes (bin o l r) = omega arith

-- a tree that stands there ends within the bytes
inside_end : (s : List ℕ) (at : ℕ) (e : Expr) (n : ℕ) → Stands s at e n → n ≤ length s
unfolding Stands
inside_end s at e n st = omega (arith, st.2, room s at (encode e ++ st.0) st.1 (omega (arith, length-append (encode e) st.0, some_bytes e)), length-append (encode e) st.0)

-- where a tree stands, what is read there is that tree: for whoever has checked the bytes before
module _ (s : List ℕ) (at d : ℕ) (e : Expr) (n : ℕ) (v : Valid e) (h : depth e ≤ d) (st : Stands s at e n) where
  pub parse_of : parse d s at ≡ got e n
  unfolding Stands
  parse_of = complete s e d at st.0 v h st.1 ∙ ap (got e) (sym st.2)

module _ (s : List ℕ) (at : ℕ) (e : Expr) (n : ℕ) (v : Valid e) (st : Stands s at e n) where
  pub whole_of : whole s at ≡ got e n
  whole_of =
      let p = parse_of s at (depth e) e n v (le_refl (depth e)) st in
      whole_ok s at (depth e) (rw p) (rw p (inside_end s at e n st)) ∙ p

-- one tree for given bytes, and one end
pub unique : (s : List ℕ) (at : ℕ) (e e' : Expr) (n n' : ℕ) → Valid e → Valid e' → Stands s at e n → Stands s at e' n' → (e ≡ e') × (n ≡ n')
unique s at e e' n n' v v' st st' =
    let p = sym (whole_of s at e n v st) ∙ whole_of s at e' n' v' st' in
    (ap (λ (g : Got). g.tree) p, ap (λ (g : Got). g.next) p)

-- and one tree for its own bytes
pub encode_injective : (e e' : Expr) → Valid e → Valid e' → encode e ≡ encode e' → e ≡ e'
unfolding Stands
encode_injective e e' v v' q =
    (unique (encode e ++ []) 0 e e' (0 + length (encode e)) (0 + length (encode e')) v v' ([], refl, refl) ([], ap (λ (l : List ℕ). l ++ []) q, refl)).0

-- so the answer is the right one, and the only one
module _ (s : List ℕ) (B : AllBytes s) (at d : ℕ) where
  pub says : EndSays s at d (end_of (parse d s at))
  unfolding EndSays Stands
  says = go (parse d s at).ok refl
    where
      go : (b : Bool) → (parse d s at).ok ≡ b → EndSays s at d (then_some b (parse d s at).next)
      go true o = ((parse d s at).tree, sound s B d at o)
      go false o = λ e n v h st. false≢true (sym o ∙ ap (λ (g : Got). g.ok) (complete s e d at st.0 v h st.1))

  only : (r : Option ℕ) → EndSays s at d r → r ≡ end_of (parse d s at)
  unfolding EndSays Stands
  only (Some n) p =
      let st = p.1.1.1 in
      rw (complete s p.0 d at st.0 p.1.0 p.1.1.0 st.1, ← st.2)
  only None none = go (parse d s at).ok refl
    where
      go : (b : Bool) → (parse d s at).ok ≡ b → None ≡ then_some b (parse d s at).next
      go true o = let g = sound s B d at o in absurd (none (parse d s at).tree (parse d s at).next g.0 g.1.0 g.1.1)
      go false o = refl

  pub determined : (r r' : Option ℕ) → EndSays s at d r → EndSays s at d r' → r ≡ r'
  determined r r' p q = only r p ∙ sym (only r' q)
