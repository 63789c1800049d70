-- What a tree is written as is read as that tree, and not where more than 16 are open at once.
-- Assumes nothing.
use Prim.Native.Nat.{ℕ, suc, ◌+◌, ◌≤◌, ◌<◌, max}
use mathlib.Core.Path.{◌≡◌, refl, ap, sym, ◌∙◌}
use mathlib.Core.List.{List, [], ◌∷◌, ◌++◌, append_assoc, append-nil}
use mathlib.Core.Option.{Option, none, some}
use mathlib.Core.Bool.{Bool, true, false}
use mathlib.Core.Logic.{◌⊎◌, inl, inr, ⊎_elim}
use native.Mathlib.Omega.{arith}
use borrow.Author.Tests.{lt-ltb, le-ltb, leb-true, leb-false}
use lib.Dec.{leb}
use Rattle.expr.specs.Tree.{Expr}
use Rattle.records.specs.Records.{Record, end, assign, call, uncall, skip}
use Rattle.order.specs.Trees.{Stmt, set_s, skip_s, call_s, uncall_s, if_s, from_s, Block, one, ◌then◌, Tree, records_s, records_b, records_p, records_of, procedures}
use Rattle.order.proofs.OrderOpen.{open_s, open_b, open_p, regroup}
use Rattle.order.proofs.OrderParts.{opener, middle, closer, construct, Layer, first, second, Part, nothing, dead, between, within, frames, height, app, add, grow, reads, dies}

add_add : (a : Option Block) (s : Stmt) (b : Block) → add (add a (one s)) b ≡ add a (◌then◌ s b)
unfolding add app
add_add none s b = refl
add_add (some x) s b = ap some (go x)
  where
    go : (x : Block) → app (app x (one s)) b ≡ app x (◌then◌ s b)
    go (one r) = refl
    go (◌then◌ r x) = ap (◌then◌ r) (go x)

pub le_or_lt : (m n : ℕ) → (m ≤ n) ⊎ (n < m)
le_or_lt m n = go (leb m n) refl
  where
    go : (b : Bool) → leb m n ≡ b → (m ≤ n) ⊎ (n < m)
    go true e = inl (leb-true m n e)
    go false e = inr (leb-false m n e)

module _ (v : ℕ) (ls : List ℕ) (bs : List Block) where
  abbrev mid : Option Block → List Layer → Part
  mid a ly = within v ls bs a ly

  opens : (w : Bool) (e : Expr) (a : Option Block) (ly : List Layer) → height ly < 16 → grow (mid a ly) (opener w e) ≡ mid none (first w e a ∷ ly)
  opens false e a ly h = rw (lt-ltb (height ly) 16 h)
  opens true e a ly h = rw (lt-ltb (height ly) 16 h)

  full : (w : Bool) (e : Expr) (a : Option Block) (ly : List Layer) → 16 ≤ height ly → grow (mid a ly) (opener w e) ≡ dead
  full false e a ly h = rw (le-ltb (height ly) 16 h)
  full true e a ly h = rw (le-ltb (height ly) 16 h)

  pub turns : (w : Bool) (e : Expr) (s : Block) (o : Option Block) (ly : List Layer) → grow (mid (some s) (first w e o ∷ ly)) (middle w) ≡ mid none (second w e s o ∷ ly)
  turns false e s o ly = refl
  turns true e s o ly = refl

  pub closes : (w : Bool) (e : Expr) (s t : Block) (o : Option Block) (ly : List Layer) (e' : Expr)
      → grow (mid (some t) (second w e s o ∷ ly)) (closer w e') ≡ mid (add o (one (construct w e s t e'))) ly
  closes false e s t o ly e' = refl
  closes true e s t o ly e' = refl

  -- The records xs are read as the block b, where n are open at once.
  record Reads (xs : List Record) (n : ℕ) (b : Block) : Type 0 where
    fits : (r : List Record) (a : Option Block) (ly : List Layer) → height ly + n ≤ 16 → reads (mid a ly) (xs ++ r) ≡ reads (mid (add a b) ly) r
    over : (r : List Record) (a : Option Block) (ly : List Layer) → height ly ≤ 16 → 16 < height ly + n → reads (mid a ly) (xs ++ r) ≡ dead

  plain_reads : (x : Record) (s : Stmt) → ((a : Option Block) (ly : List Layer) → grow (mid a ly) x ≡ mid (add a (one s)) ly) → Reads (x ∷ []) 0 (one s)
  unfolding reads
  plain_reads x s g = record {
    fits = λ r a ly h. ap (λ p. reads p r) (g a ly);
    over = λ r a ly h k. absurd (let z : 16 < height ly = omega arith in omega arith);
  }

  abbrev written : Bool → Expr → Block → Block → Expr → List Record
  written w e s t e' = opener w e ∷ (records_b s ++ (middle w ∷ (records_b t ++ (closer w e' ∷ []))))

  module _ (w : Bool) (e : Expr) (s t : Block) (e' : Expr) (rs : Reads (records_b s) (open_b s) s) (rt : Reads (records_b t) (open_b t) t) where
    into : (r : List Record) (a : Option Block) (ly : List Layer) → height ly < 16
        → reads (mid a ly) (written w e s t e' ++ r) ≡ reads (mid none (first w e a ∷ ly)) (records_b s ++ (middle w ∷ (records_b t ++ (closer w e' ∷ r))))
    unfolding reads
    into r a ly h = ap (λ p. reads p ((records_b s ++ (middle w ∷ (records_b t ++ (closer w e' ∷ [])))) ++ r)) (opens w e a ly h)
        ∙ ap (λ x. reads (mid none (first w e a ∷ ly)) x) (regroup (records_b s) (records_b t) (middle w) (closer w e') r)

    half : (r : List Record) (a : Option Block) (ly : List Layer) → height ly + suc (open_b s) ≤ 16
        → reads (mid a ly) (written w e s t e' ++ r) ≡ reads (mid none (second w e s a ∷ ly)) (records_b t ++ (closer w e' ∷ r))
    unfolding reads frames add
    half r a ly h = into r a ly (omega arith)
        ∙ (rs.fits (middle w ∷ (records_b t ++ (closer w e' ∷ r))) none (first w e a ∷ ly) (omega arith)
        ∙ ap (λ p. reads p (records_b t ++ (closer w e' ∷ r))) (turns w e s a ly))

    construct_reads : Reads (written w e s t e') (suc (max (open_b s) (open_b t))) (one (construct w e s t e'))
    unfolding reads frames add
    construct_reads = record {
      fits = λ r a ly h. half r a ly (omega arith)
          ∙ (rt.fits (closer w e' ∷ r) none (second w e s a ∷ ly) (omega arith) ∙ ap (λ p. reads p r) (closes w e s t a ly e'));
      over = λ r a ly h k. ⊎_elim
          (λ x. dies (opener w e) ((records_b s ++ (middle w ∷ (records_b t ++ (closer w e' ∷ [])))) ++ r) (mid a ly) (full w e a ly x))
          (λ x. ⊎_elim
          (λ y. half r a ly y ∙ rt.over (closer w e' ∷ r) none (second w e s a ∷ ly) (omega arith) (omega arith))
          (λ y. into r a ly x ∙ rs.over (middle w ∷ (records_b t ++ (closer w e' ∷ r))) none (first w e a ∷ ly) (omega arith) (omega arith))
          (le_or_lt (height ly + suc (open_b s)) 16))
          (le_or_lt 16 (height ly));
    }

  then_reads : (s : Stmt) (b : Block) → Reads (records_s s) (open_s s) (one s) → Reads (records_b b) (open_b b) b
      → Reads (records_s s ++ records_b b) (max (open_s s) (open_b b)) (◌then◌ s b)
  then_reads s b rs rb = record {
    fits = λ r a ly h. ap (λ x. reads (mid a ly) x) (append_assoc (records_s s) (records_b b) r)
        ∙ (rs.fits (records_b b ++ r) a ly (omega arith) ∙ (rb.fits r (add a (one s)) ly (omega arith) ∙ ap (λ x. reads (mid x ly) r) (add_add a s b)));
    over = λ r a ly h k. ap (λ x. reads (mid a ly) x) (append_assoc (records_s s) (records_b b) r) ∙ ⊎_elim
        (λ x. rs.fits (records_b b ++ r) a ly x ∙ rb.over r (add a (one s)) ly h (omega arith))
        (λ x. rs.over (records_b b ++ r) a ly h x)
        (le_or_lt (height ly + open_s s) 16);
  }

  mutual
    unfolding records_s open_s

    read_s : (s : Stmt) → Reads (records_s s) (open_s s) (one s)
    read_s (set_s o t e) = plain_reads (assign o t e) (set_s o t e) (λ a ly. refl)
    read_s skip_s = plain_reads skip skip_s (λ a ly. refl)
    read_s (call_s q) = plain_reads (call q) (call_s q) (λ a ly. refl)
    read_s (uncall_s q) = plain_reads (uncall q) (uncall_s q) (λ a ly. refl)
    read_s (if_s e s t e') = construct_reads false e s t e' (read_b s) (read_b t)
    read_s (from_s e s t e') = construct_reads true e s t e' (read_b s) (read_b t)

    read_b : (b : Block) → Reads (records_b b) (open_b b) b
    read_b (one s) = read_s s
    read_b (◌then◌ s b) = then_reads s b (read_s s) (read_b b)

-- ---- Procedures, and the whole.
module _ (v : ℕ) (ls : List ℕ) where
  fits_p : (cs bs : List Block) → open_p cs ≤ 16 → reads (between v ls bs) (records_p cs) ≡ between v ls (bs ++ cs)
  unfolding reads records_p open_p add frames
  fits_p [] bs h = ap (λ x. between v ls x) (sym (append-nil bs))
  fits_p (c ∷ cs) bs h = (read_b v ls bs c).fits (end ∷ records_p cs) none [] (omega arith)
      ∙ (fits_p cs (bs ++ (c ∷ [])) (omega arith) ∙ ap (λ x. between v ls x) (append_assoc bs (c ∷ []) cs))

  over_p : (cs bs : List Block) → 16 < open_p cs → reads (between v ls bs) (records_p cs) ≡ dead
  unfolding reads records_p open_p add frames
  over_p [] bs h = absurd (omega arith)
  over_p (c ∷ cs) bs h = ⊎_elim
      (λ x. (read_b v ls bs c).fits (end ∷ records_p cs) none [] x ∙ over_p cs (bs ++ (c ∷ [])) (omega arith))
      (λ x. (read_b v ls bs c).over (end ∷ records_p cs) none [] (omega arith) x)
      (le_or_lt (0 + open_b c) 16)

pub reads_tree : (t : Tree) → open_p (procedures t) ≤ 16 → reads nothing (records_of t) ≡ between t.scalars t.lengths (procedures t)
unfolding reads records_of
reads_tree t h = fits_p t.scalars t.lengths (procedures t) [] h

pub reads_over : (t : Tree) → 16 < open_p (procedures t) → reads nothing (records_of t) ≡ dead
unfolding reads records_of
reads_over t h = over_p t.scalars t.lengths (procedures t) [] h
