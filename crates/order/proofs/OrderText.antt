-- What has been read is the text of the parts; and parts that are not dead can be completed to a tree.
-- Assumes nothing.
use Prim.Native.Nat.{ℕ}
use mathlib.Core.Path.{◌≡◌, refl, ap, sym, ◌∙◌, subst}
use mathlib.Core.List.{List, [], ◌∷◌, ◌++◌, append_assoc, append-nil}
use mathlib.Core.Option.{Option, none, some}
use mathlib.Core.Bool.{Bool, true, false, cond}
use lib.Dec.{ltb}
use lib.IntN.{pos}
use Rattle.expr.specs.Tree.{Expr, con}
use Rattle.records.specs.Records.{Record, names, begin, end, assign, if, else, fi, from, loop, until, call, uncall, skip}
use Rattle.order.specs.Trees.{Stmt, set_s, skip_s, call_s, uncall_s, if_s, from_s, Block, one, ◌then◌, records_s, records_b, records_p}
use Rattle.std.specs.Prelude.{Some}
use Rattle.order.specs.declared.open.Phase.TheVariants.{Ended}
use Rattle.order.specs.Order.{at}
use Rattle.order.proofs.OrderParts.{opener, middle, closer, construct, Layer, first, second, Part, nothing, dead, between, within, height, app, add, on_names, on_begin, on_end, on_plain, on_open, on_turn, on_close, grow, grow_dead, reads, shape}
use Rattle.order.proofs.OrderReads.{turns, closes}

unfoldable pub text_a : Option Block → List Record
text_a none = []
text_a (some b) = records_b b

unfoldable pub text_l : Option Block → List Layer → List Record
text_l a [] = text_a a
text_l a (first w e o ∷ ly) = text_l o ly ++ (opener w e ∷ text_a a)
text_l a (second w e s o ∷ ly) = text_l o ly ++ (opener w e ∷ (records_b s ++ (middle w ∷ text_a a)))

unfoldable pub text : Part → List Record
text nothing = []
text dead = []
text (between v ls bs) = names v ls ∷ records_p bs
text (within v ls bs a ly) = names v ls ∷ (records_p bs ++ (begin ∷ text_l a ly))

records_app : (b c : Block) → records_b (app b c) ≡ records_b b ++ records_b c
unfolding records_s app
records_app (one s) c = refl
records_app (◌then◌ s b) c = ap (λ x. records_s s ++ x) (records_app b c) ∙ sym (append_assoc (records_s s) (records_b b) (records_b c))

text_a_add : (a : Option Block) (b : Block) → text_a (add a b) ≡ text_a a ++ records_b b
unfolding text_a add
text_a_add none b = refl
text_a_add (some a) b = records_app a b

text_l_add : (a : Option Block) (b : Block) (ly : List Layer) → text_l (add a b) ly ≡ text_l a ly ++ records_b b
unfolding text_l
text_l_add a b [] = text_a_add a b
text_l_add a b (first w e o ∷ ly) = simp (text_a_add, append_assoc)
text_l_add a b (second w e s o ∷ ly) = simp (text_a_add, append_assoc)

records_p_snoc : (bs : List Block) (b : Block) → records_p (bs ++ (b ∷ [])) ≡ records_p bs ++ (begin ∷ (records_b b ++ (end ∷ [])))
unfolding records_p
records_p_snoc [] b = refl
records_p_snoc (c ∷ bs) b = rw (records_p_snoc bs b) (simp append_assoc)

-- ---- Sound: these parts, if any, are read from these records.
abbrev pub Text : List Record → Part → Type 0
Text x nothing = text nothing ≡ x
Text x dead = Unit {0}
Text x (between v ls bs) = text (between v ls bs) ≡ x
Text x (within v ls bs a ly) = text (within v ls bs a ly) ≡ x

more : (v : ℕ) (ls : List ℕ) (bs : List Block) (a : Option Block) (ly : List Layer) (x : Record) (a' : Option Block) (ly' : List Layer)
    → text_l a' ly' ≡ text_l a ly ++ (x ∷ []) → text (within v ls bs a' ly') ≡ text (within v ls bs a ly) ++ (x ∷ [])
unfolding text
more v ls bs a ly x a' ly' h = rw h (simp append_assoc)

text_names : (v : ℕ) (ls : List ℕ) (p : Part) → Text (text p ++ (names v ls ∷ [])) (on_names v ls p)
unfolding text records_p
text_names v ls nothing = refl
text_names v ls dead = tt
text_names v ls (between w ks bs) = tt
text_names v ls (within w ks bs a ly) = tt

text_begin : (p : Part) → Text (text p ++ (begin ∷ [])) (on_begin p)
unfolding text text_l text_a
text_begin nothing = tt
text_begin dead = tt
text_begin (between w ks bs) = refl
text_begin (within w ks bs a ly) = tt

text_end : (p : Part) → Text (text p ++ (end ∷ [])) (on_end p)
unfolding text text_l text_a
text_end nothing = tt
text_end dead = tt
text_end (between w ks bs) = tt
text_end (within w ks bs none ly) = tt
text_end (within w ks bs (some b) []) = rw (records_p_snoc bs b) (simp append_assoc)
text_end (within w ks bs (some b) (l ∷ ly)) = tt

text_plain : (x : Record) (s : Stmt) → records_s s ≡ x ∷ [] → (p : Part) → Text (text p ++ (x ∷ [])) (on_plain s p)
unfolding records_s
text_plain x s h nothing = tt
text_plain x s h dead = tt
text_plain x s h (between w ks bs) = tt
text_plain x s h (within w ks bs a ly) = more w ks bs a ly x (add a (one s)) ly (text_l_add a (one s) ly ∙ ap (λ y. text_l a ly ++ y) h)

text_cond : (b : Bool) (x : List Record) (p : Part) → Text x p → Text x (cond b p dead)
text_cond true x p h = h
text_cond false x p h = tt

text_open : (w : Bool) (e : Expr) (p : Part) → Text (text p ++ (opener w e ∷ [])) (on_open w e p)
unfolding text_l text_a
text_open w e nothing = tt
text_open w e dead = tt
text_open w e (between v ks bs) = tt
text_open w e (within v ks bs a ly) = text_cond (ltb (height ly) 16) (text (within v ks bs a ly) ++ (opener w e ∷ [])) (within v ks bs none (first w e a ∷ ly))
    (more v ks bs a ly (opener w e) none (first w e a ∷ ly) refl)

turn_text : (w : Bool) (e : Expr) (s : Block) (o : Option Block) (ly : List Layer) → text_l none (second w e s o ∷ ly) ≡ text_l (some s) (first w e o ∷ ly) ++ (middle w ∷ [])
unfolding text_l text_a
turn_text w e s o ly = simp append_assoc

text_turn : (w : Bool) (p : Part) → Text (text p ++ (middle w ∷ [])) (on_turn w p)
text_turn w nothing = tt
text_turn w dead = tt
text_turn w (between v ks bs) = tt
text_turn w (within v ks bs none ly) = tt
text_turn w (within v ks bs (some s) []) = tt
text_turn w (within v ks bs (some s) (second u e b o ∷ ly)) = tt
text_turn false (within v ks bs (some s) (first false e o ∷ ly)) = more v ks bs (some s) (first false e o ∷ ly) else none (second false e s o ∷ ly) (turn_text false e s o ly)
text_turn false (within v ks bs (some s) (first true e o ∷ ly)) = tt
text_turn true (within v ks bs (some s) (first false e o ∷ ly)) = tt
text_turn true (within v ks bs (some s) (first true e o ∷ ly)) = more v ks bs (some s) (first true e o ∷ ly) loop none (second true e s o ∷ ly) (turn_text true e s o ly)

records_construct : (w : Bool) (e : Expr) (s t : Block) (e' : Expr) → records_s (construct w e s t e') ≡ opener w e ∷ (records_b s ++ (middle w ∷ (records_b t ++ (closer w e' ∷ []))))
unfolding records_s
records_construct false e s t e' = refl
records_construct true e s t e' = refl

close_text : (w : Bool) (e : Expr) (s t : Block) (o : Option Block) (ly : List Layer) (e' : Expr)
    → text_l (add o (one (construct w e s t e'))) ly ≡ text_l (some t) (second w e s o ∷ ly) ++ (closer w e' ∷ [])
unfolding text_l text_a records_s
close_text w e s t o ly e' = text_l_add o (one (construct w e s t e')) ly ∙ (ap (λ y. text_l o ly ++ y) (records_construct w e s t e') ∙ simp append_assoc)

text_close : (w : Bool) (e' : Expr) (p : Part) → Text (text p ++ (closer w e' ∷ [])) (on_close w e' p)
text_close w e' nothing = tt
text_close w e' dead = tt
text_close w e' (between v ks bs) = tt
text_close w e' (within v ks bs none ly) = tt
text_close w e' (within v ks bs (some t) []) = tt
text_close w e' (within v ks bs (some t) (first u e o ∷ ly)) = tt
text_close false e' (within v ks bs (some t) (second false e s o ∷ ly)) = more v ks bs (some t) (second false e s o ∷ ly) (fi e') (add o (one (if_s e s t e'))) ly (close_text false e s t o ly e')
text_close false e' (within v ks bs (some t) (second true e s o ∷ ly)) = tt
text_close true e' (within v ks bs (some t) (second false e s o ∷ ly)) = tt
text_close true e' (within v ks bs (some t) (second true e s o ∷ ly)) = more v ks bs (some t) (second true e s o ∷ ly) (until e') (add o (one (from_s e s t e'))) ly (close_text true e s t o ly e')

text_grow : (p : Part) (r : Record) → Text (text p ++ (r ∷ [])) (grow p r)
unfolding records_s
text_grow p (names v ls) = text_names v ls p
text_grow p begin = text_begin p
text_grow p end = text_end p
text_grow p (assign o t e) = text_plain (assign o t e) (set_s o t e) refl p
text_grow p (if e) = text_open false e p
text_grow p else = text_turn false p
text_grow p (fi e) = text_close false e p
text_grow p (from e) = text_open true e p
text_grow p loop = text_turn true p
text_grow p (until e) = text_close true e p
text_grow p (call q) = text_plain (call q) (call_s q) refl p
text_grow p (uncall q) = text_plain (uncall q) (uncall_s q) refl p
text_grow p skip = text_plain skip skip_s refl p

-- Whatever is read after parts that themselves are of the records x.
pub reads_text : (rs xs : List Record) (p : Part) → Text xs p → Text (xs ++ rs) (reads p rs)
unfolding reads
reads_text [] xs p h = subst (λ y. Text y p) (sym (append-nil xs)) h
reads_text (r ∷ rs) xs p h = subst (λ y. Text y (reads (grow p r) rs)) (append_assoc xs (r ∷ []) rs) (reads_text rs (xs ++ (r ∷ [])) (grow p r) (step p h))
  where
    step : (p : Part) → Text xs p → Text (xs ++ (r ∷ [])) (grow p r)
    step nothing h = subst (λ y. Text (y ++ (r ∷ [])) (grow nothing r)) h (text_grow nothing r)
    step dead h = subst (λ q. Text (xs ++ (r ∷ [])) q) (sym (grow_dead r)) tt
    step (between v ls bs) h = subst (λ y. Text (y ++ (r ∷ [])) (grow (between v ls bs) r)) h (text_grow (between v ls bs) r)
    step (within v ls bs a ly) h = subst (λ y. Text (y ++ (r ∷ [])) (grow (within v ls bs a ly) r)) h (text_grow (within v ls bs a ly) r)

-- ---- Each part that is not dead can be completed.
abbrev plain : Expr
plain = con (pos 0)

unfoldable pub closing : List Layer → List Record
closing [] = end ∷ []
closing (first w e o ∷ ly) = middle w ∷ (skip ∷ (closer w plain ∷ closing ly))
closing (second w e s o ∷ ly) = closer w plain ∷ closing ly

unfoldable pub finish : Part → List Record
finish nothing = names 0 [] ∷ (begin ∷ (skip ∷ (end ∷ [])))
finish dead = []
finish (between v ls []) = begin ∷ (skip ∷ (end ∷ []))
finish (between v ls (b ∷ bs)) = []
finish (within v ls bs none ly) = skip ∷ closing ly
finish (within v ls bs (some a) ly) = closing ly

module _ (v : ℕ) (ls : List ℕ) (bs : List Block) where
  either : (P : Option Block → Type 0) → ((a : Block) → P (some a)) → (o : Option Block) (b : Block) → P (add o b)
  unfolding add
  either P h none b = h b
  either P h (some a) b = h (app a b)

  last : (cs : List Block) (a : Block) → shape (between v ls (cs ++ (a ∷ []))) ≡ Some (at Ended [])
  unfolding shape
  last [] a = refl
  last (b ∷ cs) a = refl

  closed : (ly : List Layer) (a : Block) → shape (reads (within v ls bs (some a) ly) (closing ly)) ≡ Some (at Ended [])
  unfolding reads closing add
  closed [] a = last bs a
  closed (first w e o ∷ ly) a = ap (λ p. shape (reads p (skip ∷ (closer w plain ∷ closing ly)))) (turns v ls bs w e a o ly)
      ∙ (ap (λ p. shape (reads p (closing ly))) (closes v ls bs w e a (one skip_s) o ly plain)
      ∙ either (λ x. shape (reads (within v ls bs x ly) (closing ly)) ≡ Some (at Ended [])) (λ b. closed ly b) o (one (construct w e a (one skip_s) plain)))
  closed (second w e s o ∷ ly) a = ap (λ p. shape (reads p (closing ly))) (closes v ls bs w e s a o ly plain)
      ∙ either (λ x. shape (reads (within v ls bs x ly) (closing ly)) ≡ Some (at Ended [])) (λ b. closed ly b) o (one (construct w e s a plain))

pub finishes : (p : Part) → (p ≡ dead → ⊥) → shape (reads p (finish p)) ≡ Some (at Ended [])
unfolding reads finish shape add
finishes nothing h = refl
finishes dead h = absurd (h refl)
finishes (between v ls []) h = refl
finishes (between v ls (b ∷ bs)) h = refl
finishes (within v ls bs none ly) h = closed v ls bs ly (one skip_s)
finishes (within v ls bs (some a) ly) h = closed v ls bs ly a
