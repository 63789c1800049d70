-- An evaluation stops exactly where `Stops` says: what `eval` computes and the order of evaluation in the document's words are one.
--     zero_divisor_lem      an operator answers the zero divisor only for `/` and `%` by 0
--     stops_is          eval stops with f exactly if f is what first goes wrong
use Prim.Native.Nat.{ℕ, zero, suc, ◌+◌, ◌≤◌}
use mathlib.Core.Path.{◌≡◌, refl, ap, ◌∙◌, subst}
use mathlib.Core.Bool.{Bool, true, false, cond}
use mathlib.Core.Logic.{◌⊎◌, inl, inr, ◌↔◌}
use lib.ListN.{get_or}
use lib.Dec.{ltb}
use lib.IntN.{ℤ, pos, negsuc}
use native.Mathlib.Omega.{arith}
use borrow.Author.Tests.{ltb-true, ltb-false}
use Rattle.values.specs.Values.{Value, is, zero_divisor as no_value, divided, apply_op}
use Rattle.expr.specs.Tree.{Expr, con, var, read, bin, Fault, div_by_zero, bad_index as outside, Worth, value, stop, worth_of, element, eval}
use Rattle.expr.specs.Agreement.{both, indexed}
use Rattle.order.specs.Trees.{Tree}
use Rattle.moves.specs.Stores.{Store, layout}
use Rattle.moves.specs.Reasons.{Misses, Stops, in_read, misses, in_left, in_right, divides}

a_value : {X : Type 0} {v : ℤ} {f : Fault} → value v ≡ stop f → X
a_value e = absurd (let z : ◌≡◌ {A = ℕ} 0 1 = cc in let y : ⊥ = omega arith in y)

an_answer : {X : Type 0} {v : ℤ} → is v ≡ no_value → X
an_answer e = absurd (let z : ◌≡◌ {A = ℕ} 0 1 = cc in let y : ⊥ = omega arith in y)

by_zero_lem : (y v : ℤ) → divided y v ≡ no_value → y ≡ pos 0
by_zero_lem (pos zero) v e = refl
by_zero_lem (pos (suc n)) v e = an_answer e
by_zero_lem (negsuc n) v e = an_answer e

pub zero_divisor_lem : (o : ℕ) (x y : ℤ) → apply_op o x y ≡ no_value → ((o ≡ 4) ⊎ (o ≡ 5)) × (y ≡ pos 0)
unfolding apply_op
zero_divisor_lem zero x y e = an_answer e
zero_divisor_lem (suc zero) x y e = an_answer e
zero_divisor_lem (suc (suc zero)) x y e = an_answer e
zero_divisor_lem (suc (suc (suc zero))) x y e = an_answer e
zero_divisor_lem (suc (suc (suc (suc zero)))) x y e = (inl refl, by_zero_lem y _ e)
zero_divisor_lem (suc (suc (suc (suc (suc zero))))) x y e = (inr refl, by_zero_lem y _ e)
zero_divisor_lem (suc (suc (suc (suc (suc (suc zero)))))) x y e = an_answer e
zero_divisor_lem (suc (suc (suc (suc (suc (suc (suc zero))))))) x y e = an_answer e
zero_divisor_lem (suc (suc (suc (suc (suc (suc (suc (suc zero)))))))) x y e = an_answer e
zero_divisor_lem (suc (suc (suc (suc (suc (suc (suc (suc (suc zero))))))))) x y e = an_answer e
zero_divisor_lem (suc (suc (suc (suc (suc (suc (suc (suc (suc (suc zero)))))))))) x y e = an_answer e
zero_divisor_lem (suc (suc (suc (suc (suc (suc (suc (suc (suc (suc (suc zero))))))))))) x y e = an_answer e
zero_divisor_lem (suc (suc (suc (suc (suc (suc (suc (suc (suc (suc (suc (suc zero)))))))))))) x y e = an_answer e
zero_divisor_lem (suc (suc (suc (suc (suc (suc (suc (suc (suc (suc (suc (suc (suc zero))))))))))))) x y e = an_answer e
zero_divisor_lem (suc (suc (suc (suc (suc (suc (suc (suc (suc (suc (suc (suc (suc (suc zero)))))))))))))) x y e = an_answer e
zero_divisor_lem (suc (suc (suc (suc (suc (suc (suc (suc (suc (suc (suc (suc (suc (suc (suc o))))))))))))))) x y e = an_answer e

divided_by : (o : ℕ) (x : ℤ) → (o ≡ 4) ⊎ (o ≡ 5) → apply_op o x (pos 0) ≡ no_value
unfolding apply_op
divided_by o x (inl e) = rw e
divided_by o x (inr e) = rw e

module _ (t : Tree) (σ : Store) where
  outside_is : (a : ℕ) (v : ℤ) (f : Fault) → element (layout t) σ a v ≡ stop f → Misses t a v × (outside ≡ f)
  unfolding element
  outside_is a (pos i) f e = go' (ltb i (get_or t.lengths a 0)) refl e
    where
      go' : (b : Bool) → ltb i (get_or t.lengths a 0) ≡ b → cond b (value (get_or σ (get_or (layout t).starts a 0 + i) (pos 0))) (stop outside) ≡ stop f
          → Misses t a (pos i) × (outside ≡ f)
      go' true q h = a_value h
      go' false q h = let k : get_or t.lengths a 0 ≤ i = ltb-false _ _ q in (λ l. omega arith, cc)
  outside_is a (negsuc i) f e = (tt, cc)

  missed_is : (a : ℕ) (v : ℤ) → Misses t a v → element (layout t) σ a v ≡ stop outside
  unfolding element
  missed_is a (pos i) m = go' (ltb i (get_or t.lengths a 0)) refl
    where
      go' : (b : Bool) → ltb i (get_or t.lengths a 0) ≡ b → cond b (value (get_or σ (get_or (layout t).starts a 0 + i) (pos 0))) (stop outside) ≡ stop outside
      go' true q = absurd (m (ltb-true _ _ q))
      go' false q = refl
  missed_is a (negsuc i) m = refl

  pub stopped : (e : Expr) (f : Fault) → eval (layout t) σ e ≡ stop f → Stops t σ e f
  unfolding eval
  stopped (con v) f h = a_value h
  stopped (var x) f h = a_value h
  stopped (read a i) f h = go' (eval (layout t) σ i) refl h (λ g. stopped i g)
    where
      go' : (w : Worth) → eval (layout t) σ i ≡ w → indexed (layout t) σ a w ≡ stop f → ((g : Fault) → eval (layout t) σ i ≡ stop g → Stops t σ i g) → Stops t σ (read a i) f
      go' (stop g) q h ih = in_read (ih f (q ∙ h))
      go' (value v) q h ih = let z = outside_is a v f h in subst (Stops t σ (read a i)) z.1 (misses q z.0)
  stopped (bin o l r) f h = go' (eval (layout t) σ l) refl (eval (layout t) σ r) refl h (λ g. stopped l g) (λ g. stopped r g)
    where
      worthless : (x y : ℤ) (v : Value) → apply_op o x y ≡ v → worth_of v ≡ stop f → eval (layout t) σ l ≡ value x → eval (layout t) σ r ≡ value y → Stops t σ (bin o l r) f
      worthless x y (is v) a h ql qr = a_value h
      worthless x y no_value a h ql qr =
          let z = zero_divisor_lem o x y a in
          let b : div_by_zero ≡ f = cc in
          subst (Stops t σ (bin o l r)) b (divides z.0 ql (qr ∙ ap value z.1))

      go' : (w : Worth) → eval (layout t) σ l ≡ w → (u : Worth) → eval (layout t) σ r ≡ u → both o w u ≡ stop f
          → ((g : Fault) → eval (layout t) σ l ≡ stop g → Stops t σ l g) → ((g : Fault) → eval (layout t) σ r ≡ stop g → Stops t σ r g) → Stops t σ (bin o l r) f
      go' (stop g) ql u qr h il ir = in_left (il f (ql ∙ h))
      go' (value x) ql (stop g) qr h il ir = in_right ql (ir f (qr ∙ h))
      go' (value x) ql (value y) qr h il ir = worthless x y (apply_op o x y) refl h ql qr

  pub stops_eval : {e : Expr} {f : Fault} → Stops t σ e f → eval (layout t) σ e ≡ stop f
  unfolding eval
  stops_eval (in_read {a = a} s) = ap (indexed (layout t) σ a) (stops_eval s)
  stops_eval (misses {a = a} {v = v} q m) = ap (indexed (layout t) σ a) q ∙ missed_is a v m
  stops_eval (in_left {o = o} {r = r} s) = ap (λ w. both o w (eval (layout t) σ r)) (stops_eval s)
  stops_eval (in_right {o = o} {l = l} {r = r} q s) = ap (λ w. both o w (eval (layout t) σ r)) q ∙ ap (both o (value _)) (stops_eval s)
  stops_eval (divides {o = o} {r = r} {x = x} h q p) = ap (λ w. both o w (eval (layout t) σ r)) q ∙ (ap (both o (value x)) p ∙ ap worth_of (divided_by o x h))

  pub stops_is : (e : Expr) (f : Fault) → eval (layout t) σ e ≡ stop f ↔ Stops t σ e f
  stops_is e f = (stopped e f, λ s. stops_eval s)
