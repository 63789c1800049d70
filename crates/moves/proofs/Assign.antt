-- A SET is undone in the opposite direction: its own name occurs in neither expression, so both evaluate to the same afterwards.
use Prim.Native.Nat.{ℕ, zero, suc, ◌+◌, ◌≤◌, ◌<◌}
use mathlib.Core.Path.{◌≡◌, refl, ap, sym, ◌∙◌, subst}
use mathlib.Core.Bool.{Bool, true, false, cond, ◌||◌}
use mathlib.Core.List.{List, [], ◌∷◌}
use lib.ListN.{length, get_or, set as put, length-set}
use lib.Seq.{get_or-set_same, get_or-set_other, set-get_or, set-set}
use lib.Dec.{ltb, eqb}
use lib.IntN.{ℤ, pos, negsuc}
use native.Mathlib.Omega.{arith}
use borrow.Author.Tests.{ltb-true, ltb-false, eqb-true, eqb-false}
use mir.Syntax.{w32}
use mir.Val.{SFits}
use Rattle.values.proofs.Laws.{undo_sum, undo_difference, undo_exclusive, sum_fits, difference_fits, exclusive_fits}
use Rattle.expr.specs.Tree.{Expr, Valid, Worth, value, stop, eval, known}
use Rattle.expr.specs.declared.Name.{Name}
use Rattle.expr.specs.declared.Name.TheVariants.{Scalar, Array}
use Rattle.expr.specs.Agreement.{occurs, There, Same}
use Rattle.expr.specs.Answers.{InCell}
use Rattle.expr.proofs.Agree.{eval_keeps, eval_fits}
use Rattle.records.specs.Records.{Target, cell, entry, there_target, own_target, sum}
use Rattle.order.specs.Trees.{Tree, cells}
use Rattle.moves.specs.Places.{Dir, down, up, opp}
use Rattle.moves.specs.Stores.{Answer, ok, no, bind, Store, Sized, starts_from, layout, reason_of, answered, evaluated, applied, operator, entry_at, cell_of, assigned, bad_index}
use Rattle.expr.proofs.Layer.{and_true}
use Rattle.moves.proofs.Why.{ok_no}

-- ---- the operators
pub applied_fits : (o : ℕ) (x v : ℤ) → SFits w32 x → SFits w32 v → SFits w32 (applied o x v)
applied_fits zero x v h k = sum_fits x v
applied_fits (suc zero) x v h k = difference_fits x v
applied_fits (suc (suc o)) x v h k = exclusive_fits x v h k

pub applied_back : (o : ℕ) (d : Dir) (x v : ℤ) → SFits w32 x → SFits w32 v → applied (operator o (opp d)) (applied (operator o d) x v) v ≡ x
applied_back zero down x v h k = undo_sum x v h
applied_back (suc zero) down x v h k = undo_difference x v h
applied_back (suc (suc o)) down x v h k = undo_exclusive x v h k
applied_back zero up x v h k = undo_difference x v h
applied_back (suc zero) up x v h k = undo_sum x v h
applied_back (suc (suc o)) up x v h k = undo_exclusive x v h k

-- ---- the arrays stand one behind another after the scalars
start_ge : (ls : List ℕ) (n a : ℕ) → a < length ls → n ≤ get_or (starts_from n ls) a 0
unfolding starts_from
start_ge [] n a h = absurd (let z : ⊥ = omega arith in z)
start_ge (l ∷ ls) n zero h = omega arith
start_ge (l ∷ ls) n (suc a) h = omega (arith, start_ge ls (n + l) a (omega arith))

start_end : (ls : List ℕ) (n a : ℕ) → a < length ls → get_or (starts_from n ls) a 0 + get_or ls a 0 ≤ n + sum ls
unfolding starts_from sum
start_end [] n a h = absurd (let z : ⊥ = omega arith in z)
start_end (l ∷ ls) n zero h = omega arith
start_end (l ∷ ls) n (suc a) h = omega (arith, start_end ls (n + l) a (omega arith))

start_next : (ls : List ℕ) (n a b : ℕ) → a < b → b < length ls → get_or (starts_from n ls) a 0 + get_or ls a 0 ≤ get_or (starts_from n ls) b 0
unfolding starts_from
start_next [] n a b h k = absurd (let z : ⊥ = omega arith in z)
start_next (l ∷ ls) n a zero h k = absurd (let z : ⊥ = omega arith in z)
start_next (l ∷ ls) n zero (suc b) h k = start_ge ls (n + l) b (omega arith)
start_next (l ∷ ls) n (suc a) (suc b) h k = start_next ls (n + l) a b (omega arith) (omega arith)

module _ (τ : Tree) where
  abbrev start : ℕ → ℕ
  start a = get_or (layout τ).starts a 0

  abbrev size : ℕ → ℕ
  size a = get_or τ.lengths a 0

  abbrev arrays : ℕ
  arrays = length τ.lengths

  -- Cell c is one of the name's.
  abbrev Owns : Name → ℕ → Type 0
  Owns (Scalar x) c = (c ≡ x) × (x < τ.scalars)
  Owns (Array a) c = (a < arrays) × (start a ≤ c) × (c < start a + size a)

  owned_there : (n : Name) (c : ℕ) → Owns n c → c < cells τ
  owned_there (Scalar x) c (e, h) = omega arith
  owned_there (Array a) c (h, lo, hi) = omega (arith, start_end τ.lengths τ.scalars a h)

  -- Different names have no cell in common.
  apart : (m n : Name) (c : ℕ) → Owns m c → Owns n c → (m ≡ n → ⊥) → ⊥
  apart (Scalar x) (Scalar y) c (e, h) (e', h') f = f (ap Scalar (sym e ∙ e'))
  apart (Scalar x) (Array a) c (e, h) (h', lo, hi) f = omega (arith, start_ge τ.lengths τ.scalars a h')
  apart (Array a) (Scalar x) c (h', lo, hi) (e, h) f = omega (arith, start_ge τ.lengths τ.scalars a h')
  apart (Array a) (Array b) c (h, lo, hi) (h', lo', hi') f = go' (ltb a b) refl (ltb b a) refl
    where
      go' : (x : Bool) → ltb a b ≡ x → (y : Bool) → ltb b a ≡ y → ⊥
      go' true e y k = let l = ltb-true a b e in omega (arith, start_next τ.lengths τ.scalars a b l h')
      go' false e true k = let l = ltb-true b a k in omega (arith, start_next τ.lengths τ.scalars b a l h)
      go' false e false k =
          let p : b ≤ a = ltb-false a b e in let q : a ≤ b = ltb-false b a k in
          f (ap Array (omega arith))

  -- A store that is changed at a cell of one name is the same at every other name.
  elsewhere : (n : Name) (c : ℕ) → Owns n c → (σ : Store) (y : ℤ) (m : Name) → There τ.scalars arrays m → (m ≡ n → ⊥) → Same m (layout τ) σ (put σ c y)
  elsewhere n c o σ y (Scalar x) h f = sym (get_or-set_other σ c x y (pos 0) (λ e. apart (Scalar x) n c (sym e, h) o f))
  elsewhere n c o σ y (Array a) h f = λ i l. sym (get_or-set_other σ c (start a + i) y (pos 0)
      (λ e. apart (Array a) n c (h, let z : start a ≤ c = omega arith in z, let z : c < start a + size a = omega arith in z) o f))

  eval_kept : (n : Name) (c : ℕ) → Owns n c → (σ : Store) (y : ℤ) (e : Expr) → known τ.scalars arrays e ≡ true → occurs n e ≡ false
      → evaluated τ σ e ≡ evaluated τ (put σ c y) e
  unfolding evaluated
  eval_kept n c o σ y e k f = ap answered (eval_keeps τ.scalars arrays n e (layout τ) σ (put σ c y) k f (elsewhere n c o σ y))

  value_fits : (σ : Store) → Sized τ σ → (e : Expr) (v : ℤ) → Valid e → evaluated τ σ e ≡ ok v → SFits w32 v
  unfolding evaluated
  value_fits σ so e v h q = go' (eval (layout τ) σ e) (eval_fits (layout τ) σ so.range e h) q
    where
      go' : (w : Worth) → InCell w → answered w ≡ ok v → SFits w32 v
      go' (value u) k q = let z : u ≡ v = cc in subst (SFits w32) z k
      go' (stop f) k q = ok_no v (reason_of f) (sym q)

  -- ---- the cell that a SET changes
  abbrev name_of : Target → Name
  name_of (cell x) = Scalar x
  name_of (entry a i) = Array a

  entry_owned : (a : ℕ) (v : ℤ) (c : ℕ) → a < arrays → entry_at τ a v ≡ ok c → Owns (Array a) c
  entry_owned a (pos i) c h q = go' (ltb i (size a)) refl q
    where
      go' : (b : Bool) → ltb i (size a) ≡ b → cond b (ok (start a + i)) (no bad_index) ≡ ok c → Owns (Array a) c
      go' true e q =
          let l = ltb-true i (size a) e in
          let z : start a + i ≡ c = cc in
          (h, omega arith, omega arith)
      go' false e q = ok_no c bad_index (sym q)
  entry_owned a (negsuc i) c h q = ok_no c bad_index (sym q)

  cell_owned : (σ : Store) (x : Target) (c : ℕ) → there_target τ.scalars arrays x ≡ true → cell_of τ σ x ≡ ok c → Owns (name_of x) c
  unfolding cell_of bind
  cell_owned σ (cell x) c t q = let z : x ≡ c = cc in (sym z, ltb-true x τ.scalars t)
  cell_owned σ (entry a i) c t q = go' (evaluated τ σ i) q
    where
      go' : (r : Answer ℤ) → bind r (λ v. entry_at τ a v) ≡ ok c → Owns (Array a) c
      go' (ok v) q = entry_owned a v c (ltb-true a arrays (and_true (ltb a arrays) (known τ.scalars arrays i) t).0) q
      go' (no r) q = ok_no c r (sym q)

  pub cell_there : (σ : Store) (x : Target) (c : ℕ) → there_target τ.scalars arrays x ≡ true → cell_of τ σ x ≡ ok c → c < cells τ
  cell_there σ x c t q = owned_there (name_of x) c (cell_owned σ x c t q)

  either_false : (a b : Bool) → (a || b) ≡ false → (a ≡ false) × (b ≡ false)
  either_false true b e = absurd (let z : ◌≡◌ {A = ℕ} 0 1 = cc in let y : ⊥ = omega arith in y)
  either_false false b e = (refl, e)

  -- The target stays where it was, and the expression keeps its value.
  cell_kept : (σ : Store) (y : ℤ) (x : Target) (e : Expr) (c : ℕ) → Owns (name_of x) c → there_target τ.scalars arrays x ≡ true → own_target x e ≡ false
      → cell_of τ σ x ≡ cell_of τ (put σ c y) x
  unfolding cell_of bind occurs
  cell_kept σ y (cell x) e c o t f = refl
  cell_kept σ y (entry a i) e c o t f =
      ap (λ r. bind r (λ v. entry_at τ a v)) (eval_kept (Array a) c o σ y i (and_true (ltb a arrays) (known τ.scalars arrays i) t).1 (either_false (occurs (Array a) i) (occurs (Array a) e) f).0)

  own_right : (x : Target) (e : Expr) → own_target x e ≡ false → occurs (name_of x) e ≡ false
  unfolding occurs
  own_right (cell x) e f = f
  own_right (entry a i) e f = (either_false (occurs (Array a) i) (occurs (Array a) e) f).1

  -- ---- a SET that arrives: its cell, its value, the store afterwards
  pub record Set (o : ℕ) (x : Target) (e : Expr) (d : Dir) (σ σ' : Store) : Type 0 where
    pub c : ℕ
    pub v : ℤ
    pub cell_is : cell_of τ σ x ≡ ok c
    pub value_is : evaluated τ σ e ≡ ok v
    pub store_is : put σ c (applied (operator o d) (get_or σ c (pos 0)) v) ≡ σ'

  set_is : (o : ℕ) (x : Target) (e : Expr) (d : Dir) (σ σ' : Store) → assigned τ o x e d σ ≡ ok σ' → Set o x e d σ σ'
  unfolding assigned bind
  set_is o x e d σ σ' q = go' (cell_of τ σ x) refl (evaluated τ σ e) refl q
    where
      go' : (r : Answer ℕ) → cell_of τ σ x ≡ r → (w : Answer ℤ) → evaluated τ σ e ≡ w
          → bind r (λ c. bind w (λ v. ok (put σ c (applied (operator o d) (get_or σ c (pos 0)) v)))) ≡ ok σ' → Set o x e d σ σ'
      go' (ok c) h (ok v) k q = record { c = c; v = v; cell_is = h; value_is = k; store_is = cc }
      go' (ok c) h (no r) k q = ok_no σ' r (sym q)
      go' (no r) h w k q = ok_no σ' r (sym q)

  put_sized : (σ : Store) (c : ℕ) (y : ℤ) → Sized τ σ → c < cells τ → SFits w32 y → Sized τ (put σ c y)
  put_sized σ c y so h k = record { size = length-set σ c y ∙ so.size; range = λ i. go' i (eqb i c) refl }
    where
      go' : (i : ℕ) (b : Bool) → eqb i c ≡ b → SFits w32 (get_or (put σ c y) i (pos 0))
      go' i true e = rw (eqb-true i c e, get_or-set_same σ c y (pos 0) (omega (arith, so.size))) k
      go' i false e = rw (get_or-set_other σ c i y (pos 0) (eqb-false i c e)) (so.range i)

  -- A SET whose names are there and whose own name is not in its expressions is undone in the opposite direction.
  pub set_undoes : (o : ℕ) (x : Target) (e : Expr) → Valid e → there_target τ.scalars (length τ.lengths) x ≡ true → known τ.scalars (length τ.lengths) e ≡ true
      → own_target x e ≡ false → (d : Dir) (σ σ' : Store) → Sized τ σ → assigned τ o x e d σ ≡ ok σ' → Sized τ σ' × (assigned τ o x e (opp d) σ' ≡ ok σ)
  unfolding assigned bind
  set_undoes o x e ve tx te f d σ σ' so q =
      let s = set_is o x e d σ σ' q in
      let c = s.c in let v = s.v in
      let z = get_or σ c (pos 0) in
      let y = applied (operator o d) z v in
      let own = cell_owned σ x c tx s.cell_is in
      let inside = owned_there (name_of x) c own in
      let fits = value_fits σ so e v ve s.value_is in
      let size = put_sized σ c y so inside (applied_fits (operator o d) z v (so.range c) fits) in
      let cell' = sym (cell_kept σ y x e c own tx f) ∙ s.cell_is in
      let value' = sym (eval_kept (name_of x) c own σ y e te (own_right x e f)) ∙ s.value_is in
      let there : c < length σ = omega (arith, so.size) in
      let back : put (put σ c y) c (applied (operator o (opp d)) (get_or (put σ c y) c (pos 0)) v) ≡ σ =
      set-set σ c y _ ∙ (ap (put σ c) (ap (λ u. applied (operator o (opp d)) u v) (get_or-set_same σ c y (pos 0) there) ∙ applied_back o d z v (so.range c) fits)
      ∙ set-get_or σ c (pos 0)) in (
        subst (Sized τ) s.store_is size,
        subst (λ k. bind (cell_of τ k x) (λ c. bind (evaluated τ k e) (λ v. ok (put k c (applied (operator o (opp d)) (get_or k c (pos 0)) v)))) ≡ ok σ) s.store_is
            (rw (cell', value') (ap ok back)),
      )
