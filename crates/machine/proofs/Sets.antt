-- A SET read from the bytes of an accepted file, with its table of arrays, is the document's assignment.
use Prim.Native.Nat.{ℕ, zero, suc, ◌+◌, ◌<◌, ◌≤◌}
use mathlib.Core.Path.{◌≡◌, refl, ap₂, ◌∙◌}
use mathlib.Core.Bool.{Bool, true, false, cond, ◌&&◌, ◌||◌, false≢true}
use mathlib.Core.Logic.{◌⊎◌, inl, inr}
use mathlib.Core.List.{List}
use lib.ListN.{length, get_or, set as put}
use lib.Dec.{ltb, eqb}
use lib.IntN.{ℤ, pos, negsuc}
use native.Mathlib.Omega.{arith}
use borrow.Author.Tests.{ne_eqb, eqb-true}
use Rattle.expr.specs.Tree.{Expr, eval}
use Rattle.expr.specs.Bytes.{parse, up_to}
use Rattle.expr.proofs.Layer.{upto_ok, and_true, grows}
use Rattle.evaluate.specs.Answers.{arrays_of, worth_at, entry_if}
use Rattle.expr.proofs.Agree.{eval_agree}
use Rattle.place.specs.Slots.{dir_number}
use Rattle.records.specs.Records.{Target, cell, entry, Record, assign, kind}
use Rattle.order.specs.Trees.{Tree, records_of}
use Rattle.records.specs.Faults.{word}
use Rattle.records.specs.Reading.{stop, fills, indexed, set_body, formed_as, record_as}
use Rattle.records.specs.Walk.{offsets}
use Rattle.moves.specs.Labels.{at}
use Rattle.moves.specs.Places.{Dir, down, up}
use Rattle.moves.specs.Stores.{ok, no, bad_index, bind, Store, layout, answered, evaluated, applied, operator, entry_at, cell_of, assigned}
use Rattle.ways.specs.Looks.{operator_at}
use Rattle.decide.specs.Sets.{as_answer, entry_by, set_to, set_entry, set_at}

operator_is : (o : ℕ) (d : Dir) → operator_at o (dir_number d) ≡ operator o d
operator_is o down = refl
operator_is zero up = refl
operator_is (suc zero) up = refl
operator_is (suc (suc o)) up = rw (ne_eqb (suc (suc o)) 0 (λ e. omega arith), ne_eqb (suc (suc o)) 1 (λ e. omega arith))

-- record r, of kind k, stands in the bytes at o in full, before 32,768
pub record Stands (k : ℕ) (bytes : List ℕ) (o : ℕ) (r : Record) : Type 0 where
  pub is : record_as k bytes o ≡ r
  pub formed : formed_as k bytes o ≡ true
  pub low : o < 32768
  pub before : stop bytes o ≤ 32768

-- the arrays are the tree's, and the bytes read like the file f at its records
pub record Agrees (t : Tree) (f bytes arr : List ℕ) : Type 0 where
  pub starts : (a : ℕ) → get_or (arrays_of arr).starts a 0 ≡ get_or (layout t).starts a 0
  pub lengths : (a : ℕ) → get_or (arrays_of arr).lengths a 0 ≡ get_or t.lengths a 0
  pub reads : (x : ℕ) → x < length (records_of t) → Stands (kind (at t x)) bytes (get_or (offsets f) x 0) (at t x)

-- ---- an expression that fills its place is read so before 32,768
module _ (bytes : List ℕ) where
  pub filled : (at n : ℕ) → fills (parse 16 bytes at) n ≡ true → n ≤ 32768 → up_to 32768 16 bytes at ≡ parse 16 bytes at
  filled at n e h =
      let p = and_true (parse 16 bytes at).ok _ e in
      upto_ok 32768 16 bytes at p.0 (omega (arith, eqb-true _ n p.1))

module _ {f bytes : List ℕ} (t : Tree) (arr : List ℕ) (G : Agrees t f bytes arr) (σ : Store) where
  pub worth_is : (e : Expr) → eval (arrays_of arr) σ e ≡ eval (layout t) σ e
  worth_is e = eval_agree (arrays_of arr) (layout t) σ G.starts G.lengths e

  entry_is : (a : ℕ) (v : ℤ) → entry_by (arrays_of arr) a v ≡ entry_at t a v
  entry_is a (pos i) = rw (G.lengths a, G.starts a) (go (ltb i (get_or t.lengths a 0)) _)
    where
      go : (b : Bool) (c : ℕ) → as_answer (entry_if b c) ≡ cond b (ok c) (no bad_index)
      go true c = refl
      go false c = refl
  entry_is a (negsuc i) = refl

  set_cell_is : (c o : ℕ) (d : Dir) (e : Expr) → set_to c (operator_at o (dir_number d)) σ (eval (arrays_of arr) σ e)
      ≡ bind (evaluated t σ e) (λ v. ok (put σ c (applied (operator o d) (get_or σ c (pos 0)) v)))
  unfolding evaluated
  set_cell_is c o d e = ap₂ (λ n w. set_to c n σ w) (operator_is o d) (worth_is e)

  module _ (at : ℕ) (d : Dir) where
    scalar_is : (o c : ℕ) (e : Expr) → set_to c (operator_at o (dir_number d)) σ (eval (arrays_of arr) σ e) ≡ assigned t o (cell c) e d σ
    unfolding assigned cell_of bind
    scalar_is o c e = set_cell_is c o d e

    array_is : (o a : ℕ) (i e : Expr)
        → bind (bind (answered (eval (arrays_of arr) σ i)) (λ v. entry_by (arrays_of arr) a v)) (λ c. set_to c (operator_at o (dir_number d)) σ (eval (arrays_of arr) σ e))
        ≡ assigned t o (entry a i) e d σ
    unfolding assigned cell_of evaluated
    array_is o a i e =
        λ j. bind (bind (answered (worth_is i j)) (λ v. entry_is a v j)) (λ c. set_cell_is c o d e j)

    -- where both expressions are read alike before 32,768
    set_as : (b : Bool) (o : ℕ) (x : Target) (e : Expr)
        → assign (get_or bytes (at + 4) 0) (cond b (cell (word bytes (at + 6))) (entry (word bytes (at + 6)) (up_to 32768 16 bytes (at + 8)).tree)) (up_to 32768 16 bytes (cond b (at + 8) (up_to 32768 16 bytes (at + 8)).next)).tree
        ≡ assign o x e
        → cond b (set_to (word bytes (at + 6)) (operator_at (get_or bytes (at + 4) 0) (dir_number d)) σ (worth_at arr σ (up_to 32768 16 bytes (at + 8))))
        (set_entry bytes (at + 8) (word bytes (at + 6)) (operator_at (get_or bytes (at + 4) 0) (dir_number d)) arr σ) ≡ assigned t o x e d σ
    unfolding set_entry
    set_as true o x e q =
        let eo : get_or bytes (at + 4) 0 ≡ o = cc in
        let ex : cell (word bytes (at + 6)) ≡ x = cc in
        let ee : (up_to 32768 16 bytes (at + 8)).tree ≡ e = cc in
        scalar_is _ _ _ ∙ (λ j. assigned t (eo j) (ex j) (ee j) d σ)
    set_as false o x e q =
        let eo : get_or bytes (at + 4) 0 ≡ o = cc in
        let ex : entry (word bytes (at + 6)) (up_to 32768 16 bytes (at + 8)).tree ≡ x = cc in
        let ee : (up_to 32768 16 bytes (up_to 32768 16 bytes (at + 8)).next).tree ≡ e = cc in
        array_is _ _ _ _ ∙ (λ j. assigned t (eo j) (ex j) (ee j) d σ)

    set_read : (b : Bool) (o : ℕ) (x : Target) (e : Expr) → (b ≡ true) ⊎ ((parse 16 bytes (at + 8)).ok ≡ true) → fills (parse 16 bytes (cond b (at + 8) (parse 16 bytes (at + 8)).next)) (stop bytes at) ≡ true → stop bytes at ≤ 32768
        → assign (get_or bytes (at + 4) 0) (cond b (cell (word bytes (at + 6))) (entry (word bytes (at + 6)) (parse 16 bytes (at + 8)).tree)) (parse 16 bytes (cond b (at + 8) (parse 16 bytes (at + 8)).next)).tree ≡ assign o x e
        → assign (get_or bytes (at + 4) 0) (cond b (cell (word bytes (at + 6))) (entry (word bytes (at + 6)) (up_to 32768 16 bytes (at + 8)).tree)) (up_to 32768 16 bytes (cond b (at + 8) (up_to 32768 16 bytes (at + 8)).next)).tree ≡ assign o x e
    set_read true o x e k w h q = rw (filled bytes (at + 8) (stop bytes at) w h) q
    set_read false o x e (inl z) w h q = absurd (false≢true z)
    set_read false o x e (inr z) w h q =
        let p = and_true (parse 16 bytes (parse 16 bytes (at + 8)).next).ok _ w in
        let n = eqb-true (parse 16 bytes (parse 16 bytes (at + 8)).next).next (stop bytes at) p.1 in
        let g = grows (length bytes) 16 bytes (parse 16 bytes (at + 8)).next in
        rw (upto_ok 32768 16 bytes (at + 8) z (omega arith), filled bytes (parse 16 bytes (at + 8)).next (stop bytes at) w h) q

    pub set_is : (o : ℕ) (x : Target) (e : Expr) → Stands 4 bytes at (assign o x e) → set_at bytes at (dir_number d) arr σ ≡ assigned t o x e d σ
    unfolding set_at record_as formed_as set_body
    set_is o x e s =
        let b = eqb (get_or bytes (at + 5) 0) 0 in
        let p = and_true (indexed bytes at) _ (and_true (ltb (get_or bytes (at + 4) 0) 3) _ s.formed).1 in
        set_as b o x e (set_read b o x e (form_of b _ p.0) p.1 s.before s.is)
      where
        form_of : (b c : Bool) → (b || (eqb (get_or bytes (at + 5) 0) 1 && c)) ≡ true → (b ≡ true) ⊎ (c ≡ true)
        form_of true c e = inl refl
        form_of false c e = inr (and_true (eqb (get_or bytes (at + 5) 0) 1) c e).1
