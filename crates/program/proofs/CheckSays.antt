-- The check's answer is the document's: `check_of` and `Says` are one.
--     says, only        Says f g exactly if g is what check_of f gives
--     says_only         so the code's answer is check_of f, and determined
--     accepted_tree     accepted with these counts exactly if the file is that of a tree that has them
--     accepts_unique    that tree is unique
--     fault_some        a refused file's number is not 0
use mathlib.Core.Path.{◌≡◌, refl, sym, ap, ◌∙◌, subst}
use mathlib.Core.List.{List, [], ◌∷◌, ◌++◌, map}
use mathlib.Core.Logic.{◌↔◌}
use mathlib.Core.Bool.{Bool, true, false, cond}
use Prim.Native.Nat.{ℕ, zero, suc, ◌+◌, ◌^◌, ◌≤◌, ◌<◌}
use native.Mathlib.Nat.{zero-add}
use native.Mathlib.Omega.{arith}
use borrow.Author.Tests.{lt-ltb, le-ltb, ltb-true, ltb-false}
use lib.Dec.{ltb}
use lib.ListN.{length, get_or}
use Rattle.std.specs.Prelude.{Option, Some, None, Result, Ok, Err}
use Rattle.refusals.specs.Numbers.{number_of}
use Rattle.refusals.specs.declared.Reason.TheVariants.{TooLong, Misplaced, NotThere, OwnName}
use Rattle.refusals.specs.declared.Refusal.{Refusal}
use Rattle.codes.specs.Codes.{AllBytes}
use Rattle.records.specs.Records.{Record, skip, kind, begins}
use Rattle.order.specs.Trees.{Stmt, set_s, skip_s, call_s, uncall_s, if_s, from_s, Block, one, ◌then◌, Tree, records_s, records_b, records_p, records_of, procedures, cells, Ordered}
use Rattle.records.specs.Faults.{word, Rows}
use Rattle.program.specs.Says.{Given, fault, counts, given, All, there_in, Accepts, Says, too_long, in_turn, order, not_there, own_name, accepted}
use Rattle.records.specs.Walk.{offsets, kinds_at}
use Rattle.records.specs.Reading.{walk_of, free}
use Rattle.records.specs.declared.Walked.{Walked}
use Rattle.order.specs.Order.{kinds, order_of}
use Rattle.names.specs.Names.{there_at, free_at, first_unknown, first_own}
use Rattle.program.specs.Check.{scalars_of, cells_of, refused, after_own, after_there, after_order, after_walk, check_of}
use Rattle.program.specs.declared.Counts.{Counts}
use Rattle.program.proofs.Numbers.{numbered, same_number}
use Rattle.program.proofs.Declared.{Declares, declares}
use Rattle.records.proofs.Offsets.{kinds_of}
use Rattle.records.proofs.Walking.{walk_fine, fine_walk, walk_wrong, wrong_walk, rows_unique}
use Rattle.order.proofs.OrderSays.{order_ordered, ordered_order, order_misplaced, misplaced_order, ordered_unique}
use Rattle.program.proofs.Passes.{there_is, free_is, first_at_lem, first_none, at_first, none_first}

-- ---- as many BEGINs as procedures
begins_append : (xs ys : List Record) → begins (xs ++ ys) ≡ begins xs + begins ys
unfolding begins
begins_append [] ys = omega arith
begins_append (x ∷ xs) ys = omega (arith, begins_append xs ys)

mutual
  unfolding begins records_s kind

  no_begin_s : (s : Stmt) → begins (records_s s) ≡ 0
  no_begin_s (set_s o t e) = refl
  no_begin_s skip_s = refl
  no_begin_s (call_s q) = refl
  no_begin_s (uncall_s q) = refl
  no_begin_s (if_s e s t e') =
      simp begins_append (omega (arith, no_begin_b s, no_begin_b t))
  no_begin_s (from_s e s t e') =
      simp begins_append (omega (arith, no_begin_b s, no_begin_b t))

  no_begin_b : (b : Block) → begins (records_b b) ≡ 0
  no_begin_b (one s) = no_begin_s s
  no_begin_b (◌then◌ s b) = simp begins_append (omega (arith, no_begin_s s, no_begin_b b))

begins_p : (bs : List Block) → begins (records_p bs) ≡ length bs
unfolding begins records_p kind
begins_p [] = refl
begins_p (b ∷ bs) = simp begins_append (omega (arith, no_begin_b b, begins_p bs))

pub begins_tree : (t : Tree) → begins (records_of t) ≡ length (procedures t)
unfolding begins records_of kind
begins_tree t = zero-add (begins (records_p (procedures t))) ∙ begins_p (procedures t)

map_kinds : (rs : List Record) → map kind rs ≡ kinds rs
map_kinds [] = refl
map_kinds (r ∷ rs) = ap (◌∷◌ (kind r)) (map_kinds rs)

-- the test of refusal 7, with what the first record declares
abbrev asks : List ℕ → ℕ → ℕ → Bool
asks f p at = there_at f at (scalars_of f) (word f 6) p

-- the records that the walk counts
abbrev walked : List Record → Walked
walked rs = record { records = length rs; procedures = begins rs }

-- ---- the answer after each question, on a row of records
module _ (f : List ℕ) where
  after_long : length f ≤ 32768 → check_of f ≡ after_walk f (walk_of f)
  unfolding check_of
  after_long h = rw (le-ltb 32768 (length f) h)

  too_long_is : 32768 < length f → check_of f ≡ refused TooLong 0
  unfolding check_of
  too_long_is h = rw (lt-ltb 32768 (length f) h)

module _ (f : List ℕ) (B : AllBytes f) (rs : List Record) (R : Rows f rs) where
  small : length f < 2 ^ 16
  small = omega (arith, R.short)

  kinds_are : kinds_at f (offsets f) ≡ kinds rs
  kinds_are = kinds_of f rs small R.bytes ∙ map_kinds rs

  after_walk_lem : check_of f ≡ after_order f (walked rs) (order_of (kinds rs))
  after_walk_lem = after_long f R.short ∙ rw (fine_walk f B small rs R.bytes R.fine, kinds_are)

  module _ (t : Tree) (O : Ordered rs t) where
    p_is : begins rs ≡ length (procedures t)
    p_is = ap begins (sym O.records) ∙ begins_tree t

    declared : Declares f t
    declared = declares f rs R t O

    cells_are : cells_of f ≡ cells t
    unfolding cells_of
    cells_are = rw (declared.scalars_are, declared.arrays_are, declared.lengths_are)

    same_there : (j : ℕ) → j < length rs → asks f (begins rs) (get_or (offsets f) j 0) ≡ there_in t (get_or rs j skip)
    same_there j h =
        there_is f rs R j h (word f 4) (word f 6) (begins rs)
        ∙ rw (declared.scalars_are, declared.arrays_are, p_is)

    same_free : (j : ℕ) → j < length rs → free_at f (get_or (offsets f) j 0) ≡ free (get_or rs j skip)
    same_free j h = free_is f rs R j h

    after_order_lem : check_of f ≡ after_there f (walked rs) (first_unknown f (scalars_of f) (word f 6) (begins rs))
    after_order_lem = after_walk_lem ∙ rw (ordered_order rs t O)

    after_there_lem : All (there_in t) rs → check_of f ≡ after_own f (walked rs) (first_own f)
    after_there_lem A = after_order_lem ∙ rw (first_none f rs R (asks f (begins rs)) (there_in t) same_there A)

    after_all_lem : All (there_in t) rs → All free rs → check_of f ≡ Ok (record { records = length (records_of t); procedures = length (procedures t); cells = cells t })
    after_all_lem A L = after_there_lem A ∙ rw (first_none f rs R (free_at f) free same_free L, cells_are, p_is, O.records)

-- ---- an answer that is said is that of one case
given_one : (a b : Result Counts Refusal) → ((given a).number ≡ 0 → 0 < (given a).records) → given a ≡ given b → a ≡ b
given_one (Ok c) (Ok d) h e = λ i. Ok (record { records = (e i).records; procedures = (e i).procedures; cells = (e i).cells })
given_one (Ok c) (Err r) h e = absurd (omega (arith, numbered r.reason, ap (λ (g : Given). g.number) e))
given_one (Err r) (Ok c) h e = absurd (omega (arith, numbered r.reason, ap (λ (g : Given). g.number) e))
given_one (Err r) (Err s) h e =
    let reason = same_number r.reason s.reason (ap (λ (g : Given). g.number) e) in
    λ i. Err (record { reason = reason i; label = (e i).label })

module _ (f : List ℕ) where
  some_record : (g : Given) → Says f g → g.number ≡ 0 → 0 < g.records
  unfolding records_of
  some_record g (too_long h) e = absurd (omega arith)
  some_record g (in_turn {r = r} h rs rest d F w) e = absurd (omega (arith, numbered r))
  some_record g (order rs R m) e = absurd (omega arith)
  some_record g (not_there rs t R O n) e = absurd (omega arith)
  some_record g (own_name rs t R O A n) e = absurd (omega arith)
  some_record g (accepted t A) e = omega arith

  pub fault_some : {n k : ℕ} → Says f (fault n k) → 0 < n
  fault_some {n} {k} s = go n (some_record (fault n k) s)
    where
      go : (n : ℕ) → (n ≡ 0 → 0 < 0) → 0 < n
      go zero h = h refl
      go (suc n) h = omega arith

  -- the tree of an accepted file
  pub record TreeOf (r p c : ℕ) : Type 0 where
    pub tree : Tree
    pub accepts : Accepts f tree
    pub records_are : r ≡ length (records_of tree)
    pub procedures_are : p ≡ length (procedures tree)
    pub cells_are' : c ≡ cells tree

  of_says : (g : Given) (r p c : ℕ) → Says f g → g ≡ counts r p c → TreeOf r p c
  of_says g r p c (too_long h) e = absurd (omega (arith, ap (λ (g : Given). g.number) e))
  of_says g r p c (in_turn {r = m} h rs rest d F w) e = absurd (omega (arith, numbered m, ap (λ (g : Given). g.number) e))
  of_says g r p c (order rs R m) e = absurd (omega (arith, ap (λ (g : Given). g.number) e))
  of_says g r p c (not_there rs t R O n) e = absurd (omega (arith, ap (λ (g : Given). g.number) e))
  of_says g r p c (own_name rs t R O A n) e = absurd (omega (arith, ap (λ (g : Given). g.number) e))
  of_says g r p c (accepted t A) e =
      record {
        tree = t;
        accepts = A;
        records_are = ap (λ (g : Given). g.records) (sym e);
        procedures_are = ap (λ (g : Given). g.procedures) (sym e);
        cells_are' = ap (λ (g : Given). g.cells) (sym e);
      }

  pub accepted_tree : (r p c : ℕ) → Says f (counts r p c) ↔ TreeOf r p c
  accepted_tree r p c = (
    λ s. of_says (counts r p c) r p c s refl,
    λ T. rw (T.records_are, T.procedures_are, T.cells_are') (accepted T.tree T.accepts),
  )

  -- what a caller of the check knows where it accepts, and where it refuses
  pub accepted_of : (a : Result Counts Refusal) (c : Counts) → Says f (given a) → a ≡ Ok c → TreeOf c.records c.procedures c.cells
  accepted_of a c s e = of_says (given a) c.records c.procedures c.cells s (ap given e)

  pub refused_of_lem : (a : Result Counts Refusal) (r : Refusal) → Says f (given a) → a ≡ Err r → Says f (fault (number_of r.reason) r.label)
  refused_of_lem a r s e = subst (λ a. Says f (given a)) e s

-- ---- the answer is what is said
module _ (f : List ℕ) (B : AllBytes f) where
  gives : (a : Result Counts Refusal) → check_of f ≡ a → given a ≡ given (check_of f)
  gives a e = ap given (sym e)

  pub only : (g : Given) → Says f g → g ≡ given (check_of f)
  only g (too_long h) = gives (refused TooLong 0) (too_long_is f h)
  only g (in_turn {r = r} h rs rest e F w) = gives (refused r (length rs)) (after_long f h ∙ rw (wrong_walk f B (omega arith) r rs rest e F w))
  only g (order {k = k} rs R m) = gives (refused Misplaced k) (after_walk_lem f B rs R ∙ rw (misplaced_order rs k m))
  only g (not_there {k = k} rs t R O n) =
      gives (refused NotThere k) (after_order_lem f B rs R t O ∙ rw (first_at_lem f rs R (asks f (begins rs)) (there_in t) (same_there f B rs R t O) k n))
  only g (own_name {k = k} rs t R O A n) =
      gives (refused OwnName k) (after_there_lem f B rs R t O A ∙ rw (first_at_lem f rs R (free_at f) free (same_free f B rs R t O) k n))
  only g (accepted t A) = gives _ (after_all_lem f B (records_of t) A.rows t A.ordered A.numbers A.owns)

  pub determined : (g h : Given) → Says f g → Says f h → g ≡ h
  determined g h x y = only g x ∙ sym (only h y)

  pub says_only : (a : Result Counts Refusal) → Says f (given a) → a ≡ check_of f
  says_only a s = given_one a (check_of f) (some_record f (given a) s) (only (given a) s)

  -- each question in turn, by what was found
  module _ (rs : List Record) (R : Rows f rs) where
    module _ (t : Tree) (O : Ordered rs t) where
      from_own : All (there_in t) rs → (x : Option ℕ) → first_own f ≡ x → Says f (given (after_own f (walked rs) x))
      from_own A (Some k) e = own_name rs t R O A (at_first f rs R (free_at f) free (same_free f B rs R t O) k e)
      from_own A None e =
          let L = none_first f rs R (free_at f) free (same_free f B rs R t O) e in
          rw (cells_are f B rs R t O, p_is f B rs R t O, ← O.records)
          (accepted t (record {
            rows = rw O.records R;
            ordered = rw O.records O;
            numbers = rw O.records A;
            owns = rw O.records L;
          }))

      from_there : (x : Option ℕ) → first_unknown f (scalars_of f) (word f 6) (begins rs) ≡ x → Says f (given (after_there f (walked rs) x))
      from_there (Some k) e = not_there rs t R O (at_first f rs R (asks f (begins rs)) (there_in t) (same_there f B rs R t O) k e)
      from_there None e = from_own (none_first f rs R (asks f (begins rs)) (there_in t) (same_there f B rs R t O) e) (first_own f) refl

    from_order : (x : Result (Unit {0}) ℕ) → order_of (kinds rs) ≡ x → Says f (given (after_order f (walked rs) x))
    from_order (Err k) e = order rs R (order_misplaced rs k e)
    from_order (Ok all) e = let w = order_ordered rs e in from_there w.0 w.1 (first_unknown f (scalars_of f) (word f 6) (begins rs)) refl

  from_rows : (rs : List Record) (w : Walked) → Rows f rs → w ≡ walked rs → Says f (given (after_order f w (order_of (kinds_at f (offsets f)))))
  from_rows rs w R x = rw (x, kinds_are f B rs R) (from_order rs R (order_of (kinds rs)) refl)

  from_walk : length f ≤ 32768 → (w : Result Walked Refusal) → walk_of f ≡ w → Says f (given (after_walk f w))
  from_walk h (Err r) e =
      let w = walk_wrong f B r.reason r.label e in
      rw w.4 (in_turn h w.0 w.1 w.2 w.3 w.5)
  from_walk h (Ok n) e =
      let w = walk_fine f B n.records n.procedures e in
      from_rows w.0 n (record { short = h; bytes = w.1; fine = w.2 }) (λ i. record { records = w.3 i; procedures = w.4 i })

  pub says : Says f (given (check_of f))
  unfolding check_of
  says = go (ltb 32768 (length f)) refl
    where
      go : (b : Bool) → ltb 32768 (length f) ≡ b → Says f (given (cond b (refused TooLong 0) (after_walk f (walk_of f))))
      go true e = too_long (ltb-true 32768 (length f) e)
      go false e = from_walk (ltb-false 32768 (length f) e) (walk_of f) refl

  pub says_of : (a : Result Counts Refusal) → a ≡ check_of f → Says f (given a)
  says_of a e = subst (λ a. Says f (given a)) (sym e) says

  -- ---- accepted files are those of trees
  pub accepts_unique : (t u : Tree) → Accepts f t → Accepts f u → t ≡ u
  accepts_unique t u A A' =
      let e : records_of t ≡ records_of u =
      rows_unique (records_of t) (records_of u) 0 0 0 0 (omega (arith, A.rows.short, ap length A.rows.bytes)) A.rows.fine A'.rows.fine
      (sym A.rows.bytes ∙ A'.rows.bytes) in
      ordered_unique (records_of u) t u (rw e at A.ordered) A'.ordered
