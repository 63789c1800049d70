-- The decision by the map is the decision by the table. Assumes nothing.
use mathlib.Core.Path.{◌≡◌, refl, sym, ap, ◌∙◌}
use mathlib.Core.List.{List}
use mathlib.Core.Bool.{Bool, true, false, true≢false, cond, beq as same}
use Prim.Native.Nat.{ℕ, zero, suc, ◌+◌, ◌*◌, ◌%◌, ◌≤◌, ◌<◌}
use native.Mathlib.Omega.{arith}
use borrow.Author.Tests.{lt-ltb, eqb-true, eqb-false}
use lib.Dec.{eqb, leb, ltb}
use lib.ListN.{get_or}
use Rattle.expr.specs.Bytes.{up_to}
use Rattle.evaluate.specs.Answers.{worth_at, truth_of}
use Rattle.records.specs.Faults.{word}
use Rattle.moves.specs.Stores.{Answer, ok, no, number, Store}
use Rattle.ways.specs.Looks.{operator_at, look_in, along_of, other_of, gate_of, proc_at, resumed_of, way_to}
use Rattle.decide.specs.Sets.{set_to, set_entry, set_at}
use Rattle.decide.specs.Decide.{Seen, Moved, more_of, moving, back_of, refused_of, pushed_of, popped_of, changed_of, chosen_of, closed_of, opened_of, repeated_of, entered_to, entered_of, returned_of, tested_of, assigned_of, ruled as tabled, after_set as after_set_of, rule_of}
use Rattle.decide.specs.Ways.{Sight, Doing, act_in, yes_in, no_in, first_in, second_in, expr_in, head_in, refused_in, chosen_in, closed_in, opened_in, repeated_in, entered_in, returned_in, passed_in, looped_in, tested_in, ruled, after_set, set_cell, cell_in, entry_in, rule_in, sight_of, packed_move, packed}
use Rattle.ways.specs.Map.{cell_act, act_at, onward_at, gate_at, into_at, first_at, second_at, expr_at, entry_at, Maps}
use Rattle.ways.proofs.MapCases.{entry_0, entry_2, entry_4, entry_6, entry_8, entry_10, entry_12}

way_is : (b d : ℕ) → b < 1024 → d < 2 → way_to b d ≡ b + 1024 * d
unfolding way_to
way_is b zero h g = omega arith
way_is b (suc zero) h g = rw (lt-ltb b 1024 h)
way_is b (suc (suc d)) h g = absurd (omega arith)

module _ (f tab m : List ℕ) (n : ℕ) (M : Maps f tab n m) (small : n ≤ 1024) (b d : ℕ) (hb : b < n) (hd : d < 2) where
  abbrev W : ℕ
  W = way_to b d

  -- ---- the entries of a way
  part : (s : ℕ) → s < 7 → get_or m (2048 * s + W) 0 ≡ entry_at f tab (2 * s + d) b
  part s h =
      let e : 2048 * s + (b + 1024 * d) ≡ 1024 * (2 * s + d) + b = omega arith in
      let k : b < 1024 = omega arith in
      rw (way_is b d k hd, e) (M.entry (2 * s + d) b (omega arith) k ∙ rw (lt-ltb b n hb))

  act_in_lem : act_in m W ≡ act_at f tab b d
  act_in_lem = let e : d ≡ (0 + d) % 2 = omega arith in part 0 (omega arith) ∙ sym (entry_0 f tab (0 + d) b (act_at f tab b d) (omega arith) (ap (act_at f tab b) e))

  yes_in_lem : yes_in m W ≡ onward_at tab b d false
  yes_in_lem =
      let e : d ≡ (2 + d) % 2 = omega arith in
      part 1 (omega arith) ∙ sym (entry_2 f tab (2 + d) b (onward_at tab b d false) (omega arith) (omega arith) (ap (λ d. onward_at tab b d false) e))

  no_in_lem : no_in m W ≡ onward_at tab b d true
  no_in_lem =
      let e : d ≡ (4 + d) % 2 = omega arith in
      part 2 (omega arith) ∙ sym (entry_4 f tab (4 + d) b (onward_at tab b d true) (omega arith) (omega arith) (omega arith) (ap (λ d. onward_at tab b d true) e))

  first_in_lem : first_in m W ≡ first_at f tab b d
  first_in_lem =
      let e : d ≡ (6 + d) % 2 = omega arith in
      part 3 (omega arith) ∙ sym (entry_6 f tab (6 + d) b (first_at f tab b d) (omega arith) (omega arith) (omega arith) (omega arith) (ap (first_at f tab b) e))

  second_in_lem : second_in m W ≡ second_at f tab b d
  second_in_lem =
      let e : d ≡ (8 + d) % 2 = omega arith in
      part 4 (omega arith)
      ∙ sym (entry_8 f tab (8 + d) b (second_at f tab b d) (omega arith) (omega arith) (omega arith) (omega arith) (omega arith) (ap (second_at f tab b) e))

  expr_in_lem : expr_in m W ≡ expr_at tab b
  expr_in_lem =
      part 5 (omega arith)
      ∙ sym (entry_10 f tab (10 + d) b (expr_at tab b) (omega arith) (omega arith) (omega arith) (omega arith) (omega arith) (omega arith) refl)

  head_in_lem : head_in m W ≡ look_in tab (2048 + b)
  head_in_lem =
      part 6 (omega arith)
      ∙ sym (entry_12 f tab (12 + d) b (look_in tab (2048 + b)) (omega arith) (omega arith) (omega arith) (omega arith) (omega arith) (omega arith) refl)

  -- ---- label and direction of a way
  label_in_lem : W % 1024 ≡ b
  label_in_lem = let k : b < 1024 = omega arith in rw (way_is b d k hd) (omega arith)

  near_in : W < 2048
  near_in = let k : b < 1024 = omega arith in rw (way_is b d k hd) (omega arith)

-- ---- the decision, by what is met; d is the direction
module _ (f tab arr m : List ℕ) (n : ℕ) (M : Maps f tab n m) (small : n ≤ 1024) (σ : Store) (b d calls count kind label : ℕ) (hb : b < n) (hd : d < 2) where
  abbrev S : Seen
  S = record { direction = d; b = b; calls = calls; count = count; kind = kind; label = label }

  abbrev s : Sight
  s = sight_of S

  abbrev K : ℕ
  K = look_in tab (1024 + b)

  abbrev Agree : Type 0
  Agree = rule_in f m arr s σ ≡ packed (rule_of f tab arr S σ)

  abbrev act : act_in m (way_to b d) ≡ act_at f tab b d
  act = act_in_lem f tab m n M small b d hb hd

  abbrev yes : yes_in m (way_to b d) ≡ onward_at tab b d false
  yes = yes_in_lem f tab m n M small b d hb hd

  abbrev nay : no_in m (way_to b d) ≡ onward_at tab b d true
  nay = no_in_lem f tab m n M small b d hb hd

  abbrev own : way_to b d % 1024 ≡ b
  own = label_in_lem f tab m n M small b d hb hd

  abbrev near : ltb (way_to b d) 2048 ≡ true
  near = lt-ltb (way_to b d) 2048 (near_in f tab m n M small b d hb hd)

  low : ltb b 1024 ≡ true
  low = lt-ltb b 1024 (omega arith)

  either : (t : Bool) (x y : Moved) → cond t (packed_move x) (packed_move y) ≡ packed_move (cond t x y)
  either true x y = refl
  either false x y = refl

  by_move : (x : Doing) (y : Moved) → x ≡ packed_move y → ruled x σ ≡ packed (tabled y σ)
  by_move x y e = ap (λ (x : Doing). ruled x σ) e

  -- a SET
  module _ (e : K ≡ 4) where
    yes_set : onward_at tab b d false ≡ way_to (along_of tab d b) d
    unfolding onward_at
    yes_set = rw e

    after_set_lem : (x : Answer Store) → after_set s m σ x ≡ packed (after_set_of S tab σ x)
    after_set_lem (ok τ) = rw (yes, yes_set, own)
    after_set_lem (no q) = rw (yes, yes_set, own) (by_move _ _ (either (eqb (number q) 0) (assigned_of S 0 tab) (refused_of S (number q))))

    module _ (ho : look_in tab b < 32768) where
      expr_set : expr_at tab b ≡ look_in tab b + 8
      unfolding expr_at
      expr_set = rw (lt-ltb (look_in tab b) 32768 ho, e)

      first_set : first_at f tab b d ≡ operator_at (get_or f (look_in tab b + 4) 0) d
      unfolding first_at
      first_set = rw e

      second_set : second_at f tab b d ≡ word f (look_in tab b + 6)
      unfolding second_at
      second_set = rw e

      abbrev O : ℕ
      O = operator_at (get_or f (look_in tab b + 4) 0) d

      abbrev X : ℕ → Answer Store
      X o = set_to (word f (look_in tab b + 6)) o σ (worth_at arr σ (up_to 32768 16 f (look_in tab b + 8)))

      -- any operator over 1 is exclusive
      exclusive : (o : ℕ) → eqb o 0 ≡ false → eqb o 1 ≡ false → X 2 ≡ X o
      exclusive zero z w = absurd (true≢false z)
      exclusive (suc zero) z w = absurd (true≢false w)
      exclusive (suc (suc o)) z w = refl

      module _ (h : eqb (get_or f (look_in tab b + 5) 0) 0 ≡ true) where
        act_cell : act_at f tab b d ≡ cell_act O
        unfolding act_at
        act_cell = rw (e, h)

        cell_by : (t u : Bool) → eqb O 0 ≡ t → eqb O 1 ≡ u → Agree
        unfolding rule_in rule_of set_at set_cell cell_in
        cell_by true u z w =
            rw (near, low, act, act_cell, z, expr_in_lem f tab m n M small b d hb hd, expr_set, second_in_lem f tab m n M small b d hb hd, second_set, e, h)
            (ap (after_set s m σ) (ap X (sym (eqb-true O 0 z))) ∙ after_set_lem (X O))
        cell_by false true z w =
            rw (near, low, act, act_cell, z, w, expr_in_lem f tab m n M small b d hb hd, expr_set, second_in_lem f tab m n M small b d hb hd, second_set, e, h)
            (ap (after_set s m σ) (ap X (sym (eqb-true O 1 w))) ∙ after_set_lem (X O))
        cell_by false false z w =
            rw (near, low, act, act_cell, z, w, expr_in_lem f tab m n M small b d hb hd, expr_set, second_in_lem f tab m n M small b d hb hd, second_set, e, h)
            (ap (after_set s m σ) (exclusive O z w) ∙ after_set_lem (X O))

      act_entry : eqb (get_or f (look_in tab b + 5) 0) 0 ≡ false → act_at f tab b d ≡ 6
      unfolding act_at
      act_entry h = rw (e, h)

      set_by : (t : Bool) → eqb (get_or f (look_in tab b + 5) 0) 0 ≡ t → Agree
      unfolding rule_in rule_of set_at entry_in
      set_by true h = cell_by h (eqb O 0) (eqb O 1) refl refl
      set_by false h =
          rw (
            near,
            low,
            act,
            act_entry h,
            expr_in_lem f tab m n M small b d hb hd,
            expr_set,
            first_in_lem f tab m n M small b d hb hd,
            first_set,
            second_in_lem f tab m n M small b d hb hd,
            second_set,
            e,
            h,
          )
          (after_set_lem (set_entry f (look_in tab b + 8) (word f (look_in tab b + 6)) O arr σ))

  -- a SKIP
  act_skip : K ≡ 13 → act_at f tab b d ≡ 13
  unfolding act_at
  act_skip e = rw e

  yes_skip : K ≡ 13 → onward_at tab b d false ≡ way_to (along_of tab d b) d
  unfolding onward_at
  yes_skip e = rw e

  skips : K ≡ 13 → Agree
  unfolding rule_in rule_of tested_in looped_in
  skips e = rw (near, low, act, act_skip e, yes, yes_skip e, own, e)

  -- a call, in the direction d'
  module _ (d' : ℕ) (F : first_at f tab b d ≡ gate_of tab (proc_at f tab b) d') (G : second_at f tab b d ≡ way_to (along_of tab d' (gate_of tab (proc_at f tab b) d')) d') where
    enters : entered_in s m ≡ packed_move (entered_of S (proc_at f tab b) d' tab)
    unfolding entered_in entered_of entered_to
    enters =
        rw (first_in_lem f tab m n M small b d hb hd, F, second_in_lem f tab m n M small b d hb hd, G, own)
        (either (leb 64 calls) (refused_of S 34)
        (moving 0 d' (gate_of tab (proc_at f tab b) d') (along_of tab d' (gate_of tab (proc_at f tab b) d')) (calls + 1) (more_of count) count 4 b))

  act_call : K ≡ 11 → act_at f tab b d ≡ 11
  unfolding act_at
  act_call e = rw e

  first_call : K ≡ 11 → first_at f tab b d ≡ gate_of tab (proc_at f tab b) d
  unfolding first_at gate_at
  first_call e = rw e

  second_call : K ≡ 11 → second_at f tab b d ≡ way_to (along_of tab d (gate_of tab (proc_at f tab b) d)) d
  unfolding second_at into_at gate_at
  second_call e = rw e

  calling : K ≡ 11 → Agree
  unfolding rule_in rule_of
  calling e = rw (near, low, act, act_call e, e) (by_move _ _ (enters d (first_call e) (second_call e)))

  act_uncall : K ≡ 12 → act_at f tab b d ≡ 11
  unfolding act_at
  act_uncall e = rw e

  first_uncall : K ≡ 12 → first_at f tab b d ≡ gate_of tab (proc_at f tab b) (other_of d)
  unfolding first_at gate_at
  first_uncall e = rw e

  second_uncall : K ≡ 12 → second_at f tab b d ≡ way_to (along_of tab (other_of d) (gate_of tab (proc_at f tab b) (other_of d))) (other_of d)
  unfolding second_at into_at gate_at
  second_uncall e = rw e

  uncalling : K ≡ 12 → Agree
  unfolding rule_in rule_of
  uncalling e = rw (near, low, act, act_uncall e, e) (by_move _ _ (enters (other_of d) (first_uncall e) (second_uncall e)))

  -- a return
  module _ (hl : label < n) (side : ℕ) (sd : side ≡ 1024 * d) where
    back : yes_in m (label + side) ≡ onward_at tab label d false
    back =
        let k : label < 1024 = omega arith in
        let e : label + side ≡ way_to label d = ap (λ (x : ℕ). label + x) sd ∙ sym (way_is label d k hd) in
        ap (λ (x : ℕ). yes_in m x) e ∙ yes_in_lem f tab m n M small label d hl hd

    returning : returned_in s side m ≡ packed_move (returned_of S tab)
    unfolding returned_in returned_of onward_at
    returning = rw (lt-ltb label 1024 (omega arith), back) (either (eqb calls 0) (refused_of S 30) (back_of S (resumed_of tab label d) label tab))

  -- a test; y is left where it holds, z where it does not
  stops : (v : ℕ) (x : Doing) (y : Moved) → x ≡ packed_move y → cond (leb 2 v) (refused_in s v) x ≡ packed_move (cond (leb 2 v) (refused_of S v) y)
  stops v x y e = ap (λ (x : Doing). cond (leb 2 v) (refused_in s v) x) e ∙ either (leb 2 v) (refused_of S v) y

  abbrev H : ℕ
  H = look_in tab (2048 + b)

  abbrev head : head_in m (way_to b d) ≡ H
  head = head_in_lem f tab m n M small b d hb hd

  module _ (y : ℕ) (Y : onward_at tab b d false ≡ way_to (along_of tab d y) d) (v : ℕ) where
    chooses : (z : ℕ) → onward_at tab b d true ≡ way_to (along_of tab d z) d
        → passed_in s v (chosen_in s v m) ≡ packed_move (cond (leb 2 v) (refused_of S v) (cond (eqb v 0) (pushed_of S (along_of tab d z) 1 H) (pushed_of S (along_of tab d y) 0 H)))
    unfolding chosen_in
    chooses z Z =
        rw (nay, Z, yes, Y, head, own)
        (stops v _ (cond (eqb v 0) (pushed_of S (along_of tab d z) 1 H) (pushed_of S (along_of tab d y) 0 H)) (either (eqb v 0) (pushed_of S (along_of tab d z) 1 H) (pushed_of S (along_of tab d y) 0 H)))

    opens : passed_in s v (opened_in s v m) ≡ packed_move (cond (leb 2 v) (refused_of S v) (opened_of S v y tab))
    unfolding opened_in opened_of
    opens = rw (yes, Y, head, own) (stops v _ _ (go (cond (eqb kind 3) (eqb label H) false) (eqb v 0)))
      where
        go : (t u : Bool) → cond t (cond u (packed_move (changed_of S (along_of tab d y) 2)) (refused_in s 31)) (cond u (refused_in s 31) (packed_move (pushed_of S (along_of tab d y) 2 H)))
            ≡ packed_move (cond t (cond u (changed_of S (along_of tab d y) 2) (refused_of S 31)) (cond u (refused_of S 31) (pushed_of S (along_of tab d y) 2 H)))
        go true true = refl
        go true false = refl
        go false true = refl
        go false false = refl

  module _ (Y : onward_at tab b d false ≡ way_to (along_of tab d b) d) (v : ℕ) where
    closes : passed_in s v (closed_in s v m) ≡ packed_move (cond (leb 2 v) (refused_of S v) (closed_of S v tab))
    unfolding closed_in closed_of
    closes = rw (yes, Y, own) (stops v _ _ (go (eqb v 0) (eqb kind 0)))
      where
        go : (t u : Bool) → cond (same t u) (refused_in s 31) (packed_move (popped_of S (along_of tab d b)))
            ≡ packed_move (cond t (cond u (refused_of S 31) (popped_of S (along_of tab d b))) (cond u (popped_of S (along_of tab d b)) (refused_of S 31)))
        go true true = refl
        go true false = refl
        go false true = refl
        go false false = refl

    repeats : (z : ℕ) → onward_at tab b d true ≡ way_to (along_of tab d z) d → passed_in s v (repeated_in s v m) ≡ packed_move (cond (leb 2 v) (refused_of S v) (repeated_of S v z tab))
    unfolding repeated_in repeated_of
    repeats z Z =
        rw (nay, Z, yes, Y, own)
        (stops v _ (cond (eqb v 0) (changed_of S (along_of tab d z) 3) (popped_of S (along_of tab d b))) (either (eqb v 0) (changed_of S (along_of tab d z) 3) (popped_of S (along_of tab d b))))

  -- the tests by kind and direction: what is left where the test holds or not, what the record does, and that both decide alike
  module _ (e : K ≡ 5) where
    if_yes : eqb d 0 ≡ true → onward_at tab b d false ≡ way_to (along_of tab d b) d
    unfolding onward_at
    if_yes D = rw (e, D)

    if_no : eqb d 0 ≡ true → onward_at tab b d true ≡ way_to (along_of tab d (look_in tab (3072 + b))) d
    unfolding onward_at
    if_no D = rw (e, D)

    if_up_yes : eqb d 0 ≡ false → onward_at tab b d false ≡ way_to (along_of tab d b) d
    unfolding onward_at
    if_up_yes D = rw (e, D)

    if_act : (t : Bool) → eqb d 0 ≡ t → act_at f tab b d ≡ cond t 5 7
    unfolding act_at
    if_act true D = rw (e, D)
    if_act false D = rw (e, D)

    if_tests : (t : Bool) → eqb d 0 ≡ t → (v : ℕ) → tested_in s (cond t 5 7) v m ≡ packed_move (tested_of S K v tab)
    unfolding tested_in tested_of chosen_of
    if_tests true D v =
        rw (e, D) (chooses b (if_yes D) v (look_in tab (3072 + b)) (if_no D))
    if_tests false D v = rw (e, D) (closes (if_up_yes D) v)

  module _ (e : K ≡ 7) where
    fi_yes : eqb d 0 ≡ true → onward_at tab b d false ≡ way_to (along_of tab d b) d
    unfolding onward_at
    fi_yes D = rw (e, D)

    fi_up_yes : eqb d 0 ≡ false → onward_at tab b d false ≡ way_to (along_of tab d (look_in tab (3072 + b))) d
    unfolding onward_at
    fi_up_yes D = rw (e, D)

    fi_up_no : eqb d 0 ≡ false → onward_at tab b d true ≡ way_to (along_of tab d b) d
    unfolding onward_at
    fi_up_no D = rw (e, D)

    fi_act : (t : Bool) → eqb d 0 ≡ t → act_at f tab b d ≡ cond t 7 5
    unfolding act_at
    fi_act true D = rw (e, D)
    fi_act false D = rw (e, D)

    fi_tests : (t : Bool) → eqb d 0 ≡ t → (v : ℕ) → tested_in s (cond t 7 5) v m ≡ packed_move (tested_of S K v tab)
    unfolding tested_in tested_of chosen_of
    fi_tests true D v = rw (e, D) (closes (fi_yes D) v)
    fi_tests false D v = rw (e, D) (chooses (look_in tab (3072 + b)) (fi_up_yes D) v b (fi_up_no D))

  module _ (e : K ≡ 8) where
    from_yes : (t : Bool) → eqb d 0 ≡ t → onward_at tab b d false ≡ way_to (along_of tab d b) d
    unfolding onward_at
    from_yes true D = rw (e, D)
    from_yes false D = rw (e, D)

    from_up_no : eqb d 0 ≡ false → onward_at tab b d true ≡ way_to (along_of tab d (look_in tab (4096 + b))) d
    unfolding onward_at
    from_up_no D = rw (e, D)

    from_act : (t : Bool) → eqb d 0 ≡ t → act_at f tab b d ≡ cond t 8 10
    unfolding act_at
    from_act true D = rw (e, D)
    from_act false D = rw (e, D)

    from_tests : (t : Bool) → eqb d 0 ≡ t → (v : ℕ) → tested_in s (cond t 8 10) v m ≡ packed_move (tested_of S K v tab)
    unfolding tested_in looped_in tested_of
    from_tests true D v = rw (e, D) (opens b (from_yes true D) v)
    from_tests false D v = rw (e, D) (repeats (from_yes false D) v (look_in tab (4096 + b)) (from_up_no D))

  module _ (e4 : eqb K 4 ≡ false) (e13 : eqb K 13 ≡ false) (e11 : eqb K 11 ≡ false) (e12 : eqb K 12 ≡ false) (e3 : leb K 3 ≡ false) where
    module _ (e5 : eqb K 5 ≡ false) (e7 : eqb K 7 ≡ false) (e8 : eqb K 8 ≡ false) where
      until_yes : eqb d 0 ≡ true → onward_at tab b d false ≡ way_to (along_of tab d b) d
      unfolding onward_at
      until_yes D = rw (e12, e4, e13, e11, e3, e5, e7, e8, D)

      until_no : eqb d 0 ≡ true → onward_at tab b d true ≡ way_to (along_of tab d (look_in tab (3072 + b))) d
      unfolding onward_at
      until_no D = rw (e12, e4, e13, e11, e3, e5, e7, e8, D)

      until_up_yes : eqb d 0 ≡ false → onward_at tab b d false ≡ way_to (along_of tab d (look_in tab (3072 + b))) d
      unfolding onward_at
      until_up_yes D = rw (e12, e4, e13, e11, e3, e5, e7, e8, D)

      until_act : (t : Bool) → eqb d 0 ≡ t → act_at f tab b d ≡ cond t 10 8
      unfolding act_at
      until_act true D = rw (e4, e13, e11, e12, e3, e5, e7, e8, D)
      until_act false D = rw (e4, e13, e11, e12, e3, e5, e7, e8, D)

      until_tests : (t : Bool) → eqb d 0 ≡ t → (v : ℕ) → tested_in s (cond t 10 8) v m ≡ packed_move (tested_of S K v tab)
      unfolding tested_in looped_in tested_of
      until_tests true D v = rw (e5, e7, e8, D) (repeats (until_yes D) v (look_in tab (3072 + b)) (until_no D))
      until_tests false D v = rw (e5, e7, e8, D) (opens (look_in tab (3072 + b)) (until_up_yes D) v)

    module _ (ho : look_in tab b < 32768) where
      expr_test : expr_at tab b ≡ look_in tab b + 4
      unfolding expr_at
      expr_test = rw (lt-ltb (look_in tab b) 32768 ho, e4)

      -- a record that tests does one of these
      abbrev Tests : ℕ → Type 0
      Tests a = (act_at f tab b d ≡ a) × ((v : ℕ) → tested_in s a v m ≡ packed_move (tested_of S K v tab))

      testing : (a : ℕ) → (eqb a 4 ≡ false) × (eqb a 12 ≡ false) × (eqb a 14 ≡ false) × (eqb a 6 ≡ false) × (eqb a 11 ≡ false) × (eqb a 3 ≡ false) × (eqb a 9 ≡ false)
          → Tests a → Agree
      unfolding rule_in rule_of
      testing a (a4, a12, a14, a6, a11, a3, a9) T =
          rw (near, low, act, T.0, a4, a12, a14, a6, a11, a3, a9, e4, e13, e11, e12, e3, expr_in_lem f tab m n M small b d hb hd, expr_test)
          (by_move _ _ (T.1 (truth_of (worth_at arr σ (up_to 32768 16 f (look_in tab b + 4))))))

      by_8 : eqb K 5 ≡ false → eqb K 7 ≡ false → (t u : Bool) → eqb K 8 ≡ t → eqb d 0 ≡ u → Agree
      by_8 e5 e7 true true h D = testing 8 (refl, refl, refl, refl, refl, refl, refl) (from_act (eqb-true K 8 h) true D, from_tests (eqb-true K 8 h) true D)
      by_8 e5 e7 true false h D = testing 10 (refl, refl, refl, refl, refl, refl, refl) (from_act (eqb-true K 8 h) false D, from_tests (eqb-true K 8 h) false D)
      by_8 e5 e7 false true h D = testing 10 (refl, refl, refl, refl, refl, refl, refl) (until_act e5 e7 h true D, until_tests e5 e7 h true D)
      by_8 e5 e7 false false h D = testing 8 (refl, refl, refl, refl, refl, refl, refl) (until_act e5 e7 h false D, until_tests e5 e7 h false D)

      by_7 : eqb K 5 ≡ false → (t u : Bool) → eqb K 7 ≡ t → eqb d 0 ≡ u → Agree
      by_7 e5 true true h D = testing 7 (refl, refl, refl, refl, refl, refl, refl) (fi_act (eqb-true K 7 h) true D, fi_tests (eqb-true K 7 h) true D)
      by_7 e5 true false h D = testing 5 (refl, refl, refl, refl, refl, refl, refl) (fi_act (eqb-true K 7 h) false D, fi_tests (eqb-true K 7 h) false D)
      by_7 e5 false u h D = by_8 e5 h (eqb K 8) u refl D

      by_5 : (t u : Bool) → eqb K 5 ≡ t → eqb d 0 ≡ u → Agree
      by_5 true true h D = testing 5 (refl, refl, refl, refl, refl, refl, refl) (if_act (eqb-true K 5 h) true D, if_tests (eqb-true K 5 h) true D)
      by_5 true false h D = testing 7 (refl, refl, refl, refl, refl, refl, refl) (if_act (eqb-true K 5 h) false D, if_tests (eqb-true K 5 h) false D)
      by_5 false u h D = by_7 h (eqb K 7) u refl D

  -- ---- the other kinds
  module _ (ho : look_in tab b < 32768) (hl : label < n) where
    module _ (e4 : eqb K 4 ≡ false) (e13 : eqb K 13 ≡ false) (e11 : eqb K 11 ≡ false) (e12 : eqb K 12 ≡ false) where
      act_return : leb K 3 ≡ true → (t : Bool) → eqb d 0 ≡ t → act_at f tab b d ≡ cond t 3 9
      unfolding act_at
      act_return h t D = rw (e4, e13, e11, e12, h, D)

      returns : leb K 3 ≡ true → (t : Bool) → eqb d 0 ≡ t → Agree
      unfolding rule_in rule_of
      returns h true D = rw (near, low, act, act_return h true D, e4, e13, e11, e12, h) (by_move _ _ (returning hl 0 (omega (arith, eqb-true d 0 D))))
      returns h false D = rw (near, low, act, act_return h false D, e4, e13, e11, e12, h) (by_move _ _ (returning hl 1024 (up_one (eqb-false d 0 D))))
        where
          up_one : (d ≡ 0 → ⊥) → 1024 ≡ 1024 * d
          up_one z = omega arith

      by_3 : (t : Bool) → leb K 3 ≡ t → Agree
      by_3 true h = returns h (eqb d 0) refl
      by_3 false h = by_5 e4 e13 e11 e12 h ho (eqb K 5) (eqb d 0) refl refl

    by_12 : eqb K 4 ≡ false → eqb K 13 ≡ false → eqb K 11 ≡ false → (t : Bool) → eqb K 12 ≡ t → Agree
    by_12 e4 e13 e11 true h = uncalling (eqb-true K 12 h)
    by_12 e4 e13 e11 false h = by_3 e4 e13 e11 h (leb K 3) refl

    by_11 : eqb K 4 ≡ false → eqb K 13 ≡ false → (t : Bool) → eqb K 11 ≡ t → Agree
    by_11 e4 e13 true h = calling (eqb-true K 11 h)
    by_11 e4 e13 false h = by_12 e4 e13 h (eqb K 12) refl

    by_13 : eqb K 4 ≡ false → (t : Bool) → eqb K 13 ≡ t → Agree
    by_13 e4 true h = skips (eqb-true K 13 h)
    by_13 e4 false h = by_11 e4 h (eqb K 11) refl

    by_4 : (t : Bool) → eqb K 4 ≡ t → Agree
    by_4 true h = set_by (eqb-true K 4 h) ho (eqb (get_or f (look_in tab b + 5) 0) 0) refl
    by_4 false h = by_13 h (eqb K 13) refl

pub mapped : (f tab arr m : List ℕ) (n : ℕ) → Maps f tab n m → n ≤ 1024 → (S : Seen) → S.b < n → S.direction < 2 → S.label < n → look_in tab S.b < 32768 → (σ : Store)
    → rule_in f m arr (sight_of S) σ ≡ packed (rule_of f tab arr S σ)
mapped f tab arr m n M small S hb hd hl ho σ =
    by_4 f tab arr m n M small σ S.b S.direction S.calls S.count S.kind S.label hb hd ho hl (eqb (look_in tab (1024 + S.b)) 4) refl
