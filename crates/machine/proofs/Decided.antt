-- The decision does what the step on cuts says: one case for each kind of record and direction.
use Prim.Native.Nat.{ℕ, zero, suc, ◌+◌, ◌<◌}
use mathlib.Core.Path.{◌≡◌, refl, sym, ap, ◌∙◌, subst}
use mathlib.Core.Bool.{Bool, true, false}
use mathlib.Core.List.{List}
use lib.ListN.{length}
use lib.IntN.{pos, negsuc}
use native.Mathlib.Omega.{arith}
use borrow.Author.Tests.{eq-eqb, ne_eqb}
use Rattle.values.specs.Values.{is_true}
use Rattle.expr.specs.Tree.{Expr, div_by_zero, bad_index as outside, Worth, value, stop, eval}
use Rattle.expr.specs.Bytes.{Got, parse, up_to}
use Rattle.evaluate.specs.Answers.{arrays_of, truth_of}
use Rattle.place.specs.Places.{Frame}
use Rattle.records.specs.Records.{if, fi, from, until, kind}
use Rattle.order.specs.Trees.{Tree, records_of}
use Rattle.program.specs.Says.{Accepts}
use Rattle.records.specs.Reading.{stop as ending, formed_as, record_as}
use Rattle.moves.specs.Labels.{at}
use Rattle.moves.specs.Stores.{wrong_value, Answer, ok, no, bind, Store, layout, answered, evaluated, holds}
use Rattle.moves.proofs.Linked.{Con, Rec, Prog, forget, head_of}
use Rattle.moves.proofs.Cuts.{Cut, Wf}
use Rattle.moves.proofs.Rows.{prog}
use Rattle.moves.proofs.Links.{at_is}
use Rattle.moves.proofs.Accepted.{accepted_wf}
use Rattle.table.proofs.Tabled.{Tabled, Part}
use Rattle.ways.specs.Looks.{look_in, along_of}
use Rattle.decide.specs.Decide.{Seen, Moved, pushed_of, popped_of, changed_of, head_in, closed_of, again_of, opened_of, tested_of, Ruled, ruled, Rules, rule_of}
use Rattle.decide.proofs.Rules.{rule_test}
use Rattle.machine.proofs.Labels.{near, offset_is}
use Rattle.machine.proofs.Landing.{Fate}
use Rattle.machine.proofs.Sets.{Stands, Agrees, filled, worth_is}

pub clash : {X : Type 0} {b : Bool} → b ≡ true → b ≡ false → X
clash p q = absurd (let z : ◌≡◌ {A = ℕ} 0 1 = cc in let y : ⊥ = omega arith in y)

pub fate_of : (P : Prog) (fs : List Frame) (σ : Store) (x : Ruled) (m : Moved) (τ : Store) (a : Answer (Cut × Store)) → Rules x m τ → Fate P fs σ (ruled m τ) a → Fate P fs σ x a
fate_of P fs σ x m τ a r h = let e : ruled m τ ≡ x = λ i. record { move = r.made i; store = r.left i } in subst (λ x. Fate P fs σ x a) e h

module _ {f : List ℕ} {t : Tree} (A : Accepts f t) {tab : List ℕ} (T : Tabled t f tab) {bytes arr : List ℕ} (G : Agrees t f bytes arr) where
  abbrev P : Prog
  P = prog t

  pub w : Wf t (prog t)
  w = accepted_wf A

  -- ---- the table's entries at the label of a record
  module _ (b : ℕ) (h : b < length (records_of t)) (ρ : Rec) (e : P.at b ≡ ρ) where
    pub kind_at_lem : look_in tab (1024 + b) ≡ kind (forget ρ)
    kind_at_lem = near A T 1024 b (omega arith) h ∙ T.kinds b h ∙ ap kind (at_is t b ∙ ap forget e)

    pub head_at : look_in tab (2048 + b) ≡ head_of ρ
    head_at = near A T 2048 b (omega arith) h ∙ T.heads b h ∙ ap head_of e

    pub record_is : Stands (kind (forget ρ)) bytes (look_in tab b) (forget ρ)
    record_is = subst (λ r. Stands (kind r) bytes (look_in tab b) r) (at_is t b ∙ ap forget e) (subst (λ o. Stands (kind (at t b)) bytes o (at t b)) (sym (offset_is A T b h)) (G.reads b h))

  pub middle_at : (b : ℕ) → b < length (records_of t) → (c : Con) → Part P c b → look_in tab (3072 + b) ≡ c.m
  middle_at b h c p = near A T 3072 b (omega arith) h ∙ T.middles b c h p

  pub tail_at : (b : ℕ) → b < length (records_of t) → (c : Con) → Part P c b → look_in tab (4096 + b) ≡ c.r
  tail_at b h c p = near A T 4096 b (omega arith) h ∙ T.tails b c h p

  -- ---- a test: by what its expression holds
  truth_fate : (fs : List Frame) (σ : Store) (S : Seen) (k : ℕ) (x : Worth) (K : Bool → Answer (Cut × Store))
      → Fate P fs σ (ruled (tested_of S k 1 tab) σ) (K true) → Fate P fs σ (ruled (tested_of S k 0 tab) σ) (K false)
      → Fate P fs σ (ruled (tested_of S k (truth_of x) tab) σ) (bind (bind (answered x) (λ v. ok (is_true v))) K)
  unfolding bind tested_of
  truth_fate fs σ S k (value (pos zero)) K hy hn = hn
  truth_fate fs σ S k (value (pos (suc n))) K hy hn = hy
  truth_fate fs σ S k (value (negsuc n)) K hy hn = hy
  truth_fate fs σ S k (stop div_by_zero) K hy hn = (refl, refl)
  truth_fate fs σ S k (stop outside) K hy hn = (refl, refl)

  pub test_fate : (fs : List Frame) (σ : Store) (S : Seen) (k : ℕ) (e : Expr) (K : Bool → Answer (Cut × Store)) → (S.b < 1024) × (look_in tab (1024 + S.b) ≡ k) → 4 < k → k < 11
      → (up_to 32768 16 bytes (look_in tab S.b + 4)).tree ≡ e
      → Fate P fs σ (ruled (tested_of S k 1 tab) σ) (K true) → Fate P fs σ (ruled (tested_of S k 0 tab) σ) (K false)
      → Fate P fs σ (rule_of bytes tab arr S σ) (bind (holds t σ e) K)
  unfolding holds evaluated
  test_fate fs σ S k e K kk lo hi tree hy hn =
      fate_of P fs σ (rule_of bytes tab arr S σ) (tested_of S k (truth_of (eval (layout t) σ e)) tab) σ (bind (holds t σ e) K)
      (rule_test bytes tab arr S σ k (look_in tab S.b) (sym kk.1) refl (tested_of S k (truth_of (eval (layout t) σ e)) tab) kk.0 (λ e. omega arith) (λ e. omega arith) (λ e. omega arith) (λ e. omega arith) (truth_of (eval (layout t) σ e)) (omega arith) refl
      (ap truth_of (sym (ap (eval (arrays_of arr) σ) tree ∙ worth_is t arr G σ e))))
      (truth_fate fs σ S k (eval (layout t) σ e) K hy hn)

  -- the expression of a test
  pub tree_if : (o : ℕ) (e : Expr) → Stands 5 bytes o (if e) → (up_to 32768 16 bytes (o + 4)).tree ≡ e
  unfolding record_as formed_as
  tree_if o e q = let z : (parse 16 bytes (o + 4)).tree ≡ e = let y = q.is in cc in ap (λ (g : Got). g.tree) (filled bytes (o + 4) (ending bytes o) q.formed q.before) ∙ z

  pub tree_fi : (o : ℕ) (e : Expr) → Stands 7 bytes o (fi e) → (up_to 32768 16 bytes (o + 4)).tree ≡ e
  unfolding record_as formed_as
  tree_fi o e q = let z : (parse 16 bytes (o + 4)).tree ≡ e = let y = q.is in cc in ap (λ (g : Got). g.tree) (filled bytes (o + 4) (ending bytes o) q.formed q.before) ∙ z

  pub tree_from : (o : ℕ) (e : Expr) → Stands 8 bytes o (from e) → (up_to 32768 16 bytes (o + 4)).tree ≡ e
  unfolding record_as formed_as
  tree_from o e q = let z : (parse 16 bytes (o + 4)).tree ≡ e = let y = q.is in cc in ap (λ (g : Got). g.tree) (filled bytes (o + 4) (ending bytes o) q.formed q.before) ∙ z

  pub tree_until : (o : ℕ) (e : Expr) → Stands 10 bytes o (until e) → (up_to 32768 16 bytes (o + 4)).tree ≡ e
  unfolding record_as formed_as
  tree_until o e q = let z : (parse 16 bytes (o + 4)).tree ≡ e = let y = q.is in cc in ap (λ (g : Got). g.tree) (filled bytes (o + 4) (ending bytes o) q.formed q.before) ∙ z

  -- ---- closing and opening, by the frame
  module _ (fs : List Frame) (σ : Store) (S : Seen) (K : Answer (Cut × Store)) where
    abbrev To : Moved → Answer (Cut × Store) → Type 0
    To m a = Fate P fs σ (ruled m σ) a

    pub close_then : S.kind ≡ 0 → To (popped_of S (along_of tab S.direction S.b)) K → To (closed_of S 1 tab) K × To (closed_of S 0 tab) (no wrong_value)
    unfolding closed_of
    close_then q h = rw (eq-eqb S.kind 0 q) (h, (refl, refl))

    pub close_else : S.kind ≡ 1 → To (popped_of S (along_of tab S.direction S.b)) K → To (closed_of S 0 tab) K × To (closed_of S 1 tab) (no wrong_value)
    unfolding closed_of
    close_else q h = rw (ne_eqb S.kind 0 (λ e. omega arith)) (h, (refl, refl))

    pub open_out : (y : ℕ) → again_of S (head_in S tab) ≡ false → To (pushed_of S (along_of tab S.direction y) 2 (head_in S tab)) K
        → To (opened_of S 1 y tab) K × To (opened_of S 0 y tab) (no wrong_value)
    unfolding opened_of
    open_out y q h = rw q (h, (refl, refl))

    pub open_in : (y : ℕ) → again_of S (head_in S tab) ≡ true → To (changed_of S (along_of tab S.direction y) 2) K
        → To (opened_of S 0 y tab) K × To (opened_of S 1 y tab) (no wrong_value)
    unfolding opened_of
    open_in y q h = rw q (h, (refl, refl))
