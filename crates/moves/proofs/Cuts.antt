-- Places as gaps: the gap between two neighbouring records, a direction and the labels of the open calls; the step on them;
-- and what an accepted program gives, record by record.
use Prim.Native.Nat.{ℕ, suc, ◌≤◌, ◌<◌, pred}
use mathlib.Core.Path.{◌≡◌}
use mathlib.Core.Bool.{Bool, true, false, cond, beq as same}
use mathlib.Core.List.{List, [], ◌∷◌}
use lib.ListN.{length}
use lib.Dec.{ltb}
use Rattle.expr.specs.Tree.{Expr}
use Rattle.records.specs.Records.{Target}
use Rattle.order.specs.Trees.{Tree}
use Rattle.moves.specs.Edges.{Frame, in_then, in_else, in_do, in_loop}
use Rattle.moves.specs.Places.{Dir, down, up, opp, calls}
use Rattle.moves.specs.Stores.{Answer, ok, no, bind, Store, Sized, holds, assigned, at_end, too_deep}
use Rattle.moves.specs.Step.{again, must}
use Rattle.moves.proofs.Linked.{Con, Rec, name_l, begin_l, end_l, set_l, skip_l, if_l, else_l, fi_l, from_l, loop_l, until_l, call_l, uncall_l, Prog, onto, gate_l, resume}

-- A cut: the gap g between the records g and g + 1, a direction, the labels of the open calls.
pub record Cut : Type 0 where
  pub g : ℕ
  pub d : Dir
  pub cs : List ℕ

abbrev pub turned : Cut → Cut
turned s = record { g = s.g; d = opp s.d; cs = s.cs }

-- The record that is met, and the cut where record y is left.
abbrev pub met : ℕ → Dir → ℕ
met g down = suc g
met g up = g

abbrev pub gap : ℕ → Dir → ℕ
gap y down = y
gap y up = pred y

abbrev pub leave : ℕ → Dir → List ℕ → Cut
leave y d cs = record { g = gap y d; d = d; cs = cs }

-- Ports: a switch has one hub and two arms.
pub data Port : Type 0 where
  hub : Expr → (t f : ℕ) → Port
  arm : Expr → Bool → ℕ → Port
  assign' : ℕ → Target → Expr → Port
  pass' : Port
  enter' : ℕ → Dir → Port
  return' : Port
  never' : Port

unfoldable pub port : Rec → ℕ → Dir → Port
port (name_l v ls) x d = never'
port (begin_l q) x down = never'
port (begin_l q) x up = return'
port (end_l q) x down = return'
port (end_l q) x up = never'
port (set_l o t ε) x d = assign' o t ε
port skip_l x d = pass'
port (if_l c) x down = hub c.e₁ x c.m
port (if_l c) x up = arm c.e₁ true x
port (else_l c) x down = arm c.e₂ true c.r
port (else_l c) x up = arm c.e₁ false c.l
port (fi_l c) x down = arm c.e₂ false x
port (fi_l c) x up = hub c.e₂ c.m x
port (from_l c) x down = arm c.e₁ true x
port (from_l c) x up = hub c.e₁ x c.r
port (loop_l c) x down = hub c.e₂ c.r c.m
port (loop_l c) x up = arm c.e₂ false c.m
port (until_l c) x down = arm c.e₁ false c.l
port (until_l c) x up = arm c.e₂ true c.m
port (call_l q) x d = enter' q d
port (uncall_l q) x d = enter' q (opp d)

unfoldable pub through : Tree → Prog → Port → ℕ → Dir → List ℕ → Store → Answer (Cut × Store)
through τ P (hub e t f) x d cs σ = bind (holds τ σ e) (λ v. ok (leave (cond v t f) d cs, σ))
through τ P (arm e w y) x d cs σ = bind (holds τ σ e) (λ v. must (same v w) (leave y d cs, σ))
through τ P (assign' o t e) x d cs σ = bind (assigned τ o t e d σ) (λ σ'. ok (leave x d cs, σ'))
through τ P pass' x d cs σ = ok (leave x d cs, σ)
through τ P (enter' q d') x d cs σ = cond (ltb (length cs) 64) (ok (leave (gate_l P q d') d' (x ∷ cs), σ)) (no too_deep)
through τ P return' x d [] σ = no at_end
through τ P return' x d (c ∷ cs) σ = ok (leave c (resume (P.at c) d) cs, σ)
through τ P never' x d cs σ = no at_end

unfoldable pub cstep : Tree → Prog → Cut → Store → Answer (Cut × Store)
cstep τ P s σ = through τ P (port (P.at (met s.g s.d)) (met s.g s.d) s.d) (met s.g s.d) s.d s.cs σ

-- What an accepted program gives, record by record.
pub record Span (P : Prog) (c : Con) : Type 0 where
  pub pos : 0 < c.l
  pub l<m : c.l < c.m
  pub m<r : c.m < c.r
  pub in_l : onto (P.at (suc c.l)) (suc c.l) ≡ suc c.l  -- no branch is empty
  pub in_m : onto (P.at (suc c.m)) (suc c.m) ≡ suc c.m
  pub near : (q x : ℕ) → c.l ≤ x → x ≤ c.r → P.first q ≤ x → x ≤ P.last q → (P.first q < c.l) × (c.r < P.last q)

-- A construct c, its three records and the frames of its two blocks.
pub record ConOk (P : Prog) (c : Con) (ρl ρm ρr : Rec) (f g : Frame) : Type 0 where
  pub at_l : P.at c.l ≡ ρl
  pub at_m : P.at c.m ≡ ρm
  pub at_r : P.at c.r ≡ ρr
  pub en_l : P.encl c.l ≡ f ∷ P.encl (pred c.l)
  pub en_m' : P.encl (pred c.m) ≡ f ∷ P.encl (pred c.l)
  pub en_m : P.encl c.m ≡ g ∷ P.encl (pred c.l)
  pub en_r' : P.encl (pred c.r) ≡ g ∷ P.encl (pred c.l)
  pub en_r : P.encl c.r ≡ P.encl (pred c.l)
  pub fresh : (i : ℕ) → c.l ≤ i → again i (P.encl (pred c.l)) ≡ false
  pub span : Span P c

abbrev pub CondOk : Prog → Con → Type 0
CondOk P c = ConOk P c (if_l c) (else_l c) (fi_l c) (in_then c.l) (in_else c.l)

abbrev pub LoopOk : Prog → Con → Type 0
LoopOk P c = ConOk P c (from_l c) (loop_l c) (until_l c) (in_do c.l) (in_loop c.l)

-- A SET that the opposite direction undoes: what refusal 8 is for.
abbrev pub Undoes : Tree → ℕ → Target → Expr → Type 0
Undoes τ o t e = (d : Dir) (σ σ' : Store) → Sized τ σ → assigned τ o t e d σ ≡ ok σ' → Sized τ σ' × (assigned τ o t e (opp d) σ' ≡ ok σ)

pub record SimpleOk (P : Prog) (x : ℕ) : Type 0 where
  pub en : P.encl x ≡ P.encl (pred x)
  pub near : (q : ℕ) → P.first q ≤ x → x ≤ P.last q → (P.first q < x) × (x < P.last q)

pub record ProcOk (P : Prog) (q : ℕ) : Type 0 where
  pub at_first : P.at (P.first q) ≡ begin_l q
  pub at_last : P.at (P.last q) ≡ end_l q
  pub en_first : P.encl (P.first q) ≡ []
  pub en_last : P.encl (pred (P.last q)) ≡ []
  pub pos : 0 < P.first q
  pub lt : P.first q < P.last q

abbrev pub Local : Tree → Prog → Rec → ℕ → Type 0
Local τ P (name_l v ls) x = (q : ℕ) → P.first q ≤ x → x ≤ P.last q → ⊥
Local τ P (begin_l q) x = (x ≡ P.first q) × ProcOk P q × ((q' : ℕ) → P.first q' ≤ x → x ≤ P.last q' → q' ≡ q)
Local τ P (end_l q) x = (x ≡ P.last q) × ProcOk P q × ((q' : ℕ) → P.first q' ≤ x → x ≤ P.last q' → q' ≡ q)
Local τ P (set_l o t ε) x = Undoes τ o t ε × SimpleOk P x
Local τ P skip_l x = SimpleOk P x
Local τ P (if_l c) x = (x ≡ c.l) × CondOk P c
Local τ P (else_l c) x = (x ≡ c.m) × CondOk P c
Local τ P (fi_l c) x = (x ≡ c.r) × CondOk P c
Local τ P (from_l c) x = (x ≡ c.l) × LoopOk P c
Local τ P (loop_l c) x = (x ≡ c.m) × LoopOk P c
Local τ P (until_l c) x = (x ≡ c.r) × LoopOk P c
Local τ P (call_l q) x = ProcOk P q × SimpleOk P x
Local τ P (uncall_l q) x = ProcOk P q × SimpleOk P x

pub record Wf (τ : Tree) (P : Prog) : Type 0 where
  pub here : (x : ℕ) → Local τ P (P.at x) x
  pub plain : (x : ℕ) → calls (P.encl x) ≡ 0
  pub main_ok : ProcOk P 0

-- The labels of the open calls stand one in the procedure that the next names.
pub data Good (P : Prog) : ℕ → List ℕ → Type 0 where
  in_main : Good P 0 []
  by_call : {q q' c : ℕ} {cs : List ℕ} → P.at c ≡ call_l q → P.first q' < c → c < P.last q' → Good P q' cs → Good P q (c ∷ cs)
  by_uncall : {q q' c : ℕ} {cs : List ℕ} → P.at c ≡ uncall_l q → P.first q' < c → c < P.last q' → Good P q' cs → Good P q (c ∷ cs)

pub record Sits (P : Prog) (s : Cut) : Type 0 where
  pub q : ℕ
  pub lo : P.first q ≤ s.g
  pub hi : s.g < P.last q
  pub good : Good P q s.cs
  pub few : length s.cs ≤ 64
