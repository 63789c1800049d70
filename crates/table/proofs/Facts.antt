-- What the table's law asks of an accepted program: its records by label, its procedures in order, its sizes.
use Prim.Native.Nat.{ℕ, zero, suc, ◌+◌, ◌≤◌, ◌<◌}
use mathlib.Core.Path.{◌≡◌, refl, ap, sym, ◌∙◌}
use mathlib.Core.List.{List, [], ◌∷◌}
use lib.ListN.{length, get_or-eq_default}
use native.Mathlib.Omega.{arith}
use Rattle.records.specs.Records.{Record, names, begin, end, assign, if, else, fi, from, loop, until, call, uncall, skip, kind, InSize, FineFrom, begins, is_begin}
use Rattle.order.specs.Trees.{Stmt, set_s, skip_s, call_s, uncall_s, if_s, from_s, Block, one, ◌then◌, Tree, procedures, records_of}
use Rattle.program.specs.Says.{Accepts}
use Rattle.program.proofs.CheckSays.{begins_tree}
use Rattle.moves.proofs.Sizes.{size_s, size_b}
use Rattle.moves.specs.Edges.{Frame, in_then, in_else, in_do, in_loop}
use Rattle.moves.proofs.Linked.{Prog, forget}
use Rattle.moves.proofs.Cuts.{ProcOk, Wf}
use Rattle.moves.proofs.Rows.{begin_from, end_from, Row, Each, each_append, each_around, each_get_d, rows_s, rows_b, rows_p, rows_of, prog}
use Rattle.moves.proofs.Whole.{proc_there}
use Rattle.moves.proofs.Links.{at_is}
use Rattle.moves.proofs.Accepted.{accepted_wf}

-- A program of n records and p procedures.
pub record Facts (t : Tree) (P : Prog) (n p : ℕ) : Type 0 where
  pub wf : Wf t P
  pub few : n ≤ 1024
  pub few_procs : p ≤ 64
  pub beyond : (x : ℕ) → n ≤ x → kind (forget (P.at x)) ≡ 1
  pub top : kind (forget (P.at 0)) ≡ 1
  -- NAMES, BEGIN and END stand in no construct
  pub quiet : (x : ℕ) → kind (forget (P.at x)) < 4 → P.encl x ≡ []
  pub sorted : (a b : ℕ) → a < b → b < p → P.last a < P.first b
  pub none : (q : ℕ) → p ≤ q → P.last q < P.first q
  pub proc : (q : ℕ) → q < p → ProcOk P q

-- ---- Rows of NAMES, BEGIN and END.
abbrev Quiet : Row → Type 0
Quiet ρ = kind (forget ρ.rec) < 4 → ρ.after ≡ []

mutual
  unfolding rows_s kind

  quiet_s : (s : Stmt) (F : List Frame) (n : ℕ) → Each Quiet (rows_s s F n)
  quiet_s (set_s o t e) F n = (λ h. absurd (omega arith), tt)
  quiet_s skip_s F n = (λ h. absurd (omega arith), tt)
  quiet_s (call_s q) F n = (λ h. absurd (omega arith), tt)
  quiet_s (uncall_s q) F n = (λ h. absurd (omega arith), tt)
  quiet_s (if_s e s t e') F n =
      each_around Quiet _ _ _ _ _ (λ h. absurd (omega arith)) (quiet_b s (in_then n ∷ F) _) (λ h. absurd (omega arith)) (quiet_b t (in_else n ∷ F) _) (λ h. absurd (omega arith))
  quiet_s (from_s e s t e') F n =
      each_around Quiet _ _ _ _ _ (λ h. absurd (omega arith)) (quiet_b s (in_do n ∷ F) _) (λ h. absurd (omega arith)) (quiet_b t (in_loop n ∷ F) _) (λ h. absurd (omega arith))

  quiet_b : (b : Block) (F : List Frame) (n : ℕ) → Each Quiet (rows_b b F n)
  quiet_b (one s) F n = quiet_s s F n
  quiet_b (◌then◌ s b) F n = each_append Quiet (rows_s s F n) _ (quiet_s s F n) (quiet_b b F (n + size_s s))

quiet_p : (bs : List Block) (q n : ℕ) → Each Quiet (rows_p bs q n)
unfolding rows_p
quiet_p [] q n = tt
quiet_p (b ∷ bs) q n = (λ h. refl, each_append Quiet (rows_b b [] (suc n)) _ (quiet_b b [] (suc n)) (λ h. refl, quiet_p bs (suc q) (suc (suc n + size_b b))))

quiet_of : (t : Tree) (x : ℕ) → kind (forget ((prog t).at x)) < 4 → (prog t).encl x ≡ []
unfolding prog rows_of
quiet_of t x h = each_get_d Quiet (rows_of t) x (λ h. refl) (λ h. refl, quiet_p (procedures t) 0 1) h

-- ---- The procedures stand in order.
begin_ge : (bs : List Block) (n k : ℕ) → k < length bs → n ≤ begin_from bs n k
unfolding begin_from
begin_ge [] n k h = absurd (omega arith)
begin_ge (b ∷ bs) n zero h = omega arith
begin_ge (b ∷ bs) n (suc k) h = let i = begin_ge bs (suc (suc n + size_b b)) k (omega arith) in omega arith

in_order : (bs : List Block) (n a b : ℕ) → a < b → b < length bs → end_from bs n a < begin_from bs n b
unfolding begin_from end_from
in_order [] n a b h k = absurd (omega arith)
in_order (c ∷ bs) n a zero h k = absurd (omega arith)
in_order (c ∷ bs) n zero (suc b) h k = let i = begin_ge bs (suc (suc n + size_b c)) b (omega arith) in omega arith
in_order (c ∷ bs) n (suc a) (suc b) h k = in_order bs (suc (suc n + size_b c)) a b (omega arith) (omega arith)

no_more : (bs : List Block) (n q : ℕ) → length bs ≤ q → end_from bs n q < begin_from bs n q
unfolding begin_from end_from
no_more [] n q h = omega arith
no_more (b ∷ bs) n zero h = absurd (omega arith)
no_more (b ∷ bs) n (suc q) h = no_more bs (suc (suc n + size_b b)) q (omega arith)

-- ---- The sizes.
one_more : (k b : ℕ) (r : Record) → InSize k b r → b ≤ 64 → b + is_begin (kind r) ≤ 64
unfolding kind
one_more k b (names v ls) h z = omega arith
one_more k b begin h z = omega (arith, h.procedures refl)
one_more k b end h z = omega arith
one_more k b (assign o t e) h z = omega arith
one_more k b (if e) h z = omega arith
one_more k b else h z = omega arith
one_more k b (fi e) h z = omega arith
one_more k b (from e) h z = omega arith
one_more k b loop h z = omega arith
one_more k b (until e) h z = omega arith
one_more k b (call q) h z = omega arith
one_more k b (uncall q) h z = omega arith
one_more k b skip h z = omega arith

sizes : (k b : ℕ) (rs : List Record) → k ≤ 1024 → b ≤ 64 → FineFrom k b rs → (k + length rs ≤ 1024) × (b + begins rs ≤ 64)
unfolding FineFrom begins
sizes k b [] hk hb F = (omega arith, omega arith)
sizes k b (r ∷ rs) hk hb F =
    let s = sizes (suc k) (b + is_begin (kind r)) rs F.1.0.records (one_more k b r F.1.0 hb) F.1.1 in
    (omega (arith, s.0), omega (arith, s.1))

pub facts : (f : List ℕ) (t : Tree) → Accepts f t → Facts t (prog t) (length (records_of t)) (length (procedures t))
unfolding kind prog rows_of
facts f t A =
    let s = sizes 0 0 (records_of t) (omega arith) (omega arith) A.rows.fine in
    record {
      wf = accepted_wf A;
      few = omega (arith, s.0);
      few_procs = omega (arith, s.1, begins_tree t);
      beyond = λ x h. ap kind (sym (at_is t x) ∙ get_or-eq_default (records_of t) (names 0 []) {n = x} h);
      top = refl;
      quiet = quiet_of t;
      sorted = λ a b h k. in_order (procedures t) 1 a b h k;
      none = λ q h. no_more (procedures t) 1 q h;
      proc = proc_there t;
    }
