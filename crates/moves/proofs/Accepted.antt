-- An accepted file's program: each of its records is formed, its numbers are there, its SETs are free of their own names.
use Prim.Native.Nat.{ℕ, suc, ◌<◌}
use mathlib.Core.Path.{◌≡◌, refl}
use mathlib.Core.Bool.{Bool, true, false, not, ◌&&◌}
use mathlib.Core.List.{List, [], ◌∷◌, ◌++◌}
use lib.ListN.{length}
use lib.Dec.{ltb}
use native.Mathlib.Omega.{arith}
use borrow.Author.Tests.{ltb-true}
use Rattle.expr.specs.Tree.{known}
use Rattle.records.specs.Records.{Record, end, else, fi, loop, until, Formed, FineFrom, there_target, own_target}
use Rattle.records.specs.Reading.{free}
use Rattle.order.specs.Trees.{Stmt, set_s, skip_s, call_s, uncall_s, if_s, from_s, Block, one, ◌then◌, Tree, procedures, records_s, records_b, records_p, records_of}
use Rattle.program.specs.Says.{All, there_in, Accepts}
use Rattle.moves.proofs.Cuts.{Undoes, Wf}
use Rattle.moves.proofs.Rows.{prog}
use Rattle.moves.proofs.Locals.{FineS, FineB}
use Rattle.moves.proofs.Whole.{FineP, fine_wf}
use Rattle.expr.proofs.Layer.{and_true}
use Rattle.moves.proofs.Assign.{set_undoes}

abbrev Good : Tree → Record → Type 0
Good τ r = Formed r × (there_in τ r ≡ true) × (free r ≡ true)

abbrev Every : Tree → List Record → Type 0
Every τ [] = Unit {0}
Every τ (r ∷ rs) = Good τ r × Every τ rs

every : (τ : Tree) (rs : List Record) (k b : ℕ) → FineFrom k b rs → All (there_in τ) rs → All free rs → Every τ rs
unfolding FineFrom
every τ [] k b f n o = tt
every τ (r ∷ rs) k b f n o =
    ((f.0, n 0 (omega arith), o 0 (omega arith)), every τ rs _ _ f.1.1 (λ j h. n (suc j) (omega arith)) (λ j h. o (suc j) (omega arith)))

module _ (τ : Tree) where
  left : (R S : List Record) → Every τ (R ++ S) → Every τ R
  left [] S h = tt
  left (r ∷ R) S h = (h.0, left R S h.1)

  right : (R S : List Record) → Every τ (R ++ S) → Every τ S
  right [] S h = h
  right (r ∷ R) S h = right R S h.1

  not-true : (b : Bool) → not b ≡ true → b ≡ false
  not-true true e = absurd (let z : ◌≡◌ {A = ℕ} 0 1 = cc in let y : ⊥ = omega arith in y)
  not-true false e = refl

  abbrev There : ℕ → Type 0
  There q = q < length (procedures τ)

  called : (q : ℕ) → (ltb 0 q && ltb q (length (procedures τ))) ≡ true → There q
  called q h = ltb-true q (length (procedures τ)) (and_true (ltb 0 q) (ltb q (length (procedures τ))) h).1

  mutual
    unfolding records_s Formed

    fine_s : (s : Stmt) → Every τ (records_s s) → FineS s There (Undoes τ)
    fine_s (set_s o x e) h =
        let t = and_true (there_target τ.scalars (length τ.lengths) x) (known τ.scalars (length τ.lengths) e) h.0.1 in
        set_undoes τ o x e h.0.0.1.1.0 t.0 t.1 (not-true (own_target x e) h.0.2)
    fine_s skip_s h = tt
    fine_s (call_s q) h = called q h.0.1
    fine_s (uncall_s q) h = called q h.0.1
    fine_s (if_s e s t e') h =
        let k = h.1 in
        (fine_b s (left (records_b s) (else ∷ (records_b t ++ (fi e' ∷ []))) k), fine_b t (left (records_b t) (fi e' ∷ []) (right (records_b s) (else ∷ (records_b t ++ (fi e' ∷ []))) k).1))
    fine_s (from_s e s t e') h =
        let k = h.1 in
        (fine_b s (left (records_b s) (loop ∷ (records_b t ++ (until e' ∷ []))) k), fine_b t (left (records_b t) (until e' ∷ []) (right (records_b s) (loop ∷ (records_b t ++ (until e' ∷ []))) k).1))

    fine_b : (b : Block) → Every τ (records_b b) → FineB b There (Undoes τ)
    fine_b (one s) h = fine_s s h
    fine_b (◌then◌ s b) h = (fine_s s (left (records_s s) (records_b b) h), fine_b b (right (records_s s) (records_b b) h))

  fine_p : (bs : List Block) → Every τ (records_p bs) → FineP τ (prog τ) bs There
  unfolding records_p
  fine_p [] h = tt
  fine_p (b ∷ bs) h = let k = h.1 in (fine_b b (left (records_b b) (end ∷ records_p bs) k), fine_p bs (right (records_b b) (end ∷ records_p bs) k).1)

pub accepted_wf : {f : List ℕ} {τ : Tree} → Accepts f τ → Wf τ (prog τ)
unfolding records_of
accepted_wf {f} {τ} a = fine_wf τ (fine_p τ (procedures τ) (every τ (records_of τ) 0 0 a.rows.fine a.numbers a.owns).1)
