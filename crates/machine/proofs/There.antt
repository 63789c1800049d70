-- The labels that a place of an accepted program shows are those of records: the one that it meets, and its innermost frame's.
use Prim.Native.Nat.{ℕ, ◌≤◌, ◌<◌}
use mathlib.Core.Path.{sym, subst}
use mathlib.Core.List.{List, ◌++◌}
use lib.ListN.{length}
use native.Mathlib.Omega.{arith}
use Rattle.place.specs.Places.{Dir, down, up}
use Rattle.order.specs.Trees.{Tree, records_of}
use Rattle.program.specs.Says.{Accepts}
use Rattle.moves.proofs.Linked.{Con, Rec, name_l, begin_l, end_l, set_l, skip_l, if_l, else_l, fi_l, from_l, loop_l, until_l, call_l, uncall_l, Prog, side}
use Rattle.moves.proofs.Cuts.{Cut, met, Span, Local, Good, in_main, by_call, by_uncall, Sits}
use Rattle.moves.proofs.Loop.{lo_met, hi_met}
use Rattle.moves.proofs.Rows.{prog}
use Rattle.moves.proofs.Gaps.{tip}
use Rattle.moves.proofs.View.{stack}
use Rattle.moves.proofs.Accepted.{accepted_wf}
use Rattle.fits.proofs.Nest.{Nest, bare, nested, nest}
use Rattle.machine.proofs.Labels.{inside}
use Rattle.machine.proofs.Landing.{top_label}

module _ {f : List ℕ} {t : Tree} (A : Accepts f t) where
  abbrev P : Prog
  P = prog t

  abbrev There : ℕ → Type 0
  There x = x < length (records_of t)

  module _ (q x : ℕ) (lo : P.first q ≤ x) (hi : x ≤ P.last q) where
    here : There x
    here = inside A q x lo hi

    -- the ends of a construct that x is a part of
    ends : (c : Con) → Span P c → c.l ≤ x → x ≤ c.r → There c.l × There c.r
    ends c s a b = let n = s.near q x a b lo hi in (inside A q c.l (omega arith) (omega (arith, s.l<m, s.m<r)), inside A q c.r (omega (arith, s.l<m, s.m<r)) (omega arith))

    shown : (ρ : Rec) → Local t P ρ x → (d : Dir) → There (side ρ x d)
    shown (name_l v ls) l d = absurd (l q lo hi)
    shown (begin_l p) l down = here
    shown (begin_l p) l up = here
    shown (end_l p) l down = here
    shown (end_l p) l up = here
    shown (set_l o u ε) l down = here
    shown (set_l o u ε) l up = here
    shown skip_l l down = here
    shown skip_l l up = here
    shown (if_l c) l down = here
    shown (if_l c) l up = here
    shown (else_l c) (e, k) down = let s = k.span in (ends c s (omega (arith, s.l<m)) (omega (arith, s.m<r))).1
    shown (else_l c) (e, k) up = let s = k.span in (ends c s (omega (arith, s.l<m)) (omega (arith, s.m<r))).0
    shown (fi_l c) l down = here
    shown (fi_l c) l up = here
    shown (from_l c) l down = here
    shown (from_l c) l up = here
    shown (loop_l c) (e, k) down = let s = k.span in (ends c s (omega (arith, s.l<m)) (omega (arith, s.m<r))).1
    shown (loop_l c) (e, k) up = let s = k.span in (ends c s (omega (arith, s.l<m)) (omega (arith, s.m<r))).1
    shown (until_l c) (e, k) down = let s = k.span in (ends c s (omega (arith, s.l<m, s.m<r)) (omega arith)).0
    shown (until_l c) l up = here
    shown (call_l p) l down = here
    shown (call_l p) l up = here
    shown (uncall_l p) l down = here
    shown (uncall_l p) l up = here

  pub tip_there : (s : Cut) → Sits P s → There (tip P s.g s.d)
  tip_there s F = shown F.q (met s.g s.d) (lo_met t P s.g s.d s.cs F) (hi_met t P s.g s.d s.cs F) (P.at (met s.g s.d)) ((accepted_wf A).here (met s.g s.d)) s.d

  -- the innermost call's label; where there is none, 0
  stack_there : (q : ℕ) (cs : List ℕ) → Good P q cs → There 0 → There (top_label (stack P cs))
  stack_there q cs in_main z = z
  stack_there q cs (by_call {q' = q'} {c = c} ac lo hi o) z = inside A q' c (omega arith) (omega arith)
  stack_there q cs (by_uncall {q' = q'} {c = c} ac lo hi o) z = inside A q' c (omega arith) (omega arith)

  pub label_there : (s : Cut) → Sits P s → There (top_label (P.encl s.g ++ stack P s.cs))
  label_there s F = go (nest t P (accepted_wf A) F.q s.g F.lo F.hi)
    where
      at_gap : There s.g
      at_gap = inside A F.q s.g F.lo (omega (arith, F.hi))

      go : Nest P F.q s.g → There (top_label (P.encl s.g ++ stack P s.cs))
      go (bare e) = subst (λ G. There (top_label (G ++ stack P s.cs))) (sym e) (stack_there F.q s.cs F.good (omega (arith, at_gap)))
      go (nested i k p l lo e n) = subst (λ G. There (top_label (G ++ stack P s.cs))) (sym e) (omega (arith, at_gap))
