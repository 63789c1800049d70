-- Where a step arrives, the place fits, the store has its size, and the opposite step arrives where it came from. The two starts.
use mathlib.Core.Path.{◌≡◌, refl, ap, ap₂, sym, ◌∙◌, subst, subst⁻¹}
use mathlib.Core.List.{[]}
use native.Mathlib.Omega.{arith}
use Rattle.order.specs.Trees.{Tree}
use Rattle.moves.specs.Places.{Dir, down, up, Place, turn, Fits}
use Rattle.moves.specs.Stores.{Answer, ok, no, bind, Store, Sized, at_end}
use Rattle.moves.specs.Step.{step, step_back, start}
use Rattle.moves.proofs.Linked.{Prog, gate_l}
use Rattle.moves.proofs.Cuts.{Cut, turned, leave, through, cstep, Wf, in_main, Sits}
use Rattle.moves.proofs.Loop.{met_gap, opp_opp, gate_pos, gate_back, fit_gate, Undone, undone}
use Rattle.moves.proofs.Rows.{prog}
use Rattle.moves.proofs.View.{view, seen, enter_is}
use Rattle.moves.proofs.Sees.{sees}
use Rattle.moves.proofs.Match.{Placed, placed_fits, fits_placed}

turn_view : (P : Prog) (s : Cut) → turn (view P s) ≡ view P (turned s)
turn_view P s = go' s.d
  where
    go' : (d : Dir) → turn (view P (record { g = s.g; d = d; cs = s.cs })) ≡ view P (turned (record { g = s.g; d = d; cs = s.cs }))
    go' down = refl
    go' up = refl

turned_sits : (P : Prog) (s : Cut) → Sits P s → Sits P (turned s)
turned_sits P s F = record { q = F.q; lo = F.lo; hi = F.hi; good = F.good; few = F.few }

pub turn_turn : (p : Place) → turn (turn p) ≡ p
turn_turn p = rw (opp_opp p.d)

module _ (τ : Tree) (w : Wf τ (prog τ)) where
  abbrev P : Prog
  P = prog τ

  pub turn_fits : (p : Place) → Fits τ p → Fits τ (turn p)
  turn_fits p f =
      let k = fits_placed τ w p f in
      placed_fits τ w (turn p) (record { cut = turned k.cut; sits = turned_sits P k.cut k.sits; is = ap turn k.is ∙ turn_view P k.cut })

  abbrev Outcome : Place → Store → Answer (Place × Store) → Type 0
  Outcome p σ (ok t) = Fits τ t.0 × Sized τ t.1 × (step τ (turn t.0) t.1 ≡ ok (turn p, σ))
  Outcome p σ (no n) = Unit {0}

  arrives : (p : Place) → Placed τ p → (σ : Store) → Sized τ σ → Outcome p σ (step τ p σ)
  unfolding seen
  arrives p f σ so = subst⁻¹ (λ k. Outcome k σ (step τ k σ)) f.is (rw (sees τ w f.cut f.sits σ) (go' (cstep τ P f.cut σ) (undone τ P w f.cut f.sits σ so)))
    where
      s : Cut
      s = f.cut

      go' : (r : Answer (Cut × Store)) → Undone τ P s σ r → Outcome (view P s) σ (seen P r)
      go' (ok t) (a, c, b) = (
        placed_fits τ w _ (record { cut = t.0; sits = a; is = refl }),
        c,
        ap (λ k. step τ k t.1) (turn_view P t.0)
            ∙ (sees τ w (turned t.0) (turned_sits P t.0 a) t.1 ∙ (ap (seen P) b ∙ ap (λ k. ok (k, σ)) (sym (turn_view P s)))),
      )
      go' (no n) u = tt

  pub undo : (p : Place) → Fits τ p → (σ : Store) → Sized τ σ → (p' : Place) (σ' : Store) → step τ p σ ≡ ok (p', σ')
      → Fits τ p' × Sized τ σ' × (step τ (turn p') σ' ≡ ok (turn p, σ))
  undo p f σ so p' σ' e = subst (Outcome p σ) e (arrives p (fits_placed τ w p f) σ so)

  -- Back undoes forward.
  pub back_undoes : (p : Place) → Fits τ p → (σ : Store) → Sized τ σ → (p' : Place) (σ' : Store) → step τ p σ ≡ ok (p', σ')
      → Fits τ p' × Sized τ σ' × (step_back τ p' σ' ≡ ok (p, σ))
  unfolding step_back bind
  back_undoes p f σ so p' σ' e = let u = undo p f σ so p' σ' e in (u.0, u.1, rw (u.2, turn_turn p))

  -- A step back that arrives is a step forward from the place turned round.
  turned_step : (p : Place) (σ : Store) (p' : Place) (σ' : Store) → step_back τ p σ ≡ ok (p', σ') → step τ (turn p) σ ≡ ok (turn p', σ')
  unfolding step_back bind
  turned_step p σ p' σ' e = go' (step τ (turn p) σ) e
    where
      go' : (r : Answer (Place × Store)) → bind {B = Place × Store} r (λ s. ok (turn s.0, s.1)) ≡ ok (p', σ') → r ≡ ok (turn p', σ')
      go' (ok t) h =
          let k : ◌≡◌ {A = Place × Store} (turn t.0, t.1) (p', σ') = cc in
          ap₂ (λ p σ. ok (p, σ)) (sym (turn_turn t.0) ∙ ap (λ s. turn s.0) k) (ap (λ s. s.1) k)
      go' (no n) h = cc

  -- Forward undoes back.
  pub forward_undoes : (p : Place) → Fits τ p → (σ : Store) → Sized τ σ → (p' : Place) (σ' : Store) → step_back τ p σ ≡ ok (p', σ')
      → Fits τ p' × Sized τ σ' × (step τ p' σ' ≡ ok (p, σ))
  forward_undoes p f σ so p' σ' e =
      let u = undo (turn p) (turn_fits p f) σ so (turn p') σ' (turned_step p σ p' σ' e) in (
        subst (Fits τ) (turn_turn p') (turn_fits (turn p') u.0),
        u.1,
        ap (λ k. step τ k σ') (sym (turn_turn p')) ∙ (u.2 ∙ ap (λ k. ok (k, σ)) (turn_turn p)),
      )

  -- The two starts fit, and going back from them is refused as the end.
  abbrev start_cut : Dir → Cut
  start_cut d = leave (gate_l P 0 d) d []

  start_sits : (d : Dir) → Sits P (start_cut d)
  start_sits d = fit_gate τ P 0 w.main_ok [] in_main (omega arith) d

  start_is : (d : Dir) → start τ d ≡ view P (start_cut d)
  start_is d = enter_is τ w 0 d w.main_ok [] (start_sits d)

  pub start_fits : (d : Dir) → Fits τ (start τ d)
  start_fits d = placed_fits τ w _ (record { cut = start_cut d; sits = start_sits d; is = start_is d })

  pub start_refused : (d : Dir) (σ : Store) → step_back τ (start τ d) σ ≡ no at_end
  unfolding step_back bind seen cstep through
  start_refused d σ =
      rw (
        start_is d,
        turn_view P (start_cut d),
        sees τ w (turned (start_cut d)) (turned_sits P _ (start_sits d)) σ,
        met_gap (gate_l P 0 d) d (gate_pos τ P 0 w.main_ok d),
        gate_back τ P 0 w.main_ok d,
      )
