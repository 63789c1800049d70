-- The loop of a run, turn by turn: what is left to run is the run's. Assumes nothing.
use mathlib.Core.Path.{◌≡◌, refl, sym, ap, ◌∙◌}
use mathlib.Core.List.{List}
use mathlib.Core.Bool.{Bool, true, false, cond}
use lib.Dec.{eqb}
use Prim.Native.Nat.{ℕ, suc, ◌+◌, ◌-◌, ◌≤◌, ◌<◌}
use native.Mathlib.Omega.{arith}
use Rattle.std.specs.Prelude.{Result, Ok, Err}
use Rattle.refusals.specs.declared.Reason.{Reason}
use Rattle.place.specs.declared.Place.{Place as Held}
use Rattle.moves.specs.Stores.{Store}
use Rattle.decide.specs.declared.Move.{Move}
use Rattle.ways.specs.Looks.{way_to}
use Rattle.decide.specs.Sets.{reason_by}
use Rattle.decide.specs.Decide.{put_in}
use Rattle.decide.specs.Ways.{depth_of, calls_in, count_in, Sight, Doing, Ruled, Rules}
use Rattle.machine.specs.declared.Ran.{Ran}
use Rattle.machine.specs.Walk.{Stand, stand_of, stand_at, placed_at, sight_in, Gone, go_of, Goes}

-- ---- calls and frames in one number
pub parts : (c n : ℕ) → n < 4096 → (calls_in (depth_of c n) ≡ c) × (count_in (depth_of c n) ≡ n)
parts c n h = (omega arith, omega arith)

module _ (R : Sight → Store → Ruled) (n : ℕ) where
  -- before the first turn
  pub go_start : (h : Held) (c w : ℕ) (σ : Store) → h.count ≤ 1104 → w ≡ way_to h.b h.direction
      → go_of R n (stand_of h) c σ 0 ≡ go_of R (n - 0) (stand_at (record { way = w; a = h.a; depth = depth_of c h.count }) h.kinds h.labels) (calls_in (depth_of c h.count)) σ 0
  go_start h c w σ k e =
      let z = parts c h.count (omega arith) in
      let y : n ≡ n - 0 = omega arith in
      λ i. go_of R (y i) (record { way = sym e i; a = h.a; count = sym z.1 i; kinds = h.kinds; labels = h.labels }) (sym z.0 i) σ 0

  -- ---- a turn, by any rule
  module _ (q : Stand) (c : ℕ) (σ₀ : Store) (made : ℕ) (x : Move) (ks ls : List ℕ) (σ : Store)
      (inv : go_of R n q c σ₀ 0 ≡ go_of R (n - made) (stand_at x ks ls) (calls_in x.depth) σ made) where
    goes : (r : Ran) (τ : Store) → go_of R n q c σ₀ 0 ≡ record { ran = r; store = τ } → Goes (go_of R n q c σ₀ 0) r τ
    goes r τ e = record { ran = sym (ap (λ (g : Gone). g.ran) e); left = sym (ap (λ (g : Gone). g.store) e) }

    pub goes_done : n ≡ made → Goes (go_of R n q c σ₀ 0) (record { told = Ok tt; steps = n; place = placed_at x ks ls }) σ
    unfolding go_of
    goes_done e =
        let z : n - made ≡ 0 = omega arith in
        goes (record { told = Ok tt; steps = n; place = placed_at x ks ls }) σ (inv ∙ rw (z, e))

    module _ (m : Result Move Reason) (ks' ls' : List ℕ) (τ : Store) (rules : Rules (R (sight_in (stand_at x ks ls) (calls_in x.depth)) σ) ks ls m ks' ls' τ) (more : made < n) where
      left : n - made ≡ suc (n - (made + 1))
      left = omega arith

      -- what the rule says here
      abbrev D : Doing
      D = (R (sight_in (stand_at x ks ls) (calls_in x.depth)) σ).move

      abbrev To : Move
      To = record { way = D.way; a = D.a; depth = depth_of D.calls D.count }

      -- where it refuses
      module _ (r : Reason) (e : m ≡ Err r) where
        stopped : (eqb D.reason 0 ≡ false) × (r ≡ reason_by D.reason)
        stopped = go (eqb D.reason 0) refl (sym e ∙ rules.does.made)
          where
            go : (b : Bool) → eqb D.reason 0 ≡ b → ◌≡◌ {A = Result Move Reason} (Err r) (cond b (Ok To) (Err (reason_by D.reason))) → (eqb D.reason 0 ≡ false) × (r ≡ reason_by D.reason)
            go true k z = let y : ◌≡◌ {A = ℕ} 0 1 = cc in absurd (omega arith)
            go false k z = (k, let y : r ≡ reason_by D.reason = cc in y)

        -- a refused step writes no slot
        pub goes_refused : Goes (go_of R n q c σ₀ 0) (record { told = Err (record { reason = r; label = 0 }); steps = made; place = placed_at x ks' ls' }) τ
        unfolding go_of
        goes_refused =
            let s = stopped.0 in
            let k : ks' ≡ ks = rules.does.kinds ∙ rw s in
            let l : ls' ≡ ls = rules.does.labels ∙ rw s in
            goes (record { told = Err (record { reason = r; label = 0 }); steps = made; place = placed_at x ks' ls' }) τ
            (inv ∙ rw (left, s, k, l, stopped.1, rules.left))

      -- where it goes on
      module _ (to : Move) (e : m ≡ Ok to) where
        arrived : (eqb D.reason 0 ≡ true) × (to ≡ To)
        arrived = go (eqb D.reason 0) refl (sym e ∙ rules.does.made)
          where
            go : (b : Bool) → eqb D.reason 0 ≡ b → ◌≡◌ {A = Result Move Reason} (Ok to) (cond b (Ok To) (Err (reason_by D.reason))) → (eqb D.reason 0 ≡ true) × (to ≡ To)
            go true k z = (k, let y : to ≡ To = cc in y)
            go false k z = let y : ◌≡◌ {A = ℕ} 0 1 = cc in absurd (omega arith)

        pub goes_on : go_of R n q c σ₀ 0 ≡ go_of R (n - (made + 1)) (stand_at to ks' ls') (calls_in to.depth) τ (made + 1)
        unfolding go_of
        goes_on =
            let a = arrived.0 in
            let k : ks' ≡ put_in ks D.slot D.kind = rules.does.kinds ∙ rw a in
            let l : ls' ≡ put_in ls D.slot D.label = rules.does.labels ∙ rw a in
            let p = parts D.calls D.count rules.does.small in
            inv ∙ rw (left, a, arrived.1, p.0, p.1, k, l, rules.left)
