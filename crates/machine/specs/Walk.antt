-- A run by its decisions, for any place and any decision. Nothing here has to be believed: proofs/Steps joins it to `run`.
use Rattle.std.specs.Prelude.{ℕ, zero, suc, ◌+◌, List, ◌≡◌, cond, eqb, ◌==◌, count_by, take, Result, Ok, Err}
use Rattle.refusals.specs.declared.Refusal.{Refusal}
use Rattle.place.specs.declared.Place.{Place as Held}
use Rattle.place.specs.Methods.{top_at}
use Rattle.moves.specs.Stores.{Store}
use Rattle.decide.specs.declared.Move.{Move}
use Rattle.decide.specs.declared.Spot.{Spot}
use Rattle.decide.specs.Sets.{reason_by}
use Rattle.decide.specs.Decide.{Seen, Moved, put_in}
use Rattle.ways.specs.Looks.{way_to, label_in, side_in}
use Rattle.decide.specs.Ways.{count_in, Sight, Doing, Ruled}
use Rattle.machine.specs.declared.Ran.{Ran}

-- how many frames of a place are calls
abbrev pub calls_of : Held → ℕ
calls_of q = count_by (λ k. k == 4) (take q.count q.kinds)

-- ---- a step of a place by the table: what it is decided from, and the place after it
abbrev pub spot_of : Held → ℕ → Seen
spot_of h c = record { direction = h.direction; b = h.b; calls = c; count = h.count; kind = top_at h.kinds h.count 9; label = top_at h.labels h.count 0 }

abbrev pub after_of : Held → Moved → Held
after_of h m = record { direction = m.direction; a = m.a; b = m.b; count = m.count; kinds = put_in h.kinds m.slot m.kind; labels = put_in h.labels m.slot m.label }

-- ---- the same by the map: the place taken apart, the way of the record met in the place of its label and the direction
pub record Stand : Type 0 where
  pub way : ℕ
  pub a : ℕ
  pub count : ℕ
  pub kinds : List ℕ
  pub labels : List ℕ

abbrev pub stand_of : Held → Stand
stand_of h = record { way = way_to h.b h.direction; a = h.a; count = h.count; kinds = h.kinds; labels = h.labels }

abbrev pub held_by : Stand → Held
held_by s = record { direction = side_in s.way; a = s.a; b = label_in s.way; count = s.count; kinds = s.kinds; labels = s.labels }

abbrev pub sight_in : Stand → ℕ → Sight
sight_in s c = record { way = s.way; calls = c; count = s.count; kind = top_at s.kinds s.count 9; label = top_at s.labels s.count 0 }

abbrev pub moved_to : Stand → Doing → Stand
moved_to s m = record { way = m.way; a = m.a; count = m.count; kinds = put_in s.kinds m.slot m.kind; labels = put_in s.labels m.slot m.label }

-- where a move led, with these frames
abbrev pub stand_at : Move → List ℕ → List ℕ → Stand
stand_at m ks ls = record { way = m.way; a = m.a; count = count_in m.depth; kinds = ks; labels = ls }

abbrev pub spot_at : Move → Spot
spot_at m = record { way = m.way; depth = m.depth }

abbrev pub placed_at : Move → List ℕ → List ℕ → Held
placed_at m ks ls = held_by (stand_at m ks ls)

abbrev pub told_by : ℕ → Result (Unit {0}) Refusal
told_by n = cond (eqb n 0) (Ok tt) (Err (record { reason = reason_by n; label = 0 }))

pub record Gone : Type 0 where
  pub ran : Ran
  pub store : Store

abbrev pub gone : ℕ → ℕ → Held → Store → Gone
gone r n h σ = record { ran = record { told = told_by r; steps = n; place = h }; store = σ }

-- at most n steps, after `made`
unfoldable pub go_of : (Sight → Store → Ruled) → ℕ → Stand → ℕ → Store → ℕ → Gone
go_of R zero s c σ made = gone 0 made (held_by s) σ
go_of R (suc n) s c σ made =
    cond (eqb (R (sight_in s c) σ).move.reason 0)
    (go_of R n (moved_to s (R (sight_in s c) σ).move) (R (sight_in s c) σ).move.calls (R (sight_in s c) σ).store (made + 1))
    (gone (R (sight_in s c) σ).move.reason made (held_by s) (R (sight_in s c) σ).store)

pub record Goes (g : Gone) (r : Ran) (σ : Store) : Type 0 where
  pub ran : r ≡ g.ran
  pub left : σ ≡ g.store
