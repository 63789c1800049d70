-- Whether a lent place fits (refusal 21), by computing on the file and its table. proofs/FitsLaw.antt joins it to moves' `Fits`.
use Rattle.std.specs.Prelude.{ℕ, zero, suc, ◌+◌, ◌*◌, Bool, true, false, not, cond, List, eqb, ltb, get_or, Option, Some, None}
use Rattle.codes.specs.Codes.{word16}
use Rattle.place.specs.declared.Place.{Place as Held}
use Rattle.place.specs.Slots.{plain_of}
use Rattle.records.specs.Kinds.{calls}
use Rattle.sections.specs.Look.{look_in}
use Rattle.fits.specs.declared.Chain.{Chain}

-- The entry of label x in the section of the table that starts there.
abbrev pub entry_at : List ℕ → ℕ → ℕ → ℕ
entry_at tab start x = look_in tab (start + x)

-- A frame as one number, as the table has it.
abbrev pub number_of : ℕ → ℕ → ℕ
number_of k l = 1 + (1024 * k + l)

-- On the way outward: the innermost open construct, the procedure, the calls passed; none where some frame is not what stands there.
-- "0 true branch, 1 false branch (label of IF); 2 in s1, 3 in s2 (label of FROM)": it must be the innermost one; then what is open before its record.
unfoldable pub construct_of : List ℕ → ℕ → ℕ → Chain → Option Chain
construct_of tab k l c = cond (eqb c.within (number_of k l)) (Some (record { within = entry_at tab 7167 l; proc = c.proc; calls = c.calls })) None

-- The procedure that a CALL or UNCALL names.
abbrev pub callee_of : List ℕ → List ℕ → ℕ → ℕ
callee_of f tab l = word16 f (entry_at tab 0 l + 4)

-- "4 call (label of the CALL or UNCALL)": no construct is open, the record calls this procedure, and it is at most the 64th.
unfoldable pub call_of : List ℕ → List ℕ → ℕ → Chain → Option Chain
call_of f tab l c =
    cond (eqb c.within 0)
    (cond (calls (entry_at tab 1024 l))
    (cond (eqb c.proc (callee_of f tab l))
    (cond (ltb c.calls 64) (Some (record { within = entry_at tab 7168 l; proc = entry_at tab 8192 l; calls = c.calls + 1 })) None) None) None) None

-- One frame outward.
unfoldable pub outward : List ℕ → List ℕ → ℕ → ℕ → ℕ → Chain → Option Chain
outward f tab records k l c = cond (ltb l records) (cond (ltb k 4) (construct_of tab k l c) (call_of f tab l c)) None

-- The frames in the first n slots, from the innermost outward.
unfoldable pub way_out : List ℕ → List ℕ → ℕ → List ℕ → List ℕ → ℕ → Option Chain → Option Chain
way_out f tab records ks ls zero c = c
way_out f tab records ks ls (suc n) None = None
way_out f tab records ks ls (suc n) (Some c) = way_out f tab records ks ls n (outward f tab records (get_or ks n 0) (get_or ls n 0) c)

-- All frames passed: nothing is open, "in main".
unfoldable pub ends : Option Chain → Bool
ends None = false
ends (Some c) = cond (eqb c.within 0) (eqb c.proc 0) false

abbrev pub chained : List ℕ → List ℕ → ℕ → List ℕ → List ℕ → ℕ → Chain → Bool
chained f tab records ks ls n c = ends (way_out f tab records ks ls n (Some c))

-- NAMES and END: no edge goes down from them.
unfoldable pub left : ℕ → Bool
left k = cond (eqb k 1) false (not (eqb k 3))

-- The gap between the records g and g + 1 is the downward edge from x to z.
unfoldable pub gap_is : List ℕ → ℕ → ℕ → ℕ → ℕ → Bool
gap_is tab records x z g =
    cond (ltb (g + 1) records) (cond (eqb (entry_at tab 6145 g) x) (cond (eqb (entry_at tab 5120 g) z) (left (entry_at tab 1024 g)) false) false) false

abbrev pub start_of : List ℕ → ℕ → Chain
start_of tab g = record { within = entry_at tab 7168 g; proc = entry_at tab 8192 g; calls = 0 }

unfoldable pub gap_fits : List ℕ → List ℕ → ℕ → Held → ℕ → ℕ → ℕ → Bool
gap_fits f tab records h x z g = cond (gap_is tab records x z g) (chained f tab records h.kinds h.labels h.count (start_of tab g)) false

-- The downward edge from x to z is the gap after x, or the one after the ELSE or LOOP of x's construct.
unfoldable pub edge_fits : List ℕ → List ℕ → ℕ → Held → ℕ → ℕ → Bool
edge_fits f tab records h x z = cond (gap_fits f tab records h x z x) true (gap_fits f tab records h x z (entry_at tab 3072 x))

-- "Upward edges are these reversed."
unfoldable pub fits_in : List ℕ → List ℕ → ℕ → Held → Bool
fits_in f tab records h =
    cond (plain_of h) (cond (eqb h.direction 0) (edge_fits f tab records h h.a h.b) (edge_fits f tab records h h.b h.a)) false
