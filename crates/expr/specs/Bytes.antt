-- What stands at a position of the bytes: the format, and the reader that answers for any bytes.
-- Assumes nothing: these are definitions.
use Rattle.std.specs.Prelude.{ℕ, zero, suc, ◌+◌, ◌-◌, ◌≡◌, List, ◌++◌, Bool, false, ◌&&◌, cond, length, get_or, drop, ltb, leb, eqb, pos}
use Rattle.codes.specs.Codes.{word16}
use Rattle.codes.specs.Numbers.{cell_at}
use Rattle.expr.specs.Tree.{Expr, con, var, read, bin, encode}

-- THE FORMAT: the bytes of e stand in s from at up to n
unfoldable pub Stands : List ℕ → ℕ → Expr → ℕ → Type 0
Stands s at e n = (rest : List ℕ) × (drop at s ≡ encode e ++ rest) × (n ≡ at + length (encode e))

-- what a reader makes of the bytes: a tree and where it ends, in every case, and whether the bytes are that tree's
pub record Got : Type 0 where
  pub ok : Bool
  pub tree : Expr
  pub next : ℕ

abbrev pub nothing : ℕ → Got
nothing at = record { ok = false; tree = con (pos 0); next = at }

abbrev pub got_con : ℕ → List ℕ → ℕ → Got
got_con m s at = record { ok = leb (at + 5) m; tree = con (cell_at s (at + 1)); next = at + 5 }

abbrev pub got_var : ℕ → List ℕ → ℕ → Got
got_var m s at = record { ok = leb (at + 3) m; tree = var (word16 s (at + 1)); next = at + 3 }

abbrev pub got_read : ℕ → Got → Got
got_read a i = record { ok = i.ok; tree = read a i.tree; next = i.next }

abbrev pub got_bin : ℕ → Got → Got → Got
got_bin o l r = record { ok = ltb o 16 && (l.ok && r.ok); tree = bin o l.tree r.tree; next = r.next }

abbrev pub got_if : Bool → Got → Got
got_if b g = record { ok = b && g.ok; tree = g.tree; next = g.next }

-- one layer of a tree before position m, by its first byte, over what `sub` reads further on; a byte over 3 is read as 3, and is not ok
unfoldable pub layer : ℕ → (ℕ → Got) → List ℕ → ℕ → Got
layer m sub s at =
    cond (ltb at m)
    (cond (eqb (get_or s at 0) 0) (got_con m s at)
    (cond (eqb (get_or s at 0) 1) (got_var m s at)
    (cond (eqb (get_or s at 0) 2) (got_read (word16 s (at + 1)) (sub (at + 3)))
    (got_if (eqb (get_or s at 0) 3) (got_bin (get_or s (at + 1) 0) (sub (at + 2)) (sub (sub (at + 2)).next))))))
    (nothing at)

-- before position m, at most d deep
unfoldable pub up_to : ℕ → ℕ → List ℕ → ℕ → Got
up_to m zero s at = nothing at
up_to m (suc d) s at = layer m (up_to m d s) s at

-- in all the bytes, at most d deep
abbrev pub parse : ℕ → List ℕ → ℕ → Got
parse d s at = up_to (length s) d s at

-- with no bound on the depth but that of the bytes left
unfoldable pub within : ℕ → List ℕ → ℕ → Got
within m s at = up_to m (m - at) s at

unfoldable pub whole : List ℕ → ℕ → Got
whole s at = within (length s) s at
