-- The tests of a session file, taken apart and put together. Assumes nothing.
--     head_right, head_is    what a head that is as it must be says, and back
--     store_right, store_is  the same of the STORE record
--     found_is, all_found    a file that is one is made of both, and of frames of the five kinds, and back
use mathlib.Core.Path.{◌≡◌, refl}
use mathlib.Core.Bool.{Bool, true, false, cond}
use mathlib.Core.List.{List}
use Prim.Native.Nat.{ℕ, ◌+◌, ◌*◌, ◌-◌, ◌%◌, ◌≤◌}
use borrow.Author.Tests.{le-leb, eq-eqb, eqb-true, leb-true}
use lib.ListN.{length, get_or, drop}
use Rattle.codes.specs.Codes.{word16}
use Rattle.session.specs.Reader.{head_ok, kinds_ok, store_ok, malformed, found, place_at, cells_at, reading}
use Rattle.session.specs.Answers.{is_found}

-- both tests passed
pub both : (b x : Bool) → cond b x false ≡ true → (b ≡ true) × (x ≡ true)
both true x e = (refl, e)
both false x e = absurd cc

-- ---- what stands before the frames
pub record HeadRight (s : List ℕ) : Type 0 where
  pub kind : word16 s 2 ≡ 32
  pub direction : get_or s 4 0 ≤ 1
  pub spare : get_or s 5 0 ≡ 0
  pub count : word16 s 10 ≤ 1104
  pub whole : word16 s 0 ≡ 12 + 4 * word16 s 10
  pub room : 16 + 4 * word16 s 10 ≤ length s

pub head_right : (s : List ℕ) → head_ok s ≡ true → HeadRight s
unfolding head_ok
head_right s e =
    let a = both _ _ e in let b = both _ _ a.1 in let c = both _ _ b.1 in let d = both _ _ c.1 in let f = both _ _ d.1 in
    record { kind = eqb-true _ _ a.0; direction = leb-true _ _ b.0; spare = eqb-true _ _ c.0; count = leb-true _ _ d.0; whole = eqb-true _ _ f.0; room = leb-true _ _ f.1 }

pub head_is : (s : List ℕ) → HeadRight s → head_ok s ≡ true
unfolding head_ok
head_is s h = rw (eq-eqb _ _ h.kind, le-leb _ _ h.direction, eq-eqb _ _ h.spare, le-leb _ _ h.count, eq-eqb _ _ h.whole, le-leb _ _ h.room)

-- ---- the STORE record
pub record StoreRight (s : List ℕ) (at : ℕ) : Type 0 where
  pub kind : word16 s (at + 2) ≡ 33
  pub whole : word16 s at ≡ length s - at
  pub cells : word16 s at % 4 ≡ 0

pub store_right : (s : List ℕ) (at : ℕ) → store_ok s at ≡ true → StoreRight s at
unfolding store_ok
store_right s at e = let a = both _ _ e in let b = both _ _ a.1 in record { kind = eqb-true _ _ a.0; whole = eqb-true _ _ b.0; cells = eqb-true _ _ b.1 }

pub store_is : (s : List ℕ) (at : ℕ) → StoreRight s at → store_ok s at ≡ true
unfolding store_ok
store_is s at h = rw (eq-eqb _ _ h.kind, eq-eqb _ _ h.whole, eq-eqb _ _ h.cells)

-- ---- the whole file
pub record Right (s : List ℕ) : Type 0 where
  pub head : HeadRight s
  pub kinds : kinds_ok (word16 s 10) (drop 12 s) ≡ true
  pub store : StoreRight s (12 + 4 * word16 s 10)

pub all_found : (s : List ℕ) → Right s → reading s ≡ found (place_at s) (cells_at s)
unfolding reading
all_found s y = rw (head_is s y.head, y.kinds, store_is s _ y.store)

pub found_is : (s : List ℕ) → true ≡ is_found (reading s) → (reading s ≡ found (place_at s) (cells_at s)) × Right s
unfolding reading
found_is s = go (head_ok s) (kinds_ok (word16 s 10) (drop 12 s)) (store_ok s (12 + 4 * word16 s 10)) refl refl refl
  where
    go : (h k w : Bool) → head_ok s ≡ h → kinds_ok (word16 s 10) (drop 12 s) ≡ k → store_ok s (12 + 4 * word16 s 10) ≡ w
        → true ≡ is_found (cond h (cond k (cond w (found (place_at s) (cells_at s)) malformed) malformed) malformed)
        → (cond h (cond k (cond w (found (place_at s) (cells_at s)) malformed) malformed) malformed ≡ found (place_at s) (cells_at s)) × Right s
    go true true true eh ek ew t = (refl, record { head = head_right s eh; kinds = ek; store = store_right s _ ew })
    go false k w eh ek ew t = absurd cc
    go true false w eh ek ew t = absurd cc
    go true true false eh ek ew t = absurd cc
