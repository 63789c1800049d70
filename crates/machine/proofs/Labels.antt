-- What the table and the bytes of an accepted file say of a label inside a procedure.
use Prim.Native.Nat.{ℕ, suc, ◌+◌, ◌^◌, ◌≤◌, ◌<◌, pred}
use mathlib.Core.Path.{◌≡◌, ap, ◌∙◌, subst}
use mathlib.Core.List.{List, ◌++◌, append_assoc}
use lib.ListN.{length, get_or, drop, length-append, length-drop}
use lib.Seq.{drop-append-le}
use native.Mathlib.Omega.{arith}
use borrow.Author.Tests.{lt-ltb}
use Rattle.place.specs.Slots.{dir_number}
use Rattle.records.specs.Records.{Record, skip, kind, body, encode_record, bytes_of}
use Rattle.order.specs.Trees.{Tree, records_of}
use Rattle.program.specs.Says.{Accepts}
use Rattle.records.specs.Walk.{offsets}
use Rattle.records.proofs.Offsets.{record_at_lem, word_is, short_is, size_of}
use Rattle.records.proofs.Bytes.{front_rest}
use Rattle.records.proofs.Complete.{complete_body}
use Rattle.program.proofs.Passes.{formed_at_lem}
use Rattle.moves.specs.Labels.{at}
use Rattle.moves.specs.Places.{Dir, down, up}
use Rattle.moves.proofs.Linked.{Prog}
use Rattle.moves.proofs.Cuts.{gap, leave, Sits}
use Rattle.moves.proofs.Rows.{prog}
use Rattle.moves.proofs.Whole.{there}
use Rattle.moves.proofs.Links.{at_skip}
use Rattle.moves.proofs.Gaps.{tip}
use Rattle.moves.proofs.Accepted.{accepted_wf}
use Rattle.table.proofs.Facts.{facts}
use Rattle.table.proofs.Tabled.{Tabled}
use Rattle.ways.specs.Looks.{look_in, along_of}
use Rattle.machine.proofs.Sets.{Stands}

module _ {f : List ℕ} {t : Tree} (A : Accepts f t) where
  abbrev P : Prog
  P = prog t

  abbrev count : ℕ
  count = length (records_of t)

  pub small : count ≤ 1024
  small = (facts f t A).few

  -- a label inside a procedure is a record's
  pub inside : (q x : ℕ) → P.first q ≤ x → x ≤ P.last q → x < count
  inside = there t (accepted_wf A)

  -- bytes that begin with the file read like it at its records, whatever stands behind
  module _ (zs bytes : List ℕ) (begun : bytes ≡ f ++ zs) (short : length bytes < 2 ^ 16) where
    behind : (o : ℕ) (x y : List ℕ) → 0 < length x → drop o f ≡ x ++ y → drop o bytes ≡ x ++ (y ++ zs)
    behind o x y n D =
        let h : o ≤ length f = omega (arith, length-drop o f, length-append x y, ap length D) in
        ap (drop o) begun ∙ (drop-append-le o f zs h ∙ (ap (λ (l : List ℕ). l ++ zs) D ∙ append_assoc x y zs))

    pub read_at : (x : ℕ) → x < count → Stands (kind (at t x)) bytes (get_or (offsets f) x 0) (at t x)
    unfolding encode_record
    read_at x h =
        let s : length f < 2 ^ 16 = omega (arith, A.rows.short) in
        let r = get_or (records_of t) x skip in
        let o = get_or (offsets f) x 0 in
        let y = bytes_of (drop (suc x) (records_of t)) in
        let R = record_at_lem f (records_of t) s A.rows.bytes x h in
        let D = behind o (encode_record r) y (omega arith) R in
        let e : r ≡ at t x = at_skip t x h in
        let W = word_is bytes o r _ (short_is bytes short o r _ D) D ∙ size_of r in
        let c = complete_body bytes o _ r (formed_at_lem (records_of t) 0 0 x A.rows.fine h) (body_at o r _ D) W in
        let n : o + length (encode_record r) ≤ length f = omega (arith, length-drop o f, length-append (encode_record r) y, ap length R) in
        subst (λ r. Stands (kind r) bytes o r) e
        (record { is = c.1; formed = c.0; low = omega (arith, A.rows.short); before = omega (arith, A.rows.short, size_of r) })
      where
        body_at : (o : ℕ) (r : Record) (y : List ℕ) → drop o bytes ≡ encode_record r ++ y → drop (o + 4) bytes ≡ body r ++ y
        body_at o r y D = front_rest bytes o 4 _ D

  module _ {tab : List ℕ} (T : Tabled t f tab) where
    pub near : (n x : ℕ) → n ≤ 8192 → x < count → look_in tab (n + x) ≡ get_or tab (n + x) 0
    unfolding look_in
    near n x k h = rw (lt-ltb (n + x) 9344 (omega (arith, small)))

    pub offset_is : (x : ℕ) → x < count → look_in tab x ≡ get_or (offsets f) x 0
    unfolding look_in
    offset_is x h = rw (lt-ltb x 9344 (omega (arith, small))) (T.offset x h)

    pub along_is : (y : ℕ) (d : Dir) (cs : List ℕ) → Sits P (leave y d cs) → 0 < y → along_of tab (dir_number d) y ≡ tip P (gap y d) d
    unfolding along_of
    along_is y down cs F h =
        let a : P.first F.q ≤ y = F.lo in
        let m = inside F.q (suc y) (omega arith) F.hi in
        near 5120 y (omega arith) (omega arith) ∙ T.downs y m
    along_is y up cs F h =
        let a : P.first F.q ≤ pred y = F.lo in
        let b : pred y < P.last F.q = F.hi in
        let m = inside F.q y (omega arith) (omega arith) in
        near 6144 y (omega arith) m ∙ T.ups y h m
