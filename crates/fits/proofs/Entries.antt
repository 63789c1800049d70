-- What the entries of the table that `fits` reads say of an accepted file's program. Assumes nothing.
--     offset_is, kind_is, open_is, open_before, owner_is, down_is, up_is    the sections
--     callee_is, call_there                                                 the record is a CALL or UNCALL of this procedure
use Prim.Native.Nat.{ℕ, suc, ◌+◌, ◌^◌, ◌≤◌, ◌<◌, pred}
use mathlib.Core.Path.{◌≡◌, refl, ap, sym, ◌∙◌, subst}
use mathlib.Core.Bool.{true}
use mathlib.Core.List.{List, ◌++◌}
use mathlib.Core.Logic.{◌⊎◌, inl, inr}
use lib.ListN.{length, get_or, drop}
use native.Mathlib.Omega.{arith}
use Rattle.codes.specs.Codes.{word16, bytes16}
use Rattle.codes.proofs.Rows.{short_back}
use Rattle.records.specs.Records.{Record, call, uncall, kind, body, encode_record, bytes_of, Formed}
use Rattle.order.specs.Trees.{Tree, records_of}
use Rattle.program.specs.Says.{Accepts}
use Rattle.records.specs.Walk.{offsets}
use Rattle.records.proofs.Bytes.{front_rest}
use Rattle.records.proofs.Offsets.{record_at_lem}
use Rattle.program.proofs.Passes.{formed_at_lem}
use Rattle.moves.specs.Labels.{at}
use Rattle.moves.specs.Places.{down, up}
use Rattle.moves.proofs.Linked.{Rec, name_l, begin_l, end_l, set_l, skip_l, if_l, else_l, fi_l, from_l, loop_l, until_l, call_l, uncall_l, Prog, forget}
use Rattle.moves.proofs.Rows.{prog}
use Rattle.moves.proofs.Whole.{there}
use Rattle.moves.proofs.Links.{at_is, at_skip}
use Rattle.moves.proofs.Gaps.{tip}
use Rattle.moves.proofs.Accepted.{accepted_wf}
use Rattle.moves.proofs.Follow.{clash}
use Rattle.table.proofs.Facts.{facts}
use Rattle.table.proofs.Tabled.{Tabled, open_of}
use Rattle.records.specs.Kinds.{calls}
use Rattle.sections.specs.Look.{look_in}
use borrow.Author.Tests.{lt-ltb}
use Rattle.fits.specs.Fits.{entry_at, callee_of}

-- ---- a record that calls
abbrev pub Calls : Prog → ℕ → ℕ → Type 0
Calls P c q = (P.at c ≡ call_l q) ⊎ (P.at c ≡ uncall_l q)

pub record Calling (P : Prog) (c : ℕ) : Type 0 where
  pub q : ℕ
  pub calls : Calls P c q

calling : (P : Prog) (c : ℕ) (ρ : Rec) → P.at c ≡ ρ → calls (kind (forget ρ)) ≡ true → Calling P c
unfolding kind
calling P c (name_l v ls) e h = clash h refl
calling P c (begin_l q) e h = clash h refl
calling P c (end_l q) e h = clash h refl
calling P c (set_l o t ε) e h = clash h refl
calling P c skip_l e h = clash h refl
calling P c (if_l o) e h = clash h refl
calling P c (else_l o) e h = clash h refl
calling P c (fi_l o) e h = clash h refl
calling P c (from_l o) e h = clash h refl
calling P c (loop_l o) e h = clash h refl
calling P c (until_l o) e h = clash h refl
calling P c (call_l q) e h = record { q = q; calls = inl e }
calling P c (uncall_l q) e h = record { q = q; calls = inr e }

module _ (f : List ℕ) (t : Tree) (tab : List ℕ) (a : Accepts f t) (T : Tabled t f tab) where
  abbrev P : Prog
  P = prog t

  pub small : length (records_of t) ≤ 1024
  small = (facts f t a).few

  entry_at_lem : (start x i : ℕ) → start + x < 9344 → start + x ≡ i → entry_at tab start x ≡ get_or tab i 0
  unfolding look_in
  entry_at_lem start x i h e = rw (lt-ltb (start + x) 9344 h, e)

  module _ (x : ℕ) (h : x < length (records_of t)) where
    pub offset_is : entry_at tab 0 x ≡ get_or (offsets f) x 0
    offset_is = entry_at_lem 0 x x (omega (arith, small)) (omega arith) ∙ T.offset x h

    pub kind_is : entry_at tab 1024 x ≡ kind (at t x)
    kind_is = entry_at_lem 1024 x (1024 + x) (omega (arith, small)) refl ∙ T.kinds x h

    pub middle_at : entry_at tab 3072 x ≡ get_or tab (3072 + x) 0
    middle_at = entry_at_lem 3072 x (3072 + x) (omega (arith, small)) refl

    pub open_is : entry_at tab 7168 x ≡ open_of (P.encl x)
    open_is = entry_at_lem 7168 x (7168 + x) (omega (arith, small)) refl ∙ T.opens x h

    pub open_before : 0 < x → entry_at tab 7167 x ≡ open_of (P.encl (pred x))
    open_before p = entry_at_lem 7167 x (7168 + pred x) (omega (arith, small)) (omega arith) ∙ T.opens (pred x) (omega arith)

  module _ (g : ℕ) (h : suc g < length (records_of t)) where
    pub down_is : entry_at tab 5120 g ≡ tip P g down
    down_is = entry_at_lem 5120 g (5120 + g) (omega (arith, small)) refl ∙ T.downs g h

    pub up_is : entry_at tab 6145 g ≡ tip P g up
    up_is = entry_at_lem 6145 g (6144 + suc g) (omega (arith, small)) (omega arith) ∙ T.ups (suc g) (omega arith) h

  pub owner_is : (q x : ℕ) → P.first q ≤ x → x ≤ P.last q → entry_at tab 8192 x ≡ q
  owner_is q x lo hi = entry_at_lem 8192 x (8192 + x) (omega (arith, small, there t (accepted_wf a) q x lo hi)) refl ∙ T.owners q x lo hi

  module _ (c : ℕ) (h : c < length (records_of t)) where
    reads : (q : ℕ) (r : Record) → at t c ≡ r → body r ≡ bytes16 q → q < 2 ^ 16 → callee_of f tab c ≡ q
    unfolding encode_record
    reads q r e b k =
        let o = get_or (offsets f) c 0 in
        let D : drop o f ≡ encode_record r ++ bytes_of (drop (suc c) (records_of t)) =
        record_at_lem f (records_of t) (omega (arith, a.rows.short)) a.rows.bytes c h ∙ ap (λ (r : Record). encode_record r ++ bytes_of (drop (suc c) (records_of t))) (at_skip t c h ∙ e) in
        let E : drop (o + 4) f ≡ bytes16 q ++ bytes_of (drop (suc c) (records_of t)) =
        front_rest f o 4 _ D ∙ ap (λ (x : List ℕ). x ++ bytes_of (drop (suc c) (records_of t))) b in
        ap (λ (i : ℕ). word16 f (i + 4)) (offset_is c h) ∙ short_back f (o + 4) _ q k E

    formed : (r : Record) → at t c ≡ r → Formed r
    formed r e = subst Formed (at_skip t c h ∙ e) (formed_at_lem (records_of t) 0 0 c a.rows.fine h)

    pub callee_is : (q : ℕ) → Calls P c q → callee_of f tab c ≡ q
    unfolding body Formed
    callee_is q (inl e) = let r = at_is t c ∙ ap forget e in reads q (call q) r refl (formed (call q) r)
    callee_is q (inr e) = let r = at_is t c ∙ ap forget e in reads q (uncall q) r refl (formed (uncall q) r)

    pub call_is : (q : ℕ) → Calls P c q → calls (entry_at tab 1024 c) ≡ true
    unfolding kind
    call_is q (inl e) = ap calls (kind_is c h ∙ ap kind (at_is t c ∙ ap forget e))
    call_is q (inr e) = ap calls (kind_is c h ∙ ap kind (at_is t c ∙ ap forget e))

    pub call_there : calls (entry_at tab 1024 c) ≡ true → Calling P c
    call_there k = calling P c (P.at c) refl (ap calls (ap kind (sym (at_is t c)) ∙ sym (kind_is c h)) ∙ k)
