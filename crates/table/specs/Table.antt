-- The table of a file's records, whatever the bytes: one list of 9,344 numbers. Nine sections of 1,024 by label x,
--     0 OFFSET, 1024 KIND, 2048 HEAD, 3072 MIDDLE, 4096 TAIL, 5120 DOWN, 6144 UP, 7168 OPEN, 8192 OWNER,
-- then 9216 FIRST and 9280 LAST, 64 each, by procedure q. proofs/Tabled.antt says what the entries of a checked file are.
use Rattle.std.specs.Prelude.{ℕ, zero, suc, ◌+◌, ◌*◌, ◌%◌, pred, List, [], ◌∷◌, cond, eqb, length, get_or, set, replicate}
use Rattle.records.specs.Walk.{kind_at, offsets_from}
use Rattle.table.specs.declared.kinds.Part.{Part}
use Rattle.table.specs.declared.kinds.Part.TheVariants.{Then, Else, First, Second}

unfoldable pub blank : List ℕ
blank = replicate 9344 0

-- ---- First pass: the records in turn, x and q being the numbers of the record and of its procedure.
-- OFFSET, KIND, OWNER.
unfoldable pub noted : List ℕ → (x q o k : ℕ) → List ℕ
noted T x q o k = set (set (set T x (o % 65536)) (1024 + x) k) (8192 + x) q

-- HEAD, OPEN.
abbrev pub placed : List ℕ → (x h w : ℕ) → List ℕ
placed T x h w = set (set T (2048 + x) h) (7168 + x) w

abbrev pub part_number : Part → ℕ
part_number Then = 0
part_number Else = 1
part_number First = 2
part_number Second = 3

-- The frame of kind k (0 true branch, 1 false branch, 2 in s1, 3 in s2) of the construct whose IF or FROM is h.
abbrev pub frame_no : ℕ → ℕ → ℕ
frame_no k h = 1 + (1024 * k + h)

-- The innermost frame that is open before record x, and the label of its IF or FROM.
abbrev pub before : List ℕ → ℕ → ℕ
before T x = get_or T (7167 + x) 0

abbrev pub opener : List ℕ → ℕ → ℕ
opener T x = (before T x + 1023) % 1024

-- NAMES; BEGIN; END.
unfoldable pub outside : List ℕ → ℕ → List ℕ
outside T x = placed T x 0 0

unfoldable pub begun : List ℕ → (x q : ℕ) → List ℕ
begun T x q = set (outside T x) (9216 + q % 64) x

unfoldable pub ended : List ℕ → (x q : ℕ) → List ℕ
ended T x q = set (outside T x) (9280 + q % 64) x

-- SET, CALL, UNCALL, SKIP.
unfoldable pub inside : List ℕ → ℕ → List ℕ
inside T x = placed T x 0 (before T x)

-- IF, FROM; ELSE, LOOP; FI, UNTIL. At the label of IF or FROM the other two are noted.
unfoldable pub opened : List ℕ → (x k : ℕ) → List ℕ
opened T x k = placed T x x (frame_no k x)

unfoldable pub turned : List ℕ → (x k : ℕ) → List ℕ
turned T x k = set (placed T x (opener T x) (frame_no k (opener T x))) (3072 + opener T x) x

unfoldable pub closed : List ℕ → ℕ → List ℕ
closed T x = set (placed T x (opener T x) (before T (opener T x))) (4096 + opener T x) x

unfoldable pub entered : List ℕ → (x q k : ℕ) → List ℕ
entered T x q k =
    cond (eqb k 1) (outside T x)
    (cond (eqb k 2) (begun T x q)
    (cond (eqb k 3) (ended T x q)
    (cond (eqb k 5) (opened T x 0)
    (cond (eqb k 6) (turned T x 1)
    (cond (eqb k 7) (closed T x)
    (cond (eqb k 8) (opened T x 2)
    (cond (eqb k 9) (turned T x 3)
    (cond (eqb k 10) (closed T x)
    (inside T x)))))))))

-- END ends a procedure.
abbrev pub next_owner : ℕ → ℕ → ℕ
next_owner q k = cond (eqb k 3) (suc q) q

-- The records at these offsets.
unfoldable pub filled : List ℕ → List ℕ → (x q : ℕ) → List ℕ → List ℕ
filled f [] x q T = T
filled f (o ∷ os) x q T = filled f os (suc x) (next_owner q (kind_at f o)) (entered (noted T x q o (kind_at f o)) x q (kind_at f o))

-- ---- Second pass: MIDDLE and TAIL, from the construct's IF or FROM to all its records.
abbrev pub head_at : List ℕ → ℕ → ℕ
head_at T x = get_or T (2048 + x) 0 % 1024

unfoldable pub share : List ℕ → ℕ → List ℕ
share T x = set (set T (3072 + x) (get_or T (3072 + head_at T x) 0)) (4096 + x) (get_or T (4096 + head_at T x) 0)

-- The records x, .. of which k are left.
unfoldable pub shared : (k x : ℕ) → List ℕ → List ℕ
shared zero x T = T
shared (suc k) x T = shared k (suc x) (share T x)

-- ---- Third pass: DOWN and UP, at each gap between two neighbours.
-- Where one comes to from above, and from below, at record x.
abbrev pub from_above : List ℕ → ℕ → ℕ
from_above T x =
    let k = get_or T (1024 + x) 0 in
    cond (eqb k 6) (get_or T (4096 + x) 0) (cond (eqb k 9) (get_or T (4096 + x) 0) (cond (eqb k 10) (get_or T (2048 + x) 0) x))

abbrev pub from_below : List ℕ → ℕ → ℕ
from_below T x =
    let k = get_or T (1024 + x) 0 in
    cond (eqb k 6) (get_or T (2048 + x) 0) (cond (eqb k 9) (get_or T (4096 + x) 0) x)

unfoldable pub join : List ℕ → ℕ → List ℕ
join T g = set (set T (5120 + g) (from_above T (suc g))) (6144 + suc g) (from_below T g)

-- The gaps g, .. of which k are left.
unfoldable pub joined : (k g : ℕ) → List ℕ → List ℕ
joined zero g T = T
joined (suc k) g T = joined k (suc g) (join T g)

-- ---- At most 1,024 records have labels.
unfoldable pub labelled : List ℕ → List ℕ
labelled f = offsets_from 1024 f 0

unfoldable pub table_of : List ℕ → List ℕ
table_of f =
    let n = length (labelled f) in
    joined (pred n) 0 (shared n 0 (filled f (labelled f) 0 0 blank))
