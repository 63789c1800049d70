-- A reader that keeps what it has read as parts of a tree, and whose shape is the state of Order.
-- Assumes nothing.
use Prim.Native.Nat.{ℕ}
use mathlib.Core.Path.{◌≡◌, refl, ap, ◌∙◌}
use mathlib.Core.List.{List, [], ◌∷◌, ◌++◌}
use mathlib.Core.Option.{Option, none, some}
use mathlib.Core.Bool.{Bool, true, false, cond}
use lib.ListN.{length}
use lib.Dec.{ltb}
use Rattle.std.specs.Prelude.{Option as Maybe, Some, None, option_and_then}
use Rattle.expr.specs.Tree.{Expr}
use Rattle.records.specs.Records.{Record, names, begin, end, assign, if, else, fi, from, loop, until, call, uncall, skip, kind}
use Rattle.order.specs.Trees.{Stmt, set_s, skip_s, call_s, uncall_s, if_s, from_s, Block, one, ◌then◌}
use Rattle.records.specs.Kinds.{kind_of}
use Rattle.order.specs.declared.open.Frame.{Frame}
use Rattle.order.specs.declared.open.Frame.TheVariants.{If, Else, From, Loop}
use Rattle.order.specs.declared.open.Phase.{Phase}
use Rattle.order.specs.declared.open.Phase.TheVariants.{Start, Named, Ended, Opened, Stated}
use Rattle.order.specs.Order.{State, at, next, named, begun, ended, passed, opened, turned, closed}

-- ---- The two constructs as one: false is IF, true is FROM.
abbrev pub opener : Bool → Expr → Record
opener false e = if e
opener true e = from e

abbrev pub middle : Bool → Record
middle false = else
middle true = loop

abbrev pub closer : Bool → Expr → Record
closer false e = fi e
closer true e = until e

abbrev pub construct : Bool → Expr → Block → Block → Expr → Stmt
construct false e s t e' = if_s e s t e'
construct true e s t e' = from_s e s t e'

-- ---- What has been read. A layer is an open construct, with the statements before it.
pub data Layer : Type 0 where
  first : Bool → Expr → Option Block → Layer
  second : Bool → Expr → Block → Option Block → Layer

-- Nothing; what no tree begins with; the procedures that have ended; those, and the statements and the open constructs of one that has not.
pub data Part : Type 0 where
  nothing dead : Part
  between : ℕ → List ℕ → List Block → Part
  within : ℕ → List ℕ → List Block → Option Block → List Layer → Part

abbrev pub lower : Bool → Frame
lower false = If
lower true = From

abbrev pub upper : Bool → Frame
upper false = Else
upper true = Loop

abbrev pub frame : Layer → Frame
frame (first w e o) = lower w
frame (second w e s o) = upper w

unfoldable pub frames : List Layer → List Frame
frames [] = []
frames (l ∷ ly) = frame l ∷ frames ly

abbrev pub height : List Layer → ℕ
height ly = length (frames ly)

unfoldable pub app : Block → Block → Block
app (one s) c = ◌then◌ s c
app (◌then◌ s b) c = ◌then◌ s (app b c)

unfoldable pub add : Option Block → Block → Option Block
add none b = some b
add (some a) b = some (app a b)

-- ---- One record.
abbrev pub on_names : ℕ → List ℕ → Part → Part
on_names v ls nothing = between v ls []
on_names v ls dead = dead
on_names v ls (between w ks bs) = dead
on_names v ls (within w ks bs a ly) = dead

abbrev pub on_begin : Part → Part
on_begin nothing = dead
on_begin dead = dead
on_begin (between v ls bs) = within v ls bs none []
on_begin (within v ls bs a ly) = dead

abbrev pub on_end : Part → Part
on_end nothing = dead
on_end dead = dead
on_end (between v ls bs) = dead
on_end (within v ls bs none ly) = dead
on_end (within v ls bs (some b) []) = between v ls (bs ++ (b ∷ []))
on_end (within v ls bs (some b) (l ∷ ly)) = dead

abbrev pub on_plain : Stmt → Part → Part
on_plain s nothing = dead
on_plain s dead = dead
on_plain s (between v ls bs) = dead
on_plain s (within v ls bs a ly) = within v ls bs (add a (one s)) ly

abbrev pub on_open : Bool → Expr → Part → Part
on_open w e nothing = dead
on_open w e dead = dead
on_open w e (between v ls bs) = dead
on_open w e (within v ls bs a ly) = cond (ltb (height ly) 16) (within v ls bs none (first w e a ∷ ly)) dead

abbrev pub on_turn : Bool → Part → Part
on_turn w nothing = dead
on_turn w dead = dead
on_turn w (between v ls bs) = dead
on_turn w (within v ls bs none ly) = dead
on_turn w (within v ls bs (some s) []) = dead
on_turn w (within v ls bs (some s) (second u e b o ∷ ly)) = dead
on_turn false (within v ls bs (some s) (first false e o ∷ ly)) = within v ls bs none (second false e s o ∷ ly)
on_turn false (within v ls bs (some s) (first true e o ∷ ly)) = dead
on_turn true (within v ls bs (some s) (first false e o ∷ ly)) = dead
on_turn true (within v ls bs (some s) (first true e o ∷ ly)) = within v ls bs none (second true e s o ∷ ly)

abbrev pub on_close : Bool → Expr → Part → Part
on_close w e' nothing = dead
on_close w e' dead = dead
on_close w e' (between v ls bs) = dead
on_close w e' (within v ls bs none ly) = dead
on_close w e' (within v ls bs (some t) []) = dead
on_close w e' (within v ls bs (some t) (first u e o ∷ ly)) = dead
on_close false e' (within v ls bs (some t) (second false e s o ∷ ly)) = within v ls bs (add o (one (if_s e s t e'))) ly
on_close false e' (within v ls bs (some t) (second true e s o ∷ ly)) = dead
on_close true e' (within v ls bs (some t) (second false e s o ∷ ly)) = dead
on_close true e' (within v ls bs (some t) (second true e s o ∷ ly)) = within v ls bs (add o (one (from_s e s t e'))) ly

abbrev pub grow : Part → Record → Part
grow p (names v ls) = on_names v ls p
grow p begin = on_begin p
grow p end = on_end p
grow p (assign o t e) = on_plain (set_s o t e) p
grow p (if e) = on_open false e p
grow p else = on_turn false p
grow p (fi e) = on_close false e p
grow p (from e) = on_open true e p
grow p loop = on_turn true p
grow p (until e) = on_close true e p
grow p (call q) = on_plain (call_s q) p
grow p (uncall q) = on_plain (uncall_s q) p
grow p skip = on_plain skip_s p

unfoldable pub reads : Part → List Record → Part
reads p [] = p
reads p (r ∷ rs) = reads (grow p r) rs

-- ---- Its shape goes as the check of kinds.
unfoldable pub shape : Part → Maybe State
shape nothing = Some (at Start [])
shape dead = None
shape (between v ls []) = Some (at Named [])
shape (between v ls (b ∷ bs)) = Some (at Ended [])
shape (within v ls bs none ly) = Some (at Opened (frames ly))
shape (within v ls bs (some b) ly) = Some (at Stated (frames ly))

-- A record function on the shape.
abbrev to : (Phase → List Frame → Maybe State) → Maybe State → Maybe State
to g o = option_and_then (λ s. g s.phase s.opens) o

shape_names : (v : ℕ) (ls : List ℕ) (p : Part) → shape (on_names v ls p) ≡ to named (shape p)
unfolding shape
shape_names v ls nothing = refl
shape_names v ls dead = refl
shape_names v ls (between w ks []) = refl
shape_names v ls (between w ks (b ∷ bs)) = refl
shape_names v ls (within w ks bs none ly) = refl
shape_names v ls (within w ks bs (some a) ly) = refl

shape_begin : (p : Part) → shape (on_begin p) ≡ to begun (shape p)
unfolding shape frames
shape_begin nothing = refl
shape_begin dead = refl
shape_begin (between w ks []) = refl
shape_begin (between w ks (b ∷ bs)) = refl
shape_begin (within w ks bs none ly) = refl
shape_begin (within w ks bs (some a) ly) = refl

shape_end : (p : Part) → shape (on_end p) ≡ to ended (shape p)
unfolding shape frames
shape_end nothing = refl
shape_end dead = refl
shape_end (between w ks []) = refl
shape_end (between w ks (b ∷ bs)) = refl
shape_end (within w ks bs none ly) = refl
shape_end (within w ks [] (some a) []) = refl
shape_end (within w ks (b ∷ bs) (some a) []) = refl
shape_end (within w ks [] (some a) (l ∷ ly)) = refl
shape_end (within w ks (b ∷ bs) (some a) (l ∷ ly)) = refl

shape_plain : (s : Stmt) (p : Part) → shape (on_plain s p) ≡ to passed (shape p)
unfolding shape add
shape_plain s nothing = refl
shape_plain s dead = refl
shape_plain s (between w ks []) = refl
shape_plain s (between w ks (b ∷ bs)) = refl
shape_plain s (within w ks bs none ly) = refl
shape_plain s (within w ks bs (some a) ly) = refl

shape_cond : (b : Bool) (p : Part) → shape (cond b p dead) ≡ cond b (shape p) None
unfolding shape
shape_cond true p = refl
shape_cond false p = refl

shape_open : (w : Bool) (e : Expr) (p : Part) → shape (on_open w e p) ≡ to (opened (lower w)) (shape p)
unfolding shape frames
shape_open w e nothing = refl
shape_open w e dead = refl
shape_open w e (between v ks []) = refl
shape_open w e (between v ks (b ∷ bs)) = refl
shape_open w e (within v ks bs none ly) = shape_cond (ltb (height ly) 16) (within v ks bs none (first w e none ∷ ly))
shape_open w e (within v ks bs (some a) ly) = shape_cond (ltb (height ly) 16) (within v ks bs none (first w e (some a) ∷ ly))

shape_turn : (w : Bool) (p : Part) → shape (on_turn w p) ≡ option_and_then (turned (lower w) (upper w)) (shape p)
unfolding shape frames
shape_turn w nothing = refl
shape_turn w dead = refl
shape_turn w (between v ks []) = refl
shape_turn w (between v ks (b ∷ bs)) = refl
shape_turn w (within v ks bs none ly) = refl
shape_turn false (within v ks bs (some a) []) = refl
shape_turn true (within v ks bs (some a) []) = refl
shape_turn false (within v ks bs (some a) (first false x o ∷ ly)) = refl
shape_turn false (within v ks bs (some a) (first true x o ∷ ly)) = refl
shape_turn true (within v ks bs (some a) (first false x o ∷ ly)) = refl
shape_turn true (within v ks bs (some a) (first true x o ∷ ly)) = refl
shape_turn false (within v ks bs (some a) (second false x s o ∷ ly)) = refl
shape_turn false (within v ks bs (some a) (second true x s o ∷ ly)) = refl
shape_turn true (within v ks bs (some a) (second false x s o ∷ ly)) = refl
shape_turn true (within v ks bs (some a) (second true x s o ∷ ly)) = refl

shape_within : (v : ℕ) (ls : List ℕ) (bs : List Block) (o : Option Block) (b : Block) (ly : List Layer) → shape (within v ls bs (add o b) ly) ≡ Some (at Stated (frames ly))
unfolding shape add
shape_within v ls bs none b ly = refl
shape_within v ls bs (some a) b ly = refl

shape_close : (w : Bool) (e : Expr) (p : Part) → shape (on_close w e p) ≡ option_and_then (closed (upper w)) (shape p)
unfolding shape frames
shape_close w e nothing = refl
shape_close w e dead = refl
shape_close w e (between v ks []) = refl
shape_close w e (between v ks (c ∷ bs)) = refl
shape_close w e (within v ks bs none ly) = refl
shape_close false e (within v ks bs (some a) []) = refl
shape_close true e (within v ks bs (some a) []) = refl
shape_close false e (within v ks bs (some a) (first false x o ∷ ly)) = refl
shape_close false e (within v ks bs (some a) (first true x o ∷ ly)) = refl
shape_close true e (within v ks bs (some a) (first false x o ∷ ly)) = refl
shape_close true e (within v ks bs (some a) (first true x o ∷ ly)) = refl
shape_close false e (within v ks bs (some a) (second false x s o ∷ ly)) = shape_within v ks bs o (one (if_s x s a e)) ly
shape_close false e (within v ks bs (some a) (second true x s o ∷ ly)) = refl
shape_close true e (within v ks bs (some a) (second false x s o ∷ ly)) = refl
shape_close true e (within v ks bs (some a) (second true x s o ∷ ly)) = shape_within v ks bs o (one (from_s x s a e)) ly

pub shape_grow : (p : Part) (r : Record) → shape (grow p r) ≡ option_and_then (λ s. next s (kind r)) (shape p)
unfolding next kind kind_of
shape_grow p (names v ls) = shape_names v ls p
shape_grow p begin = shape_begin p
shape_grow p end = shape_end p
shape_grow p (assign o t e) = shape_plain (set_s o t e) p
shape_grow p (if e) = shape_open false e p
shape_grow p else = shape_turn false p
shape_grow p (fi e) = shape_close false e p
shape_grow p (from e) = shape_open true e p
shape_grow p loop = shape_turn true p
shape_grow p (until e) = shape_close true e p
shape_grow p (call q) = shape_plain (call_s q) p
shape_grow p (uncall q) = shape_plain (uncall_s q) p
shape_grow p skip = shape_plain skip_s p

-- ---- Reading on: what is dead stays dead.
pub grow_dead : (r : Record) → grow dead r ≡ dead
grow_dead (names v ls) = refl
grow_dead begin = refl
grow_dead end = refl
grow_dead (assign o t e) = refl
grow_dead (if e) = refl
grow_dead else = refl
grow_dead (fi e) = refl
grow_dead (from e) = refl
grow_dead loop = refl
grow_dead (until e) = refl
grow_dead (call q) = refl
grow_dead (uncall q) = refl
grow_dead skip = refl

pub reads_dead : (rs : List Record) → reads dead rs ≡ dead
unfolding reads
reads_dead [] = refl
reads_dead (r ∷ rs) = ap (λ p. reads p rs) (grow_dead r) ∙ reads_dead rs

pub dies : (x : Record) (rs : List Record) (p : Part) → grow p x ≡ dead → reads p (x ∷ rs) ≡ dead
unfolding reads
dies x rs p g = ap (λ q. reads q rs) g ∙ reads_dead rs

pub reads_append : (xs ys : List Record) (p : Part) → reads p (xs ++ ys) ≡ reads (reads p xs) ys
unfolding reads
reads_append [] ys p = refl
reads_append (x ∷ xs) ys p = reads_append xs ys (grow p x)
