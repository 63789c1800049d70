-- `order::order` meets its contract: the order of the records left is that of the whole file.
use Rattle.std.proofs.Common.{◌≡◌, arith, sym, ap, ◌∙◌, length}
use Rattle.records.specs.Walk.{offsets}
use Rattle.records.specs.Left.{offsets_left}
use Rattle.records.proofs.Offsets.{offsets_few}
use Rattle.order.specs.Order.{next, order_of}
use Rattle.order.proofs.OrderWalk.{left_on, left_stuck, left_whole, left_short, live, stuck}
use Rattle.order.proofs.order.Goals as goal

pub loop-at-init : goal.loop-at-init
unfolding offsets order_of
loop-at-init c =
    let file = c.args.file.now in
    let all : offsets_left c.into_iter-at-iterator.result ≡ offsets file = ap offsets_left c.into_iter-at-iterator.ensures.into_iter_gives ∙ c.of-at-items.ensures in
    record { room = omega (arith, ap length all, offsets_few (length file) file 0); same = rw (c.new-open.ensures, all) }

pub returns-then-is_misplaced : goal.returns-then-is_misplaced
returns-then-is_misplaced c =
    let none = stuck c.after-open.result (sym c.is_misplaced.ensures ∙ c.if-is_misplaced.true) in
    let came = ap (next c.loop-at.open) (sym c.kind_at.ensures.0) ∙ (sym c.after-open.ensures ∙ none) in
    sym (left_stuck c.args.file.now _ _ _ _ _ c.in-Some.ensures.steps came) ∙ c.loop-at.invariant.same

pub loop-at-preserved : goal.loop-at-preserved
loop-at-preserved c =
    let steps = c.in-Some.ensures.steps in
    let some = live c.after-open.result (sym c.is_misplaced.ensures ∙ c.if-is_misplaced.false) in
    let came = ap (next c.loop-at.open) (sym c.kind_at.ensures.0) ∙ (sym c.after-open.ensures ∙ some) in
    record { room = omega (arith, ap length steps); same = sym (left_on c.args.file.now _ _ _ _ _ steps _ came) ∙ c.loop-at.invariant.same }

pub returns-then-is_whole : goal.returns-then-is_whole
returns-then-is_whole c =
    sym (left_whole c.args.file.now _ _ _ c.in-None.ensures.steps.0 (sym c.is_whole.ensures ∙ c.if-is_whole.true)) ∙ c.loop-at.invariant.same

pub returns-else-is_whole : goal.returns-else-is_whole
returns-else-is_whole c =
    sym (left_short c.args.file.now _ _ _ c.in-None.ensures.steps.0 (sym c.is_whole.ensures ∙ c.if-is_whole.false)) ∙ c.loop-at.invariant.same
