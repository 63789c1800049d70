-- `order::order` meets its contract: the order of the records left is that of the whole file.
use Rattle.std.proofs.Common.{◌≡◌, ◌+◌, ◌≤◌, length}
use Rattle.records.specs.Walk.{offsets, kinds_at}
use Rattle.records.specs.Left.{offsets_left}
use Rattle.order.specs.Order.{order_of}
use Rattle.order.proofs.OrderWalk.{left}
use Rattle.order.proofs.order.Given as goal

abbrev pub invariant-loop-at : goal.invariant-loop-at
invariant-loop-at l =
    let ats = offsets_left l.at-iterator in
    record { room : l.n + length ats ≤ length l.file; same : left l.file l.n l.open ats ≡ order_of (kinds_at l.file (offsets l.file)) }
