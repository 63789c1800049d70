-- `session::put_place` meets its contract. Assumes nothing.
use Rattle.std.proofs.Common.{arith, refl}
use Rattle.session.specs.Parts.{encode_head}
use Rattle.session.specs.Answers.{slot_bytes}
use Rattle.session.proofs.Writing.{on, headed, frames_go, frames_end}
use Rattle.session.proofs.put_place.Goals as goal

pub loop-i-preserved : goal.loop-i-preserved
loop-i-preserved c = frames_go c.args.h.now.kinds c.args.h.now.labels _ c.loop-i.buf c.args.h.now.count c.loop-i.i _ c.loop-i.invariant c.loop-i-test.true _ _ c.put_pair-in-loop-i.ensures (omega arith)

pub returns : goal.returns
returns c =
    let h = c.args.h.now in
    on c.args.buf.now c.put_pair-3.new.buf _ 0 12 (encode_head h.direction h.a h.b h.count) (slot_bytes h.count h.kinds h.labels) refl
    (headed _ c.put_pair.new.buf c.put_pair-2.new.buf _ h.direction c.from.result h.a h.b h.count (omega arith) c.from.ensures c.put_pair.ensures c.put_pair-2.ensures c.put_pair-3.ensures)
    (frames_end h.kinds h.labels _ _ h.count c.loop-i.i _ c.loop-i.invariant c.loop-i-test.false)
