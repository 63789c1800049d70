-- `session::put_session` meets its contract: the cases of `Saving`. Assumes nothing.
use Rattle.std.proofs.Common.{arith, ◌∙◌}
use Rattle.session.proofs.Saving.{puts_unplain, puts_no_size, puts_no_room, plain_room, few_cells, size_is, puts_file}
use Rattle.session.proofs.put_session.Goals as goal

pub returns-then-not-plain : goal.returns-then-not-plain
returns-then-not-plain c = puts_unplain c.args.h _ _ c.if-not-plain.ensures

pub returns-in_err-size : goal.returns-in_err-size
returns-in_err-size c = let x = puts_no_size c.args.h _ c.args.buf.now c.if-not-plain.ensures c.in_err-size.ensures in (c.from_residual.ensures ∙ x.0, x.1)

pub returns-then-buf-size : goal.returns-then-buf-size
returns-then-buf-size c = puts_no_room c.args.h _ _ c.if-not-plain.ensures _ c.in_ok-size.ensures c.if-buf-size.true

pub put_place-requires : goal.put_place-requires
put_place-requires c =
    omega (arith, plain_room c.args.h c.args.store.now c.args.buf.now c.if-not-plain.ensures, size_is c.args.h c.args.store.now c.args.buf.now c.if-not-plain.ensures _ c.in_ok-size.ensures)

pub put_store-requires : goal.put_store-requires
put_store-requires c =
    omega (arith, few_cells c.args.h c.args.store.now c.args.buf.now c.if-not-plain.ensures _ c.in_ok-size.ensures, size_is c.args.h c.args.store.now c.args.buf.now c.if-not-plain.ensures _ c.in_ok-size.ensures)

pub returns : goal.returns
returns c = puts_file c.args.h _ _ c.if-not-plain.ensures _ c.in_ok-size.ensures c.if-buf-size.false _ _ c.put_place.ensures c.put_store.ensures
