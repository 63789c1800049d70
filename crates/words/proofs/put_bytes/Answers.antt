-- `words::put_bytes` meets its contract: the bytes are written where they fit. Assumes nothing.
use mathlib.Core.Path.{sym, ◌∙◌}
use Rattle.words.proofs.Writing.{written}
use Rattle.words.proofs.put_bytes.Goals as goal

pub returns-clause-buf_after : goal.returns-clause-buf_after
returns-clause-buf_after c = written _ _ _ _ (sym c.has_room.ensures ∙ c.if-not-has_room.false) c.copy_from_slice.ensures.after
