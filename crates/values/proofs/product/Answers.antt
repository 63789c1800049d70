-- `values::product` meets its contract: the library's wrap is the document's. Assumes nothing.
use Rattle.std.proofs.Common.{sym, ◌∙◌, w32}
use Rattle.std.proofs.lemmas.Int.{wrapping_mul_is}
use Rattle.values.proofs.Laws.{wrap_is}
use Rattle.values.proofs.product.Goals as goal

pub returns : goal.returns
returns c = wrapping_mul_is w32 _ _ c.ranges.x c.ranges.y ∙ sym (wrap_is _)
