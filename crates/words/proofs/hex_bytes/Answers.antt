-- `words::hex_bytes` meets its contract: what is still to be read is what was to be read from the start. Assumes nothing.
use mathlib.Core.Path.{refl, sym, ◌∙◌}
use native.Mathlib.Omega.{arith}
use Rattle.words.proofs.Lines.{one_more, stops, none, full}
use Rattle.words.proofs.hex_bytes.Goals as goal

pub returns-in_default : goal.returns-in_default
returns-in_default c = let h = stops _ _ _ _ _ _ _ c.loop-n.invariant (none c.args.s.now _ c.loop-n.i (sym c.hex_byte.ensures ∙ c.in_default.is)) refl in
    record { value = h.0; buf_after = h.1.0; counts = h.1.1 }

pub loop-n-preserved : goal.loop-n-preserved
loop-n-preserved c = one_more _ _ _ _ _ _ _ (omega arith) (sym c.hex_byte.ensures ∙ c.in-Some.is) c.loop-n.invariant

pub returns : goal.returns
returns c = let h = stops _ _ _ _ _ _ _ c.loop-n.invariant (full c.args.s.now _ c.loop-n.i (omega (arith, c.loop-n.invariant.kept))) (omega arith) in
    record { value = h.0; buf_after = h.1.0; counts = h.1.1 }
