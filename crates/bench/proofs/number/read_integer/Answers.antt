-- `bench::number::read_integer` meets its contract. Assumes nothing.
use Rattle.std.proofs.Common.{rules, arith}
use Rattle.std.proofs.lemmas.Grind.{common_steps}
use Rattle.bench.specs.Numbers.{whole, longest, natural_of, narrowed, integer_of}
use mathlib.Core.Path.{◌∙◌}
use mir.Syntax.{w64}
use mir.Facts.{to_z-of_z}
use Rattle.bench.proofs.Numbers.{fits_integer}
use Rattle.bench.proofs.number.read_integer.Goals as goal

pub returns-in_err-n : goal.returns-in_err-n
unfolding integer_of narrowed
returns-in_err-n c = grind (arith, common_steps)

pub returns : goal.returns
unfolding integer_of narrowed
returns c = let e = c.ok.ensures.value ∙ fits_integer c.try_from.result c.in_ok-n.n (rw (to_z-of_z {w = w64} {z = c.in_ok-n.n} (search rules)) at c.try_from.ensures) in grind (arith, common_steps)
