-- `values::remainder` meets its contract: -1 is a case of its own. Assumes nothing.
use Rattle.std.proofs.Common.{◌≡◌, Some, sym, ap, ◌∙◌, ap₂, arith, to_z-of_z, w32, of_z}
use Rattle.values.specs.Values.{floor_mod}
use Rattle.values.proofs.Floor.{in32, some_given, divisor, minus_one, one_mod}
use Rattle.values.proofs.remainder.Goals as goal

pub returns-in-minus1 : goal.returns-in-minus1
returns-in-minus1 c =
    let y : of_z w32 c.args.y ≡ 4294967295 = omega arith in
    ap Some (one_mod c.args.x ∙ sym (ap (floor_mod c.args.x) (minus_one c.args.y c.ranges.y y))) ∙ some_given c.ranges.y (λ e. omega arith)

pub floor_mod-requires : goal.floor_mod-requires
floor_mod-requires c = divisor c.ranges.y (λ e. omega arith) (λ e. omega arith)

pub returns-in_default : goal.returns-in_default
returns-in_default c =
    ap Some (to_z-of_z (in32 _ c.floor_mod.type_inv) ∙ c.floor_mod.ensures ∙ ap₂ floor_mod (to_z-of_z c.ranges.x) (to_z-of_z c.ranges.y))
    ∙ some_given c.ranges.y (λ e. omega arith)
