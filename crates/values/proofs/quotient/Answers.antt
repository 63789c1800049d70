-- `values::quotient` meets its contract: -1 is a case of its own. Assumes nothing.
use Rattle.std.proofs.Common.{◌≡◌, Some, pos, ◌-ℤ◌, sym, ap, ◌∙◌, ap₂, arith, to_z-of_z, w32, of_z}
use Rattle.values.specs.Values.{wrap, floor_div}
use Rattle.values.proofs.Laws.{wrap_in}
use Rattle.values.proofs.Floor.{in32, some_given, divisor, minus_one, one_div}
use Rattle.values.proofs.quotient.Goals as goal

pub returns-in-minus1 : goal.returns-in-minus1
returns-in-minus1 c =
    let y : of_z w32 c.args.y ≡ 4294967295 = omega arith in
    ap Some
    (to_z-of_z (in32 _ c.difference.type_inv) ∙ c.difference.ensures
    ∙ ap wrap (ap (λ z. pos 0 -ℤ z) (to_z-of_z c.ranges.x) ∙ one_div c.args.x ∙ sym (ap (floor_div c.args.x) (minus_one c.args.y c.ranges.y y))))
    ∙ some_given c.ranges.y (λ e. omega arith)

pub floor_div-requires : goal.floor_div-requires
floor_div-requires c = divisor c.ranges.y (λ e. omega arith) (λ e. omega arith)

pub returns-in_default : goal.returns-in_default
returns-in_default c =
    let e : c.floor_div.result ≡ floor_div c.args.x c.args.y = c.floor_div.ensures ∙ ap₂ floor_div (to_z-of_z c.ranges.x) (to_z-of_z c.ranges.y) in
    let f = in32 c.floor_div.result c.floor_div.type_inv in
    ap Some (to_z-of_z f ∙ sym (wrap_in c.floor_div.result f) ∙ ap wrap e) ∙ some_given c.ranges.y (λ e. omega arith)
