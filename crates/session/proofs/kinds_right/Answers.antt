-- `session::kinds_right` meets its contract: its answer is `all` over the frames' numbers. Assumes nothing.
use Rattle.std.proofs.Common.{rules, arith, ◌+◌, ◌*◌, leb, refl, ◌∙◌}
use Rattle.std.proofs.lemmas.Iterator.{YieldsList-from_range}
use Rattle.std.proofs.lemmas.Iterator.Search.{all_from_yields_List}
use Rattle.codes.specs.Codes.{word16}
use Rattle.session.proofs.Rows.{kinds_all}
use Rattle.session.proofs.kinds_right.Goals as goal

pub returns : goal.returns
returns c =
    all_from_yields_List (λ i. leb (word16 c.args.b.now (12 + 4 * i)) 4) _ _ _ c.all.ensures.ran (YieldsList-from_range 0 c.args.n c.args.n refl (omega arith)) (λ x b q k. search rules)
    ∙ kinds_all c.args.b.now c.args.n 0 12 refl
