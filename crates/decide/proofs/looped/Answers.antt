-- `decide::looped` meets its contract: the cases of `DecideCases`. Assumes nothing.
use mathlib.Core.Path.{◌≡◌, ap, ◌∙◌}
use Rattle.std.specs.Prelude.{Ok, Err}
use Rattle.std.proofs.lemmas.Result.{err_from_is_err_and}
use Rattle.decide.proofs.DecideCases.{tests}
use Rattle.decide.proofs.looped.Goals as goal

pub returns-in_err-v : goal.returns-in_err-v
returns-in_err-v c =
    let p = err_from_is_err_and c.from_residual.result c.from_residual.ensures.1 in
    let k : c.truth.result ≡ Err c.in_err-v.field-0.0 = c.in_err-v.was in
    let h : c.from_residual.result ≡ Err c.in_err-v.field-0.0 = p.1 ∙ ap Err p.2 in
    search tests

pub returns-then-act-eq-OPEN : goal.returns-then-act-eq-OPEN
returns-then-act-eq-OPEN c =
    let k : c.truth.result ≡ Ok c.in_ok-v.v = c.in_ok-v.was in
    search tests

pub returns-in_err-v-2 : goal.returns-in_err-v-2
returns-in_err-v-2 c =
    let p = err_from_is_err_and c.from_residual-in_err-v-2.result c.from_residual-in_err-v-2.ensures.1 in
    let k : c.truth-then-act-eq-REPEAT.result ≡ Err c.in_err-v-2.field-0.0 = c.in_err-v-2.was in
    let h : c.from_residual-in_err-v-2.result ≡ Err c.in_err-v-2.field-0.0 = p.1 ∙ ap Err p.2 in
    search tests

pub returns-then-act-eq-REPEAT : goal.returns-then-act-eq-REPEAT
returns-then-act-eq-REPEAT c =
    let k : c.truth-then-act-eq-REPEAT.result ≡ Ok c.in_ok-v-2.v = c.in_ok-v-2.was in
    search tests

pub returns : goal.returns
returns c =
    search tests
