-- `decide::decide` meets its contract: the cases of `DecideCases`. Assumes nothing.
use Rattle.decide.proofs.DecideCases.{rules as acts}
use Rattle.decide.proofs.decide.Goals as goal

pub returns-then-s-ge2048 : goal.returns-then-s-ge2048
returns-then-s-ge2048 c = search acts

pub returns-then-act-eq-ADD : goal.returns-then-act-eq-ADD
returns-then-act-eq-ADD c = search acts

pub returns-then-act-eq-SUBTRACT : goal.returns-then-act-eq-SUBTRACT
returns-then-act-eq-SUBTRACT c = search acts

pub returns-then-act-eq-EXCLUDE : goal.returns-then-act-eq-EXCLUDE
returns-then-act-eq-EXCLUDE c = search acts

pub returns-then-act-eq-ENTRY : goal.returns-then-act-eq-ENTRY
returns-then-act-eq-ENTRY c = search acts

pub returns-then-act-eq-ENTER : goal.returns-then-act-eq-ENTER
returns-then-act-eq-ENTER c = search acts

pub returns-then-act-eq-RETURN_DOWN : goal.returns-then-act-eq-RETURN_DOWN
returns-then-act-eq-RETURN_DOWN c = search acts

pub returns-then-act-eq-RETURN_UP : goal.returns-then-act-eq-RETURN_UP
returns-then-act-eq-RETURN_UP c = search acts

pub returns : goal.returns
returns c = search acts
