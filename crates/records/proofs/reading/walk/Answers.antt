-- `reading::walk` meets its contract: the walk over the records left is the walk of the whole file.
use Rattle.std.proofs.Common.{◌≡◌, sym, ◌∙◌, ap, arith, add-one, length}
use Rattle.records.specs.Records.{is_begin}
use Rattle.records.specs.Walk.{offsets, kind_at}
use Rattle.records.specs.Reading.{walk_of, walk_over}
use Rattle.records.specs.Left.{offsets_left}
use Rattle.records.proofs.Offsets.{offsets_few}
use Rattle.records.proofs.Walking.{over_on, over_stop}
use Rattle.records.proofs.Cases.{begin_byte, begin_most}
use Rattle.records.proofs.reading.walk.Goals as goal

pub loop-at-init : goal.loop-at-init
unfolding offsets walk_of
loop-at-init c =
    let file = c.args.file.now in
    let all : offsets_left c.into_iter-at-iterator.result ≡ offsets file = ap offsets_left c.into_iter-at-iterator.ensures.into_iter_gives ∙ c.of-at-items.ensures in
    record { room = omega (arith, ap length all, offsets_few (length file) file 0); begun = omega arith; same = ap (λ ats. walk_over file ats 0 0) all }

pub returns-in-Some-wrong : goal.returns-in-Some-wrong
returns-in-Some-wrong c =
    let stop = over_stop c.args.file.now _ _ _ _ _ c.in-Some.ensures.steps _ (sym c.wrong.ensures ∙ c.in-Some-wrong.is) in
    rw c.at.ensures (sym stop ∙ c.loop-at.invariant.same)

pub loop-at-preserved : goal.loop-at-preserved
loop-at-preserved c =
    let file = c.args.file.now in
    let steps = c.in-Some.ensures.steps in
    let begun : c.from.result ≡ is_begin (kind_at file c.in-Some.at) = c.from.ensures ∙ begin_byte _ ∙ ap is_begin c.kind_at.ensures.0 in
    record {
      room = omega (arith, ap length steps);
      begun = omega (arith, c.from.ensures, begin_most);
      same =
          rw (begun, add-one c.loop-at.walked.records)
          (sym (over_on file _ _ _ _ _ steps (sym c.wrong.ensures ∙ c.in_default.is)) ∙ c.loop-at.invariant.same);
    }
