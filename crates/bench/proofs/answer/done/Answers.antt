-- `bench::answer::done` meets its contract. Assumes nothing.
use mathlib.Core.Path.{refl}
use native.Mathlib.Omega.{arith}
use mir.Syntax.{w32}
use mir.Facts.{to_z-of_z}
use borrow.Author.Rules.{rules}
use Rattle.bench.specs.Answers as answers
use Rattle.bench.proofs.Answering.{deed, moved, goes, goes_back, sound_few}
use Rattle.bench.proofs.answer.done.Goals as goal

pub moved-requires : goal.moved-requires
moved-requires c = goes (λ i. omega (arith, c.type_inv.file i)) c.requires c.run-ran.ensures

pub moved-requires-in-Back : goal.moved-requires-in-Back
moved-requires-in-Back c = goes_back (λ i. omega (arith, c.type_inv.file i)) c.requires c.run_back-ran.ensures

pub shown-requires : goal.shown-requires
shown-requires c = sound_few c.requires

pub returns-in-Step : goal.returns-in-Step
returns-in-Step c = deed c.in-Step.is (answers.steps refl (moved c.run-ran.ensures c.moved.ensures))

pub returns-in-Back : goal.returns-in-Back
returns-in-Back c = deed c.in-Back.is (answers.backs refl (moved c.run_back-ran.ensures c.moved-in-Back.ensures))

pub returns-in-Set : goal.returns-in-Set
returns-in-Set c = deed c.in-Set.is (rw (to_z-of_z {w = w32} {z = c.in-Set.value} (search rules)) at (c.set.ensures c.args.text.now))

pub returns-in-Show : goal.returns-in-Show
returns-in-Show c = deed c.in-Show.is (answers.shows refl (c.shown.ensures c.args.buffer.now))
