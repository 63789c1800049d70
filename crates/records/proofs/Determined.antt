-- For each public function of the crate: any two outcomes that its contract permits are equal.
use mathlib.Core.Path.{◌≡◌, sym, ◌∙◌}
use contract.Lifetimes.{Lfts}
use Rattle.records.proofs.walk.stride.Reads as stride
use Rattle.records.proofs.walk.kind_at.Reads as kind_at
use Rattle.records.proofs.walk.next_at.Reads as next-at
use Rattle.records.proofs.walk.Offsets.of.Reads as offsets-of
use Rattle.records.specs.Left.{offsets_left}
use Rattle.records.proofs.reading.walk.Reads as walk
use Rattle.records.proofs.reading.tests.Reads as tests
use Rattle.records.proofs.reading.calls.Reads as calls
use Rattle.records.proofs.kind.Kind.of.Reads as kind-of
use Rattle.records.proofs.kind.Kind.is_test.Reads as is-test
use Rattle.records.proofs.kind.Kind.is_call.Reads as is-call

module _ (κs : Lfts 1) where
  pub stride_determined : (a : _) (r r' : _) (s s' : _) → stride.Post κs a r s → stride.Post κs a r' s' → r ≡ r'
  stride_determined a r r' s s' p q = p.0 ∙ sym q.0

  pub kind_at_determined : (a : _) (r r' : _) (s s' : _) → kind_at.Post κs a r s → kind_at.Post κs a r' s' → r ≡ r'
  kind_at_determined a r r' s s' p q = p.0 ∙ sym q.0

  pub next_at_determined : (a : _) (r r' : _) (s s' : _) → next-at.Post κs a r s → next-at.Post κs a r' s' → r ≡ r'
  next_at_determined a r r' s s' p q = p ∙ sym q

  -- of two walks what is left is the same
  pub offsets_determined : (a : _) (r r' : _) (s s' : _) → offsets-of.Post κs a r s → offsets-of.Post κs a r' s' → offsets_left r ≡ offsets_left r'
  offsets_determined a r r' s s' p q = p ∙ sym q

  pub walk_determined : (a : _) (r r' : _) (s s' : _) → walk.Post κs a r s → walk.Post κs a r' s' → r ≡ r'
  walk_determined a r r' s s' p q = p ∙ sym q

module _ (κs : Lfts 0) where
  pub of_determined : (a : _) (r r' : _) (s s' : _) → kind-of.Post κs a r s → kind-of.Post κs a r' s' → r ≡ r'
  of_determined a r r' s s' p q = p ∙ sym q

  pub is_test_determined : (a : _) (r r' : _) (s s' : _) → is-test.Post κs a r s → is-test.Post κs a r' s' → r ≡ r'
  is_test_determined a r r' s s' p q = p ∙ sym q

  pub is_call_determined : (a : _) (r r' : _) (s s' : _) → is-call.Post κs a r s → is-call.Post κs a r' s' → r ≡ r'
  is_call_determined a r r' s s' p q = p ∙ sym q

  pub tests_determined : (a : _) (r r' : _) (s s' : _) → tests.Post κs a r s → tests.Post κs a r' s' → r ≡ r'
  tests_determined a r r' s s' p q = p ∙ sym q

  pub calls_determined : (a : _) (r r' : _) (s s' : _) → calls.Post κs a r s → calls.Post κs a r' s' → r ≡ r'
  calls_determined a r r' s s' p q = p ∙ sym q
