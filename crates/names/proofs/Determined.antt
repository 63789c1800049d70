-- For each public function of the crate: any two outcomes that its contract permits are equal.
use mathlib.Core.Path.{◌≡◌, sym, ◌∙◌}
use contract.Lifetimes.{Lfts}
use Rattle.names.proofs.first_unknown.Reads as first-unknown
use Rattle.names.proofs.first_own.Reads as first-own

module _ (κs : Lfts 1) where
  pub first_unknown_determined : (a : _) (r r' : _) (s s' : _) → first-unknown.Post κs a r s → first-unknown.Post κs a r' s' → r ≡ r'
  first_unknown_determined a r r' s s' p q = p ∙ sym q

  pub first_own_determined : (a : _) (r r' : _) (s s' : _) → first-own.Post κs a r s → first-own.Post κs a r' s' → r ≡ r'
  first_own_determined a r r' s s' p q = p ∙ sym q

  -- Of both passes at once.
  pub first_not_determined : ((a : _) (r r' : _) (s s' : _) → first-unknown.Post κs a r s → first-unknown.Post κs a r' s' → r ≡ r')
      × ((a : _) (r r' : _) (s s' : _) → first-own.Post κs a r s → first-own.Post κs a r' s' → r ≡ r')
  first_not_determined = (first_unknown_determined, first_own_determined)
