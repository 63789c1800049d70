-- For each public function: any two outcomes that its contract permits are equal. Assumes nothing.
use mathlib.Core.Path.{◌≡◌, sym, ◌∙◌}
use contract.Lifetimes.{Lfts}
use Rattle.refusals.proofs.Reason.number.Reads as number
use Rattle.refusals.proofs.Refusal.at.Reads as at

module _ (κs : Lfts 0) where
  pub number_determined : (a : _) (r r' : _) (s s' : _) → number.Post κs a r s → number.Post κs a r' s' → r ≡ r'
  number_determined a r r' s s' p q = p ∙ sym q

  pub at_determined : (a : _) (r r' : _) (s s' : _) → at.Post κs a r s → at.Post κs a r' s' → r ≡ r'
  at_determined a r r' s s' p q = p ∙ sym q
