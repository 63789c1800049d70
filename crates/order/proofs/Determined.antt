-- For each public function of the crate: any two outcomes that its contract permits are equal.
use mathlib.Core.Path.{◌≡◌, sym, ◌∙◌}
use contract.Lifetimes.{Lfts}
use Rattle.order.proofs.order.Reads as order

module _ (κs : Lfts 1) where
  pub order_determined : (a : _) (r r' : _) (s s' : _) → order.Post κs a r s → order.Post κs a r' s' → r ≡ r'
  order_determined a r r' s s' p q = p ∙ sym q
