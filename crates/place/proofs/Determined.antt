-- For each public function: any two outcomes that its contract permits are equal. `Post κs a r s` is the contract
-- as the check reads it: of the arguments a, the answer r and what each argument holds afterwards, s.
-- Assumes nothing.
use mathlib.Core.Path.{◌≡◌, sym, ◌∙◌}
use contract.Lifetimes.{Lfts}
use Rattle.place.specs.Slots.{Plain}
use Rattle.place.proofs.Held.{decided}
use Rattle.place.proofs.Place.blank.Reads as blank
use Rattle.place.proofs.Place.turned.Reads as turned
use Rattle.place.proofs.Place.moved.Reads as moved
use Rattle.place.proofs.Place.pushed.Reads as pushed
use Rattle.place.proofs.Place.popped.Reads as popped
use Rattle.place.proofs.Place.changed.Reads as changed
use Rattle.place.proofs.Place.top.Reads as top
use Rattle.place.proofs.innermost.Reads as innermost
use Rattle.place.proofs.top_of.Reads as top_of
use Rattle.place.proofs.plain.Reads as plain

module _ (κs : Lfts 0) where
  pub blank_determined : (a : _) (r r' : _) (s s' : _) → blank.Post κs a r s → blank.Post κs a r' s' → r ≡ r'
  blank_determined a r r' s s' p q = p ∙ sym q

  pub turned_determined : (a : _) (r r' : _) (s s' : _) → turned.Post κs a r s → turned.Post κs a r' s' → r ≡ r'
  turned_determined a r r' s s' p q = p ∙ sym q

  pub moved_determined : (a : _) (r r' : _) (s s' : _) → moved.Post κs a r s → moved.Post κs a r' s' → r ≡ r'
  moved_determined a r r' s s' p q = p ∙ sym q

  pub pushed_determined : (a : _) (r r' : _) (s s' : _) → pushed.Post κs a r s → pushed.Post κs a r' s' → r ≡ r'
  pushed_determined a r r' s s' p q = p ∙ sym q

  pub popped_determined : (a : _) (r r' : _) (s s' : _) → popped.Post κs a r s → popped.Post κs a r' s' → r ≡ r'
  popped_determined a r r' s s' p q = p ∙ sym q

  pub changed_determined : (a : _) (r r' : _) (s s' : _) → changed.Post κs a r s → changed.Post κs a r' s' → r ≡ r'
  changed_determined a r r' s s' p q = p ∙ sym q

  pub top_determined : (a : _) (r r' : _) (s s' : _) → top.Post κs a r s → top.Post κs a r' s' → r ≡ r'
  top_determined a r r' s s' p q = p ∙ sym q

  pub plain_determined : (a : _) (r r' : _) (s s' : _) → plain.Post κs a r s → plain.Post κs a r' s' → r ≡ r'
  plain_determined a r r' s s' p q = decided (Plain a.0) r r' p q

pub innermost_determined : (κs : Lfts 1) (a : _) (r r' : _) (s s' : _) → innermost.Post κs a r s → innermost.Post κs a r' s' → r ≡ r'
innermost_determined κs a r r' s s' p q = p ∙ sym q

pub top_of_determined : (κs : Lfts 1) (a : _) (r r' : _) (s s' : _) → top_of.Post κs a r s → top_of.Post κs a r' s' → r ≡ r'
top_of_determined κs a r r' s s' p q = p ∙ sym q
