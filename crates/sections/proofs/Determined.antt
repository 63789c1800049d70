-- For each public function: any two outcomes that its contract permits are equal. `Post κs a r s` is the contract
-- as the check reads it: of the arguments a, the answer r and what each argument holds afterwards, s.
-- Assumes nothing.
use mathlib.Core.Path.{◌≡◌, sym, ◌∙◌}
use contract.Lifetimes.{Lfts}
use Rattle.sections.proofs.look.Reads as look
use Rattle.sections.proofs.entry.Reads as entry

module _ (κs : Lfts 1) where
  pub look_determined : (a : _) (r r' : _) (s s' : _) → look.Post κs a r s → look.Post κs a r' s' → r ≡ r'
  look_determined a r r' s s' p q = p ∙ sym q

  pub entry_determined : (a : _) (r r' : _) (s s' : _) → entry.Post κs a r s → entry.Post κs a r' s' → r ≡ r'
  entry_determined a r r' s s' p q = p ∙ sym q
