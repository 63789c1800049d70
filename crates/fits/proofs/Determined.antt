-- For the public function: any two outcomes that its contract permits are equal. `Post κs a r s` is the contract
-- as the check reads it: of the arguments a, the answer r and what each argument holds afterwards, s.
-- Assumes nothing.
use mathlib.Core.Path.{◌≡◌, sym, ◌∙◌}
use contract.Lifetimes.{Lfts}
use Rattle.fits.proofs.fits.Reads as fits

pub fits_determined : (κs : Lfts 2) (a : _) (r r' : _) (s s' : _) → fits.Post κs a r s → fits.Post κs a r' s' → r ≡ r'
fits_determined κs a r r' s s' p q = p ∙ sym q
