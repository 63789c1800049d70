-- For each public function: any two outcomes that its contract permits are equal. `Post κs a r s` is the contract
-- as the check reads it: of the arguments a, the answer r and what each argument holds afterwards, s.
-- Assumes nothing.
use mathlib.Core.Path.{◌≡◌, sym, ◌∙◌}
use contract.Lifetimes.{Lfts}
use Rattle.codes.proofs.byte.Reads as byte
use Rattle.codes.proofs.short.Reads as short
use Rattle.codes.proofs.long.Reads as long
use Rattle.codes.proofs.put_short.Reads as put-short
use Rattle.codes.proofs.put_long.Reads as put-long

module _ (κs : Lfts 1) where
  pub byte_determined : (a : _) (r r' : _) (s s' : _) → byte.Post κs a r s → byte.Post κs a r' s' → r ≡ r'
  byte_determined a r r' s s' p q = p.0 ∙ sym q.0

  pub short_determined : (a : _) (r r' : _) (s s' : _) → short.Post κs a r s → short.Post κs a r' s' → r ≡ r'
  short_determined a r r' s s' p q = p.0 ∙ sym q.0

  pub long_determined : (a : _) (r r' : _) (s s' : _) → long.Post κs a r s → long.Post κs a r' s' → r ≡ r'
  long_determined a r r' s s' p q = p ∙ sym q

  pub put_short_determined : (a : _) (r r' : _) (s s' : _) → put-short.Post κs a r s → put-short.Post κs a r' s' → s.0.now ≡ s'.0.now
  put_short_determined a r r' s s' p q = p ∙ sym q

  pub put_long_determined : (a : _) (r r' : _) (s s' : _) → put-long.Post κs a r s → put-long.Post κs a r' s' → s.0.now ≡ s'.0.now
  put_long_determined a r r' s s' p q = p ∙ sym q
