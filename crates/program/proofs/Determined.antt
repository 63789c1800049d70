-- For each public function of the crate: any two outcomes that its contract permits are equal.
use mathlib.Core.Path.{◌≡◌, sym, ◌∙◌}
use contract.Lifetimes.{Lfts}
use Rattle.codes.specs.Codes.{AllBytes}
use Rattle.program.proofs.CheckSays.{says_only}
use Rattle.program.proofs.arrays.arrays.Reads as arrays
use Rattle.program.proofs.check.Reads as check

module _ (κs : Lfts 1) where
  pub arrays_determined : (a : _) (r r' : _) (s s' : _) → arrays.Post κs a r s → arrays.Post κs a r' s' → r ≡ r'
  arrays_determined a r r' s s' p q = p ∙ sym q

  -- The bytes of the file are bytes.
  pub check_determined : (a : _) (r r' : _) (s s' : _) → check.Post κs a r s → check.Post κs a r' s' → AllBytes a.0.now → r ≡ r'
  check_determined a r r' s s' p q B = says_only a.0.now B r p ∙ sym (says_only a.0.now B r' q)
