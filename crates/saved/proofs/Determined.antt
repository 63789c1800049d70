-- For each public function: any two outcomes that its contract permits are equal, the answer and the lent store or buffer together.
-- `Post κs a r s` is the contract as the check reads it: of the arguments a, the answer r and what each argument holds afterwards, s.
-- A file's elements are bytes, as its type says.
use mathlib.Core.Path.{◌≡◌}
use contract.Lifetimes.{Lfts}
use Rattle.codes.specs.Codes.{AllBytes}
use Rattle.saved.proofs.OneAnswer.{read_one, save_one}
use Rattle.saved.proofs.read.Reads as read
use Rattle.saved.proofs.save.Reads as save

module _ (κs : Lfts 3) where
  pub read_determined : (a : _) (r r' : _) (s s' : _) → read.Post κs a r s → read.Post κs a r' s' → AllBytes a.0.now → (r ≡ r') × (s.1.1.0.now ≡ s'.1.1.0.now)
  read_determined a r r' s s' p q B = read_one a.0.now B a.1.0.now _ r r' _ _ p q

  pub save_determined : (a : _) (r r' : _) (s s' : _) → save.Post κs a r s → save.Post κs a r' s' → AllBytes a.0.now → (r ≡ r') × (s.1.1.1.0.now ≡ s'.1.1.1.0.now)
  save_determined a r r' s s' p q B = save_one a.0.now B _ _ _ r r' _ _ p q
