-- For the public function: any two outcomes that its contract permits are equal. `Post κs a r s` is the contract
-- as the check reads it: of the arguments a, the answer r and what each argument holds afterwards, s.
use mathlib.Core.Path.{◌≡◌, sym, ◌∙◌}
use contract.Lifetimes.{Lfts}
use Rattle.table.proofs.table.Reads as table

pub table_determined : (κs : Lfts 1) (a : _) (r r' : _) (s s' : _) → table.Post κs a r s → table.Post κs a r' s' → r ≡ r'
table_determined κs a r r' s s' p q = p ∙ sym q
