-- For each public function: any two outcomes that its contract permits are equal. `Post κs a r s` is the contract
-- as the check reads it: of the arguments a, the answer r and what each argument holds afterwards, s.
-- Assumes nothing.
use mathlib.Core.Path.{◌≡◌, sym, ◌∙◌}
use contract.Lifetimes.{Lfts}
use Rattle.evaluate.proofs.amount.Reads as amount
use Rattle.evaluate.proofs.entry_of.Reads as entry_of
use Rattle.evaluate.proofs.truth.Reads as truth

pub truth_determined : (κs : Lfts 3) (a : _) (r r' : _) (s s' : _) → truth.Post κs a r s → truth.Post κs a r' s' → r ≡ r'
truth_determined κs a r r' s s' p q = p ∙ sym q

pub entry_of_determined : (κs : Lfts 1) (a : _) (r r' : _) (s s' : _) → entry_of.Post κs a r s → entry_of.Post κs a r' s' → r ≡ r'
entry_of_determined κs a r r' s s' p q = p ∙ sym q

-- the answer, and the position afterwards
pub amount_determined : (κs : Lfts 4) (a : _) (r r' : _) (s s' : _) → amount.Post κs a r s → amount.Post κs a r' s'
    → (r ≡ r') × (s.1.0.now ≡ s'.1.0.now)
amount_determined κs a r r' s s' p q = (p.answer ∙ sym q.answer, p.place ∙ sym q.place)
