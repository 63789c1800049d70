-- For each public function: any two outcomes that its contract permits are equal. `Post κs a r s` is the contract
-- as the check reads it: of the arguments a, the answer r and what each argument holds afterwards, s.
-- Assumes nothing.
use mathlib.Core.Path.{◌≡◌, sym, ◌∙◌}
use contract.Lifetimes.{Lfts}
use Rattle.decide.proofs.decide.Reads as decide

-- the answer, and afterwards the slots and the store
pub decide_determined : (κs : Lfts 6) (a : _) (r r' : _) (s s' : _) → decide.Post κs a r s → decide.Post κs a r' s'
    → (r ≡ r') × (s.1.0.now ≡ s'.1.0.now) × (s.1.1.0.now ≡ s'.1.1.0.now) × (s.1.1.1.1.1.1.0.now ≡ s'.1.1.1.1.1.1.0.now)
decide_determined κs a r r' s s' p q =
    (p.does.made ∙ sym q.does.made, p.does.kinds ∙ sym q.does.kinds, p.does.labels ∙ sym q.does.labels, p.left ∙ sym q.left)
