-- For each public function: any two outcomes that its contract permits are equal. `Post κs a r s` is the contract
-- as the check reads it: of the arguments a, the answer r and what each argument holds afterwards, s.
-- Assumes nothing.
use mathlib.Core.Path.{◌≡◌, sym, ◌∙◌}
use contract.Lifetimes.{Lfts}
use Rattle.session.proofs.well_formed.Reads as well-formed
use Rattle.session.proofs.place_in.Reads as IsPlace-in
use Rattle.session.proofs.cells_in.Reads as cells_in
use Rattle.session.proofs.get_cells.Reads as get-cells
use Rattle.session.proofs.size_of.Reads as type_size
use Rattle.session.proofs.put_session.Reads as put-session

module _ (κs : Lfts 1) where
  pub well_formed_determined : (a : _) (r r' : _) (s s' : _) → well-formed.Post κs a r s → well-formed.Post κs a r' s' → r ≡ r'
  well_formed_determined a r r' s s' p q = p ∙ sym q

  pub place_in_determined : (a : _) (r r' : _) (s s' : _) → IsPlace-in.Post κs a r s → IsPlace-in.Post κs a r' s' → r ≡ r'
  place_in_determined a r r' s s' p q = p ∙ sym q

  pub cells_in_determined : (a : _) (r r' : _) (s s' : _) → cells_in.Post κs a r s → cells_in.Post κs a r' s' → r ≡ r'
  cells_in_determined a r r' s s' p q = p ∙ sym q

pub size_of_determined : (κs : Lfts 0) (a : _) (r r' : _) (s s' : _) → type_size.Post κs a r s → type_size.Post κs a r' s' → r ≡ r'
size_of_determined κs a r r' s s' p q = p ∙ sym q

module _ (κs : Lfts 2) where
  pub get_cells_determined : (a : _) (r r' : _) (s s' : _) → get-cells.Post κs a r s → get-cells.Post κs a r' s' → s.1.0.now ≡ s'.1.0.now
  get_cells_determined a r r' s s' p q = p ∙ sym q

  pub put_session_determined : (a : _) (r r' : _) (s s' : _) → put-session.Post κs a r s → put-session.Post κs a r' s' → (r ≡ r') × (s.1.1.0.now ≡ s'.1.1.0.now)
  put_session_determined a r r' s s' p q = (p.0 ∙ sym q.0, p.1 ∙ sym q.1)
