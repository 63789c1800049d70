-- For each public function: any two outcomes that its contract permits are equal. `Post κs a r s` is the contract
-- as the check reads it: of the arguments a, the answer r and what each argument holds afterwards, s.
-- Assumes nothing.
use mathlib.Core.Path.{◌≡◌, sym, ◌∙◌}
use contract.Lifetimes.{Lfts}
use Rattle.ways.proofs.MapCases.{maps_one}
use Rattle.ways.proofs.along.Reads as along
use Rattle.ways.proofs.gate.Reads as gate
use Rattle.ways.proofs.way_to.Reads as way-to
use Rattle.ways.proofs.label_of.Reads as label_of
use Rattle.ways.proofs.side_of.Reads as side-of
use Rattle.ways.proofs.map.map.Reads as map

module _ (κs : Lfts 1) where
  pub along_determined : (a : _) (r r' : _) (s s' : _) → along.Post κs a r s → along.Post κs a r' s' → r ≡ r'
  along_determined a r r' s s' p q = p ∙ sym q

  pub gate_determined : (a : _) (r r' : _) (s s' : _) → gate.Post κs a r s → gate.Post κs a r' s' → r ≡ r'
  gate_determined a r r' s s' p q = p ∙ sym q

module _ (κs : Lfts 0) where
  pub way_to_determined : (a : _) (r r' : _) (s s' : _) → way-to.Post κs a r s → way-to.Post κs a r' s' → r ≡ r'
  way_to_determined a r r' s s' p q = p ∙ sym q

  pub label_of_determined : (a : _) (r r' : _) (s s' : _) → label_of.Post κs a r s → label_of.Post κs a r' s' → r ≡ r'
  label_of_determined a r r' s s' p q = p ∙ sym q

  pub side_of_determined : (a : _) (r r' : _) (s s' : _) → side-of.Post κs a r s → side-of.Post κs a r' s' → r ≡ r'
  side_of_determined a r r' s s' p q = p ∙ sym q

pub map_determined : (κs : Lfts 2) (a : _) (r r' : _) (s s' : _) → map.Post κs a r s → map.Post κs a r' s' → r ≡ r'
map_determined κs a r r' s s' p q = maps_one a.0.now a.1.0.now a.1.1.0 r r' p q
